-- Bits 4, 5 and 7: when they are set and when they clear. Assumes nothing.
use Prim.Native.Nat.{ℕ}
use mathlib.Core.Path.{◌≡◌, refl, sym, ap, ◌∙◌}
use mathlib.Core.Bool.{Bool, true, false, cond, ◌||◌, not, false≢true}
use mathlib.Core.Logic.{◌⊎◌, inl, inr, ⊎_elim}
use mathlib.Core.List.{List, [], ◌∷◌}
use lib.Dec.{eqb}
use Rattle.branches.proofs.Branches.{by_cond}
use Rattle.frame.specs.Frame.{stripped}
use Rattle.store.specs.Ring.{full}
use Rattle.state.specs.declared.State.{State}
use Rattle.answers.specs.Answers.{Said, said, refused}
use Rattle.state.specs.Conditions.{settled, break_state, key_state}
use Rattle.line.specs.HoldingOff.{is_go_or_stop, flowed, lost_state, stored_state, line_state}
use Rattle.bridge.specs.Calls.{Call, on, create, reset, write, line_byte, line_break, key, ask_line_byte, take_line_byte}
use Rattle.bridge.specs.Calls.{loop_frame, show, World, Did, outcome, settled_by, refused_or, step, refusal}
use Rattle.bridge.specs.Calls as calls
use Rattle.laws.specs.Observers.{is_flow, arrived, lost, empties, any}
use Rattle.laws.specs.StatusWay.{ends_way, newest, under_way, status_back}
use Rattle.laws.specs.Events.{Event, broken, overrun, pressed, happens, Stays, noted}
use Rattle.laws.specs.Demands.{OverrunStays}
use Rattle.runs.proofs.StatusView.{Part, part, Kind, goes_on, idles, sends, returns, begins, kind}
use Rattle.runs.proofs.Runs.{first_not}
use Rattle.runs.proofs.Steps.{answer, after, end, Without, comes_back, ours}
use Rattle.laws.specs.StatusWay as way
use Rattle.machine.specs.Machine as machine
use Rattle.machine.specs.Course as course
use Rattle.machine.specs.Machine.{Obeys}

module _ (e : Event) where
  -- it is noted; and a status byte under way since it happened is the one that was sent
  record Told (p : Part) (l : List ℕ) : Type 0 where
    note : noted e p.seen ≡ true
    way : noted e p.again ≡ false → eqb p.talker 3 ≡ true → l ≡ stripped p.frame ∷ []

  told : (c : Call) (w : World) (a : Said) (p : Part) (l : List ℕ) → Kind c w a p → empties c w a ≡ false → status_back l c a ≡ false →
      Told (part w.state) l → Told p (under_way l c w a)
  unfolding under_way
  told c w a p l (goes_on q n k) m b t =
      record {
        note = k.seen e t.note;
        way = λ h g. (λ i. newest (q i) (cond (n i) [] l)) ∙ t.way (not_again h) (ap (λ (x : ℕ). eqb x 3) (sym k.talker) ∙ g) ∙
            ap (λ (x : ℕ). stripped x ∷ []) (sym k.frame);
      }
    where
      not_again : noted e p.again ≡ false → noted e w.state.notes.again ≡ false
      not_again h = go (noted e w.state.notes.again) refl
        where
          go : (x : Bool) → noted e w.state.notes.again ≡ x → x ≡ false
          go true y = absurd (false≢true (sym h ∙ k.again e y))
          go false y = refl
  told c w a p l (idles n k) m b t = record { note = k e t.note; way = λ _ h. absurd (false≢true (sym n ∙ h)) }
  told c w a p l (sends q k) m b t = record { note = k e t.note; way = λ _ _. λ i. newest (q i) (cond (ends_way c a) [] l) }
  told c w a p l (returns i q n k) m b t = record { note = go (noted e w.state.notes.again) refl; way = λ _ h. absurd (false≢true (sym n ∙ h)) }
    where
      go : (x : Bool) → noted e w.state.notes.again ≡ x → noted e p.seen ≡ true
      go true y = k e t.note y
      go false y = absurd (false≢true (sym b ∙ ap (λ x. status_back x c a) (t.way y i) ∙ q))
  told c w a p l (begins q) m b t = absurd (false≢true (sym m ∙ q))

  -- ---- it happens

  abbrev Noted : Part → Type 0
  Noted p = (noted e p.seen ≡ true) × (noted e p.again ≡ true)

-- where no byte arrives, none is lost
none_lost : (t : Bool) → any (cond t [] []) ≡ true → ⊥
none_lost true h = false≢true h
none_lost false h = false≢true h

-- a refused call is no event
unless_refused : (e : Event) (c : Call) (w : World) (n : ℕ) (d : Did) → (happens e c w (refused n) ≡ true → ⊥) →
    (happens e c w d.said ≡ true → Noted e (part d.world.state)) →
    happens e c w (refused_or n d w).said ≡ true → Noted e (part (refused_or n d w).world.state)
unfolding refused_or
unless_refused e c w n d r k =
    by_cond (λ (x : Did). happens e c w x.said ≡ true → Noted e (part x.world.state)) (eqb n 0) d (refusal n w)
    (λ _. k)
    (λ _ h. absurd (r h))

line_lost : (s : State) (b : ℕ) (t u : Bool) → any (cond u (cond (not t) (b ∷ []) []) []) ≡ true →
    Noted overrun (part (cond t (flowed s b) (cond u (lost_state s) (stored_state s))))
unfolding lost_state
line_lost s b true true h = absurd (false≢true h)
line_lost s b true false h = absurd (false≢true h)
line_lost s b false true h = (refl, refl)
line_lost s b false false h = absurd (false≢true h)

happened : (e : Event) (c : Call) (w : World) → happens e c w (answer c w) ≡ true → Noted e (part (after c w).state)
unfolding step calls.not_refused outcome settled_by settled said arrived is_flow is_go_or_stop lost line_state break_state key_state
happened broken (create m) w h = absurd (false≢true h)
happened broken (on reset) w h = absurd (false≢true h)
happened broken (on (write n v)) w h = absurd (false≢true h)
happened broken (on (line_byte b)) w h = absurd (false≢true h)
happened broken (on line_break) w h = unless_refused broken (on line_break) w _ _ false≢true (λ _. (refl, refl)) h
happened broken (on key) w h = absurd (false≢true h)
happened broken (on ask_line_byte) w h = absurd (false≢true h)
happened broken (on (take_line_byte b)) w h = absurd (false≢true h)
happened broken (on (loop_frame f)) w h = absurd (false≢true h)
happened broken (show side) w h = absurd (false≢true h)
happened overrun (create m) w h = absurd (none_lost (full w.state.rx) h)
happened overrun (on reset) w h = absurd (none_lost (full w.state.rx) h)
happened overrun (on (write n v)) w h = absurd (none_lost (full w.state.rx) h)
happened overrun (on (line_byte b)) w h =
    unless_refused overrun (on (line_byte b)) w _ _ (none_lost (full w.state.rx))
    (line_lost w.state b (is_go_or_stop w.state.regs b) (full w.state.rx))
    h
happened overrun (on line_break) w h = absurd (none_lost (full w.state.rx) h)
happened overrun (on key) w h = absurd (none_lost (full w.state.rx) h)
happened overrun (on ask_line_byte) w h = absurd (none_lost (full w.state.rx) h)
happened overrun (on (take_line_byte b)) w h = absurd (none_lost (full w.state.rx) h)
happened overrun (on (loop_frame f)) w h = absurd (none_lost (full w.state.rx) h)
happened overrun (show side) w h = absurd (none_lost (full w.state.rx) h)
happened pressed (create m) w h = absurd (false≢true h)
happened pressed (on reset) w h = absurd (false≢true h)
happened pressed (on (write n v)) w h = absurd (false≢true h)
happened pressed (on (line_byte b)) w h = absurd (false≢true h)
happened pressed (on line_break) w h = absurd (false≢true h)
happened pressed (on key) w h = unless_refused pressed (on key) w _ _ false≢true (λ _. (refl, refl)) h
happened pressed (on ask_line_byte) w h = absurd (false≢true h)
happened pressed (on (take_line_byte b)) w h = absurd (false≢true h)
happened pressed (on (loop_frame f)) w h = absurd (false≢true h)
happened pressed (show side) w h = absurd (false≢true h)

-- ---- runs

module _ (e : Event) where
  until : (cs : List Call) (w : World) (l : List ℕ) → Without empties cs w → Told e (part w.state) l →
      (noted e (end cs w).state.notes.seen ≡ true) ⊎ (comes_back l cs w ≡ true)
  unfolding course.end way.comes_back machine.course
  until [] w l n t = inl t.note
  until (c ∷ cs) w l n t =
      go (until cs (after c w) (under_way l c w (answer c w)) m.1) (status_back l c (answer c w))
      (λ b. told e c w (answer c w) (part (after c w).state) l (kind c w) m.0 b t)
    where
      m : (empties c w (answer c w) ≡ false) × Without empties cs (after c w)
      m = first_not empties c cs w n

      go : (Told e (part (after c w).state) (under_way l c w (answer c w)) →
          (noted e (end cs (after c w)).state.notes.seen ≡ true) ⊎ (comes_back (under_way l c w (answer c w)) cs (after c w) ≡ true)) →
          (x : Bool) → (x ≡ false → Told e (part (after c w).state) (under_way l c w (answer c w))) →
          (noted e (end cs (after c w)).state.notes.seen ≡ true) ⊎ ((x || comes_back (under_way l c w (answer c w)) cs (after c w)) ≡ true)
      go ih true k = inr refl
      go ih false k = ih (k refl)

pub events_stay : (e : Event) → Obeys ours (Stays e)
events_stay e c cs w B j k h n =
    let x : Noted e (part (after c w).state) = happened e c w h in
    ⊎_elim inl inr
    (until e cs (after c w) [] n (record { note = x.0; way = λ q _. absurd (false≢true (sym q ∙ x.1)) }))

-- (3b)
pub overrun_stays : Obeys ours OverrunStays
overrun_stays = events_stay overrun
