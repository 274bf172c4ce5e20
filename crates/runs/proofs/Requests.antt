-- When a request begins and ends. Assumes nothing.
use Prim.Native.Nat.{ℕ}
use mathlib.Core.Path.{◌≡◌, refl, sym, ap, subst, ◌∙◌}
use mathlib.Core.Bool.{Bool, true, false, cond, ◌&&◌, ◌||◌, not, and-true, and-false, or-false, false≢true}
use mathlib.Core.List.{List, [], ◌∷◌}
use lib.Dec.{eqb}
use Rattle.branches.proofs.Branches.{by_cond, and_right, cond_true, cond_false}
use Rattle.answers.specs.Refusals.{first_refusal}
use Rattle.frame.specs.Frame.{data_of}
use Rattle.store.specs.Ring.{full}
use Rattle.registers.specs.Table.{start_registers, start_of, row_in, table}
use Rattle.status.specs.declared.Conditions.{Conditions}
use Rattle.status.specs.Status.{both}
use Rattle.status.specs.Status as status
use Rattle.state.specs.declared.State.{State}
use Rattle.state.specs.declared.Notes.{Notes}
use Rattle.state.specs.Outcome.{Outcome}
use Rattle.std.specs.Prelude.{Option, Some, None}
use Rattle.state.specs.declared.Next.{Next}
use Rattle.state.specs.declared.Next.TheVariants as out
use Rattle.answers.specs.Answers.{Said, said, done, refused}
use Rattle.state.specs.Sizes.{start_state}
use Rattle.state.specs.Conditions.{settled, asking, enabled_by, conditions, break_state, key_state}
use Rattle.state.specs.Conditions as state-status
use Rattle.line.specs.HoldingOff.{is_go_or_stop, flowed, lost_state, stored_with, line_state, set_afresh, after_write, next_out, gone}
use Rattle.loopside.specs.LoopToLine.{added_state}
use Rattle.talker.specs.UnderWay.{talking}
use Rattle.loopside.specs.Sends.{send_from, send_status, ended}
use Rattle.loopside.specs.Frames.{passed, cleared, frame_taken, device_clear}
use Rattle.bridge.specs.Calls.{Call, on, create, reset, write, line_byte, line_break, key, ask_line_byte, take_line_byte}
use Rattle.bridge.specs.Calls.{loop_frame, show, World, Did, checks, outcome, settled_by, refused_or, step}
use Rattle.bridge.specs.Calls as calls
use Rattle.laws.specs.Observers.{taken, data_frame, asks_status, status_sent, restarts, clears, empties, any}
use Rattle.laws.specs.Worlds.{requested}
use Rattle.registers.specs.Bits.{bit}
use Rattle.laws.specs.Fitting.{Fits}
use Rattle.laws.specs.Requests.{comes, RequestsGo}
use Rattle.laws.specs.Requests as law
use Rattle.bridge.proofs.Steps.{no_comes, no_begins}
use Rattle.laws.proofs.Refusing.{by_refusal, fitting}
use Rattle.laws.proofs.Fitting.{state_good}
use Rattle.runs.proofs.Conditions.{empty_same, room_same, some_same, full_same}
use Rattle.runs.proofs.Answered.{status_frame}
use Rattle.runs.proofs.Refused.{frame_answers, frame_taken_lem}
use Rattle.runs.proofs.FrameKinds.{Kind, is_sent, is_status, is_back, is_cleared, is_kept, is_other, clears_all, send_notes, kind_of}
use Rattle.runs.proofs.Refusals.{or_refused, frame_fits}
use Rattle.runs.proofs.Alike.{same_either}
use Rattle.runs.proofs.Steps.{answer, after, ours}
use Rattle.machine.specs.Machine.{Obeys}

-- what a call did, with requests settled
abbrev Goes : Call → World → Did → Type 0
Goes c w d =
    d.world.state.notes.request ≡
    ((w.state.notes.request && not (any (status_sent c w d.said))) || status.begins (asking w.state) (asking d.world.state))

quiet : (c : Call) (w : World) (a : Said) (t : State) → t.notes.request ≡ (w.state.notes.request && not (any (status_sent c w a))) →
    (settled w.state t).notes.request ≡
    ((w.state.notes.request && not (any (status_sent c w a))) || status.begins (asking w.state) (asking (settled w.state t)))
unfolding settled asking conditions
quiet c w a t e = λ i. e i || status.begins (both (enabled_by w.state.regs) (conditions w.state)) (both (enabled_by t.regs) (conditions t))

still_goes : (c : Call) (w : World) (a : Said) → status_sent c w a ≡ [] → Goes c w (record { said = a; room = 0; world = w })
still_goes c w a e =
    sym (and-true w.state.notes.request) ∙ sym (or-false (w.state.notes.request && true))
    ∙ (λ i. (w.state.notes.request && not (any (sym e i))) || sym (no_begins (asking w.state)) i)

goes_or : (c : Call) (w : World) (n : ℕ) (d : Did) → status_sent c w (refused n) ≡ [] → (n ≡ 0 → empties c w d.said ≡ false → Goes c w d) →
    empties c w (refused_or n d w).said ≡ false → Goes c w (refused_or n d w)
goes_or c w n d e = or_refused (λ (x : Did). empties c w x.said ≡ false → Goes c w x) n d w (λ _. still_goes c w (refused n) e)

gone_kept : (s : State) (o : Option Next) → (gone s o).notes.request ≡ s.notes.request
unfolding gone
gone_kept s (Some (out.Own b)) = refl
gone_kept s (Some (out.Held b)) = refl
gone_kept s None = refl

line_kept : (s : State) (b : ℕ) → (line_state s b).notes.request ≡ s.notes.request
unfolding line_state flowed lost_state stored_with
line_kept s b = by_cond Same (is_go_or_stop s.regs b) _ _ (λ _. refl) (λ _. by_cond Same (full s.rx) _ _ (λ _. refl) (λ _. refl))
  where
    Same : State → Type 0
    Same t = t.notes.request ≡ s.notes.request

write_kept : (s : State) (n : ℕ) (t u : State) → t.notes.request ≡ s.notes.request → u.notes.request ≡ s.notes.request →
    (cond (eqb n 11) t u).notes.request ≡ s.notes.request
write_kept s n t u p q = by_cond (λ (x : State). x.notes.request ≡ s.notes.request) (eqb n 11) t u (λ _. p) (λ _. q)

-- ---- loop frames

module _ (s : State) (rx : List ℕ) (f : ℕ) where
  abbrev Request : Outcome → Type 0
  Request o = o.state.notes.request ≡ (s.notes.request && not (any (cond (asks_status s f) (data_frame (said o.answer)) [])))

  -- a frame that asks for no status byte
  stays : (o : Outcome) → asks_status s f ≡ false → o.state.notes.request ≡ s.notes.request → Request o
  stays o a e = e ∙ sym (and-true s.notes.request) ∙ (λ i. s.notes.request && not (any (cond (sym a i) (data_frame (said o.answer)) [])))

  request_kind : (o : Outcome) → Kind s rx f o → device_clear s f ≡ false → Request o
  unfolding send_status talking ended added_state state-status.after_status state-status.after_status_back
  request_kind o (is_sent m) n = stays (send_from s rx) m.status (ap (λ (x : Notes). x.request) (send_notes s rx f))
  request_kind o (is_status m) n =
      sym (and-false s.notes.request) ∙ (λ i. s.notes.request && not (any (cond (sym m.status i) (sym (status_frame s) i) [])))
  request_kind o (is_back m d) n = stays (ended (state-status.after_status_back s (data_of s.talker.under.frame)) 64) m.status refl
  request_kind o (is_cleared m c) n = absurd (false≢true (sym n ∙ m.clear))
  request_kind o (is_kept m d l) n = stays (passed (added_state s f) (state-status.serviced s f)) m.status refl
  request_kind o (is_other t k p m x) n = stays (passed t k) m.status (ap (λ (y : Notes). y.request) x.notes)

module _ (w : World) (f : ℕ) where
  frame_goes : empties (on (loop_frame f)) w (answer (on (loop_frame f)) w) ≡ false → Goes (on (loop_frame f)) w (step (on (loop_frame f)) w)
  unfolding step calls.not_refused outcome settled_by status_sent restarts clears
  frame_goes =
      goes_or (on (loop_frame f)) w (first_refusal (checks (on (loop_frame f)) w)) (calls.not_refused (on (loop_frame f)) w)
      (same_either (asks_status w.state f) [])
      (λ e q. go (kind_of f w (frame_fits f w e)) (not_clear q))
    where
      o : Outcome
      o = frame_taken w.state w.rx f

      not_clear : (taken (said (frame_taken w.state w.rx f).answer) && device_clear w.state f) ≡ false → device_clear w.state f ≡ false
      not_clear q = (λ i. sym (frame_taken_lem (said o.answer) (frame_answers w.state w.rx f)) i && device_clear w.state f) ∙ q

      go : Kind w.state w.rx f (frame_taken w.state w.rx f) → device_clear w.state f ≡ false →
          Goes (on (loop_frame f)) w (calls.not_refused (on (loop_frame f)) w)
      go k n =
          subst (λ (t : State). t.notes.request ≡
          ((w.state.notes.request && not (any (status_sent (on (loop_frame f)) w (said o.answer)))) || status.begins (asking w.state) (asking t)))
          (sym (cond_false (device_clear w.state f) o.state (settled w.state o.state) n))
          (quiet (on (loop_frame f)) w (said o.answer) o.state (request_kind w.state w.rx f o k n))

-- ---- every call

goes : (c : Call) (w : World) → empties c w (answer c w) ≡ false → Goes c w (step c w)
unfolding step calls.not_refused outcome settled_by said status_sent restarts break_state key_state after_write set_afresh clears
goes (create m) w = goes_or (create m) w _ _ refl (λ _ q. absurd (false≢true (sym q)))
goes (on reset) w = goes_or (on reset) w _ _ refl (λ _ q. absurd (false≢true (sym q)))
goes (on (write n v)) w =
    goes_or (on (write n v)) w _ _ refl
    (λ _ _. quiet (on (write n v)) w done _ (write_kept w.state n _ _ refl refl ∙ sym (and-true w.state.notes.request)))
goes (on (line_byte b)) w =
    goes_or (on (line_byte b)) w _ _ refl (λ _ _. quiet (on (line_byte b)) w done _ (line_kept w.state b ∙ sym (and-true w.state.notes.request)))
goes (on line_break) w = goes_or (on line_break) w _ _ refl (λ _ _. quiet (on line_break) w done _ (sym (and-true w.state.notes.request)))
goes (on key) w = goes_or (on key) w _ _ refl (λ _ _. quiet (on key) w done _ (sym (and-true w.state.notes.request)))
goes (on ask_line_byte) w = goes_or (on ask_line_byte) w _ _ refl (λ _ _. quiet (on ask_line_byte) w done _ (sym (and-true w.state.notes.request)))
goes (on (take_line_byte b)) w =
    goes_or (on (take_line_byte b)) w _ _ refl
    (λ _ _. quiet (on (take_line_byte b)) w done _ (gone_kept w.state (next_out w.state w.tx) ∙ sym (and-true w.state.notes.request)))
goes (on (loop_frame f)) w = frame_goes w f
goes (show side) w = goes_or (show side) w _ _ refl (λ _ _. still_goes (show side) w (calls.not_refused (show side) w).said refl)

-- ---- a create, reset or device clear

starts_or : (c : Call) (w : World) (n : ℕ) (d : Did) → empties c w (refused n) ≡ false →
    (n ≡ 0 → empties c w d.said ≡ true → d.world.state.notes.request ≡ false) →
    empties c w (refused_or n d w).said ≡ true → (refused_or n d w).world.state.notes.request ≡ false
starts_or c w n d e =
    or_refused (λ (x : Did). empties c w x.said ≡ true → x.world.state.notes.request ≡ false) n d w (λ q. absurd (false≢true (sym e ∙ q)))

reset_none : (s t : State) → t.regs ≡ start_registers → t.notes.request ≡ false → (settled s t).notes.request ≡ false
unfolding settled asking enabled_by start_registers start_of row_in table
reset_none s t e q = λ i. q i || status.begins (asking s) (both (enabled_by (e i)) (conditions t))

starts : (c : Call) (w : World) → empties c w (answer c w) ≡ true → requested (after c w) ≡ false
unfolding step calls.not_refused outcome settled_by said restarts clears start_state cleared
starts (create m) w = starts_or (create m) w _ _ refl (λ _ _. refl)
starts (on reset) w = starts_or (on reset) w _ _ refl (λ _ _. reset_none w.state (start_state w.state.margin _ _) refl refl)
starts (on (write n v)) w = λ q. absurd (false≢true q)
starts (on (line_byte b)) w = λ q. absurd (false≢true q)
starts (on line_break) w = λ q. absurd (false≢true q)
starts (on key) w = λ q. absurd (false≢true q)
starts (on ask_line_byte) w = λ q. absurd (false≢true q)
starts (on (take_line_byte b)) w = λ q. absurd (false≢true q)
starts (on (loop_frame f)) w =
    starts_or (on (loop_frame f)) w _ _ refl
    (λ e q.
    let n : device_clear w.state f ≡ true = and_right (taken (said (frame_taken w.state w.rx f).answer)) _ q in
    ap (λ (t : State). t.notes.request)
    (cond_true (device_clear w.state f) (frame_taken w.state w.rx f).state (settled w.state (frame_taken w.state w.rx f).state) n)
    ∙ ap (λ (o : Outcome). o.state.notes.request) (clears_all w.state w.rx f _ (kind_of f w (frame_fits f w e)) n))
starts (show side) w = λ q. absurd (false≢true q)

-- ---- the conditions as a list

abbrev asks : Conditions → List Bool
asks c = c.txempty ∷ c.txnotfull ∷ c.rxnotempty ∷ c.rxfull ∷ c.brk ∷ c.overrun ∷ c.key ∷ []

or_seven : (a b c d e f g : Bool) → (a || (b || (c || (d || (e || (f || (g || false))))))) ≡ ((((((a || b) || c) || d) || e) || f) || g)
or_seven true b c d e f g = refl
or_seven false true c d e f g = refl
or_seven false false true d e f g = refl
or_seven false false false true e f g = refl
or_seven false false false false true f g = refl
or_seven false false false false false true g = refl
or_seven false false false false false false g = or-false g

comes_so : (b a : Conditions) → comes (asks b) (asks a) ≡ status.begins b a
unfolding comes
comes_so b a =
    or_seven (status.comes b.txempty a.txempty) (status.comes b.txnotfull a.txnotfull) (status.comes b.rxnotempty a.rxnotempty)
    (status.comes b.rxfull a.rxfull)
    (status.comes b.brk a.brk) (status.comes b.overrun a.overrun) (status.comes b.key a.key)

asks_so : (w : World) → Fits w → law.asking w ≡ asks (asking w.state)
unfolding asking enabled_by conditions
asks_so w F =
    let g = w.state.regs in
    λ i. (bit 0 g.r01 && sym (empty_same w F) i) ∷ (bit 1 g.r01 && sym (room_same w F) i) ∷ (bit 2 g.r01 && sym (some_same w F) i) ∷
    (bit 3 g.r01 && sym (full_same w F) i)
    ∷ (bit 0 g.r02 && w.state.notes.seen.brk) ∷ (bit 0 g.r00 && w.state.notes.seen.overrun) ∷ (bit 2 g.r02 && w.state.notes.seen.key) ∷ []

comes_none : (xs : List Bool) → comes xs xs ≡ false
unfolding comes
comes_none [] = refl
comes_none (x ∷ xs) = λ i. no_comes x i || comes_none xs i

-- what comes to hold is the same by the list, in a call that is no create
same_comes : (c : Call) (w : World) → empties c w (answer c w) ≡ false →
    comes (law.asking w) (law.asking (after c w)) ≡ status.begins (asking w.state) (asking (after c w).state)
unfolding restarts calls.not_refused said
same_comes c w =
    by_refusal (λ (d : Did). empties c w d.said ≡ false →
    comes (law.asking w) (law.asking d.world) ≡ status.begins (asking w.state) (asking d.world.state)) c w
    (go c) (λ _ _. comes_none (law.asking w) ∙ sym (no_begins (asking w.state)))
  where
    go : (c : Call) → first_refusal (checks c w) ≡ 0 → empties c w (calls.not_refused c w).said ≡ false →
        comes (law.asking w) (law.asking (calls.not_refused c w).world) ≡ status.begins (asking w.state) (asking (calls.not_refused c w).world.state)
    go (create m) e q = absurd (false≢true (sym q))
    go (show side) e q = comes_none (law.asking w) ∙ sym (no_begins (asking w.state))
    go (on c) e q =
        let F : Fits w = (fitting c w e).0 in
        let G : Fits (calls.not_refused (on c) w).world = state_good w F c e in
        (λ i. comes (asks_so w F i) (asks_so (calls.not_refused (on c) w).world G i)) ∙
        comes_so (asking w.state) (asking (calls.not_refused (on c) w).world.state)

pub requests_go : Obeys ours RequestsGo
requests_go c w _ =
    record {
      starts = starts c w;
      goes = λ q. goes c w q ∙ ap (λ (t : Bool). (requested w && not (any (status_sent c w (answer c w)))) || t) (sym (same_comes c w q));
    }
