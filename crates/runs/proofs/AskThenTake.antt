-- An ask and the take after it are one with what giving was. Assumes nothing.
use native.Mathlib.Omega.{arith}
use Prim.Native.Nat.{ℕ, ◌+◌, ◌-◌}
use mathlib.Core.Path.{◌≡◌, refl, sym, ap, subst, ◌∙◌}
use mathlib.Core.Bool.{Bool, true, false, cond, ◌&&◌, ◌||◌, not, and-true, false≢true}
use mathlib.Core.List.{List, [], ◌∷◌}
use lib.Dec.{eqb}
use lib.ListN.{get_or}
use borrow.Author.Tests.{eqb-true, eqb-false}
use Rattle.registers.specs.Meanings.{go, stop}
use Rattle.store.specs.declared.Ring.{Ring}
use Rattle.store.specs.Ring.{Within, held, wrap, drop_ring}
use Rattle.store.proofs.Laws.{wrap_low, wrap_high}
use Rattle.std.specs.Prelude.{Option, Some, None}
use Rattle.state.specs.declared.Next.{Next}
use Rattle.state.specs.declared.Next.TheVariants.{Own, Held}
use Rattle.state.specs.State.{with_tx}
use Rattle.state.specs.Conditions.{with_request, settled}
use Rattle.answers.specs.Answers.{Said, said, done, byte, refused, is_byte, fault_of}
use Rattle.state.proofs.Fits.{tx_fits}
use Rattle.line.specs.HoldingOff.{owed, next_out, is_next, gone, out_answer}
use Rattle.bridge.specs.Calls.{on, ask_line_byte, take_line_byte, show, create, Call, next_of, World, Did, checks, outcome, settled_by}
use Rattle.bridge.specs.Calls.{rx_after, tx_after, not_refused, refusal, refused_or, step}
use Rattle.bridge.proofs.Asks.{fitted, ask_is, take_is, take_fits, named, not_named, ask_leaves, asked_next}
use Rattle.laws.specs.Observers.{taken, asks_line_byte, restarts, clears, status_sent}
use Rattle.laws.proofs.AsksLeftOut.{at_ask, left_out}
use Rattle.laws.specs.Worlds.{requested}
use Rattle.laws.specs.Requests.{asking, comes}
use Rattle.laws.specs.AskThenTake.{AskLooks, acts, AsksAlike, AsAsked, TakesAsAsked, one_fewer, own_gone, given_state, Gave, GoneAsGiven, AskThenTake}
use Rattle.runs.specs.Obeyed.{ours_telling, OursLeavesAsksOut}
use Rattle.runs.proofs.Shapes.{Fits}
use Rattle.runs.proofs.Runs.{first_not}
use Rattle.runs.proofs.Requests.{requests_go}
use Rattle.runs.proofs.Refused.{out_taken, refused_stays}
use Rattle.runs.proofs.NextByte.{next_is}
use Rattle.runs.proofs.Steps.{after, ours, answer, Without, at_call}
use Rattle.machine.specs.Machine.{Obeys, finally}

-- ---- calls that only look

-- a run goes as it goes without its asks, the room told included
pub asks_left_out : OursLeavesAsksOut
asks_left_out = left_out ours_telling ask_leaves

pub ask_looks : Obeys ours AskLooks
ask_looks c w B = at_call (λ c. after c w ≡ w) (on ask_line_byte) (ask_leaves w) c

look_leaves : (c : Call) (w : World) → acts c w (answer c w) ≡ false → after c w ≡ w
unfolding step refused_or checks not_refused
look_leaves (create m) w e = refused_stays (create m) w tt e
look_leaves (show side) w e = refl
look_leaves (on c) w e = by_kind (asks_line_byte (on c)) refl
  where
    by_kind : (t : Bool) → asks_line_byte (on c) ≡ t → after (on c) w ≡ w
    by_kind true q = at_ask (λ c. after c w ≡ w) (ask_leaves w) (on c) q
    by_kind false q = refused_stays (on c) w tt (sym (and-true (taken (answer (on c) w))) ∙ (λ i. taken (answer (on c) w) && not (sym q i)) ∙ e)

-- a run of them leaves the world as it was
looks_leave : (cs : List Call) (w : World) → Without acts cs w → finally ours cs w ≡ w
unfolding finally
looks_leave [] w n = refl
looks_leave (c ∷ cs) w n =
    let m = first_not acts c cs w n in
    looks_leave cs (after c w) m.1 ∙ look_leaves c w m.0

-- ---- an ask, such a run, and a call

-- what holds of an ask and a call in one world
between : (P : Said → Call → World → Type 0) (cs : List Call) (d : Call) (w : World) → P (answer (on ask_line_byte) w) d w →
    Without acts cs (after (on ask_line_byte) w) → P (answer (on ask_line_byte) w) d (finally ours cs (after (on ask_line_byte) w))
between P cs d w p n = subst (P (answer (on ask_line_byte) w) d) (sym (looks_leave cs (after (on ask_line_byte) w) n ∙ ask_leaves w)) p

pub asks_alike : Obeys ours AsksAlike
asks_alike c cs d w B j k =
    at_call (λ c. Without acts cs (after c w) → d ≡ on ask_line_byte → answer d (finally ours cs (after c w)) ≡ answer c w) (on ask_line_byte)
    (λ n. at_call (λ d. answer d (finally ours cs (after (on ask_line_byte) w)) ≡ answer (on ask_line_byte) w) (on ask_line_byte)
    (between (λ a d v. answer d v ≡ a) cs (on ask_line_byte) w refl n) d)
    c

-- ---- what take accepts is what ask says

module _ (b : ℕ) (w : World) where
  abbrev Asked : Said → Did → Type 0
  Asked a d = AsAsked a b (record { call = on (take_line_byte b); before = w; answer = d.said; after = d.world })

  as_asked : (t u : Bool) → is_next (next_of w) b ≡ u →
      Asked (cond t (said (out_answer (next_of w))) (refused 2)) (cond t (cond u (not_refused (on (take_line_byte b)) w) (refusal 12 w)) (refusal 2 w))
  unfolding not_refused outcome said is_byte
  as_asked true true e =
      let n : said (out_answer (next_of w)) ≡ byte b = named (next_of w) b e in
      record {
        same = λ _. refl;
        alike = λ q. absurd (false≢true (sym q ∙ ap taken n));
        other = λ _ h. absurd (h n);
        stays = λ h. absurd (h n);
      }
  as_asked true false e =
      record {
        same = λ q. absurd (not_named (next_of w) b e q);
        alike = λ q. absurd (false≢true (sym q ∙ out_taken (next_of w)));
        other = λ _ _. refl;
        stays = λ _. refl;
      }
  as_asked false u e =
      record { same = λ q. absurd (false≢true (ap is_byte q)); alike = λ _. refl; other = λ q _. absurd (false≢true q); stays = λ _. refl }

  -- in one world
  taken_as_asked : Asked (answer (on ask_line_byte) w) (step (on (take_line_byte b)) w)
  taken_as_asked =
      subst (λ (x : Did). Asked x.said (step (on (take_line_byte b)) w)) (sym (ask_is w))
      (subst (Asked (cond (fitted w) (said (out_answer (next_of w))) (refused 2))) (sym (take_is b w)) (as_asked (fitted w) (is_next (next_of w) b) refl))

abbrev AsAskedAt : ℕ → Said → Call → World → Type 0
AsAskedAt b a d v = AsAsked a b (record { call = d; before = v; answer = answer d v; after = after d v })

pub takes_as_asked : Obeys ours TakesAsAsked
takes_as_asked c cs d w B j k b =
    at_call (λ c. Without acts cs (after c w) → d ≡ on (take_line_byte b) → AsAskedAt b (answer c w) d (finally ours cs (after c w))) (on ask_line_byte)
    (λ n. at_call (λ d. AsAskedAt b (answer (on ask_line_byte) w) d (finally ours cs (after (on ask_line_byte) w))) (on (take_line_byte b))
    (between (AsAskedAt b) cs (on (take_line_byte b)) w (taken_as_asked b w) n) d)
    c

-- ---- what giving was

-- a place behind the last is the first
wrapped : (r : Ring) → Within r → drop_ring r 1 ≡ one_fewer r
unfolding drop_ring
wrapped r h = ap (λ (n : ℕ). record { cap = r.cap; oldest = n; len = r.len - 1 }) (go (eqb (r.oldest + 1) r.cap) refl)
  where
    go : (t : Bool) → eqb (r.oldest + 1) r.cap ≡ t → wrap r.cap (r.oldest + 1) ≡ cond t 0 (r.oldest + 1)
    go true e = let q : r.oldest + 1 ≡ r.cap = eqb-true _ _ e in wrap_high r.cap (r.oldest + 1) (omega (arith, q)) ∙ omega (arith, q)
    go false e = wrap_low r.cap (r.oldest + 1) (omega (arith, eqb-false (r.oldest + 1) r.cap e, h.oldest))

module _ (w : World) (F : Fits w) (b : ℕ) where
  -- the state before requests
  gone_given : is_next (next_of w) b ≡ true → gone w.state (next_of w) ≡ given_state w
  unfolding next_out is_next gone given_state
  gone_given n = by_tests (owed w.state.line) (w.state.line.forbidden || eqb w.state.tx.len 0) n
    where
      out : Bool → Bool → Option Next
      out t u = cond t (Some (Own (cond w.state.line.holding (stop w.state.regs) (go w.state.regs))))
          (cond u None (Some (Held (get_or (held w.tx w.state.tx) 0 0))))

      by_tests : (t u : Bool) → is_next (out t u) b ≡ true →
          gone w.state (out t u) ≡ cond t (own_gone w.state) (with_tx w.state (one_fewer w.state.tx))
      by_tests true u n = refl
      by_tests false true n = absurd (false≢true n)
      by_tests false false n = ap (with_tx w.state) (wrapped w.state.tx (tx_fits w.state w.rx w.tx F).ring.within)

  -- the world that a take leaves
  module _ (n : is_next (next_of w) b ≡ true) where
    left : step (on (take_line_byte b)) w ≡ not_refused (on (take_line_byte b)) w
    left = take_fits b w F n

    request : requested (after (on (take_line_byte b)) w) ≡ (requested w || comes (asking w) (asking (after (on (take_line_byte b)) w)))
    unfolding restarts clears status_sent
    request =
        (requests_go (on (take_line_byte b)) w tt).goes refl ∙
        (λ i. and-true (requested w) i || comes (asking w) (asking (after (on (take_line_byte b)) w)))

    gave : Gave w b (after (on (take_line_byte b)) w)
    unfolding not_refused outcome settled_by settled rx_after tx_after
    gave =
        record {
          next = sym (next_is w F) ∙ named (next_of w) b n;
          state =
              ap (λ (d : Did). d.world.state) left
              ∙ (λ i. with_request (gone_given n i) (sym left i).world.state.notes.request)
              ∙ ap (with_request (given_state w)) request;
          rx = ap (λ (d : Did). d.world.rx) left;
          tx = ap (λ (d : Did). d.world.tx) left;
        }

-- a take is done only where the state fits and the byte is next
done_next : (b : ℕ) (w : World) → answer (on (take_line_byte b)) w ≡ done → Fits w × (is_next (next_of w) b ≡ true)
unfolding fault_of
done_next b w q = go (fitted w) (is_next (next_of w) b) (ap (λ (d : Did). fault_of d.said) (sym (take_is b w)) ∙ ap fault_of q)
  where
    go : (t u : Bool) → fault_of (cond t (cond u (not_refused (on (take_line_byte b)) w) (refusal 12 w)) (refusal 2 w)).said ≡ 0 → (t ≡ true) × (u ≡ true)
    go true true z = (refl, refl)
    go true false z = absurd (omega (arith, z))
    go false u z = absurd (omega (arith, z))

pub gone_as_given : Obeys ours GoneAsGiven
gone_as_given c w B b =
    at_call (λ c. answer c w ≡ done → Gave w b (after c w)) (on (take_line_byte b)) (λ q. let x = done_next b w q in gave w x.0 b x.1) c

pub ask_then_take : Obeys ours AskThenTake
ask_then_take c cs d w B j k b =
    at_call (λ c. Without acts cs (after c w) → d ≡ on (take_line_byte b) → GaveAt (answer c w) d (finally ours cs (after c w))) (on ask_line_byte)
    (λ n. at_call (λ d. GaveAt (answer (on ask_line_byte) w) d (finally ours cs (after (on ask_line_byte) w))) (on (take_line_byte b))
    (between GaveAt cs (on (take_line_byte b)) w (λ q. let x = asked_next b w q in gave w x.0 b x.1) n) d)
    c
  where
    GaveAt : Said → Call → World → Type 0
    GaveAt a d v = a ≡ byte b → Gave w b (after d v)
