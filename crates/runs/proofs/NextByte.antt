-- The next line byte: what is asked for, what is taken, and our own character when it is owed. Assumes nothing.
use native.Mathlib.Omega.{arith}
use Prim.Native.Nat.{ℕ}
use mathlib.Core.Path.{◌≡◌, refl, sym, ap, subst, ◌∙◌}
use mathlib.Core.Bool.{Bool, true, false, cond, ◌||◌, false≢true}
use mathlib.Core.List.{List, [], ◌∷◌}
use lib.Dec.{eqb}
use lib.ListN.{length, get_or}
use borrow.Author.Tests.{ne_eqb}
use Rattle.branches.proofs.Branches.{cond_true, and_right}
use Rattle.registers.specs.Meanings.{go, stop}
use Rattle.store.specs.Ring.{held}
use Rattle.store.proofs.Laws.{held_length}
use Rattle.std.specs.Prelude.{Some, None}
use Rattle.state.specs.declared.Next.TheVariants.{Own, Held}
use Rattle.answers.specs.Answers.{said, done, none, byte, refused, byte_in}
use Rattle.state.proofs.Fits.{tx_fits}
use Rattle.line.specs.HoldingOff.{owed, next_out, is_next, out_answer}
use Rattle.bridge.specs.Calls.{reset, ask_line_byte, take_line_byte, Call, create, show, on, is, next_of, World, Did, outcome, not_refused, refusal}
use Rattle.bridge.proofs.Asks.{fitted, ask_is, take_is, named, not_named}
use Rattle.laws.specs.LastSent.{recorded, OwnDue, OwnNext}
use Rattle.laws.proofs.Refusing.{by_refusal, taken_fits}
use Rattle.laws.proofs.Fitting.{keeps_fit, create_makes_fit}
use Rattle.machine.proofs.Course.{left_stands}
use Rattle.laws.specs.NextByte.{oldest_of, next_byte, AskedRight, NextAsked, TakenRight, TakesNext}
use Rattle.runs.proofs.Shapes.{Fits}
use Rattle.runs.proofs.LastSent.{last_since}
use Rattle.runs.proofs.Steps.{after, ours, answer, at_call}
use Rattle.machine.specs.Machine.{Obeys, finally}
use Rattle.laws.specs.Observers.{taken, owes, own_character, restarts, starts_anew}

-- ---- what is next

module _ (w : World) (F : Fits w) where
  -- by whether our own character is owed and our sending forbidden, and what is held
  pub next_is : said (out_answer (next_of w)) ≡ next_byte w
  unfolding next_out out_answer said next_byte
  next_is = by_tests (owed w.state.line) w.state.line.forbidden (held w.tx w.state.tx)
      (held_length w.tx w.state.tx (tx_fits w.state w.rx w.tx F).ring)
    where
      own : ℕ
      own = cond w.state.line.holding (stop w.state.regs) (go w.state.regs)

      by_tests : (t u : Bool) (l : List ℕ) → length l ≡ w.state.tx.len →
          said (out_answer (cond t (Some (Own own)) (cond (u || eqb w.state.tx.len 0) None (Some (Held (get_or l 0 0)))))) ≡
          cond t (byte own) (cond u none (oldest_of l))
      by_tests true u l e = refl
      by_tests false true l e = refl
      by_tests false false [] e = rw (sym e)
      by_tests false false (b ∷ l) e = rw (ne_eqb w.state.tx.len 0 (λ h. omega (arith, e)))

-- ---- asks

pub next_asked : Obeys ours NextAsked
next_asked c w B =
    at_call (λ c. AskedRight (record { call = c; before = w; answer = answer c w; after = after c w })) (on ask_line_byte)
    (subst (λ (d : Did). AskedRight (record { call = on ask_line_byte; before = w; answer = d.said; after = d.world })) (sym (ask_is w)) (go (fitted w) refl))
    c
  where
    go : (t : Bool) → fitted w ≡ t →
        AskedRight (record { call = on ask_line_byte; before = w; answer = cond t (said (out_answer (next_of w))) (refused 2); after = w })
    go true F = record { fit = λ _. next_is w F; misfit = λ h. absurd (h F) }
    go false F = record { fit = λ G. absurd (false≢true (sym F ∙ G)); misfit = λ _. refl }

-- ---- takes

module _ (b : ℕ) (w : World) where
  abbrev Right : Did → Type 0
  Right d = TakenRight (record { call = on (take_line_byte b); before = w; answer = d.said; after = d.world }) b

  right : (t u : Bool) → fitted w ≡ t → is_next (next_of w) b ≡ u → Right (cond t (cond u (not_refused (on (take_line_byte b)) w) (refusal 12 w)) (refusal 2 w))
  unfolding not_refused outcome said
  right true true F e =
      let n : next_byte w ≡ byte b = sym (next_is w F) ∙ named (next_of w) b e in
      record { next = λ _ _. refl; other = λ _ h. absurd (h n); stays = λ h. absurd (h n); misfit = λ h. absurd (h F) }
  right true false F e =
      record {
        next = λ _ n. absurd (not_named (next_of w) b e (next_is w F ∙ n));
        other = λ _ _. refl;
        stays = λ _. refl;
        misfit = λ h. absurd (h F);
      }
  right false u F e =
      record {
        next = λ G _. absurd (false≢true (sym F ∙ G));
        other = λ G _. absurd (false≢true (sym F ∙ G));
        stays = λ _. refl;
        misfit = λ _. refl;
      }

pub takes_next : Obeys ours TakesNext
takes_next c w B b =
    at_call (λ c. TakenRight (record { call = c; before = w; answer = answer c w; after = after c w }) b) (on (take_line_byte b))
    (subst (Right b w) (sym (take_is b w)) (right b w (fitted w) (is_next (next_of w) b) refl refl)) c

-- ---- our own character

-- a create or reset leaves a state that fits, and so does every run after it
anew_fits : (c : Call) (w : World) → starts_anew c w (answer c w) ≡ true → Fits (after c w)
unfolding restarts not_refused said
anew_fits (create m) w e =
    create_makes_fit (create m) w tt m refl
    (by_refusal (λ (d : Did). taken d.said ≡ true → d.said ≡ done) (create m) w (λ _ _. refl) (λ _ h. absurd (false≢true h)) e)
anew_fits (show side) w e = absurd (false≢true e)
anew_fits (on c) w e = keeps_fit (on c) w tt (taken_fits c w (and_right (is reset c) (taken (answer (on c) w)) e))

run_fits : (cs : List Call) (w : World) → Fits w → Fits (finally ours cs w)
unfolding finally
run_fits [] w F = F
run_fits (c ∷ cs) w F = run_fits cs (after c w) (keeps_fit c w tt F)

module _ (v : World) (F : Fits v) (n : next_byte v ≡ byte (own_character v)) where
  own_due : (d : Call) → OwnDue (record { call = d; before = v; answer = answer d v; after = after d v })
  unfolding byte_in
  own_due d =
      record {
        asked = λ e. (next_asked d v tt e).fit F ∙ n;
        own = λ b e q. (takes_next d v tt b e).next F (n ∙ ap byte (sym q));
        other = λ b e h. (takes_next d v tt b e).other F (λ x. h (ap byte_in (sym x ∙ n)));
      }

pub own_next : Obeys ours OwnNext
unfolding next_byte
own_next c cs d w B j k b m o =
    own_due v (run_fits cs (after c w) (anew_fits c w b))
    (cond_true _ _ _ (ap (λ (x : Bool). owes x v) (ap recorded (left_stands ours cs (after c w)) ∙ last_since c cs w B j k b m) ∙ o)) d
  where
    v : World
    v = finally ours cs (after c w)
