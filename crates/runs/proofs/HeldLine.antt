-- No rule changes under a held line. Assumes nothing.
use Prim.Native.Nat.{ℕ}
use native.Mathlib.Omega.{arith}
use mathlib.Core.Path.{◌≡◌, refl, sym, ap, ◌∙◌}
use mathlib.Core.Bool.{Bool, true, false, ◌&&◌, ◌||◌, false≢true}
use mathlib.Core.List.{List}
use mathlib.Core.Logic.{◌⊎◌, inl, inr, ⊎_elim}
use lib.Dec.{eqb}
use lib.ListN.{length}
use Rattle.branches.proofs.Branches.{and_left, and_right}
use Rattle.machine.specs.Machine.{Obeys, seen}
use Rattle.store.specs.Ring.{held}
use Rattle.line.specs.HoldingOff.{stored_with}
use Rattle.loopside.specs.Sends.{rule_of}
use Rattle.answers.specs.Answers.{refused}
use Rattle.bridge.specs.Calls.{write, on, World, Did, of_reading_rule, step}
use Rattle.bridge.proofs.Checks.{TenGiven, ten_given, gives_ten}
use Rattle.state.proofs.Fits.{tests}
use Rattle.laws.specs.Observers.{taken}
use Rattle.laws.specs.Worlds.{held_cells, holds_some}
use Rattle.laws.specs.HeldLine.{RuleStays, names_rule, HeldRefused, RefusedWhileHeld}
use Rattle.laws.proofs.Answers.{refuses}
use Rattle.laws.proofs.Refusing.{by_refusal, write_fitting}
use Rattle.runs.proofs.RuleKept.{held_line_lem}
use Rattle.runs.proofs.RuleValues.{stands_let, let_stands}
use Rattle.runs.proofs.Shapes.{Seen, Core, Shape, is_still, is_begun, is_written}
use Rattle.runs.proofs.Shapes.{is_cleared, is_stored, is_lost, is_broken, is_sent, is_none, is_left, is_handed}
use Rattle.runs.proofs.View.{view}
use Rattle.runs.proofs.Steps.{at_call, ours}

-- ---- the rule stays

-- what a call does that does not begin anew: the rule stays, or nothing is held, neither before nor after
abbrev Kept : World → Core → List ℕ → Type 0
Kept w h rx = (rule_of h.regs ≡ rule_of w.state.regs) ⊎ ((holds_some w ≡ false) × (held rx h.rx ≡ held_cells w))

pub kept : (w : World) (x : Seen) (h : Core) (rx tx : List ℕ) → Shape w x h rx tx → x.starts_anew ≡ false → Kept w h rx
unfolding stored_with
kept w x h rx tx is_still n = inl refl
kept w x h rx tx (is_begun k) n = absurd (false≢true (sym n))
kept w x h rx tx (is_written g t u) n = by_held (holds_some w) refl
  where
    by_held : (t : Bool) → holds_some w ≡ t → (rule_of g ≡ rule_of w.state.regs) ⊎ ((holds_some w ≡ false) × (held_cells w ≡ held_cells w))
    by_held true e = inl (u e)
    by_held false e = inr (e, refl)
kept w x h rx tx is_cleared n = inl refl
kept w x h rx tx (is_stored b F l) n = inl refl
kept w x h rx tx (is_lost b l) n = inl refl
kept w x h rx tx (is_broken F) n = inl refl
kept w x h rx tx (is_sent f r F e) n = inl refl
kept w x h rx tx (is_none r F e) n = inl refl
kept w x h rx tx (is_left l F e) n = inl refl
kept w x h rx tx (is_handed F e) n = inl refl

pub rule_stays : Obeys ours RuleStays
unfolding rule_of
rule_stays c w _ n some = ⊎_elim (λ e. e) (λ none. absurd (false≢true (sym none.0 ∙ some))) (kept w _ _ _ _ (view c w) n)

-- ---- a write is refused

-- the three registers, however they are put together
names_them : (n : ℕ) → of_reading_rule n ≡ names_rule n
names_them n = go (eqb n 10) (eqb n 16) (eqb n 17)
  where
    go : (a b c : Bool) → ((a || b) || c) ≡ (a || (b || c))
    go true b c = refl
    go false b c = refl

module _ (w : World) (n v : ℕ) where
  given_ten : (step (on (write n v)) w).said ≡ refused 10 → TenGiven w n v
  given_ten e = ten_given w n v ((refuses (on (write n v)) w).when 10 e)

  under_held : TenGiven w n v → (holds_some w && of_reading_rule n) ≡ true
  under_held k = sym (held_line_lem w k.fit n) ∙ k.held

  not_taken : names_rule n ≡ true → holds_some w ≡ true → taken (step (on (write n v)) w).said ≡ false
  not_taken names some =
      by_refusal (λ (d : Did). taken d.said ≡ false) (on (write n v)) w
      (λ e. let k = write_fitting n v w e in
      absurd (false≢true (sym k.1.1 ∙ held_line_lem w k.0 n ∙ (λ i. some i && (names_them n ∙ names) i))))
      (λ _. refl)

  refused_so : HeldRefused (seen ours (on (write n v)) w) n v
  refused_so =
      record {
        always = not_taken;
        ten = λ names some F can.
            let k : TenGiven w n v = record {
              fit = F;
              let_through = stands_let w.state.regs n v (tests w.state (length w.rx) (length w.tx) F).regs names can;
              held = held_line_lem w F n ∙ (λ i. some i && (names_them n ∙ names) i);
            } in
            let q = gives_ten w n v k in
            (refuses (on (write n v)) w).given (λ z. omega (arith, q, z)) ∙ ap refused q;
        register = λ e. names (given_ten e);
        something = λ e. and_left (holds_some w) _ (under_held (given_ten e));
        last = λ e. let k = given_ten e in let_stands w.state.regs n v (names k) k.let_through;
      }
    where
      names : TenGiven w n v → names_rule n ≡ true
      names k = sym (names_them n) ∙ and_right (holds_some w) _ (under_held k)

pub refused_while_held : Obeys ours RefusedWhileHeld
refused_while_held c w _ n v = at_call (λ c. HeldRefused (seen ours c w) n v) (on (write n v)) (refused_so w n v) c
