-- Where no register is written, one rule reads all. Assumes nothing.
use Prim.Native.Nat.{ℕ}
use mathlib.Core.Path.{◌≡◌, refl, sym, ap, ◌∙◌}
use mathlib.Core.Bool.{false, cond, ◌||◌}
use mathlib.Core.List.{List, [], ◌∷◌, ◌++◌, map-append}
use lib.ListN.{get_or}
use Rattle.machine.specs.Course.{end, all, some}
use Rattle.machine.specs.Machine.{course, seen, Obeys}
use Rattle.machine.proofs.Course.{neither, first_not}
use Rattle.registers.specs.Bits.{bit}
use Rattle.reading.specs.declared.Rule.{Rule}
use Rattle.answers.specs.Answers.{Said}
use Rattle.bridge.specs.Calls.{reset, write, line_byte, line_break, key, ask_line_byte, take_line_byte, loop_frame, Call, create, show, on, World, Did}
use Rattle.laws.specs.Bridges.{bridge}
use Rattle.laws.specs.ByRules.{ruled, all_ruled, wall, by_rules}
use Rattle.laws.specs.Observers.{taken, on_write, restarts, writes, clears, changes, empties, bytes_and_breaks, sent}
use Rattle.laws.specs.Worlds.{held_to_send, rule_in}
use Rattle.laws.specs.Starting.{register_values}
use Rattle.laws.specs.Registers.{numbers, written_to, RegistersGo}
use Rattle.laws.specs.Demands.{by_its_rule}
use Rattle.laws.specs.OneRule.{OneRuleFollows}
use Rattle.laws.proofs.ByRules.{wall_silent, one_rule}

-- ---- a call that changes nothing of the kind

module _ (c : Call) (w : World) (a : Said) (n : changes c w a ≡ false) where
  none_begins : restarts c a ≡ false
  none_begins = (neither (restarts c a) _ n).0

  none_written : writes c a ≡ false
  none_written = (neither (writes c a) _ (neither (restarts c a) _ n).1).0

  none_cleared : clears c w a ≡ false
  none_cleared = (neither (writes c a) _ (neither (restarts c a) _ n).1).1

  none_empties : empties c w a ≡ false
  none_empties = (λ i. none_begins i || none_cleared i)

-- no write of a register that is taken, and so what a write would leave is not left
unwritten : {X : Type 0} (left : ℕ → ℕ → X) (same : X) (c : Call) (a : Said) → writes c a ≡ false →
    on_write (λ n v. cond (taken a) (left n v) same) same c ≡ same
unfolding writes
unwritten left same (create m) a e = refl
unwritten left same (show side) a e = refl
unwritten left same (on reset) a e = refl
unwritten left same (on (write n v)) a e = (λ i. cond (e i) (left n v) same)
unwritten left same (on (line_byte b)) a e = refl
unwritten left same (on line_break) a e = refl
unwritten left same (on key) a e = refl
unwritten left same (on ask_line_byte) a e = refl
unwritten left same (on (take_line_byte b)) a e = refl
unwritten left same (on (loop_frame f)) a e = refl

-- the rule by the values of the registers: R10, C00 and C01 are those at 3, 5 and 6
rule_by : List ℕ → Rule
rule_by vs = record { on = bit 3 (get_or vs 3 0); c00 = get_or vs 5 0; c01 = get_or vs 6 0 }

module _ (B : Call → World → Did) (registers_go : Obeys (bridge B) RegistersGo) where
  same_rule_lem : (c : Call) (w : World) → changes c w (B c w).said ≡ false → rule_in (B c w).world ≡ rule_in w
  unfolding rule_by
  same_rule_lem c w n =
      let a = (B c w).said in
      let old = register_values w.state.regs in
      ap rule_by (registers_go c w tt (none_begins c w a n) ∙ unwritten (λ k v. written_to k v numbers old) old c a (none_written c w a n))

  -- so all that is accepted has the rule of the start
  all_by_one : (cs : List Call) (w : World) → some changes (course (bridge B) cs w) ≡ false →
      all (by_its_rule bytes_and_breaks) (course (bridge B) cs w) ≡ all_ruled (rule_in w) (all bytes_and_breaks (course (bridge B) cs w))
  unfolding all course
  all_by_one [] w n = refl
  all_by_one (c ∷ cs) w n =
      let k = first_not changes (seen (bridge B) c w) (course (bridge B) cs (B c w).world) n in
      ap (λ l. by_its_rule bytes_and_breaks c w (B c w).said ++ l)
      (all_by_one cs (B c w).world k.1
      ∙ ap (λ r. all_ruled r (all bytes_and_breaks (course (bridge B) cs (B c w).world))) (same_rule_lem c w k.0))
      ∙ sym (map-append (ruled (rule_in w)) (bytes_and_breaks c w (B c w).said) _)

  none_empty : (cs : List Call) (w : World) → some changes (course (bridge B) cs w) ≡ false → some empties (course (bridge B) cs w) ≡ false
  unfolding some course
  none_empty [] w n = refl
  none_empty (c ∷ cs) w n =
      let k = first_not changes (seen (bridge B) c w) (course (bridge B) cs (B c w).world) n in
      (λ i. none_empties c w (B c w).said k.0 i || none_empty cs (B c w).world k.1 i)

pub one_rule_follows : OneRuleFollows
one_rule_follows B reads registers_go cs w _ fair n =
    let ss = course (bridge B) cs w in
    let e = end w ss in
    ap (λ l. all sent ss ++ l) (sym (one_rule wall wall_silent (rule_in e) (held_to_send e)))
    ∙ reads cs w tt fair (none_empty B registers_go cs w n)
    ∙ ap (λ l. by_rules (all_ruled (rule_in w) (held_to_send w) ++ l)) (all_by_one B registers_go cs w n)
    ∙ ap by_rules (sym (map-append (ruled (rule_in w)) (held_to_send w) (all bytes_and_breaks ss)))
    ∙ one_rule wall wall_silent (rule_in w) (held_to_send w ++ all bytes_and_breaks ss)
