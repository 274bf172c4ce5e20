-- Bridges that let the reading rule change under a held line, or refuse wrongly to change it.
use Rattle.std.specs.Prelude.{ℕ, Bool, false, ◌&&◌, not, eqb, length}
use Rattle.answers.specs.Refusals.{first_refusal}
use Rattle.registers.specs.Bits.{bit}
use Rattle.registers.specs.RegistersFit.{value_of}
use Rattle.role.specs.Role.{is_active}
use Rattle.store.specs.Ring.{empty_ring}
use Rattle.reading.specs.Reading.{left_over}
use Rattle.reading.specs.Steps.{cut}
use Rattle.line.specs.Breaks.{break_cells}
use Rattle.state.specs.State.{with_rx}
use Rattle.bridge.specs.Calls.{Call, World, Did, checks, not_refused}
use Rattle.laws.specs.Observers.{taken, on_write}
use Rattle.laws.specs.Worlds.{held_to_send, holds_some, rule_in}
use Rattle.laws.specs.HeldLine.{names_rule}
use Rattle.wrong.specs.Changing.{instead, refusing, heedless}
use Rattle.wrong.specs.Seeing.{instead_at, in_state, keeping}

-- ours refuses it because something is held
abbrev under_held : Call → World → Bool
under_held c w = eqb (first_refusal (checks c w)) 10

-- takes R10, C00 and C01 though something is held, so that the second half of a reading is read by the new pair
abbrev pub reads_by_the_new_pair : Call → World → Did
reads_by_the_new_pair = heedless 10

-- takes such a write where this is seen of its number, its value and the world
abbrev takes_where : (ℕ → ℕ → World → Bool) → Call → World → Did
takes_where test = instead (λ c w. under_held c w && on_write (λ n v. test n v w) false c) not_refused

-- refuses only where the value changes
abbrev pub refuses_only_changes : Call → World → Did
refuses_only_changes = takes_where (λ n v w. eqb v (value_of w.state.regs n))

-- takes R10 though something is held
abbrev pub lets_r10_through : Call → World → Did
lets_r10_through = takes_where (λ n v w. eqb n 10)

-- heeds what is held only while R10 bit 3 is on
abbrev pub heeds_only_when_on : Call → World → Did
heeds_only_when_on = takes_where (λ n v w. not (bit 3 w.state.regs.r10))

-- heeds only what is undecided: a pair that no send has removed yet is nothing to it
abbrev pub heeds_only_undecided : Call → World → Did
heeds_only_undecided = takes_where (λ n v w. eqb (length (left_over (cut (rule_in w)) (held_to_send w))) 0)

-- takes R10, C00 and C01 though something is held, and empties the receive store
abbrev pub write_empties : Call → World → Did
write_empties = instead under_held (λ c w. in_state (λ s. with_rx s (empty_ring s.rx.cap)) (not_refused c w))

-- takes R10, C00 and C01 though something is held, and marks it as if a break had come
abbrev pub write_breaks : Call → World → Did
write_breaks = instead under_held (λ c w. keeping (break_cells w.state w.rx) (not_refused c w))

-- refuses a write of the three too while a frame is under way and nothing is held
abbrev pub refuses_under_way : Call → World → Did
refuses_under_way = instead_at (λ c w a. taken a && on_write (λ n v. names_rule n && is_active w.state.talker.role) false c) (refusing 10)

-- refuses every register while something is held
abbrev pub refuses_all_held : Call → World → Did
refuses_all_held = instead_at (λ c w a. taken a && on_write (λ n v. holds_some w) false c) (refusing 10)

-- answers 10 before 2, 6 and 7
abbrev pub ten_first : Call → World → Did
ten_first = instead (λ c w. on_write (λ n v. names_rule n && holds_some w) false c) (refusing 10)

-- refuses R10, C00 and C01 while something is held as it refuses a register that is not carried
abbrev pub refuses_as_unknown : Call → World → Did
refuses_as_unknown = instead under_held (refusing 5)
