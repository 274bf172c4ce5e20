-- Bridges that start wrongly, or whose registers go wrong.
use Rattle.std.specs.Prelude.{◌+◌, cond, eqb}
use Rattle.registers.specs.Table.{start_registers}
use Rattle.registers.specs.Writing.{written}
use Rattle.role.specs.Role.{with_address}
use Rattle.state.specs.declared.State.{State}
use Rattle.answers.specs.Answers.{done}
use Rattle.state.specs.State.{with_registers, with_counts}
use Rattle.bridge.specs.Calls.{reset, Call, World, Did}
use Rattle.laws.specs.Observers.{on_one, on_write, restarts, clears}
use Rattle.wrong.specs.Changing.{afterwards, with_margin, is_create, with_role}

-- ours, where a reset leaves another state
abbrev resetting : (World → State → State) → Call → World → Did
resetting change = afterwards (λ c w s. on_one reset (change w s) s c)

-- ---- create and reset

-- starts with R11 at 12
abbrev pub starts_at12 : Call → World → Did
starts_at12 = afterwards (λ c w s. cond (restarts c done) (with_registers s (written s.regs 11 12)) s)

-- create keeps the counts that it finds
abbrev pub create_keeps_counts : Call → World → Did
create_keeps_counts = afterwards (λ c w s. cond (is_create c) (with_counts s w.state.counts) s)

-- starts at address 0, as if one had been given
abbrev pub starts_assigned : Call → World → Did
starts_assigned = afterwards (λ c w s. cond (restarts c done) (with_role s (with_address s.talker.role 0)) s)

-- reset makes the margin larger by one
abbrev pub reset_widens : Call → World → Did
reset_widens = resetting (λ w s. with_margin s (s.margin + 1))

-- create keeps the margin that it finds
abbrev pub create_keeps_margin : Call → World → Did
create_keeps_margin = afterwards (λ c w s. cond (is_create c) (with_margin s w.state.margin) s)

-- reset keeps the registers
abbrev pub reset_keeps_registers : Call → World → Did
reset_keeps_registers = resetting (λ w s. with_registers s w.state.regs)

-- reset keeps the counts
abbrev pub reset_keeps_counts : Call → World → Did
reset_keeps_counts = resetting (λ w s. with_counts s w.state.counts)

-- ---- registers

-- a device clear sets the registers back, as the manual has it and our paper does not
abbrev pub clears_registers : Call → World → Did
clears_registers = afterwards (λ c w s. cond (clears c w done) (with_registers s start_registers) s)

-- writing C00 writes C02 too, as if there were one pair for both ways
abbrev pub writes_both_pairs : Call → World → Did
writes_both_pairs = afterwards (λ c w s. on_write (λ n v. cond (eqb n 16) (with_registers s (written s.regs 18 v)) s) s c)
