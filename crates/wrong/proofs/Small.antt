-- What the runs of wrong bridges need of their calls and of what the stores of the trials hold. Assumes nothing.
use mathlib.Core.Path.{◌≡◌, refl}
use mathlib.Core.Bool.{Bool, true, ◌&&◌}
use mathlib.Core.List.{List, [], ◌∷◌}
use lib.Dec.{ltb}
use borrow.Author.Tests.{ltb-true}
use Rattle.branches.proofs.Branches.{and_left, and_right}
use Rattle.state.specs.Sizes.{start_state}
use Rattle.machine.specs.Machine.{AllFair}
use Rattle.bridge.specs.Calls.{reset, write, line_byte, line_break, key, ask_line_byte, take_line_byte, loop_frame, Call, create, show, on, World, Did}
use Rattle.laws.specs.Bridges.{ByteCall, bridge}
use Rattle.laws.specs.Observers.{on_line_byte, on_take}
use Rattle.laws.specs.Worlds.{held_cells}
use Rattle.refuting.proofs.StandsIn.{holds}
use Rattle.wrong.specs.Trials.{two_lines, full, undecided_bytes, undecided}

-- ---- calls

-- calls that bring bytes, by a test
abbrev pub byte_call : Call → Bool
byte_call c = on_line_byte (λ b. ltb b 256) (on_take (λ b. ltb b 256) true c) c

abbrev pub byte_calls : List Call → Bool
byte_calls [] = true
byte_calls (c ∷ cs) = byte_call c && byte_calls cs

pub fair_call : (c : Call) → byte_call c ≡ true → ByteCall c
fair_call (create m) e = tt
fair_call (show side) e = tt
fair_call (on reset) e = tt
fair_call (on (write n v)) e = tt
fair_call (on (line_byte b)) e = ltb-true b 256 e
fair_call (on line_break) e = tt
fair_call (on key) e = tt
fair_call (on ask_line_byte) e = tt
fair_call (on (take_line_byte b)) e = ltb-true b 256 e
fair_call (on (loop_frame f)) e = tt

pub fair_calls : (B : Call → World → Did) (cs : List Call) → byte_calls cs ≡ true → AllFair (bridge B) cs
fair_calls B [] e = tt
fair_calls B (c ∷ cs) e = (fair_call c (and_left (byte_call c) (byte_calls cs) e), fair_calls B cs (and_right (byte_call c) (byte_calls cs) e))

-- ---- what a store holds, by the laws of the store

pub full_holds : held_cells full ≡ two_lines
unfolding start_state
full_holds = holds two_lines 0 6 refl

pub undecided_holds : held_cells undecided ≡ 13 ∷ 10 ∷ 13 ∷ []
unfolding start_state
undecided_holds = holds undecided_bytes 0 3 refl
