-- The table of refusals, of the C calls.
use Rattle.std.specs.Prelude.{ℕ, List}
use Rattle.answers.specs.Refusals.{Check}
use Rattle.boundary.specs.CRefusals as boundary
use Rattle.bridge.specs.Calls.{Call}
use Rattle.raftershim.specs.Bridge.{call_kind, bridges}
use Rattle.raftershim.specs.CCalls.{Lent}

-- Sizes and refusals, the table, create: a size, or the length of the block
abbrev pub cannot_create : ℕ → Lent → Check
cannot_create m l = boundary.cannot_create bridges m l

-- Sizes and refusals, the table, any other call but showing: a state that does not fit, and a block that is none
abbrev pub misfit_block : Lent → Check
misfit_block l = boundary.misfit_block bridges l

-- the table: after the first check those of the bridge's call, in the order of their numbers; showing has no number
abbrev pub c_checks : Call → Lent → List Check
c_checks c l = boundary.c_checks bridges (call_kind c) l

-- Sizes and refusals, the table: every C call, on any buffers, a block of any length among them, answers by its number the refusal
-- of the first of its checks that is given, and only then a refusal
abbrev pub RefusedExactlyInC : Type 0
RefusedExactlyInC = boundary.RefusedExactlyInC bridges
