-- Sizes and refusals, the table: its checks go by their numbers.
use Rattle.std.specs.Prelude.{◌≡◌, true}
use Rattle.answers.specs.Refusals.{rising}
use Rattle.bridge.specs.Calls.{Call, World, checks}

-- of every call: the numbers of its checks rise, so the first that is given has the lowest number of all that are
abbrev pub ChecksRise : Type 0
ChecksRise = (c : Call) (w : World) → rising 0 (checks c w) ≡ true
