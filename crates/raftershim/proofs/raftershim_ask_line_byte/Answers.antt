use mathlib.Core.Path.{refl}
use Rattle.bridge.specs.Calls.{ask_line_byte}
use Rattle.boundary.proofs.Closing.{looked}
use Rattle.raftershim.specs.Bridge.{bridges}
use Rattle.raftershim.proofs.Forming.{formed}
use Rattle.raftershim.proofs.raftershim_ask_line_byte.Goals as goal

pub returns : goal.returns
returns c =
    looked bridges formed ask_line_byte _ _ _ _ c.meaning-s.ensures _ c.ask_line_byte-a.ensures refl _
    c.word_of.ensures refl
