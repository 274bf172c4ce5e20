-- The C function that asks writes nothing. Assumes nothing.
use mathlib.Core.Path.{refl, sym, ap}
use Rattle.bridge.specs.Calls.{ask_line_byte, on, Did, step}
use Rattle.bridge.proofs.Asks.{ask_is, ask_leaves}
use Rattle.laws.proofs.AsksLeftOut.{left_out}
use Rattle.boundary.specs.CRuns.{c_telling}
use Rattle.boundary.proofs.Closing.{looked}
use Rattle.raftershim.specs.Bridge.{bridges}
use Rattle.raftershim.specs.CCalls.{CDid, opened}
use Rattle.raftershim.specs.CLaws.{AskWritesNothing, AsksLeftOutInC}
use Rattle.raftershim.proofs.Forming.{formed}

pub ask_writes_nothing : AskWritesNothing
ask_writes_nothing l =
    ap (λ (x : CDid). x.lent)
    (sym (looked bridges formed ask_line_byte l.block l.first l.second _ refl (step (on ask_line_byte) (opened l)) refl (ask_leaves (opened l)) _ refl
    (ap (λ (d : Did). d.room) (ask_is (opened l)))))

pub asks_left_out_in_c : AsksLeftOutInC
asks_left_out_in_c = left_out (c_telling bridges) ask_writes_nothing
