use mathlib.Core.Path.{refl}
use Rattle.boundary.proofs.Closing.{part_shown, show_empty, show_small, show_part}
use Rattle.bridge.specs.Calls.{receive}
use Rattle.raftershim.specs.Bridge.{bridges}
use Rattle.raftershim.proofs.Forming.{formed}
use Rattle.raftershim.proofs.raftershim_show_receive.Goals as goal

pub returns-then-len-eq0 : goal.returns-then-len-eq0
returns-then-len-eq0 c =
    show_empty bridges formed receive _ _ _ _ _ c.meaning-s.ensures
    (part_shown bridges formed receive _ _ _ c.show_receive-part.ensures refl) c.if-len-eq0.true

pub place_word-requires : goal.place_word-requires
place_word-requires c =
    show_small bridges formed receive _ _ (part_shown bridges formed receive _ _ _ c.show_receive-part.ensures refl) _ c.if-len-eq0.false refl

pub returns : goal.returns
returns c =
    show_part bridges formed receive _ _ _ _ _ c.meaning-s.ensures
    (part_shown bridges formed receive _ _ _ c.show_receive-part.ensures refl) _ _ c.if-len-eq0.false refl c.place_word.ensures
