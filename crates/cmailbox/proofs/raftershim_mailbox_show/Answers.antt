use mathlib.Core.Path.{refl}
use Rattle.boundary.proofs.Closing.{part_shown, show_empty, show_small, show_part}
use Rattle.cmailbox.specs.Mailbox.{mailboxes}
use Rattle.cmailbox.proofs.Forming.{formed}
use Rattle.cmailbox.proofs.raftershim_mailbox_show.Goals as goal

pub returns-then-len-eq0 : goal.returns-then-len-eq0
returns-then-len-eq0 c =
    show_empty mailboxes formed _ _ _ _ _ _ c.meaning-s.ensures (part_shown mailboxes formed _ _ _ _ c.show-part.ensures refl) c.if-len-eq0.true

pub place_word-requires : goal.place_word-requires
place_word-requires c =
    show_small mailboxes formed _ _ _ (part_shown mailboxes formed _ _ _ _ c.show-part.ensures refl) _ c.if-len-eq0.false c.start_of.ensures

pub returns : goal.returns
returns c =
    show_part mailboxes formed _ _ _ _ _ _ c.meaning-s.ensures (part_shown mailboxes formed _ _ _ _ c.show-part.ensures refl) _ _
    c.if-len-eq0.false c.start_of.ensures c.place_word.ensures
