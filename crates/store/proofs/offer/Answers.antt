use Rattle.store.proofs.Laws.{offered_room, offered_full}
use Rattle.store.proofs.offer.Goals as goal

pub returns-then-r : goal.returns-then-r
returns-then-r c = offered_full c.args.r c.if-r.true

pub returns : goal.returns
returns c = offered_room c.args.r c.if-r.false _ c.room.ensures
