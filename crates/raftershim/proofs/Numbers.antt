-- The number of a C call tells its whole answer, and the room beside it. Assumes nothing.
use Rattle.boundary.proofs.Answers as answers
use Rattle.raftershim.specs.Bridge.{bridges}
use Rattle.raftershim.specs.CLaws.{RefusalKeepsAll, AnswersTold, RoomsTold}
use Rattle.raftershim.proofs.Forming.{formed}
use Rattle.raftershim.proofs.Keeping.{kept}

pub answers_told : AnswersTold
answers_told = answers.answers_told bridges formed kept

pub rooms_told : RoomsTold
rooms_told = answers.rooms_told bridges formed kept

pub refusal_keeps_all : RefusalKeepsAll
refusal_keeps_all = answers.refusal_keeps_all bridges formed kept
