-- The C functions do what the bridge does, and so obey every law that it obeys. Assumes nothing.
use Rattle.boundary.proofs.Seen as seen
use Rattle.answers.specs.Answers.{Said, Answered}
use Rattle.laws.specs.Laws.{laws, rooms}
use Rattle.runs.proofs.Laws.{all_obeyed, rooms_obeyed}
use Rattle.raftershim.specs.Bridge.{bridges}
use Rattle.raftershim.specs.CSeen.{CIsTheBridge, CAnswersAsTheBridge, LawsHoldInC, TellingLawsHoldInC, AllLawsInC, AllRoomsInC}
use Rattle.raftershim.proofs.Forming.{formed}
use Rattle.raftershim.proofs.Keeping.{kept}

pub c_is_the_bridge : CIsTheBridge
c_is_the_bridge = seen.c_is_the_product bridges formed kept

pub c_answers_as_the_bridge : CAnswersAsTheBridge
c_answers_as_the_bridge = seen.c_answers_as_the_product bridges formed kept

pub laws_hold_in_c : LawsHoldInC
laws_hold_in_c = seen.laws_hold_in_c bridges formed kept Said (λ a. a.said)

pub telling_laws_hold_in_c : TellingLawsHoldInC
telling_laws_hold_in_c = seen.laws_hold_in_c bridges formed kept Answered (λ a. a)

pub all_laws_in_c : AllLawsInC
all_laws_in_c = seen.all_hold_in_c bridges formed kept Said (λ a. a.said) laws all_obeyed

pub all_rooms_in_c : AllRoomsInC
all_rooms_in_c = seen.all_hold_in_c bridges formed kept Answered (λ a. a) rooms rooms_obeyed
