-- The laws of one C call, each by the law of any product. Assumes nothing.
use Rattle.boundary.proofs.Laws as laws
use Rattle.boundary.proofs.Words as words
use Rattle.raftershim.specs.Bridge.{bridges}
use Rattle.raftershim.specs.CLaws.{OneResultInC, WordTells, ReservedZero, NoRoomAlone, ShownPlace, MisfitShowsNothing, MisfitRefused, WrongBlockRefused, SameCall}
use Rattle.raftershim.proofs.Forming.{formed}

pub one_result_in_c : OneResultInC
one_result_in_c = laws.one_result_in_c bridges

pub word_tells : WordTells
word_tells = words.word_tells

pub reserved_zero : ReservedZero
reserved_zero = words.reserved_zero

pub no_room_alone : NoRoomAlone
no_room_alone = words.no_room_alone

pub misfit_refused : MisfitRefused
misfit_refused = laws.misfit_refused bridges formed

pub wrong_block_refused : WrongBlockRefused
wrong_block_refused = laws.wrong_block_refused bridges formed

pub shown_place : ShownPlace
shown_place = laws.shown_place bridges formed

pub misfit_shows_nothing : MisfitShowsNothing
misfit_shows_nothing = laws.misfit_shows_nothing bridges formed

pub same_call : SameCall
same_call = laws.same_call bridges formed
