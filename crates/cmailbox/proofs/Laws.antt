-- The laws of the C functions of a mailbox, each by the law of any product. Assumes nothing.
use Rattle.answers.specs.Answers.{Said}
use Rattle.boundary.proofs.Laws as laws
use Rattle.boundary.proofs.Opened as opened
use Rattle.boundary.proofs.Runs as runs
use Rattle.boundary.proofs.Answers as answers
use Rattle.boundary.proofs.Refusals as refusals
use Rattle.boundary.proofs.Fitting as fitting
use Rattle.boundary.proofs.Seen as seen
use Rattle.cmailbox.specs.Mailbox.{mailboxes}
use Rattle.cmailbox.specs.CLaws.{OneResultInC, ShownPlace, MisfitShowsNothing, MisfitRefused, WrongBlockRefused, RefusalKeepsAll, RefusedExactlyInC}
use Rattle.cmailbox.specs.CLaws.{RefusalAlone, AnswersTold, NoRoomTold, BlockKeepsFit, CreateFits, LengthsStay, SameCall, SameEnd, SameWords, CallMeans, RunsMean}
use Rattle.cmailbox.specs.CLaws.{CIsTheMailbox, LawsHoldInC, AllHoldInC, AllLawsInC}
use Rattle.maillaws.specs.Laws as all
use Rattle.maillaws.proofs.Laws.{all_obeyed}
use Rattle.cmailbox.proofs.Forming.{formed}
use Rattle.cmailbox.proofs.Keeping.{kept}

pub one_result_in_c : OneResultInC
one_result_in_c = laws.one_result_in_c mailboxes

pub shown_place : ShownPlace
shown_place = laws.shown_place mailboxes formed

pub misfit_shows_nothing : MisfitShowsNothing
misfit_shows_nothing = laws.misfit_shows_nothing mailboxes formed

pub misfit_refused : MisfitRefused
misfit_refused = laws.misfit_refused mailboxes formed

pub wrong_block_refused : WrongBlockRefused
wrong_block_refused = laws.wrong_block_refused mailboxes formed

pub refusal_keeps_all : RefusalKeepsAll
refusal_keeps_all = answers.refusal_keeps_all mailboxes formed kept

pub refused_exactly_in_c : RefusedExactlyInC
refused_exactly_in_c = refusals.refused_exactly_in_c mailboxes formed kept

pub answers_told : AnswersTold
answers_told = answers.answers_told mailboxes formed kept

pub refusal_alone : RefusalAlone
refusal_alone = refusals.refusal_alone mailboxes formed kept

pub no_room_told : NoRoomTold
no_room_told = answers.rooms_told mailboxes formed kept

pub block_keeps_fit : BlockKeepsFit
block_keeps_fit = fitting.block_keeps_fit mailboxes formed kept

pub create_fits : CreateFits
create_fits = fitting.create_fits mailboxes formed kept

pub lengths_stay : LengthsStay
lengths_stay = fitting.lengths_stay mailboxes formed kept

pub same_call : SameCall
same_call = laws.same_call mailboxes formed

pub same_end : SameEnd
same_end = runs.same_end mailboxes formed kept

pub same_words : SameWords
same_words = runs.same_words mailboxes formed kept

pub call_means : CallMeans
call_means = opened.call_means mailboxes formed kept

pub runs_mean : RunsMean
runs_mean = opened.runs_mean mailboxes formed kept

pub c_is_the_mailbox : CIsTheMailbox
c_is_the_mailbox = seen.c_answers_as_the_product mailboxes formed kept

pub laws_hold_in_c : LawsHoldInC
laws_hold_in_c = seen.laws_hold_in_c mailboxes formed kept Said (λ a. a.said)

pub all_hold_in_c : AllHoldInC
all_hold_in_c = seen.all_hold_in_c mailboxes formed kept Said (λ a. a.said)

pub all_laws_in_c : AllLawsInC
all_laws_in_c = all_hold_in_c all.laws all_obeyed
