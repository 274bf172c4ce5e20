-- What holds of every C function of a mailbox, and of every run of them: the laws of the C functions of any product, said of this one.
use Rattle.std.specs.Prelude.{◌≡◌, List}
use Rattle.machine.specs.Opening.{Opens}
use Rattle.machine.specs.Machine.{Obeys, ObeysAll}
use Rattle.boundary.specs.CCalls.{Lent}
use Rattle.boundary.specs.Numbers.{c_room}
use Rattle.boundary.specs.CLaws as laws
use Rattle.boundary.specs.CRuns as runs
use Rattle.boundary.specs.CRefusals as refusals
use Rattle.boundary.specs.CFitting as fitting
use Rattle.mailbox.specs.Calls.{Call, step}
use Rattle.maillaws.specs.Mailboxes.{Machine, Law, mailbox}
use Rattle.maillaws.specs.Laws as all
use Rattle.cmailbox.specs.Mailbox.{mailboxes}

-- ---- one call

-- two results that a C function's promise allows are equal
abbrev pub OneResultInC : Type 0
OneResultInC = laws.OneResultInC mailboxes

-- the part of a store that a number of showing tells, and none for a block that is no fitting state
abbrev pub ShownPlace : Type 0
ShownPlace = laws.ShownPlace mailboxes

abbrev pub MisfitShowsNothing : Type 0
MisfitShowsNothing = laws.MisfitShowsNothing mailboxes

-- refusal 2 for a block that is no fitting state, refusal 1 for a create of another length, and a refusal leaves everything
abbrev pub MisfitRefused : Type 0
MisfitRefused = laws.MisfitRefused mailboxes

abbrev pub WrongBlockRefused : Type 0
WrongBlockRefused = laws.WrongBlockRefused mailboxes

abbrev pub RefusalKeepsAll : Type 0
RefusalKeepsAll = laws.RefusalKeepsAll mailboxes

-- the table of refusals, exactly
abbrev pub RefusedExactlyInC : Type 0
RefusedExactlyInC = refusals.RefusedExactlyInC mailboxes

-- a refusal is its number alone
abbrev pub RefusalAlone : Type 0
RefusalAlone = laws.RefusalAlone mailboxes

-- the number of a C call tells its whole answer
abbrev pub AnswersTold : Type 0
AnswersTold = laws.AnswersTold mailboxes

-- and no room beside it
abbrev pub NoRoomTold : Type 0
NoRoomTold = (c : Call) (l : Lent) → runs.Whole mailboxes l → c_room mailboxes c l ≡ 0

-- fitting is kept and made, and all lengths stay
abbrev pub BlockKeepsFit : Type 0
BlockKeepsFit = fitting.BlockKeepsFit mailboxes

abbrev pub CreateFits : Type 0
CreateFits = fitting.CreateFits mailboxes

abbrev pub LengthsStay : Type 0
LengthsStay = fitting.LengthsStay mailboxes

-- ---- the calls of the mailbox

-- on the block of a state a C call is the call of its name, and so is a run of them
abbrev pub SameCall : Type 0
SameCall = laws.SameCall mailboxes

abbrev pub SameEnd : Type 0
SameEnd = laws.SameEnd mailboxes

abbrev pub SameWords : Type 0
SameWords = laws.SameWords mailboxes

-- and on any block of the one length, a state or not
abbrev pub CallMeans : Type 0
CallMeans = laws.CallMeans mailboxes

abbrev pub RunsMean : Type 0
RunsMean = laws.RunsMean mailboxes

-- ---- every law of a mailbox

-- the C functions as a machine that takes the calls of a mailbox
abbrev pub c_functions : Machine
c_functions = runs.c_functions mailboxes

-- step by step they do what the mailbox does
abbrev pub CIsTheMailbox : Type 0
CIsTheMailbox = Opens c_functions (mailbox step)

-- so whatever law the mailbox obeys, they obey, and all of a list of laws
abbrev pub LawsHoldInC : Type 1
LawsHoldInC = (L : Law) → Obeys (mailbox step) L → Obeys c_functions L

abbrev pub AllHoldInC : Type 1
AllHoldInC = (Ls : List Law) → ObeysAll (mailbox step) Ls → ObeysAll c_functions Ls

-- and they obey all of `laws`: what is fetched and what waits is what was left, and every other rule over calls and runs
abbrev pub AllLawsInC : Type 0
AllLawsInC = ObeysAll c_functions all.laws
