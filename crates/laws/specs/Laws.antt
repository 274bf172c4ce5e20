-- Every law of a bridge in one list: a bridge that is right obeys them all, and so does what opens to it.
use Rattle.std.specs.Prelude.{List, [], ◌∷◌}
use Rattle.bridge.specs.Calls.{receive, transmit}
use Rattle.laws.specs.Bridges.{Law, TellingLaw}
use Rattle.laws.specs.Answering.{AnswersSo, RefusedExactly}
use Rattle.laws.specs.StorePlaces.{Places, PlacesSince}
use Rattle.laws.specs.NineBits.{NineBits}
use Rattle.laws.specs.Fitting.{KeepsFit, CreateMakesFit, KeepsStores}
use Rattle.laws.specs.Starting.{StartsSo, MarginRecorded, SizesStay, ResetGivesStart}
use Rattle.laws.specs.Showing.{ShowsSo}
use Rattle.laws.specs.Events.{broken, overrun, pressed, Stays, Alone}
use Rattle.laws.specs.StatusTold.{StatusTold, TellsUntilBack}
use Rattle.laws.specs.Cleared.{Clears, NotInvented, NotAtStart}
use Rattle.laws.specs.Demands.{RefusedStays, OneFrameOut, ElevenBits, FramesRead, NothingWaits, UnheldBreaks, NoneLost}
use Rattle.laws.specs.LineBytes.{LineKept, LineSince}
use Rattle.laws.specs.LastSent.{LastKept, LastSince, OwnNext}
use Rattle.laws.specs.Counting.{CountsGo, CountsSince}
use Rattle.laws.specs.Service.{ServiceBit}
use Rattle.laws.specs.SendRule.{SendRule, NoneRemoved, FramesSince}
use Rattle.laws.specs.Returns.{ReturnsJudged}
use Rattle.laws.specs.Roles.{RoleGoes, RemoteGoes}
use Rattle.laws.specs.Passing.{FramesPass}
use Rattle.laws.specs.Registers.{RegistersGo}
use Rattle.laws.specs.HeldLine.{RuleStays, RefusedWhileHeld}
use Rattle.laws.specs.Requests.{RequestsGo}
use Rattle.laws.specs.Holding.{HoldingGoes}
use Rattle.laws.specs.NextByte.{ForbiddenGoes, NextAsked, TakesNext}
use Rattle.laws.specs.AskThenTake.{AskLooks, AsksAlike, TakesAsAsked, GoneAsGiven, AskThenTake}
use Rattle.laws.specs.Resuming.{EmptySendResumes}
use Rattle.laws.specs.Rooms.{RoomTold, RoomHolds, RoomTakes}

abbrev pub laws : List Law
laws =
    AnswersSo ∷ RefusedExactly ∷ RefusedStays ∷ OneFrameOut ∷ ElevenBits ∷ ShowsSo
    ∷ Places receive ∷ Places transmit ∷ PlacesSince receive ∷ PlacesSince transmit ∷ NineBits ∷ KeepsFit ∷ CreateMakesFit ∷ KeepsStores
    ∷ StartsSo ∷ MarginRecorded ∷ SizesStay ∷ ResetGivesStart ∷ RegistersGo ∷ RuleStays ∷ RefusedWhileHeld ∷ RoleGoes
    ∷ FramesRead ∷ NothingWaits ∷ UnheldBreaks ∷ NoneLost ∷ FramesSince ∷ SendRule ∷ NoneRemoved ∷ ReturnsJudged ∷ FramesPass ∷ EmptySendResumes
    ∷ Stays broken ∷ Stays overrun ∷ Stays pressed ∷ Alone broken ∷ Alone pressed
    ∷ TellsUntilBack broken ∷ TellsUntilBack overrun ∷ TellsUntilBack pressed ∷ StatusTold
    ∷ Clears broken ∷ Clears overrun ∷ Clears pressed
    ∷ NotInvented broken ∷ NotInvented overrun ∷ NotInvented pressed
    ∷ NotAtStart broken ∷ NotAtStart overrun ∷ NotAtStart pressed
    ∷ LineKept ∷ LineSince ∷ LastKept ∷ LastSince ∷ OwnNext ∷ NextAsked ∷ TakesNext ∷ ForbiddenGoes ∷ HoldingGoes
    ∷ AskLooks ∷ AsksAlike ∷ TakesAsAsked ∷ GoneAsGiven ∷ AskThenTake
    ∷ CountsGo ∷ CountsSince ∷ ServiceBit ∷ RequestsGo ∷ RemoteGoes
    ∷ []

-- those that look at the room told beside an answer; all others are of the answers alone
abbrev pub rooms : List TellingLaw
rooms = RoomTold ∷ RoomHolds ∷ RoomTakes ∷ []
