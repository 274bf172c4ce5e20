-- Every law of a mailbox in one list: a mailbox that is right obeys them all, and so does what opens to it.
use Rattle.std.specs.Prelude.{List, [], ◌∷◌}
use Rattle.maillaws.specs.Mailboxes.{Law}
use Rattle.maillaws.specs.Sights.{to_bus, to_loop}
use Rattle.maillaws.specs.Replies.{AnswersSo, RefusedExactly, RefusedStays, OneFrameOut, NarrowAnswers}
use Rattle.maillaws.specs.StateFits.{KeepsFit, CreateMakesFit, KeepsStores}
use Rattle.maillaws.specs.WaysKept.{WayKept, WaySince}
use Rattle.maillaws.specs.WaysCleared.{ClearsWay, OtherStays}
use Rattle.maillaws.specs.NewsTold.{NewsStays, NewsEnds, StatusTold}
use Rattle.maillaws.specs.Requesting.{RequestWaits, RequestGoes}
use Rattle.maillaws.specs.Giving.{LoopGiven, BusGiven}
use Rattle.maillaws.specs.NotReady.{HoldsBack, Released}
use Rattle.maillaws.specs.LoopRole.{LoopRoleGoes}
use Rattle.maillaws.specs.BusRole.{BusRoleGoes}
use Rattle.maillaws.specs.MailStarts.{StartsSo, ResetGivesStart}
use Rattle.maillaws.specs.MailShows.{ShowsSo}
use Rattle.maillaws.specs.NewsGoing.{NewsGo}
use Rattle.maillaws.specs.PollsTold.{LinesTold, IdentifyTold, ResponseGoes}
use Rattle.maillaws.specs.HoldGoing.{HoldGoes}
use Rattle.maillaws.specs.MailPlaces.{PlacesGo, PlacesSince}
use Rattle.maillaws.specs.OwnReturns.{ReturnsJudged}
use Rattle.maillaws.specs.FramesOn.{FramesPass}
use Rattle.maillaws.specs.ServiceOut.{ServiceBit}

abbrev pub laws : List Law
laws =
    AnswersSo ∷ RefusedExactly ∷ RefusedStays ∷ OneFrameOut ∷ NarrowAnswers
    ∷ KeepsFit ∷ CreateMakesFit ∷ KeepsStores
    ∷ WayKept to_bus ∷ WayKept to_loop ∷ WaySince to_bus ∷ WaySince to_loop
    ∷ ClearsWay to_bus ∷ ClearsWay to_loop ∷ OtherStays to_bus ∷ OtherStays to_loop
    ∷ NewsStays ∷ NewsEnds ∷ StatusTold
    ∷ RequestWaits to_bus ∷ RequestWaits to_loop ∷ RequestGoes to_bus ∷ RequestGoes to_loop
    ∷ LoopGiven ∷ BusGiven ∷ HoldsBack ∷ Released ∷ LoopRoleGoes ∷ BusRoleGoes
    ∷ StartsSo ∷ ResetGivesStart ∷ ShowsSo ∷ NewsGo to_bus ∷ NewsGo to_loop
    ∷ LinesTold ∷ IdentifyTold ∷ ResponseGoes ∷ HoldGoes
    ∷ PlacesGo to_bus ∷ PlacesGo to_loop ∷ PlacesSince to_bus ∷ PlacesSince to_loop
    ∷ ReturnsJudged ∷ FramesPass ∷ ServiceBit
    ∷ []
