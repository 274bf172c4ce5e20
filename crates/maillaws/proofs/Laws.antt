-- Our mailbox obeys every law of this crate. Assumes nothing.
use Rattle.machine.specs.Machine.{◌also◌}
use Rattle.maillaws.specs.Sights.{to_bus, to_loop}
use Rattle.maillaws.specs.Obeyed.{MailboxObeysAll}
use Rattle.maillaws.proofs.Replied.{answers_so, refused_exactly, refused_stays, one_frame_out, narrow_answers}
use Rattle.maillaws.proofs.Fitted.{keeps_fit, create_makes_fit, keeps_stores}
use Rattle.maillaws.proofs.Ways.{way_kept, way_since, clears_way, other_stays}
use Rattle.maillaws.proofs.NewsRuns.{news_stays}
use Rattle.maillaws.proofs.NewsEnds.{news_ends}
use Rattle.maillaws.proofs.StatusSent.{status_told}
use Rattle.maillaws.proofs.RequestWaits.{request_waits}
use Rattle.maillaws.proofs.Requests.{request_goes}
use Rattle.maillaws.proofs.Given.{loop_given, bus_given}
use Rattle.maillaws.proofs.HeldBack.{holds_back_lem, released}
use Rattle.maillaws.proofs.LoopRoles.{loop_role_goes}
use Rattle.maillaws.proofs.BusRoles.{bus_role_goes}
use Rattle.maillaws.proofs.StartsGiven.{starts_so, reset_gives_start}
use Rattle.maillaws.proofs.ShowsGiven.{shows_so}
use Rattle.maillaws.proofs.NewsGoes.{news_goes}
use Rattle.maillaws.proofs.PollsSeen.{lines_told, identify_told}
use Rattle.maillaws.proofs.HoldsGo.{response_goes, hold_goes}
use Rattle.maillaws.proofs.CellPlaces.{places_go, places_since}
use Rattle.maillaws.proofs.Returned.{returns_judged}
use Rattle.maillaws.proofs.PassedOn.{frames_pass}
use Rattle.maillaws.proofs.ServiceBits.{service_bit}

pub all_obeyed : MailboxObeysAll
all_obeyed =
    answers_so also refused_exactly also refused_stays also one_frame_out also narrow_answers
    also keeps_fit also create_makes_fit also keeps_stores
    also way_kept to_bus also way_kept to_loop also way_since to_bus also way_since to_loop
    also clears_way to_bus also clears_way to_loop also other_stays to_bus also other_stays to_loop
    also news_stays also news_ends also status_told
    also request_waits to_bus also request_waits to_loop also request_goes to_bus also request_goes to_loop
    also loop_given also bus_given also holds_back_lem also released also loop_role_goes also bus_role_goes
    also starts_so also reset_gives_start also shows_so also news_goes to_bus also news_goes to_loop
    also lines_told also identify_told also response_goes also hold_goes
    also places_go to_bus also places_go to_loop also places_since to_bus also places_since to_loop
    also returns_judged also frames_pass also service_bit
    also tt
