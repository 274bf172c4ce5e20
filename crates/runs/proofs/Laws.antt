-- Our bridge obeys every law of this crate. Assumes nothing.
use Rattle.machine.specs.Machine.{◌also◌}
use Rattle.laws.specs.Events.{broken, overrun, pressed}
use Rattle.bridge.specs.Calls.{receive, transmit}
use Rattle.runs.specs.Obeyed.{OursObeysAll, OursObeysRooms}
use Rattle.laws.proofs.Answers.{answers_so, refused_exactly}
use Rattle.laws.proofs.CallPlaces.{places}
use Rattle.laws.proofs.Fitting.{keeps_fit, create_makes_fit, keeps_stores}
use Rattle.laws.proofs.Rooms.{room_told}
use Rattle.laws.proofs.Showing.{shows_so}
use Rattle.laws.proofs.Starting.{starts_so, margin_recorded, reset_gives_start}
use Rattle.runs.proofs.FramesRead.{frames_read, nothing_waits, unheld_breaks}
use Rattle.runs.proofs.Events.{events_stay}
use Rattle.runs.proofs.Margin.{none_lost}
use Rattle.runs.proofs.Rooms.{room_holds}
use Rattle.runs.proofs.RoomTakes.{room_takes}
use Rattle.runs.proofs.LineBytes.{line_kept, line_since}
use Rattle.runs.proofs.LastSent.{last_kept, last_since}
use Rattle.runs.proofs.Counts.{counts_go, counts_since}
use Rattle.runs.proofs.Service.{service_bit}
use Rattle.runs.proofs.Refused.{refused_stays, one_frame_out}
use Rattle.runs.proofs.StatusTold.{status_told, tells_until_back}
use Rattle.runs.proofs.Removed.{none_removed}
use Rattle.runs.proofs.Returns.{returns_judged}
use Rattle.runs.proofs.ElevenBits.{eleven_bits}
use Rattle.runs.proofs.Roles.{role_goes, remote_goes}
use Rattle.runs.proofs.Passing.{frames_pass}
use Rattle.runs.proofs.Settings.{registers_go, sizes_stay}
use Rattle.runs.proofs.HeldLine.{rule_stays, refused_while_held}
use Rattle.runs.proofs.Alone.{broken_alone, pressed_alone}
use Rattle.runs.proofs.SendRule.{send_rule}
use Rattle.runs.proofs.Since.{frames_since}
use Rattle.runs.proofs.PlacesSince.{places_since}
use Rattle.runs.proofs.NineBits.{nine_bits}
use Rattle.runs.proofs.Cleared.{events_clear, not_invented, not_at_start}
use Rattle.runs.proofs.Requests.{requests_go}
use Rattle.runs.proofs.Holding.{holding_goes, forbidden_goes}
use Rattle.runs.proofs.NextByte.{next_asked, own_next, takes_next}
use Rattle.runs.proofs.AskThenTake.{ask_looks, asks_alike, takes_as_asked, gone_as_given, ask_then_take}
use Rattle.runs.proofs.Resuming.{empty_send_resumes}

pub all_obeyed : OursObeysAll
all_obeyed =
    answers_so also refused_exactly also refused_stays also one_frame_out also eleven_bits also shows_so
    also places receive also places transmit also places_since receive also places_since transmit also nine_bits also keeps_fit also create_makes_fit also keeps_stores
    also starts_so also margin_recorded also sizes_stay also reset_gives_start also registers_go also rule_stays also refused_while_held also role_goes
    also frames_read also nothing_waits also unheld_breaks also none_lost also frames_since also send_rule also none_removed also returns_judged also frames_pass also empty_send_resumes
    also events_stay broken also events_stay overrun also events_stay pressed also broken_alone also pressed_alone
    also tells_until_back broken also tells_until_back overrun also tells_until_back pressed also status_told
    also events_clear broken also events_clear overrun also events_clear pressed
    also not_invented broken also not_invented overrun also not_invented pressed
    also not_at_start broken also not_at_start overrun also not_at_start pressed
    also line_kept also line_since also last_kept also last_since also own_next also next_asked also takes_next also forbidden_goes also holding_goes
    also ask_looks also asks_alike also takes_as_asked also gone_as_given also ask_then_take
    also counts_go also counts_since also service_bit also requests_go also remote_goes also tt

pub rooms_obeyed : OursObeysRooms
rooms_obeyed = room_told also room_holds also room_takes also tt
