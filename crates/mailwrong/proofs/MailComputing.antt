-- One name that opens all that a concrete run needs: `unfolding computes` on a refutation lets the checker run the mailbox. Assumes nothing.
use Rattle.machine.specs.Course.{end, all, some}
use Rattle.machine.specs.Machine.{course, finally}
use Rattle.machine.specs.Rounds.{under_way, comes_back}
use Rattle.frame.specs.Frame.{stripped, with_service, same_apart}
use Rattle.role.specs.Orders as orders
use Rattle.role.specs.Commands as commands
use Rattle.role.specs.ReadyFrames.{ready_of}
use Rattle.talker.specs.Obeying as talker-commands
use Rattle.talker.specs.Returning.{return_of}
use Rattle.talker.specs.TalkerFit as talker-fit
use Rattle.talker.specs.UnderWay.{talking}
use Rattle.store.specs.Ring.{fit_test, put_ring, put_bytes, drop_ring}
use Rattle.places.specs.OneStore.{written_from, place_after}
use Rattle.places.specs.Filling.{filled}
use Rattle.news.specs.News.{news_byte}
use Rattle.polls.specs.Polls.{answer_bits, joined}
use Rattle.bus.specs.Bus as bus
use Rattle.way.specs.Way as way
use Rattle.answers.specs.Answers.{said}
use Rattle.mailstate.specs.Sizes.{sizes_obeyed, start_state, fits}
use Rattle.mailloop.specs.Sends as sends
use Rattle.mailloop.specs.Messages as messages
use Rattle.mailbox.specs.BusSide as bus-side
use Rattle.mailbox.specs.Calls as calls
use Rattle.maillaws.specs.Sights as see
use Rattle.maillaws.specs.NewsTold as news-told
use Rattle.maillaws.specs.Requesting.{shows_request}
use Rattle.maillaws.specs.NotReady.{ends_hold}
use Rattle.maillaws.specs.OwnReturns.{finishes, own_frame}
use Rattle.maillaws.specs.LoopRole as loop-role
use Rattle.maillaws.specs.BusRole as bus_role

-- what runs are
unfoldable runs_open : Unit {0}
unfolding end all some course finally under_way comes_back
runs_open = tt

-- frames, roles, the talker
unfoldable roles_open : Unit {0}
unfolding stripped with_service same_apart orders.own_address orders.listen_order orders.talk_order orders.other_order orders.order_of
roles_open = tt

unfoldable talker_open : Unit {0}
unfolding commands.merely_addressed commands.changed_role commands.obeyed_role ready_of talker-commands.forgotten talker-commands.obeyed_talker talking return_of
talker_open = tt

-- stores, news, polls, the bus's role, ways
unfoldable parts_open : Unit {0}
unfolding talker-fit.fit_test fit_test put_ring put_bytes drop_ring news_byte answer_bits joined way.empty_way way.left_in way.fetched
parts_open = tt

unfoldable bus_open : Unit {0}
unfolding bus.clears bus.response_after bus.serial_after bus.commanded bus.interface_cleared bus.poll_bits bus.fetch_of bus.fit_test
bus_open = tt

-- the state and its two sides
unfoldable state_open : Unit {0}
unfolding said sizes_obeyed start_state fits
state_open = tt

unfoldable sends_open : Unit {0}
unfolding sends.serviced sends.ended sends.sends sends.send_waiting sends.id_byte sends.send_id sends.send_accessory sends.send_status sends.send_next
sends_open = tt

unfoldable messages_open : Unit {0}
unfolding messages.response_after messages.command_state messages.command messages.released messages.identities messages.readied messages.ready messages.identify
messages_open = tt

unfoldable data_open : Unit {0}
unfolding messages.heard messages.judged messages.data_taken messages.frame_taken messages.frame_cells
data_open = tt

unfoldable side_open : Unit {0}
unfolding bus-side.bus_command bus-side.bus_clear bus-side.bus_byte bus-side.bus_cells bus-side.bus_lines
side_open = tt

unfoldable fetch_open : Unit {0}
unfolding bus-side.data_given bus-side.status_given bus-side.given bus-side.bus_fetch
fetch_open = tt

-- the calls
unfoldable calls_open : Unit {0}
unfolding calls.checks_on calls.checks calls.outcome calls.tobus_after calls.toloop_after calls.shown calls.not_refused calls.refused_or calls.step
calls_open = tt

-- what is seen of them
unfoldable sights_open : Unit {0}
unfolding see.left see.fetched see.restarts see.clears_by see.told news-told.ends_way news-told.gives_back shows_request ends_hold finishes own_frame
sights_open = tt

unfoldable laws_open : Unit {0}
unfolding loop-role.commanded loop-role.readied loop-role.returned_to loop-role.by_frame bus_role.commanded_bus bus_role.cleared_bus bus_role.fetched_bus
laws_open = tt

unfoldable places_open : Unit {0}
unfolding written_from place_after filled
places_open = tt

unfoldable mailbox_open : Unit {0}
unfolding roles_open talker_open parts_open bus_open state_open sends_open messages_open data_open side_open fetch_open calls_open
mailbox_open = tt

unfoldable pub computes : Unit {0}
unfolding runs_open mailbox_open sights_open laws_open places_open
computes = tt
