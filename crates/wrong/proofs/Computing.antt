-- One name that opens all that a concrete run needs: `unfolding computes` on a refutation lets the checker run the bridge. Assumes nothing.
use Rattle.machine.specs.Course.{end, all, some}
use Rattle.machine.specs.Machine.{course, finally}
use Rattle.frame.specs.Frame.{stripped, with_service, same_apart}
use Rattle.reading.specs.Reading.{in_cuts, by_cuts}
use Rattle.reading.specs.Received.{received, bytes_in, as_held}
use Rattle.reading.specs.Steps.{cut}
use Rattle.cells.specs.Newest.{replaced_cells}
use Rattle.line.specs.Breaks.{break_cells}
use Rattle.registers.specs.Table.{table, row_in, carried_of, start_of, start_registers}
use Rattle.registers.specs.Bits.{too_large, bit_not_carried, in_range}
use Rattle.registers.specs.RegistersFit.{values, value_in, all_in_range, registers_fit}
use Rattle.registers.specs.Writing.{written, write_checks}
use Rattle.role.specs.Orders as orders
use Rattle.role.specs.Commands as commands
use Rattle.role.specs.Remote.{obeyed_remote}
use Rattle.role.specs.ReadyFrames.{ready_of}
use Rattle.talker.specs.Obeying as talker-commands
use Rattle.talker.specs.Returning.{return_of}
use Rattle.talker.specs.TalkerFit as talker-fit
use Rattle.store.specs.Ring.{fit_test, put_ring, put_bytes, puts_ring, puts_bytes, drop_ring}
use Rattle.status.specs.Status.{status_byte}
use Rattle.sending.specs.Sending.{send_held, sent_ring}
use Rattle.answers.specs.Answers.{said, is_byte, byte_in}
use Rattle.state.specs.Sizes.{sizes_obeyed, start_state, fits}
use Rattle.state.specs.Conditions as status
use Rattle.line.specs.HoldingOff as line
use Rattle.loopside.specs.LoopToLine.{adds, busy, added_state, added_bytes}
use Rattle.talker.specs.UnderWay.{talking}
use Rattle.loopside.specs.Sends.{ended, rule_of, removed_state, send_state, send_from, send_status}
use Rattle.loopside.specs.Frames as frames
use Rattle.bridge.specs.Calls as calls
use Rattle.laws.specs.Observers as see
use Rattle.laws.specs.ByRules as rules
use Rattle.laws.specs.StatusWay as way
use Rattle.laws.specs.Holding as holding
use Rattle.laws.specs.NextByte as next
use Rattle.laws.specs.LastSent as last
use Rattle.laws.specs.AskThenTake as ask-take
use Rattle.laws.specs.Returns.{finishes}
use Rattle.laws.specs.Spells.{spells}
use Rattle.laws.specs.StatusTold.{number_of}
use Rattle.laws.specs.Roles as roles
use Rattle.places.specs.OneStore as places
use Rattle.places.specs.Filling.{filled}
use Rattle.laws.specs.Registers.{written_to}
use Rattle.laws.specs.Requests.{comes}

-- what runs are
unfoldable runs_open : Unit {0}
unfolding end all some course finally
runs_open = tt

-- frames, the reading rule, registers, roles, the talker, stores and a send from one
unfoldable parts_open : Unit {0}
unfolding stripped with_service same_apart in_cuts by_cuts received bytes_in as_held cut table row_in carried_of start_of start_registers too_large bit_not_carried in_range values
parts_open = tt

unfoldable registers_open : Unit {0}
unfolding value_in all_in_range registers_fit written write_checks orders.own_address orders.listen_order orders.talk_order orders.other_order orders.order_of
registers_open = tt

unfoldable roles_open : Unit {0}
unfolding commands.merely_addressed commands.changed_role commands.obeyed_role obeyed_remote ready_of
roles_open = tt

unfoldable talker_open : Unit {0}
unfolding talker-commands.forgotten talker-commands.obeyed_talker talking return_of talker-fit.fit_test
talker_open = tt

unfoldable stores_open : Unit {0}
unfolding fit_test put_ring put_bytes puts_ring puts_bytes drop_ring replaced_cells status_byte send_held sent_ring
stores_open = tt

-- the state, its line and its loop
unfoldable state_open : Unit {0}
unfolding said is_byte byte_in sizes_obeyed start_state fits status.conditions status.enabled_by status.asking status.settled status.shows status.serviced
state_open = tt

unfoldable status_open : Unit {0}
unfolding status.status_of status.after_status status.after_status_back status.break_state status.key_state
status_open = tt

unfoldable line_open : Unit {0}
unfolding line.is_go_or_stop line.flowed line.stored_with line.lost_state line.line_state line.line_bytes line.resumed line.set_afresh line.after_write break_cells
line_open = tt

unfoldable out_open : Unit {0}
unfolding line.next_out line.is_next line.gone line.out_answer adds busy added_state added_bytes
out_open = tt

unfoldable sends_open : Unit {0}
unfolding ended rule_of removed_state send_state send_from send_status
sends_open = tt

unfoldable frames_open : Unit {0}
unfolding frames.cleared frames.obeyed frames.command_state frames.command frames.readied frames.ready
frames_open = tt

unfoldable data_open : Unit {0}
unfolding frames.judged frames.returned frames.data_passed frames.identify frames.frame_taken frames.device_clear frames.adds_bytes frames.frame_bytes
data_open = tt

-- the calls
unfoldable calls_open : Unit {0}
unfolding calls.held_line calls.checks_on calls.checks calls.outcome calls.settled_by calls.rx_after calls.tx_after calls.shown calls.not_refused calls.refused_or calls.step
calls_open = tt

unfoldable told_open : Unit {0}
unfolding calls.room_of
told_open = tt

-- what is seen of them
unfoldable sights_open : Unit {0}
unfolding see.equal_return see.is_send see.asks_status see.passes_on see.is_flow see.arrived see.accepted see.lost see.sent see.status_sent
sights_open = tt

unfoldable others_open : Unit {0}
unfolding see.bytes_and_breaks see.bytes_and_marks see.added see.handed_out see.restarts see.writes see.clears way.ends_way way.under_way way.status_back way.comes_back
others_open = tt

unfoldable laws_open : Unit {0}
unfolding holding.sends holding.holding_after next.after_byte next.forbidden_after next.next_byte last.last_of last.last_sent finishes spells number_of
laws_open = tt

unfoldable roles_said : Unit {0}
unfolding ask-take.given_state roles.commanded roles.readied roles.returned_to roles.by_frame roles.commanded_remote roles.remote_by_frame written_to comes
roles_said = tt

unfoldable rules_open : Unit {0}
unfolding rules.joined rules.stretches rules.read_each
rules_open = tt

unfoldable places_open : Unit {0}
unfolding places.written_from places.place_after filled
places_open = tt

unfoldable bridge_open : Unit {0}
unfolding parts_open registers_open roles_open talker_open stores_open state_open status_open line_open out_open sends_open frames_open data_open calls_open
bridge_open = tt

unfoldable pub computes : Unit {0}
unfolding runs_open bridge_open told_open sights_open others_open laws_open roles_said rules_open places_open
computes = tt
