-- Frames: what each frame taken does, and the one frame out.
use Rattle.std.specs.Prelude.{◌≡◌, ℕ, ◌+◌, Bool, false, cond, not, ◌&&◌, List, length, ◌==◌}
use Rattle.frame.specs.Frame.{control_of, data_of, made, is_data}
use Rattle.role.specs.declared.Order.{Order}
use Rattle.role.specs.declared.Ready.{Ready}
use Rattle.role.specs.declared.Ready.TheVariants.{Pass, Address, Data, Status, Finish}
use Rattle.role.specs.Role.{is_active}
use Rattle.role.specs.Orders.{order_of, is_device_clear, is_clear}
use Rattle.role.specs.Remote.{obeyed_remote}
use Rattle.role.specs.ReadyFrames.{ready_of}
use Rattle.talker.specs.declared.Return.{Return}
use Rattle.talker.specs.declared.Return.TheVariants.{Damaged, StatusBack, Finished, Next}
use Rattle.talker.specs.Obeying.{obeyed_talker}
use Rattle.talker.specs.Readied.{assigned_talker, finishing_talker}
use Rattle.talker.specs.Returning.{return_of}
use Rattle.store.specs.Ring.{Within, empty_ring}
use Rattle.state.specs.declared.State.{State}
use Rattle.state.specs.Outcome.{Outcome}
use Rattle.answers.specs.declared.Answer.TheVariants.{Frame}
use Rattle.state.specs.State.{with_talker, with_remote, with_rx, with_tx, with_line, with_notes, no_events}
use Rattle.loopside.specs.LoopToLine.{added_state, added_bytes}
use Rattle.state.specs.Conditions.{serviced, settled, after_status_back}
use Rattle.loopside.specs.Sends.{ended, send_from, send_status}

-- Frames, control bits: what is done with a data frame, with or without a service request; a command; a ready frame; any other, which identifies
abbrev pub by_control : ℕ → Outcome → Outcome → Outcome → Outcome → Outcome
by_control f asData asCommand asReady asOther =
    cond (is_data f) asData
    (cond (control_of f == 4) asCommand
    (cond (control_of f == 5) asReady
    asOther))

-- the frame taken goes on, and the state is this one
abbrev pub passed : State → ℕ → Outcome
passed s f = record { state = s; answer = Frame f }

-- ---- commands

-- the address that an unassigned bridge answers to: 31, which makes no listener and no talker
abbrev pub home : ℕ
home = 31

-- Frames, commands, 20 and 4: nothing is held, the line flows both ways, and nothing is to be told; what we sent last, go or stop, is remembered
unfoldable pub cleared : State → State
cleared s =
    with_notes
    (with_line (with_tx (with_rx s (empty_ring s.rx.cap)) (empty_ring s.tx.cap))
    (record { holding = false; forbidden = false; stopped = s.line.stopped }))
    (record { seen = no_events; again = no_events; request = false })

-- the talker and the remote flags after an order
unfoldable pub obeyed : State → Order → State
obeyed s o = with_remote (with_talker s (obeyed_talker s.talker o)) (obeyed_remote s.remote o)

-- the state after an order
unfoldable pub command_state : State → Order → State
command_state s o = cond (is_clear o) (cleared (obeyed s o)) (obeyed s o)

-- the order that a frame is to us
abbrev pub order_in : State → ℕ → Order
order_in s f = order_of home s.talker.role (data_of f)

-- Frames, commands: every device on the loop is to hear them
unfoldable pub command : State → ℕ → Outcome
command s f = passed (command_state s (order_in s f)) f

-- Status byte, requests: the same with the request that it began; a device clear leaves none
unfoldable pub command_settled : State → ℕ → Outcome
command_settled s f =
    record {
      state = cond (is_clear (order_in s f)) (command s f).state (settled s (command s f).state);
      answer = (command s f).answer;
    }

-- ---- ready frames

unfoldable pub readied : State → List ℕ → ℕ → Ready → Outcome
-- Frames, ready 128+n: the address is taken, and the next one offered to the next device
readied s rx f Address = record { state = with_talker s (assigned_talker s.talker (data_of f)); answer = Frame (made 5 (data_of f + 1)) }
-- Frames, ready 96: the first frame, if there is one
readied s rx f Data = send_from s rx
-- Frames, ready 97: the status byte
readied s rx f Status = send_status s
-- Frames, ready 66: the frame under way is the last
readied s rx f Finish = passed (with_talker s (finishing_talker s.talker)) f
-- Frames, other ready frames
readied s rx f Pass = passed s f

unfoldable pub ready : State → List ℕ → ℕ → Outcome
ready s rx f = readied s rx f (ready_of s.talker.role (data_of f))

-- ---- data and identify frames

unfoldable pub judged : State → List ℕ → Return → Outcome
-- Frames, returns, unequal: damage is told to the loop
judged s rx Damaged = ended s 65
-- Frames, returns, equal and status: what the byte showed has been told
judged s rx StatusBack = ended (after_status_back s (data_of s.talker.under.frame)) 64
-- Frames, returns, equal and finishing: no more is sent
judged s rx Finished = ended s 64
-- Frames, returns, equal: the next frame, if there is one
judged s rx Next = send_from s rx

-- Frames, returns: a data frame taken while ours is under way
unfoldable pub returned : State → List ℕ → ℕ → Outcome
returned s rx f = judged s rx (return_of s.talker f)

-- Frames, other data frames: a listener keeps what passes
unfoldable pub data_passed : State → ℕ → Outcome
data_passed s f = passed (cond s.talker.role.listener (added_state s f) s) (serviced s f)

-- the state and the transmit store after a data frame that is no return
pub record Passed (s : State) (tx : List ℕ) (f : ℕ) (tx' : List ℕ) (o : Outcome) : Type 0 where
  pub outcome : o ≡ data_passed s f
  pub within : Within o.state.tx
  pub bytes : tx' ≡ cond s.talker.role.listener (added_bytes s tx f) tx
  pub size : length tx' ≡ length tx

-- Frames, the service bit, identify frames: only the service bit is ours to change
unfoldable pub identify : State → ℕ → Outcome
identify s f = passed s (serviced s f)

-- a frame taken; a data frame is a return where ours is under way
unfoldable pub frame_taken : State → List ℕ → ℕ → Outcome
frame_taken s rx f = by_control f (cond (is_active s.talker.role) (returned s rx f) (data_passed s f)) (command s f) (ready s rx f) (identify s f)

-- Frames, commands: 20, or 4 to a listener, is a device clear
unfoldable pub device_clear : State → ℕ → Bool
device_clear s f = control_of f == 4 && is_device_clear s.talker.role.listener (data_of f)

-- Status byte, requests: what the frame f gives, with the request that it began; a device clear leaves none
abbrev pub settled_frame : State → ℕ → Outcome → Outcome
settled_frame s f o = record { state = cond (device_clear s f) o.state (settled s o.state); answer = o.answer }

-- a frame taken, with the request that it began
unfoldable pub frame_settled : State → List ℕ → ℕ → Outcome
frame_settled s rx f = settled_frame s f (frame_taken s rx f)

-- a data frame that a listener stores
unfoldable pub adds_bytes : State → ℕ → Bool
adds_bytes s f = (is_data f && not (is_active s.talker.role)) && s.talker.role.listener

-- the bytes of the transmit store after a frame
unfoldable pub frame_bytes : State → List ℕ → ℕ → List ℕ
frame_bytes s tx f = cond (adds_bytes s f) (added_bytes s tx f) tx

-- the outcome and the transmit store after a frame; no more is held than it has places, so that its room can be told
pub record Framed (s : State) (rx tx : List ℕ) (f : ℕ) (tx' : List ℕ) (o : Outcome) : Type 0 where
  pub outcome : o ≡ frame_settled s rx f
  pub within : Within o.state.tx
  pub bytes : tx' ≡ frame_bytes s tx f
  pub size : length tx' ≡ length tx
