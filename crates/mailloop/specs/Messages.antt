-- Response to HP-IL messages: the table of section 4, group by group.
use Rattle.std.specs.Prelude.{ℕ, ◌+◌, ◌/◌, ◌≡◌, Bool, true, cond, ◌&&◌, ◌||◌, not, List, eqb, length}
use Rattle.frame.specs.Frame.{control_of, data_of, made, is_data, is_end}
use Rattle.role.specs.Role.{addressed, is_active}
use Rattle.role.specs.Orders.{order_of, is_clear}
use Rattle.role.specs.declared.Ready.{Ready}
use Rattle.role.specs.declared.Ready.TheVariants.{Pass, Address, Data, Status, Finish}
use Rattle.role.specs.ReadyFrames.{ready_of}
use Rattle.talker.specs.declared.Return.{Return}
use Rattle.talker.specs.declared.Return.TheVariants.{Damaged, StatusBack, Finished, Next}
use Rattle.talker.specs.Obeying.{obeyed_talker}
use Rattle.talker.specs.Readied.{assigned_talker, finishing_talker}
use Rattle.talker.specs.Returning.{return_of}
use Rattle.store.specs.Ring.{full, room, put_ring, put_bytes}
use Rattle.polls.specs.declared.Response.{Response}
use Rattle.polls.specs.Polls.{no_response, loop_response, joined}
use Rattle.news.specs.News as news
use Rattle.way.specs.Way.{empty_way, left_in, told}
use Rattle.mailstate.specs.declared.State.{State}
use Rattle.mailstate.specs.Outcome.{Outcome}
use Rattle.answers.specs.declared.Answer.TheVariants.{Frame}
use Rattle.mailstate.specs.State.{with_to_bus, with_to_loop, with_talker, with_hold, with_response, no_hold}
use Rattle.mailloop.specs.Sends.{serviced, ended, send_waiting, send_id, send_accessory, send_status, send_next}

-- the frame taken goes on, and the state is this one
abbrev pub passed : State → ℕ → Outcome
passed s f = record { state = s; answer = Frame f }

abbrev pub listens : State → Bool
listens s = s.talker.role.listener

-- ---- Command group

-- Auto address unconfigure: the address is 15 until another is assigned
abbrev pub home : ℕ
home = 15

-- Device clear, and selected device clear to a listener: the way to the bus is cleared
abbrev pub clears : State → ℕ → Bool
clears s d = is_clear (order_of home s.talker.role d)

-- Parallel poll disable to a listener and unconfigure, and enable to a listener
unfoldable pub response_after : State → ℕ → Response
response_after s d =
    cond ((eqb d 5 && listens s) || eqb d 21) no_response
    (cond (eqb (d / 16) 8 && listens s) (loop_response d)
    s.response)

-- Enable listener not ready, to a listener; any other command disables it, and every command forgets the frame that is held back
abbrev pub hold_after : State → ℕ → Bool
hold_after s d = eqb d 15 && listens s

-- interface clear, listen and talk addresses, unlisten and untalk: as every talker on the loop
unfoldable pub command_state : State → ℕ → State
command_state s d =
    with_response
    (with_hold
    (with_talker (cond (clears s d) (with_to_bus s (empty_way s.tobus.ring.cap)) s) (obeyed_talker s.talker (order_of home s.talker.role d)))
    (no_hold (hold_after s d)))
    (response_after s d)

unfoldable pub command : State → ℕ → Outcome
command s f = passed (command_state s (data_of f)) f

-- ---- Ready group

-- Not ready for data, come round: the frame that was held back goes on
unfoldable pub released : State → Outcome
released s = passed (with_hold s (no_hold s.hold.enabled)) (serviced s s.hold.frame)

-- Send device ID and send accessory ID, to a talker that has nothing under way
unfoldable pub identities : State → ℕ → Outcome
identities s f =
    cond (eqb (data_of f) 98 && eqb s.talker.role.phase addressed) (send_id s 0)
    (cond (eqb (data_of f) 99 && eqb s.talker.role.phase addressed) (send_accessory s)
    (passed s f))

unfoldable pub readied : State → List ℕ → ℕ → Ready → Outcome
-- Auto address: the next address goes on
readied s cells f Address = record { state = with_talker s (assigned_talker s.talker (data_of f)); answer = Frame (made 5 (data_of f + 1)) }
-- Send data
readied s cells f Data = send_waiting s cells
-- Send status
readied s cells f Status = send_status s
-- Not ready for data: the frame under way is the last
readied s cells f Finish = passed (with_talker s (finishing_talker s.talker)) f
readied s cells f Pass = identities s f

unfoldable pub ready : State → List ℕ → ℕ → Outcome
ready s cells f = cond (eqb (data_of f) 66 && s.hold.held) (released s) (readied s cells f (ready_of s.talker.role (data_of f)))

-- ---- Identify group

-- the poll's bit is joined to the byte, and the service bit is set where service is requested
unfoldable pub identify : State → ℕ → Outcome
identify s f = passed s (serviced s (made (control_of f) (joined s.response s.toloop.news.request (data_of f))))

-- ---- Data and end group

-- the cell of a data frame
abbrev pub cell_of : ℕ → ℕ
cell_of f = cond (is_end f) (data_of f + 256) (data_of f)

-- the buffer lacks room for the byte, and the frame waits
abbrev pub busy : State → ℕ → Bool
busy s f = (listens s && is_data f) && full s.tobus.ring

-- the byte leaves one place free, and the listener says that it is not ready
abbrev pub holds_back : State → Bool
holds_back s = (s.hold.enabled && not s.hold.held) && eqb (room (put_ring s.tobus.ring)) 1

-- the byte is kept
abbrev pub kept : State → State
kept s = with_to_bus s (left_in s.tobus)

unfoldable pub heard : State → ℕ → Outcome
heard s f =
    cond (holds_back s) (passed (with_hold (kept s) (record { enabled = true; held = true; frame = f })) (made 5 66))
    (passed (kept s) (serviced s f))

-- the outcome and the way to the bus after a frame that a listener keeps
pub record Kept (s : State) (tobus : List ℕ) (f : ℕ) (tobus' : List ℕ) (o : Outcome) : Type 0 where
  pub outcome : o ≡ heard s f
  pub cells : tobus' ≡ put_bytes tobus s.tobus.ring (cell_of f)
  pub size : length tobus' ≡ length tobus

-- our own frame comes back
unfoldable pub judged : State → List ℕ → Return → Outcome
judged s cells Damaged = ended s 65
judged s cells StatusBack = ended (with_to_loop s (told s.toloop (news.returned s.toloop.news (data_of s.talker.under.frame)))) 64
judged s cells Finished = ended s 64
judged s cells Next = send_next s cells

unfoldable pub data_taken : State → List ℕ → ℕ → Outcome
data_taken s cells f =
    cond (is_active s.talker.role) (judged s cells (return_of s.talker f))
    (cond (listens s) (heard s f)
    (passed s (serviced s f)))

-- ---- any message

unfoldable pub frame_taken : State → List ℕ → ℕ → Outcome
frame_taken s cells f =
    cond (is_data f) (data_taken s cells f)
    (cond (eqb (control_of f) 4) (command s f)
    (cond (eqb (control_of f) 5) (ready s cells f)
    (identify s f)))

-- the cells of the way to the bus after it
abbrev pub keeps : State → ℕ → Bool
keeps s f = (is_data f && not (is_active s.talker.role)) && listens s

unfoldable pub frame_cells : State → List ℕ → ℕ → List ℕ
frame_cells s cells f = cond (keeps s f) (put_bytes cells s.tobus.ring (cell_of f)) cells

-- the outcome and the way to the bus after a frame
pub record Framed (s : State) (tobus toloop : List ℕ) (f : ℕ) (tobus' : List ℕ) (o : Outcome) : Type 0 where
  pub outcome : o ≡ frame_taken s toloop f
  pub cells : tobus' ≡ frame_cells s tobus f
  pub size : length tobus' ≡ length tobus
