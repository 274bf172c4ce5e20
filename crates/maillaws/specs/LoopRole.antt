-- How the role on the loop goes, over every call: by the frame, the role before it and the answer. Each part by itself.
use Rattle.std.specs.Prelude.{ℕ, ◌+◌, ◌-◌, ◌≡◌, Bool, false, cond, ◌&&◌, ◌||◌, not, eqb, leb, ltb}
use Rattle.machine.specs.Machine.{of_calls}
use Rattle.frame.specs.Frame.{control_of, data_of, is_data}
use Rattle.role.specs.declared.Role.{Role}
use Rattle.answers.specs.Answers.{Said}
use Rattle.maillaws.specs.Mailboxes.{Law}
use Rattle.maillaws.specs.Sights.{any, taken, data_byte, on_frame, restarts}

-- System startup and addressing: the address is 15 until another is assigned; 31 says that none is
abbrev pub own_address : Role → ℕ
own_address r = cond (eqb r.address 31) 15 r.address

-- Listen address and talk address: ours, and 31 is nobody's
abbrev pub listens : Role → ℕ → Bool
listens r d = eqb d (32 + own_address r) && not (eqb d 63)

abbrev pub talks : Role → ℕ → Bool
talks r d = eqb d (64 + own_address r) && not (eqb d 95)

-- Talk address with another address, and untalk
abbrev pub untalks : Role → ℕ → Bool
untalks r d = (leb 64 d && ltb d 96) && not (talks r d)

-- Unlisten, interface clear, and our talk address
abbrev pub listener_by : Role → ℕ → Bool
listener_by r d = cond ((eqb d 63 || eqb d 144) || talks r d) false (listens r d || r.listener)

-- the talker: 0 none, 1 addressed, 2 active with data or an ID, 3 active with status; an active one first becomes addressed
abbrev pub talker_by : Role → ℕ → ℕ
talker_by r d = cond ((listens r d || untalks r d) || eqb d 144) 0 (cond (talks r d || leb 2 r.phase) 1 r.phase)

unfoldable pub commanded : Role → ℕ → Role
commanded r d = record { address = cond (eqb d 154) 31 r.address; phase = talker_by r d; listener = listener_by r d }

-- Auto address, below 31, to a device that has none
abbrev pub assigns : Role → ℕ → Bool
assigns r d = (leb 128 d && ltb d 159) && eqb r.address 31

-- Send data, send device ID and send accessory ID
abbrev pub asks_frames : ℕ → Bool
asks_frames d = eqb d 96 || (eqb d 98 || eqb d 99)

-- a ready frame; sent is whether a data frame was answered
unfoldable pub readied : Role → ℕ → Bool → Role
readied r d sent =
    record {
      address = cond (assigns r d) (d - 128) r.address;
      phase = cond (eqb r.phase 1 && asks_frames d) (cond sent 2 1) (cond (eqb r.phase 1 && eqb d 97) 3 r.phase);
      listener = r.listener;
    }

-- a data frame: a return leaves an active talker active where the next frame is sent, else addressed
unfoldable pub returned_to : Role → Bool → Role
returned_to r sent = record { address = r.address; phase = cond (leb 2 r.phase) (cond sent 2 1) r.phase; listener = r.listener }

-- the role after a frame that is not refused
unfoldable pub by_frame : ℕ → Role → Said → Role
by_frame f r a =
    cond (is_data f) (returned_to r (any (data_byte a)))
    (cond (eqb (control_of f) 4) (commanded r (data_of f))
    (cond (eqb (control_of f) 5) (readied r (data_of f) (any (data_byte a)))
    r))

-- no other call changes it, but a create or reset, which begin it
abbrev pub LoopRoleGoes : Law
LoopRoleGoes =
    of_calls
    (λ s. restarts s.call s.answer ≡ false →
    s.after.state.talker.role ≡
    on_frame (λ f. cond (taken s.answer) (by_frame f s.before.state.talker.role s.answer) s.before.state.talker.role)
    s.before.state.talker.role s.call)
