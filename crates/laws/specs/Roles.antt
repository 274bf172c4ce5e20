-- How the role and the remote flags go, over every call: by the frame, the role before it and the answer. Each part by itself.
use Rattle.std.specs.Prelude.{ℕ, ◌+◌, ◌-◌, ◌≡◌, Bool, false, cond, ◌&&◌, ◌||◌, not, eqb, leb, ltb}
use Rattle.machine.specs.Course.{of}
use Rattle.machine.specs.Machine.{of_calls}
use Rattle.frame.specs.Frame.{control_of, data_of, is_data}
use Rattle.role.specs.declared.Role.{Role}
use Rattle.role.specs.declared.remote.Remote.{Remote}
use Rattle.state.specs.declared.State.{State}
use Rattle.answers.specs.Answers.{Said}
use Rattle.laws.specs.Bridges.{Law}
use Rattle.laws.specs.Observers.{any, taken, data_frame, starts_anew, on_frame}

-- ---- commands, by the data byte d and the role before

-- 32+n and 64+n with our address n, which is not 31
abbrev pub listens : Role → ℕ → Bool
listens r d = eqb d (32 + r.address) && not (eqb r.address 31)

abbrev pub talks : Role → ℕ → Bool
talks r d = eqb d (64 + r.address) && not (eqb r.address 31)

-- 64+n with another n ends talking
abbrev pub untalks : Role → ℕ → Bool
untalks r d = (leb 64 d && ltb d 96) && not (talks r d)

-- Frames, commands, 63 and 144; 64+n to us ends listening too
abbrev pub listener_by : Role → ℕ → Bool
listener_by r d = cond ((eqb d 63 || eqb d 144) || talks r d) false (listens r d || r.listener)

-- the talker: 0 none, 1 addressed, 2 active with data, 3 active with status; an active one first becomes addressed
abbrev pub talker_by : Role → ℕ → ℕ
talker_by r d = cond ((listens r d || untalks r d) || eqb d 144) 0 (cond (talks r d || leb 2 r.phase) 1 r.phase)

-- Frames, commands, 154
abbrev pub address_by : Role → ℕ → ℕ
address_by r d = cond (eqb d 154) 31 r.address

-- Frames, commands, 146 and 147
abbrev pub enabled_by : Remote → ℕ → Bool
enabled_by m d = cond (eqb d 147) false (eqb d 146 || m.enabled)

-- Frames, commands: 147 ends remote, 1 to a listener is local, and a listen address makes remote where that is enabled
abbrev pub remote_by : Role → Remote → ℕ → Bool
remote_by r m d = cond (eqb d 147 || (eqb d 1 && r.listener)) false (cond (listens r d) (m.remote || m.enabled) m.remote)

unfoldable pub commanded : Role → ℕ → Role
commanded r d = record { address = address_by r d; phase = talker_by r d; listener = listener_by r d }

unfoldable pub commanded_remote : Role → Remote → ℕ → Remote
commanded_remote r m d = record { enabled = enabled_by m d; remote = remote_by r m d }

-- ---- ready frames, by the data byte and whether a data frame was answered

-- Frames, ready 128+n, n at most 30, to an unassigned device
abbrev pub assigns : Role → ℕ → Bool
assigns r d = (leb 128 d && ltb d 159) && eqb r.address 31

-- Frames, ready 96 and 97, to an addressed talker
abbrev pub asked : Role → ℕ → ℕ → Bool
asked r d n = eqb d n && eqb r.phase 1

unfoldable pub readied : Role → ℕ → Bool → Role
readied r d sent =
    record {
      address = cond (assigns r d) (d - 128) r.address;
      phase = cond (asked r d 96) (cond sent 2 1) (cond (asked r d 97) 3 r.phase);
      listener = r.listener;
    }

-- ---- a data frame: a return leaves an active talker active where the next frame is sent, else addressed

unfoldable pub returned_to : Role → Bool → Role
returned_to r sent =
    record {
      address = r.address;
      phase = cond (leb 2 r.phase) (cond sent 2 1) r.phase;
      listener = r.listener;
    }

-- ---- every call

-- the role after a frame that is not refused
unfoldable pub by_frame : ℕ → Role → Said → Role
by_frame f r a =
    cond (is_data f) (returned_to r (any (data_frame a)))
    (cond (eqb (control_of f) 4) (commanded r (data_of f))
    (cond (eqb (control_of f) 5) (readied r (data_of f) (any (data_frame a)))
    r))

-- the remote flags after a frame that is not refused: commands alone change them
unfoldable pub remote_by_frame : ℕ → Role → Remote → Remote
remote_by_frame f r m = cond (eqb (control_of f) 4) (commanded_remote r m (data_of f)) m

-- a part of the state that frames change so: no other call changes it, but a create or reset, which begin it
abbrev goes : {X : Type 0} → (State → X) → (ℕ → State → Said → X) → Law
goes part change =
    of_calls
    (λ s. of starts_anew s ≡ false →
    part s.after.state ≡
    on_frame (λ f. cond (taken s.answer) (change f s.before.state s.answer) (part s.before.state)) (part s.before.state) s.call)

abbrev pub RoleGoes : Law
RoleGoes = goes (λ s. s.talker.role) (λ f s a. by_frame f s.talker.role a)

abbrev pub RemoteGoes : Law
RemoteGoes = goes (λ s. s.remote) (λ f s a. remote_by_frame f s.talker.role s.remote)
