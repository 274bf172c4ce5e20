-- Bridges whose role on the loop or whose remote flags go wrong.
use Rattle.std.specs.Prelude.{ℕ, ◌+◌, Bool, true, false, cond, ◌&&◌, eqb, leb, ltb}
use Rattle.frame.specs.Frame.{control_of, data_of, is_data}
use Rattle.role.specs.declared.Role.{Role}
use Rattle.role.specs.Role.{is_unassigned, is_active, with_address, with_phase, with_listener}
use Rattle.role.specs.Orders.{number_of}
use Rattle.state.specs.State.{with_remote}
use Rattle.bridge.specs.Calls.{Call, World, Did}
use Rattle.laws.specs.Observers.{on_frame}
use Rattle.wrong.specs.Changing.{afterwards, is_command, with_role}

-- ours, with the role changed by the role before and after the call
abbrev turning : (Call → Role → Role → Role) → Call → World → Did
turning change = afterwards (λ c w s. with_role s (change c w.state.talker.role s.talker.role))

-- takes no notice of the command d
abbrev pub ignoring : ℕ → Call → World → Did
ignoring d = afterwards (λ c w s. cond (is_command d c) (with_remote (with_role s w.state.talker.role) w.state.remote) s)

-- is never talker: also 64+n with our own address ends talking
abbrev pub never_talker : Call → World → Did
never_talker = turning (λ c before after. cond (is_command (64 + before.address) c) (with_phase after 0) after)

-- is never listener: 32+n with our own address does not make us one
abbrev pub never_listener : Call → World → Did
never_listener = turning (λ c before after. cond (is_command (32 + before.address) c) (with_listener after false) after)

-- reads 63 as the listen address 31 while unassigned
abbrev pub listens_to31 : Call → World → Did
listens_to31 = turning (λ c before after. cond (is_unassigned before && is_command 63 c) (with_listener (with_phase after 0) true) after)

-- stays talker when it becomes listener
abbrev pub talker_and_listener : Call → World → Did
talker_and_listener = turning (λ c before after. cond (is_command (32 + before.address) c) (with_phase after before.phase) after)

-- ours, where an active talker stays active at the frames that the test finds
abbrev active_at : (ℕ → Bool) → Call → World → Did
active_at test = turning (λ c before after. cond (on_frame test false c && is_active before) (with_phase after before.phase) after)

-- an active talker stays active at a command
abbrev pub active_throughout : Call → World → Did
active_throughout = active_at (λ f. eqb (control_of f) 4)

-- stays active after 5,64 and 5,65
abbrev pub never_ends : Call → World → Did
never_ends = active_at is_data

-- ready 128+n
abbrev offers_address : ℕ → Bool
offers_address f = eqb (control_of f) 5 && (leb 128 (data_of f) && ltb (data_of f) 159)

-- takes an address from 128+n though it has one
abbrev pub readdressed : Call → World → Did
readdressed = turning (λ c before after. on_frame (λ f. cond (offers_address f) (with_address after (number_of (data_of f))) after) after c)

-- becomes remote at its listen address though that is not enabled
abbrev pub remote_unasked : Call → World → Did
remote_unasked =
    afterwards
    (λ c w s. cond (is_command (32 + w.state.talker.role.address) c) (with_remote s (record { enabled = s.remote.enabled; remote = true })) s)
