-- Mailboxes whose role on the loop goes wrong.
use Rattle.std.specs.Prelude.{ℕ, ◌+◌, Bool, true, false, cond, ◌&&◌, ◌||◌, eqb, leb, ltb}
use Rattle.frame.specs.Frame.{control_of, data_of}
use Rattle.role.specs.declared.Role.{Role}
use Rattle.role.specs.Role.{is_unassigned, is_active, with_address, with_phase, with_listener}
use Rattle.role.specs.Orders.{number_of}
use Rattle.mailbox.specs.Calls.{Call, World, Did}
use Rattle.maillaws.specs.Sights.{on_frame}
use Rattle.mailwrong.specs.Spoiling.{leaving, having, with_loop_role, is_command}

-- ours, with the role on the loop changed by the call and the role before and after it
abbrev turning : (Call → Role → Role → Role) → Call → World → Did
turning change = leaving (λ c w v. having (λ s. with_loop_role (change c w.state.talker.role s.talker.role) s) v)

-- reads 63 as the listen address 31 while it has no address
abbrev pub listens_at31 : Call → World → Did
listens_at31 = turning (λ c before after. cond (is_unassigned before && is_command 63 c) (with_listener (with_phase after 0) true) after)

-- takes no notice of the address 15 while it has no other
abbrev pub not_at15 : Call → World → Did
not_at15 = turning (λ c before after. cond (is_unassigned before && (is_command 47 c || is_command 79 c)) before after)

-- stays listener when its talk address comes
abbrev pub talks_while_listening : Call → World → Did
talks_while_listening = turning (λ c before after. cond (is_command (64 + before.address) c) (with_listener after before.listener) after)

-- gives its address back at an interface clear of the loop
abbrev pub loses_address : Call → World → Did
loses_address = turning (λ c before after. cond (is_command 144 c) (with_address after 31) after)

-- ready 128 to 158
abbrev offers_address : ℕ → Bool
offers_address f = eqb (control_of f) 5 && (leb 128 (data_of f) && ltb (data_of f) 159)

-- takes another address though it has one
abbrev pub addressed_anew : Call → World → Did
addressed_anew = turning (λ c before after. on_frame (λ f. cond (offers_address f) (with_address after (number_of (data_of f))) after) after c)

-- goes on waiting for its own frame when a command has cut it off
abbrev pub waits_on_at_command : Call → World → Did
waits_on_at_command =
    turning (λ c before after. cond (on_frame (λ f. eqb (control_of f) 4) false c && is_active before) (with_phase after before.phase) after)
