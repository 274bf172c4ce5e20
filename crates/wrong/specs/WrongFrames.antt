-- Bridges that answer frames wrongly.
use Rattle.std.specs.Prelude.{◌+◌, ◌&&◌, not, eqb}
use Rattle.frame.specs.Frame.{control_of, data_of, made, has_service, stripped, with_service}
use Rattle.answers.specs.Answers.{Said, done, none, byte, frame, refused, part, cell, lines}
use Rattle.bridge.specs.Calls.{Call, World, Did}
use Rattle.laws.specs.Observers.{is_send, passes_on}
use Rattle.laws.specs.Passing.{as_frame}
use Rattle.laws.specs.Roles.{assigns}
use Rattle.laws.specs.StatusTold.{shows}
use Rattle.laws.specs.Worlds.{requested}
use Rattle.wrong.specs.Changing.{answering_frame}

-- answers 128+n with 128+n: the next device gets the same address
abbrev pub same_address_on : Call → World → Did
same_address_on = answering_frame (λ w f. eqb (control_of f) 5 && assigns w.state.talker.role (data_of f)) (λ w f a. as_frame f)

-- sets the service bit on commands, which makes other frames of them
abbrev pub service_on_commands : Call → World → Did
service_on_commands = answering_frame (λ w f. eqb (control_of f) 4 && shows w) (λ w f a. as_frame (with_service f))

-- takes another device's service request off the frames that pass
abbrev pub takes_service : Call → World → Did
takes_service = answering_frame (λ w f. passes_on w.state f && not (shows w)) (λ w f a. as_frame (stripped f))

-- sets the service bit where a request has begun and is not to show
abbrev pub shows_hidden : Call → World → Did
shows_hidden = answering_frame (λ w f. passes_on w.state f && requested w) (λ w f a. as_frame (with_service f))

-- the answer with its service bit on, where it is a frame
abbrev on_service : Said → Said
on_service (frame k d) = as_frame (with_service (made k d))
on_service (refused n) = refused n
on_service done = done
on_service none = none
on_service (byte b) = byte b
on_service (part xs) = part xs
on_service (cell n) = cell n
on_service (lines n) = lines n

-- gives the frame that it sends the service bit of the one that came back
abbrev pub carries_service_over : Call → World → Did
carries_service_over = answering_frame (λ w f. is_send w.state f && has_service f) (λ w f a. on_service a)

-- adds 1 to the data of a ready frame that passes, also to 255: the data no longer fits eight bits
abbrev pub counts_ready_on : Call → World → Did
counts_ready_on = answering_frame (λ w f. eqb (control_of f) 5) (λ w f a. frame 5 (data_of f + 1))

-- answers a data frame with its control bits and its data in one number, as one that packs them for a register of its own
abbrev pub packs_control : Call → World → Did
packs_control = answering_frame (λ w f. passes_on w.state f) (λ w f a. frame 0 f)
