-- Sends from the receive store, over every call: what a send gives and what it leaves, and that nothing else removes a byte.
use Rattle.std.specs.Prelude.{ℕ, ◌≡◌, true, false, List, [], ◌∷◌, ◌++◌}
use Rattle.machine.specs.Course.{of}
use Rattle.machine.specs.Machine.{of_calls}
use Rattle.machine.specs.Turns.{Since}
use Rattle.reading.specs.Reading.{sent_rest, send}
use Rattle.reading.specs.Received.{as_held}
use Rattle.reading.specs.Steps.{cut}
use Rattle.answers.specs.Answers.{frame}
use Rattle.bridge.specs.Calls.{loop_frame, on}
use Rattle.laws.specs.Bridges.{Law, Saw, ByteCall}
use Rattle.laws.specs.Observers.{taken, on_frame, is_send, bytes_and_breaks, sent, empties}
use Rattle.laws.specs.Worlds.{held_to_send, rule_in, reading}
use Rattle.laws.specs.Demands.{line_to_loop}

-- the first of these, if any
abbrev pub first_of : List ℕ → List ℕ
first_of [] = []
first_of (f ∷ fs) = f ∷ []

-- a send: the first frame that the reading rule gives, or 5,64 if it has none
pub record SendsFirst (s : Saw) : Type 0 where
  pub first : of sent s ≡ first_of (reading s.before (held_to_send s.before))
  pub ends : reading s.before (held_to_send s.before) ≡ [] → s.answer ≡ frame 5 64
  -- The reading rule, last: step 1 as often as it holds, also when no frame follows, and nothing more is removed after the frame; a break
  -- behind the last byte that goes is gone with it
  pub rest : held_to_send s.after ≡ as_held (sent_rest (send (cut (rule_in s.before)) (held_to_send s.before)))

-- The reading rule, last: of every send, the answer to ready 96, or to an equal return unless finishing or of status
abbrev pub SendRule : Law
SendRule = of_calls (λ s. (f : ℕ) → s.call ≡ on (loop_frame f) → taken s.answer ≡ true → is_send s.before.state f ≡ true → SendsFirst s)

-- no other call removes a byte, but a create, reset or device clear removes all. A break is held behind the newest byte: several at one place
-- are one, and where nothing is held none is. A byte from the line is below 256, as its type says
abbrev pub NoneRemoved : Law
NoneRemoved =
    of_calls
    (λ s. ByteCall s.call → of empties s ≡ false → on_frame (is_send s.before.state) false s.call ≡ false →
    held_to_send s.after ≡ as_held (held_to_send s.before ++ of bytes_and_breaks s))

-- ---- the receive store since it was emptied

-- Frames, device clear: both stores empty; since a create, reset or device clear the frames sent, followed by those of the bytes still held,
-- are those of all accepted since, each read by its rule, and of nothing that was held before
abbrev pub FramesSince : Law
FramesSince = Since line_to_loop empties empties
