-- The talker when a frame has been sent, and when sending ends.
use Rattle.std.specs.Prelude.{ℕ, false}
use Rattle.role.specs.Role.{addressed, with_phase}
use Rattle.talker.specs.declared.Talker.{Talker}

-- Frames, ready 96 and 97: in another phase, with this frame under way and not the last yet
unfoldable pub talking : Talker → ℕ → ℕ → Talker
talking t phase f = record { role = with_phase t.role phase; under = record { frame = f; finishing = false } }

-- Frames, returns, after 5,64 or 5,65: addressed, and nothing under way
abbrev pub ended_talker : Talker → Talker
ended_talker t = talking t addressed 0
