-- What a ready frame does to the talker, but for what is then sent.
use Rattle.std.specs.Prelude.{ℕ, true}
use Rattle.role.specs.ReadyFrames.{assigned_role}
use Rattle.talker.specs.declared.Talker.{Talker}

-- Frames, ready 128+n: the address is taken from the byte d
abbrev pub assigned_talker : Talker → ℕ → Talker
assigned_talker t d = record { role = assigned_role t.role d; under = t.under }

-- Frames, ready 66: the frame under way stays, and is the last
abbrev pub finishing_talker : Talker → Talker
finishing_talker t = record { role = t.role; under = record { frame = t.under.frame; finishing = true } }
