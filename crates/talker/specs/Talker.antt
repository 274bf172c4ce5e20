-- The parts of a talker: its role on the loop, and the frame under way.
use Rattle.std.specs.Prelude.{false}
use Rattle.role.specs.Role.{start_role}
use Rattle.talker.specs.declared.Under.{Under}
use Rattle.talker.specs.declared.Talker.{Talker}

-- no frame is under way
abbrev pub no_frame : Under
no_frame = record { frame = 0; finishing = false }

-- Frames, start: nothing sent yet
abbrev pub start_talker : Talker
start_talker = record { role = start_role; under = no_frame }
