-- Demand 3, first, where no register is written: one rule reads all.
use Rattle.std.specs.Prelude.{◌≡◌, ◌++◌}
use Rattle.machine.specs.Course.{end, all, Without}
use Rattle.machine.specs.Machine.{of_runs, Obeys}
use Rattle.bridge.specs.Calls.{Call, World, Did}
use Rattle.laws.specs.Bridges.{Law, bridge}
use Rattle.laws.specs.Observers.{bytes_and_breaks, sent, changes}
use Rattle.laws.specs.Worlds.{held_to_send, reading}
use Rattle.laws.specs.Demands.{FramesRead}
use Rattle.laws.specs.Registers.{RegistersGo}

-- in a run without create, reset, register write and device clear, the frames sent and then what the rule gives for what is still held are
-- together what it gives for all there was
abbrev pub ReadByOneRule : Law
ReadByOneRule =
    of_runs
    (λ w ss. Without changes ss →
    all sent ss ++ reading (end w ss) (held_to_send (end w ss)) ≡ reading w (held_to_send w ++ all bytes_and_breaks ss))

-- every bridge that reads each byte by its rule, and whose registers go as they shall, obeys it
abbrev pub OneRuleFollows : Type 0
OneRuleFollows = (B : Call → World → Did) → Obeys (bridge B) FramesRead → Obeys (bridge B) RegistersGo → Obeys (bridge B) ReadByOneRule
