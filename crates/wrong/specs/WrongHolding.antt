-- Bridges that hold the line off at the wrong time.
use Rattle.std.specs.Prelude.{◌&&◌, ◌||◌, not, leb, ltb}
use Rattle.registers.specs.Meanings.{protocol_on}
use Rattle.store.specs.Ring.{room}
use Rattle.line.specs.HoldingOff.{with_holding}
use Rattle.bridge.specs.Calls.{Call, World, Did}
use Rattle.laws.specs.Observers.{any, accepted}
use Rattle.laws.specs.Holding.{sends}
use Rattle.wrong.specs.Seeing.{after_sight}

-- begins holding off a byte late
abbrev pub begins_late : Call → World → Did
begins_late =
    after_sight (λ c w a. any (accepted c w a))
    (λ before after. with_holding after (before.line.holding || (protocol_on after.regs && ltb (room after.rx) after.margin)))

-- ends holding off at the margin
abbrev pub ends_at_margin : Call → World → Did
ends_at_margin = after_sight sends (λ before after. with_holding after (before.line.holding && not (leb after.margin (room after.rx))))
