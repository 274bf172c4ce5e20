-- The paper's proved examples: both sides of the one statement compute to the same. Assumes nothing.
use mathlib.Core.Path.{refl}
use Rattle.laws.specs.Examples.{given, table, AllAsThePaperSays}
use Rattle.reading.specs.Reading.{in_cuts, by_cuts}
use Rattle.reading.specs.Received.{received}
use Rattle.reading.specs.Steps.{cut}
use Rattle.registers.specs.Table as registers-table
use Rattle.registers.specs.Bits.{too_large, bit_not_carried, in_range}
use Rattle.registers.specs.RegistersFit.{values, all_in_range, registers_fit}
use Rattle.registers.specs.Writing.{written}
use Rattle.role.specs.ReadyFrames.{ready_of}
use Rattle.store.specs.Ring.{fit_test}
use Rattle.talker.specs.TalkerFit as talker-fit
use Rattle.answers.specs.Answers.{said}
use Rattle.state.specs.Sizes.{sizes_obeyed, start_state, fits}
use Rattle.state.specs.Conditions.{conditions, enabled_by, asking, settled, shows, serviced}
use Rattle.loopside.specs.LoopToLine.{adds, busy}
use Rattle.loopside.specs.Sends.{rule_of}
use Rattle.loopside.specs.Frames.{readied, ready, frame_taken, device_clear, frame_bytes, adds_bytes}
use Rattle.bridge.specs.Calls.{checks_on, checks, outcome, settled_by, rx_after, tx_after, not_refused, refused_or, step}

pub examples : AllAsThePaperSays
unfolding given table in_cuts by_cuts received cut rule_of written ready_of talker-fit.fit_test fit_test said
    registers-table.table registers-table.row_in registers-table.carried_of registers-table.start_of registers-table.start_registers
    too_large bit_not_carried in_range values all_in_range registers_fit sizes_obeyed start_state fits
    conditions enabled_by asking settled shows serviced adds busy readied ready frame_taken device_clear frame_bytes adds_bytes
    checks_on checks outcome settled_by rx_after tx_after not_refused refused_or step
examples = refl
