-- The calls. The paper's other headings have their definitions in the crates below, here in its order:
-- - Sizes and refusals: Sizes of the crate state, Ring of store, Refusals and Answers of answers
-- - Registers: Table, Bits, Meanings, Writing and RegistersFit of registers
-- - Frames: Frame of frame; Orders, Commands, Remote and ReadyFrames of role; the crate talker; Frames of loopside
-- - The reading rule: Steps of reading; a send from the receive store: Sending of sending, and Sends of loopside
-- - Loop to line: LoopToLine of loopside
-- - Holding the line off: HoldingOff of line, which also has what the request Ask, then take adds
-- - Status byte: Status of status, Conditions of state; its counts: Counts of state
pub mod Calls
