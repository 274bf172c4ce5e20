-- `Text` is what is printed of numbers and answers, `Input` the three sections, `Transcript` the run, `Start` the law of its first state,
-- `RegistersFirst` that of its registers, `UntilNone` that of its last line.
pub mod Text
pub mod Input
pub mod Transcript
pub mod Start
pub mod RegistersFirst
pub mod UntilNone
