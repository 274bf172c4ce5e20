-- What it says that a wrong mailbox breaks a law.
use Rattle.mailbox.specs.Calls.{Call, World, Did}
use Rattle.maillaws.specs.Mailboxes.{Law, mailbox}
use Rattle.refuting.specs.Refuted.{Refuted}

abbrev pub Breaks : (Call → World → Did) → Law → Type 0
Breaks B L = Refuted (mailbox B) L
