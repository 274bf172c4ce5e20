-- Our mailbox, and that it obeys every law of this crate.
use Rattle.machine.specs.Machine.{ObeysAll}
use Rattle.mailbox.specs.Calls.{step}
use Rattle.maillaws.specs.Mailboxes.{mailbox}
use Rattle.maillaws.specs.Laws.{laws}

abbrev pub MailboxObeysAll : Type 0
MailboxObeysAll = ObeysAll (mailbox step) laws
