-- Runs of a mailbox that are written out, call by call.
use Rattle.answers.specs.Answers.{Said}
use Rattle.mailbox.specs.Calls.{Call, World, Did}
use Rattle.maillaws.specs.Mailboxes.{ByteCall}
use Rattle.refuting.specs.WrittenOut.{Turn, turn, Kind}

-- a mailbox as the kind of machine that it is
abbrev pub mail : Kind World Call Said Did
mail = record { said = λ d. d.said; left = λ d. d.world; Fine = λ w. Unit {0}; Fair = ByteCall }

-- the call is answered so, and this world is left
abbrev pub answers : Call → Said → World → Turn Call Did
answers c a w = turn c (record { said = a; world = w })
