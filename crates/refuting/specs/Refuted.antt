-- What it says that a wrong machine breaks a law.
use Rattle.machine.specs.Machine.{Machine, Law, Obeys}

-- that the machine obeys the law gives never
abbrev pub Refuted : {World Call Said : Type 0} → Machine World Call Said → Law World Call Said → Type 0
Refuted M L = Obeys M L → ⊥
