-- The proofs of what the store promises: all that the crates that carry frames bring in of its proofs. Assumes nothing.
use mathlib.Core.List.{List}
use Rattle.store.specs.declared.Ring.{Ring}
use Rattle.store.specs.declared.Offered.{Offered}
use Rattle.store.specs.Promises.{HeldLength, DropNone, DropAgain, PutsNone, PutsMore}
use Rattle.store.proofs.Laws as laws
use Rattle.store.proofs.Several as several

pub held_length : {A : Type 0} → HeldLength A
held_length = laws.held_length

pub drop_none : DropNone
drop_none = laws.drop_none

pub drop_again : DropAgain
drop_again = laws.drop_again

pub puts_none : {A : Type 0} → PutsNone A
puts_none = several.puts_none

pub puts_more : {A : Type 0} {s : List A} {r : Ring} {b : A} {l : List A} {s₁ s₂ : List A} {o : Offered} {r₁ r₂ : Ring} →
    PutsMore s r b l s₁ s₂ o r₁ r₂
puts_more = several.puts_more
