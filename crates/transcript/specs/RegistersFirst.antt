-- Proved examples, the program onepass: its registers are written before a line byte comes, so none is refused because of a held line.
use Rattle.std.specs.Prelude.{ℕ, ◌≡◌, List, Some}
use Rattle.transcript.specs.declared.Sections.{Sections}
use Rattle.transcript.specs.Transcript.{registers_set}

-- for every input, on any stores
abbrev pub NeverTen : Type 0
NeverTen = (x : List ℕ) (p : Sections) (rx tx : List ℕ) → (registers_set x p rx tx).refusal ≡ Some 10 → ⊥
