-- Spells of holding off in a run of calls, for demand 3, last sentence.
use Rattle.std.specs.Prelude.{ℕ, ◌+◌, ◌≤◌, cond, List, [], ◌∷◌, length}
use Rattle.machine.specs.Course.{of}
use Rattle.bridge.specs.Calls.{World}
use Rattle.laws.specs.Bridges.{Saw}
use Rattle.laws.specs.Observers.{arrived}
use Rattle.laws.specs.Worlds.{holds_off}

-- how many data bytes arrive in each spell of holding off of a run that begins at w; k have arrived in the spell so far, where it starts in
-- one
unfoldable pub spells : ℕ → World → List Saw → List ℕ
spells k w [] = cond (holds_off w) (k ∷ []) []
spells k w (s ∷ ss) =
    cond (holds_off w)
    (cond (holds_off s.after)
    (spells (k + length (of arrived s)) s.after ss)
    ((k + length (of arrived s)) ∷ spells 0 s.after ss))
    (spells 0 s.after ss)

-- each number is at most m
abbrev pub AtMost : ℕ → List ℕ → Type 0
AtMost m [] = Unit {0}
AtMost m (n ∷ ns) = (n ≤ m) × AtMost m ns
