-- Bits 4, 5 and 7 of the status byte: when they clear, and that none is set unless the thing happened.
use Rattle.std.specs.Prelude.{ℕ, ◌≡◌, true, false, [], ◌∷◌}
use Rattle.machine.specs.Course.{of, end, Without}
use Rattle.machine.specs.Machine.{of_calls, of_runs, of_between}
use Rattle.laws.specs.Observers.{status_sent, empties}
use Rattle.laws.specs.Bridges.{Law}
use Rattle.laws.specs.Events.{Event, happens, bit_of}
use Rattle.laws.specs.StatusWay.{status_back, ends_way}

-- Status byte, bits 4, 5 and 7: clear when the status byte that showed them is back unchanged, where nothing of the kind happened while it
-- was under way
abbrev pub Clears : Event → Law
Clears e =
    of_between
    (λ s ss t. (g : ℕ) → of status_sent s ≡ g ∷ [] → Without (happens e) ss → Without (λ c w a. ends_way c a) ss →
    status_back (g ∷ []) t.call t.answer ≡ true → bit_of e t.after ≡ false)

-- no bit comes to be set in a run in which the thing does not happen
abbrev pub NotInvented : Event → Law
NotInvented e = of_runs (λ w ss. bit_of e w ≡ false → Without (happens e) ss → bit_of e (end w ss) ≡ false)

-- a create, reset or device clear leaves none of the bits
abbrev pub NotAtStart : Event → Law
NotAtStart e = of_calls (λ s. of empties s ≡ true → bit_of e s.after ≡ false)
