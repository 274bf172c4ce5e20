-- Where the bytes were written since a store was emptied: from the places of every call to those of a run. Assumes nothing.
use Prim.Native.Nat.{ℕ}
use mathlib.Core.Path.{◌≡◌, refl, ap}
use mathlib.Core.Bool.{true, false, cond, ◌&&◌, false≢true}
use mathlib.Core.List.{List, [], ◌∷◌, map}
use Rattle.machine.specs.Machine.{Obeys}
use Rattle.places.specs.OneStore.{anew, again}
use Rattle.places.proofs.Filled.{filled_since}
use Rattle.bridge.specs.Calls.{Store, receive, transmit, Call, World}
use Rattle.laws.specs.Observers.{empties}
use Rattle.laws.specs.Worlds.{holds_some}
use Rattle.laws.specs.StorePlaces.{written_to, filling, PlacesSince}
use Rattle.laws.proofs.CallPlaces.{places}
use Rattle.runs.proofs.Shapes.{Seen, Core, Shape, is_still, is_begun, is_written, is_cleared, is_stored, is_lost, is_broken, is_sent, is_none, is_left, is_handed}
use Rattle.runs.proofs.View.{view}
use Rattle.runs.proofs.Steps.{answer, ours}

-- a call that empties the stores writes nothing
none_added : (w : World) (x : Seen) (h : Core) (rx tx : List ℕ) → Shape w x h rx tx → x.empties ≡ true → (x.accepted ≡ []) × ((x.left ≡ []) × (x.breaks ≡ false))
none_added w x h rx tx is_still e = absurd (false≢true e)
none_added w x h rx tx (is_begun m) e = (refl, (refl, refl))
none_added w x h rx tx (is_written g t u) e = absurd (false≢true e)
none_added w x h rx tx is_cleared e = (refl, (refl, refl))
none_added w x h rx tx (is_stored b F l) e = absurd (false≢true e)
none_added w x h rx tx (is_lost b l) e = absurd (false≢true e)
none_added w x h rx tx (is_broken F) e = absurd (false≢true e)
none_added w x h rx tx (is_sent f r F k) e = absurd (false≢true e)
none_added w x h rx tx (is_none r F k) e = absurd (false≢true e)
none_added w x h rx tx (is_left l F k) e = absurd (false≢true e)
none_added w x h rx tx (is_handed F k) e = absurd (false≢true e)

nothing_written : (s : Store) (c : Call) (w : World) → empties c w (answer c w) ≡ true → written_to s c w (answer c w) ≡ []
nothing_written receive c w e =
    let n = none_added w _ _ _ _ (view c w) e in
    λ i. cond (n.1.1 i && holds_some w) (again ∷ []) (map anew (n.0 i))
nothing_written transmit c w e = ap (map anew) (none_added w _ _ _ _ (view c w) e).1.0

pub places_since : (s : Store) → Obeys ours (PlacesSince s)
places_since s = filled_since ours (filling s) (λ c w h j. tt) (nothing_written s) (places s)
