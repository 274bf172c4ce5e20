-- The places of the cells, by the moves. Assumes nothing.
use Prim.Native.Nat.{ℕ}
use native.Mathlib.Omega.{arith}
use mathlib.Core.Path.{◌≡◌, refl, ap}
use mathlib.Core.Bool.{Bool, true, false≢true}
use mathlib.Core.List.{List, [], ◌∷◌, map}
use Rattle.machine.specs.Machine.{Obeys}
use Rattle.store.specs.declared.Ring.{Ring}
use Rattle.store.specs.Ring.{puts_ring, puts_bytes}
use Rattle.places.specs.OneStore.{anew, Placed}
use Rattle.places.proofs.GoingOn.{places_go_on}
use Rattle.places.proofs.OneStore.{placed_still, placed_same, placed_emptied, placed_added}
use Rattle.places.proofs.Filled.{filled_since}
use Rattle.news.specs.declared.News.{News}
use Rattle.mailbox.specs.Calls.{World, step}
use Rattle.maillaws.specs.Mailboxes.{mailbox}
use Rattle.maillaws.specs.Sights.{Direction, store_of, ring_of}
use Rattle.maillaws.specs.MailPlaces.{filling, PlacesGo, PlacesSince}
use Rattle.maillaws.proofs.Moves.{Sight, Move, is_still, is_put, is_fetched, is_emptied, is_asked, is_returned}
use Rattle.maillaws.proofs.EveryMove.{moved}

module _ (d : Direction) (w : World) {b : Bool} where
  placed : (x : Sight) (r : Ring) (n : News) (s : List ℕ) → Move d w b x r n s → Placed (λ n. n) x.clears (map anew x.left) (store_of d w) (ring_of d w) s r
  unfolding puts_ring puts_bytes
  placed x r n s is_still = placed_same (λ n. n) (store_of d w) (ring_of d w) _ refl
  placed x r n s (is_put y F h) = placed_added (λ n. n) (store_of d w) (ring_of d w) (y ∷ []) F (omega (arith, F.cap))
  placed x r n s (is_fetched F h) = placed_still (λ n. n) (store_of d w) (ring_of d w) _ (places_go_on.removed (store_of d w) (ring_of d w) 1 F (omega arith))
  placed x r n s (is_emptied cap) = placed_emptied (λ n. n) (store_of d w) (ring_of d w) _ refl
  placed x r n s (is_asked g m q p) = placed_same (λ n. n) (store_of d w) (ring_of d w) _ refl
  placed x r n s (is_returned m q p z) = placed_same (λ n. n) (store_of d w) (ring_of d w) _ refl

  -- what clears a way leaves nothing in it
  none_left : (x : Sight) (r : Ring) (n : News) (s : List ℕ) → Move d w b x r n s → x.clears ≡ true → x.left ≡ []
  none_left x r n s is_still e = refl
  none_left x r n s (is_put y F h) e = absurd (false≢true e)
  none_left x r n s (is_fetched F h) e = refl
  none_left x r n s (is_emptied cap) e = refl
  none_left x r n s (is_asked g m q p) e = refl
  none_left x r n s (is_returned m q p z) e = refl

pub places_go : (d : Direction) → Obeys (mailbox step) (PlacesGo d)
places_go d c w h = placed d w _ _ _ _ (moved d c w)

pub places_since : (d : Direction) → Obeys (mailbox step) (PlacesSince d)
places_since d = filled_since (mailbox step) (filling d) (λ c w h j. h) (λ c w e. ap (map anew) (none_left d w _ _ _ _ (moved d c w) e)) (places_go d)
