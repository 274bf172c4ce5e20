-- What a call does to one way of the mailbox: one of six moves, with what is seen of it. Assumes nothing.
use Prim.Native.Nat.{ℕ, ◌<◌}
use mathlib.Core.Path.{◌≡◌, subst, sym}
use mathlib.Core.Bool.{Bool, true, false, cond}
use mathlib.Core.List.{List, [], ◌∷◌}
use lib.Dec.{eqb}
use lib.ListN.{get_or}
use Rattle.store.specs.declared.Ring.{Ring}
use Rattle.store.specs.Ring.{Fit, held, empty_ring, put_ring, put_bytes, drop_ring}
use Rattle.news.specs.declared.News.{News}
use Rattle.news.specs.News.{no_news, come}
use Rattle.answers.specs.Answers.{Said}
use Rattle.mailbox.specs.Calls.{Call, World}
use Rattle.maillaws.specs.Sights.{Direction, store_of, ring_of, news_of, counted, left, fetched, told, clears}
use Rattle.maillaws.specs.NewsGoing.{after_telling}

-- what is seen of a call on a way: what is left, fetched and told, and whether it clears
pub record Sight : Type 0 where
  pub left : List ℕ
  pub fetched : List ℕ
  pub told : List ℕ
  pub clears : Bool

abbrev pub sight : Direction → Call → World → Said → Sight
sight d c w a = record { left = left d c w a; fetched = fetched d c w a; told = told d c w a; clears = clears d c w a }

abbrev pub nothing : Sight
nothing = record { left = []; fetched = []; told = []; clears = false }

-- back is whether a status byte of ours is back unchanged
pub data Move (d : Direction) (w : World) (back : Bool) : Sight → Ring → News → List ℕ → Type 0 where
  -- nothing is done to it
  is_still : Move d w back nothing (ring_of d w) (news_of d w) (store_of d w)
  -- a cell is left
  is_put : (x : ℕ) → Fit (store_of d w) (ring_of d w) → (ring_of d w).len < (ring_of d w).cap →
      Move d w back (record { left = x ∷ []; fetched = []; told = []; clears = false }) (put_ring (ring_of d w))
      (cond (eqb (ring_of d w).len 0) come (news_of d w)) (put_bytes (store_of d w) (ring_of d w) x)
  -- the oldest is fetched
  is_fetched : Fit (store_of d w) (ring_of d w) → ((ring_of d w).len ≡ 0 → ⊥) →
      Move d w back (record { left = []; fetched = counted (get_or (held (store_of d w) (ring_of d w)) 0 0) ∷ []; told = []; clears = false })
      (drop_ring (ring_of d w) 1) (cond (eqb (ring_of d w).len 1) no_news (news_of d w)) (store_of d w)
  -- it is cleared
  is_emptied : (cap : ℕ) → Move d w back (record { left = []; fetched = []; told = []; clears = true }) (empty_ring cap) no_news (store_of d w)
  -- the status byte of the side that fetches is given
  is_asked : (b : ℕ) (n : News) → n.request ≡ false → n.available ≡ after_telling d (news_of d w).available →
      Move d w back (record { left = []; fetched = []; told = b ∷ []; clears = false }) (ring_of d w) n (store_of d w)
  -- and comes back
  is_returned : (n : News) → n.request ≡ (news_of d w).request → (back ≡ false → n.available ≡ (news_of d w).available) →
      ((news_of d w).available ≡ false → n.available ≡ false) → Move d w back nothing (ring_of d w) n (store_of d w)

-- a move by what is seen, part by part
pub by_sight : (d : Direction) (w : World) {back : Bool} (p q : Sight) (r : Ring) (n : News) (s : List ℕ) →
    p.left ≡ q.left → p.fetched ≡ q.fetched → p.told ≡ q.told →
    p.clears ≡ q.clears → Move d w back q r n s → Move d w back p r n s
by_sight d w {back} p q r n s el ef et ec m =
    subst (λ (x : Sight). Move d w back x r n s) (sym (λ i. record { left = el i; fetched = ef i; told = et i; clears = ec i })) m
