-- What a cell left makes of a way, by what the store answered. Assumes nothing.
use Prim.Native.Nat.{ℕ}
use mathlib.Core.Path.{◌≡◌, refl, sym}
use mathlib.Core.Bool.{cond}
use mathlib.Core.List.{List}
use lib.Dec.{eqb}
use borrow.Author.Tests.{ne_eqb}
use Rattle.branches.proofs.Branches.{cond_false}
use Rattle.std.specs.Prelude.{unwrap_or}
use Rattle.store.specs.declared.Ring.{Ring}
use Rattle.store.specs.declared.Offered.{Offered}
use Rattle.store.specs.Promises.{Put}
use Rattle.news.specs.declared.News.{News}
use Rattle.news.specs.News.{come}
use Rattle.way.specs.declared.Way.{Way}
use Rattle.way.specs.Way.{left_in, Left}

pub left_met : (s : List ℕ) (w : Way) (c : ℕ) (s' : List ℕ) (o : Offered) (r : Ring) (n : News) → Put s w.ring c s' o → r ≡ unwrap_or o.after w.ring →
    n ≡ cond (eqb w.ring.len 0) come w.news → Left s w c s' (record { ring = r; news = n })
unfolding left_in
left_met s w c s' o r n p e f = rw (e, f, p.ring) (record { way = refl; cells = p.bytes; size = p.size; fit = p.fit })

-- behind others it is no news
pub left_more : (s : List ℕ) (w : Way) (c : ℕ) (s' : List ℕ) (o : Offered) (r : Ring) → Put s w.ring c s' o → r ≡ unwrap_or o.after w.ring →
    (w.ring.len ≡ 0 → ⊥) → Left s w c s' (record { ring = r; news = w.news })
left_more s w c s' o r p e f = left_met s w c s' o r w.news p e (sym (cond_false _ _ _ (ne_eqb _ 0 f)))
