-- One way of the mailbox, either of the two buffers of section 4: what is left in it, what is fetched, and what is told of it.
use Rattle.std.specs.Prelude.{ℕ, ◌≡◌, List, Bool, cond, eqb, length}
use Rattle.store.specs.Ring as ring
use Rattle.news.specs.declared.News.{News}
use Rattle.news.specs.News.{no_news, come}
use Rattle.way.specs.declared.Way.{Way}

-- the buffer is cleared at startup, by a reset and by the device clear of the side that leaves
unfoldable pub empty_way : ℕ → Way
empty_way cap = record { ring = ring.empty_ring cap; news = no_news }

-- a cell is left; it is news where the buffer was empty
unfoldable pub left_in : Way → Way
left_in w = record { ring = ring.put_ring w.ring; news = cond (eqb w.ring.len 0) come w.news }

-- the oldest cell is fetched; where it was the only one, nothing is there to be told any more
unfoldable pub fetched : Way → Way
fetched w = record { ring = ring.drop_ring w.ring 1; news = cond (eqb w.ring.len 1) no_news w.news }

abbrev pub told : Way → News → Way
told w n = record { ring = w.ring; news = n }

abbrev pub fit_test : ℕ → Way → Bool
fit_test cap w = ring.fit_test cap w.ring

-- a cell c left: s and w before, s' and w' after
pub record Left (s : List ℕ) (w : Way) (c : ℕ) (s' : List ℕ) (w' : Way) : Type 0 where
  pub way : w' ≡ left_in w
  pub cells : s' ≡ ring.put_bytes s w.ring c
  pub size : length s' ≡ length s
  pub fit : ring.Fit s' w'.ring
