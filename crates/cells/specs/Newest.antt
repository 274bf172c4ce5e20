-- The newest cell written again: the one write of a cell that holds something already.
use Rattle.std.specs.Prelude.{◌+◌, ◌-◌, ◌≡◌, List, length, set}
use Rattle.store.specs.declared.Ring.{Ring}
use Rattle.store.specs.Ring.{Fit, wrap, held}

-- the cell before the next place, where something is held; nothing else is written
unfoldable pub replaced_cells : {A : Type 0} → List A → Ring → A → List A
replaced_cells s r c = set s (wrap r.cap (r.oldest + (r.len - 1))) c

-- the newest cell replaced by c: s before, s' after
pub record Replaced {A : Type 0} (s : List A) (r : Ring) (c : A) (s' : List A) : Type 0 where
  pub cells : s' ≡ replaced_cells s r c
  pub size : length s' ≡ length s
  pub fit : Fit s' r
  pub holds : held s' r ≡ set (held s r) (r.len - 1) c
