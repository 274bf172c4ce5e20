-- What a break writes. Assumes nothing.
use Rattle.std.proofs.Common.{◌≡◌, ℕ, ◌-◌, ◌<◌, ◌≤◌, List, get_or, le-ltb, lt-ltb}
use Rattle.branches.proofs.Branches.{cond_true, cond_false}
use Rattle.store.specs.Ring.{held}
use Rattle.cells.specs.Promises.{replaced_cells}
use Rattle.reading.specs.Received.{marked_cell}
use Rattle.state.specs.declared.State.{State}
use Rattle.line.specs.Breaks.{break_cells}

pub break_marks : (s : State) (rx : List ℕ) → 0 < s.rx.len →
    break_cells s rx ≡ replaced_cells rx s.rx (marked_cell (get_or (held rx s.rx) (s.rx.len - 1) 0))
unfolding break_cells
break_marks s rx h = cond_true _ _ _ (lt-ltb 0 s.rx.len h)

pub break_nothing : (s : State) (rx : List ℕ) → s.rx.len ≤ 0 → break_cells s rx ≡ rx
unfolding break_cells
break_nothing s rx h = cond_false _ _ _ (le-ltb 0 s.rx.len h)
