-- A break is a wall, the store: a break writes its mark into the newest cell held, and nothing else.
use Rattle.std.specs.Prelude.{◌≡◌, ℕ, ◌-◌, cond, List, length, nat_lt, slice_index}
use Rattle.store.specs.Ring.{held}
use Rattle.cells.specs.Promises.{replaced_cells}
use Rattle.reading.specs.Received.{marked_cell}
use Rattle.state.specs.declared.State.{State}

-- the cells after a break: the newest byte with its mark, and no other bit set; where nothing is held nothing is written
unfoldable pub break_cells : State → List ℕ → List ℕ
break_cells s rx = cond (nat_lt 0 s.rx.len) (replaced_cells rx s.rx (marked_cell (slice_index (held rx s.rx) (s.rx.len - 1)))) rx

-- the receive store after a break
pub record Marked (s : State) (rx rx' : List ℕ) : Type 0 where
  pub cells : rx' ≡ break_cells s rx
  pub size : length rx' ≡ length rx
