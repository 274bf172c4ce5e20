-- What a fetch of the bus does, one case for each way out. Assumes nothing.
use Prim.Native.Nat.{ℕ, ◌%◌}
use mathlib.Core.Path.{◌≡◌}
use mathlib.Core.List.{List}
use lib.Dec.{eqb}
use lib.ListN.{get_or}
use borrow.Author.Tests.{eqb-false}
use Rattle.branches.proofs.Branches.{by_cond}
use Rattle.store.specs.Ring.{held}
use Rattle.way.specs.Way.{fetched}
use Rattle.bus.specs.declared.Fetch.{Fetch}
use Rattle.bus.specs.declared.Fetch.TheVariants.{Silent, Status, Data}
use Rattle.bus.specs.Bus.{fetch_of}
use Rattle.answers.specs.declared.Answer.TheVariants as answer
use Rattle.mailstate.specs.declared.State.{State}
use Rattle.mailstate.specs.Outcome.{Outcome}
use Rattle.mailstate.specs.State.{with_to_bus}
use Rattle.mailbox.specs.BusSide.{data_given, status_given, given, bus_fetch}

-- nothing is given, the oldest cell, or the status byte
pub data Fetching (s : State) (cells : List ℕ) : Outcome → Type 0 where
  is_none : Fetching s cells (record { state = s; answer = answer.Nothing })
  is_given : (s.tobus.ring.len ≡ 0 → ⊥) →
      Fetching s cells (record { state = with_to_bus s (fetched s.tobus); answer = answer.Cell (get_or (held cells s.tobus.ring) 0 0 % 512) })
  is_status : Fetching s cells (status_given s)

pub fetching : (s : State) (cells : List ℕ) → Fetching s cells (bus_fetch s cells)
unfolding bus_fetch given data_given
fetching s cells = go (fetch_of s.bus)
  where
    go : (k : Fetch) → Fetching s cells (given s cells k)
    go Silent = is_none
    go Status = is_status
    go Data = by_cond (Fetching s cells) (eqb s.tobus.ring.len 0) _ _ (λ _. is_none) (λ e. is_given (eqb-false _ 0 e))
