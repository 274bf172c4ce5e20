-- The conditions of the stores by the numbers held. Assumes nothing.
use Prim.Native.Nat.{ℕ}
use mathlib.Core.Path.{◌≡◌, sym, ap}
use lib.ListN.{length}
use lib.Dec.{eqb, leb, ltb}
use Rattle.store.specs.Ring.{full}
use Rattle.store.proofs.Laws.{held_length}
use Rattle.state.proofs.Fits.{rx_fits, tx_fits}
use Rattle.bridge.specs.Calls.{World}
use Rattle.laws.specs.Fitting.{Fits}
use Rattle.laws.specs.Worlds.{held_cells, held_for_line}
use Rattle.laws.specs.StatusTold.{transmit_empty, transmit_not_full, receive_not_empty, receive_full}

module _ (w : World) (F : Fits w) where
  for_line : w.state.tx.len ≡ length (held_for_line w)
  for_line = sym (held_length w.tx w.state.tx (tx_fits w.state w.rx w.tx F).ring)

  to_send : w.state.rx.len ≡ length (held_cells w)
  to_send = sym (held_length w.rx w.state.rx (rx_fits w.state w.rx w.tx F).ring)

  pub empty_same : eqb w.state.tx.len 0 ≡ transmit_empty w
  empty_same = ap (λ (n : ℕ). eqb n 0) for_line

  pub room_same : ltb w.state.tx.len w.state.tx.cap ≡ transmit_not_full w
  room_same = λ i. ltb (for_line i) ((tx_fits w.state w.rx w.tx F).ring.cap i)

  pub some_same : ltb 0 w.state.rx.len ≡ receive_not_empty w
  some_same = ap (ltb 0) to_send

  pub full_same : full w.state.rx ≡ receive_full w
  full_same = λ i. leb ((rx_fits w.state w.rx w.tx F).ring.cap i) (to_send i)
