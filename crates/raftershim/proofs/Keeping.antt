-- What every call of the bridge keeps, and that the number of its answer tells it, as a product with C functions has to. Assumes nothing.
use Prim.{tt}
use native.Mathlib.Omega.{arith}
use Rattle.boundary.specs.Kept.{Kept}
use Rattle.block.proofs.Laws.{start_ranged}
use Rattle.bridge.specs.Calls.{create, on}
use Rattle.laws.proofs.Fitting.{keeps_fit, create_fits_so, stores_stay}
use Rattle.raftershim.specs.Bridge.{bridges}
use Rattle.raftershim.proofs.Kept.{rx_kept, tx_kept, ranged_kept, done_ranged, room_small}
use Rattle.raftershim.proofs.Small.{told_or, create_told, on_told}

pub kept : Kept bridges
kept =
    record {
      none_ranged = start_ranged 0 0 0 (omega arith) (omega arith) (omega arith);
      made_ranged = done_ranged;
      ranged = λ c w h. ranged_kept c w h.state;
      fine = λ h t. tt;
      fine_kept = λ c w b h. tt;
      stored = λ c h b t.
          let w = bridges.world h in
          record { state = ranged_kept c w t.state; first = rx_kept c w b t.first; second = tx_kept c w t.state t.second };
      told_create = λ m w. told_or (create m) w (λ _. create_told m w);
      told_on = λ c h t. let w = bridges.world h in told_or (on c) w (on_told c w t.state t.second);
      room_on = λ c h t. room_small c (bridges.world h) t.state;
      keeps_fit = λ c w h e. keeps_fit c w tt e;
      makes_fit = create_fits_so;
      sizes = λ c w. let s = stores_stay c w in record { first = s.rx; second = s.tx };
    }
