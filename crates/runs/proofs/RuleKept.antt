-- A register write that is taken while something is held leaves the reading rule. Assumes nothing.
use Prim.Native.Nat.{ℕ}
use mathlib.Core.Path.{◌≡◌, sym, ap, ◌∙◌}
use mathlib.Core.Bool.{Bool, true, false, ◌&&◌, ◌||◌}
use lib.Dec.{eqb, ltb}
use lib.ListN.{length}
use Rattle.machine.proofs.Course.{neither}
use Rattle.registers.specs.Writing.{written}
use Rattle.store.proofs.Laws.{held_length}
use Rattle.state.proofs.Fits.{rx_fits}
use Rattle.loopside.specs.Sends.{rule_of}
use Rattle.bridge.specs.Calls.{of_reading_rule, held_line, World}
use Rattle.laws.specs.Fitting.{Fits}
use Rattle.laws.specs.Worlds.{held_cells, holds_some}

module _ (w : World) (F : Fits w) where
  size : length (held_cells w) ≡ w.state.rx.len
  size = held_length w.rx w.state.rx (rx_fits w.state w.rx w.tx F).ring

  -- the write is refused by what is seen to be held
  pub held_line_lem : (n : ℕ) → held_line w.state n ≡ (holds_some w && of_reading_rule n)
  unfolding held_line
  held_line_lem n = ap (λ (k : ℕ). ltb 0 k && of_reading_rule n) (sym size)

pub rule_kept : (w : World) (n v : ℕ) → Fits w → held_line w.state n ≡ false → holds_some w ≡ true →
    rule_of (written w.state.regs n v) ≡ rule_of w.state.regs
unfolding rule_of written
rule_kept w n v F free some =
    let none : of_reading_rule n ≡ false = ap (λ (t : Bool). t && of_reading_rule n) (sym some) ∙ sym (held_line_lem w F n) ∙ free in
    let last = neither (eqb n 10 || eqb n 16) (eqb n 17) none in
    let first = neither (eqb n 10) (eqb n 16) last.0 in
    rw (first.0, first.1, last.1)
