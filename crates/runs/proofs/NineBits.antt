-- What is written in the receive store has nine bits. Assumes nothing.
use Prim.Native.Nat.{ℕ, zero, suc, ◌<◌}
use native.Mathlib.Omega.{arith}
use mathlib.Core.Path.{◌≡◌, refl}
use mathlib.Core.Logic.{◌⊎◌, inl, inr}
use mathlib.Core.List.{List, [], ◌∷◌}
use lib.Dec.{ltb}
use lib.ListN.{get_or, set}
use Rattle.branches.proofs.Branches.{by_cond}
use Rattle.machine.specs.Machine.{Obeys}
use Rattle.store.specs.Ring.{full, put_bytes}
use Rattle.cells.specs.Newest.{replaced_cells}
use Rattle.line.specs.Breaks.{break_cells}
use Rattle.line.specs.HoldingOff.{is_go_or_stop, line_bytes}
use Rattle.bridge.specs.Calls.{OnState, reset, write, line_byte, line_break, key, ask_line_byte, take_line_byte, loop_frame}
use Rattle.bridge.specs.Calls.{Call, create, show, on, World, Did, rx_after, not_refused}
use Rattle.laws.specs.Bridges.{ByteOn, ByteCall}
use Rattle.laws.specs.NineBits.{NineBits}
use Rattle.laws.proofs.Refusing.{by_refusal}
use Rattle.runs.proofs.Steps.{ours}

-- every place is as it was or has nine bits
abbrev Nine : List ℕ → List ℕ → Type 0
Nine s t = (k : ℕ) → (get_or t k 0 ≡ get_or s k 0) ⊎ (get_or t k 0 < 512)

same : (s : List ℕ) → Nine s s
same s k = inl refl

set_nine : (s : List ℕ) (p v : ℕ) → v < 512 → Nine s (set s p v)
set_nine [] p v h k = inl refl
set_nine (x ∷ s) zero v h zero = inr h
set_nine (x ∷ s) zero v h (suc k) = inl refl
set_nine (x ∷ s) (suc p) v h zero = inl refl
set_nine (x ∷ s) (suc p) v h (suc k) = set_nine s p v h k

after_nine : (c : OnState) (w : World) → ByteOn c → Nine w.rx (rx_after c w)
unfolding rx_after line_bytes put_bytes break_cells replaced_cells
after_nine (line_byte b) w h =
    by_cond (Nine w.rx) (is_go_or_stop w.state.regs b) _ _ (λ _. same w.rx)
    (λ _. by_cond (Nine w.rx) (full w.state.rx) _ _ (λ _. same w.rx) (λ _. set_nine w.rx _ b (omega arith)))
after_nine line_break w h =
    by_cond (Nine w.rx) (ltb 0 w.state.rx.len) _ _ (λ _. set_nine w.rx _ _ (omega arith)) (λ _. same w.rx)
after_nine reset w h = same w.rx
after_nine (write n v) w h = same w.rx
after_nine key w h = same w.rx
after_nine ask_line_byte w h = same w.rx
after_nine (take_line_byte b) w h = same w.rx
after_nine (loop_frame f) w h = same w.rx

pub nine_bits : Obeys ours NineBits
nine_bits c w _ h = by_refusal (λ (d : Did). Nine w.rx d.world.rx) c w (λ _. go c h) (λ _. same w.rx)
  where
    go : (c : Call) → ByteCall c → Nine w.rx (not_refused c w).world.rx
    go (create m) h = unfold not_refused in same w.rx
    go (show side) h = unfold not_refused in same w.rx
    go (on c) h = unfold not_refused in after_nine c w h
