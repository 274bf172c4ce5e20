-- The bits of the status byte that tell of what happened are its notes. Assumes nothing.
use Prim.Native.Nat.{ℕ, ◌+◌, ◌*◌, ◌/◌, ◌%◌, ◌≤◌}
use native.Mathlib.Omega.{arith}
use mathlib.Core.Path.{◌≡◌, refl, ap, ◌∙◌}
use mathlib.Core.Bool.{Bool, true, false, cond}
use lib.Dec.{eqb}
use Rattle.status.specs.Status.{status_byte, showed}
use Rattle.state.specs.declared.State.{State}
use Rattle.state.specs.Conditions.{conditions, shows, status_of}
use Rattle.laws.specs.Events.{Event, broken, overrun, pressed, noted}
use Rattle.runs.proofs.Answered.{weight}

-- what its bit is weightOf
abbrev pub weight_of : Event → ℕ
weight_of broken = 16
weight_of overrun = 32
weight_of pressed = 128

abbrev pub digit : Bool → ℕ
digit t = cond t 1 0

pub weighs : (t : Bool) (n : ℕ) → cond t n 0 ≡ n * digit t
weighs true n = omega arith
weighs false n = omega arith

digit_is : (t : Bool) → eqb (digit t) 1 ≡ t
digit_is true = refl
digit_is false = refl

module _ (low : ℕ) (b o r k : Bool) (h : low ≤ 15) where
  abbrev sum : ℕ
  sum = low + ((cond b 16 0 + cond o 32 0) + cond r 64 0 + cond k 128 0)

  bit_shown : (e : Event) → showed sum (weight_of e) ≡ noted e (record { brk = b; overrun = o; key = k })
  bit_shown broken =
      let q : sum / weight_of broken ≡ digit b + 2 * (digit o + 2 * digit r + 4 * digit k) = omega (arith, weighs b 16, weighs o 32, weighs r 64, weighs k 128) in
      let d : sum / weight_of broken % 2 ≡ digit b = omega (arith, weight b 1) in
      ap (λ (n : ℕ). eqb n 1) d ∙ digit_is b
  bit_shown overrun =
      let q : sum / weight_of overrun ≡ digit o + 2 * (digit r + 2 * digit k) = omega (arith, weighs b 16, weighs o 32, weighs r 64, weighs k 128, weight b 1) in
      let d : sum / weight_of overrun % 2 ≡ digit o = omega (arith, weight o 1) in
      ap (λ (n : ℕ). eqb n 1) d ∙ digit_is o
  bit_shown pressed =
      let q : sum / weight_of pressed ≡ digit k = omega (arith, weighs b 16, weighs o 32, weighs r 64, weighs k 128, weight b 1, weight o 1, weight r 1) in
      let d : sum / weight_of pressed % 2 ≡ digit k = omega (arith, weight k 1) in
      ap (λ (n : ℕ). eqb n 1) d ∙ digit_is k

pub event_shown : (e : Event) (s : State) → showed (status_of s) (weight_of e) ≡ noted e s.notes.seen
unfolding status_of status_byte conditions
event_shown e s =
    let c = conditions s in
    bit_shown ((cond c.txempty 1 0 + cond c.txnotfull 2 0) + cond c.rxnotempty 4 0 + cond c.rxfull 8 0) c.brk c.overrun (shows s) c.key
    (omega (arith, weight c.txempty 1, weight c.txnotfull 2, weight c.rxnotempty 4, weight c.rxfull 8))
    e
