-- A frame sent from the receive store is a data frame, and a status byte is a byte. Assumes nothing.
use Prim.Native.Nat.{ℕ, ◌≤◌, ◌<◌}
use native.Mathlib.Omega.{arith}
use mathlib.Core.Path.{◌≡◌, refl}
use mathlib.Core.Bool.{Bool, true, false, cond}
use mathlib.Core.List.{List}
use Rattle.store.specs.declared.Ring.{Ring}
use Rattle.store.specs.Ring.{held}
use Rattle.status.specs.declared.Conditions.{Conditions}
use Rattle.status.specs.Status.{status_byte}
use Rattle.reading.specs.declared.Rule.{Rule}
use Rattle.reading.specs.Reading.{Sent, none, one, send}
use Rattle.reading.specs.Received.{Received, received_in}
use Rattle.reading.specs.Steps.{cut}
use Rattle.reading.proofs.Bytes.{sent_frame}
use Rattle.std.specs.Prelude.{Some}
use Rattle.sending.specs.Sending.{given_of, send_held}

-- the frame of a send
pub given_small : (r : Rule) (s : List ℕ) (q : Ring) (f : ℕ) → given_of (send_held r s q) ≡ Some f → f < 1024
unfolding send_held
given_small r s q f e = go (send (cut r) (received_in (held s q))) refl e
  where
    go : (x : Sent Received ℕ) → send (cut r) (received_in (held s q)) ≡ x → given_of x ≡ Some f → f < 1024
    go (none t) p e = let z : ◌≡◌ {A = ℕ} 0 1 = cc in absurd (omega arith)
    go (one g t) p e =
        let z : g ≡ f = cc in
        omega (arith, z, sent_frame r (λ f. f < 1024) (λ b h. omega arith) (λ b h. omega arith) (held s q) g t p)

-- a status byte is a byte
pub status_small : (c : Conditions) (q : Bool) → status_byte c q < 256
unfolding status_byte
status_small c q =
    omega (
      arith,
      most c.txempty 1,
      most c.txnotfull 2,
      most c.rxnotempty 4,
      most c.rxfull 8,
      most c.brk 16,
      most c.overrun 32,
      most q 64,
      most c.key 128,
    )
  where
    most : (t : Bool) (v : ℕ) → cond t v 0 ≤ v
    most true v = omega arith
    most false v = omega arith
