-- The address that goes on after one is assigned. Assumes nothing.
use Prim.Native.Nat.{ℕ, ◌+◌, ◌<◌}
use native.Mathlib.Omega.{arith}
use mathlib.Core.Path.{◌≡◌, sym, subst, ◌∙◌}
use Rattle.role.specs.declared.Ready.{Ready}
use Rattle.role.specs.declared.Ready.TheVariants.{Address}
use Rattle.role.specs.ReadyFrames.{ready_of}
use Rattle.role.proofs.ReadyLaws.{Told, told}
use Rattle.mailstate.specs.declared.State.{State}

-- the next address fits in a byte
pub address_next : (s : State) (d : ℕ) (k : Ready) → k ≡ ready_of s.talker.role d → k ≡ Address → d + 1 < 256
address_next s d k hk e = let g = subst (Told s.talker.role d) (sym hk ∙ e) (told s.talker.role d) in omega (arith, g.byte, g.small)
