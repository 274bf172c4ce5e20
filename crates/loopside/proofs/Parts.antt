-- What a frame adds, and the address offered next. Assumes nothing.
use Rattle.std.proofs.Common.{◌≡◌, ℕ, ◌+◌, ◌<◌, Bool, true, false, ◌&&◌, [], ◌∷◌, sym, ◌∙◌, subst, arith}
use Rattle.frame.specs.Frame.{data_of, is_end}
use Rattle.registers.specs.declared.Registers.{Registers}
use Rattle.registers.specs.Meanings.{end_inserted}
use Rattle.role.specs.declared.Ready.{Ready}
use Rattle.role.specs.declared.Role.{Role}
use Rattle.role.specs.declared.Ready.TheVariants.{Address}
use Rattle.role.specs.ReadyFrames.{ready_of}
use Rattle.role.proofs.ReadyLaws.{Told, told}
use Rattle.loopside.specs.LoopToLine.{adds}

-- ---- what a frame adds

module _ (g : Registers) (f : ℕ) (a b : Bool) (p : a ≡ is_end f) (q : b ≡ end_inserted g) where
  pub adds_three : (a && b) ≡ true → adds g f ≡ data_of f ∷ g.c02 ∷ g.c03 ∷ []
  unfolding adds
  adds_three e = rw (← p, ← q, e)

  pub adds_one : (a && b) ≡ false → adds g f ≡ data_of f ∷ []
  unfolding adds
  adds_one e = rw (← p, ← q, e)

-- ---- ready frames

-- the next address fits in a byte
pub address_next : (r : Role) (d : ℕ) (k : Ready) → k ≡ ready_of r d → k ≡ Address → d + 1 < 256
address_next r d k q e = let g = subst (Told r d) (sym q ∙ e) (told r d) in omega (arith, g.byte, g.small)
