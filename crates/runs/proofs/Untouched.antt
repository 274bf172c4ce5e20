-- What calls on the line side and register writes leave as it was. Assumes nothing.
use Prim.Native.Nat.{ℕ}
use mathlib.Core.Path.{◌≡◌, refl, ◌∙◌}
use mathlib.Core.Bool.{Bool, true, false, cond}
use lib.Dec.{eqb}
use Rattle.branches.proofs.Branches.{by_cond}
use Rattle.registers.specs.Writing.{written}
use Rattle.store.specs.Ring.{full}
use Rattle.state.specs.declared.State.{State}
use Rattle.std.specs.Prelude.{Option, Some, None}
use Rattle.state.specs.declared.Next.{Next}
use Rattle.state.specs.declared.Next.TheVariants as out
use Rattle.state.specs.Conditions.{settled, break_state, key_state}
use Rattle.line.specs.HoldingOff.{is_go_or_stop, flowed, lost_state, stored_with, line_state, set_afresh, after_write, gone}

-- the talker and the remote flags
pub record Untouched (s t : State) : Type 0 where
  pub talker : t.talker ≡ s.talker
  pub remote : t.remote ≡ s.remote

pub both_untouched : (s t v : State) → Untouched s t → Untouched t v → Untouched s v
both_untouched s t v p q = record { talker = q.talker ∙ p.talker; remote = q.remote ∙ p.remote }

-- with requests settled or not
pub settled_untouched : (s : State) (t : Bool) (u : State) → Untouched u (cond t u (settled s u))
unfolding settled
settled_untouched s true u = record { talker = refl; remote = refl }
settled_untouched s false u = record { talker = refl; remote = refl }

pub break_untouched : (s : State) → Untouched s (break_state s)
unfolding break_state
break_untouched s = record { talker = refl; remote = refl }

pub key_untouched : (s : State) → Untouched s (key_state s)
unfolding key_state
key_untouched s = record { talker = refl; remote = refl }

pub line_untouched : (s : State) (b : ℕ) → Untouched s (line_state s b)
unfolding line_state flowed lost_state stored_with
line_untouched s b =
    by_cond (Untouched s) (is_go_or_stop s.regs b) _ _ (λ _. record { talker = refl; remote = refl })
    (λ _. by_cond (Untouched s) (full s.rx) _ _ (λ _. record { talker = refl; remote = refl }) (λ _. record { talker = refl; remote = refl }))

pub gone_untouched : (s : State) (o : Option Next) → Untouched s (gone s o)
unfolding gone
gone_untouched s (Some (out.Own b)) = record { talker = refl; remote = refl }
gone_untouched s (Some (out.Held b)) = record { talker = refl; remote = refl }
gone_untouched s None = record { talker = refl; remote = refl }

pub write_untouched : (s : State) (n v : ℕ) → Untouched s (after_write s n (written s.regs n v))
unfolding after_write set_afresh
write_untouched s n v = by_cond (Untouched s) (eqb n 11) _ _ (λ _. record { talker = refl; remote = refl }) (λ _. record { talker = refl; remote = refl })
