-- The frames that we answer with. Assumes nothing.
use Prim.Native.Nat.{ℕ, ◌≤◌, ◌<◌}
use native.Mathlib.Omega.{arith}
use mathlib.Core.Path.{◌≡◌, refl, ap, ◌∙◌}
use mathlib.Core.Bool.{Bool, true, false, cond}
use mathlib.Core.List.{[], ◌∷◌}
use borrow.Author.Tests.{lt-ltb}
use Rattle.branches.proofs.Branches.{cond_true}
use Rattle.frame.specs.Frame.{control_of, made, is_data, stripped, with_service}
use Rattle.frame.proofs.Laws.{made_parts, kind_service, stripped_service}
use Rattle.status.specs.Status.{status_byte}
use Rattle.state.specs.declared.State.{State}
use Rattle.answers.specs.declared.Answer.TheVariants.{Frame}
use Rattle.answers.specs.Answers.{said}
use Rattle.state.specs.Conditions.{conditions, shows, serviced, status_of}
use Rattle.laws.specs.Observers.{data_frame}

-- the service bit leaves the rest of a frame alone
pub serviced_kind : (s : State) (f : ℕ) → is_data (serviced s f) ≡ is_data f
unfolding serviced
serviced_kind s f = go (shows s)
  where
    go : (t : Bool) → is_data (cond t (with_service f) f) ≡ is_data f
    go true = kind_service f
    go false = refl

pub serviced_rest : (s : State) (f : ℕ) → stripped (serviced s f) ≡ stripped f
unfolding serviced
serviced_rest s f = go (shows s)
  where
    go : (t : Bool) → stripped (cond t (with_service f) f) ≡ stripped f
    go true = stripped_service f
    go false = refl

-- the status byte is a byte
pub weight : (t : Bool) (n : ℕ) → cond t n 0 ≤ n
weight true n = omega arith
weight false n = omega arith

pub status_small : (s : State) → status_of s < 256
unfolding status_of status_byte
status_small s =
    let c = conditions s in
    omega (
      arith,
      weight c.txempty 1,
      weight c.txnotfull 2,
      weight c.rxnotempty 4,
      weight c.rxfull 8,
      weight c.brk 16,
      weight c.overrun 32,
      weight (shows s) 64,
      weight c.key 128,
    )

-- its frame, the service bit aside, is what it is
pub status_frame : (s : State) → data_frame (said (Frame (serviced s (made 0 (status_of s))))) ≡ stripped (made 0 (status_of s)) ∷ []
unfolding said
status_frame s =
    cond_true _ _ _ (serviced_kind s (made 0 (status_of s)) ∙ lt-ltb (control_of (made 0 (status_of s))) 4 (omega (arith, status_small s)))
    ∙ ap (λ n. n ∷ []) (ap stripped (made_parts (serviced s (made 0 (status_of s)))) ∙ serviced_rest s (made 0 (status_of s)))
