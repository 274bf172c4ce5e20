-- The bridge is formed as a product with C functions has to be. Assumes nothing.
use Prim.Native.Nat.{ℕ}
use mathlib.Core.Path.{◌≡◌, refl, sym, ap, subst, ◌∙◌}
use mathlib.Core.Bool.{Bool, true, false, false≢true}
use mathlib.Core.List.{List}
use lib.ListN.{length}
use Rattle.answers.specs.Refusals.{Check, first_refusal}
use Rattle.answers.specs.Refusing.{Refuses}
use Rattle.answers.specs.Answers.{part, is_refusal}
use Rattle.answers.specs.Word.{value_of}
use Rattle.boundary.specs.Product as product
use Rattle.boundary.specs.Formed.{Formed}
use Rattle.state.specs.declared.State.{State}
use Rattle.state.specs.Sizes.{sizes_obeyed}
use Rattle.state.proofs.Fits.{rx_fits, tx_fits}
use Rattle.block.proofs.Laws.{no_state_misfits}
use Rattle.bridge.specs.Calls.{Store, receive, transmit, Call, create, show, on, World, world, Did, checks, not_refused, refused_or, shown, step}
use Rattle.laws.proofs.Answers as bridge-answers
use Rattle.laws.proofs.Refusing.{by_refusal}
use Rattle.raftershim.specs.Bridge.{call_kind, bridges}

-- the checks of a call are those of its kind
same_checks : (c : Call) (w : World) → checks c w ≡ product.checks bridges (call_kind c) (bridges.apart w)
unfolding checks product.checks
same_checks (create m) w = refl
same_checks (show side) w = refl
same_checks (on c) w = refl

-- create looks at no state
module _ (m : ℕ) (s t : State) (xs ys : List ℕ) where
  abbrev from : State → Did
  from x = step (create m) (world x xs ys)

  same_answer : (from s).said ≡ (from t).said
  unfolding step refused_or checks not_refused
  same_answer = pick (sizes_obeyed m (length xs) (length ys)) refl
    where
      pick : (u : Bool) → sizes_obeyed m (length xs) (length ys) ≡ u → (from s).said ≡ (from t).said
      pick true e = rw e
      pick false e = rw e

  same_made : is_refusal (from s).said ≡ false → (from s).world ≡ (from t).world
  unfolding step refused_or checks not_refused
  same_made = pick (sizes_obeyed m (length xs) (length ys)) refl
    where
      pick : (u : Bool) → sizes_obeyed m (length xs) (length ys) ≡ u → is_refusal (from s).said ≡ false → (from s).world ≡ (from t).world
      pick true e h = rw e
      pick false e h = absurd (false≢true (sym (rw e at h)))

-- what the bridge shows of a store is what is shown of its side
same_shown : (side : Store) (w : World) → shown side w ≡ product.shown bridges side (bridges.apart w)
unfolding shown product.shown
same_shown receive w = refl
same_shown transmit w = refl

named : (c : Call) → product.call_of bridges (call_kind c) ≡ c
named (create m) = refl
named (show side) = refl
named (on c) = refl

-- a refusal tells no room, and create tells none at all
alone : (c : Call) (w : World) → is_refusal (step c w).said ≡ true → (step c w).room ≡ 0
alone c w =
    by_refusal (λ (d : Did). is_refusal d.said ≡ true → d.room ≡ 0) c w
    (λ _ e. absurd (false≢true (sym (bridge-answers.accepted c w).taken ∙ e)))
    (λ _ e. refl)

create_alone : (m : ℕ) (w : World) → (step (create m) w).room ≡ 0
unfolding not_refused
create_alone m w = by_refusal (λ (d : Did). d.room ≡ 0) (create m) w (λ _. refl) (λ _. refl)

pub formed : Formed bridges
unfolding step refused_or checks not_refused value_of
formed =
    record {
      there = λ w. refl;
      back = λ h. refl;
      named = named;
      created = λ m. refl;
      showed = λ side. refl;
      called = λ c. refl;
      misfits = no_state_misfits;
      first = λ h e. (rx_fits h.state h.first h.second e).ring;
      second = λ h e. (tx_fits h.state h.first h.second e).ring;
      refuses = λ c w. subst (λ (l : List Check). Refuses (step c w).said (step c w).world (first_refusal l) w) (same_checks c w) (bridge-answers.refuses c w);
      shows = λ side w. ap part (same_shown side w);
      looks = λ side w. refl;
      creates = λ m s t xs ys. record { answer = same_answer m s t xs ys; made = same_made m s t xs ys };
      alone = alone;
      shows_alone = λ side w. refl;
      creates_alone = create_alone;
      valued = λ n. refl;
    }
