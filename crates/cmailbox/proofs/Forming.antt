-- A mailbox is formed as a product with C functions has to be. Assumes nothing.
use Prim.{tt}
use Prim.Native.Nat.{ℕ}
use mathlib.Core.Path.{◌≡◌, refl, sym, subst}
use mathlib.Core.Bool.{Bool, true, false, false≢true}
use mathlib.Core.List.{List}
use lib.ListN.{length}
use Rattle.answers.specs.Refusals.{Check, first_refusal}
use Rattle.answers.specs.Refusing.{Refuses}
use Rattle.answers.specs.Answers.{is_refusal}
use Rattle.answers.specs.Word.{value_of}
use Rattle.boundary.specs.Product as product
use Rattle.boundary.specs.Formed.{Formed}
use Rattle.mailstate.specs.declared.State.{State}
use Rattle.mailstate.specs.Sizes.{sizes_obeyed}
use Rattle.mailstate.proofs.Fits.{tobus_fits, toloop_fits}
use Rattle.mailblock.proofs.Laws.{no_state_misfits}
use Rattle.mailbox.specs.Calls.{Call, create, show, on, World, world, Did, checks, not_refused, refused_or, shown, step}
use Rattle.maillaws.proofs.Replied.{refused_exactly}
use Rattle.cmailbox.specs.Mailbox.{kind_of, mailboxes}

-- the checks of a call are those of its kind
same_checks : (c : Call) (w : World) → checks c w ≡ product.checks mailboxes (kind_of c) (mailboxes.apart w)
unfolding checks product.checks
same_checks (create a) w = refl
same_checks (show side) w = refl
same_checks (on c) w = refl

-- create looks at no state
module _ (a : ℕ) (s t : State) (xs ys : List ℕ) where
  abbrev from : State → Did
  from x = step (create a) (world x xs ys)

  same_answer : (from s).said ≡ (from t).said
  unfolding step refused_or checks not_refused
  same_answer = pick (sizes_obeyed a (length xs) (length ys)) refl
    where
      pick : (u : Bool) → sizes_obeyed a (length xs) (length ys) ≡ u → (from s).said ≡ (from t).said
      pick true e = rw e
      pick false e = rw e

  same_made : is_refusal (from s).said ≡ false → (from s).world ≡ (from t).world
  unfolding step refused_or checks not_refused
  same_made = pick (sizes_obeyed a (length xs) (length ys)) refl
    where
      pick : (u : Bool) → sizes_obeyed a (length xs) (length ys) ≡ u → is_refusal (from s).said ≡ false → (from s).world ≡ (from t).world
      pick true e h = rw e
      pick false e h = absurd (false≢true (sym (rw e at h)))

named : (c : Call) → product.call_of mailboxes (kind_of c) ≡ c
named (create a) = refl
named (show side) = refl
named (on c) = refl

pub formed : Formed mailboxes
unfolding step refused_or checks not_refused shown product.shown value_of
formed =
    record {
      there = λ w. refl;
      back = λ h. refl;
      named = named;
      created = λ a. refl;
      showed = λ side. refl;
      called = λ c. refl;
      misfits = no_state_misfits;
      first = λ h e. tobus_fits h.state h.first h.second e;
      second = λ h e. toloop_fits h.state h.first h.second e;
      refuses = λ c w. subst (λ (l : List Check). Refuses (step c w).said (step c w).world (first_refusal l) w) (same_checks c w) (refused_exactly c w tt);
      shows = λ side w. refl;
      looks = λ side w. refl;
      creates = λ a s t xs ys. record { answer = same_answer a s t xs ys; made = same_made a s t xs ys };
      alone = λ c w e. refl;
      shows_alone = λ side w. refl;
      creates_alone = λ a w. refl;
      valued = λ n. refl;
    }
