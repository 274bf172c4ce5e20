-- Every show returns what its law says. Assumes nothing.
use Prim.Native.Nat.{ℕ, ◌-◌, ◌≤◌, min}
use native.Mathlib.Omega.{arith}
use mathlib.Core.Path.{◌≡◌, refl, sym, ap, subst, ◌∙◌}
use mathlib.Core.Bool.{false}
use mathlib.Core.List.{List, []}
use lib.ListN.{length, length-take, length-drop}
use borrow.Author.Tests.{ne_eqb}
use Rattle.machine.specs.Machine.{Obeys, seen}
use Rattle.store.specs.Ring.{Fit, run}
use Rattle.store.proofs.Laws.{run_first, run_part}
use Rattle.answers.specs.Answers.{part}
use Rattle.mailstate.specs.Sizes.{fits}
use Rattle.mailstate.proofs.Fits.{tobus_fits, toloop_fits}
use Rattle.mailbox.specs.Calls.{show, Call, World, checks, refused_or, not_refused, shown, step}
use Rattle.maillaws.specs.Mailboxes.{mailbox}
use Rattle.maillaws.specs.Sights.{Direction, to_bus, to_loop, store_of, ring_of}
use Rattle.maillaws.specs.StateFits.{Fits}
use Rattle.maillaws.specs.MailShows.{Unbroken, ShownRight, ShowsSo}
use Rattle.maillaws.proofs.FrameTests.{either_same}

module _ (w : World) where
  -- what stands unbroken in a way, where the ring fits
  run_right : (d : Direction) (xs : List ℕ) → Fit (store_of d w) (ring_of d w) → run (store_of d w) (ring_of d w) ≡ xs → Unbroken d w xs
  run_right d xs f q =
      subst (Unbroken d w) q
      (record {
        first = run_first (store_of d w) (ring_of d w) f;
        longest =
            ap length (sym (run_part (store_of d w) (ring_of d w) (min (ring_of d w).len (length (store_of d w) - (ring_of d w).oldest)) refl))
            ∙ simp (length-take, length-drop) (omega arith);
      })

  shown_tobus : Fits w → shown 0 w ≡ run w.tobus w.state.tobus.ring
  unfolding shown
  shown_tobus f = rw f

  shown_toloop : Fits w → shown 1 w ≡ run w.toloop w.state.toloop.ring
  unfolding shown
  shown_toloop f = rw f

  shown_neither : (side : ℕ) → 2 ≤ side → shown side w ≡ []
  unfolding shown
  shown_neither side h =
      simp (ne_eqb side 0 (λ e. omega arith), ne_eqb side 1 (λ e. omega arith)) (either_same (fits w.state (length w.tobus) (length w.toloop)) [])

  shown_misfit : (side : ℕ) → fits w.state (length w.tobus) (length w.toloop) ≡ false → shown side w ≡ []
  unfolding shown
  shown_misfit side f = rw f

  shown_right : (side : ℕ) (xs : List ℕ) → shown side w ≡ xs → ShownRight side xs (seen (mailbox step) (show side) w)
  unfolding step checks refused_or not_refused
  shown_right side xs e =
      record {
        tobus = λ f z. run_right to_bus xs (tobus_fits w.state w.tobus w.toloop f) (sym (shown_tobus f) ∙ at_side z);
        toloop = λ f z. run_right to_loop xs (toloop_fits w.state w.tobus w.toloop f) (sym (shown_toloop f) ∙ at_side z);
        neither = λ h. sym e ∙ shown_neither side h;
        misfit = λ f. sym e ∙ shown_misfit side f;
        stays = refl;
      }
    where
      at_side : {n : ℕ} → side ≡ n → shown n w ≡ xs
      at_side z = subst (λ (k : ℕ). shown k w ≡ xs) z e

pub shows_so : Obeys (mailbox step) ShowsSo
unfolding step checks refused_or not_refused
shows_so c w b side xs e =
    subst (λ (d : Call). (step d w).said ≡ part xs → ShownRight side xs (seen (mailbox step) d w)) (sym e) (λ p. shown_right w side xs (parts_same p))
  where
    parts_same : part (shown side w) ≡ part xs → shown side w ≡ xs
    parts_same p = cc
