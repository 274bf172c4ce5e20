-- Every show returns what its law says. Assumes nothing.
use Prim.Native.Nat.{ℕ, ◌-◌, min}
use native.Mathlib.Omega.{arith}
use mathlib.Core.Path.{◌≡◌, refl, sym, ap, subst, ◌∙◌}
use mathlib.Core.Bool.{false}
use mathlib.Core.List.{List, []}
use lib.ListN.{length, length-take, length-drop}
use Rattle.machine.specs.Machine.{Obeys, seen}
use Rattle.store.specs.declared.Ring.{Ring}
use Rattle.store.specs.Ring.{Fit, run}
use Rattle.store.proofs.Laws.{run_first, run_part}
use Rattle.answers.specs.Answers.{part}
use Rattle.state.specs.Sizes.{fits}
use Rattle.state.proofs.Fits.{rx_fits, tx_fits}
use Rattle.bridge.specs.Calls.{Store, receive, transmit, store_of, ring_of, show, Call, World, checks, refused_or, not_refused, shown, step}
use Rattle.laws.specs.Bridges.{bridge}
use Rattle.laws.specs.Fitting.{Fits}
use Rattle.laws.specs.Showing.{Unbroken, ShownRight, ShowsSo}

run_right : (s : List ℕ) (r : Ring) → Fit s r → Unbroken s r (run s r)
run_right s r f =
    record {
      first = run_first s r f;
      longest = ap length (sym (run_part s r (min r.len (length s - r.oldest)) refl)) ∙ simp (length-take, length-drop) (omega arith);
    }

module _ (w : World) where
  -- each ring fits its store
  ring_fits : (side : Store) → Fits w → Fit (store_of side w) (ring_of side w.state)
  ring_fits receive f = (rx_fits w.state w.rx w.tx f).ring
  ring_fits transmit f = (tx_fits w.state w.rx w.tx f).ring

  shown_fit : (side : Store) → Fits w → shown side w ≡ run (store_of side w) (ring_of side w.state)
  unfolding shown
  shown_fit side f = rw f

  shown_misfit : (side : Store) → fits w.state (length w.rx) (length w.tx) ≡ false → shown side w ≡ []
  unfolding shown
  shown_misfit side f = rw f

  shown_right : (side : Store) (xs : List ℕ) → shown side w ≡ xs → ShownRight side xs (seen (bridge step) (show side) w)
  unfolding step checks refused_or not_refused
  shown_right side xs e =
      record {
        part = λ f. subst (Unbroken (store_of side w) (ring_of side w.state)) (sym (shown_fit side f) ∙ e)
            (run_right (store_of side w) (ring_of side w.state) (ring_fits side f));
        misfit = λ f. sym e ∙ shown_misfit side f;
        stays = refl;
      }

pub shows_so : Obeys (bridge step) ShowsSo
unfolding step checks refused_or not_refused
shows_so c w _ side xs e =
    subst (λ (d : Call). (step d w).said ≡ part xs → ShownRight side xs (seen (bridge step) d w)) (sym e) (λ p. shown_right w side xs (parts_same p))
  where
    parts_same : part (shown side w) ≡ part xs → shown side w ≡ xs
    parts_same p = cc
