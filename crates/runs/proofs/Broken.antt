-- What is held after a break. Assumes nothing.
use Prim.Native.Nat.{ℕ, ◌-◌, ◌≤◌}
use native.Mathlib.Omega.{arith}
use mathlib.Core.Path.{◌≡◌, refl, sym, ap, ◌∙◌}
use mathlib.Core.Bool.{true, false≢true}
use mathlib.Core.List.{List, [], ◌∷◌, ◌++◌}
use mathlib.Core.Logic.{⊎_elim}
use lib.ListN.{length, set, get_or}
use borrow.Author.Tests.{lt-ltb, le-ltb}
use Rattle.branches.proofs.Branches.{split}
use Rattle.store.specs.declared.Ring.{Ring}
use Rattle.store.specs.Ring.{Fit, held}
use Rattle.store.proofs.Laws.{held_length}
use Rattle.cells.proofs.Newest.{held_replaced}
use Rattle.places.specs.OneStore.{written_from}
use Rattle.places.proofs.OneStore.{placed_marked}
use Rattle.reading.specs.Received.{a_break, marked_cell, received, received_in, as_held}
use Rattle.reading.proofs.Received.{received_break}
use Rattle.state.proofs.Fits.{rx_fits}
use Rattle.line.specs.Breaks.{break_cells}
use Rattle.line.proofs.Breaks.{break_marks, break_nothing}
use Rattle.bridge.specs.Calls.{World}
use Rattle.laws.specs.Worlds.{held_cells, held_to_send}
use Rattle.laws.specs.Events.{broken, store_with}
use Rattle.runs.proofs.Shapes.{Seen, Core, core, Fits, Shape, is_still, is_begun}
use Rattle.runs.proofs.Shapes.{is_written, is_cleared, is_stored, is_lost, is_broken, is_sent, is_none, is_left, is_handed}

-- with nothing held a break is none
none_broken : (l : List ℕ) → length l ≤ 0 → received_in l ≡ as_held (received_in l ++ (a_break ∷ []))
unfolding received as_held
none_broken [] h = refl
none_broken (x ∷ l) h = absurd (omega arith)

module _ (w : World) (F : Fits w) where
  abbrev ring : Ring
  ring = w.state.rx

  fit : Fit w.rx ring
  fit = (rx_fits w.state w.rx w.tx F).ring

  size : length (held_cells w) ≡ ring.len
  size = held_length w.rx ring fit

  -- the break is behind the newest byte, once
  pub held_broken : received_in (held (break_cells w.state w.rx) ring) ≡ as_held (held_to_send w ++ (a_break ∷ []))
  held_broken =
      ⊎_elim
      (λ some.
      ap (λ (l : List ℕ). received_in (held l ring)) (break_marks w.state w.rx some)
      ∙ ap received_in (held_replaced w.rx ring _ fit some)
      ∙ ap (λ (n : ℕ). received_in (set (held_cells w) (n - 1) (marked_cell (get_or (held_cells w) (n - 1) 0)))) (sym size)
      ∙ received_break (held_cells w) (omega (arith, size)))
      (λ none. ap (λ (l : List ℕ). received_in (held l ring)) (break_nothing w.state w.rx none) ∙ none_broken (held_cells w) (omega (arith, size)))
      (split 0 ring.len)

  -- the receive store after it, by the places
  pub store_broken : break_cells w.state w.rx ≡ store_with broken w
  unfolding written_from
  store_broken =
      ⊎_elim
      (λ some.
      rw (lt-ltb 0 (length (held_cells w)) (omega (arith, size)))
      (break_marks w.state w.rx some ∙ (placed_marked marked_cell w.rx ring ring fit some refl).bytes))
      (λ none. rw (le-ltb 0 (length (held_cells w)) (omega (arith, size))) (break_nothing w.state w.rx none))
      (split 0 ring.len)

-- ---- a call that is seen as a break is one

pub record Broke (w : World) (x : Seen) (h : Core) (rx : List ℕ) : Type 0 where
  pub fits : Fits w
  pub core : h ≡ core w.state
  pub sent : x.sent ≡ []
  pub store : rx ≡ break_cells w.state w.rx

pub broke : (w : World) (x : Seen) (h : Core) (rx tx : List ℕ) → Shape w x h rx tx → x.breaks ≡ true → Broke w x h rx
broke w x h rx tx (is_broken F) b = record { fits = F; core = refl; sent = refl; store = refl }
broke w x h rx tx is_still b = absurd (false≢true b)
broke w x h rx tx (is_begun k) b = absurd (false≢true b)
broke w x h rx tx (is_written g t u) b = absurd (false≢true b)
broke w x h rx tx is_cleared b = absurd (false≢true b)
broke w x h rx tx (is_stored k F l) b = absurd (false≢true b)
broke w x h rx tx (is_lost k l) b = absurd (false≢true b)
broke w x h rx tx (is_sent f r F e) b = absurd (false≢true b)
broke w x h rx tx (is_none r F e) b = absurd (false≢true b)
broke w x h rx tx (is_left l F e) b = absurd (false≢true b)
broke w x h rx tx (is_handed F e) b = absurd (false≢true b)
