-- Loop to line, last: what was handed out and what is held is what the frames added. Assumes nothing.
use Prim.Native.Nat.{ℕ, ◌+◌, ◌≤◌, ◌<◌}
use native.Mathlib.Omega.{arith}
use mathlib.Core.Path.{◌≡◌, refl, sym, ap, ◌∙◌}
use mathlib.Core.Bool.{true, false, false≢true}
use mathlib.Core.List.{List, [], ◌∷◌, ◌++◌, append_assoc}
use lib.ListN.{length, get_or, drop}
use Rattle.store.specs.Ring.{held, puts_ring, puts_bytes, drop_ring}
use Rattle.store.proofs.Laws.{held_drop, held_empty, held_length}
use Rattle.store.proofs.Several.{held_puts}
use Rattle.state.specs.Sizes.{start_state}
use Rattle.state.proofs.Fits.{tx_fits}
use Rattle.line.specs.HoldingOff.{stored_with}
use Rattle.bridge.specs.Calls.{Call, World}
use Rattle.laws.specs.Observers.{added, empties}
use Rattle.laws.specs.Worlds.{held_for_line}
use Rattle.laws.specs.LineBytes.{loop_to_line, LineKept, LineSince}
use Rattle.runs.proofs.Shapes.{Seen, seen, Core, core, Fits, Shape, is_still, is_begun}
use Rattle.runs.proofs.Shapes.{is_written, is_cleared, is_stored, is_lost, is_broken, is_sent, is_none, is_left, is_handed}
use Rattle.runs.proofs.View.{view}
use Rattle.runs.proofs.Runs.{first_not}
use Rattle.runs.proofs.Steps.{answer, after, all, Without, ours}
use Rattle.machine.specs.Course.{Each}
use Rattle.machine.specs.Machine.{Obeys, course}
use Rattle.machine.specs.Turns.{TurnReads}
use Rattle.machine.proofs.Turns.{from_turns}

-- a list that is not empty, by its first
first_rest : (l : List ℕ) → 0 < length l → l ≡ get_or l 0 0 ∷ drop 1 l
first_rest [] h = absurd (omega arith)
first_rest (x ∷ l) h = refl

module _ (w : World) (F : Fits w) where
  held_left : (l : List ℕ) → w.state.tx.len + length l ≤ w.state.tx.cap →
      held (puts_bytes w.tx w.state.tx l) (puts_ring w.state.tx l) ≡ held_for_line w ++ l
  held_left l h = held_puts w.tx w.state.tx l (tx_fits w.state w.rx w.tx F).ring h

  held_handed : 0 < w.state.tx.len → held_for_line w ≡ get_or (held_for_line w) 0 0 ∷ held w.tx (drop_ring w.state.tx 1)
  held_handed h =
      let f = tx_fits w.state w.rx w.tx F in
      first_rest (held_for_line w) (omega (arith, held_length w.tx w.state.tx f.ring))
      ∙ ap (λ l. get_or (held_for_line w) 0 0 ∷ l)
      (sym (held_drop w.tx w.state.tx 1 f.ring (omega arith)))

keeps : (w : World) (x : Seen) (h : Core) (rx tx : List ℕ) → Shape w x h rx tx → x.empties ≡ false → (ys : List ℕ) →
    held_for_line w ++ (x.left ++ ys) ≡ x.handed ++ (held tx h.tx ++ ys)
unfolding stored_with
keeps w x h rx tx is_still n ys = refl
keeps w x h rx tx (is_begun m) n ys = absurd (false≢true (sym n))
keeps w x h rx tx (is_written g t u) n ys = refl
keeps w x h rx tx is_cleared n ys = absurd (false≢true (sym n))
keeps w x h rx tx (is_stored b F l) n ys = refl
keeps w x h rx tx (is_lost b l) n ys = refl
keeps w x h rx tx (is_broken F) n ys = refl
keeps w x h rx tx (is_sent f r F e) n ys = refl
keeps w x h rx tx (is_none r F e) n ys = refl
keeps w x h rx tx (is_left l F e) n ys = sym (append_assoc (held_for_line w) l ys) ∙ ap (λ k. k ++ ys) (sym (held_left w F l e))
keeps w x h rx tx (is_handed F e) n ys = ap (λ k. k ++ ys) (held_handed w F e)

-- every call of the run
turns : (cs : List Call) (w : World) → Without empties cs w → Each (TurnReads loop_to_line) (course ours cs w)
unfolding course
turns [] w n = tt
turns (c ∷ cs) w n =
    let m = first_not empties c cs w n in
    (keeps w (seen c w (answer c w)) (core (after c w).state) (after c w).rx (after c w).tx (view c w) m.0, turns cs (after c w) m.1)

pub line_kept : Obeys ours LineKept
line_kept cs w B k n = from_turns loop_to_line ours cs w (turns cs w n)

-- nothing is held after a create, a reset or a device clear
emptied : (w : World) (x : Seen) (h : Core) (rx tx : List ℕ) → Shape w x h rx tx → x.empties ≡ true → held tx h.tx ≡ []
unfolding start_state
emptied w x h rx tx is_still n = absurd (false≢true n)
emptied w x h rx tx (is_begun m) n = held_empty w.tx _
emptied w x h rx tx (is_written g t u) n = absurd (false≢true n)
emptied w x h rx tx is_cleared n = held_empty w.tx _
emptied w x h rx tx (is_stored b F l) n = absurd (false≢true n)
emptied w x h rx tx (is_lost b l) n = absurd (false≢true n)
emptied w x h rx tx (is_broken F) n = absurd (false≢true n)
emptied w x h rx tx (is_sent f r F e) n = absurd (false≢true n)
emptied w x h rx tx (is_none r F e) n = absurd (false≢true n)
emptied w x h rx tx (is_left l F e) n = absurd (false≢true n)
emptied w x h rx tx (is_handed F e) n = absurd (false≢true n)

pub line_since : Obeys ours LineSince
line_since c cs w B j k e n =
    from_turns loop_to_line ours cs (after c w) (turns cs (after c w) n)
    ∙ ap (λ l. l ++ all added cs (after c w)) (emptied w (seen c w (answer c w)) (core (after c w).state) (after c w).rx (after c w).tx (view c w) e)
