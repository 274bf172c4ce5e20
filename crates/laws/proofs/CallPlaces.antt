-- Every call that is not refused puts its bytes at the next places. Assumes nothing.
use Prim.Native.Nat.{ℕ, ◌+◌, ◌≤◌}
use native.Mathlib.Omega.{arith}
use mathlib.Core.Path.{◌≡◌, refl, sym, ◌∙◌}
use mathlib.Core.Bool.{Bool, true, false, cond, ◌&&◌, not, and-false}
use mathlib.Core.List.{List, [], ◌∷◌, map}
use mathlib.Core.Logic.{⊎_elim}
use lib.Dec.{eqb, ltb}
use lib.ListN.{length}
use borrow.Author.Tests.{leb-true, leb-false, ltb-false, lt-leb, lt-ltb, le-ltb}
use Rattle.answers.specs.Refusals.{first_refusal}
use Rattle.branches.proofs.Branches.{by_cond, split}
use Rattle.machine.specs.Machine.{Obeys}
use Rattle.frame.specs.Frame.{is_data}
use Rattle.role.specs.Role.{is_active}
use Rattle.talker.proofs.FitLaws as talker-laws
use Rattle.store.specs.declared.Ring.{Ring}
use Rattle.store.specs.Ring.{held, full, empty_ring, put_bytes, puts_ring, puts_bytes}
use Rattle.store.specs.Ring as store-ring
use Rattle.store.proofs.Laws.{held_length, put_full}
use Rattle.state.specs.declared.State.{State}
use Rattle.std.specs.Prelude.{Option, Some, None}
use Rattle.state.specs.declared.Next.{Next}
use Rattle.state.specs.declared.Next.TheVariants as out
use Rattle.state.specs.Sizes.{start_state, RxFits, TxFits}
use Rattle.state.specs.Conditions.{settled, break_state, key_state}
use Rattle.state.proofs.Fits.{tests, rx_fits, tx_fits}
use Rattle.reading.specs.Received.{marked_cell}
use Rattle.line.specs.Breaks.{break_cells}
use Rattle.line.proofs.Breaks.{break_marks, break_nothing}
use Rattle.line.specs.HoldingOff.{is_go_or_stop, flowed, lost_state, stored_with, stored_state, line_state, line_bytes, set_afresh, after_write, next_out, gone}
use Rattle.line.proofs.Parts.{gone_some}
use Rattle.loopside.specs.LoopToLine.{adds, busy, added_bytes}
use Rattle.loopside.specs.Frames.{frame_taken, device_clear, adds_bytes, frame_bytes}
use Rattle.bridge.specs.Calls.{Store, receive, transmit, reset, write, line_byte, line_break, key, ask_line_byte, take_line_byte, loop_frame, Call, create, show, on}
use Rattle.bridge.specs.Calls.{World, world, Did, outcome, settled_by, rx_after, tx_after, not_refused, checks, step, refusal}
use Rattle.answers.specs.Answers.{said}
use Rattle.laws.specs.Fitting.{Fits}
use Rattle.places.specs.OneStore.{next_place, Write, anew, again, Placed}
use Rattle.laws.specs.Bridges.{bridge}
use Rattle.laws.specs.Observers.{accepted, added, empties}
use Rattle.laws.specs.Worlds.{holds_some}
use Rattle.laws.specs.Observers as see
use Rattle.laws.specs.StorePlaces.{written_to, Places}
use Rattle.laws.proofs.Refusing.{by_refusal, fitting, frame_fitting}
use Rattle.places.proofs.GoingOn.{places_go_on}
use Rattle.places.proofs.OneStore.{placed_still, placed_same, placed_emptied, placed_added, placed_marked}
use Rattle.laws.proofs.Answers.{frame_not_refused}
use Rattle.laws.proofs.FramePlaces.{Kind, clears, stores, other, frame_kind}

-- both stores, which are emptied or not and in which a and b are written
record BothPlaced (emptied : Bool) (a b : List Write) (w v : World) : Type 0 where
  rx : Placed marked_cell emptied a w.rx w.state.rx v.rx v.state.rx
  tx : Placed marked_cell emptied b w.tx w.state.tx v.tx v.state.tx

-- ---- a line byte

module _ (w : World) (e : Fits w) where
  f : RxFits w.state w.rx
  f = rx_fits w.state w.rx w.tx e

  g : TxFits w.state w.tx
  g = tx_fits w.state w.rx w.tx e

  line_rx : (b : ℕ) →
      Placed marked_cell false (map anew (cond (full w.state.rx) [] (cond (not (is_go_or_stop w.state.regs b)) (b ∷ []) [])))
      w.rx w.state.rx (line_bytes w.state w.rx b) (line_state w.state b).rx
  unfolding line_bytes line_state flowed lost_state stored_with puts_bytes puts_ring
  line_rx b = go (is_go_or_stop w.state.regs b) (full w.state.rx) refl
    where
      r : Ring
      r = w.state.rx

      go : (i u : Bool) → full r ≡ u →
          Placed marked_cell false (map anew (cond u [] (cond (not i) (b ∷ []) []))) w.rx r (cond i w.rx (put_bytes w.rx r b))
          (cond i (flowed w.state b) (cond u (lost_state w.state) (stored_state w.state))).rx
      go true true h = placed_same marked_cell w.rx r r refl
      go true false h = placed_same marked_cell w.rx r r refl
      go false true h = rw (put_full w.rx r b (leb-true r.cap r.len h)) (placed_same marked_cell w.rx r r refl)
      go false false h =
          placed_added marked_cell w.rx r (b ∷ []) f.ring (omega (arith, f.ring.cap, leb-false r.cap r.len h))

  line_tx : (b : ℕ) → (line_state w.state b).tx ≡ w.state.tx
  unfolding line_state flowed lost_state stored_with
  line_tx b = by_cond T (is_go_or_stop w.state.regs b) _ _ (λ _. refl)
      (λ _. by_cond T (full w.state.rx) _ _ (λ _. refl) (λ _. refl))
    where
      T : State → Type 0
      T t = t.tx ≡ w.state.tx

  -- ---- a break

  -- by whether anything is held
  break_rx : Placed marked_cell false (cond (holds_some w) (again ∷ []) (map anew (cond (full w.state.rx) [] [])))
      w.rx w.state.rx (break_cells w.state w.rx) w.state.rx
  break_rx =
      let r : Ring = w.state.rx in
      let n : length (held w.rx r) ≡ r.len = held_length w.rx r f.ring in
      ⊎_elim
      (λ some.
      rw (lt-ltb 0 (length (held w.rx r)) (omega (arith, n)), break_marks w.state w.rx some)
      (placed_marked marked_cell w.rx r r f.ring some refl))
      (λ nothing.
      rw (le-ltb 0 (length (held w.rx r)) (omega (arith, n)), break_nothing w.state w.rx nothing)
      (by_cond (λ (x : List ℕ). Placed marked_cell false (map anew x) w.rx r w.rx r) (full r) [] []
      (λ _. placed_same marked_cell w.rx r r refl) (λ _. placed_same marked_cell w.rx r r refl)))
      (split 0 r.len)

  -- ---- a byte to the line

  gone_rx : (o : Option Next) → (gone w.state o).rx ≡ w.state.rx
  unfolding gone
  gone_rx (Some (out.Own b)) = refl
  gone_rx (Some (out.Held b)) = refl
  gone_rx None = refl

  gone_tx : (o : Option Next) → o ≡ next_out w.state w.tx → next_place (length w.tx) (gone w.state o).tx ≡ next_place (length w.tx) w.state.tx
  unfolding gone
  gone_tx (Some (out.Own b)) h = refl
  gone_tx (Some (out.Held b)) h = places_go_on.removed w.tx w.state.tx 1 g.ring (gone_some w.state w.tx b h)
  gone_tx None h = refl

  -- ---- a frame

  room : (n : ℕ) → is_data n ≡ true → w.state.talker.role.listener ≡ true → busy w.state n ≡ false →
      w.state.tx.len + length (adds w.state.regs n) ≤ length w.tx
  unfolding busy
  room n d l b =
      let r : ltb (store-ring.room w.state.tx) (length (adds w.state.regs n)) ≡ false =
      (λ i. (sym l i && sym d i) && ltb (store-ring.room w.state.tx) (length (adds w.state.regs n))) ∙ b in
      omega (arith, ltb-false (store-ring.room w.state.tx) (length (adds w.state.regs n)) r, g.ring.cap, g.ring.within.len)

  -- by whether the frame is a device clear, and whether it leaves bytes
  abbrev Framed : ℕ → State → Bool → Bool → Type 0
  Framed n t c l =
      BothPlaced c [] (map anew (cond l (adds w.state.regs n) [])) w
      (world (cond c t (settled w.state t)) w.rx (cond l (added_bytes w.state w.tx n) w.tx))

  by_kind : (n : ℕ) (t : State) → busy w.state n ≡ false → Kind (length w.rx) w.state n t →
      Framed n t (device_clear w.state n) (adds_bytes w.state n)
  unfolding settled added_bytes
  by_kind n t b (clears c l x y) =
      rw (c, l) (record { rx = placed_emptied marked_cell w.rx w.state.rx t.rx x; tx = placed_emptied marked_cell w.tx w.state.tx t.tx y })
  by_kind n t b (stores c l d h x y) =
      rw (c, l)
      (record {
        rx = placed_same marked_cell w.rx w.state.rx t.rx x;
        tx = rw y (placed_added marked_cell w.tx w.state.tx (adds w.state.regs n) g.ring (room n d h b));
      })
  by_kind n t b (other c l s) =
      rw (c, l) (record { rx = placed_still marked_cell w.rx w.state.rx t.rx s.place; tx = placed_same marked_cell w.tx w.state.tx t.tx s.ring })

-- ---- every call

-- neither store changes, or both are emptied
quiet : (w : World) (t : State) → t.rx ≡ w.state.rx → t.tx ≡ w.state.tx → BothPlaced false [] [] w (world t w.rx w.tx)
quiet w t a b = record { rx = placed_same marked_cell w.rx w.state.rx t.rx a; tx = placed_same marked_cell w.tx w.state.tx t.tx b }

empty : (w : World) (t : State) {a b : ℕ} → t.rx ≡ empty_ring a → t.tx ≡ empty_ring b → BothPlaced true [] [] w (world t w.rx w.tx)
empty w t x y = record { rx = placed_emptied marked_cell w.rx w.state.rx t.rx x; tx = placed_emptied marked_cell w.tx w.state.tx t.tx y }

abbrev PlacesOf : Call → World → Did → Type 0
PlacesOf c w d = BothPlaced (empties c w d.said) (written_to receive c w d.said) (written_to transmit c w d.said) w d.world

-- where nothing arrives, nothing is accepted
none : (w : World) {c : Bool} {l : List Write} {v : World} → BothPlaced c [] l w v → BothPlaced c (map anew (cond (full w.state.rx) [] [])) l w v
none w {c} {l} {v} p = by_cond (λ (x : List ℕ). BothPlaced c (map anew x) l w v) (full w.state.rx) [] [] (λ _. p) (λ _. p)

same : (w : World) → BothPlaced false (map anew (cond (full w.state.rx) [] [])) [] w w
same w = none w (quiet w w.state refl refl)

refused_places : (c : Call) (w : World) (n : ℕ) → PlacesOf c w (refusal n w)
unfolding see.restarts see.clears accepted see.arrived added
refused_places (create m) w n = same w
refused_places (show side) w n = same w
refused_places (on reset) w n = same w
refused_places (on (write k v)) w n = same w
refused_places (on (line_byte b)) w n = same w
refused_places (on line_break) w n = same w
refused_places (on key) w n = same w
refused_places (on ask_line_byte) w n = same w
refused_places (on (take_line_byte b)) w n = same w
refused_places (on (loop_frame f)) w n = same w

-- a listener is no active talker
stores_same : (w : World) → Fits w → (f : ℕ) → adds_bytes w.state f ≡ (is_data f && w.state.talker.role.listener)
unfolding adds_bytes
stores_same w e f = go (is_data f) w.state.talker.role.listener refl
  where
    idle : w.state.talker.role.listener ≡ true → is_active w.state.talker.role ≡ false
    idle l = lt-leb 2 w.state.talker.role.phase
        (omega (arith, (talker-laws.fit_true w.state.talker (tests w.state (length w.rx) (length w.tx) e).talker).role.apart l))

    go : (d l : Bool) → w.state.talker.role.listener ≡ l → ((d && not (is_active w.state.talker.role)) && l) ≡ (d && l)
    go true true e = λ i. not (idle e i) && true
    go true false e = and-false (not (is_active w.state.talker.role))
    go false l e = refl

done_places : (c : Call) (w : World) → first_refusal (checks c w) ≡ 0 → PlacesOf c w (not_refused c w)
unfolding not_refused outcome settled_by settled rx_after tx_after start_state break_state key_state frame_bytes
    see.restarts see.clears accepted see.arrived see.is_flow is_go_or_stop added adds said
done_places (create m) w h = none w (empty w _ refl refl)
done_places (show side) w h = same w
done_places (on reset) w h = none w (empty w _ refl refl)
done_places (on (write n v)) w h =
    unfold after_write set_afresh in
    none w (by_cond (λ (t : State). BothPlaced false [] [] w (world (settled w.state t) w.rx w.tx)) (eqb n 11) _ _ (λ _. quiet w _ refl refl)
    (λ _. quiet w _ refl refl))
done_places (on (line_byte b)) w h =
    let e : Fits w = (fitting (line_byte b) w h).0 in
    record { rx = line_rx w e b; tx = placed_same marked_cell w.tx w.state.tx _ (line_tx w e b) }
done_places (on line_break) w h =
    record { rx = break_rx w (fitting line_break w h).0; tx = placed_same marked_cell w.tx w.state.tx _ refl }
done_places (on key) w h = none w (quiet w _ refl refl)
done_places (on ask_line_byte) w h = none w (quiet w _ refl refl)
done_places (on (take_line_byte b)) w h =
    let e : Fits w = (fitting (take_line_byte b) w h).0 in
    let o : Option Next = next_out w.state w.tx in
    none w
    (record {
      rx = placed_same marked_cell w.rx w.state.rx _ (gone_rx w e o);
      tx = placed_still marked_cell w.tx w.state.tx _ (gone_tx w e o refl);
    })
done_places (on (loop_frame n)) w h =
    let x = frame_fitting n w h in
    let t : State = (frame_taken w.state w.rx n).state in
    rw (frame_not_refused w.state w.rx n, ← stores_same w x.0 n)
    (none w (by_kind w x.0 n t x.1.1 (frame_kind w.rx w.state (rx_fits w.state w.rx w.tx x.0).ring n)))

both_placed : (c : Call) (w : World) → PlacesOf c w (step c w)
both_placed c w = by_refusal (PlacesOf c w) c w (done_places c w) (λ _. refused_places c w _)

pub places : (s : Store) → Obeys (bridge step) (Places s)
places receive c w _ = (both_placed c w).rx
places transmit c w _ = (both_placed c w).tx
