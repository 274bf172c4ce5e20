-- What a frame does to both rings: a device clear empties them, a listener's data frame is stored, any other only removes. Assumes nothing.
use Prim.Native.Nat.{ℕ}
use native.Mathlib.Omega.{arith}
use mathlib.Core.Path.{◌≡◌, refl, sym, ◌∙◌}
use mathlib.Core.Bool.{true, false, ◌&&◌}
use mathlib.Core.List.{List}
use lib.Dec.{eqb}
use lib.ListN.{length}
use borrow.Author.Tests.{ltb-true, ne_eqb}
use Rattle.frame.specs.Frame.{control_of, data_of, is_data}
use Rattle.store.specs.Ring.{Fit, empty_ring, puts_ring}
use Rattle.std.specs.Prelude.{Option, Some, None}
use Rattle.sending.specs.Sending.{given_of, send_held, sent_ring}
use Rattle.state.specs.declared.State.{State}
use Rattle.state.specs.Outcome.{Outcome}
use Rattle.state.specs.Conditions.{after_status, after_status_back}
use Rattle.line.specs.HoldingOff.{resumed}
use Rattle.loopside.specs.LoopToLine.{adds, added_state}
use Rattle.talker.specs.UnderWay.{talking}
use Rattle.loopside.specs.Sends.{rule_of, ended, removed_state, send_state, send_from, send_status}
use Rattle.loopside.specs.Frames.{order_in, cleared, obeyed, frame_taken, device_clear, adds_bytes}
use Rattle.role.specs.Orders.{is_clear}
use Rattle.role.proofs.Clears.{clear_order}
use Rattle.places.specs.OneStore.{next_place}
use Rattle.places.proofs.GoingOn.{places_go_on}
use Rattle.laws.proofs.Ways.{Returning, Readying, Way, way}
use Rattle.laws.proofs.Ways.{is_next, is_back, is_last, is_damaged, is_stored, is_passed, is_cleared}
use Rattle.laws.proofs.Ways.{is_obeyed, is_assigned, is_send_asked, is_told, is_finishing, is_ready, is_identified}

-- nothing is added: the receive store's next place and the transmit store's ring stay
pub record Still (n : ℕ) (s t : State) : Type 0 where
  pub place : next_place n t.rx ≡ next_place n s.rx
  pub ring : t.tx ≡ s.tx

-- the three kinds of a frame f in the state s, with the state after it; n is the length of the receive store
pub data Kind (n : ℕ) (s : State) (f : ℕ) (t : State) : Type 0 where
  clears : device_clear s f ≡ true → adds_bytes s f ≡ false → t.rx ≡ empty_ring s.rx.cap → t.tx ≡ empty_ring s.tx.cap → Kind n s f t
  stores : device_clear s f ≡ false → adds_bytes s f ≡ true → is_data f ≡ true → s.talker.role.listener ≡ true →
      t.rx ≡ s.rx → t.tx ≡ puts_ring s.tx (adds s.regs f) → Kind n s f t
  other : device_clear s f ≡ false → adds_bytes s f ≡ false → Still n s t → Kind n s f t

module _ (rx : List ℕ) (s : State) (fit : Fit rx s.rx) where
  abbrev S : State → Type 0
  S = Still (length rx) s

  send_still : S (send_from s rx).state
  unfolding send_from removed_state resumed sent_ring
  send_still = go (given_of (send_held (rule_of s.regs) rx s.rx))
    where
      removed : next_place (length rx) (removed_state s rx).rx ≡ next_place (length rx) s.rx
      removed = places_go_on.removed rx s.rx _ fit (omega arith)

      go : (g : Option ℕ) → S (send_state s (removed_state s rx) g).state
      go None = unfold send_state ended talking in record { place = removed; ring = refl }
      go (Some g) = unfold send_state talking in record { place = removed; ring = refl }

  module _ (f : ℕ) where
    abbrev K : State → Type 0
    K = Kind (length rx) s f

    -- a data frame is no command
    no_clear : is_data f ≡ true → device_clear s f ≡ false
    unfolding device_clear
    no_clear d = rw (ne_eqb (control_of f) 4 (λ h. omega (arith, ltb-true (control_of f) 4 d)))

    clear_same : eqb (control_of f) 4 ≡ true → device_clear s f ≡ is_clear (order_in s f)
    unfolding device_clear
    clear_same e = λ i. e i && sym (clear_order 31 s.talker.role (data_of f)) i

    return_kind : (t : State) → Returning s f → S t → K t
    unfolding adds_bytes
    return_kind t r k = other (no_clear r.isdata) (rw (r.isdata, r.active)) k

    ready_kind : (t : State) → Readying f → S t → K t
    unfolding adds_bytes device_clear
    ready_kind t r k = other (rw r.four) (rw r.isdata) k

    way_kind : (o : Outcome) → Way s rx f o → K o.state
    unfolding send_status ended talking after_status after_status_back added_state cleared obeyed adds_bytes device_clear
    way_kind o (is_next r m k e) = return_kind _ r send_still
    way_kind o (is_back r m k) = return_kind _ r (record { place = refl; ring = refl })
    way_kind o (is_last r m k e) = return_kind _ r (record { place = refl; ring = refl })
    way_kind o (is_damaged r m) = return_kind _ r (record { place = refl; ring = refl })
    way_kind o (is_stored r l) = stores (no_clear r.isdata) (rw (r.isdata, r.idle, l)) r.isdata l refl refl
    way_kind o (is_passed r l) = other (no_clear r.isdata) (rw (r.isdata, r.idle, l)) (record { place = refl; ring = refl })
    way_kind o (is_cleared r c) = clears (clear_same r.four ∙ c) (rw r.isdata) refl refl
    way_kind o (is_obeyed r c) = other (clear_same r.four ∙ c) (rw r.isdata) (record { place = refl; ring = refl })
    way_kind o (is_assigned r a) = ready_kind _ r (record { place = refl; ring = refl })
    way_kind o (is_send_asked r a x) = ready_kind _ r send_still
    way_kind o (is_told r a x y) = ready_kind _ r (record { place = refl; ring = refl })
    way_kind o (is_finishing r a x y z) = ready_kind _ r (record { place = refl; ring = refl })
    way_kind o (is_ready r a x y z) = ready_kind _ r (record { place = refl; ring = refl })
    way_kind o (is_identified r) = other (rw r.four) (rw r.isdata) (record { place = refl; ring = refl })

    pub frame_kind : K (frame_taken s rx f).state
    frame_kind = way_kind (frame_taken s rx f) (way s rx f)
