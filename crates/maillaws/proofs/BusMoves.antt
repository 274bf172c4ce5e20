-- What a loop frame does to the way to the bus. Assumes nothing.
use Prim.Native.Nat.{ℕ, ◌<◌}
use native.Mathlib.Omega.{arith}
use mathlib.Core.Path.{◌≡◌, refl, sym, ap, subst, ◌∙◌}
use mathlib.Core.Bool.{Bool, true, false, cond, ◌&&◌, not, true≢false}
use mathlib.Core.List.{List, [], ◌∷◌}
use lib.Dec.{eqb, leb}
use borrow.Author.Tests.{leb-false}
use Rattle.branches.proofs.Branches.{by_cond}
use Rattle.frame.specs.Frame.{control_of, data_of, made, is_data, is_end}
use Rattle.role.specs.Role.{is_active}
use Rattle.role.proofs.Clears.{clear_order}
use Rattle.store.specs.Ring.{put_bytes}
use Rattle.answers.specs.Answers.{Said, frame, said}
use Rattle.way.specs.Way.{empty_way, left_in}
use Rattle.mailstate.specs.Outcome.{Outcome}
use Rattle.mailstate.proofs.Fits.{tobus_fits}
use Rattle.mailloop.specs.Sends.{serviced, ended, sends, send_waiting, send_id, send_accessory, send_status}
use Rattle.mailloop.specs.Messages.{cell_of, busy, clears, released, identify, keeps, frame_cells}
use Rattle.mailbox.specs.Calls.{loop_frame, on, World}
use Rattle.maillaws.specs.Sights.{to_bus, taken, cell_for, loop_listens, left, fetched, told, clears_by, restarts, asks_clear}
use Rattle.maillaws.specs.StateFits.{Fits}
use Rattle.maillaws.proofs.Fields.{listener_idle}
use Rattle.maillaws.proofs.FrameTests.{data_not}
use Rattle.maillaws.proofs.FrameWays.{Way, Returning, Arriving, Commanding, Asking, is_next, is_next_id, is_back, is_last, is_damaged, is_held, is_heard, is_passed}
use Rattle.maillaws.proofs.FrameWays.{is_cleared, is_obeyed, is_released, is_assigned, is_send_asked, is_told, is_finishing, is_id_asked, is_accessory}
use Rattle.maillaws.proofs.FrameWays.{is_ready, is_identified}
use Rattle.maillaws.proofs.Moves.{sight, nothing, Move, is_still, is_put, is_emptied, by_sight}

-- a test with a false one
and_off : (t : Bool) → (t && false) ≡ false
and_off true = refl
and_off false = refl

module _ (w : World) (f : ℕ) where
  -- the frame is data for a listener, and it clears
  abbrev kept_by : Bool
  kept_by = is_data f && loop_listens w

  abbrev cleared_by : Bool
  cleared_by = eqb (control_of f) 4 && asks_clear (loop_listens w) (data_of f)

  abbrev Goes : Outcome → Type 0
  Goes o = Move to_bus w false (sight to_bus (on (loop_frame f)) w (said o.answer)) o.state.tobus.ring o.state.tobus.news (frame_cells w.state w.tobus f)

  -- a frame that is neither
  still : (a : Said) → kept_by ≡ false → keeps w.state f ≡ false → cleared_by ≡ false →
      Move to_bus w false (sight to_bus (on (loop_frame f)) w a) w.state.tobus.ring w.state.tobus.news (frame_cells w.state w.tobus f)
  unfolding left fetched told clears_by restarts frame_cells
  still a k e c =
      subst (λ (l : List ℕ). Move to_bus w false (sight to_bus (on (loop_frame f)) w a) w.state.tobus.ring w.state.tobus.news l)
      (sym (ap (λ (t : Bool). cond t (put_bytes w.tobus w.state.tobus.ring (cell_of f)) w.tobus) e))
      (by_sight to_bus w _ nothing _ _ _
      (ap (λ (t : Bool). cond t (cell_for (data_of f) (is_end f) ∷ []) []) ((λ i. taken a && k i) ∙ and_off (taken a)))
      refl refl
      ((λ i. taken a && c i) ∙ and_off (taken a))
      is_still)

  module _ (F : Fits w) where
    -- one that comes back, and one that passes
    idle_listener : is_active w.state.talker.role ≡ true → loop_listens w ≡ false
    idle_listener a = go (loop_listens w) refl
      where
        go : (l : Bool) → loop_listens w ≡ l → l ≡ false
        go true e = absurd (true≢false (sym a ∙ listener_idle w F e))
        go false e = refl

    back : Returning w.state f → (a : Said) →
        Move to_bus w false (sight to_bus (on (loop_frame f)) w a) w.state.tobus.ring w.state.tobus.news (frame_cells w.state w.tobus f)
    back r a =
        let l : loop_listens w ≡ false = idle_listener r.active in
        still a ((λ i. is_data f && l i) ∙ and_off (is_data f)) ((λ i. (is_data f && not (is_active w.state.talker.role)) && l i) ∙ and_off (is_data f && not (is_active w.state.talker.role)))
        (λ i. data_not f 4 r.isdata (omega arith) i && asks_clear (loop_listens w) (data_of f))

    passing : Arriving w.state f → loop_listens w ≡ false → (a : Said) →
        Move to_bus w false (sight to_bus (on (loop_frame f)) w a) w.state.tobus.ring w.state.tobus.news (frame_cells w.state w.tobus f)
    passing r l a =
        still a ((λ i. is_data f && l i) ∙ and_off (is_data f)) ((λ i. (is_data f && not (is_active w.state.talker.role)) && l i) ∙ and_off (is_data f && not (is_active w.state.talker.role)))
        (λ i. data_not f 4 r.isdata (omega arith) i && asks_clear (loop_listens w) (data_of f))

    other : is_data f ≡ false → eqb (control_of f) 4 ≡ false → (a : Said) →
        Move to_bus w false (sight to_bus (on (loop_frame f)) w a) w.state.tobus.ring w.state.tobus.news (frame_cells w.state w.tobus f)
    other d c a = still a (λ i. d i && loop_listens w) (λ i. (d i && not (is_active w.state.talker.role)) && loop_listens w) (λ i. c i && asks_clear (loop_listens w) (data_of f))

    -- one that a listener keeps
    kept_cell : Arriving w.state f → loop_listens w ≡ true → busy w.state f ≡ false →
        Move to_bus w false (record { left = cell_of f ∷ []; fetched = []; told = []; clears = false }) (left_in w.state.tobus).ring (left_in w.state.tobus).news
        (frame_cells w.state w.tobus f)
    unfolding frame_cells left_in
    kept_cell r l b =
        subst
        (λ (c : List ℕ). Move to_bus w false (record { left = cell_of f ∷ []; fetched = []; told = []; clears = false }) (left_in w.state.tobus).ring (left_in w.state.tobus).news c)
        (sym (ap (λ (t : Bool). cond t (put_bytes w.tobus w.state.tobus.ring (cell_of f)) w.tobus) (λ i. (r.isdata i && not (r.idle i)) && l i)))
        (is_put (cell_of f) (tobus_fits w.state w.tobus w.toloop F) room)
      where
        room : w.state.tobus.ring.len < w.state.tobus.ring.cap
        room = leb-false w.state.tobus.ring.cap w.state.tobus.ring.len ((λ i. (sym l i && sym r.isdata i) && leb w.state.tobus.ring.cap w.state.tobus.ring.len) ∙ b)

    -- what is seen of a frame that a listener keeps
    heard_so : Arriving w.state f → loop_listens w ≡ true → (g : ℕ) →
        Move to_bus w false (record { left = cell_of f ∷ []; fetched = []; told = []; clears = false }) (left_in w.state.tobus).ring (left_in w.state.tobus).news
        (frame_cells w.state w.tobus f) →
        Move to_bus w false (sight to_bus (on (loop_frame f)) w (frame (control_of g) (data_of g))) (left_in w.state.tobus).ring (left_in w.state.tobus).news
        (frame_cells w.state w.tobus f)
    unfolding left fetched told clears_by restarts
    heard_so r l g m =
        by_sight to_bus w _ _ _ _ _ (ap (λ (t : Bool). cond t (cell_for (data_of f) (is_end f) ∷ []) []) (λ i. r.isdata i && l i)) refl refl
        (λ i. data_not f 4 r.isdata (omega arith) i && asks_clear (loop_listens w) (data_of f)) m

    -- a command clears by its order
    clears_so : {t : Bool} → Commanding f → clears w.state (data_of f) ≡ t → cleared_by ≡ t
    clears_so r c = (λ i. r.four i && sym (clear_order 15 w.state.talker.role (data_of f)) i) ∙ c

    cleared_so : Commanding f → clears w.state (data_of f) ≡ true →
        Move to_bus w false (sight to_bus (on (loop_frame f)) w (frame (control_of f) (data_of f))) (empty_way w.state.tobus.ring.cap).ring
        (empty_way w.state.tobus.ring.cap).news (frame_cells w.state w.tobus f)
    unfolding left fetched told clears_by restarts frame_cells empty_way
    cleared_so r c =
        subst
        (λ (l : List ℕ). Move to_bus w false (sight to_bus (on (loop_frame f)) w (frame (control_of f) (data_of f))) (empty_way w.state.tobus.ring.cap).ring
        (empty_way w.state.tobus.ring.cap).news l)
        (sym (ap (λ (t : Bool). cond t (put_bytes w.tobus w.state.tobus.ring (cell_of f)) w.tobus) (λ i. (r.isdata i && not (is_active w.state.talker.role)) && loop_listens w)))
        (by_sight to_bus w _ _ _ _ _ (ap (λ (t : Bool). cond t (cell_for (data_of f) (is_end f) ∷ []) []) (λ i. r.isdata i && loop_listens w)) refl refl (clears_so r c)
        (is_emptied w.state.tobus.ring.cap))

    asking : Asking w.state f → (a : Said) →
        Move to_bus w false (sight to_bus (on (loop_frame f)) w a) w.state.tobus.ring w.state.tobus.news (frame_cells w.state w.tobus f)
    asking r a = other r.readying.isdata r.readying.four a

    -- every frame
    pub frame_to_bus : busy w.state f ≡ false → (o : Outcome) → Way w.state w.toloop f o → Goes o
    unfolding send_waiting send_id send_accessory send_status sends ended released identify said
    frame_to_bus b o (is_next r z) = by_cond Goes (eqb w.state.toloop.ring.len 0) _ _ (λ _. back r.back _) (λ _. back r.back _)
    frame_to_bus b o (is_next_id r z) = by_cond Goes (leb 10 w.state.source) _ _ (λ _. back r.back _) (λ _. back r.back _)
    frame_to_bus b o (is_back r m k) = back r _
    frame_to_bus b o (is_last r m k e) = back r _
    frame_to_bus b o (is_damaged r m) = back r _
    frame_to_bus b o (is_held r l h) = heard_so r l (made 5 66) (kept_cell r l b)
    frame_to_bus b o (is_heard r l h) = heard_so r l (serviced w.state f) (kept_cell r l b)
    frame_to_bus b o (is_passed r l) = passing r l _
    frame_to_bus b o (is_cleared r c) = cleared_so r c
    frame_to_bus b o (is_obeyed r c) = still _ (λ i. r.isdata i && loop_listens w) (λ i. (r.isdata i && not (is_active w.state.talker.role)) && loop_listens w) (clears_so r c)
    frame_to_bus b o (is_released r h) = other r.isdata r.four _
    frame_to_bus b o (is_assigned r h a) = other r.isdata r.four _
    frame_to_bus b o (is_send_asked r x) = by_cond Goes (eqb w.state.toloop.ring.len 0) _ _ (λ _. asking r _) (λ _. asking r _)
    frame_to_bus b o (is_told r x y) = asking r _
    frame_to_bus b o (is_finishing r x y z) = asking r _
    frame_to_bus b o (is_id_asked r x y z u) = asking r _
    frame_to_bus b o (is_accessory r x y z u v) = asking r _
    frame_to_bus b o (is_ready r x y z u v) = asking r _
    frame_to_bus b o (is_identified r) = other r.isdata r.four _
