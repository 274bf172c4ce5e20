-- What a loop frame does to the way to the loop. Assumes nothing.
use Prim.Native.Nat.{ℕ, ◌+◌, ◌*◌, ◌/◌, ◌%◌, ◌<◌}
use native.Mathlib.Omega.{arith}
use mathlib.Core.Path.{◌≡◌, refl, sym, ap, ◌∙◌}
use mathlib.Core.Bool.{Bool, true, false, cond, ◌&&◌, ◌||◌, not, true≢false}
use mathlib.Core.List.{List, []}
use lib.Dec.{eqb, leb, ltb}
use lib.ListN.{get_or}
use borrow.Author.Tests.{eqb-false, le-ltb}
use Rattle.branches.proofs.Branches.{by_cond, and_left}
use Rattle.frame.specs.Frame.{control_of, data_of, made, is_data}
use Rattle.store.specs.Ring.{held}
use Rattle.answers.specs.Answers.{Said, frame, said}
use Rattle.news.specs.declared.News.{News}
use Rattle.news.specs.News.{news_byte, sent_status}
use Rattle.way.specs.Way.{fetched}
use Rattle.mailstate.specs.Outcome.{Outcome}
use Rattle.mailstate.proofs.Fits.{toloop_fits}
use Rattle.mailloop.specs.Sends.{serviced, frame_of, ended, sends, send_waiting, send_id, send_accessory, send_status}
use Rattle.mailloop.specs.Messages.{released, identify}
use Rattle.mailbox.specs.Calls.{loop_frame, on, World}
use Rattle.maillaws.specs.Sights as see
use Rattle.maillaws.specs.Sights.{to_loop, counted, data_cell, data_byte, loop_active, from_way}
use Rattle.maillaws.specs.StateFits.{Fits}
use Rattle.maillaws.specs.NewsGoing.{status_back}
use Rattle.maillaws.proofs.Small.{news_small}
use Rattle.maillaws.proofs.FrameTests.{frame_is, data_no_frame, other_byte, no_frame_by_control, no_frame_by_byte, either_same, cell_carried, byte_carried, no_cell}
use Rattle.maillaws.proofs.FrameWays.{Way, Returning, Arriving, Asking, asked, is_next, is_next_id, is_back, is_last, is_damaged, is_held, is_heard, is_passed}
use Rattle.maillaws.proofs.FrameWays.{is_cleared, is_obeyed, is_released, is_assigned, is_send_asked, is_told, is_finishing, is_id_asked, is_accessory}
use Rattle.maillaws.proofs.FrameWays.{is_ready, is_identified}
use Rattle.maillaws.proofs.Moves.{sight, nothing, Move, is_still, is_fetched, is_asked, is_returned, by_sight}

module _ (w : World) (f : ℕ) where
  -- the frame asks for what waits, and for status
  abbrev asks_data : Bool
  asks_data = eqb f (made 5 96) || (is_data f && (loop_active w && from_way w))

  abbrev asks_status : Bool
  asks_status = eqb f (made 5 97)

  -- our status byte is back
  abbrev is_status : Bool
  is_status = status_back to_loop (on (loop_frame f)) w

  abbrev Goes : Outcome → Type 0
  Goes o = Move to_loop w is_status (sight to_loop (on (loop_frame f)) w (said o.answer)) o.state.toloop.ring o.state.toloop.news w.toloop

  abbrev Same : Said → Type 0
  Same a = Move to_loop w is_status (sight to_loop (on (loop_frame f)) w a) w.state.toloop.ring w.state.toloop.news w.toloop

  -- nothing is asked for, or nothing given
  unasked : (a : Said) → asks_data ≡ false → asks_status ≡ false → Same a
  unfolding see.left see.fetched see.told see.clears_by see.restarts
  unasked a d t =
      by_sight to_loop w _ nothing _ _ _ refl (ap (λ (b : Bool). cond b (data_cell a) []) d) (ap (λ (b : Bool). cond b (data_byte a) []) t) refl is_still

  ungiven : (k d : ℕ) → ltb k 4 ≡ false → (n : News) → n.request ≡ w.state.toloop.news.request →
      (is_status ≡ false → n.available ≡ w.state.toloop.news.available) → (w.state.toloop.news.available ≡ false → n.available ≡ false) →
      Move to_loop w is_status (sight to_loop (on (loop_frame f)) w (frame k d)) w.state.toloop.ring n w.toloop
  unfolding see.left see.fetched see.told see.clears_by see.restarts
  ungiven k d e n q u v =
      let c = no_cell k d e in
      by_sight to_loop w _ nothing _ _ _ refl (ap (λ (l : List ℕ). cond asks_data l []) c.0 ∙ either_same asks_data [])
      (ap (λ (l : List ℕ). cond asks_status l []) c.1 ∙ either_same asks_status [])
      refl (is_returned n q u v)

  quiet : (k d : ℕ) → ltb k 4 ≡ false → Same (frame k d)
  quiet k d e = ungiven k d e w.state.toloop.news refl (λ _. refl) (λ u. u)

  -- a data frame that is no return
  arriving : Arriving w.state f → (a : Said) → Same a
  arriving r a =
      unasked a (λ i. data_no_frame f 5 96 r.isdata (omega arith) (omega arith) i || (r.isdata i && (r.idle i && from_way w)))
      (data_no_frame f 5 97 r.isdata (omega arith) (omega arith))

  -- a ready frame with a byte that asks for neither
  elsewhere : is_data f ≡ false → (n : ℕ) → eqb (data_of f) n ≡ true → (n ≡ 96 → ⊥) → (n ≡ 97 → ⊥) → (a : Said) → Same a
  elsewhere d n e x y a =
      unasked a (λ i. no_frame_by_byte f 5 96 (omega arith) (other_byte f n 96 e x) i || (d i && (loop_active w && from_way w)))
      (no_frame_by_byte f 5 97 (omega arith) (other_byte f n 97 e y))

  module _ (F : Fits w) where
    -- the oldest that waits, or the end of sending
    send_move : asks_data ≡ true → asks_status ≡ false → Goes (send_waiting w.state w.toloop)
    unfolding send_waiting ended sends serviced fetched said see.left see.fetched see.told see.clears_by see.restarts
    send_move d t =
        by_cond Goes (eqb w.state.toloop.ring.len 0) _ _ (λ _. quiet 5 64 refl)
        (λ e. by_sight to_loop w _ _ _ _ _ refl (ap (λ (b : Bool). cond b (data_cell (frame (control_of out) (data_of out))) []) d
        ∙ cell_carried w.state.toloop.news.request first out refl)
        (ap (λ (b : Bool). cond b (data_byte (frame (control_of out) (data_of out))) []) t) refl
        (is_fetched (toloop_fits w.state w.tobus w.toloop F) (eqb-false w.state.toloop.ring.len 0 e)))
      where
        first : ℕ
        first = get_or (held w.toloop w.state.toloop.ring) 0 0

        out : ℕ
        out = serviced w.state (frame_of first)

    -- the status byte
    status_move : asks_data ≡ false → asks_status ≡ true → Goes (send_status w.state)
    unfolding send_status serviced said see.left see.fetched see.told see.clears_by see.restarts
    status_move d t =
        by_sight to_loop w _ _ _ _ _ refl (ap (λ (b : Bool). cond b (data_cell (frame (control_of out) (data_of out))) []) d)
        (ap (λ (b : Bool). cond b (data_byte (frame (control_of out) (data_of out))) []) t
        ∙ byte_carried w.state.toloop.news.request told out (news_small w.state.toloop.news) refl)
        refl (is_asked told (sent_status w.state.toloop.news) refl refl)
      where
        told : ℕ
        told = news_byte w.state.toloop.news

        out : ℕ
        out = serviced w.state (made 0 told)

    -- a return of a frame from the way, or of an ID
    return_data : Returning w.state f → eqb w.state.source 0 ≡ true → asks_data ≡ true
    return_data r z = (λ i. data_no_frame f 5 96 r.isdata (omega arith) (omega arith) i || (r.isdata i && (r.active i && z i)))

    return_id : Returning w.state f → eqb w.state.source 0 ≡ false → asks_data ≡ false
    return_id r z = (λ i. data_no_frame f 5 96 r.isdata (omega arith) (omega arith) i || (r.isdata i && (r.active i && z i)))

    return_status : Returning w.state f → asks_status ≡ false
    return_status r = data_no_frame f 5 97 r.isdata (omega arith) (omega arith)

    -- which byte was asked with
    asks_byte : (n : ℕ) → asked w.state f n → eqb (data_of f) n ≡ true
    asks_byte n x = and_left (eqb (data_of f) n) (eqb w.state.talker.role.phase 1) x

    asked_frame : Asking w.state f → (n : ℕ) → n < 256 → asked w.state f n → eqb f (made 5 n) ≡ true
    asked_frame r n l x = frame_is f 5 n l ∙ (λ i. r.readying.five i && asks_byte n x i)

    -- an ID goes on, or ends
    id_move : (n : ℕ) → ((a : Said) → Same a) → Goes (send_id w.state n)
    unfolding send_id sends ended
    id_move n m = by_cond Goes (leb 10 n) _ _ (λ _. m _) (λ _. m _)

    -- every frame
    pub frame_to_loop : (o : Outcome) → Way w.state w.toloop f o → Goes o
    unfolding send_accessory sends ended released identify said
    frame_to_loop o (is_next r z) = send_move (return_data r.back z) (return_status r.back)
    frame_to_loop o (is_next_id r z) = id_move w.state.source (λ a. unasked a (return_id r.back z) (return_status r.back))
    frame_to_loop o (is_back r m k) =
        ungiven 5 64 refl _ refl (λ u. absurd (true≢false (sym (λ i. (r.isdata i && m i) && k i) ∙ u)))
        (λ u i. u i && not (eqb (data_of w.state.talker.under.frame % 2) 1 && not w.state.toloop.news.again))
    frame_to_loop o (is_last r m k e) = quiet 5 64 refl
    frame_to_loop o (is_damaged r m) = quiet 5 65 refl
    frame_to_loop o (is_held r l h) = arriving r _
    frame_to_loop o (is_heard r l h) = arriving r _
    frame_to_loop o (is_passed r l) = arriving r _
    frame_to_loop o (is_cleared r c) = quiet (control_of f) (data_of f) r.isdata
    frame_to_loop o (is_obeyed r c) = quiet (control_of f) (data_of f) r.isdata
    frame_to_loop o (is_released r h) = elsewhere r.isdata 66 (and_left (eqb (data_of f) 66) w.state.hold.held h) (λ e. omega arith) (λ e. omega arith) _
    frame_to_loop o (is_assigned r h a) = quiet _ _ (le-ltb ((5 * 256 + (data_of f + 1)) / 256) 4 (omega arith))
    frame_to_loop o (is_send_asked r x) = send_move (λ i. asked_frame r 96 (omega arith) x i || (r.readying.isdata i && (loop_active w && from_way w)))
        (no_frame_by_byte f 5 97 (omega arith) (other_byte f 96 97 (asks_byte 96 x) (λ e. omega arith)))
    frame_to_loop o (is_told r x y) =
        status_move (λ i. no_frame_by_byte f 5 96 (omega arith) (other_byte f 97 96 (asks_byte 97 y) (λ e. omega arith)) i || (r.readying.isdata i && (loop_active w && from_way w)))
        (asked_frame r 97 (omega arith) y)
    frame_to_loop o (is_finishing r x y z) = quiet (control_of f) (data_of f) r.readying.isdata
    frame_to_loop o (is_id_asked r x y z u) = id_move 0 (elsewhere r.readying.isdata 98 (asks_byte 98 u) (λ e. omega arith) (λ e. omega arith))
    frame_to_loop o (is_accessory r x y z u v) = elsewhere r.readying.isdata 99 (asks_byte 99 v) (λ e. omega arith) (λ e. omega arith) _
    frame_to_loop o (is_ready r x y z u v) = quiet (control_of f) (data_of f) r.readying.isdata
    frame_to_loop o (is_identified r) =
        unasked _ (λ i. no_frame_by_control f 5 96 (omega arith) r.five i || (r.isdata i && (loop_active w && from_way w))) (no_frame_by_control f 5 97 (omega arith) r.five)
