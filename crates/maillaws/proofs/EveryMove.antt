-- What every call does to each way of the mailbox: the one view of all calls, by way. Assumes nothing.
use Prim.Native.Nat.{ℕ}
use mathlib.Core.Path.{◌≡◌, refl, sym, ap, ◌∙◌}
use mathlib.Core.Bool.{Bool, true, false, cond, ◌&&◌, ◌||◌}
use mathlib.Core.List.{[], ◌∷◌}
use lib.Dec.{eqb, leb}
use lib.ListN.{length, get_or}
use borrow.Author.Tests.{eqb-false, leb-false}
use Rattle.branches.proofs.Branches.{by_cond}
use Rattle.frame.specs.Frame.{made, is_data}
use Rattle.role.specs.Role.{idle}
use Rattle.role.proofs.Clears.{clear_order}
use Rattle.store.specs.Ring.{held, put_bytes}
use Rattle.answers.specs.Refusals.{first_refusal}
use Rattle.answers.specs.Answers.{refused, said}
use Rattle.news.specs.News.{news_byte, no_news}
use Rattle.way.specs.Way.{empty_way, left_in, fetched}
use Rattle.bus.specs.declared.Fetch.{Fetch}
use Rattle.bus.specs.declared.Fetch.TheVariants as fetch
use Rattle.bus.specs.Bus.{fetch_of}
use Rattle.bus.specs.Bus as bus
use Rattle.mailstate.specs.declared.State.{State}
use Rattle.mailstate.specs.Outcome.{Outcome}
use Rattle.mailstate.specs.Sizes.{start_state}
use Rattle.mailstate.specs.State.{with_to_loop}
use Rattle.mailstate.proofs.Fits.{tobus_fits, toloop_fits}
use Rattle.mailloop.specs.Messages.{frame_taken}
use Rattle.mailbox.specs.BusSide as bus-side
use Rattle.mailbox.specs.Calls.{reset, loop_frame, bus_command, bus_byte, bus_fetch, bus_clear, bus_lines, Call, create, show, on, World, Did}
use Rattle.mailbox.specs.Calls.{checks, outcome, tobus_after, toloop_after, not_refused, step}
use Rattle.maillaws.specs.Sights as see
use Rattle.maillaws.specs.Sights.{Direction, to_bus, to_loop, store_of, ring_of, news_of, counted, loop_active, from_way, bus_listens, cell_for, asks_clear}
use Rattle.maillaws.specs.StateFits.{Fits}
use Rattle.maillaws.specs.NewsGoing.{status_back}
use Rattle.maillaws.proofs.Refusal.{by_refusal, fitting, frame_fitting, byte_fitting}
use Rattle.maillaws.proofs.FrameTests.{either_same}
use Rattle.maillaws.proofs.FrameWays.{way}
use Rattle.maillaws.proofs.BusMoves.{frame_to_bus}
use Rattle.maillaws.proofs.LoopMoves.{frame_to_loop}
use Rattle.maillaws.proofs.Moves.{sight, nothing, Move, is_still, is_put, is_fetched, is_emptied, is_asked, by_sight}

-- what was done, for one way
abbrev pub Moved : Direction → Call → World → Did → Type 0
Moved d c w x = Move d w (status_back d c w) (sight d c w x.said) (ring_of d x.world) (news_of d x.world) (store_of d x.world)

-- a refused call does nothing to either way
refused_still : (d : Direction) (c : Call) (w : World) (n : ℕ) → Moved d c w (record { said = refused n; world = w })
unfolding see.left see.fetched see.told see.clears_by see.restarts
refused_still to_bus (create a) w n = is_still
refused_still to_bus (show side) w n = is_still
refused_still to_bus (on reset) w n = is_still
refused_still to_bus (on (loop_frame f)) w n = is_still
refused_still to_bus (on (bus_command c)) w n = is_still
refused_still to_bus (on (bus_byte b mark)) w n = is_still
refused_still to_bus (on bus_fetch) w n = by_sight to_bus w _ nothing _ _ _ refl (either_same w.state.bus.serial []) (either_same w.state.bus.serial []) refl is_still
refused_still to_bus (on bus_clear) w n = is_still
refused_still to_bus (on bus_lines) w n = is_still
refused_still to_loop (create a) w n = is_still
refused_still to_loop (show side) w n = is_still
refused_still to_loop (on reset) w n = is_still
refused_still to_loop (on (loop_frame f)) w n =
    by_sight to_loop w _ nothing _ _ _ refl (either_same (eqb f (made 5 96) || (is_data f && (loop_active w && from_way w))) []) (either_same (eqb f (made 5 97)) []) refl is_still
refused_still to_loop (on (bus_command c)) w n = is_still
refused_still to_loop (on (bus_byte b mark)) w n = is_still
refused_still to_loop (on bus_fetch) w n = is_still
refused_still to_loop (on bus_clear) w n = is_still
refused_still to_loop (on bus_lines) w n = is_still

-- ---- the bus

module _ (w : World) (F : Fits w) where
  abbrev Fetched : Direction → Outcome → Type 0
  Fetched d o = Move d w false (sight d (on bus_fetch) w (said o.answer)) (ring_of d (record { state = o.state; tobus = w.tobus; toloop = w.toloop }))
      (news_of d (record { state = o.state; tobus = w.tobus; toloop = w.toloop })) (store_of d w)

  -- nothing is given to the bus
  none_given : Fetched to_bus (record { state = w.state; answer = (bus-side.given w.state w.tobus fetch.Silent).answer })
  unfolding bus-side.given said see.left see.fetched see.told see.clears_by see.restarts
  none_given = by_sight to_bus w _ nothing _ _ _ refl (either_same w.state.bus.serial []) (either_same w.state.bus.serial []) refl is_still

  -- what waits is given, outside a serial poll
  data_given_lem : w.state.bus.serial ≡ false → Fetched to_bus (bus-side.data_given w.state w.tobus)
  unfolding bus-side.data_given bus-side.given fetched said see.left see.fetched see.told see.clears_by see.restarts
  data_given_lem z =
      by_cond (Fetched to_bus) (eqb w.state.tobus.ring.len 0) _ _ (λ _. none_given)
      (λ e. by_sight to_bus w _ _ _ _ _ refl (ap (λ (t : Bool). cond t [] (counted (get_or (held w.tobus w.state.tobus.ring) 0 0) ∷ [])) z)
      (ap (λ (t : Bool). cond t (counted (get_or (held w.tobus w.state.tobus.ring) 0 0) ∷ []) []) z) refl
      (is_fetched (tobus_fits w.state w.tobus w.toloop F) (eqb-false w.state.tobus.ring.len 0 e)))

  -- the status byte is given, in one
  status_given_lem : w.state.bus.serial ≡ true → Fetched to_bus (bus-side.status_given w.state)
  unfolding bus-side.status_given said see.left see.fetched see.told see.clears_by see.restarts
  status_given_lem z =
      by_sight to_bus w _ _ _ _ _ refl (ap (λ (t : Bool). cond t [] (news_byte w.state.tobus.news ∷ [])) z)
      (ap (λ (t : Bool). cond t (news_byte w.state.tobus.news ∷ []) []) z) refl (is_asked (news_byte w.state.tobus.news) no_news refl refl)

  fetch_to_bus : Fetched to_bus (bus-side.bus_fetch w.state w.tobus)
  unfolding bus-side.bus_fetch bus-side.given fetch_of
  fetch_to_bus =
      by_cond G (eqb w.state.bus.role.phase idle) _ _ (λ _. none_given)
      (λ _. by_cond G (w.state.bus.serial && w.state.bus.read) _ _ (λ _. none_given)
      (λ _. by_cond G w.state.bus.serial _ _ (λ z. status_given_lem z) (λ z. data_given_lem z)))
    where
      G : Fetch → Type 0
      G k = Fetched to_bus (bus-side.given w.state w.tobus k)

  fetch_to_loop : Fetched to_loop (bus-side.bus_fetch w.state w.tobus)
  unfolding bus-side.bus_fetch bus-side.given bus-side.data_given bus-side.status_given fetch_of see.left see.fetched see.told see.clears_by see.restarts
  fetch_to_loop =
      by_cond G (eqb w.state.bus.role.phase idle) _ _ (λ _. is_still)
      (λ _. by_cond G (w.state.bus.serial && w.state.bus.read) _ _ (λ _. is_still)
      (λ _. by_cond G w.state.bus.serial _ _ (λ _. is_still)
      (λ _. by_cond (Fetched to_loop) (eqb w.state.tobus.ring.len 0) _ _ (λ _. is_still) (λ _. is_still))))
    where
      G : Fetch → Type 0
      G k = Fetched to_loop (bus-side.given w.state w.tobus k)

  -- a byte of the bus
  byte_to_loop : (b : ℕ) (mark : Bool) → bus-side.bus_busy w.state ≡ false → Moved to_loop (on (bus_byte b mark)) w (not_refused (on (bus_byte b mark)) w)
  unfolding not_refused outcome toloop_after bus-side.bus_byte bus-side.bus_cells left_in said see.left see.fetched see.told see.clears_by see.restarts
  byte_to_loop b mark n = go (bus_listens w) refl
    where
      go : (l : Bool) → bus_listens w ≡ l →
          Move to_loop w false (record { left = cond l (cell_for b mark ∷ []) []; fetched = []; told = []; clears = false })
          (cond l (with_to_loop w.state (left_in w.state.toloop)) w.state).toloop.ring
          (cond l (with_to_loop w.state (left_in w.state.toloop)) w.state).toloop.news
          (cond l (put_bytes w.toloop w.state.toloop.ring (cell_for b mark)) w.toloop)
      go true e =
          is_put (cell_for b mark) (toloop_fits w.state w.tobus w.toloop F)
          (leb-false w.state.toloop.ring.cap w.state.toloop.ring.len ((λ i. sym e i && leb w.state.toloop.ring.cap w.state.toloop.ring.len) ∙ n))
      go false e = is_still

  byte_to_bus : (b : ℕ) (mark : Bool) → Moved to_bus (on (bus_byte b mark)) w (not_refused (on (bus_byte b mark)) w)
  unfolding not_refused outcome tobus_after bus-side.bus_byte said see.left see.fetched see.told see.clears_by see.restarts
  byte_to_bus b mark =
      by_cond (λ (t : State). Move to_bus w false nothing t.tobus.ring t.tobus.news w.tobus) (bus_listens w) _ _ (λ _. is_still) (λ _. is_still)

-- a command of the bus
command_to_bus : (c : ℕ) (w : World) → Moved to_bus (on (bus_command c)) w (not_refused (on (bus_command c)) w)
unfolding not_refused outcome tobus_after bus-side.bus_command said see.left see.fetched see.told see.clears_by see.restarts
command_to_bus c w =
    by_cond (λ (t : State). Move to_bus w false nothing t.tobus.ring t.tobus.news w.tobus) (bus.clears w.state.bus c) _ _ (λ _. is_still) (λ _. is_still)

command_to_loop : (c : ℕ) (w : World) → Moved to_loop (on (bus_command c)) w (not_refused (on (bus_command c)) w)
unfolding not_refused outcome toloop_after bus-side.bus_command bus.clears empty_way said see.left see.fetched see.told see.clears_by see.restarts
command_to_loop c w =
    by_cond
    (λ (t : State). Move to_loop w false (record { left = []; fetched = []; told = []; clears = asks_clear (bus_listens w) c }) t.toloop.ring t.toloop.news w.toloop)
    (bus.clears w.state.bus c) _ _
    (λ e. by_sight to_loop w _ _ _ _ _ refl refl refl (sym same ∙ e) (is_emptied w.state.toloop.ring.cap))
    (λ e. by_sight to_loop w _ _ _ _ _ refl refl refl (sym same ∙ e) is_still)
  where
    same : bus.clears w.state.bus c ≡ asks_clear (bus_listens w) c
    same = clear_order 31 w.state.bus.role c

-- ---- every call

done_moved : (d : Direction) (c : Call) (w : World) → first_refusal (checks c w) ≡ 0 → Moved d c w (not_refused c w)
unfolding not_refused outcome tobus_after toloop_after start_state empty_way bus-side.bus_clear bus-side.bus_lines said see.left see.fetched see.told see.clears_by see.restarts
done_moved to_bus (create a) w e = is_emptied (length w.tobus)
done_moved to_bus (show side) w e = is_still
done_moved to_bus (on reset) w e = is_emptied (length w.tobus)
done_moved to_bus (on (loop_frame f)) w e =
    let x = frame_fitting f w e in
    frame_to_bus w f x.0 x.1.1 (frame_taken w.state w.toloop f) (way w.state w.toloop f)
done_moved to_bus (on (bus_command c)) w e = command_to_bus c w
done_moved to_bus (on (bus_byte b mark)) w e = byte_to_bus w (fitting (bus_byte b mark) w e).0 b mark
done_moved to_bus (on bus_fetch) w e = fetch_to_bus w (fitting bus_fetch w e).0
done_moved to_bus (on bus_clear) w e = is_still
done_moved to_bus (on bus_lines) w e = is_still
done_moved to_loop (create a) w e = is_emptied (length w.toloop)
done_moved to_loop (show side) w e = is_still
done_moved to_loop (on reset) w e = is_emptied (length w.toloop)
done_moved to_loop (on (loop_frame f)) w e = frame_to_loop w f (fitting (loop_frame f) w e).0 (frame_taken w.state w.toloop f) (way w.state w.toloop f)
done_moved to_loop (on (bus_command c)) w e = command_to_loop c w
done_moved to_loop (on (bus_byte b mark)) w e = let x = byte_fitting b mark w e in byte_to_loop w x.0 b mark x.1
done_moved to_loop (on bus_fetch) w e = fetch_to_loop w (fitting bus_fetch w e).0
done_moved to_loop (on bus_clear) w e = is_still
done_moved to_loop (on bus_lines) w e = is_still

pub moved : (d : Direction) (c : Call) (w : World) → Moved d c w (step c w)
moved d c w = by_refusal (Moved d c w) c w (done_moved d c w) (λ _. refused_still d c w _)
