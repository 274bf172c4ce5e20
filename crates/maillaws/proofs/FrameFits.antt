-- A state that fits, after a frame of the loop, fits. Assumes nothing.
use Prim.Native.Nat.{ℕ, ◌+◌, ◌/◌, ◌≤◌, ◌<◌}
use native.Mathlib.Omega.{arith}
use mathlib.Core.Path.{◌≡◌}
use mathlib.Core.Bool.{Bool, true, ◌&&◌, ◌||◌}
use mathlib.Core.List.{List}
use lib.Dec.{eqb, leb}
use lib.ListN.{get_or}
use borrow.Author.Tests.{eqb-true, eqb-false, leb-true, leb-false, ltb-true}
use Rattle.branches.proofs.Branches.{and_right, by_cond}
use Rattle.frame.specs.Frame.{data_of}
use Rattle.talker.specs.UnderWay.{talking}
use Rattle.talker.proofs.FitLaws as talker-laws
use Rattle.store.specs.Ring as store-ring
use Rattle.polls.specs.declared.Response.{Response}
use Rattle.way.specs.Way.{empty_way, left_in, fetched}
use Rattle.mailstate.specs.declared.State.{State}
use Rattle.mailstate.specs.Outcome.{Outcome}
use Rattle.mailstate.specs.State.{with_talker}
use Rattle.mailloop.specs.Sends.{ended, sends, send_waiting, send_id, send_accessory, send_status}
use Rattle.mailloop.specs.Messages.{response_after, released, identify, kept}
use Rattle.maillaws.proofs.FitParts.{Parts, more_fits, fewer_fits, empty_fits}
use Rattle.maillaws.proofs.FitParts.{with_tobus, with_toloop, with_talker_lem, with_source_lem, with_hold_lem, with_response_lem}
use Rattle.maillaws.proofs.Small.{news_small, id_small, frame_small}
use Rattle.maillaws.proofs.FrameWays.{Returning, commanded_in, Way, is_next, is_next_id, is_back, is_last, is_damaged, is_held, is_heard, is_passed}
use Rattle.maillaws.proofs.FrameWays.{is_cleared, is_obeyed, is_released, is_assigned, is_send_asked, is_told, is_finishing, is_id_asked}
use Rattle.maillaws.proofs.FrameWays.{is_accessory, is_ready, is_identified}

response_line : (s : State) (d : ℕ) → s.response.line < 8 → (response_after s d).line < 8
unfolding response_after
response_line s d h =
    by_cond (λ (x : Response). x.line < 8) ((eqb d 5 && s.talker.role.listener) || eqb d 21) _ _ (λ _. omega arith)
    (λ _. by_cond (λ (x : Response). x.line < 8) (eqb (d / 16) 8 && s.talker.role.listener) _ _ (λ _. omega arith) (λ _. h))

module _ (tobus toloop : List ℕ) where
  abbrev pub P : State → Type 0
  P = Parts tobus toloop

  talking_parts : (s : State) → P s → (phase f : ℕ) → 1 ≤ s.talker.role.phase → phase ≤ 3 → f < 1024 → P (with_talker s (talking s.talker phase f))
  talking_parts s p phase f h k l = with_talker_lem p _ (talker-laws.talking_fit s.talker p.talker phase f h k l)

  ended_parts : (s : State) (d : ℕ) → P s → 1 ≤ s.talker.role.phase → P (ended s d).state
  unfolding ended
  ended_parts s d p h = talking_parts s p 1 0 h (omega arith) (omega arith)

  sends_parts : (s t : State) (f n : ℕ) → P t → 1 ≤ t.talker.role.phase → f < 1024 → n ≤ 10 → P (sends s t f n).state
  unfolding sends
  sends_parts s t f n p h k l = with_source_lem (talking_parts t p 2 f h (omega arith) k) n l

  module _ (s : State) (p : P s) where
    waiting_parts : 1 ≤ s.talker.role.phase → P (send_waiting s toloop).state
    unfolding send_waiting fetched
    waiting_parts h =
        by_cond (λ (o : Outcome). P o.state) (eqb s.toloop.ring.len 0) _ _ (λ _. ended_parts s 64 p h)
        (λ e. sends_parts s _ _ 0 (with_toloop p _ (fewer_fits p.toloop (eqb-false _ 0 e))) h
        (frame_small (get_or (store-ring.held toloop s.toloop.ring) 0 0)) (omega arith))

    id_parts : (n : ℕ) → 1 ≤ s.talker.role.phase → P (send_id s n).state
    unfolding send_id
    id_parts n h =
        by_cond (λ (o : Outcome). P o.state) (leb 10 n) _ _ (λ _. ended_parts s 64 p h)
        (λ e. sends_parts s s _ (n + 1) p h (omega (arith, id_small n)) (omega (arith, leb-false 10 n e)))

    status_parts : 1 ≤ s.talker.role.phase → P (send_status s).state
    unfolding send_status
    status_parts h =
        talking_parts _ (with_toloop p _ p.toloop) 3 _ h (omega arith) (omega (arith, news_small s.toloop.news))

    obeyed_parts : (d : ℕ) (t : State) → P t → P (commanded_in s d t)
    obeyed_parts d t q =
        with_response_lem (with_hold_lem (with_talker_lem q _ (talker-laws.obeyed_fit s.talker p.talker _)) _ (omega arith))
        _ (response_line s d p.line)

    -- an active talker, and one that is asked to send
    active : (f : ℕ) → Returning s f → 1 ≤ s.talker.role.phase
    active f r = omega (arith, leb-true 2 s.talker.role.phase r.active)

    addressed : (d : Bool) → (d && eqb s.talker.role.phase 1) ≡ true → 1 ≤ s.talker.role.phase
    addressed d x = omega (arith, eqb-true s.talker.role.phase 1 (and_right d (eqb s.talker.role.phase 1) x))

    kept_parts : P (kept s)
    unfolding left_in
    kept_parts = with_tobus p _ (more_fits p.tobus)

    pub way_parts : (f : ℕ) (o : Outcome) → Way s toloop f o → P o.state
    unfolding send_accessory released identify empty_way
    way_parts f o (is_next r z) = waiting_parts (active f r.back)
    way_parts f o (is_next_id r z) = id_parts s.source (active f r.back)
    way_parts f o (is_back r m k) = ended_parts _ 64 (with_toloop p _ p.toloop) (active f r)
    way_parts f o (is_last r m k e) = ended_parts s 64 p (active f r)
    way_parts f o (is_damaged r m) = ended_parts s 65 p (active f r)
    way_parts f o (is_held r l h) = with_hold_lem kept_parts _ (omega (arith, ltb-true (f / 256) 4 r.isdata))
    way_parts f o (is_heard r l h) = kept_parts
    way_parts f o (is_passed r l) = p
    way_parts f o (is_cleared r c) = obeyed_parts (data_of f) _ (with_tobus p _ (empty_fits p.tobus))
    way_parts f o (is_obeyed r c) = obeyed_parts (data_of f) s p
    way_parts f o (is_released r h) = with_hold_lem p _ (omega arith)
    way_parts f o (is_assigned r h a) = with_talker_lem p _ (talker-laws.assigned_fit s.talker p.talker (data_of f))
    way_parts f o (is_send_asked r x) = waiting_parts (addressed (eqb (data_of f) 96) x)
    way_parts f o (is_told r x y) = status_parts (addressed (eqb (data_of f) 97) y)
    way_parts f o (is_finishing r x y z) = with_talker_lem p _ (talker-laws.finishing_fit s.talker p.talker)
    way_parts f o (is_id_asked r x y z u) = id_parts 0 (addressed (eqb (data_of f) 98) u)
    way_parts f o (is_accessory r x y z u v) = sends_parts s s _ 10 p (addressed (eqb (data_of f) 99) v) (omega arith) (omega arith)
    way_parts f o (is_ready r x y z u v) = p
    way_parts f o (is_identified r) = p
