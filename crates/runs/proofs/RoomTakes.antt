-- The room of the transmit store that was told is there: no more than that is added, and no frame is busy. Assumes nothing.
use Prim.Native.Nat.{ℕ, ◌+◌, ◌-◌, ◌≤◌}
use native.Mathlib.Omega.{arith}
use mathlib.Core.Path.{◌≡◌, refl, sym, subst, ◌∙◌}
use mathlib.Core.Bool.{Bool, true, false, cond, ◌&&◌, not, false≢true}
use mathlib.Core.List.{List, [], ◌∷◌, ◌++◌}
use lib.Dec.{ltb}
use lib.ListN.{length, length-append}
use borrow.Author.Tests.{ltb-true}
use Rattle.branches.proofs.Branches.{and_left, and_right}
use Rattle.machine.specs.Machine as machine
use Rattle.machine.specs.Machine.{Obeys}
use Rattle.machine.specs.Course as course
use Rattle.frame.specs.Frame.{is_data}
use Rattle.answers.specs.Answers.{refused}
use Rattle.store.specs.Ring.{room, drop_ring}
use Rattle.store.proofs.Several.{puts_cap, puts_len, puts_size}
use Rattle.state.specs.Sizes.{start_state, fits}
use Rattle.state.proofs.Fits.{tx_fits}
use Rattle.line.specs.HoldingOff.{stored_with}
use Rattle.loopside.specs.LoopToLine.{adds, busy}
use Rattle.bridge.specs.Calls.{reset, write, line_byte, line_break, key, ask_line_byte, take_line_byte, loop_frame, Call, create, show, on, World, checks_on}
use Rattle.bridge.specs.Calls.{checks, room_of, step}
use Rattle.laws.specs.Bridges.{telling}
use Rattle.laws.specs.Observers.{taken, added}
use Rattle.laws.specs.Rooms.{of_said, would_add, RoomTakes}
use Rattle.laws.proofs.Answers.{refuses}
use Rattle.laws.proofs.Fitting.{keeps_fit}
use Rattle.laws.proofs.Refusing.{taken_fits}
use Rattle.laws.proofs.Rooms.{told_after}
use Rattle.runs.proofs.Shapes.{Seen, seen, Core, core, Shape, is_still, is_begun}
use Rattle.runs.proofs.Shapes.{is_written, is_cleared, is_stored, is_lost, is_broken, is_sent, is_none, is_left, is_handed}
use Rattle.runs.proofs.View.{view}
use Rattle.runs.proofs.Rooms.{Free, none_came}
use Rattle.runs.proofs.Steps.{answer, after}

-- after a call that adds at most n, the rest of n has room
goes : (n : ℕ) (w : World) (x : Seen) (h : Core) (rx tx : List ℕ) → Shape w x h rx tx → Free n w.state.tx w.tx → length x.left ≤ n →
    Free (n - length x.left) h.tx tx
unfolding stored_with start_state drop_ring
goes n w x h rx tx is_still f a = none_came n _ _ f
goes n w x h rx tx (is_begun m) f a = record { cap = refl; room = omega (arith, f.cap, f.room) }
goes n w x h rx tx (is_written g t u) f a = none_came n _ _ f
goes n w x h rx tx is_cleared f a = record { cap = f.cap; room = omega (arith, f.room) }
goes n w x h rx tx (is_stored b F l) f a = none_came n _ _ f
goes n w x h rx tx (is_lost b l) f a = none_came n _ _ f
goes n w x h rx tx (is_broken F) f a = none_came n _ _ f
goes n w x h rx tx (is_sent k r F e) f a = none_came n _ _ f
goes n w x h rx tx (is_none r F e) f a = none_came n _ _ f
goes n w x h rx tx (is_left l F e) f a =
    record {
      cap = puts_cap w.state.tx l ∙ (f.cap ∙ sym (puts_size w.tx w.state.tx l));
      room = omega (arith, puts_cap w.state.tx l, puts_len w.state.tx l e, f.room);
    }
goes n w x h rx tx (is_handed F e) f a = record { cap = f.cap; room = omega (arith, f.room) }

-- the same of a run, at its end
abbrev ends : List Call → World → World
ends = machine.finally (telling step)

abbrev comes : List Call → World → List ℕ
comes cs w = course.all (of_said added) (machine.course (telling step) cs w)

still_free : (cs : List Call) (n m : ℕ) (w : World) → Free n w.state.tx w.tx → length (comes cs w) + m ≤ n → m ≤ room (ends cs w).state.tx
unfolding course.all machine.course machine.finally
still_free [] n m w f a = omega (arith, f.room)
still_free (c ∷ cs) n m w f a =
    let now : List ℕ = added c w (answer c w) in
    let sum : length (now ++ comes cs (after c w)) ≡ length now + length (comes cs (after c w)) = length-append now (comes cs (after c w)) in
    let g = goes n w (seen c w (answer c w)) (core (after c w).state) (after c w).rx (after c w).tx (view c w) f (omega (arith, sum)) in
    still_free cs (n - length now) m (after c w) g (omega (arith, sum))

-- only a frame that has no room is busy
is_busy : (f : ℕ) (w : World) → answer (on (loop_frame f)) w ≡ refused 4 → busy w.state f ≡ true
unfolding checks checks_on
is_busy f w e =
    go (not (fits w.state (length w.rx) (length w.tx))) (ltb 2047 f) (busy w.state f) ((refuses (on (loop_frame f)) w).when 4 e)
  where
    go : (m x b : Bool) → ◌≡◌ {A = ℕ} (cond m 2 (cond x 3 (cond b 4 0))) 4 → b ≡ true
    go true x b e = absurd (omega arith)
    go false true b e = absurd (omega arith)
    go false false true e = refl
    go false false false e = absurd (omega arith)

busy_lacks : (f : ℕ) (w : World) → length (would_add w f) ≤ room w.state.tx → busy w.state f ≡ true → ⊥
unfolding busy adds
busy_lacks f w h b =
    let s = w.state in
    let l = s.talker.role.listener in
    let t = ltb (room s.tx) (length (adds s.regs f)) in
    let listens : l ≡ true = and_left l (is_data f) (and_left (l && is_data f) t b) in
    let carries : is_data f ≡ true = and_right l (is_data f) (and_left (l && is_data f) t b) in
    let short = ltb-true (room s.tx) (length (adds s.regs f)) (and_right (l && is_data f) t b) in
    let enough : length (adds s.regs f) ≤ room s.tx = rw (carries, listens) at h in
    omega (arith, short, enough)

told_free : (f : ℕ) (w : World) → taken (answer (on (loop_frame f)) w) ≡ true →
    Free (step (on (loop_frame f)) w).room (after (on (loop_frame f)) w).state.tx (after (on (loop_frame f)) w).tx
unfolding room_of
told_free f w t =
    let v : World = after (on (loop_frame f)) w in
    let fit = (tx_fits v.state v.rx v.tx (keeps_fit (on (loop_frame f)) w tt (taken_fits (loop_frame f) w t))).ring in
    record { cap = fit.cap; room = omega (arith, told_after (loop_frame f) w t) }

pub room_takes : Obeys (telling step) RoomTakes
room_takes (on (loop_frame k)) cs d w B j ks f q t a r =
    let v : World = ends cs (after (on (loop_frame k)) w) in
    let free = still_free cs (step (on (loop_frame k)) w).room (length (would_add v f)) (after (on (loop_frame k)) w) (told_free k w t) a in
    busy_lacks f v free (is_busy f v (subst (λ (c : Call). answer c v ≡ refused 4) q r))
room_takes (create m) cs d w B j ks f q t a r = absurd (false≢true t)
room_takes (show side) cs d w B j ks f q t a r = absurd (false≢true t)
room_takes (on reset) cs d w B j ks f q t a r = absurd (false≢true t)
room_takes (on (write n v)) cs d w B j ks f q t a r = absurd (false≢true t)
room_takes (on (line_byte b)) cs d w B j ks f q t a r = absurd (false≢true t)
room_takes (on line_break) cs d w B j ks f q t a r = absurd (false≢true t)
room_takes (on key) cs d w B j ks f q t a r = absurd (false≢true t)
room_takes (on ask_line_byte) cs d w B j ks f q t a r = absurd (false≢true t)
room_takes (on (take_line_byte b)) cs d w B j ks f q t a r = absurd (false≢true t)
