-- What every call keeps: counts in 32 bits, numbers that fit their places, a receive store of cells and a transmit store of bytes. Assumes nothing.
use Prim.{tt}
use Prim.Native.Nat.{ℕ, ◌<◌}
use native.Mathlib.Omega.{arith}
use mathlib.Core.Path.{◌≡◌, refl}
use mathlib.Core.Bool.{Bool, true, false, ◌&&◌}
use mathlib.Core.List.{List}
use lib.ListN.{length}
use lib.Dec.{eqb, ltb}
use Rattle.branches.proofs.Branches.{by_cond}
use Rattle.answers.specs.Answers.{done, refused}
use Rattle.frame.specs.Frame.{data_of, is_end}
use Rattle.registers.specs.Meanings.{end_inserted}
use Rattle.registers.specs.Writing.{written}
use Rattle.std.specs.Prelude.{Option, Some, None}
use Rattle.sending.specs.Sending.{given_of, send_held}
use Rattle.store.specs.Ring.{full, put_bytes, puts_bytes}
use Rattle.state.specs.declared.State.{State}
use Rattle.state.specs.Outcome.{Outcome}
use Rattle.std.specs.Prelude.{Option, Some, None}
use Rattle.state.specs.declared.Next.{Next}
use Rattle.state.specs.declared.Next.TheVariants as out
use Rattle.state.specs.Counts.{counted}
use Rattle.state.specs.Sizes.{sizes_obeyed, start_state, fits}
use Rattle.state.specs.Conditions.{settled, after_status_back, after_status, break_state, key_state}
use Rattle.line.specs.Breaks.{break_cells}
use Rattle.line.specs.HoldingOff.{is_go_or_stop, flowed, stored_with, lost_state, line_state, line_bytes, resumed, set_afresh, after_write, next_out, gone}
use Rattle.loopside.specs.LoopToLine.{adds, added_state, added_bytes}
use Rattle.loopside.specs.Sends.{ended, rule_of, removed_state, send_state, send_from, send_status}
use Rattle.loopside.specs.Frames.{cleared, obeyed, device_clear, adds_bytes, frame_bytes}
use Rattle.laws.specs.Bridges.{ByteCall}
use Rattle.laws.proofs.Fitting.{keeps_fit}
use Rattle.block.specs.States.{CountsRanged, Ranged}
use Rattle.store.specs.Bytes.{Bytes}
use Rattle.cells.specs.Cells.{Cells}
use Rattle.cells.specs.Newest.{replaced_cells}
use Rattle.boundary.proofs.Stored.{set_below, put_below}
use Rattle.block.proofs.Laws.{counts_ranged, fits_ranged, obeyed_ranged}
use Rattle.bridge.specs.Calls.{OnState, Call, on, create, reset, write, line_byte, line_break, key, ask_line_byte, take_line_byte, loop_frame}
use Rattle.bridge.specs.Calls.{show, World, Did, checks, outcome, settled_by, rx_after, tx_after, room_of, not_refused, refused_or, step}
use Rattle.laws.proofs.Refusing.{by_refusal}
use Rattle.laws.proofs.Ways.{Way, is_next, is_back, is_last, is_damaged, is_stored, is_passed, is_cleared}
use Rattle.laws.proofs.Ways.{is_obeyed, is_assigned, is_send_asked, is_told, is_finishing, is_ready, is_identified, way}

-- ---- counts

abbrev Counted : State → Type 0
Counted s = CountsRanged s.counts

abbrev Counts : Outcome → Type 0
Counts o = CountsRanged o.state.counts

counted_ranged : (n : ℕ) → counted n < 4294967296
counted_ranged n = omega arith

start_counts : (m rx tx : ℕ) → Counted (start_state m rx tx)
unfolding start_state
start_counts m rx tx = record { stored = omega arith; lost = omega arith; sent = omega arith }

settled_counts : (s t : State) → Counted t → Counted (settled s t)
unfolding settled
settled_counts s t k = k

write_counts : (s : State) (n v : ℕ) → Counted s → Counted (after_write s n (written s.regs n v))
unfolding after_write set_afresh
write_counts s n v k = by_cond Counted (eqb n 11) _ _ (λ e. k) (λ e. k)

line_counts : (s : State) (b : ℕ) → Counted s → Counted (line_state s b)
unfolding line_state flowed stored_with lost_state
line_counts s b k =
    by_cond Counted (is_go_or_stop s.regs b) _ _
    (λ e. k)
    (λ e. by_cond Counted (full s.rx) _ _
    (λ e. record { stored = k.stored; lost = counted_ranged s.counts.lost; sent = k.sent })
    (λ e. record { stored = counted_ranged s.counts.stored; lost = k.lost; sent = k.sent }))

gone_counts : (s : State) (o : Option Next) → Counted s → Counted (gone s o)
unfolding gone
gone_counts s (Some (out.Own b)) k = k
gone_counts s (Some (out.Held b)) k = k
gone_counts s None k = k

removed_counts : (s : State) (rx : List ℕ) → Counted s → Counted (removed_state s rx)
unfolding removed_state resumed
removed_counts s rx k = k

send_counts : (s t : State) (g : Option ℕ) → Counted t → Counts (send_state s t g)
unfolding send_state ended
send_counts s t None k = k
send_counts s t (Some f) k = record { stored = k.stored; lost = k.lost; sent = counted_ranged t.counts.sent }

from_counts : (s : State) (rx : List ℕ) → Counted s → Counts (send_from s rx)
unfolding send_from
from_counts s rx k = send_counts s (removed_state s rx) (given_of (send_held (rule_of s.regs) rx s.rx)) (removed_counts s rx k)

frame_counts : (s : State) (rx : List ℕ) (f : ℕ) (o : Outcome) → Way s rx f o → Counted s → Counts o
unfolding send_status ended after_status after_status_back added_state cleared obeyed
frame_counts s rx f o (is_next r m t e) k = from_counts s rx k
frame_counts s rx f o (is_back r m t) k = k
frame_counts s rx f o (is_last r m t e) k = k
frame_counts s rx f o (is_damaged r m) k = k
frame_counts s rx f o (is_stored r l) k = k
frame_counts s rx f o (is_passed r l) k = k
frame_counts s rx f o (is_cleared r c) k = k
frame_counts s rx f o (is_obeyed r c) k = k
frame_counts s rx f o (is_assigned r a) k = k
frame_counts s rx f o (is_send_asked r a x) k = from_counts s rx k
frame_counts s rx f o (is_told r a x y) k = k
frame_counts s rx f o (is_finishing r a x y z) k = k
frame_counts s rx f o (is_ready r a x y z) k = k
frame_counts s rx f o (is_identified r) k = k

accepted_counts : (c : Call) (w : World) → Counted w.state → CountsRanged (not_refused c w).world.state.counts
unfolding not_refused settled_by outcome break_state key_state
accepted_counts (create m) w k = start_counts m (length w.rx) (length w.tx)
accepted_counts (on reset) w k = settled_counts w.state _ (start_counts w.state.margin (length w.rx) (length w.tx))
accepted_counts (on (write n v)) w k = settled_counts w.state _ (write_counts w.state n v k)
accepted_counts (on (line_byte b)) w k = settled_counts w.state _ (line_counts w.state b k)
accepted_counts (on line_break) w k = settled_counts w.state (break_state w.state) k
accepted_counts (on key) w k = settled_counts w.state (key_state w.state) k
accepted_counts (on ask_line_byte) w k = settled_counts w.state _ k
accepted_counts (on (take_line_byte b)) w k = settled_counts w.state _ (gone_counts w.state (next_out w.state w.tx) k)
accepted_counts (on (loop_frame f)) w k =
    by_cond Counted (device_clear w.state f) _ _
    (λ e. frame_counts w.state w.rx f _ (way w.state w.rx f) k)
    (λ e. settled_counts w.state _ (frame_counts w.state w.rx f _ (way w.state w.rx f) k))
accepted_counts (show side) w k = k

-- what holds of the world before a call and of an accepted call holds after the call
after : (P : World → Type 0) (c : Call) (w : World) → P w → P (not_refused c w).world → P (step c w).world
after P c w p q = by_refusal (λ (d : Did). P d.world) c w (λ _. q) (λ _. p)

pub counts_kept : (c : Call) (w : World) → Counted w.state → Counted (step c w).world.state
counts_kept c w k = after (λ (x : World). Counted x.state) c w k (accepted_counts c w k)

-- ---- the stores

-- a byte from the line is a cell, and so is one that a break marks
line_cells : (s : State) (rx : List ℕ) (b : ℕ) → b < 256 → Cells rx → Cells (line_bytes s rx b)
unfolding line_bytes
line_cells s rx b h k = by_cond Cells (is_go_or_stop s.regs b) _ _ (λ e. k) (λ e. put_below 65536 b (omega arith) rx s.rx k)

break_cells_lem : (s : State) (rx : List ℕ) → Cells rx → Cells (break_cells s rx)
unfolding break_cells replaced_cells
break_cells_lem s rx k = by_cond Cells (ltb 0 s.rx.len) _ _ (λ e. set_below 65536 _ (omega arith) rx _ k) (λ e. k)

accepted_rx : (c : Call) (w : World) → ByteCall c → Cells w.rx → Cells (not_refused c w).world.rx
unfolding not_refused rx_after
accepted_rx (on (line_byte b)) w h k = line_cells w.state w.rx b h k
accepted_rx (on line_break) w h k = break_cells_lem w.state w.rx k
accepted_rx (create m) w h k = k
accepted_rx (on reset) w h k = k
accepted_rx (on (write n v)) w h k = k
accepted_rx (on key) w h k = k
accepted_rx (on ask_line_byte) w h k = k
accepted_rx (on (take_line_byte b)) w h k = k
accepted_rx (on (loop_frame f)) w h k = k
accepted_rx (show side) w h k = k

pub rx_kept : (c : Call) (w : World) → ByteCall c → Cells w.rx → Cells (step c w).world.rx
rx_kept c w h k = after (λ (x : World). Cells x.rx) c w k (accepted_rx c w h k)

-- what a data frame adds to the transmit store is bytes
left_bytes : (s : State) (tx : List ℕ) (f : ℕ) → Ranged s → Bytes tx → Bytes (added_bytes s tx f)
unfolding added_bytes adds puts_bytes
left_bytes s tx f h k =
    by_cond (λ (l : List ℕ). Bytes (puts_bytes tx s.tx l)) (is_end f && end_inserted s.regs) _ _
    (λ e. put_below 256 s.regs.c03 (omega arith) _ _ (put_below 256 s.regs.c02 (omega arith) _ _ first))
    (λ e. first)
  where
    first : Bytes (put_bytes tx s.tx (data_of f))
    first = put_below 256 (data_of f) (omega arith) tx s.tx k

accepted_tx : (c : Call) (w : World) → Ranged w.state → Bytes w.tx → Bytes (not_refused c w).world.tx
unfolding not_refused tx_after frame_bytes
accepted_tx (on (loop_frame f)) w h k = by_cond Bytes (adds_bytes w.state f) _ _ (λ e. left_bytes w.state w.tx f h k) (λ e. k)
accepted_tx (create m) w h k = k
accepted_tx (on reset) w h k = k
accepted_tx (on (write n v)) w h k = k
accepted_tx (on (line_byte b)) w h k = k
accepted_tx (on line_break) w h k = k
accepted_tx (on key) w h k = k
accepted_tx (on ask_line_byte) w h k = k
accepted_tx (on (take_line_byte b)) w h k = k
accepted_tx (show side) w h k = k

pub tx_kept : (c : Call) (w : World) → Ranged w.state → Bytes w.tx → Bytes (step c w).world.tx
tx_kept c w h k = after (λ (x : World). Bytes x.tx) c w k (accepted_tx c w h k)

-- ---- all numbers

made_ranged : (m : ℕ) (w : World) → sizes_obeyed m (length w.rx) (length w.tx) ≡ true → Ranged (step (create m) w).world.state
unfolding step refused_or checks not_refused
made_ranged m w e = rw e (obeyed_ranged m (length w.rx) (length w.tx) e)

-- a state that does not fit stays, unless create makes another
misfit_ranged : (c : Call) (w : World) → fits w.state (length w.rx) (length w.tx) ≡ false → Ranged w.state → Ranged (step c w).world.state
unfolding step refused_or checks not_refused
misfit_ranged (create m) w e h = pick (sizes_obeyed m (length w.rx) (length w.tx)) refl
  where
    pick : (t : Bool) → sizes_obeyed m (length w.rx) (length w.tx) ≡ t → Ranged (step (create m) w).world.state
    pick true q = made_ranged m w q
    pick false q = rw q h
misfit_ranged (show side) w e h = h
misfit_ranged (on c) w e h = rw e h

pub ranged_kept : (c : Call) (w : World) → Ranged w.state → Ranged (step c w).world.state
ranged_kept c w h = pick (fits w.state (length w.rx) (length w.tx)) refl
  where
    pick : (t : Bool) → fits w.state (length w.rx) (length w.tx) ≡ t → Ranged (step c w).world.state
    pick true e =
        fits_ranged (step c w).world.state (step c w).world.rx (step c w).world.tx (keeps_fit c w tt e) (counts_kept c w (counts_ranged w.state h))
    pick false e = misfit_ranged c w e h

-- of a create that is done, whatever stood there
pub done_ranged : (m : ℕ) (w : World) → (step (create m) w).said ≡ done → Ranged (step (create m) w).world.state
unfolding step refused_or checks
done_ranged m w e = pick (sizes_obeyed m (length w.rx) (length w.tx)) refl
  where
    pick : (t : Bool) → sizes_obeyed m (length w.rx) (length w.tx) ≡ t → Ranged (step (create m) w).world.state
    pick true q = made_ranged m w q
    pick false q = let z : refused 1 ≡ done = rw q at e in let o : ◌≡◌ {A = ℕ} 0 1 = cc in absurd (omega (arith, o))

-- ---- the room that is told

-- no store of a state whose numbers fit their places has more room than 16 bits tell
room_ranged : (c : OnState) (s : State) → Ranged s → room_of c s < 65536
unfolding room_of
room_ranged (line_byte b) s h = omega arith
room_ranged (loop_frame f) s h = omega arith
room_ranged reset s h = omega arith
room_ranged (write n v) s h = omega arith
room_ranged line_break s h = omega arith
room_ranged key s h = omega arith
room_ranged ask_line_byte s h = omega arith
room_ranged (take_line_byte b) s h = omega arith

pub room_small : (c : OnState) (w : World) → Ranged w.state → (step (on c) w).room < 65536
unfolding not_refused
room_small c w h =
    by_refusal (λ (d : Did). Ranged d.world.state → d.room < 65536) (on c) w (λ _ r. room_ranged c _ r) (λ _ r. omega arith) (ranged_kept (on c) w h)
