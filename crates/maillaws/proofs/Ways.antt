-- What was fetched and what waits is what was left, on both ways; and which message clears which way. Assumes nothing.
use Prim.Native.Nat.{ℕ, ◌<◌}
use native.Mathlib.Omega.{arith}
use mathlib.Core.Path.{◌≡◌, refl, sym, ap, subst, ◌∙◌}
use mathlib.Core.Bool.{Bool, true, false, cond, ◌&&◌, false≢true, true≢false}
use mathlib.Core.List.{List, [], ◌∷◌, ◌++◌, map, append_assoc}
use lib.ListN.{length, get_or, drop}
use Rattle.machine.specs.Course.{Each, Without}
use Rattle.machine.specs.Machine.{Obeys, course, AllFair, seen}
use Rattle.machine.specs.Turns.{TurnReads}
use Rattle.machine.proofs.Course.{first_not}
use Rattle.machine.proofs.Turns.{from_turns, from_kept}
use lib.Dec.{eqb}
use Rattle.branches.proofs.Branches.{by_cond, and_left, and_right}
use Rattle.frame.specs.Frame.{control_of, data_of, is_data, is_end}
use Rattle.store.specs.declared.Ring.{Ring}
use Rattle.store.specs.Ring.{Fit, held, put_ring, put_bytes, drop_ring}
use Rattle.store.proofs.Laws.{held_put, held_drop, held_empty, held_length}
use Rattle.news.specs.declared.News.{News}
use Rattle.answers.specs.Answers.{Said}
use Rattle.bus.specs.Bus as bus
use Rattle.bus.specs.Bus.{commanded}
use Rattle.mailstate.specs.declared.State.{State}
use Rattle.mailstate.specs.Outcome.{Outcome}
use Rattle.mailstate.specs.State.{with_bus}
use Rattle.mailloop.specs.Messages.{frame_taken}
use Rattle.mailbox.specs.BusSide.{bus_command}
use Rattle.mailbox.specs.Calls.{reset, loop_frame, bus_byte, bus_fetch, bus_clear, bus_lines, Call, create, show, on, World, world, Did, outcome, tobus_after, toloop_after, not_refused, step}
use Rattle.mailbox.specs.Calls as calls
use Rattle.maillaws.specs.Mailboxes.{mailbox, ByteCall}
use Rattle.maillaws.specs.Sights.{Direction, to_bus, to_loop, store_of, ring_of, waits, counted, taken, loop_listens, bus_listens, cell_for, asks_clear, left, clears_by, clears}
use Rattle.maillaws.specs.WaysKept.{through, WayKept, WaySince}
use Rattle.maillaws.specs.WaysCleared.{Emptied, ClearsWay, SameWay, OtherStays}
use Rattle.maillaws.proofs.Refusal.{by_refusal}
use Rattle.maillaws.proofs.FrameTests.{data_not}
use Rattle.maillaws.proofs.FrameWays.{Way, way, is_next, is_next_id, is_back, is_last, is_damaged, is_held, is_heard, is_passed, is_cleared, is_obeyed}
use Rattle.maillaws.proofs.FrameWays.{is_released, is_assigned, is_send_asked, is_told, is_finishing, is_id_asked, is_accessory, is_ready, is_identified}
use Rattle.maillaws.proofs.Moves.{Sight, Move, is_still, is_put, is_fetched, is_emptied, is_asked, is_returned}
use Rattle.maillaws.proofs.EveryMove.{moved}

-- ---- what counts of cells, of two lists and of one by its first

pub counted_both : (a b : List ℕ) → map counted (a ++ b) ≡ map counted a ++ map counted b
counted_both [] b = refl
counted_both (x ∷ a) b = ap (λ (l : List ℕ). counted x ∷ l) (counted_both a b)

first_rest : (l : List ℕ) → (length l ≡ 0 → ⊥) → map counted l ≡ counted (get_or l 0 0) ∷ map counted (drop 1 l)
first_rest [] h = absurd (h refl)
first_rest (x ∷ l) h = refl

-- what waits when a cell was left, and when the oldest was fetched
pub waits_put : (s : List ℕ) (r : Ring) (x : ℕ) → counted x ≡ x → Fit s r → r.len < r.cap →
    map counted (held (put_bytes s r x) (put_ring r)) ≡ map counted (held s r) ++ (x ∷ [])
waits_put s r x e F h =
    ap (map counted) (held_put s r x F h) ∙ counted_both (held s r) (x ∷ []) ∙ ap (λ (n : ℕ). map counted (held s r) ++ (n ∷ [])) e

pub waits_fetched : (s : List ℕ) (r : Ring) → Fit s r → (r.len ≡ 0 → ⊥) →
    map counted (held s r) ≡ counted (get_or (held s r) 0 0) ∷ map counted (held s (drop_ring r 1))
waits_fetched s r F h =
    first_rest (held s r) (λ e. h (sym (held_length s r F) ∙ e))
    ∙ ap (λ (l : List ℕ). counted (get_or (held s r) 0 0) ∷ map counted l) (sym (held_drop s r 1 F (omega arith)))

-- ---- every call

keeps : (d : Direction) (w : World) {b : Bool} (x : Sight) (r : Ring) (n : News) (s : List ℕ) → Move d w b x r n s → x.clears ≡ false → ((y : ℕ) → x.left ≡ y ∷ [] → counted y ≡ y) →
    (ys : List ℕ) → waits d w ++ (x.left ++ ys) ≡ x.fetched ++ (map counted (held s r) ++ ys)
keeps d w x r n s is_still c b ys = refl
keeps d w x r n s (is_put y F h) c b ys =
    sym (append_assoc (waits d w) (y ∷ []) ys) ∙ ap (λ (l : List ℕ). l ++ ys) (sym (waits_put (store_of d w) (ring_of d w) y (b y refl) F h))
keeps d w x r n s (is_fetched F h) c b ys = ap (λ (l : List ℕ). l ++ ys) (waits_fetched (store_of d w) (ring_of d w) F h)
keeps d w x r n s (is_emptied cap) c b ys = absurd (true≢false c)
keeps d w x r n s (is_asked t m e _) c b ys = refl
keeps d w x r n s (is_returned m e _ _) c b ys = refl

-- a byte with its mark, and nothing besides
cell_counted : (b : ℕ) (mark : Bool) → b < 256 → counted (cell_for b mark) ≡ cell_for b mark
cell_counted b mark h = by_cond (λ (x : ℕ). counted x ≡ x) mark _ _ (λ _. omega arith) (λ _. omega arith)

only : (t : Bool) (x y : ℕ) → counted x ≡ x → cond t (x ∷ []) [] ≡ y ∷ [] → counted y ≡ y
only true x y h e = let z : x ≡ y = cc in subst (λ (n : ℕ). counted n ≡ n) z h
only false x y h e = cc

left_counted : (d : Direction) (c : Call) (w : World) (a : Said) → ByteCall c → (y : ℕ) → left d c w a ≡ y ∷ [] → counted y ≡ y
unfolding left
left_counted to_bus (on (loop_frame f)) w a h y e = only (taken a && (is_data f && loop_listens w)) (cell_for (data_of f) (is_end f)) y (cell_counted (data_of f) (is_end f) (omega arith)) e
left_counted to_loop (on (bus_byte b mark)) w a h y e = only (taken a && bus_listens w) (cell_for b mark) y (cell_counted b mark h) e
left_counted to_bus (create m) w a h y e = cc
left_counted to_bus (show side) w a h y e = cc
left_counted to_bus (on reset) w a h y e = cc
left_counted to_bus (on (calls.bus_command c)) w a h y e = cc
left_counted to_bus (on (bus_byte b mark)) w a h y e = cc
left_counted to_bus (on bus_fetch) w a h y e = cc
left_counted to_bus (on bus_clear) w a h y e = cc
left_counted to_bus (on bus_lines) w a h y e = cc
left_counted to_loop (create m) w a h y e = cc
left_counted to_loop (show side) w a h y e = cc
left_counted to_loop (on reset) w a h y e = cc
left_counted to_loop (on (loop_frame f)) w a h y e = cc
left_counted to_loop (on (calls.bus_command c)) w a h y e = cc
left_counted to_loop (on bus_fetch) w a h y e = cc
left_counted to_loop (on bus_clear) w a h y e = cc
left_counted to_loop (on bus_lines) w a h y e = cc

turns : (d : Direction) (cs : List Call) (w : World) → AllFair (mailbox step) cs → Without (clears d) (course (mailbox step) cs w) →
    Each (TurnReads (through d)) (course (mailbox step) cs w)
unfolding course
turns d [] w k n = tt
turns d (c ∷ cs) w k n =
    let m = first_not (clears d) (seen (mailbox step) c w) (course (mailbox step) cs (step c w).world) n in
    (keeps d w _ _ _ _ (moved d c w) m.0 (left_counted d c w _ k.0), turns d cs (step c w).world k.1 m.1)

pub way_kept : (d : Direction) → Obeys (mailbox step) (WayKept d)
way_kept d cs w h k n = from_turns (through d) (mailbox step) cs w (turns d cs w k n)

-- ---- clears

-- a clear leaves nothing that waits and nothing that is told
emptied : (d : Direction) (w : World) {b : Bool} (x : Sight) (r : Ring) (n : News) (s : List ℕ) → Move d w b x r n s → x.clears ≡ true →
    (map counted (held s r) ≡ []) × ((n.request ≡ false) × (n.available ≡ false))
emptied d w x r n s is_still c = absurd (false≢true c)
emptied d w x r n s (is_put y F h) c = absurd (false≢true c)
emptied d w x r n s (is_fetched F h) c = absurd (false≢true c)
emptied d w x r n s (is_emptied cap) c = (ap (map counted) (held_empty (store_of d w) cap), (refl, refl))
emptied d w x r n s (is_asked t m e _) c = absurd (false≢true c)
emptied d w x r n s (is_returned m e _ _) c = absurd (false≢true c)

pub clear_moved : (d : Direction) (c : Call) (w : World) → clears d c w (step c w).said ≡ true → Emptied d (step c w).world
clear_moved d c w e =
    let m = emptied d w _ _ _ _ (moved d c w) e in
    record { none = m.0; request = m.1.0; available = m.1.1 }

pub clears_way : (d : Direction) → Obeys (mailbox step) (ClearsWay d)
clears_way d c w h e = clear_moved d c w e

pub way_since : (d : Direction) → Obeys (mailbox step) (WaySince d)
way_since d = from_kept (through d) (mailbox step) (clears d) (clears d) (λ c w h j. tt) (λ c w h e. (clear_moved d c w e).none) (way_kept d)

-- ---- and leaves the other way alone

same_way : (d : Direction) (w : World) → SameWay d w w
same_way d w = record { ring = refl; news = refl; cells = refl }

-- a command of the loop leaves the way to the loop, and one of the bus the way to the bus
loop_cleared : (w : World) (f : ℕ) (o : Outcome) → Way w.state w.toloop f o → eqb (control_of f) 4 ≡ true → (l : List ℕ) →
    SameWay to_loop w (world o.state l w.toloop)
loop_cleared w f o (is_next r z) e l = absurd (true≢false (sym e ∙ data_not f 4 r.back.isdata (omega arith)))
loop_cleared w f o (is_next_id r z) e l = absurd (true≢false (sym e ∙ data_not f 4 r.back.isdata (omega arith)))
loop_cleared w f o (is_back r m k) e l = absurd (true≢false (sym e ∙ data_not f 4 r.isdata (omega arith)))
loop_cleared w f o (is_last r m k x) e l = absurd (true≢false (sym e ∙ data_not f 4 r.isdata (omega arith)))
loop_cleared w f o (is_damaged r m) e l = absurd (true≢false (sym e ∙ data_not f 4 r.isdata (omega arith)))
loop_cleared w f o (is_held r m h) e l = absurd (true≢false (sym e ∙ data_not f 4 r.isdata (omega arith)))
loop_cleared w f o (is_heard r m h) e l = absurd (true≢false (sym e ∙ data_not f 4 r.isdata (omega arith)))
loop_cleared w f o (is_passed r m) e l = absurd (true≢false (sym e ∙ data_not f 4 r.isdata (omega arith)))
loop_cleared w f o (is_cleared r c) e l = record { ring = refl; news = refl; cells = refl }
loop_cleared w f o (is_obeyed r c) e l = record { ring = refl; news = refl; cells = refl }
loop_cleared w f o (is_released r h) e l = absurd (true≢false (sym e ∙ r.four))
loop_cleared w f o (is_assigned r h a) e l = absurd (true≢false (sym e ∙ r.four))
loop_cleared w f o (is_send_asked r x) e l = absurd (true≢false (sym e ∙ r.readying.four))
loop_cleared w f o (is_told r x y) e l = absurd (true≢false (sym e ∙ r.readying.four))
loop_cleared w f o (is_finishing r x y z) e l = absurd (true≢false (sym e ∙ r.readying.four))
loop_cleared w f o (is_id_asked r x y z u) e l = absurd (true≢false (sym e ∙ r.readying.four))
loop_cleared w f o (is_accessory r x y z u v) e l = absurd (true≢false (sym e ∙ r.readying.four))
loop_cleared w f o (is_ready r x y z u v) e l = absurd (true≢false (sym e ∙ r.readying.four))
loop_cleared w f o (is_identified r) e l = absurd (true≢false (sym e ∙ r.four))

bus_cleared : (w : World) (c : ℕ) → SameWay to_bus w (not_refused (on (calls.bus_command c)) w).world
unfolding not_refused outcome tobus_after toloop_after bus_command
bus_cleared w c =
    by_cond (λ (t : State). SameWay to_bus w (world (with_bus t (commanded w.state.bus c)) w.tobus w.toloop)) (bus.clears w.state.bus c) _ _
    (λ _. record { ring = refl; news = refl; cells = refl }) (λ _. record { ring = refl; news = refl; cells = refl })

-- a device clear of the loop, and of the bus
loop_clear : (c : Call) (w : World) → clears_by to_bus c w (step c w).said ≡ true → SameWay to_loop w (step c w).world
unfolding clears_by not_refused outcome tobus_after toloop_after
loop_clear (create m) w e = absurd (false≢true e)
loop_clear (show side) w e = absurd (false≢true e)
loop_clear (on reset) w e = absurd (false≢true e)
loop_clear (on (loop_frame f)) w e =
    by_refusal (λ (x : Did). (taken x.said && (eqb (control_of f) 4 && asks_clear (loop_listens w) (data_of f))) ≡ true → SameWay to_loop w x.world) (on (loop_frame f)) w
    (λ n q. loop_cleared w f (frame_taken w.state w.toloop f) (way w.state w.toloop f) (and_left _ _ (and_right (taken (not_refused (on (loop_frame f)) w).said) _ q)) _)
    (λ n q. absurd (false≢true q)) e
loop_clear (on (calls.bus_command c)) w e = absurd (false≢true e)
loop_clear (on (bus_byte b mark)) w e = absurd (false≢true e)
loop_clear (on bus_fetch) w e = absurd (false≢true e)
loop_clear (on bus_clear) w e = absurd (false≢true e)
loop_clear (on bus_lines) w e = absurd (false≢true e)

bus_clear_lem : (c : Call) (w : World) → clears_by to_loop c w (step c w).said ≡ true → SameWay to_bus w (step c w).world
unfolding clears_by
bus_clear_lem (create m) w e = absurd (false≢true e)
bus_clear_lem (show side) w e = absurd (false≢true e)
bus_clear_lem (on reset) w e = absurd (false≢true e)
bus_clear_lem (on (loop_frame f)) w e = absurd (false≢true e)
bus_clear_lem (on (calls.bus_command c)) w e = by_refusal (λ (x : Did). SameWay to_bus w x.world) (on (calls.bus_command c)) w (λ n. bus_cleared w c) (λ n. same_way to_bus w)
bus_clear_lem (on (bus_byte b mark)) w e = absurd (false≢true e)
bus_clear_lem (on bus_fetch) w e = absurd (false≢true e)
bus_clear_lem (on bus_clear) w e = absurd (false≢true e)
bus_clear_lem (on bus_lines) w e = absurd (false≢true e)

pub other_stays : (d : Direction) → Obeys (mailbox step) (OtherStays d)
other_stays to_bus c w h e = loop_clear c w e
other_stays to_loop c w h e = bus_clear_lem c w e
