-- Demand 3, first: the frames sent, and those of what is still held, are those of all the bytes and breaks there were. Assumes nothing.
use Prim.Native.Nat.{ℕ, zero, suc, ◌<◌}
use native.Mathlib.Omega.{arith}
use mathlib.Core.Path.{◌≡◌, refl, sym, ap, ◌∙◌}
use mathlib.Core.Bool.{Bool, true, false, cond, ◌&&◌, not, true≢false, false≢true}
use mathlib.Core.List.{List, [], ◌∷◌, ◌++◌, map, append_assoc, map-append}
use mathlib.Core.Logic.{⊎_elim}
use lib.Dec.{ltb}
use lib.ListN.{length, get_or}
use borrow.Author.Tests.{ltb-false}
use Rattle.branches.proofs.Branches.{and_left, by_cond}
use Rattle.machine.specs.Course.{Each}
use Rattle.machine.specs.Machine as machine
use Rattle.machine.specs.Machine.{Obeys, AllFair, course}
use Rattle.machine.specs.Turns.{Reading, TurnReads, Kept}
use Rattle.machine.proofs.Course.{neither}
use Rattle.machine.proofs.Turns.{from_turns}
use Rattle.store.specs.Ring.{held, full, put_ring, put_bytes}
use Rattle.store.specs.Bytes.{Bytes}
use Rattle.store.proofs.Laws.{held_put, held_length}
use Rattle.reading.specs.declared.Rule.{Rule}
use Rattle.reading.specs.Reading.{Sent, none, one, sent_frames, sent_rest, frames}
use Rattle.reading.specs.Received.{Received, a_byte, a_break, received, received_in, as_held}
use Rattle.reading.specs.Steps.{cut}
use Rattle.reading.proofs.Reading.{send_ahead}
use Rattle.reading.proofs.Received.{received_byte}
use Rattle.reading.proofs.Lawful.{lawful}
use Rattle.reading.proofs.Walls.{walled}
use Rattle.sending.specs.Sending.{send_held, sent_ring}
use Rattle.state.proofs.Fits.{rx_fits}
use Rattle.line.specs.Breaks.{break_cells}
use Rattle.line.specs.HoldingOff.{stored_with}
use Rattle.line.proofs.Breaks.{break_nothing}
use Rattle.loopside.specs.Sends.{rule_of}
use Rattle.answers.specs.Answers.{Said}
use Rattle.bridge.specs.Calls.{line_byte, reset, write, line_break, key, ask_line_byte, take_line_byte, loop_frame, Call, create, show, on, World}
use Rattle.laws.specs.Bridges.{ByteCall}
use Rattle.laws.specs.ByRules.{Ruled, ruled, all_ruled, read_with, wall}
use Rattle.laws.specs.Observers.{taken, is_flow, arrived, accepted, breaks, marks, bytes_and_breaks, bytes_and_marks, sent, restarts, empties}
use Rattle.laws.specs.Worlds.{held_cells, held_to_send, rule_in, reading, holds_some}
use Rattle.laws.specs.Demands.{by_its_rule, held_by_the_rule, FramesRead, NothingWaits, UnheldBreaks}
use Rattle.laws.proofs.ByRules.{Silent, wall_silent, none_silent, behind, one_rule}
use Rattle.runs.proofs.Shapes.{Seen, Core, Fits, Shape, is_still, is_begun}
use Rattle.runs.proofs.Shapes.{is_written, is_cleared, is_stored, is_lost, is_broken, is_sent, is_none, is_left, is_handed}
use Rattle.runs.proofs.View.{view}
use Rattle.runs.proofs.Bytes.{sent_plain}
use Rattle.runs.proofs.HeldLine.{kept}
use Rattle.runs.proofs.Broken.{held_broken, broke}
use Rattle.runs.proofs.Sends.{held_sent, seen_plain}
use Rattle.runs.proofs.Runs.{first_not}
use Rattle.runs.proofs.Steps.{answer, after, end, all, Without, ours}

-- what a send leaves
abbrev after_send : World → List ℕ
after_send w = held w.rx (sent_ring (rule_of w.state.regs) w.rx w.state.rx)

-- ---- a byte that is accepted is one

no_byte : (k : ℕ) → get_or [] k 0 < 256
no_byte zero = omega arith
no_byte (suc k) = omega arith

none_bytes : (t : Bool) → Bytes (cond t [] [])
none_bytes true = no_byte
none_bytes false = no_byte

one_byte : (b : ℕ) → b < 256 → Bytes (b ∷ [])
one_byte b h zero = h
one_byte b h (suc k) = no_byte k

pub accepted_bytes : (c : Call) (w : World) (a : Said) → ByteCall c → Bytes (accepted c w a)
unfolding accepted arrived
accepted_bytes (on (line_byte b)) w a h =
    by_cond Bytes (full w.state.rx) [] _ (λ _. no_byte) (λ _. by_cond Bytes (taken a && not (is_flow w b)) _ [] (λ _. one_byte b h) (λ _. no_byte))
accepted_bytes (create m) w a h = none_bytes (full w.state.rx)
accepted_bytes (show side) w a h = none_bytes (full w.state.rx)
accepted_bytes (on reset) w a h = none_bytes (full w.state.rx)
accepted_bytes (on (write n v)) w a h = none_bytes (full w.state.rx)
accepted_bytes (on line_break) w a h = none_bytes (full w.state.rx)
accepted_bytes (on key) w a h = none_bytes (full w.state.rx)
accepted_bytes (on ask_line_byte) w a h = none_bytes (full w.state.rx)
accepted_bytes (on (take_line_byte b)) w a h = none_bytes (full w.state.rx)
accepted_bytes (on (loop_frame f)) w a h = none_bytes (full w.state.rx)

module _ (w : World) where
  abbrev rule : Rule
  rule = rule_of w.state.regs

  -- a byte stored is the newest of those held
  pub held_stored : (b : ℕ) → Fits w → w.state.rx.len < w.state.rx.cap →
      held (put_bytes w.rx w.state.rx b) (put_ring w.state.rx) ≡ held_cells w ++ (b ∷ [])
  held_stored b F h = held_put w.rx w.state.rx b (rx_fits w.state w.rx w.tx F).ring h

  -- what is held after a send
  pub held_after : (x : Sent Received ℕ) → Fits w → send_held rule w.rx w.state.rx ≡ x → received_in (after_send w) ≡ as_held (sent_rest x)
  held_after x F e =
      held_sent rule w.rx w.state.rx (rx_fits w.state w.rx w.tx F).ring ∙ ap (λ (x : Sent Received ℕ). as_held (sent_rest x)) e

  -- one send, whatever is accepted after it
  send_reads : (x : Sent Received ℕ) (ys : List Received) → Fits w → send_held rule w.rx w.state.rx ≡ x →
      reading w (held_to_send w ++ ys) ≡ sent_frames x ++ reading w (received_in (after_send w) ++ ys)
  unfolding send_held rule_of
  send_reads x ys F e =
      send_ahead (cut rule) (lawful rule) (held_to_send w) ys
      ∙ (λ i. sent_frames (e i) ++ reading w (sent_rest (e i) ++ ys))
      ∙ ap (λ l. sent_frames x ++ l) (sym ((walled rule).once (sent_rest x) ys) ∙ ap (λ l. reading w (l ++ ys)) (sym (held_after x F e)))

  -- a break that counts
  break_reads : (ys : List Received) → Fits w →
      reading w (held_to_send w ++ (a_break ∷ ys)) ≡ reading w (received_in (held (break_cells w.state w.rx) w.state.rx) ++ ys)
  unfolding rule_of
  break_reads ys F =
      ap (reading w) (sym (append_assoc (held_to_send w) (a_break ∷ []) ys))
      ∙ sym ((walled rule).once (held_to_send w ++ (a_break ∷ [])) ys)
      ∙ ap (λ l. reading w (l ++ ys)) (sym (held_broken w F))

  -- one that does not, since nothing is held
  break_none : Fits w → holds_some w ≡ false → break_cells w.state w.rx ≡ w.rx
  break_none F h =
      let n : length (held_cells w) ≡ w.state.rx.len = held_length w.rx w.state.rx (rx_fits w.state w.rx w.tx F).ring in
      break_nothing w.state w.rx (omega (arith, n, ltb-false 0 (length (held_cells w)) h))

  -- a call that is no break that counts: all is read by the rule before it
  keeps : (x : Seen) (h : Core) (rx tx : List ℕ) → Shape w x h rx tx → x.empties ≡ false → (x.breaks ≡ true → holds_some w ≡ false) →
      Bytes x.accepted → (ys : List Received) →
      reading w (held_to_send w ++ (map a_byte x.accepted ++ ys)) ≡ x.sent ++ reading w (received_in (held rx h.rx) ++ ys)
  unfolding stored_with send_held rule_of
  keeps x h rx tx is_still n m B ys = refl
  keeps x h rx tx (is_begun k) n m B ys = absurd (false≢true (sym n))
  keeps x h rx tx (is_written g t u) n m B ys = refl
  keeps x h rx tx is_cleared n m B ys = absurd (false≢true (sym n))
  keeps x h rx tx (is_stored b F l) n m B ys =
      ap (reading w)
      (sym (append_assoc (held_to_send w) (a_byte b ∷ []) ys)
      ∙ ap (λ l. l ++ ys) (sym (ap received_in (held_stored b F l) ∙ received_byte (held_cells w) b (B 0))))
  keeps x h rx tx (is_lost b l) n m B ys = refl
  keeps x h rx tx (is_broken F) n m B ys = ap (λ (l : List ℕ). reading w (received_in (held l w.state.rx) ++ ys)) (sym (break_none F (m refl)))
  keeps x h rx tx (is_sent f r F e) n m B ys =
      send_reads (one f r) ys F e
      ∙ ap (λ l. l ++ reading w (received_in (after_send w) ++ ys)) (sym (seen_plain w.state f (sent_plain rule (held_cells w) f r e)))
  keeps x h rx tx (is_none r F e) n m B ys = send_reads (none r) ys F e
  keeps x h rx tx (is_left l F e) n m B ys = refl
  keeps x h rx tx (is_handed F e) n m B ys = refl

  -- where nothing is held there is nothing to read
  none_held : (cells : List ℕ) → ltb 0 (length cells) ≡ false → received_in cells ≡ []
  unfolding received
  none_held [] e = refl
  none_held (n ∷ cells) e = absurd (omega (arith, ltb-false 0 (length (n ∷ cells)) e))

  -- and what is held after it has the rule of before: a write that changes it finds nothing held
  same_rules : (x : Seen) (h : Core) (rx tx : List ℕ) → Shape w x h rx tx → x.starts_anew ≡ false →
      all_ruled rule (received_in (held rx h.rx)) ≡ all_ruled (rule_of h.regs) (received_in (held rx h.rx))
  same_rules x h rx tx shape n =
      ⊎_elim (λ e. ap (λ (r : Rule). all_ruled r (received_in (held rx h.rx))) (sym e))
      (λ none. let z = ap received_in none.1 ∙ none_held (held_cells w) none.0 in ap (all_ruled rule) z ∙ sym (ap (all_ruled (rule_of h.regs)) z))
      (kept w x h rx tx shape n)

-- ---- from one rule to the rules of a run: what is read by the rule of the moment, whatever of it comes, is read so among items of other rules

module _ (between : List Received) (silent : Silent between) where
  read_among : (r : Rule) (xs acc rest : List Received) (fs : List ℕ) →
      ((ys : List Received) → frames (cut r) (xs ++ (acc ++ ys)) ≡ fs ++ frames (cut r) (rest ++ ys)) → (ys : List Ruled) →
      read_with between (all_ruled r xs ++ (all_ruled r acc ++ ys)) ≡ fs ++ read_with between (all_ruled r rest ++ ys)
  read_among r xs acc rest fs turned ys =
      let k = behind between silent r ys in
      ap (read_with between) (sym (append_assoc (all_ruled r xs) (all_ruled r acc) ys) ∙ ap (λ l. l ++ ys) (sym (map-append (ruled r) xs acc)))
      ∙ k.reads (xs ++ acc)
      ∙ ap (λ l. frames (cut r) l ++ k.later) (append_assoc xs acc k.items)
      ∙ ap (λ l. l ++ k.later) (turned k.items)
      ∙ append_assoc fs (frames (cut r) (rest ++ k.items)) k.later
      ∙ ap (λ l. fs ++ l) (sym (k.reads rest))

-- ---- every call of the run, where these breaks count: all that do are breaks, and of the others nothing is held

module _ (these : Call → World → Said → Bool)
    (are : (c : Call) (w : World) → these c w (answer c w) ≡ true → breaks c w (answer c w) ≡ true)
    (others : (c : Call) (w : World) → these c w (answer c w) ≡ false → breaks c w (answer c w) ≡ true → holds_some w ≡ false) where
  abbrev counted : Call → World → Said → List Received
  counted c w a = cond (these c w a) (a_break ∷ []) (map a_byte (accepted c w a))

  turned : (c : Call) (w : World) → ByteCall c → empties c w (answer c w) ≡ false → (ys : List Received) →
      reading w (held_to_send w ++ (counted c w (answer c w) ++ ys)) ≡ sent c w (answer c w) ++ reading w (held_to_send (after c w) ++ ys)
  turned c w k n ys = pick (these c w (answer c w)) refl
    where
      pick : (t : Bool) → these c w (answer c w) ≡ t →
          reading w (held_to_send w ++ (cond t (a_break ∷ []) (map a_byte (accepted c w (answer c w))) ++ ys)) ≡
          sent c w (answer c w) ++ reading w (held_to_send (after c w) ++ ys)
      pick true e =
          let b = broke w _ _ _ _ (view c w) (are c w e) in
          break_reads w ys b.fits ∙ (λ i. sym b.sent i ++ reading w (received_in (held (sym b.store i) (sym b.core i).rx) ++ ys))
      pick false e = keeps w _ _ _ _ (view c w) n (others c w e) (accepted_bytes c w (answer c w) k) ys

  module _ (between : List Received) (silent : Silent between) where
    abbrev counting : Reading World Call Said Ruled ℕ
    counting = record { accepted = by_its_rule counted; sent = sent; held = held_by_the_rule; reads = λ w. read_with between }

    turn : (c : Call) (w : World) → ByteCall c → empties c w (answer c w) ≡ false → TurnReads counting (machine.seen ours c w)
    unfolding rule_of
    turn c w k n ys =
        read_among between silent (rule_in w) (held_to_send w) (counted c w (answer c w)) (held_to_send (after c w)) (sent c w (answer c w)) (turned c w k n) ys
        ∙ ap (λ l. sent c w (answer c w) ++ read_with between (l ++ ys)) (same_rules w _ _ _ _ (view c w) (neither (restarts c (answer c w)) _ n).0)

    turns : (cs : List Call) (w : World) → AllFair ours cs → Without empties cs w → Each (TurnReads counting) (course ours cs w)
    unfolding course
    turns [] w k n = tt
    turns (c ∷ cs) w k n = let m = first_not empties c cs w n in (turn c w k.0 m.0, turns cs (after c w) k.1 m.1)

    read : Obeys ours (Kept counting empties)
    read cs w _ k n = from_turns counting ours cs w (turns cs w k n)

-- ---- all breaks count

every : (c : Call) (w : World) → breaks c w (answer c w) ≡ true → breaks c w (answer c w) ≡ true
every c w e = e

no_other : (c : Call) (w : World) → breaks c w (answer c w) ≡ false → breaks c w (answer c w) ≡ true → holds_some w ≡ false
no_other c w e b = absurd (true≢false (sym b ∙ e))

-- (3a)
pub frames_read : Obeys ours FramesRead
unfolding bytes_and_breaks
frames_read = read breaks every no_other wall wall_silent

-- the same where the rule changes and nothing waits
pub nothing_waits : Obeys ours NothingWaits
unfolding bytes_and_breaks
nothing_waits cs w u k n =
    let e = end cs w in
    sym (frames_read cs w u k n)
    ∙ ap (λ l. all sent cs w ++ l) (one_rule wall wall_silent (rule_in e) (held_to_send e) ∙ sym (one_rule [] none_silent (rule_in e) (held_to_send e)))
    ∙ read breaks every no_other [] none_silent cs w u k n

-- ---- only those count that come while something is held

pub unheld_breaks : Obeys ours UnheldBreaks
unfolding bytes_and_marks
unheld_breaks cs w u k n = sym (frames_read cs w u k n) ∙ read marks are others wall wall_silent cs w u k n
  where
    are : (c : Call) (w : World) → marks c w (answer c w) ≡ true → breaks c w (answer c w) ≡ true
    are c w e = and_left (breaks c w (answer c w)) (holds_some w) e

    others : (c : Call) (w : World) → marks c w (answer c w) ≡ false → breaks c w (answer c w) ≡ true → holds_some w ≡ false
    others c w e b = (λ i. sym b i && holds_some w) ∙ e
