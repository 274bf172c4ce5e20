-- The three counts, in 32 bits. Assumes nothing.
use Prim.Native.Nat.{ℕ, ◌+◌, ◌^◌, ◌<◌}
use native.Mathlib.Omega.{arith}
use mathlib.Core.Path.{◌≡◌, refl, sym, ap, ◌∙◌}
use mathlib.Core.Bool.{true, false, false≢true}
use mathlib.Core.List.{List, [], ◌∷◌, ◌++◌}
use lib.ListN.{length, length-append}
use Rattle.sending.specs.Sending.{send_held}
use Rattle.state.specs.declared.Counts.{Counts}
use Rattle.state.specs.Sizes.{start_state}
use Rattle.line.specs.HoldingOff.{stored_with}
use Rattle.loopside.specs.Sends.{rule_of}
use Rattle.bridge.specs.Calls.{Call, World}
use Rattle.laws.specs.Observers.{accepted, lost, sent, starts_anew}
use Rattle.laws.specs.Worlds.{held_cells}
use Rattle.laws.specs.Counting.{wrapped, Small, CountsGo, CountsSince}
use Rattle.runs.proofs.Shapes.{Seen, seen, Core, core, Shape, is_still, is_begun, is_written}
use Rattle.runs.proofs.Shapes.{is_cleared, is_stored, is_lost, is_broken, is_sent, is_none, is_left, is_handed}
use Rattle.runs.proofs.View.{view}
use Rattle.runs.proofs.Bytes.{sent_plain}
use Rattle.runs.proofs.Sends.{seen_plain}
use Rattle.runs.proofs.Runs.{first_not}
use Rattle.runs.proofs.Steps.{answer, after, all, ours}
use Rattle.machine.specs.Machine as machine
use Rattle.machine.specs.Course as course
use Rattle.machine.specs.Machine.{Obeys}

-- the counts after a call of which this was seen
record Stepped (x : Seen) (n k : Counts) : Type 0 where
  stored : k.stored ≡ wrapped (n.stored + length x.accepted)
  lost : k.lost ≡ wrapped (n.lost + length x.lost)
  sent : k.sent ≡ wrapped (n.sent + length x.sent)

none_more : (n : ℕ) → n < 2 ^ 32 → n ≡ wrapped (n + 0)
none_more n h = omega arith

module _ (w : World) (S : Small w) where
  same : (x : Seen) → x.accepted ≡ [] → x.lost ≡ [] → x.sent ≡ [] → Stepped x w.state.counts w.state.counts
  same x a l s =
      record {
        stored = none_more _ S.stored ∙ ap (λ k. wrapped (w.state.counts.stored + length k)) (sym a);
        lost = none_more _ S.lost ∙ ap (λ k. wrapped (w.state.counts.lost + length k)) (sym l);
        sent = none_more _ S.sent ∙ ap (λ k. wrapped (w.state.counts.sent + length k)) (sym s);
      }

  stepped : (x : Seen) (h : Core) (rx tx : List ℕ) → Shape w x h rx tx → x.starts_anew ≡ false →
      Stepped x w.state.counts h.counts
  unfolding stored_with send_held
  stepped x h rx tx is_still n = same x refl refl refl
  stepped x h rx tx (is_begun m) n = absurd (false≢true (sym n))
  stepped x h rx tx (is_written g t u) n = same x refl refl refl
  stepped x h rx tx is_cleared n = same x refl refl refl
  stepped x h rx tx (is_stored b F l) n = record { stored = refl; lost = none_more _ S.lost; sent = none_more _ S.sent }
  stepped x h rx tx (is_lost b l) n = record { stored = none_more _ S.stored; lost = refl; sent = none_more _ S.sent }
  stepped x h rx tx (is_broken F) n = same x refl refl refl
  stepped x h rx tx (is_sent f r F e) n =
      record {
        stored = none_more _ S.stored;
        lost = none_more _ S.lost;
        sent = ap (λ k. wrapped (w.state.counts.sent + length k))
            (sym (seen_plain w.state f (sent_plain (rule_of w.state.regs) (held_cells w) f r e)));
      }
  stepped x h rx tx (is_none r F e) n = same x refl refl refl
  stepped x h rx tx (is_left l F e) n = same x refl refl refl
  stepped x h rx tx (is_handed F e) n = same x refl refl refl

step_counts : (c : Call) (w : World) → starts_anew c w (answer c w) ≡ false → Small w →
    Stepped (seen c w (answer c w)) w.state.counts (after c w).state.counts
step_counts c w n S = stepped w S (seen c w (answer c w)) (core (after c w).state) (after c w).rx (after c w).tx (view c w) n

-- one call, and then the rest
small_wrapped : (n k : ℕ) → n ≡ wrapped k → n < 2 ^ 32
small_wrapped n k e = omega arith

chained : (n k j : ℕ) (a b : List ℕ) → k ≡ wrapped (n + length a) → j ≡ wrapped (k + length b) → j ≡ wrapped (n + length (a ++ b))
chained n k j a b e f = rw (length-append a b) (omega arith)

pub counts_go : Obeys ours CountsGo
unfolding course.end course.all machine.course
counts_go [] w B k n S = record { stored = none_more _ S.stored; lost = none_more _ S.lost; sent = none_more _ S.sent }
counts_go (c ∷ cs) w B k n S =
    let m = first_not starts_anew c cs w n in
    let t = step_counts c w m.0 S in
    let r =
    counts_go cs (after c w) tt k.1 m.1
    (record { stored = small_wrapped _ _ t.stored; lost = small_wrapped _ _ t.lost; sent = small_wrapped _ _ t.sent }) in
    record {
      stored = chained _ _ _ (accepted c w (answer c w)) (all accepted cs (after c w)) t.stored r.stored;
      lost = chained _ _ _ (lost c w (answer c w)) (all lost cs (after c w)) t.lost r.lost;
      sent = chained _ _ _ (sent c w (answer c w)) (all sent cs (after c w)) t.sent r.sent;
    }

-- ---- from a create or reset

record Zero (h : Core) : Type 0 where
  stored : h.counts.stored ≡ 0
  lost : h.counts.lost ≡ 0
  sent : h.counts.sent ≡ 0

begun_zero : (w : World) (x : Seen) (h : Core) (rx tx : List ℕ) → Shape w x h rx tx → x.starts_anew ≡ true → Zero h
unfolding start_state
begun_zero w x h rx tx is_still n = absurd (false≢true n)
begun_zero w x h rx tx (is_begun m) n = record { stored = refl; lost = refl; sent = refl }
begun_zero w x h rx tx (is_written g t u) n = absurd (false≢true n)
begun_zero w x h rx tx is_cleared n = absurd (false≢true n)
begun_zero w x h rx tx (is_stored b F l) n = absurd (false≢true n)
begun_zero w x h rx tx (is_lost b l) n = absurd (false≢true n)
begun_zero w x h rx tx (is_broken F) n = absurd (false≢true n)
begun_zero w x h rx tx (is_sent f r F e) n = absurd (false≢true n)
begun_zero w x h rx tx (is_none r F e) n = absurd (false≢true n)
begun_zero w x h rx tx (is_left l F e) n = absurd (false≢true n)
begun_zero w x h rx tx (is_handed F e) n = absurd (false≢true n)

pub counts_since : Obeys ours CountsSince
counts_since c cs w B j q b n =
    let z = begun_zero w (seen c w (answer c w)) (core (after c w).state) (after c w).rx (after c w).tx (view c w) b in
    let r =
    counts_go cs (after c w) tt q n
    (record { stored = omega (arith, z.stored); lost = omega (arith, z.lost); sent = omega (arith, z.sent) }) in
    record {
      stored = r.stored ∙ ap (λ (k : ℕ). wrapped (k + length (all accepted cs (after c w)))) z.stored ∙ ap wrapped (omega arith);
      lost = r.lost ∙ ap (λ (k : ℕ). wrapped (k + length (all lost cs (after c w)))) z.lost ∙ ap wrapped (omega arith);
      sent = r.sent ∙ ap (λ (k : ℕ). wrapped (k + length (all sent cs (after c w)))) z.sent ∙ ap wrapped (omega arith);
    }
