-- What is read since the receive store was emptied. Assumes nothing.
use Prim.Native.Nat.{ℕ}
use mathlib.Core.Path.{◌≡◌, ap, ◌∙◌}
use mathlib.Core.Bool.{true, false≢true}
use mathlib.Core.List.{List, [], ◌++◌}
use Rattle.store.specs.Ring.{held}
use Rattle.store.proofs.Laws.{held_empty}
use Rattle.state.specs.Sizes.{start_state}
use Rattle.bridge.specs.Calls.{World}
use Rattle.reading.specs.Received.{Received, received, received_in}
use Rattle.laws.specs.Observers.{bytes_and_breaks}
use Rattle.laws.specs.ByRules.{all_ruled, by_rules}
use Rattle.laws.specs.Worlds.{held_to_send, rule_in}
use Rattle.laws.specs.Demands.{by_its_rule}
use Rattle.laws.specs.SendRule.{FramesSince}
use Rattle.runs.proofs.Shapes.{Seen, seen, Core, core, Shape, is_still, is_begun, is_written}
use Rattle.runs.proofs.Shapes.{is_cleared, is_stored, is_lost, is_broken, is_sent, is_none, is_left, is_handed}
use Rattle.runs.proofs.View.{view}
use Rattle.runs.proofs.FramesRead.{frames_read}
use Rattle.runs.proofs.Steps.{answer, after, all, ours}
use Rattle.machine.specs.Machine.{Obeys}

emptied : (w : World) (x : Seen) (h : Core) (rx tx : List ℕ) → Shape w x h rx tx → x.empties ≡ true → received_in (held rx h.rx) ≡ []
unfolding start_state received
emptied w x h rx tx is_still n = absurd (false≢true n)
emptied w x h rx tx (is_begun m) n = ap received_in (held_empty w.rx _)
emptied w x h rx tx (is_written g t u) n = absurd (false≢true n)
emptied w x h rx tx is_cleared n = ap received_in (held_empty w.rx _)
emptied w x h rx tx (is_stored b F l) n = absurd (false≢true n)
emptied w x h rx tx (is_lost b l) n = absurd (false≢true n)
emptied w x h rx tx (is_broken F) n = absurd (false≢true n)
emptied w x h rx tx (is_sent f r F e) n = absurd (false≢true n)
emptied w x h rx tx (is_none r F e) n = absurd (false≢true n)
emptied w x h rx tx (is_left l F e) n = absurd (false≢true n)
emptied w x h rx tx (is_handed F e) n = absurd (false≢true n)

pub frames_since : Obeys ours FramesSince
frames_since c cs w B j k e n =
    frames_read cs (after c w) tt k n
    ∙ ap (λ (l : List Received). by_rules (all_ruled (rule_in (after c w)) l ++ all (by_its_rule bytes_and_breaks) cs (after c w))) none
  where
    none : held_to_send (after c w) ≡ []
    none = emptied w (seen c w (answer c w)) (core (after c w).state) (after c w).rx (after c w).tx (view c w) e
