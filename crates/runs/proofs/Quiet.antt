-- A call in which no byte arrives. Assumes nothing.
use Prim.Native.Nat.{ℕ}
use mathlib.Core.Path.{◌≡◌, sym, subst}
use mathlib.Core.List.{List, []}
use Rattle.store.specs.Ring.{full}
use Rattle.answers.specs.Answers.{Said}
use Rattle.bridge.specs.Calls.{Call, World, Did}
use Rattle.laws.specs.Observers.{arrived, accepted, lost, breaks, sent, added, handed_out, changes, empties, starts_anew}
use Rattle.runs.proofs.Alike.{same_either}
use Rattle.runs.proofs.Shapes.{Seen, seen, Core, core, Shape}

-- what a call did has a shape
abbrev pub Shaped : (w : World) → Call → Did → Type 0
Shaped w c d = Shape w (seen c w d.said) (core d.world.state) d.world.rx d.world.tx

-- ---- nothing arrives

-- where no byte arrives, none is accepted and none is lost
abbrev pub quiet : Call → World → Said → Seen
quiet c w a =
    record {
      arrived = [];
      accepted = [];
      lost = [];
      breaks = breaks c w a;
      sent = sent c w a;
      left = added c w a;
      handed = handed_out c w a;
      changes = changes c w a;
      empties = empties c w a;
      starts_anew = starts_anew c w a;
    }

module _ (c : Call) (w : World) (a : Said) (e : arrived c w a ≡ []) where
  none_accepted : accepted c w a ≡ []
  unfolding accepted
  none_accepted = rw e (same_either (full w.state.rx) [])

  none_lost : lost c w a ≡ []
  unfolding lost
  none_lost = rw e (same_either (full w.state.rx) [])

pub none_arrives : (c : Call) (w : World) (a : Said) (h : Core) (rx tx : List ℕ) → arrived c w a ≡ [] → Shape w (quiet c w a) h rx tx →
    Shape w (seen c w a) h rx tx
none_arrives c w a h rx tx e = subst (λ x. Shape w x h rx tx) same
  where
    same : quiet c w a ≡ seen c w a
    same = λ i.
        record {
          arrived = sym e i;
          accepted = sym (none_accepted c w a e) i;
          lost = sym (none_lost c w a e) i;
          breaks = breaks c w a;
          sent = sent c w a;
          left = added c w a;
          handed = handed_out c w a;
          changes = changes c w a;
          empties = empties c w a;
          starts_anew = starts_anew c w a;
        }
