-- What a call can have done, one case for each kind of change. All that is proved of runs goes by these cases. Assumes nothing.
use Prim.Native.Nat.{ℕ, ◌+◌, ◌≤◌, ◌<◌}
use mathlib.Core.Path.{◌≡◌}
use mathlib.Core.Bool.{Bool, true, false}
use mathlib.Core.List.{List, [], ◌∷◌}
use lib.ListN.{length, get_or}
use Rattle.registers.specs.declared.Registers.{Registers}
use Rattle.store.specs.declared.Ring.{Ring}
use Rattle.store.specs.Ring.{held, empty_ring, put_bytes, puts_ring, puts_bytes, drop_ring}
use Rattle.reading.specs.Reading.{none, one}
use Rattle.reading.specs.Received.{Received}
use Rattle.sending.specs.Sending.{send_held, sent_ring}
use Rattle.state.specs.declared.State.{State}
use Rattle.state.specs.declared.Counts.{Counts}
use Rattle.answers.specs.declared.Answer.TheVariants.{Frame}
use Rattle.answers.specs.Answers.{Said, said}
use Rattle.state.specs.Sizes.{start_state, fits}
use Rattle.state.specs.Counts.{counted}
use Rattle.state.specs.Conditions.{serviced}
use Rattle.line.specs.Breaks.{break_cells}
use Rattle.line.specs.HoldingOff.{stored_state}
use Rattle.loopside.specs.Sends.{rule_of, removed_state}
use Rattle.bridge.specs.Calls.{Call, World}
use Rattle.laws.specs.Observers.{data_frame, arrived, accepted, lost, breaks, sent, added, handed_out, changes, empties, starts_anew}
use Rattle.laws.specs.Worlds.{holds_some}

-- all that is seen of a call
pub record Seen : Type 0 where
  pub arrived : List ℕ
  pub accepted : List ℕ
  pub lost : List ℕ
  pub breaks : Bool
  pub sent : List ℕ
  pub left : List ℕ
  pub handed : List ℕ
  pub changes : Bool
  pub empties : Bool
  pub starts_anew : Bool

abbrev pub seen : Call → World → Said → Seen
seen c w a =
    record {
      arrived = arrived c w a;
      accepted = accepted c w a;
      lost = lost c w a;
      breaks = breaks c w a;
      sent = sent c w a;
      left = added c w a;
      handed = handed_out c w a;
      changes = changes c w a;
      empties = empties c w a;
      starts_anew = starts_anew c w a;
    }

-- the part of a state that runs are about
pub record Core : Type 0 where
  pub margin : ℕ
  pub regs : Registers
  pub rx : Ring
  pub tx : Ring
  pub holding : Bool
  pub counts : Counts

abbrev pub core : State → Core
core s =
    record {
      margin = s.margin;
      regs = s.regs;
      rx = s.rx;
      tx = s.tx;
      holding = s.line.holding;
      counts = s.counts;
    }

-- nothing is seen
abbrev pub still : Seen
still =
    record { arrived = []; accepted = []; lost = []; breaks = false; sent = []; left = []; handed = []; changes = false; empties = false; starts_anew = false }

-- a break is
abbrev pub broken : Seen
broken =
    record {
      arrived = [];
      accepted = [];
      lost = [];
      breaks = true;
      sent = [];
      left = [];
      handed = [];
      changes = false;
      empties = false;
      starts_anew = false;
    }

abbrev pub takes : List ℕ → List ℕ → List ℕ → Seen
takes n a l =
    record { arrived = n; accepted = a; lost = l; breaks = false; sent = []; left = []; handed = []; changes = false; empties = false; starts_anew = false }

abbrev pub frames : List ℕ → List ℕ → Bool → Seen
frames s l c =
    record { arrived = []; accepted = []; lost = []; breaks = false; sent = s; left = l; handed = []; changes = c; empties = c; starts_anew = false }

abbrev pub hands : List ℕ → Seen
hands l =
    record { arrived = []; accepted = []; lost = []; breaks = false; sent = []; left = []; handed = l; changes = false; empties = false; starts_anew = false }

abbrev pub begun : Bool → Bool → Seen
begun x r =
    record { arrived = []; accepted = []; lost = []; breaks = false; sent = []; left = []; handed = []; changes = x; empties = r; starts_anew = r }

abbrev pub Fits : World → Type 0
Fits w = fits w.state (length w.rx) (length w.tx) ≡ true

abbrev pub with_transmit : State → Ring → Core
with_transmit s r =
    record {
      margin = s.margin;
      regs = s.regs;
      rx = s.rx;
      tx = r;
      holding = s.line.holding;
      counts = s.counts;
    }

abbrev pub with_receive : State → Ring → Bool → Counts → Core
with_receive s r h n =
    record {
      margin = s.margin;
      regs = s.regs;
      rx = r;
      tx = s.tx;
      holding = h;
      counts = n;
    }

pub data Shape (w : World) : Seen → Core → List ℕ → List ℕ → Type 0 where
  is_still : Shape w still (core w.state) w.rx w.tx
  is_begun : (m : ℕ) → Shape w (begun true true) (core (start_state m (length w.rx) (length w.tx))) w.rx w.tx
  is_written : (g : Registers) (h : Bool) → (holds_some w ≡ true → rule_of g ≡ rule_of w.state.regs) →
      Shape w (begun true false)
      (record {
        margin = w.state.margin;
        regs = g;
        rx = w.state.rx;
        tx = w.state.tx;
        holding = h;
        counts = w.state.counts;
      })
      w.rx w.tx
  is_cleared :
      Shape w (frames [] [] true)
      (record {
        margin = w.state.margin;
        regs = w.state.regs;
        rx = empty_ring w.state.rx.cap;
        tx = empty_ring w.state.tx.cap;
        holding = false;
        counts = w.state.counts;
      })
      w.rx w.tx
  is_stored : (b : ℕ) → Fits w → w.state.rx.len < w.state.rx.cap →
      Shape w (takes (b ∷ []) (b ∷ []) [])
      (core (stored_state w.state))
      (put_bytes w.rx w.state.rx b) w.tx
  is_lost : (b : ℕ) → w.state.rx.cap ≤ w.state.rx.len →
      Shape w (takes (b ∷ []) [] (b ∷ []))
      (record {
        margin = w.state.margin;
        regs = w.state.regs;
        rx = w.state.rx;
        tx = w.state.tx;
        holding = w.state.line.holding;
        counts = record { stored = w.state.counts.stored; lost = counted w.state.counts.lost; sent = w.state.counts.sent };
      })
      w.rx w.tx
  is_broken : Fits w → Shape w broken (core w.state) (break_cells w.state w.rx) w.tx
  is_sent : (f : ℕ) (r : List Received) → Fits w → send_held (rule_of w.state.regs) w.rx w.state.rx ≡ one f r →
      Shape w (frames (data_frame (said (Frame (serviced w.state f)))) [] false)
      (with_receive w.state (sent_ring (rule_of w.state.regs) w.rx w.state.rx)
      (removed_state w.state w.rx).line.holding
      (record { stored = w.state.counts.stored; lost = w.state.counts.lost; sent = counted w.state.counts.sent }))
      w.rx w.tx
  is_none : (r : List Received) → Fits w → send_held (rule_of w.state.regs) w.rx w.state.rx ≡ none r →
      Shape w still
      (with_receive w.state (sent_ring (rule_of w.state.regs) w.rx w.state.rx)
      (removed_state w.state w.rx).line.holding
      w.state.counts)
      w.rx w.tx
  is_left : (l : List ℕ) → Fits w → w.state.tx.len + length l ≤ w.state.tx.cap →
      Shape w (frames [] l false) (with_transmit w.state (puts_ring w.state.tx l)) w.rx (puts_bytes w.tx w.state.tx l)
  is_handed : Fits w → 0 < w.state.tx.len →
      Shape w (hands (get_or (held w.tx w.state.tx) 0 0 ∷ [])) (with_transmit w.state (drop_ring w.state.tx 1)) w.rx w.tx
