-- Bridges that send wrongly from the receive store, or lose what it holds.
use Rattle.std.specs.Prelude.{ℕ, ◌+◌, Bool, false, cond, List, [], ◌∷◌, eqb}
use Rattle.frame.specs.Frame.{control_of, data_of, is_end}
use Rattle.store.specs.Ring.{empty_ring}
use Rattle.answers.specs.Answers.{Said, done, frame}
use Rattle.state.specs.State.{with_rx, with_line}
use Rattle.bridge.specs.Calls.{Call, World, Did, step}
use Rattle.laws.specs.Bridges.{Machine, ByteCall}
use Rattle.laws.specs.Observers.{any, on_frame, on_line_byte, sent, lost, clears, starts_anew}
use Rattle.laws.specs.Passing.{as_frame}
use Rattle.laws.specs.Holding.{sends}
use Rattle.wrong.specs.Changing.{leaving, answering}
use Rattle.wrong.specs.Seeing.{after_sight, instead_at, only, empty_send, without_oldest, pair_removed}

-- What a reader may hold us to: gives 5,64 whenever it is to send, whatever it holds
abbrev pub silent : Call → World → Did
silent = instead_at sends (λ c w. only (frame 5 64) w)

-- What a reader may hold us to: lets every frame go on, and no frame does anything
abbrev pub passes_all : Call → World → Did
passes_all c w = on_frame (λ f. only (as_frame f) w) (step c w) c

-- does what ours does at its first call, and is silent from then on: it keeps a count that no state shows
pub record Counted : Type 0 where
  pub world : World
  pub calls : ℕ

abbrev pub tires : Call → Counted → Did
tires c o = cond (eqb o.calls 0) (step c o.world) (silent c o.world)

abbrev pub tired : Machine
tired =
    record {
      Own = Counted;
      stands = λ o. o.world;
      answer = λ c o. (tires c o).said;
      after = λ c o. record { world = (tires c o).world; calls = o.calls + 1 };
      Fine = λ o. Unit {0};
      Fair = ByteCall;
    }

-- the first of these is an end byte
abbrev pub any_end : List ℕ → Bool
any_end [] = false
any_end (f ∷ fs) = is_end f

-- the answer as a data frame, where it is an end byte
abbrev pub without_end : List ℕ → Said → Said
without_end [] a = a
without_end (f ∷ fs) a = cond (is_end f) (frame 0 (data_of f)) a

-- What a reader may hold us to: reads one line, and when its end byte has gone, drops what is held behind it
abbrev pub impatient : Call → World → Did
impatient = after_sight (λ c w a. any_end (sent c w a)) (λ before after. with_rx after (empty_ring after.rx.cap))

-- sends a frame and still holds its bytes
abbrev pub repeats : Call → World → Did
repeats = after_sight sends (λ before after. with_rx after before.rx)

-- sends an end byte as a data frame that ends nothing
abbrev pub ends_nothing : Call → World → Did
ends_nothing = answering (λ c w a. without_end (sent c w a) a)

-- removes a pair of C00, C01 that stands behind its frame too
abbrev pub removes_pairs_behind : Call → World → Did
removes_pairs_behind = leaving (λ c w v. cond (sends c w (step c w).said) (pair_removed v) v)

-- removes a pair that it holds at every call
abbrev pub removes_pairs_always : Call → World → Did
removes_pairs_always = leaving (λ c w v. pair_removed v)

-- leaves the pairs in place when no frame follows, and goes on holding the line off
abbrev pub keeps_pairs_at_none : Call → World → Did
keeps_pairs_at_none = after_sight empty_send (λ before after. with_line (with_rx after before.rx) before.line)

-- ends no holding off by a send that gives no frame
abbrev pub holds_on_at_none : Call → World → Did
holds_on_at_none = after_sight empty_send (λ before after. with_line after before.line)

-- swallows the point of 2.5 without a sign, whether the store is full or not
abbrev pub swallows_the_point : Call → World → Did
swallows_the_point c w = on_line_byte (λ b. cond (eqb b 46) (only done w) (step c w)) (step c w) c

-- makes room at a full store by dropping its oldest byte
abbrev pub drops_oldest_when_full : Call → World → Did
drops_oldest_when_full = instead_at (λ c w a. any (lost c w a)) (λ c w. step c (without_oldest 1 w))

-- drops all that it holds at every command
abbrev pub command_empties : Call → World → Did
command_empties = after_sight (λ c w a. on_frame (λ f. eqb (control_of f) 4) false c) (λ before after. with_rx after (empty_ring after.rx.cap))

-- keeps the receive store at a device clear
abbrev pub clear_keeps_store : Call → World → Did
clear_keeps_store = after_sight clears (λ before after. with_rx after before.rx)

-- keeps the receive store at a create or reset
abbrev pub restart_keeps_store : Call → World → Did
restart_keeps_store = after_sight starts_anew (λ before after. with_rx after before.rx)
