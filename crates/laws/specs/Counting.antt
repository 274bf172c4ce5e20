-- The counts over a run, register writes and device clears included.
use Rattle.std.specs.Prelude.{ℕ, ◌+◌, ◌%◌, ◌^◌, ◌<◌, ◌≡◌, true, List, length}
use Rattle.machine.specs.Course.{of, end, all, Without}
use Rattle.machine.specs.Machine.{of_runs, of_since}
use Rattle.bridge.specs.Calls.{World}
use Rattle.laws.specs.Observers.{accepted, lost, sent, starts_anew}
use Rattle.laws.specs.Bridges.{Law, Saw}

-- Status byte, the counts: bytes stored, bytes lost and frames sent, all of the receive store
abbrev pub stored : World → ℕ
stored w = w.state.counts.stored

abbrev pub losses : World → ℕ
losses w = w.state.counts.lost

abbrev pub frame_count : World → ℕ
frame_count w = w.state.counts.sent

-- 32 bits: after 4,294,967,295 comes 0
abbrev pub wrapped : ℕ → ℕ
wrapped n = n % 2 ^ 32

-- from v to w the counts went up by what the run accepted, lost and sent
pub record Counted (ss : List Saw) (v w : World) : Type 0 where
  pub stored : stored w ≡ wrapped (stored v + length (all accepted ss))
  pub lost : losses w ≡ wrapped (losses v + length (all lost ss))
  pub sent : frame_count w ≡ wrapped (frame_count v + length (all sent ss))

-- the counts are numbers of 32 bits
pub record Small (w : World) : Type 0 where
  pub stored : stored w < 2 ^ 32
  pub lost : losses w < 2 ^ 32
  pub sent : frame_count w < 2 ^ 32

-- from any counts: each has gone up by what the run accepted, lost and sent
abbrev pub CountsGo : Law
CountsGo = of_runs (λ w ss. Without starts_anew ss → Small w → Counted ss w (end w ss))

-- the three counts of a run that begins with a create or reset
pub record CountedSince (ss : List Saw) (w : World) : Type 0 where
  pub stored : stored w ≡ wrapped (length (all accepted ss))
  pub lost : losses w ≡ wrapped (length (all lost ss))
  pub sent : frame_count w ≡ wrapped (length (all sent ss))

-- from a create or reset on, whatever calls follow it
abbrev pub CountsSince : Law
CountsSince = of_since (λ s ss. of starts_anew s ≡ true → Without starts_anew ss → CountedSince ss (end s.after ss))
