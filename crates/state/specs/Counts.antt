-- Status byte, counts: bytes stored, bytes lost, and data frames sent from the receive store, each in 32 bits.
use Rattle.std.specs.Prelude.{ℕ, ◌+◌, ◌%◌, ◌^◌}
use Rattle.state.specs.declared.State.{State}
use Rattle.state.specs.State.{with_counts}

-- one more, and 0 after the largest
abbrev pub counted : ℕ → ℕ
counted n = (n + 1) % 2 ^ 32

abbrev pub stored_more : State → State
stored_more s = with_counts s (record { stored = counted s.counts.stored; lost = s.counts.lost; sent = s.counts.sent })

abbrev pub lost_more : State → State
lost_more s = with_counts s (record { stored = s.counts.stored; lost = counted s.counts.lost; sent = s.counts.sent })

abbrev pub sent_more : State → State
sent_more s = with_counts s (record { stored = s.counts.stored; lost = s.counts.lost; sent = counted s.counts.sent })
