-- What a reader may hold us to: bridges whose counts are made up.
use Rattle.state.specs.State.{with_counts}
use Rattle.state.specs.Counts.{stored_more, sent_more}
use Rattle.bridge.specs.Calls.{Call, World, Did}
use Rattle.laws.specs.Observers.{clears, starts_anew}
use Rattle.wrong.specs.Seeing.{after_sight, always, status_asked}

-- counts a stored byte at every call
abbrev pub counts_every_call : Call → World → Did
counts_every_call = after_sight always (λ before after. stored_more after)

-- counts status bytes as data frames sent from the receive store
abbrev pub counts_status : Call → World → Did
counts_status = after_sight status_asked (λ before after. sent_more after)

-- keeps the counts at a create or reset
abbrev pub restart_keeps_counts : Call → World → Did
restart_keeps_counts = after_sight starts_anew (λ before after. with_counts after before.counts)

-- begins the counts anew at a device clear
abbrev pub clear_restarts_counts : Call → World → Did
clear_restarts_counts = after_sight clears (λ before after. with_counts after (record { stored = 0; lost = 0; sent = 0 }))
