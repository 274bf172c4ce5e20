-- Mailboxes that fetch another thing from a way than its oldest cell, or leave another rest.
use Rattle.std.specs.Prelude.{◌+◌, ◌-◌, ◌%◌, Bool, false, cond, ◌&&◌, not, eqb}
use Rattle.frame.specs.Frame.{is_data, same_apart}
use Rattle.store.specs.declared.Ring.{Ring}
use Rattle.store.specs.Ring.{wrap}
use Rattle.answers.specs.Answers.{Said, frame, cell}
use Rattle.mailbox.specs.Calls.{Call, World, Did, step}
use Rattle.maillaws.specs.Sights.{Direction, to_loop, ring_of, news_of, of_frame_said, of_cell_said, any, on_frame, from_way, fetched}
use Rattle.mailwrong.specs.Spoiling.{Sight, instead_at, leaving, answering, with_ring, with_news}
use Rattle.mailwrong.specs.SpoiltWays.{holding}

-- something is fetched from the way
abbrev pub takes_from : Direction → Sight
takes_from d c w a = any (fetched d c w a)

-- the end mark is taken off
abbrev pub unmarked : Said → Said
unmarked a = of_cell_said (λ n. cell (n % 256)) (of_frame_said (λ k d. frame (k % 2) d) a a) a

-- drops the end mark of what is fetched from the way d
abbrev pub drops_mark : Direction → Call → World → Did
drops_mark d = answering (λ c w a. cond (takes_from d c w a) (unmarked a) a)

-- hands over what waits in the way d and lets it wait on, so that it comes again
abbrev pub gives_again : Direction → Call → World → Did
gives_again d = leaving (λ c w v. cond (takes_from d c w (step c w).said) (with_ring d (ring_of d w) v) v)

-- our data frame comes back changed
abbrev damaged : World → Call → Bool
damaged w = on_frame (λ f. (is_data f && not (same_apart f w.state.talker.under.frame)) && (eqb w.state.talker.role.phase 2 && from_way w)) false

-- one cell more, before the oldest
abbrev put_back : Ring → Ring
put_back r = record { cap = r.cap; oldest = wrap r.cap (r.oldest + (r.cap - 1)); len = r.len + 1 }

-- lets a byte wait once more whose frame came back damaged
abbrev pub keeps_damaged : Call → World → Did
keeps_damaged = leaving (λ c w v. cond (damaged w c) (with_ring to_loop (put_back (ring_of to_loop v)) v) v)

-- only the newest cell
abbrev pub newest_of : Ring → Ring
newest_of r = record { cap = r.cap; oldest = wrap r.cap (r.oldest + (r.len - 1)); len = 1 }

-- hands over the newest of the way d first
abbrev pub newest_first : Direction → Call → World → Did
newest_first d =
    instead_at (takes_from d)
    (λ c w.
    let other = step c (with_ring d (newest_of (ring_of d w)) w) in
    record {
      said = other.said;
      world = with_news d (news_of d (step c w).world) (with_ring d (holding ((ring_of d w).len - 1) (ring_of d w)) other.world);
    })
