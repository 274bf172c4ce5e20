-- The sizes of a mailbox, its start, and when a state fits.
use Rattle.std.specs.Prelude.{ℕ, Bool, false, ◌&&◌, leb, ltb}
use Rattle.talker.specs.Talker.{start_talker}
use Rattle.talker.specs.TalkerFit as talker-fit
use Rattle.polls.specs.Polls as polls
use Rattle.bus.specs.Bus as bus
use Rattle.way.specs.Way as way
use Rattle.mailstate.specs.declared.State.{State}
use Rattle.mailstate.specs.State.{no_hold}

-- ---- the sizes

-- a bus address, 31 being nobody's
abbrev pub address_obeyed : ℕ → Bool
address_obeyed a = leb a 30

-- a store has at least a cell
abbrev pub store_obeyed : ℕ → Bool
store_obeyed n = leb 1 n && leb n 32768

unfoldable pub sizes_obeyed : ℕ → ℕ → ℕ → Bool
sizes_obeyed a tobus toloop = (address_obeyed a && store_obeyed tobus) && store_obeyed toloop

-- ---- System startup and addressing: both buffers empty, nobody's talker or listener, the loop address unassigned

unfoldable pub start_state : ℕ → ℕ → ℕ → State
start_state a tobus toloop =
    record {
      tobus = way.empty_way tobus;
      toloop = way.empty_way toloop;
      talker = start_talker;
      source = 0;
      hold = no_hold false;
      response = polls.no_response;
      bus = bus.start_bus a;
    }

-- ---- a state fits, a test for each part

-- each ring is that of its store
abbrev pub ways_recorded : State → ℕ → ℕ → Bool
ways_recorded s tobus toloop = way.fit_test tobus s.tobus && way.fit_test toloop s.toloop

-- the loop side: role and frame under way, the source, the frame that is held back, which is a data frame, and the poll's line
abbrev pub loop_in_range : State → Bool
loop_in_range s = ((talker-fit.fit_test s.talker && leb s.source 10) && ltb s.hold.frame 1024) && polls.fit_test s.response

unfoldable pub fits : State → ℕ → ℕ → Bool
fits s tobus toloop = (ways_recorded s tobus toloop && loop_in_range s) && bus.fit_test s.bus
