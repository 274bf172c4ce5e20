-- Mailboxes that clear what they should leave, or leave what they should clear.
use Rattle.std.specs.Prelude.{Bool, true, false, ◌||◌, eqb}
use Rattle.news.specs.News.{no_news}
use Rattle.way.specs.declared.Way.{Way}
use Rattle.way.specs.Way.{empty_way}
use Rattle.mailstate.specs.declared.State.{State}
use Rattle.mailbox.specs.Calls.{bus_clear, Call, World, Did}
use Rattle.maillaws.specs.Sights.{Direction, to_bus, to_loop, other, on_bus_command, on_one, restarts, clears_by}
use Rattle.mailwrong.specs.Spoiling.{Sight, after_sight, with_way, is_command}

abbrev pub way_of : Direction → State → Way
way_of to_bus s = s.tobus
way_of to_loop s = s.toloop

abbrev emptied : Direction → State → State
emptied d s = with_way d (empty_way (way_of d s).ring.cap) s

-- ---- what should be cleared

-- leaves what waits in the way d at a device clear
abbrev pub clear_leaves : Direction → Call → World → Did
clear_leaves d = after_sight (clears_by d) (λ before after. with_way d (way_of d before) after)

-- leaves what waits in both ways at a create or reset
abbrev pub restart_leaves : Call → World → Did
restart_leaves = after_sight (λ c w a. restarts c a) (λ before after. with_way to_bus before.tobus (with_way to_loop before.toloop after))

-- goes on requesting service for the way d when a device clear has emptied it
abbrev pub clear_leaves_request : Direction → Call → World → Did
clear_leaves_request d =
    after_sight (clears_by d)
    (λ before after.
    with_way d
    (record { ring = (way_of d after).ring; news = record { request = (way_of d before).news.request; available = false; again = false } })
    after)

-- ---- what should stay

abbrev clears_any : Sight
clears_any c w a = clears_by to_bus c w a || clears_by to_loop c w a

-- a device clear of either side clears both ways
abbrev pub clears_both : Call → World → Did
clears_both = after_sight clears_any (λ before after. emptied to_bus (emptied to_loop after))

-- a device clear of the way d ends what is told of the other way
abbrev pub clear_hushes : Direction → Call → World → Did
clear_hushes d = after_sight (clears_by d) (λ before after. with_way (other d) (record { ring = (way_of (other d) after).ring; news = no_news }) after)

-- interface clear of the side that leaves in the way
abbrev interface_cleared : Direction → Call → Bool
interface_cleared to_bus c = is_command 144 c
interface_cleared to_loop c = on_one bus_clear true false c

-- an interface clear empties the way d
abbrev pub interface_clear_empties : Direction → Call → World → Did
interface_clear_empties d = after_sight (λ c w a. interface_cleared d c) (λ before after. emptied d after)

-- selected device clear, which is to listeners
abbrev selected_clear : Direction → Call → Bool
selected_clear to_bus c = is_command 4 c
selected_clear to_loop c = on_bus_command (λ n. eqb n 4) false c

-- clears the way d by a selected device clear that is to others
abbrev pub clears_for_others : Direction → Call → World → Did
clears_for_others d = after_sight (λ c w a. selected_clear d c) (λ before after. emptied d after)
