-- Mailboxes that tell the loop wrongly what came, or forget it before it is told.
use Rattle.std.specs.Prelude.{◌+◌, ◌%◌, Bool, true, false, ◌&&◌, ◌||◌, eqb}
use Rattle.frame.specs.Frame.{data_of, made, is_data, has_service, same_apart}
use Rattle.news.specs.declared.News.{News}
use Rattle.mailstate.specs.declared.State.{State}
use Rattle.mailbox.specs.Calls.{loop_frame, on, Call, World, Did, step}
use Rattle.maillaws.specs.Sights.{to_bus, to_loop, news_of, waits, any, on_frame, told}
use Rattle.mailwrong.specs.Spoiling.{Sight, instead, instead_at, after_sight, with_way, with_news}

-- whether something is told to have come
abbrev with_available : Bool → State → State
with_available x s =
    with_way to_loop
    (record { ring = s.toloop.ring; news = record { request = s.toloop.news.request; available = x; again = s.toloop.news.again } }) s

-- status is sent; the status byte is back, unchanged, or anyhow
abbrev status_sent : Sight
status_sent c w a = any (told to_loop c w a)

abbrev status_under_way : World → Bool
status_under_way w = eqb w.state.talker.role.phase 3

abbrev status_back : Sight
status_back c w a = on_frame (λ f. (is_data f && same_apart f w.state.talker.under.frame) && status_under_way w) false c

abbrev status_anyhow : Sight
status_anyhow c w a = on_frame (λ f. is_data f && status_under_way w) false c

-- ---- forgetting

-- forgets that something came as soon as status is sent
abbrev pub forgets_at_status : Call → World → Did
forgets_at_status = after_sight status_sent (λ before after. with_available false after)

-- forgets that something came when the status byte is back, though a new byte came into the empty way since it was sent
abbrev pub forgets_though_new : Call → World → Did
forgets_though_new = after_sight status_back (λ before after. with_available false after)

-- forgets that something came when the status byte is back, damaged or not
abbrev pub forgets_at_damage : Call → World → Did
forgets_at_damage = after_sight status_anyhow (λ before after. with_available false after)

-- never forgets that something came, also when the status byte is back
abbrev pub never_forgets : Call → World → Did
never_forgets = after_sight (λ c w a. true) (λ before after. with_available (before.toloop.news.available || after.toloop.news.available) after)

-- takes a status byte that comes back with another device's request for a damaged one
abbrev pub wants_bit_back : Call → World → Did
wants_bit_back =
    instead (λ c w. on_frame (λ f. (is_data f && has_service f) && status_under_way w) false c)
    (λ c w. on_frame (λ f. step (on (loop_frame (made 0 ((data_of f + 1) % 256)))) w) (step c w) c)

-- ---- the status byte

-- it sends the status byte of other news
abbrev telling : (World → News) → Call → World → Did
telling news = instead_at status_sent (λ c w. step c (with_news to_loop (news w) w))

-- shows in the status byte that data is there as long as something waits, though it was told
abbrev pub tells_live : Call → World → Did
tells_live = telling (λ w. record { request = (news_of to_loop w).request; available = any (waits to_loop w); again = (news_of to_loop w).again })

-- leaves the service request out of the status byte
abbrev pub tells_no_request : Call → World → Did
tells_no_request = telling (λ w. record { request = false; available = (news_of to_loop w).available; again = (news_of to_loop w).again })

-- tells the loop by its status byte what waits for the bus
abbrev pub tells_other_way : Call → World → Did
tells_other_way = telling (news_of to_bus)
