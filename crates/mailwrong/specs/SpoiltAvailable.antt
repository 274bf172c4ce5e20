-- Mailboxes whose news goes wrong: bit 0 of the status bytes.
use Rattle.std.specs.Prelude.{Bool, true, false, eqb}
use Rattle.mailstate.specs.declared.State.{State}
use Rattle.mailbox.specs.Calls.{Call, World, Did}
use Rattle.maillaws.specs.Sights.{Direction, to_bus, to_loop, any, on_bus_command, left, told}
use Rattle.mailwrong.specs.Spoiling.{after_sight, with_way}
use Rattle.mailwrong.specs.SpoiltFetches.{takes_from}
use Rattle.mailwrong.specs.SpoiltClears.{way_of}

abbrev with_available : Direction → Bool → State → State
with_available d x s =
    with_way d (record { ring = (way_of d s).ring; news = record { request = (way_of d s).news.request; available = x; again = (way_of d s).news.again } }) s

-- shows in the status byte of the side that fetches from the way d that data is there when the last byte is fetched
abbrev pub news_outlives : Direction → Call → World → Did
news_outlives d = after_sight (takes_from d) (λ before after. with_available d (way_of d before).news.available after)

-- ends the news of the way d with the first byte that is fetched, though more waits
abbrev pub news_ends_early : Direction → Call → World → Did
news_ends_early d = after_sight (takes_from d) (λ before after. with_available d false after)

-- says that data is there whenever the bus says unlisten, with nothing waiting
abbrev pub invents_news : Call → World → Did
invents_news = after_sight (λ c w a. on_bus_command (λ n. eqb n 63) false c) (λ before after. with_available to_loop true after)

-- never shows in the status byte of the bus that data is there
abbrev pub bus_news_missing : Call → World → Did
bus_news_missing = after_sight (λ c w a. any (left to_bus c w a)) (λ before after. with_available to_bus false after)

-- goes on telling the bus that data is there when the status byte has told it
abbrev pub bus_news_stays : Call → World → Did
bus_news_stays = after_sight (λ c w a. any (told to_bus c w a)) (λ before after. with_available to_bus before.tobus.news.available after)
