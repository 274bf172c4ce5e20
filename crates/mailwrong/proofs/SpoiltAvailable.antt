-- Mailboxes whose news goes wrong, each refuted by one call. Assumes nothing.
use mathlib.Core.Path.{refl}
use mathlib.Core.Bool.{false, false≢true, true≢false}
use Rattle.news.specs.News.{come}
use Rattle.maillaws.specs.Sights.{to_bus, to_loop}
use Rattle.maillaws.specs.NewsGoing.{NewsGo}
use Rattle.refuting.proofs.StandsIn.{holds, no_round}
use Rattle.mailwrong.specs.Spoiling.{with_news}
use Rattle.mailwrong.specs.MailTrials.{cells_for, fresh, leaver, fetcher, serial_talker, waiting, leaves, asks, commands}
use Rattle.mailwrong.specs.SpoiltAvailable.{news_outlives, news_ends_early, invents_news, bus_news_missing, bus_news_stays}
use Rattle.mailwrong.specs.BrokenMail.{Breaks}
use Rattle.mailwrong.proofs.MailComputing.{computes}

-- ---- the only byte that waits is fetched

pub news_outlives_bus_falls : Breaks (news_outlives to_bus) (NewsGo to_bus)
unfolding computes
news_outlives_bus_falls law =
    true≢false
    ((law (asks to_bus) (with_news to_bus come (waiting to_bus 1 (fetcher to_bus))) tt).spent refl (rw (no_round 2 1 refl, holds (cells_for to_bus) 1 0 refl)))

pub news_outlives_loop_falls : Breaks (news_outlives to_loop) (NewsGo to_loop)
unfolding computes
news_outlives_loop_falls law =
    true≢false
    (rw (holds (cells_for to_loop) 0 1 refl)
    at ((law (asks to_loop) (with_news to_loop come (waiting to_loop 1 (fetcher to_loop))) tt).spent (rw (holds (cells_for to_loop) 0 1 refl))
    (rw (holds (cells_for to_loop) 0 1 refl, no_round 2 1 refl, holds (cells_for to_loop) 1 0 refl))))

-- ---- the first of two is fetched

pub news_ends_early_bus_falls : Breaks (news_ends_early to_bus) (NewsGo to_bus)
unfolding computes
news_ends_early_bus_falls law =
    false≢true
    ((law (asks to_bus) (with_news to_bus come (waiting to_bus 2 (fetcher to_bus))) tt).kept refl (rw (no_round 2 1 refl, holds (cells_for to_bus) 1 1 refl)))

pub news_ends_early_loop_falls : Breaks (news_ends_early to_loop) (NewsGo to_loop)
unfolding computes
news_ends_early_loop_falls law =
    false≢true
    (rw (holds (cells_for to_loop) 0 2 refl)
    at ((law (asks to_loop) (with_news to_loop come (waiting to_loop 2 (fetcher to_loop))) tt).kept (rw (holds (cells_for to_loop) 0 2 refl))
    (rw (holds (cells_for to_loop) 0 2 refl, no_round 2 1 refl, holds (cells_for to_loop) 1 1 refl))))

-- ---- what comes, and what is told

pub invents_news_falls : Breaks invents_news (NewsGo to_loop)
unfolding computes
invents_news_falls law = true≢false ((law (commands 63) fresh tt).stays refl refl refl refl refl)

pub bus_news_missing_falls : Breaks bus_news_missing (NewsGo to_bus)
unfolding computes
bus_news_missing_falls law = false≢true ((law (leaves to_bus 57) (leaver to_bus) tt).begins (rw (holds (cells_for to_bus) 0 0 refl)))

pub bus_news_stays_falls : Breaks bus_news_stays (NewsGo to_bus)
unfolding computes
bus_news_stays_falls law = true≢false ((law (asks to_bus) (with_news to_bus come (serial_talker false)) tt).asked refl)
