-- Mailboxes that tell the loop wrongly what came, or forget it before it is told. Assumes nothing.
use Prim.Native.Nat.{ℕ}
use native.Mathlib.Omega.{arith}
use mathlib.Core.Path.{◌≡◌, refl}
use mathlib.Core.Bool.{Bool, true, false, false≢true, true≢false}
use mathlib.Core.List.{List, [], ◌∷◌, map}
use Rattle.machine.specs.Course.{Each}
use Rattle.machine.specs.Machine.{AllFair, Obeys}
use Rattle.machine.specs.Rounds.{sent_and_back}
use Rattle.store.specs.Ring.{held}
use Rattle.answers.specs.Answers.{done, frame}
use Rattle.news.specs.News.{no_news, come}
use Rattle.mailbox.specs.Calls.{Call, World, Did}
use Rattle.maillaws.specs.Mailboxes.{mailbox}
use Rattle.maillaws.specs.Sights.{to_loop, counted, any, told}
use Rattle.maillaws.specs.NewsTold.{shows_news, news_round, StillWaits, NewsStays, NewsEnds, StatusTold}
use Rattle.refuting.specs.SmallRings.{ring}
use Rattle.refuting.specs.WrittenOut.{Turn, called, Does, seen_so, left_so}
use Rattle.refuting.proofs.Apart.{lists_differ}
use Rattle.refuting.proofs.StandsIn.{holds, no_round}
use Rattle.refuting.proofs.ByTurns.{in_between}
use Rattle.mailwrong.specs.MailTrials.{cells_for, news, reader, nine_came, takes, leaves}
use Rattle.mailwrong.specs.MailTurns.{mail, answers}
use Rattle.mailwrong.specs.SpoiltNews.{forgets_at_status, forgets_though_new, forgets_at_damage, never_forgets, wants_bit_back}
use Rattle.mailwrong.specs.SpoiltNews.{tells_live, tells_no_request, tells_other_way}
use Rattle.mailwrong.specs.BrokenMail.{Breaks}
use Rattle.mailwrong.proofs.MailComputing.{computes}

-- ---- the news stays: "9" comes into the empty way, and a status byte that shows nothing is asked for in the end

-- it comes to a talker on the loop in this phase, with this frame under way
came : ℕ → ℕ → Turn Call Did
came phase f = answers (leaves to_loop 57) done (nine_came phase f come)

-- what the law says of the status byte g that is sent after the turns ts
still_told : (B : Call → World → Did) (phase f : ℕ) (ts : List (Turn Call Did)) (g : ℕ) → Does mail B (reader phase f no_news) (came phase f ∷ ts) →
    AllFair (mailbox B) (map called ts) → Each StillWaits (seen_so mail (nine_came phase f come) ts) →
    sent_and_back news_round (seen_so mail (nine_came phase f come) ts) ≡ false →
    told to_loop (takes 5 97) (left_so mail (nine_came phase f come) ts) (B (takes 5 97) (left_so mail (nine_came phase f come) ts)).said ≡ g ∷ [] →
    Obeys (mailbox B) NewsStays → shows_news g ≡ true
unfolding computes came
still_told B phase f ts g does fair waits back sent law =
    in_between mail B NewsStays (reader phase f no_news) (came phase f) ts (takes 5 97) does tt (omega arith, fair) law
    (rw (holds (cells_for to_loop) 0 0 refl)) waits back g sent

-- status is sent as 1,65 and is damaged as 0,0; x is whether the news is there after the sending
damaged : Bool → List (Turn Call Did)
damaged x =
    answers (takes 5 97) (frame 1 65) (nine_came 3 65 (news false x false))
    ∷ answers (takes 0 0) (frame 5 65) (nine_came 1 0 (news false false false))
    ∷ []

-- the status byte 65, sent before, comes back unchanged
back : List (Turn Call Did)
back = answers (takes 0 65) (frame 5 64) (nine_came 1 0 (news true false true)) ∷ []

nine_waits : any (map counted (held (57 ∷ 53 ∷ []) (ring 2 0 1))) ≡ true
nine_waits = rw (holds (57 ∷ 53 ∷ []) 0 1 refl)

pub forgets_at_status_falls : Breaks forgets_at_status NewsStays
unfolding computes came damaged
forgets_at_status_falls law =
    false≢true
    (still_told forgets_at_status 1 0 (damaged false) 0 (rw (no_round 2 0 refl), (refl, (refl, tt))) (tt, (tt, tt)) (nine_waits, (nine_waits, tt)) refl refl law)

pub forgets_at_damage_falls : Breaks forgets_at_damage NewsStays
unfolding computes came damaged
forgets_at_damage_falls law =
    false≢true
    (still_told forgets_at_damage 1 0 (damaged true) 0 (rw (no_round 2 0 refl), (refl, (refl, tt))) (tt, (tt, tt)) (nine_waits, (nine_waits, tt)) refl refl law)

pub forgets_though_new_falls : Breaks forgets_though_new NewsStays
unfolding computes came back
forgets_though_new_falls law =
    false≢true (still_told forgets_though_new 3 65 back 64 (rw (no_round 2 0 refl), (refl, tt)) (tt, tt) (nine_waits, tt) refl refl law)

-- ---- the news ends: status is sent as 1,65 and comes back unchanged

pub never_forgets_falls : Breaks never_forgets NewsEnds
unfolding computes
never_forgets_falls law = true≢false (law (takes 5 97) [] (takes 0 65) (nine_came 1 0 come) tt tt tt 65 refl refl refl refl refl)

-- with the request of another device
pub wants_bit_back_falls : Breaks wants_bit_back NewsEnds
unfolding computes
wants_bit_back_falls law = true≢false (law (takes 5 97) [] (takes 1 65) (nine_came 1 0 come) tt tt tt 65 refl refl refl refl refl)

-- ---- the status byte

-- it was told that "9" came, and 1 is sent, where the status byte is 0
pub tells_live_falls : Breaks tells_live StatusTold
unfolding computes
tells_live_falls law =
    lists_differ _ _ refl (rw (holds (57 ∷ 53 ∷ []) 0 1 refl) at (law (takes 5 97) (nine_came 1 0 no_news) tt refl refl refl).byte)

-- 1 is sent, where it is 65
pub tells_no_request_falls : Breaks tells_no_request StatusTold
unfolding computes
tells_no_request_falls law = lists_differ _ _ refl (law (takes 5 97) (nine_came 1 0 come) tt refl refl refl).byte

-- 0 is sent, where it is 65
pub tells_other_way_falls : Breaks tells_other_way StatusTold
unfolding computes
tells_other_way_falls law = lists_differ _ _ refl (law (takes 5 97) (nine_came 1 0 come) tt refl refl refl).byte
