-- What answers send status. Assumes nothing.
use Prim.Native.Nat.{ℕ}
use mathlib.Core.Path.{◌≡◌, refl, sym, ap, subst, ◌∙◌}
use mathlib.Core.Bool.{Bool, true, false, cond, false≢true}
use mathlib.Core.List.{List, [], ◌∷◌}
use lib.Dec.{eqb}
use Rattle.machine.specs.Machine.{Obeys, seen}
use Rattle.frame.specs.Frame.{made}
use Rattle.role.specs.declared.Ready.TheVariants.{Pass, Status}
use Rattle.role.specs.ReadyFrames.{ready_of}
use Rattle.answers.specs.Answers.{said}
use Rattle.news.specs.News.{news_byte}
use Rattle.mailstate.specs.declared.State.{State}
use Rattle.mailstate.specs.Outcome.{Outcome}
use Rattle.mailloop.specs.Sends.{serviced, send_status}
use Rattle.mailloop.specs.Messages.{passed, identities, readied, ready, frame_taken}
use Rattle.mailbox.specs.Calls.{loop_frame, on, Did, outcome, not_refused, step}
use Rattle.maillaws.specs.Mailboxes.{mailbox}
use Rattle.maillaws.specs.Sights.{taken, data_byte, loop_addressed, told}
use Rattle.maillaws.specs.NewsTold.{StatusRight, StatusTold}
use Rattle.maillaws.proofs.Refusal.{by_refusal}
use Rattle.maillaws.proofs.Small.{news_small}
use Rattle.maillaws.proofs.FrameTests.{byte_carried}

-- an addressed talker sends its status byte, and any other passes the frame on
pub status_frame : (s : State) (cells : List ℕ) → frame_taken s cells (made 5 97) ≡ cond (eqb s.talker.role.phase 1) (send_status s) (passed s (made 5 97))
unfolding frame_taken ready ready_of readied identities
status_frame s cells = go (eqb s.talker.role.phase 1)
  where
    go : (t : Bool) → readied s cells (made 5 97) (cond t Status Pass) ≡ cond t (send_status s) (passed s (made 5 97))
    go true = refl
    go false = refl

-- the byte that it sends
pub status_byte : (s : State) → data_byte (said (send_status s).answer) ≡ news_byte s.toloop.news ∷ []
unfolding send_status serviced said
status_byte s = byte_carried s.toloop.news.request (news_byte s.toloop.news) (serviced s (made 0 (news_byte s.toloop.news))) (news_small s.toloop.news) refl

pub status_told : Obeys (mailbox step) StatusTold
unfolding told not_refused outcome send_status news_byte
status_told c w h e = subst (λ d. taken (step d w).said ≡ true → loop_addressed w ≡ true → StatusRight (seen (mailbox step) d w)) (sym e) right
  where
    sent : loop_addressed w ≡ true → frame_taken w.state w.toloop (made 5 97) ≡ send_status w.state
    sent a = status_frame w.state w.toloop ∙ ap (λ (t : Bool). cond t (send_status w.state) (passed w.state (made 5 97))) a

    right : taken (step (on (loop_frame (made 5 97))) w).said ≡ true → loop_addressed w ≡ true → StatusRight (seen (mailbox step) (on (loop_frame (made 5 97))) w)
    right =
        by_refusal
        (λ (x : Did). taken x.said ≡ true → loop_addressed w ≡ true →
        StatusRight (record { call = on (loop_frame (made 5 97)); before = w; answer = x.said; after = x.world }))
        (on (loop_frame (made 5 97))) w
        (λ n t a. record {
          byte = ap (λ (o : Outcome). data_byte (said o.answer)) (sent a) ∙ status_byte w.state;
          ends = ap (λ (o : Outcome). o.state.toloop.news.request) (sent a);
        })
        (λ n t. absurd (false≢true t))
