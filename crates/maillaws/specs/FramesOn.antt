-- What answers a frame that is no return and asks for nothing that waits, by its kind; and the two IDs.
use Rattle.std.specs.Prelude.{ℕ, ◌+◌, ◌≡◌, Bool, true, false, cond, ◌&&◌, ◌||◌, not, List, [], ◌∷◌, eqb, leb, get_or}
use Rattle.machine.specs.Machine.{of_calls}
use Rattle.frame.specs.Frame.{control_of, data_of, made, is_data, same_apart}
use Rattle.answers.specs.Answers.{Said, frame}
use Rattle.mailbox.specs.Calls.{loop_frame, on, World}
use Rattle.maillaws.specs.Mailboxes.{Law, Saw}
use Rattle.maillaws.specs.Sights.{taken, loop_listens, loop_active, loop_addressed}
use Rattle.maillaws.specs.NotReady.{as_frame, requested}
use Rattle.maillaws.specs.LoopRole.{assigns}

-- a data frame that is no return and that no listener keeps
abbrev pub is_others : World → ℕ → Bool
is_others w f = is_data f && not (loop_active w || loop_listens w)

-- the data byte of a ready frame that something else than itself answers: send data, send status and the two IDs to an addressed talker, and
-- not ready for data while a frame is held back
abbrev pub asks_us : World → ℕ → Bool
asks_us w d = (loop_addressed w && (leb 96 d && leb d 99)) || (eqb d 66 && w.state.hold.held)

-- Send device ID: HP82169A, carriage return, line feed
abbrev pub id_bytes : List ℕ
id_bytes = 72 ∷ 80 ∷ 56 ∷ 50 ∷ 49 ∷ 54 ∷ 57 ∷ 65 ∷ 13 ∷ 10 ∷ []

-- what follows n of them
abbrev pub id_after : World → ℕ → Said
id_after w n = cond (leb 10 n) (frame 5 64) (as_frame (requested w (made 0 (get_or id_bytes n 10))))

-- an ID is under way, its last frame is back unchanged, and was not to be the last
abbrev pub goes_on_with_id : World → ℕ → Bool
goes_on_with_id w f =
    (is_data f && same_apart f w.state.talker.under.frame)
    && ((eqb w.state.talker.role.phase 2 && not w.state.talker.under.finishing) && not (eqb w.state.source 0))

-- the frame f was taken
pub record PassedOn (f : ℕ) (s : Saw) : Type 0 where
  -- Command group: every command goes on unchanged
  pub command : control_of f ≡ 4 → s.answer ≡ as_frame f
  -- Data and end group: the data of others goes on, with the service bit where the loop's side requests service
  pub others : is_others s.before f ≡ true → s.answer ≡ as_frame (requested s.before f)
  -- Auto address: the next address goes on
  pub address : control_of f ≡ 5 → assigns s.before.state.talker.role (data_of f) ≡ true → s.answer ≡ frame 5 (data_of f + 1)
  -- Ready group: any other frame that asks nothing of us goes on unchanged
  pub ready : control_of f ≡ 5 → assigns s.before.state.talker.role (data_of f) ≡ false → asks_us s.before (data_of f) ≡ false → s.answer ≡ as_frame f
  -- Send device ID: its bytes one after the other, and then the end of sending
  pub device : f ≡ made 5 98 → loop_addressed s.before ≡ true → s.answer ≡ id_after s.before 0
  pub goeson : goes_on_with_id s.before f ≡ true → s.answer ≡ id_after s.before s.before.state.source
  -- Send accessory ID
  pub accessory : f ≡ made 5 99 → loop_addressed s.before ≡ true → s.answer ≡ as_frame (requested s.before (made 0 67))

abbrev pub FramesPass : Law
FramesPass = of_calls (λ s. (f : ℕ) → s.call ≡ on (loop_frame f) → taken s.answer ≡ true → PassedOn f s)
