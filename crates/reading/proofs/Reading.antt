-- What holds of the frames and of a send, by any lawful rule.
-- Assumes nothing.
use mathlib.Core.Path.{◌≡◌, sym, ap, ◌∙◌}
use mathlib.Core.List.{List, [], ◌∷◌, ◌++◌}
use Rattle.reading.specs.Reading.{Cut, wait, skip, give, none, one, sent_frames, sent_rest, by_cut, all_frames, one_send, undecided, frames, send, left_over}
use Rattle.reading.specs.Lawful.{Lawful}
use Rattle.reading.proofs.Cuts.{skip_stays, give_stays, cut_once, at_cut, by_cuts_lem}

module _ {A F : Type 0} (cut : List A → Cut A F) (L : Lawful cut) where
  -- the frames, one cut at a time
  pub unroll : (xs : List A) → frames cut xs ≡ by_cut all_frames (frames cut) xs (cut xs)
  unroll = cut_once cut L all_frames

  -- a send, one cut at a time
  pub send_unroll : (xs : List A) → send cut xs ≡ by_cut one_send (send cut) xs (cut xs)
  send_unroll = cut_once cut L one_send

  -- what stays, one cut at a time
  pub left_unroll : (xs : List A) → left_over cut xs ≡ by_cut undecided (left_over cut) xs (cut xs)
  left_unroll = cut_once cut L undecided

  -- the same where the cut is known
  pub frames_at : (xs : List A) (c : Cut A F) → cut xs ≡ c → frames cut xs ≡ by_cut all_frames (frames cut) xs c
  frames_at = at_cut cut L all_frames

  pub send_at : (xs : List A) (c : Cut A F) → cut xs ≡ c → send cut xs ≡ by_cut one_send (send cut) xs c
  send_at = at_cut cut L one_send

  pub left_at : (xs : List A) (c : Cut A F) → cut xs ≡ c → left_over cut xs ≡ by_cut undecided (left_over cut) xs c
  left_at = at_cut cut L undecided

  -- what is decided is read at once, whatever comes after
  skip_frames : (xs r ys : List A) → cut xs ≡ skip r → frames cut (xs ++ ys) ≡ frames cut (r ++ ys)
  skip_frames xs r ys e = frames_at (xs ++ ys) (skip (r ++ ys)) (skip_stays cut L xs r ys e)

  give_frames : (xs : List A) (f : F) (r ys : List A) → cut xs ≡ give f r → frames cut (xs ++ ys) ≡ f ∷ frames cut (r ++ ys)
  give_frames xs f r ys e = frames_at (xs ++ ys) (give f (r ++ ys)) (give_stays cut L xs f r ys e)

  -- a send, and then what is read from the items that it leaves: right whatever comes after
  pub send_ahead : (xs ys : List A) → frames cut (xs ++ ys) ≡ sent_frames (send cut xs) ++ frames cut (sent_rest (send cut xs) ++ ys)
  send_ahead xs ys =
      by_cuts_lem cut L (λ xs. frames cut (xs ++ ys) ≡ sent_frames (send cut xs) ++ frames cut (sent_rest (send cut xs) ++ ys))
      (λ xs e. rw (send_at xs wait e))
      (λ xs r e ih. rw (send_at xs (skip r) e) (skip_frames xs r ys e ∙ ih))
      (λ xs f r e ih. rw (send_at xs (give f r) e) (give_frames xs f r ys e))
      xs

  -- all frames, and then what is read from what stays: right whatever comes after
  pub frames_ahead : (xs ys : List A) → frames cut (xs ++ ys) ≡ frames cut xs ++ frames cut (left_over cut xs ++ ys)
  frames_ahead xs ys =
      by_cuts_lem cut L (λ xs. frames cut (xs ++ ys) ≡ frames cut xs ++ frames cut (left_over cut xs ++ ys))
      (λ xs e. rw (frames_at xs wait e, left_at xs wait e))
      (λ xs r e ih. rw (frames_at xs (skip r) e, left_at xs (skip r) e) (skip_frames xs r ys e ∙ ih))
      (λ xs f r e ih. rw (frames_at xs (give f r) e, left_at xs (give f r) e) (give_frames xs f r ys e ∙ ap (λ l. f ∷ l) ih))
      xs

  -- what stays of all is what stays of what stayed first, and what came after
  pub left_ahead : (xs ys : List A) → left_over cut (xs ++ ys) ≡ left_over cut (left_over cut xs ++ ys)
  left_ahead xs ys =
      by_cuts_lem cut L (λ xs. left_over cut (xs ++ ys) ≡ left_over cut (left_over cut xs ++ ys))
      (λ xs e. rw (left_at xs wait e))
      (λ xs r e ih. rw (left_at xs (skip r) e) (left_at (xs ++ ys) (skip (r ++ ys)) (skip_stays cut L xs r ys e) ∙ ih))
      (λ xs f r e ih. rw (left_at xs (give f r) e) (left_at (xs ++ ys) (give f (r ++ ys)) (give_stays cut L xs f r ys e) ∙ ih))
      xs

  -- no frame is left in what stays
  pub left_none : (xs : List A) → frames cut (left_over cut xs) ≡ []
  left_none =
      by_cuts_lem cut L (λ xs. frames cut (left_over cut xs) ≡ [])
      (λ xs e. rw (left_at xs wait e) (frames_at xs wait e))
      (λ xs r e ih. rw (left_at xs (skip r) e) ih)
      (λ xs f r e ih. rw (left_at xs (give f r) e) ih)

  -- a send that finds no frame: the rule gives none
  pub send_none : (xs s : List A) → send cut xs ≡ none s → frames cut xs ≡ []
  send_none xs s =
      by_cuts_lem cut L (λ xs. send cut xs ≡ none s → frames cut xs ≡ [])
      (λ xs e n. frames_at xs wait e)
      (λ xs r e ih n. frames_at xs (skip r) e ∙ ih (sym (send_at xs (skip r) e) ∙ n))
      (λ xs f r e ih n. let z : one f r ≡ none s = sym (send_at xs (give f r) e) ∙ n in cc)
      xs

  -- what it leaves is then what stays
  pub send_none_left : (xs s : List A) → send cut xs ≡ none s → left_over cut xs ≡ s
  send_none_left xs s =
      by_cuts_lem cut L (λ xs. send cut xs ≡ none s → left_over cut xs ≡ s)
      (λ xs e n. let z : none xs ≡ none s = sym (send_at xs wait e) ∙ n in left_at xs wait e ∙ cc)
      (λ xs r e ih n. left_at xs (skip r) e ∙ ih (sym (send_at xs (skip r) e) ∙ n))
      (λ xs f r e ih n. let z : one f r ≡ none s = sym (send_at xs (give f r) e) ∙ n in cc)
      xs
