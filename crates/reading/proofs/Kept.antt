-- What a send keeps: all but the oldest items, by any lawful rule.
-- Assumes nothing.
use Prim.Native.Nat.{◌-◌, ◌+◌, ◌≤◌}
use native.Mathlib.Omega.{arith}
use mathlib.Core.Path.{◌≡◌, ap, ◌∙◌}
use mathlib.Core.List.{List}
use lib.ListN.{length, drop}
use lib.Seq.{drop-drop}
use Rattle.reading.specs.Reading.{Cut, wait, skip, give, sent_rest, send}
use Rattle.reading.specs.Lawful.{Suffix, Oldest, Lawful}
use Rattle.reading.proofs.Cuts.{skip_oldest, give_oldest, by_cuts_lem}
use Rattle.reading.proofs.Reading.{send_at}

-- nothing is added, and what is kept is the newest
record Keeps {A : Type 0} (xs rest : List A) : Type 0 where
  most : length rest ≤ length xs
  suffix : Suffix xs rest

keeps_all : {A : Type 0} (xs : List A) → Keeps xs xs
keeps_all xs =
    let n : 0 ≡ length xs - length xs = omega arith in
    record { most = omega arith; suffix = ap (λ k. drop k xs) n }

keeps_oldest : {A : Type 0} {xs r : List A} → Oldest xs r → Keeps xs r
keeps_oldest o = record { most = omega arith; suffix = o.suffix }

keeps_more : {A : Type 0} {xs r s : List A} → Oldest xs r → Keeps r s → Keeps xs s
keeps_more {A} {xs} {r} {s} o k =
    let n : (length xs - length r) + (length r - length s) ≡ length xs - length s = omega arith in
    record {
      most = omega arith;
      suffix = k.suffix ∙ ap (drop (length r - length s)) o.suffix ∙ drop-drop (length r - length s) (length xs - length r) xs ∙ ap (λ k. drop k xs) n;
    }

module _ {A F : Type 0} (cut : List A → Cut A F) (L : Lawful cut) where
  keeps : (xs : List A) → Keeps xs (sent_rest (send cut xs))
  keeps =
      by_cuts_lem cut L (λ xs. Keeps xs (sent_rest (send cut xs)))
      (λ xs e. rw (send_at cut L xs wait e) (keeps_all xs))
      (λ xs r e ih. rw (send_at cut L xs (skip r) e) (keeps_more (skip_oldest cut L xs r e) ih))
      (λ xs f r e ih. rw (send_at cut L xs (give f r) e) (keeps_oldest (give_oldest cut L xs f r e)))

  -- a send adds nothing
  pub send_rest : (xs : List A) → length (sent_rest (send cut xs)) ≤ length xs
  send_rest xs = (keeps xs).most

  -- a send removes the oldest items only
  pub send_suffix : (xs : List A) → sent_rest (send cut xs) ≡ drop (length xs - length (sent_rest (send cut xs))) xs
  send_suffix xs = (keeps xs).suffix
