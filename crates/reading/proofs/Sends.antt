-- A send by the reading rule, one decision at a time: the laws of a loop over a store of cells.
-- Assumes nothing.
use Prim.Native.Nat.{ℕ, ◌+◌, ◌-◌, ◌%◌, ◌<◌}
use native.Mathlib.Omega.{arith}
use mathlib.Core.Path.{◌≡◌, refl, sym, ap, subst, ◌∙◌}
use mathlib.Core.Bool.{cond}
use mathlib.Core.List.{List, [], ◌∷◌, map}
use mathlib.Core.Logic.{⊎_elim}
use lib.ListN.{length, drop, get_or}
use Rattle.frame.specs.Frame.{made}
use Rattle.reading.specs.declared.Rule.{Rule}
use Rattle.reading.specs.declared.Item.{Item}
use Rattle.reading.specs.declared.Decision.{Decision}
use Rattle.reading.specs.declared.Decision.TheVariants.{Removed, End, Data, Wait}
use Rattle.reading.specs.Reading.{none, one, wait, skip, by_cut, one_send, send}
use Rattle.reading.specs.Received.{Received, a_break, item_of, received, received_in, bytes_in}
use Rattle.reading.specs.Steps.{decision, takes, carried, cut}
use Rattle.reading.proofs.Reading.{send_at}
use Rattle.reading.proofs.Lawful.{lawful}
use Rattle.reading.proofs.Decided.{takes_bytes}
use Rattle.reading.proofs.Received.{bytes_received, newest_part, map_drop}

module _ (r : Rule) where
  -- a send passes over a break that no byte stands before
  pub send_past : (xs : List Received) → send (cut r) (a_break ∷ xs) ≡ send (cut r) xs
  send_past xs = send_at (cut r) (lawful r) (a_break ∷ xs) (skip xs) (unfold cut in refl)

  -- also where it is the break of an item that is gone
  pub send_part : (xs : List Item) (n : ℕ) → send (cut r) (drop n (received xs)) ≡ send (cut r) (received (drop (length xs - bytes_in (drop n (received xs))) xs))
  send_part xs n =
      let k : ℕ = length xs - bytes_in (drop n (received xs)) in
      ⊎_elim (λ p. ap (send (cut r)) p) (λ p. ap (send (cut r)) p ∙ send_past (received (drop k xs))) (newest_part xs n)

  -- the bytes that a decision takes, and those that it leaves
  takes_items : (xs : List Item) → takes (decision r (received xs)) + bytes_in (drop (takes (decision r (received xs))) (received xs)) ≡ length xs
  unfolding received bytes_in
  takes_items [] = refl
  takes_items (x ∷ xs) = takes_bytes r x.byte (cond x.broken (a_break ∷ received xs) (received xs)) ∙ bytes_received (x ∷ xs)

  -- the same where the decision is known
  pub takes_known : (xs : List Item) (d : Decision) → decision r (received xs) ≡ d → takes d + bytes_in (drop (takes d) (received xs)) ≡ length xs
  takes_known xs d e = subst (λ d. takes d + bytes_in (drop (takes d) (received xs)) ≡ length xs) e (takes_items xs)

  -- a send, by the decision on some cells
  send_decided : (x : ℕ) (xs : List ℕ) (d : Decision) → decision r (received_in (x ∷ xs)) ≡ d →
      send (cut r) (received_in (x ∷ xs)) ≡ by_cut one_send (send (cut r)) (received_in (x ∷ xs)) (carried d (x % 256) (received_in (x ∷ xs)))
  unfolding cut received
  send_decided x xs d e =
      send_at (cut r) (lawful r) (received_in (x ∷ xs)) (carried d (x % 256) (received_in (x ∷ xs))) (ap (λ d. carried d (x % 256) (received_in (x ∷ xs))) e)

  -- with nothing held nothing is taken
  none_takes : {A : Type 0} (d : Decision) → decision r (received_in []) ≡ d → 0 < takes d → A
  none_takes d e h = absurd (omega (arith, takes_known [] d e))

  -- "removed, nothing sent"
  pub send_removed : (xs : List ℕ) → decision r (received_in xs) ≡ Removed → send (cut r) (received_in xs) ≡ send (cut r) (received_in (drop 2 xs))
  send_removed [] e = none_takes Removed e (omega arith)
  send_removed (x ∷ xs) e =
      let items : List Item = map item_of (x ∷ xs) in
      let n : length items - bytes_in (drop 2 (received items)) ≡ 2 = omega (arith, takes_known items Removed e) in
      send_decided x xs Removed e ∙ send_part items 2 ∙ ap (λ (k : ℕ). send (cut r) (received (drop k items))) n
      ∙ ap (λ (l : List Item). send (cut r) (received l)) (sym (map_drop 2 (x ∷ xs)))

  -- step 2
  pub send_end : (xs : List ℕ) → decision r (received_in xs) ≡ End → send (cut r) (received_in xs) ≡ one (made 2 (get_or xs 0 0 % 256)) (drop 3 (received_in xs))
  send_end [] e = none_takes End e (omega arith)
  send_end (x ∷ xs) e = send_decided x xs End e

  -- step 4
  pub send_data : (xs : List ℕ) → decision r (received_in xs) ≡ Data → send (cut r) (received_in xs) ≡ one (made 0 (get_or xs 0 0 % 256)) (drop 1 (received_in xs))
  send_data [] e = none_takes Data e (omega arith)
  send_data (x ∷ xs) e = send_decided x xs Data e

  -- "undecided, wait"
  pub send_wait : (xs : List ℕ) → decision r (received_in xs) ≡ Wait → send (cut r) (received_in xs) ≡ none (received_in xs)
  send_wait [] e = send_at (cut r) (lawful r) (received_in []) wait (unfold cut received in refl)
  send_wait (x ∷ xs) e = send_decided x xs Wait e
