-- The reading rule is lawful: each cut removes the oldest bytes and breaks, and what is decided stays.
-- Assumes nothing.
use Prim.Native.Nat.{ℕ, ◌-◌, ◌≤◌, ◌<◌}
use native.Mathlib.Omega.{arith}
use mathlib.Core.Path.{◌≡◌, refl, sym, ap, subst}
use mathlib.Core.Logic.{◌⊎◌, inl, inr}
use mathlib.Core.List.{List, [], ◌∷◌, ◌++◌}
use lib.ListN.{length, drop, length-drop}
use lib.Seq.{drop-append-le}
use Rattle.reading.specs.declared.Rule.{Rule}
use Rattle.reading.specs.declared.Decision.{Decision}
use Rattle.reading.specs.declared.Decision.TheVariants.{Removed, End, Data, Wait}
use Rattle.reading.specs.Reading.{skip, give}
use Rattle.reading.specs.Lawful.{Oldest, Removes, StaysDecided, Lawful}
use Rattle.reading.specs.Received.{Received, a_byte, a_break}
use Rattle.reading.specs.Steps.{decision, takes, carried, cut}
use Rattle.reading.proofs.Decided.{least, settled}
use Rattle.frame.specs.Frame.{made}

-- the k oldest are removed
dropped : (k : ℕ) (xs : List Received) → 0 < k → k ≤ length xs → Oldest xs (drop k xs)
dropped k xs p h =
    let n : length (drop k xs) ≡ length xs - k = length-drop k xs in
    let m : k ≡ length xs - length (drop k xs) = omega arith in
    record { fewer = omega arith; suffix = ap (λ j. drop j xs) m }

removes : (d : Decision) (b : ℕ) (xs : List Received) → takes d ≤ length xs → Removes xs (carried d b xs)
removes Removed b xs h = dropped (takes Removed) xs (omega arith) h
removes End b xs h = dropped (takes End) xs (omega arith) h
removes Data b xs h = dropped (takes Data) xs (omega arith) h
removes Wait b xs h = tt

stays : (d : Decision) (b : ℕ) (xs ys : List Received) → takes d ≤ length xs → StaysDecided ys (carried d b xs) (carried d b (xs ++ ys))
stays Removed b xs ys h = ap skip (drop-append-le (takes Removed) xs ys h)
stays End b xs ys h = ap (give (made 2 b)) (drop-append-le (takes End) xs ys h)
stays Data b xs ys h = ap (give (made 0 b)) (drop-append-le (takes Data) xs ys h)
stays Wait b xs ys h = tt

cut_stays : (r : Rule) (xs ys : List Received) → StaysDecided ys (cut r xs) (cut r (xs ++ ys))
unfolding cut
cut_stays r [] ys = tt
cut_stays r (a_break ∷ xs) ys = refl
cut_stays r (a_byte b ∷ xs) ys = go (settled r (a_byte b ∷ xs) ys)
  where
    all : List Received
    all = a_byte b ∷ xs

    go : (decision r all ≡ Wait) ⊎ (decision r (all ++ ys) ≡ decision r all) →
        StaysDecided ys (carried (decision r all) b all) (carried (decision r (all ++ ys)) b (all ++ ys))
    go (inl e) = subst (λ d. StaysDecided ys (carried d b all) (carried (decision r (all ++ ys)) b (all ++ ys))) (sym e) tt
    go (inr e) = subst (λ d. StaysDecided ys (carried (decision r all) b all) (carried d b (all ++ ys))) (sym e) (stays (decision r all) b all ys (least r b xs))

cut_removes : (r : Rule) (xs : List Received) → Removes xs (cut r xs)
unfolding cut
cut_removes r [] = tt
cut_removes r (a_break ∷ xs) = dropped 1 (a_break ∷ xs) (omega arith) (omega arith)
cut_removes r (a_byte b ∷ xs) = removes (decision r (a_byte b ∷ xs)) b (a_byte b ∷ xs) (least r b xs)

-- the reading rule is lawful
pub lawful : (r : Rule) → Lawful (cut r)
lawful r = record { removes = cut_removes r; stays = cut_stays r }
