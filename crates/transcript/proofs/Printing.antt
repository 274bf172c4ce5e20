-- What the library prints of a number, line bytes one behind the other, and the run behind its first line. Assumes nothing.
use Rattle.std.proofs.Common.{◌≡◌, sym, Option, Some, None, ℕ, ◌+◌, ◌/◌, ◌≤◌, ◌<◌, List, [], ◌∷◌, ◌++◌, length, get_or, drop, ap, ◌∙◌, arith, add-one, drop-cons, decimal as printed, drop_of_length-le}
use Rattle.std.proofs.lemmas.Fmt.{decimal_digit, decimal_step, length-decimal-le}
use Rattle.std.specs.Option.{option_map_or}
use Rattle.state.specs.declared.State.{State}
use Rattle.bridge.specs.Calls.{world}
use Rattle.transcript.specs.declared.Sections.{Sections}
use Rattle.transcript.specs.Text.{digit, decimal, bytes_text, first_line, refused_text}
use Rattle.transcript.specs.Transcript.{Set, registers_set, set_text, rest_text, run_text}

-- a number below 1,000 is printed in at most three digits
pub short_number : (n : ℕ) → n < 1000 → length (printed n) ≤ 3
short_number n h = length-decimal-le 3 n (omega arith) (omega arith) (omega arith)

one_digit : (n : ℕ) → n < 10 → printed n ≡ digit n ∷ []
one_digit n h =
    let e : 48 + n ≡ digit n = omega arith in
    decimal_digit n h ∙ ap (λ (d : ℕ). d ∷ []) e

two_digits : (n : ℕ) → 10 ≤ n → n < 100 → printed n ≡ digit (n / 10) ∷ digit n ∷ []
two_digits n l h = decimal_step n l (omega arith) ∙ ap (λ (ds : List ℕ). ds ++ (digit n ∷ [])) (one_digit (n / 10) (omega arith))

pub three_digits : (n : ℕ) → n < 1000 → printed n ≡ decimal n
unfolding decimal
three_digits n h = grind (arith, one_digit n, two_digits n, decimal_step n, two_digits (n / 10))

-- the next of the line bytes, and none behind the last
pub bytes_step : (k : ℕ) (xs : List ℕ) → k < length xs → bytes_text (drop k xs) ≡ ((32 ∷ []) ++ decimal (get_or xs k 0)) ++ bytes_text (drop (k + 1) xs)
unfolding bytes_text
bytes_step k xs h = rw (add-one, drop-cons xs k 0)

pub bytes_none : (k : ℕ) (xs : List ℕ) → length xs ≤ k → bytes_text (drop k xs) ≡ []
unfolding bytes_text
bytes_none k xs h = rw (drop_of_length-le xs h)

-- ---- the run, behind its first line

module _ (x : List ℕ) (p : Sections) (rx tx : List ℕ) {page page₁ page₂ : List ℕ} (empty : page ≡ []) (head : page₁ ≡ page ++ first_line) where
  pub run_goes : (s : State) → registers_set x p rx tx ≡ record { state = s; refusal = None } → page₂ ≡ page₁ ++ rest_text x p (world s rx tx) →
      page₂ ≡ run_text x p rx tx
  unfolding run_text set_text
  run_goes s e f =
      f ∙ ap (λ (front : List ℕ). front ++ rest_text x p (world s rx tx)) (head ∙ ap (λ (front : List ℕ). front ++ first_line) empty)
      ∙ ap (λ (g : Set). first_line ++ set_text x p g rx tx) (sym e)

  pub run_stops : (n : ℕ) → (registers_set x p rx tx).refusal ≡ Some n → page₂ ≡ page₁ ++ refused_text n → page₂ ≡ run_text x p rx tx
  unfolding run_text set_text
  run_stops n e f =
      let told : set_text x p (registers_set x p rx tx) rx tx ≡ refused_text n =
      ap (λ (r : Option ℕ). option_map_or refused_text r (rest_text x p (world (registers_set x p rx tx).state rx tx))) e in
      f ∙ ap (λ (front : List ℕ). front ++ refused_text n) (head ∙ ap (λ (front : List ℕ). front ++ first_line) empty)
      ∙ ap (λ (bs : List ℕ). first_line ++ bs) (sym told)
