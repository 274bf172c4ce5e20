-- A break is a wall: what stands before it is read as if no more would follow, and what stands behind it as if nothing had been.
use Rattle.std.specs.Prelude.{ℕ, ◌≡◌, List, [], ◌∷◌, ◌++◌}
use Rattle.frame.specs.Frame.{made}
use Rattle.reading.specs.Reading.{Cut, frames, left_over}
use Rattle.reading.specs.Lawful.{StaysDecided}
use Rattle.reading.specs.Received.{Received, a_byte, a_break, as_held}

-- a data frame for each byte
unfoldable pub data_frames : List Received → List ℕ
data_frames [] = []
data_frames (a_byte b ∷ xs) = made 0 b ∷ data_frames xs
data_frames (a_break ∷ xs) = data_frames xs

-- of a rule over bytes and breaks
pub record Walled (cut : List Received → Cut Received ℕ) : Type 0 where
  -- what is decided stays decided when a break comes, as whatever comes: it is a case of what makes a rule lawful
  pub decided : (xs : List Received) → StaysDecided (a_break ∷ []) (cut xs) (cut (xs ++ (a_break ∷ [])))
  -- each byte that is undecided at a break becomes a data frame, and nothing is left
  pub before : (xs : List Received) → frames cut (xs ++ (a_break ∷ [])) ≡ frames cut xs ++ data_frames (left_over cut xs)
  pub left : (xs : List Received) → left_over cut (xs ++ (a_break ∷ [])) ≡ []
  -- what comes behind a break is read by itself
  pub behind : (xs ys : List Received) → frames cut (xs ++ (a_break ∷ ys)) ≡ frames cut (xs ++ (a_break ∷ [])) ++ frames cut ys
  pub rest : (xs ys : List Received) → left_over cut (xs ++ (a_break ∷ ys)) ≡ left_over cut ys
  -- where nothing is undecided a break changes no frame, whatever comes after it
  pub idle : (xs ys : List Received) → left_over cut xs ≡ [] → frames cut (xs ++ (a_break ∷ ys)) ≡ frames cut (xs ++ ys)
  -- several at one place are one, and one before the first byte is none
  pub twice : (xs ys : List Received) → frames cut (xs ++ (a_break ∷ a_break ∷ ys)) ≡ frames cut (xs ++ (a_break ∷ ys))
  pub first : (ys : List Received) → frames cut (a_break ∷ ys) ≡ frames cut ys
  -- so that what is read is what cells can hold, whatever comes after
  pub once : (xs ys : List Received) → frames cut (as_held xs ++ ys) ≡ frames cut (xs ++ ys)
