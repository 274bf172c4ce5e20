-- What is seen of a refusal and of a line byte, and of any other answer, on plain values; and that answers are told apart. Assumes nothing.
use Prim.Native.Nat.{ℕ}
use native.Mathlib.Omega.{arith}
use mathlib.Core.Path.{◌≡◌, refl, sym, ap, ◌∙◌}
use mathlib.Core.Bool.{true, false}
use Rattle.std.specs.Prelude.{Ok, Err}
use Rattle.answers.specs.declared.Answer.{Answer}
use Rattle.answers.specs.declared.Answer.TheVariants.{Done, Nothing, Byte, Frame, Cell, Lines}
use Rattle.answers.specs.declared.Refusal.{Refusal}
use Rattle.frame.specs.Frame.{control_of, data_of, made}
use Rattle.answers.specs.Answers.{Said, done, none, byte, frame, refused, part, cell, lines, said, number_of, said_by}
use Rattle.answers.specs.Answers.{is_refusal, fault_of, is_byte, byte_in}

-- an answer is no refusal, and has the number 0
pub answer_told : (a : Answer) → is_refusal (said_by (Ok a)) ≡ false
unfolding said
answer_told Done = refl
answer_told Nothing = refl
answer_told (Byte b) = refl
answer_told (Frame f) = refl
answer_told (Cell n) = refl
answer_told (Lines n) = refl

pub answer_faultless : (a : Answer) → fault_of (said_by (Ok a)) ≡ 0
unfolding said fault_of
answer_faultless Done = refl
answer_faultless Nothing = refl
answer_faultless (Byte b) = refl
answer_faultless (Frame f) = refl
answer_faultless (Cell n) = refl
answer_faultless (Lines n) = refl

-- a refusal is told, with its number, and says no line byte
module _ (r : Refusal) where
  pub refusal_told : is_refusal (said_by (Err r)) ≡ true
  refusal_told = refl

  pub refusal_numbered : fault_of (said_by (Err r)) ≡ number_of r
  unfolding fault_of
  refusal_numbered = refl

  pub refusal_no_byte : is_byte (said_by (Err r)) ≡ false
  unfolding is_byte
  refusal_no_byte = refl

-- a line byte is told, and which it is
module _ (b : ℕ) where
  pub byte_told : is_byte (said_by (Ok (Byte b))) ≡ true
  unfolding said is_byte
  byte_told = refl

  pub byte_named : byte_in (said_by (Ok (Byte b))) ≡ b
  unfolding said byte_in
  byte_named = refl

-- any other answer says none, which is told as the byte 0
pub other_no_byte : (a : Answer) → ((b : ℕ) → a ≡ Byte b → ⊥) → is_byte (said_by (Ok a)) ≡ false
unfolding said is_byte
other_no_byte Done h = refl
other_no_byte Nothing h = refl
other_no_byte (Byte b) h = absurd (h b refl)
other_no_byte (Frame f) h = refl
other_no_byte (Cell n) h = refl
other_no_byte (Lines n) h = refl

pub other_unnamed : (a : Answer) → ((b : ℕ) → a ≡ Byte b → ⊥) → byte_in (said_by (Ok a)) ≡ 0
unfolding said byte_in
other_unnamed Done h = refl
other_unnamed Nothing h = refl
other_unnamed (Byte b) h = absurd (h b refl)
other_unnamed (Frame f) h = refl
other_unnamed (Cell n) h = refl
other_unnamed (Lines n) h = refl

-- the answer of the code that says this; showing and refusals have none
abbrev unsaid : Said → Answer
unsaid done = Done
unsaid none = Nothing
unsaid (byte b) = Byte b
unsaid (frame k d) = Frame (made k d)
unsaid (refused n) = Done
unsaid (part xs) = Done
unsaid (cell n) = Cell n
unsaid (lines n) = Lines n

unsaid_said : (a : Answer) → unsaid (said a) ≡ a
unfolding said
unsaid_said Done = refl
unsaid_said Nothing = refl
unsaid_said (Byte b) = refl
unsaid_said (Frame f) = let e : made (control_of f) (data_of f) ≡ f = omega arith in ap Frame e
unsaid_said (Cell n) = refl
unsaid_said (Lines n) = refl

-- the paper's number and values tell the answers apart
pub said_one : (a b : Answer) → said a ≡ said b → a ≡ b
said_one a b e = sym (unsaid_said a) ∙ ap unsaid e ∙ unsaid_said b
