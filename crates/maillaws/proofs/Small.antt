-- What is sent is bytes and data frames, and the answer to a poll is a byte. Assumes nothing.
use Prim.Native.Nat.{ℕ, zero, suc, ◌/◌, ◌%◌, ◌^◌, ◌<◌}
use native.Mathlib.Omega.{arith}
use mathlib.Core.Path.{◌≡◌, refl, subst}
use mathlib.Core.Bool.{Bool, true, ◌&&◌}
use mathlib.Core.List.{List, [], ◌∷◌}
use lib.Bits.{or_lt}
use lib.Dec.{eqb, ltb}
use lib.ListN.{get_or}
use borrow.Author.Tests.{ltb-true}
use Rattle.branches.proofs.Branches.{and_left, and_right, by_cond}
use Rattle.frame.specs.Frame.{made}
use Rattle.news.specs.declared.News.{News}
use Rattle.news.specs.News.{news_byte}
use Rattle.polls.specs.declared.Response.{Response}
use Rattle.polls.specs.Polls.{answers, answer_bits, joined}
use Rattle.polls.proofs.Bits.{weight_small, joined_met}
use Rattle.mailloop.specs.Sends.{frame_of, device_id, id_byte}

pub news_small : (n : News) → news_byte n < 256
unfolding news_byte
news_small n =
    by_cond (λ (x : ℕ). x < 256) n.request _ _ (λ _. by_cond (λ (x : ℕ). x < 256) n.available 65 64 (λ _. omega arith) (λ _. omega arith))
    (λ _. by_cond (λ (x : ℕ). x < 256) n.available 1 0 (λ _. omega arith) (λ _. omega arith))

-- all of these are bytes, and so is the byte of an ID
abbrev bytes : List ℕ → Bool
bytes [] = true
bytes (x ∷ xs) = ltb x 256 && bytes xs

at_small : (xs : List ℕ) (n : ℕ) → bytes xs ≡ true → get_or xs n 10 < 256
at_small [] n e = omega arith
at_small (x ∷ xs) zero e = ltb-true x 256 (and_left (ltb x 256) (bytes xs) e)
at_small (x ∷ xs) (suc n) e = at_small xs n (and_right (ltb x 256) (bytes xs) e)

pub id_small : (n : ℕ) → id_byte n < 256
unfolding id_byte
id_small n = at_small device_id n refl

pub frame_small : (c : ℕ) → frame_of c < 1024
frame_small c = by_cond (λ (k : ℕ). made k (c % 256) < 1024) (eqb (c / 256 % 2) 1) 2 0 (λ _. omega arith) (λ _. omega arith)

-- the bit of a line, and a byte joined with it
pub bits_small : (p : Response) (requested : Bool) → p.line < 8 → answer_bits p requested < 256
unfolding answer_bits
bits_small p requested h = by_cond (λ (n : ℕ). n < 256) (answers p requested) (2 ^ p.line) 0 (λ _. weight_small p.line h) (λ _. omega arith)

pub joined_small : (p : Response) (requested : Bool) (d : ℕ) → p.line < 8 → d < 256 → joined p requested d < 256
joined_small p requested d h k = subst (λ (n : ℕ). n < 256) (joined_met p requested d) (or_lt 8 d (answer_bits p requested) k (bits_small p requested h))
