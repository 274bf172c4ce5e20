-- From what a call of the bridge gave to the promise of its C function, on plain values. Assumes nothing.
use Prim.Native.Nat.{ℕ}
use mathlib.Core.Path.{◌≡◌, refl, sym, ◌∙◌}
use mathlib.Core.List.{List}
use lib.ListN.{length}
use Rattle.std.specs.Prelude.{Result, Ok, Err, OnOk, MatchResult}
use Rattle.branches.proofs.Branches.{cond_false}
use Rattle.answers.specs.declared.Refusal.{Refusal}
use Rattle.answers.specs.Answers.{said, refused, number_of}
use Rattle.answers.specs.Word.{word, word_with}
use Rattle.answers.proofs.Answers.{answer_told}
use Rattle.state.specs.declared.State.{State}
use Rattle.state.specs.Outcome.{Outcome}
use Rattle.block.specs.Packed.{block_len, packed}
use Rattle.boundary.specs.CCalls.{state_in}
use Rattle.boundary.proofs.Closing.{may_write, written_with, create_written}
use Rattle.boundary.proofs.Words.{no_room_alone}
use Rattle.bridge.specs.Calls.{OnState, on, create, Did, did, looked, world, unmade, step}
use Rattle.raftershim.specs.Bridge.{bridges}
use Rattle.raftershim.specs.CCalls.{lent, c_did, c_step}
use Rattle.raftershim.proofs.Forming.{formed}

-- what a call did that gave this outcome and told this room
abbrev gave : Outcome → ℕ → List ℕ → List ℕ → Did
gave o k rx tx = record { said = said o.answer; room = k; world = world o.state rx tx }

-- the number that is answered and the block that is left, of an outcome with the room that is told beside it, and of a refusal
abbrev pub OfOutcome : Outcome → ℕ → ℕ → List ℕ → Type 0
OfOutcome o k n b' = (n ≡ word_with (said o.answer) k) × (b' ≡ packed o.state)

abbrev pub OfRefusal : List ℕ → Refusal → ℕ → List ℕ → Type 0
OfRefusal b r n b' = (n ≡ word (refused (number_of r))) × (b' ≡ b)

module _ (c : OnState) (b xs ys : List ℕ) (s : State) (m : s ≡ state_in bridges b) where
  -- a call that gives an outcome had a block of the right length
  pub may_give : (o : Outcome) (k : ℕ) (rx tx : List ℕ) → gave o k rx tx ≡ step (on c) (world s xs ys) → length b ≡ block_len
  may_give o k rx tx e = may_write bridges formed c b xs ys s m (gave o k rx tx) e (answer_told o.answer)

  pub may_finish : (o : Result Outcome Refusal) (rx tx : List ℕ) → did s o rx tx ≡ step (on c) (world s xs ys) → OnOk o (length b ≡ block_len)
  may_finish (Ok o) rx tx e = may_give o 0 rx tx e
  may_finish (Err r) rx tx e = tt

  -- what the C function does of an outcome, and of a refusal
  pub outcome_written : (o : Outcome) (k : ℕ) (rx tx : List ℕ) → gave o k rx tx ≡ step (on c) (world s xs ys) → (n : ℕ) (b' : List ℕ) → OfOutcome o k n b' →
      c_did n b' rx tx ≡ c_step (on c) (lent b xs ys)
  outcome_written o k rx tx e n b' t =
      written_with bridges formed c b xs ys s m (gave o k rx tx) e n b' (t.0, t.1 ∙ sym (cond_false _ _ _ (answer_told o.answer)))

  pub refusal_written : (r : Refusal) (rx tx : List ℕ) → looked (refused (number_of r)) (world s rx tx) ≡ step (on c) (world s xs ys) → (n : ℕ) (b' : List ℕ) →
      OfRefusal b r n b' → c_did n b' rx tx ≡ c_step (on c) (lent b xs ys)
  refusal_written r rx tx e n b' t =
      written_with bridges formed c b xs ys s m (looked (refused (number_of r)) (world s rx tx)) e n b' (t.0 ∙ sym (no_room_alone _), t.1)

  pub finished_written : (o : Result Outcome Refusal) (rx tx : List ℕ) → did s o rx tx ≡ step (on c) (world s xs ys) → (n : ℕ) (b' : List ℕ) →
      MatchResult o (λ x. OfOutcome x 0 n b') (λ r. OfRefusal b r n b') → c_did n b' rx tx ≡ c_step (on c) (lent b xs ys)
  finished_written (Ok o) rx tx e n b' t = outcome_written o 0 rx tx e n b' t
  finished_written (Err r) rx tx e n b' t = refusal_written r rx tx e n b' t

-- the same of create
pub created_written : (m : ℕ) (b xs ys : List ℕ) (o : Result Outcome Refusal) → length b ≡ block_len →
    did (unmade m xs ys).state o xs ys ≡ step (create m) (unmade m xs ys) → (n : ℕ) (b' : List ℕ) →
    MatchResult o (λ x. OfOutcome x 0 n b') (λ r. OfRefusal b r n b') → c_did n b' xs ys ≡ c_step (create m) (lent b xs ys)
created_written m b xs ys (Ok o) l e n b' t =
    create_written bridges formed m b xs ys _ (gave o 0 xs ys) l e refl refl n b'
    (t.0 ∙ no_room_alone _, t.1 ∙ sym (cond_false _ _ _ (answer_told o.answer)))
created_written m b xs ys (Err r) l e n b' t =
    create_written bridges formed m b xs ys _ (looked (refused (number_of r)) (unmade m xs ys)) l e refl refl n b' t
