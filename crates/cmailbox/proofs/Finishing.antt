-- From what a call gave, and what was written after it, to the promise of its C function. Assumes nothing.
use Prim.{tt}
use Prim.Native.Nat.{ℕ}
use mathlib.Core.Path.{◌≡◌, refl, sym, ◌∙◌}
use mathlib.Core.List.{List}
use lib.ListN.{length}
use Rattle.std.specs.Prelude.{Result, Ok, Err, OnOk}
use Rattle.branches.proofs.Branches.{cond_false}
use Rattle.answers.specs.declared.Refusal.{Refusal}
use Rattle.answers.specs.Answers.{said, refused}
use Rattle.answers.specs.Word.{word}
use Rattle.answers.proofs.Answers.{answer_told}
use Rattle.boundary.specs.CCalls.{lent, c_did, c_step, state_in, block_after}
use Rattle.boundary.proofs.Closing.{may_write, written, wrong_length, create_written}
use Rattle.mailstate.specs.declared.State.{State}
use Rattle.mailstate.specs.Outcome.{Outcome}
use Rattle.mailblock.specs.Packed.{packed, block_len}
use Rattle.mailbox.specs.Calls.{OnState, create, on, world, did, step, unmade}
use Rattle.cmailbox.specs.Mailbox.{mailboxes, Finished}
use Rattle.cmailbox.proofs.Forming.{formed}

-- the state after a call that is not refused is written
packed_after : (b : List ℕ) (o : Outcome) (b' : List ℕ) → b' ≡ packed o.state → b' ≡ block_after mailboxes b (said o.answer) o.state
packed_after b o b' e = e ∙ sym (cond_false _ _ _ (answer_told o.answer))

module _ (c : OnState) (b xs ys xs' ys' : List ℕ) (s : State) (m : s ≡ state_in mailboxes b) where
  -- what is not refused had a block of the right length
  pub may_finish : (o : Result Outcome Refusal) → did s o xs' ys' ≡ step (on c) (world s xs ys) → OnOk o (length b ≡ block_len)
  may_finish (Ok x) e = may_write mailboxes formed c b xs ys s m (did s (Ok x) xs' ys') e (answer_told x.answer)
  may_finish (Err r) e = tt

  pub finished_met : (o : Result Outcome Refusal) → did s o xs' ys' ≡ step (on c) (world s xs ys) → (n : ℕ) (b' : List ℕ) → Finished b o n b' →
      c_did n b' xs' ys' ≡ c_step mailboxes (on c) (lent b xs ys)
  finished_met (Ok x) e n b' (p, q) = written mailboxes formed c b xs ys s m (did s (Ok x) xs' ys') e n b' (p, packed_after b x b' q) refl
  finished_met (Err r) e n b' t = written mailboxes formed c b xs ys s m (did s (Err r) xs' ys') e n b' t refl

-- create, for a block of another length and for one of that length
pub unmade_met : (a : ℕ) (b xs ys : List ℕ) (n : ℕ) → (length b ≡ block_len → ⊥) → n ≡ word (refused 1) → c_did n b xs ys ≡ c_step mailboxes (create a) (lent b xs ys)
unmade_met = wrong_length mailboxes formed

pub made_met : (a : ℕ) (b xs ys : List ℕ) → length b ≡ block_len → (o : Result Outcome Refusal) →
    did (unmade xs ys).state o xs ys ≡ step (create a) (unmade xs ys) → (n : ℕ) (b' : List ℕ) → Finished b o n b' →
    c_did n b' xs ys ≡ c_step mailboxes (create a) (lent b xs ys)
made_met a b xs ys l (Ok x) e n b' (p, q) =
    create_written mailboxes formed a b xs ys (unmade xs ys).state (did (unmade xs ys).state (Ok x) xs ys) l e refl refl n b' (p, packed_after b x b' q)
made_met a b xs ys l (Err r) e n b' t =
    create_written mailboxes formed a b xs ys (unmade xs ys).state (did (unmade xs ys).state (Err r) xs ys) l e refl refl n b' t
