-- What a reader may hold us to, first: two results that a call's promise allows are equal, the reply with the room that it tells, the state and every
-- byte of both stores, refusals included. It is said of `Promised`, which the contracts of all eleven calls cite.
use Rattle.std.specs.Prelude.{ℕ, ◌≡◌, true, false, List, Result}
use Rattle.state.specs.declared.State.{State}
use Rattle.state.specs.Outcome.{Outcome}
use Rattle.answers.specs.declared.Answer.{Answer}
use Rattle.answers.specs.declared.Refusal.{Refusal}
use Rattle.answers.specs.Answers.{said_by, is_refusal}
use Rattle.bridge.specs.declared.Told.{Told}
use Rattle.bridge.specs.Calls.{Store, ask_line_byte, Call, create, show, on, World, Did, world, did, told, looked, handed, step, Promised, unmade}

-- two results are the same: the outcome, its answer and its state, or the refusal, and every byte of both stores
pub record Same {X : Type 0} (o₁ o₂ : Result X Refusal) (rx₁ rx₂ tx₁ tx₂ : List ℕ) : Type 0 where
  pub reply : o₁ ≡ o₂
  pub rx : rx₁ ≡ rx₂
  pub tx : tx₁ ≡ tx₂

pub record OneResult : Type 0 where
  -- of create and of the calls on a state that tell no room, but an ask
  pub calls : (c : Call) (w : World) (o₁ o₂ : Result Outcome Refusal) (rx₁ rx₂ tx₁ tx₂ : List ℕ) →
      Promised c w (did w.state o₁ rx₁ tx₁) → Promised c w (did w.state o₂ rx₂ tx₂) → Same o₁ o₂ rx₁ rx₂ tx₁ tx₂
  -- of a line byte and a loop frame, which tell one beside their outcome
  pub tells : (c : Call) (w : World) (t₁ t₂ : Result Told Refusal) (rx₁ rx₂ tx₁ tx₂ : List ℕ) →
      Promised c w (told w.state t₁ rx₁ tx₁) → Promised c w (told w.state t₂ rx₂ tx₂) → Same t₁ t₂ rx₁ rx₂ tx₁ tx₂
  -- an ask answers and changes nothing
  pub asked : (w : World) (a₁ a₂ : Result Answer Refusal) → Promised (on ask_line_byte) w (looked (said_by a₁) w) →
      Promised (on ask_line_byte) w (looked (said_by a₂) w) → a₁ ≡ a₂
  -- showing returns a part and changes nothing
  pub shown : (side : Store) (w : World) (x₁ x₂ : List ℕ) → Promised (show side) w (handed x₁ w) → Promised (show side) w (handed x₂ w) → x₁ ≡ x₂

-- what create promises does not rest on the state that stands where it makes one: called where any other state s stands, it answers the
-- same, and leaves the same state where it is done and s where it refuses
pub record CreatedAnywhere (m : ℕ) (rx tx : List ℕ) (s : State) (d : Did) : Type 0 where
  pub answer : (step (create m) (world s rx tx)).said ≡ d.said
  pub room : (step (create m) (world s rx tx)).room ≡ d.room
  pub made : is_refusal d.said ≡ false → (step (create m) (world s rx tx)).world ≡ d.world
  pub kept : is_refusal d.said ≡ true → (step (create m) (world s rx tx)).world ≡ world s rx tx

abbrev pub CreateTakesNoState : Type 0
CreateTakesNoState = (m : ℕ) (rx tx : List ℕ) (s : State) (d : Did) → Promised (create m) (unmade m rx tx) d → CreatedAnywhere m rx tx s d
