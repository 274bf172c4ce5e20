-- A product whose caller keeps its state in a block of bytes and lends it two stores at every call: what its C functions are made of.
use Rattle.std.specs.Prelude.{ℕ, Bool, cond, not, List, [], ◌∷◌, length, eqb}
use Rattle.machine.specs.Machine.{Machine, narrowed}
use Rattle.answers.specs.Answers.{Said, Answered}
use Rattle.answers.specs.Refusals.{Check, check}
use Rattle.store.specs.declared.Ring.{Ring}
use Rattle.store.specs.Ring.{run}
use Rattle.codec.specs.Codec.{Codec}

-- a state, and the two stores that are lent with it
pub record Held (State : Type 0) : Type 0 where
  pub state : State
  pub first : List ℕ
  pub second : List ℕ

abbrev pub held : {State : Type 0} → State → List ℕ → List ℕ → Held State
held s first second = record { state = s; first = first; second = second }

-- a call by its kind: create is given a number and no state, show looks at a side, and every other is made on a state
pub data Kind (Side OnState : Type 0) : Type 0 where
  creating : ℕ → Kind Side OnState
  showing : Side → Kind Side OnState
  calling : OnState → Kind Side OnState

pub record Product : Type 1 where
  -- a state, how it stands in a block, and what stands for the state of a block that is none
  pub State : Type 0
  pub layout : Codec State
  pub no_state : State
  -- the ring of each store, and whether a state fits two stores of these lengths
  pub first_ring : State → Ring
  pub second_ring : State → Ring
  pub fits : State → ℕ → ℕ → Bool
  -- a world is a state and its two stores; what the types of the code give of the numbers in each
  pub World : Type 0
  pub world : Held State → World
  pub apart : World → Held State
  pub FirstStored : List ℕ → Type 0
  pub SecondStored : List ℕ → Type 0
  -- what show is told: side 0 is the first store, side 1 the second, and any other is neither
  pub Side : Type 0
  pub side_number : Side → ℕ
  -- the calls, and of what kind each is
  pub OnState : Type 0
  pub Call : Type 0
  pub create : ℕ → Call
  pub show : Side → Call
  pub on : OnState → Call
  pub kind : Call → Kind Side OnState
  -- what a call does: its answer, the room that it tells beside it, 0 where it tells none, and the world that it leaves
  pub Did : Type 0
  pub said_in : Did → Said
  pub room_in : Did → ℕ
  pub left_in : Did → World
  pub step : Call → World → Did
  -- what create tests of its number and the lengths of two stores, and the tests of a call on a state that fits its stores
  pub obeyed : ℕ → ℕ → ℕ → Bool
  pub checks_on : OnState → Held State → List Check
  -- what the types of the code give of a world and of a call
  pub Fine : World → Type 0
  pub Fair : Call → Type 0
  -- what a number of kind 2 tells: a byte of the line, or one of the bus
  pub given : ℕ → Said

module _ (P : Product) where
  -- what a call answers, the room that it tells, and what it leaves
  abbrev pub said : P.Call → P.World → Said
  said c w = P.said_in (P.step c w)

  abbrev pub room : P.Call → P.World → ℕ
  room c w = P.room_in (P.step c w)

  abbrev pub after : P.Call → P.World → P.World
  after c w = P.left_in (P.step c w)

  -- the product as a machine that tells the room beside every answer, and the same where only the answers are seen
  abbrev pub telling_of : Machine P.World P.Call Answered
  telling_of =
      record {
        Own = P.World;
        stands = λ w. w;
        answer = λ c w. record { said = said c w; room = room c w };
        after = after;
        Fine = P.Fine;
        Fair = P.Fair;
      }

  abbrev pub machine_of : Machine P.World P.Call Said
  machine_of = narrowed (λ a. a.said) telling_of

  -- the call of this kind
  abbrev pub call_of : Kind P.Side P.OnState → P.Call
  call_of (creating m) = P.create m
  call_of (showing side) = P.show side
  call_of (calling c) = P.on c

  -- the state fits the stores that are lent with it
  abbrev pub fits_held : Held P.State → Bool
  fits_held h = P.fits h.state (length h.first) (length h.second)

  -- Sizes and refusals, showing: the longest unbroken run from the oldest on, an empty part for a misfit and for a side that is neither
  unfoldable pub shown : P.Side → Held P.State → List ℕ
  shown side h =
      cond (fits_held h)
      (cond (eqb (P.side_number side) 0) (run h.first (P.first_ring h.state))
      (cond (eqb (P.side_number side) 1) (run h.second (P.second_ring h.state))
      []))
      []

  -- the checks of a call, in their order: 1 is create's and 2 is a misfit; showing has no number
  unfoldable pub checks : Kind P.Side P.OnState → Held P.State → List Check
  checks (creating m) h = check 1 (not (P.obeyed m (length h.first) (length h.second))) ∷ []
  checks (showing side) h = []
  checks (calling c) h = check 2 (not (fits_held h)) ∷ P.checks_on c h
