-- Ways to change one thing of our bridge and leave the rest as it is.
use Rattle.std.specs.Prelude.{ℕ, Bool, true, false, cond, ◌&&◌, eqb}
use Rattle.answers.specs.Refusals.{first_refusal}
use Rattle.frame.specs.Frame.{control_of, data_of}
use Rattle.role.specs.declared.Role.{Role}
use Rattle.talker.specs.declared.Under.{Under}
use Rattle.state.specs.declared.State.{State}
use Rattle.answers.specs.Answers.{Said, is_refusal}
use Rattle.state.specs.State.{with_talker}
use Rattle.bridge.specs.Calls.{Call, create, show, on, World, world, Did, checks, not_refused, step, refusal}
use Rattle.laws.specs.Observers.{on_frame}

-- the calls that the test finds are answered by another bridge
abbrev pub instead : (Call → World → Bool) → (Call → World → Did) → Call → World → Did
instead test other c w = cond (test c w) (other c w) (step c w)

-- a call that ours does not refuse leaves another world; the change is given the call and the worlds before and after it
abbrev pub leaving : (Call → World → World → World) → Call → World → Did
leaving change c w =
    record {
      said = (step c w).said;
      room = (step c w).room;
      world = cond (is_refusal (step c w).said) (step c w).world (change c w (step c w).world);
    }

-- the same, where no byte of a store is changed
abbrev pub afterwards : (Call → World → State → State) → Call → World → Did
afterwards change = leaving (λ c w v. world (change c w v.state) v.rx v.tx)

-- a call that ours does not refuse has another answer
abbrev pub answering : (Call → World → Said → Said) → Call → World → Did
answering change c w =
    record {
      said = cond (is_refusal (step c w).said) (step c w).said (change c w (step c w).said);
      room = (step c w).room;
      world = (step c w).world;
    }

-- the same, where a frame is taken that the test finds
abbrev pub answering_frame : (World → ℕ → Bool) → (World → ℕ → Said → Said) → Call → World → Did
answering_frame test change = answering (λ c w a. on_frame (λ f. cond (test w f) (change w f a) a) a c)

-- refuses with this number
abbrev pub refusing : ℕ → Call → World → Did
refusing n c w = refusal n w

-- never gives the refusal n: does what the call asks for
abbrev pub heedless : ℕ → Call → World → Did
heedless n = instead (λ c w. eqb (first_refusal (checks c w)) n) not_refused

-- the state with this margin
abbrev pub with_margin : State → ℕ → State
with_margin s m =
    record {
      margin = m;
      regs = s.regs;
      talker = s.talker;
      remote = s.remote;
      rx = s.rx;
      tx = s.tx;
      line = s.line;
      notes = s.notes;
      counts = s.counts;
    }

-- the state with this role, and with this frame under way
abbrev pub with_role : State → Role → State
with_role s r = with_talker s (record { role = r; under = s.talker.under })

abbrev pub with_under : State → Under → State
with_under s u = with_talker s (record { role = s.talker.role; under = u })

-- ---- calls

abbrev pub is_command : ℕ → Call → Bool
is_command d = on_frame (λ f. eqb (control_of f) 4 && eqb (data_of f) d) false

abbrev pub is_create : Call → Bool
is_create (create m) = true
is_create (show side) = false
is_create (on c) = false

abbrev pub is_show : Call → Bool
is_show (show side) = true
is_show (create m) = false
is_show (on c) = false
