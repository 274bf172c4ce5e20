-- A mailbox as a product with C functions: what they are made of, and what each of them promises.
use Rattle.std.specs.Prelude.{ℕ, ◌≡◌, List, Result, Ok, Err}
use Rattle.answers.specs.declared.Refusal.{Refusal}
use Rattle.answers.specs.Answers.{said, refused, number_of, cell}
use Rattle.answers.specs.Word.{word}
use Rattle.cells.specs.Cells.{Cells}
use Rattle.boundary.specs.Product.{Product, held, Kind, creating, showing, calling}
use Rattle.boundary.specs.CCalls as boundary
use Rattle.mailstate.specs.declared.State.{State}
use Rattle.mailstate.specs.Outcome.{Outcome}
use Rattle.mailstate.specs.Sizes.{sizes_obeyed, fits}
use Rattle.mailblock.specs.Packed.{layout, packed}
use Rattle.mailblock.specs.States.{no_state}
use Rattle.mailbox.specs.Calls.{OnState, Call, create, show, on, World, world, Did, checks_on, step}
use Rattle.maillaws.specs.Mailboxes.{mailbox, ByteCall}

-- of what kind a call is
abbrev pub kind_of : Call → Kind ℕ OnState
kind_of (create a) = creating a
kind_of (show side) = showing side
kind_of (on c) = calling c

-- the first store is the way to the bus, the second the way to the loop; create is given the bus address, and no call tells any room
abbrev pub mailboxes : Product
mailboxes =
    record {
      State = State;
      layout = layout;
      no_state = no_state;
      first_ring = λ s. s.tobus.ring;
      second_ring = λ s. s.toloop.ring;
      fits = fits;
      World = World;
      world = λ h. world h.state h.first h.second;
      apart = λ w. held w.state w.tobus w.toloop;
      FirstStored = Cells;
      SecondStored = Cells;
      Side = ℕ;
      side_number = λ side. side;
      OnState = OnState;
      Call = Call;
      create = create;
      show = show;
      on = on;
      kind = kind_of;
      Did = Did;
      said_in = λ d. d.said;
      room_in = λ d. 0;
      left_in = λ d. d.world;
      step = step;
      obeyed = sizes_obeyed;
      checks_on = λ c h. checks_on c h.state;
      Fine = (mailbox step).Fine;
      Fair = ByteCall;
      given = cell;
    }

-- what every C function promises, lent these buffers: it did this
abbrev pub CPromised : Call → boundary.Lent → boundary.CDid → Type 0
CPromised c l x = boundary.CPromised mailboxes c l x

-- what a C function writes when the call that it made is over: the number, and over a block that has the one length the state after a call
-- that is not refused
abbrev pub Finished : List ℕ → Result Outcome Refusal → ℕ → List ℕ → Type 0
Finished b (Ok o) n b' = (n ≡ word (said o.answer)) × (b' ≡ packed o.state)
Finished b (Err r) n b' = (n ≡ word (refused (number_of r))) × (b' ≡ b)
