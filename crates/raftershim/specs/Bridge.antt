-- The bridge as a product with C functions: what they are made of.
use Rattle.std.specs.Prelude.{ℕ}
use Rattle.answers.specs.Answers.{byte}
use Rattle.store.specs.Bytes.{Bytes}
use Rattle.cells.specs.Cells.{Cells}
use Rattle.boundary.specs.Product.{Product, held, Kind, creating, showing, calling}
use Rattle.state.specs.declared.State.{State}
use Rattle.state.specs.Sizes.{sizes_obeyed, fits}
use Rattle.block.specs.Packed.{layout}
use Rattle.block.specs.States.{no_state}
use Rattle.bridge.specs.Calls.{OnState, Store, receive, transmit, Call, create, show, on, World, world, Did, checks_on, step}
use Rattle.laws.specs.Bridges.{bridge, ByteCall}

-- of what kind a call is
abbrev pub call_kind : Call → Kind Store OnState
call_kind (create m) = creating m
call_kind (show side) = showing side
call_kind (on c) = calling c

-- the receive store is the first, the transmit store the second
abbrev pub store_number : Store → ℕ
store_number receive = 0
store_number transmit = 1

-- the first store has cells and the second bytes; create is given the margin
abbrev pub bridges : Product
bridges =
    record {
      State = State;
      layout = layout;
      no_state = no_state;
      first_ring = λ s. s.rx;
      second_ring = λ s. s.tx;
      fits = fits;
      World = World;
      world = λ h. world h.state h.first h.second;
      apart = λ w. held w.state w.rx w.tx;
      FirstStored = Cells;
      SecondStored = Bytes;
      Side = Store;
      side_number = store_number;
      OnState = OnState;
      Call = Call;
      create = create;
      show = show;
      on = on;
      kind = call_kind;
      Did = Did;
      said_in = λ d. d.said;
      room_in = λ d. d.room;
      left_in = λ d. d.world;
      step = step;
      obeyed = sizes_obeyed;
      checks_on = λ c h. checks_on c (world h.state h.first h.second);
      Fine = (bridge step).Fine;
      Fair = ByteCall;
      given = byte;
    }
