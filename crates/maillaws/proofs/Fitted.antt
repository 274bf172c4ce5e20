-- Every call keeps a state that fits, and the lengths of both stores. Assumes nothing.
use Prim.Native.Nat.{ℕ, ◌/◌, ◌≤◌, ◌<◌}
use native.Mathlib.Omega.{arith}
use mathlib.Core.Path.{◌≡◌, refl, sym, subst}
use mathlib.Core.Bool.{Bool, true, false, cond, ◌&&◌, ◌||◌, not, and-eq-true_iff}
use mathlib.Core.List.{List}
use lib.Dec.{eqb, leb}
use lib.ListN.{length}
use borrow.Author.Tests.{eqb-true, leb-true, ltb-false}
use Rattle.branches.proofs.Branches.{by_cond}
use Rattle.machine.specs.Machine.{Obeys}
use Rattle.answers.specs.Refusals.{first_refusal}
use Rattle.answers.specs.Answers.{done}
use Rattle.role.specs.declared.Role.{Role}
use Rattle.role.specs.declared.Order.{Order}
use Rattle.role.specs.declared.Order.TheVariants.{Deselect}
use Rattle.role.specs.Orders.{number_of, base_of, own_address, is_device_clear, listen_order, talk_order, other_order, order_of}
use Rattle.role.specs.Commands.{merely_addressed, changed_role, obeyed_role}
use Rattle.role.proofs.CommandLaws as command-laws
use Rattle.store.specs.declared.Ring.{Ring}
use Rattle.store.specs.Ring.{put_bytes}
use Rattle.store.proofs.Laws.{put_size}
use Rattle.polls.specs.declared.Response.{Response}
use Rattle.bus.specs.declared.Bus.{Bus}
use Rattle.bus.specs.Bus as bus
use Rattle.way.specs.Way.{empty_way, left_in, fetched}
use Rattle.mailstate.specs.declared.State.{State}
use Rattle.mailstate.specs.Outcome.{Outcome}
use Rattle.mailstate.specs.Sizes.{address_obeyed, store_obeyed, sizes_obeyed}
use Rattle.mailloop.specs.Messages.{frame_taken, cell_of, keeps, frame_cells}
use Rattle.mailbox.specs.BusSide as bus-side
use Rattle.mailbox.specs.Calls.{OnState, reset, loop_frame, bus_command, bus_byte, bus_fetch, bus_clear, bus_lines, Call, create, show, on}
use Rattle.mailbox.specs.Calls.{World, Did, outcome, tobus_after, toloop_after, not_refused, checks, step}
use Rattle.maillaws.specs.Mailboxes.{mailbox}
use Rattle.maillaws.specs.StateFits.{Fits, SameStores, KeepsFit, CreateMakesFit, KeepsStores}
use Rattle.maillaws.proofs.Refusal.{by_refusal, command_fitting}
use Rattle.maillaws.proofs.FitParts.{BusFits, Parts, parts, tested, start_parts, more_fits, fewer_fits, empty_fits, with_tobus, with_toloop, with_bus_lem}
use Rattle.maillaws.proofs.Fetching.{Fetching, is_none, is_given, is_status, fetching}
use Rattle.maillaws.proofs.FrameWays.{way}
use Rattle.maillaws.proofs.FrameFits.{way_parts}

-- ---- both stores keep their lengths

put_or_not : (t : Bool) (xs : List ℕ) (r : Ring) (b : ℕ) → length (cond t (put_bytes xs r b) xs) ≡ length xs
put_or_not t xs r b = by_cond (λ (x : List ℕ). length x ≡ length xs) t _ _ (λ _. put_size xs r b) (λ _. refl)

tobus_size : (c : OnState) (w : World) → length (tobus_after c w) ≡ length w.tobus
unfolding tobus_after frame_cells
tobus_size (loop_frame f) w = put_or_not (keeps w.state f) w.tobus w.state.tobus.ring (cell_of f)
tobus_size reset w = refl
tobus_size (bus_command c) w = refl
tobus_size (bus_byte b mark) w = refl
tobus_size bus_fetch w = refl
tobus_size bus_clear w = refl
tobus_size bus_lines w = refl

toloop_size : (c : OnState) (w : World) → length (toloop_after c w) ≡ length w.toloop
unfolding toloop_after bus-side.bus_cells
toloop_size (bus_byte b mark) w = put_or_not w.state.bus.role.listener w.toloop w.state.toloop.ring (bus-side.cell_with b mark)
toloop_size reset w = refl
toloop_size (loop_frame f) w = refl
toloop_size (bus_command c) w = refl
toloop_size bus_fetch w = refl
toloop_size bus_clear w = refl
toloop_size bus_lines w = refl

stores_kept : (c : Call) (w : World) → SameStores w (not_refused c w).world
unfolding not_refused
stores_kept (create a) w = record { tobus = refl; toloop = refl }
stores_kept (show side) w = record { tobus = refl; toloop = refl }
stores_kept (on c) w = record { tobus = tobus_size c w; toloop = toloop_size c w }

pub keeps_stores : Obeys (mailbox step) KeepsStores
keeps_stores c w _ = by_refusal (λ (d : Did). SameStores w d.world) c w (λ _. stores_kept c w) (λ _. record { tobus = refl; toloop = refl })

-- ---- what the bus leaves

-- no command of the bus, which is below 128, gives the address back
module _ (r : Role) (c : ℕ) (h : c ≤ 127) where
  abbrev Stays : Order → Type 0
  Stays o = (obeyed_role r o).address ≡ r.address

  address_stays : Stays (order_of 31 r c)
  unfolding order_of listen_order talk_order other_order obeyed_role changed_role merely_addressed
  address_stays =
      by_cond Stays (eqb (base_of c) 32) _ _
      (λ _. by_cond Stays (eqb (number_of c) 31) _ _ (λ _. refl) (λ _. by_cond Stays (eqb (number_of c) (own_address 31 r)) _ _ (λ _. refl) (λ _. refl)))
      (λ _. by_cond Stays (eqb (base_of c) 64) _ _
      (λ _. by_cond Stays (eqb (number_of c) (own_address 31 r) && not (eqb (number_of c) 31)) _ _ (λ _. refl) (λ _. refl))
      (λ _. by_cond Stays (is_device_clear r.listener c) _ _ (λ _. refl)
      (λ _. by_cond Stays (eqb c 144) _ _ (λ _. refl)
      (λ _. by_cond Stays (eqb c 146) _ _ (λ _. refl)
      (λ _. by_cond Stays (eqb c 147) _ _ (λ _. refl)
      (λ _. by_cond Stays (eqb c 1 && r.listener) _ _ (λ _. refl)
      (λ _. by_cond Stays (eqb c 154) _ _ (λ e. absurd (omega (arith, eqb-true c 154 e))) (λ _. refl))))))))

bus_response : (b : Bus) (c : ℕ) → b.line < 8 → (bus.response_after b c).line < 8
unfolding bus.response_after
bus_response b c h =
    by_cond (λ (x : Response). x.line < 8) (b.configuring && eqb (c / 16) 6) _ _ (λ _. omega arith)
    (λ _. by_cond (λ (x : Response). x.line < 8) (b.configuring || eqb c 21) _ _ (λ _. omega arith) (λ _. h))

commanded_fits : (b : Bus) (c : ℕ) → c ≤ 127 → BusFits b → BusFits (bus.commanded b c)
unfolding bus.commanded
commanded_fits b c h p =
    record {
      role = command-laws.command_fit 31 b.role c p.role;
      address = omega (arith, address_stays b.role c h, p.address);
      phase = command-laws.command_phase 31 b.role c;
      line = bus_response b c p.line;
    }

cleared_fits : (b : Bus) → BusFits b → BusFits (bus.interface_cleared b)
unfolding bus.interface_cleared
cleared_fits b p =
    record {
      role = command-laws.obeyed_fit b.role Deselect p.role;
      address = unfold obeyed_role changed_role merely_addressed in p.address;
      phase = command-laws.obeyed_phase b.role Deselect;
      line = bus_response b 0 p.line;
    }

module _ (w : World) (p : Parts w.tobus w.toloop w.state) where
  abbrev Q : State → Type 0
  Q = Parts w.tobus w.toloop

  fetch_parts : (o : Outcome) → Fetching w.state w.tobus o → Q o.state
  unfolding bus-side.status_given fetched
  fetch_parts o is_none = p
  fetch_parts o (is_given h) = with_tobus p _ (fewer_fits p.tobus h)
  fetch_parts o is_status =
      with_bus_lem (with_tobus p _ p.tobus) _
      (record { role = p.bus.role; address = p.bus.address; phase = p.bus.phase; line = p.bus.line })

  outcome_parts : (c : OnState) → first_refusal (checks (on c) w) ≡ 0 → Q (outcome c w).state
  unfolding outcome bus-side.bus_command bus-side.bus_byte bus-side.bus_clear bus-side.bus_lines empty_way left_in
  outcome_parts reset e =
      start_parts w.state.bus.role.address w.tobus w.toloop p.bus.address (omega (arith, p.tobus.cap)) (omega (arith, p.tobus.cap))
      (omega (arith, p.toloop.cap)) (omega (arith, p.toloop.cap))
  outcome_parts (loop_frame f) e = way_parts w.tobus w.toloop w.state p f (frame_taken w.state w.toloop f) (way w.state w.toloop f)
  outcome_parts (bus_command c) e =
      with_bus_lem (by_cond Q (bus.clears w.state.bus c) _ _ (λ _. with_toloop p _ (empty_fits p.toloop)) (λ _. p)) _
      (commanded_fits w.state.bus c (ltb-false 127 c (command_fitting c w e).1) p.bus)
  outcome_parts (bus_byte b mark) e =
      by_cond Q w.state.bus.role.listener _ _ (λ _. with_toloop p _ (more_fits p.toloop)) (λ _. p)
  outcome_parts bus_fetch e = fetch_parts _ (fetching w.state w.tobus)
  outcome_parts bus_clear e = with_bus_lem p _ (cleared_fits w.state.bus p.bus)
  outcome_parts bus_lines e = p

-- ---- every call

create_fits : (a : ℕ) (w : World) → first_refusal (checks (create a) w) ≡ 0 → Fits (not_refused (create a) w).world
unfolding checks not_refused sizes_obeyed
create_fits a w e =
    let x = (and-eq-true_iff (address_obeyed a && store_obeyed (length w.tobus)) _).0 (obeyed _ e) in
    let y = (and-eq-true_iff (address_obeyed a) _).0 x.0 in
    let u = (and-eq-true_iff (leb 1 (length w.tobus)) _).0 y.1 in
    let v = (and-eq-true_iff (leb 1 (length w.toloop)) _).0 x.1 in
    tested w.tobus w.toloop _
    (start_parts a w.tobus w.toloop (leb-true a 30 y.0) (leb-true 1 _ u.0) (leb-true _ 32768 u.1)
    (leb-true 1 _ v.0) (leb-true _ 32768 v.1))
  where
    obeyed : (t : Bool) → ◌≡◌ {A = ℕ} (cond (not t) 1 0) 0 → t ≡ true
    obeyed true h = refl
    obeyed false h = absurd (omega arith)

call_fits : (c : Call) (w : World) → Fits w → first_refusal (checks c w) ≡ 0 → Fits (not_refused c w).world
unfolding not_refused
call_fits (create a) w h e = create_fits a w e
call_fits (show side) w h e = h
call_fits (on c) w h e =
    rw (tobus_size c w, toloop_size c w) (tested w.tobus w.toloop _ (outcome_parts w (parts w.tobus w.toloop w.state h) c e))

pub keeps_fit : Obeys (mailbox step) KeepsFit
keeps_fit c w _ h = by_refusal (λ (d : Did). Fits d.world) c w (call_fits c w h) (λ _. h)

pub create_makes_fit : Obeys (mailbox step) CreateMakesFit
create_makes_fit c w _ a q =
    subst (λ (x : Call). (step x w).said ≡ done → Fits (step x w).world) (sym q)
    (by_refusal (λ (d : Did). d.said ≡ done → Fits d.world) (create a) w (λ e _. create_fits a w e)
    (λ _ z. let y : ◌≡◌ {A = ℕ} 0 1 = cc in absurd (omega arith)))
