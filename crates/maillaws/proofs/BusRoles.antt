-- How the side of the bus goes, over every call. Assumes nothing.
use Prim.Native.Nat.{ℕ, ◌+◌, ◌/◌, ◌%◌, ◌≤◌}
use native.Mathlib.Omega.{arith}
use mathlib.Core.Path.{◌≡◌, refl, sym, ap, ◌∙◌}
use mathlib.Core.Bool.{Bool, true, false, cond, ◌&&◌, ◌||◌, not, and-true, and-false, or-true, or-false, true≢false}
use mathlib.Core.List.{List}
use lib.Dec.{eqb, leb, ltb}
use borrow.Author.Tests.{eqb-true, eq-eqb, ne_eqb, le-leb, lt-leb, leb-true, lt-ltb, ltb-true, ltb-false}
use Rattle.branches.proofs.Branches.{by_cond, and_left, and_right, same_test}
use Rattle.machine.specs.Machine.{Obeys}
use Rattle.answers.specs.Refusals.{first_refusal}
use Rattle.answers.specs.Answers.{said}
use Rattle.role.specs.Orders.{own_address}
use Rattle.role.specs.Commands.{merely_addressed, changed_role, obeyed_role, after_command}
use Rattle.role.proofs.OrderLaws.{own_31}
use Rattle.role.proofs.ByNumbers.{calls, role_by, nobodys, role_right}
use Rattle.bus.specs.declared.Bus.{Bus}
use Rattle.bus.specs.declared.Fetch.{Fetch}
use Rattle.bus.specs.Bus.{response_of, response_after, serial_after, commanded, interface_cleared, fetch_of}
use Rattle.polls.specs.declared.Response.{Response}
use Rattle.polls.specs.Polls.{no_response, bus_response}
use Rattle.mailstate.specs.declared.State.{State}
use Rattle.mailstate.specs.Outcome.{Outcome}
use Rattle.mailloop.specs.Sends.{ended, sends, send_waiting, send_id, send_accessory, send_status}
use Rattle.mailloop.specs.Messages.{released, identify, frame_taken}
use Rattle.mailbox.specs.BusSide as bus-side
use Rattle.mailbox.specs.Calls.{reset, loop_frame, bus_command, bus_byte, bus_fetch, bus_clear, bus_lines, Call, create, show, on}
use Rattle.mailbox.specs.Calls.{World, Did, checks, outcome, not_refused, step}
use Rattle.maillaws.specs.Mailboxes.{mailbox}
use Rattle.maillaws.specs.Sights.{taken, restarts}
use Rattle.maillaws.specs.BusRole.{commanded_bus, cleared_bus, fetched_bus, after_call, BusRoleGoes}
use Rattle.maillaws.proofs.Refusal.{by_refusal, command_fitting}
use Rattle.maillaws.proofs.FrameTests.{either_same}
use Rattle.maillaws.proofs.FitParts.{BusFits, parts}
use Rattle.maillaws.proofs.FrameWays.{Way, way}
use Rattle.maillaws.proofs.FrameWays.{is_next, is_next_id, is_back, is_last, is_damaged, is_held, is_heard, is_passed, is_cleared, is_obeyed}
use Rattle.maillaws.proofs.FrameWays.{is_released, is_assigned, is_send_asked, is_told, is_finishing, is_id_asked, is_accessory, is_ready, is_identified}

-- ---- a command

module _ (b : Bus) (c : ℕ) where
  -- 96 to 111
  secondary : eqb (c / 16) 6 ≡ (leb 96 c && ltb c 112)
  secondary =
      same_test (eqb (c / 16) 6) (leb 96 c && ltb c 112)
      (λ h. let k = eqb-true (c / 16) 6 h in λ i. le-leb 96 c (omega arith) i && lt-ltb c 112 (omega arith) i)
      (λ h. eq-eqb (c / 16) 6 (omega (arith, leb-true 96 c (and_left _ _ h), ltb-true c 112 (and_right (leb 96 c) _ h))))

  commanded_role : BusFits b → c ≤ 127 → after_command 31 b.role c ≡ (commanded_bus b c).role
  unfolding commanded_bus
  commanded_role p h =
      role_right 31 (omega arith) b.role (omega (arith, p.address)) c ∙ (λ i. role_by (ours 32 i) (ours 64 i) b.role c)
      ∙ simp (ne_eqb c 144 (λ e. omega arith), ne_eqb c 154 (λ e. omega arith), lt-leb 2 b.role.phase (omega (arith, p.phase)), or-false)
    where
      -- no address of the bus is 31
      ours : (k : ℕ) → calls k (own_address 31 b.role) c ≡ eqb c (k + b.role.address)
      ours k =
          ap (λ (a : ℕ). calls k a c) (own_31 b.role) ∙ nobodys k b.role.address c
          ∙ (λ i. eqb c (k + b.role.address) && not (ne_eqb b.role.address 31 (λ e. omega (arith, p.address)) i)) ∙ and-true _

  -- whether a poll is answered and on which line, by whether a PPC waits, whether the command is PPE and whether it is PPU
  abbrev Polled : Bool → Bool → Bool → Response → Type 0
  Polled w e u p =
      (p.on ≡ cond (u || (w && not (w && e))) false ((w && e) || b.polled))
      × (p.line ≡ cond (u || (w && not (w && e))) 0 (cond (w && e) (c % 8) b.line))

  polled_by : (w e u : Bool) → (e ≡ true → u ≡ false) → Polled w e u (cond (w && e) (bus_response c) (cond (w || u) no_response (response_of b)))
  polled_by true true true h = absurd (true≢false (h refl))
  polled_by true true false h = (refl, refl)
  polled_by true false true h = (refl, refl)
  polled_by true false false h = (refl, refl)
  polled_by false e true h = (refl, refl)
  polled_by false e false h = (refl, refl)

  commanded_polled : Polled b.configuring (leb 96 c && ltb c 112) (eqb c 21) (response_after b c)
  unfolding response_after
  commanded_polled =
      rw secondary
      (polled_by b.configuring (leb 96 c && ltb c 112) (eqb c 21) (λ h. ne_eqb c 21 (λ e. omega (arith, leb-true 96 c (and_left _ (ltb c 112) h)))))

  commanded_right : BusFits b → c ≤ 127 → commanded b c ≡ commanded_bus b c
  unfolding commanded commanded_bus serial_after
  commanded_right p h =
      λ i. record {
        role = commanded_role p h i;
        serial = serial_after b.serial c;
        read = false;
        configuring = eqb c 5 && b.role.listener;
        polled = commanded_polled.0 i;
        line = commanded_polled.1 i;
      }

-- ---- an interface clear, and a fetch

cleared_right : (b : Bus) → interface_cleared b ≡ cleared_bus b
unfolding interface_cleared cleared_bus response_after obeyed_role changed_role merely_addressed
cleared_right b = go b.configuring
  where
    cleared_to : Response → Bus
    cleared_to p =
        record {
          role = record { address = b.role.address; phase = 0; listener = false };
          serial = false;
          read = false;
          configuring = false;
          polled = p.on;
          line = p.line;
        }

    go : (w : Bool) →
        cleared_to (cond (w && false) (bus_response 0) (cond (w || false) no_response (response_of b))) ≡
        cleared_to (record { on = cond w false b.polled; line = cond w 0 b.line; sense = false })
    go true = refl
    go false = refl

module _ (s : State) (cells : List ℕ) where
  abbrev Fetched : Outcome → Type 0
  Fetched o = o.state.bus ≡ cond (taken (said o.answer)) (fetched_bus s.bus (said o.answer)) s.bus

  fetched_right : Fetched (bus-side.bus_fetch s cells)
  unfolding bus-side.bus_fetch bus-side.given bus-side.data_given bus-side.status_given fetch_of fetched_bus said
  fetched_right =
      by_cond F (eqb s.bus.role.phase 0) _ _ (λ _. stays false (and-false s.bus.serial))
      (λ _. by_cond F (s.bus.serial && s.bus.read) _ _ (λ _. stays false (and-false s.bus.serial))
      (λ _. by_cond F s.bus.serial _ _ (λ e. λ i. with_read (sym ((λ j. s.bus.read || (e j && true)) ∙ or-true s.bus.read) i))
      (λ e. by_cond Fetched (eqb s.tobus.ring.len 0) _ _ (λ _. stays false (λ i. e i && false)) (λ _. stays true (λ i. e i && true)))))
    where
      F : Fetch → Type 0
      F k = Fetched (bus-side.given s cells k)

      with_read : Bool → Bus
      with_read r =
          record { role = s.bus.role; serial = s.bus.serial; read = r; configuring = s.bus.configuring; polled = s.bus.polled; line = s.bus.line }

      -- no status byte is read
      stays : (x : Bool) → (s.bus.serial && x) ≡ false → s.bus ≡ with_read (s.bus.read || (s.bus.serial && x))
      stays x e = λ i. with_read (sym ((λ j. s.bus.read || e j) ∙ or-false s.bus.read) i)

-- ---- a frame of the loop leaves it alone

module _ (s : State) (cells : List ℕ) where
  abbrev Same : Outcome → Type 0
  Same o = o.state.bus ≡ s.bus

  waiting_same : Same (send_waiting s cells)
  unfolding send_waiting sends ended
  waiting_same = by_cond Same (eqb s.toloop.ring.len 0) _ _ (λ _. refl) (λ _. refl)

  id_same : (n : ℕ) → Same (send_id s n)
  unfolding send_id sends ended
  id_same n = by_cond Same (leb 10 n) _ _ (λ _. refl) (λ _. refl)

  bus_way : (f : ℕ) (o : Outcome) → Way s cells f o → Same o
  unfolding sends ended send_accessory send_status released identify
  bus_way f o (is_next q z) = waiting_same
  bus_way f o (is_next_id q z) = id_same s.source
  bus_way f o (is_back q m k) = refl
  bus_way f o (is_last q m k e) = refl
  bus_way f o (is_damaged q m) = refl
  bus_way f o (is_held q l h) = refl
  bus_way f o (is_heard q l h) = refl
  bus_way f o (is_passed q l) = refl
  bus_way f o (is_cleared q c) = refl
  bus_way f o (is_obeyed q c) = refl
  bus_way f o (is_released q h) = refl
  bus_way f o (is_assigned q h a) = refl
  bus_way f o (is_send_asked q x) = waiting_same
  bus_way f o (is_told q x y) = refl
  bus_way f o (is_finishing q x y z) = refl
  bus_way f o (is_id_asked q x y z u) = id_same 0
  bus_way f o (is_accessory q x y z u v) = refl
  bus_way f o (is_ready q x y z u v) = refl
  bus_way f o (is_identified q) = refl

-- ---- every call

abbrev Goes : Call → World → Did → Type 0
Goes c w d =
    restarts c d.said ≡ false →
    d.world.state.bus ≡ cond (taken d.said) (after_call c d.said w.state.bus) w.state.bus

done_goes : (c : Call) (w : World) → first_refusal (checks c w) ≡ 0 → Goes c w (not_refused c w)
unfolding not_refused outcome restarts said bus-side.bus_command bus-side.bus_byte bus-side.bus_clear bus-side.bus_lines
done_goes (create a) w e q = absurd (true≢false q)
done_goes (show side) w e q = refl
done_goes (on reset) w e q = absurd (true≢false q)
done_goes (on (loop_frame f)) w e q =
    let o = frame_taken w.state w.toloop f in
    bus_way w.state w.toloop f o (way w.state w.toloop f)
    ∙ sym (either_same (taken (said o.answer)) w.state.bus)
done_goes (on (bus_command c)) w e q =
    let x = command_fitting c w e in
    commanded_right w.state.bus c (parts w.tobus w.toloop w.state x.0).bus (ltb-false 127 c x.1)
done_goes (on (bus_byte b mark)) w e q = by_cond (λ (t : State). t.bus ≡ w.state.bus) w.state.bus.role.listener _ _ (λ _. refl) (λ _. refl)
done_goes (on bus_fetch) w e q = fetched_right w.state w.tobus
done_goes (on bus_clear) w e q = cleared_right w.state.bus
done_goes (on bus_lines) w e q = refl

pub bus_role_goes : Obeys (mailbox step) BusRoleGoes
bus_role_goes c w _ = by_refusal (Goes c w) c w (done_goes c w) (λ _ _. refl)
