-- What create and reset give. Assumes nothing.
use Prim.Native.Nat.{ℕ}
use mathlib.Core.Path.{◌≡◌, refl, sym, ap, subst, ◌∙◌}
use mathlib.Core.Bool.{true, false, and-false, false≢true}
use mathlib.Core.List.{List, [], ◌∷◌, cons≢nil}
use lib.Dec.{eqb}
use lib.ListN.{length}
use Rattle.machine.specs.Machine.{Obeys, course, finally}
use Rattle.way.specs.Way.{empty_way}
use Rattle.answers.specs.Answers.{said, refused}
use Rattle.mailstate.specs.Sizes.{start_state}
use Rattle.mailbox.specs.Calls.{reset, loop_frame, bus_command, bus_byte, bus_fetch, bus_clear, bus_lines, Call, create, show, on}
use Rattle.mailbox.specs.Calls.{World, world, Did, outcome, tobus_after, toloop_after, not_refused, step}
use Rattle.maillaws.specs.Mailboxes.{mailbox}
use Rattle.maillaws.specs.Sights.{Direction, to_bus, to_loop, store_of, ring_of, news_of, kind_on, taken, restarts}
use Rattle.maillaws.specs.MailStarts.{Started, address_of, StartsSo, ResetGivesStart}
use Rattle.maillaws.proofs.Refusal.{by_refusal}

abbrev start_world : World → ℕ → World
start_world w a = world (start_state a (length w.tobus) (length w.toloop)) w.tobus w.toloop

-- what a create or reset that is done leaves
begun : (c : Call) (w : World) → restarts c (not_refused c w).said ≡ true → (not_refused c w).world ≡ start_world w (address_of c w)
unfolding not_refused outcome tobus_after toloop_after restarts said
begun (create a) w e = refl
begun (show side) w e = absurd (false≢true e)
begun (on reset) w e = refl
begun (on (loop_frame f)) w e = absurd (false≢true e)
begun (on (bus_command c)) w e = absurd (false≢true e)
begun (on (bus_byte b mark)) w e = absurd (false≢true e)
begun (on bus_fetch) w e = absurd (false≢true e)
begun (on bus_clear) w e = absurd (false≢true e)
begun (on bus_lines) w e = absurd (false≢true e)

-- a refused call is none of these
refused_not : (c : Call) (n : ℕ) → restarts c (refused n) ≡ true → ⊥
unfolding restarts
refused_not (create a) n e = false≢true e
refused_not (show side) n e = false≢true e
refused_not (on c) n e = false≢true (sym (and-false (eqb (kind_on c) 0)) ∙ e)

pub restarted : (c : Call) (w : World) → restarts c (step c w).said ≡ true → (step c w).world ≡ start_world w (address_of c w)
restarted c w =
    by_refusal (λ (d : Did). restarts c d.said ≡ true → d.world ≡ start_world w (address_of c w)) c w (λ _ e. begun c w e)
    (λ _ e. absurd (refused_not c _ e))

start_ring : (w : World) (a : ℕ) (d : Direction) → ring_of d (start_world w a) ≡ record { cap = length (store_of d w); oldest = 0; len = 0 }
unfolding start_state empty_way
start_ring w a to_bus = refl
start_ring w a to_loop = refl

start_news : (w : World) (a : ℕ) (d : Direction) → news_of d (start_world w a) ≡ record { request = false; available = false; again = false }
unfolding start_state empty_way
start_news w a to_bus = refl
start_news w a to_loop = refl

start_stores : (w : World) (a : ℕ) (d : Direction) → store_of d w ≡ store_of d (start_world w a)
start_stores w a to_bus = refl
start_stores w a to_loop = refl

start_right : (w : World) (a : ℕ) → Started a (start_world w a)
unfolding start_state
start_right w a =
    record {
      ring = λ d. start_ring w a d ∙ (λ i. record { cap = length (start_stores w a d i); oldest = 0; len = 0 });
      news = start_news w a;
      role = refl;
      under = refl;
      source = refl;
      hold = refl;
      response = refl;
      bus = refl;
    }

pub starts_so : Obeys (mailbox step) StartsSo
starts_so c w _ e = subst (Started (address_of c w)) (sym (restarted c w e)) (start_right w (address_of c w))

-- a create right after a reset
create_again : (w : World) → taken (step (on reset) w).said ≡ true →
    (a : ℕ) → a ≡ (step (on reset) w).world.state.bus.role.address → taken (step (create a) (step (on reset) w).world).said ≡ true →
    (step (create a) (step (on reset) w).world).world.state ≡ (step (on reset) w).world.state
create_again w t a q h =
    ap (λ (v : World). v.state) (restarted (create a) (step (on reset) w).world (unfold restarts in h))
    ∙ ap (λ (k : ℕ). start_state k (length (step (on reset) w).world.tobus) (length (step (on reset) w).world.toloop)) q
    ∙ subst (λ (v : World). start_state v.state.bus.role.address (length v.tobus) (length v.toloop) ≡ v.state)
    (sym (restarted (on reset) w (unfold restarts in t))) (unfold start_state in refl)

pub reset_gives_start : Obeys (mailbox step) ResetGivesStart
unfolding course finally
reset_gives_start c cs d w _ _ _ = go cs
  where
    again : (c : Call) → c ≡ on reset → taken (step c w).said ≡ true → (a : ℕ) → a ≡ (step c w).world.state.bus.role.address →
        taken (step (create a) (step c w).world).said ≡ true → (step (create a) (step c w).world).world.state ≡ (step c w).world.state
    again c q =
        subst
        (λ (x : Call). taken (step x w).said ≡ true → (a : ℕ) → a ≡ (step x w).world.state.bus.role.address →
        taken (step (create a) (step x w).world).said ≡ true → (step (create a) (step x w).world).world.state ≡ (step x w).world.state)
        (sym q) (create_again w)

    go : (cs : List Call) → c ≡ on reset → taken (step c w).said ≡ true → course (mailbox step) cs (step c w).world ≡ [] →
        d ≡ create (step c w).world.state.bus.role.address → taken (step d (finally (mailbox step) cs (step c w).world)).said ≡ true →
        (step d (finally (mailbox step) cs (step c w).world)).world.state ≡ (step c w).world.state
    go [] q t e p h =
        subst (λ (x : Call). taken (step x (step c w).world).said ≡ true → (step x (step c w).world).world.state ≡ (step c w).world.state) (sym p)
        (again c q t _ refl) h
    go (x ∷ xs) q t e p h = absurd (cons≢nil e)
