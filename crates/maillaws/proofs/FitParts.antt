-- What a state that fits is, part by part, and one part of it changed. Assumes nothing.
use Prim.Native.Nat.{ℕ, ◌≤◌, ◌<◌}
use native.Mathlib.Omega.{arith}
use mathlib.Core.Path.{◌≡◌, refl}
use mathlib.Core.Bool.{true, ◌&&◌, and-eq-true_iff}
use mathlib.Core.List.{List}
use lib.Dec.{leb, ltb}
use lib.ListN.{length}
use borrow.Author.Tests.{leb-true, ltb-true, le-leb, lt-ltb}
use Rattle.role.specs.RoleFit as role-fit
use Rattle.role.proofs.FitLaws as role-laws
use Rattle.talker.specs.declared.Talker.{Talker}
use Rattle.talker.specs.TalkerFit as talker-fit
use Rattle.talker.proofs.FitLaws as talker-laws
use Rattle.store.specs.declared.Ring.{Ring}
use Rattle.store.specs.Ring as store-ring
use Rattle.store.proofs.Laws as store-laws
use Rattle.places.proofs.OneStore as one_store
use Rattle.polls.specs.declared.Response.{Response}
use Rattle.bus.specs.declared.Bus.{Bus}
use Rattle.bus.specs.Bus as bus
use Rattle.way.specs.declared.Way.{Way}
use Rattle.way.specs.Way.{empty_way}
use Rattle.mailstate.specs.declared.State.{State}
use Rattle.mailstate.specs.declared.Hold.{Hold}
use Rattle.mailstate.specs.State.{with_to_bus, with_to_loop, with_talker, with_source, with_hold, with_response, with_bus}
use Rattle.mailstate.specs.Sizes.{start_state, ways_recorded, loop_in_range, fits}
use Rattle.mailstate.proofs.Fits.{tobus_fits, toloop_fits}

-- ---- what fitting asks of each part

pub record BusFits (b : Bus) : Type 0 where
  pub role : role-fit.Fit b.role
  pub address : b.role.address ≤ 30
  pub phase : b.role.phase ≤ 1
  pub line : b.line < 8

pub record Parts (xs ys : List ℕ) (s : State) : Type 0 where
  pub tobus : store-ring.Fit xs s.tobus.ring
  pub toloop : store-ring.Fit ys s.toloop.ring
  pub talker : talker-fit.Fit s.talker
  pub source : s.source ≤ 10
  pub hold : s.hold.frame < 1024
  pub line : s.response.line < 8
  pub bus : BusFits s.bus

bus_parts : (b : Bus) → bus.fit_test b ≡ true → BusFits b
unfolding bus.fit_test
bus_parts b e =
    let x = (and-eq-true_iff ((role-fit.fit_test b.role && leb b.role.address 30) && leb b.role.phase 1) _).0 e in
    let y = (and-eq-true_iff (role-fit.fit_test b.role && leb b.role.address 30) _).0 x.0 in
    let z = (and-eq-true_iff (role-fit.fit_test b.role) _).0 y.0 in
    record { role = role-laws.fit_true b.role z.0; address = leb-true _ _ z.1; phase = leb-true _ _ y.1; line = ltb-true _ _ x.1 }

bus_tested : (b : Bus) → BusFits b → bus.fit_test b ≡ true
unfolding bus.fit_test
bus_tested b p =
    rw (role-laws.fit_test_lem b.role p.role, le-leb b.role.address 30 p.address, le-leb b.role.phase 1 p.phase, lt-ltb b.line 8 p.line)

module _ (tobus toloop : List ℕ) (s : State) where
  pub parts : fits s (length tobus) (length toloop) ≡ true → Parts tobus toloop s
  unfolding fits
  parts e =
      let x = (and-eq-true_iff (ways_recorded s (length tobus) (length toloop) && loop_in_range s) _).0 e in
      let y = (and-eq-true_iff (ways_recorded s (length tobus) (length toloop)) _).0 x.0 in
      let u = (and-eq-true_iff ((talker-fit.fit_test s.talker && leb s.source 10) && ltb s.hold.frame 1024) _).0 y.1 in
      let v = (and-eq-true_iff (talker-fit.fit_test s.talker && leb s.source 10) _).0 u.0 in
      let t = (and-eq-true_iff (talker-fit.fit_test s.talker) _).0 v.0 in
      record {
        tobus = tobus_fits s tobus toloop e;
        toloop = toloop_fits s tobus toloop e;
        talker = talker-laws.fit_true s.talker t.0;
        source = leb-true _ _ t.1;
        hold = ltb-true _ _ v.1;
        line = ltb-true _ _ u.1;
        bus = bus_parts s.bus x.1;
      }

  pub tested : Parts tobus toloop s → fits s (length tobus) (length toloop) ≡ true
  unfolding fits
  tested p =
      rw (
        store-laws.fit_test_lem tobus s.tobus.ring p.tobus,
        store-laws.fit_test_lem toloop s.toloop.ring p.toloop,
        talker-laws.fit_test_lem s.talker p.talker,
        le-leb s.source 10 p.source,
        lt-ltb s.hold.frame 1024 p.hold,
        lt-ltb s.response.line 8 p.line,
        bus_tested s.bus p.bus,
      )

-- ---- a ring with a cell more, without its oldest, and emptied

module _ {xs : List ℕ} {r : Ring} (f : store-ring.Fit xs r) where
  pub more_fits : store-ring.Fit xs (store-ring.put_ring r)
  more_fits = one_store.more_fits xs r f

  pub fewer_fits : (r.len ≡ 0 → ⊥) → store-ring.Fit xs (store-ring.drop_ring r 1)
  fewer_fits h = store-laws.drop_fit xs r 1 f (omega arith)

  pub empty_fits : store-ring.Fit xs (store-ring.empty_ring r.cap)
  empty_fits = record { cap = f.cap; within = record { oldest = omega arith; len = omega arith; small = f.within.small } }

-- ---- the start

pub start_parts : (a : ℕ) (tobus toloop : List ℕ) → a ≤ 30 → 0 < length tobus → length tobus ≤ 32768 → 0 < length toloop → length toloop ≤ 32768 →
    Parts tobus toloop (start_state a (length tobus) (length toloop))
unfolding start_state empty_way
start_parts a tobus toloop h x y u v =
    record {
      tobus = store-laws.empty_fit tobus x y;
      toloop = store-laws.empty_fit toloop u v;
      talker = talker-laws.fit_start;
      source = omega arith;
      hold = omega arith;
      line = omega arith;
      bus = record { role = record { range = omega arith; phase = omega arith; apart = λ _. refl }; address = h; phase = omega arith; line = omega arith };
    }

-- ---- one part changed

module _ {xs ys : List ℕ} {s : State} (p : Parts xs ys s) where
  pub with_tobus : (u : Way) → store-ring.Fit xs u.ring → Parts xs ys (with_to_bus s u)
  with_tobus u h = record { tobus = h; toloop = p.toloop; talker = p.talker; source = p.source; hold = p.hold; line = p.line; bus = p.bus }

  pub with_toloop : (u : Way) → store-ring.Fit ys u.ring → Parts xs ys (with_to_loop s u)
  with_toloop u h = record { tobus = p.tobus; toloop = h; talker = p.talker; source = p.source; hold = p.hold; line = p.line; bus = p.bus }

  pub with_talker_lem : (t : Talker) → talker-fit.Fit t → Parts xs ys (with_talker s t)
  with_talker_lem t h = record { tobus = p.tobus; toloop = p.toloop; talker = h; source = p.source; hold = p.hold; line = p.line; bus = p.bus }

  pub with_source_lem : (n : ℕ) → n ≤ 10 → Parts xs ys (with_source s n)
  with_source_lem n h = record { tobus = p.tobus; toloop = p.toloop; talker = p.talker; source = h; hold = p.hold; line = p.line; bus = p.bus }

  pub with_hold_lem : (x : Hold) → x.frame < 1024 → Parts xs ys (with_hold s x)
  with_hold_lem x h = record { tobus = p.tobus; toloop = p.toloop; talker = p.talker; source = p.source; hold = h; line = p.line; bus = p.bus }

  pub with_response_lem : (x : Response) → x.line < 8 → Parts xs ys (with_response s x)
  with_response_lem x h = record { tobus = p.tobus; toloop = p.toloop; talker = p.talker; source = p.source; hold = p.hold; line = h; bus = p.bus }

  pub with_bus_lem : (b : Bus) → BusFits b → Parts xs ys (with_bus s b)
  with_bus_lem b h = record { tobus = p.tobus; toloop = p.toloop; talker = p.talker; source = p.source; hold = p.hold; line = p.line; bus = h }
