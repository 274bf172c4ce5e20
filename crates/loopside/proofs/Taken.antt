-- What a listener stores, and a frame taken by its kind. Assumes nothing.
use Rattle.std.proofs.Common.{◌≡◌, ℕ, ◌<◌, ◌≤◌, true, false, eqb, List, sym, refl, ap, ◌∙◌, arith, ltb-true, eq-eqb, ne_eqb, le-leb}
use borrow.Author.Tests.{lt-leb}
use Rattle.frame.specs.Frame.{control_of, data_of, is_data}
use Rattle.store.specs.declared.Ring.{Ring}
use Rattle.store.specs.Ring.{Within, puts_ring, puts_bytes}
use Rattle.store.specs.Promises.{Puts}
use Rattle.state.specs.declared.State.{State}
use Rattle.state.specs.Outcome.{Outcome}
use Rattle.answers.specs.declared.Answer.TheVariants.{Frame}
use Rattle.state.specs.State.{with_tx}
use Rattle.role.proofs.Clears.{clear_order}
use Rattle.loopside.specs.LoopToLine.{adds, added_state, added_bytes, Added}
use Rattle.state.specs.Conditions.{serviced, settled_outcome}
use Rattle.loopside.specs.Frames.{ready, returned, Passed, identify, command_settled, frame_taken, device_clear}
use Rattle.loopside.specs.Frames.{frame_settled, adds_bytes, frame_bytes, Framed}
use Rattle.loopside.proofs.Within.{settled_in, returned_in, command_in, ready_in, identified_in}

-- the transmit store with what a frame adds
pub left_met : (s : State) (tx : List ℕ) (f : ℕ) (tx' : List ℕ) (o : Ring) (l : List ℕ) → adds s.regs f ≡ l → Puts tx s.tx l tx' o → Within o → Added s tx f tx' (with_tx s o)
unfolding added_state added_bytes
left_met s tx f tx' o l e p h =
    record {
      state = ap (with_tx s) (p.ring ∙ ap (puts_ring s.tx) (sym e));
      within = h;
      bytes = p.bytes ∙ ap (puts_bytes tx s.tx) (sym e);
      size = p.size;
    }

-- a frame that is no command is no device clear
no_clear : (s : State) (f : ℕ) → eqb (control_of f) 4 ≡ false → device_clear s f ≡ false
unfolding device_clear
no_clear s f e = rw e

module _ (s : State) (rx tx : List ℕ) (f : ℕ) (o : Outcome) (fit : Within s.tx) where
  -- a data frame is no command
  data_other : is_data f ≡ true → eqb (control_of f) 4 ≡ false
  data_other e = ne_eqb (control_of f) 4 (λ h. omega (arith, ltb-true (control_of f) 4 e))

  pub taken_back : (p : Outcome) → is_data f ≡ true → 2 ≤ s.talker.role.phase → p ≡ returned s rx f → o ≡ settled_outcome s p → Framed s rx tx f tx o
  unfolding frame_settled frame_taken frame_bytes adds_bytes
  taken_back p e h a b =
      let r = le-leb 2 s.talker.role.phase h in
      record {
        outcome = rw (b, a, no_clear s f (data_other e), e, r);
        within = settled_in s p o (returned_in s rx f p fit a) b;
        bytes = rw (e, r);
        size = refl;
      }

  pub taken_passed : (p : Outcome) (tx' : List ℕ) → is_data f ≡ true → s.talker.role.phase < 2 → Passed s tx f tx' p → o ≡ settled_outcome s p →
      Framed s rx tx f tx' o
  unfolding frame_settled frame_taken frame_bytes adds_bytes
  taken_passed p tx' e h a b =
      let r = lt-leb 2 s.talker.role.phase h in
      record {
        outcome = rw (b, a.outcome, no_clear s f (data_other e), e, r);
        within = settled_in s p o a.within b;
        bytes = rw (e, r) a.bytes;
        size = a.size;
      }

  module _ (e : is_data f ≡ false) where
    pub taken_command : control_of f ≡ 4 → o ≡ command_settled s f → Framed s rx tx f tx o
    unfolding frame_settled frame_taken frame_bytes adds_bytes command_settled device_clear
    taken_command h a =
        record {
          outcome = rw (a, e, eq-eqb (control_of f) 4 h, clear_order 31 s.talker.role (data_of f));
          within = command_in s f o fit a;
          bytes = rw e;
          size = refl;
        }

    module _ (h : control_of f ≡ 4 → ⊥) where
      pub taken_ready : (p : Outcome) → control_of f ≡ 5 → p ≡ ready s rx f → o ≡ settled_outcome s p → Framed s rx tx f tx o
      unfolding frame_settled frame_taken frame_bytes adds_bytes
      taken_ready p k a b =
          let n = ne_eqb (control_of f) 4 h in
          record {
            outcome = rw (b, a, no_clear s f n, e, n, eq-eqb (control_of f) 5 k);
            within = settled_in s p o (ready_in s rx f p fit a) b;
            bytes = rw e;
            size = refl;
          }

      pub taken_identify : (p : Outcome) → (control_of f ≡ 5 → ⊥) → p ≡ identify s f → o ≡ settled_outcome s p → Framed s rx tx f tx o
      unfolding frame_settled frame_taken frame_bytes adds_bytes
      taken_identify p k a b =
          let n = ne_eqb (control_of f) 4 h in
          record {
            outcome = rw (b, a, no_clear s f n, e, n, ne_eqb (control_of f) 5 k);
            within = settled_in s p o (identified_in s f p fit a) b;
            bytes = rw e;
            size = refl;
          }

-- a frame that identifies goes on with its service bit
pub identify_met : (s : State) (f x : ℕ) → x ≡ serviced s f → record { state = s; answer = Frame x } ≡ identify s f
unfolding identify
identify_met s f x q = rw q
