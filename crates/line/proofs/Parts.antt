-- Line bytes in and out, and register writes. Assumes nothing.
use Rattle.std.proofs.Common.{◌≡◌, ℕ, ◌<◌, ◌≤◌, Bool, true, false, cond, ◌||◌, eqb, List, get_or, sym, refl, ap, subst, ◌∙◌, arith}
use mathlib.Core.Bool.{false≢true}
use borrow.Author.Tests.{eqb-false, le-leb, lt-leb}
use Rattle.registers.specs.Meanings.{stop}
use Rattle.store.specs.declared.Ring.{Ring}
use Rattle.store.specs.declared.Offered.{Offered}
use Rattle.std.specs.Prelude.{Option, MatchOption, unwrap_or, Some, None}
use Rattle.store.specs.Ring.{Within, held, room, put_ring}
use Rattle.store.specs.Promises.{Put, Dropped}
use Rattle.state.specs.declared.State.{State}
use Rattle.state.specs.declared.Next.{Next}
use Rattle.state.specs.declared.Next.TheVariants.{Own, Held}
use Rattle.state.specs.State.{with_tx}
use Rattle.line.specs.HoldingOff.{is_go_or_stop, flowed, stored_with, lost_state, line_state, line_bytes, Taken}
use Rattle.line.specs.HoldingOff.{owed, next_out, gone}

-- ---- a line byte

-- a state with this receive ring, the room of which is told
ring_told : (t u : State) (left : ℕ) → t ≡ u → left ≡ room u.rx → left ≡ room t.rx
ring_told t u left q l = rw q l

ring_within : (t u : State) → t ≡ u → Within u.rx → Within t.rx
ring_within t u q h = subst (λ (x : State). Within x.rx) (sym q) h

module _ (s : State) (rx : List ℕ) (b : ℕ) where
  pub taken_flow : (t : State) (left : ℕ) → is_go_or_stop s.regs b ≡ true → t ≡ flowed s b → left ≡ room s.rx → Within s.rx →
      Taken s rx b rx (record { state = t; room = left })
  unfolding line_state line_bytes flowed
  taken_flow t left e q l h =
      record { state = rw (q, e); room = ring_told t (flowed s b) left q l; within = ring_within t (flowed s b) q h; bytes = rw e; size = refl }

  module _ (rx' : List ℕ) (t : State) (e : is_go_or_stop s.regs b ≡ false) where
    module _ (o : Offered) (p : Put rx s.rx b rx' o) where
      abbrev Found : Option Ring → Type 0
      Found x = MatchOption x (s.rx.cap ≤ s.rx.len) (λ q. (s.rx.len < s.rx.cap) × (q ≡ put_ring s.rx))

      -- the ring that is left where none is answered is the one that was there
      kept : o.after ≡ None → put_ring s.rx ≡ s.rx
      kept i = sym p.ring ∙ ap (λ x. unwrap_or x s.rx) i

      pub taken_stored : (q : Ring) → o.after ≡ Some q → t ≡ stored_with s q → Taken s rx b rx' (record { state = t; room = o.room })
      unfolding line_state line_bytes stored_with
      taken_stored q i h =
          let a : Found (Some q) = subst Found i p.offering.after in
          record {
            state = rw (e, lt-leb s.rx.cap s.rx.len a.0, ← a.1) h;
            room = ring_told t (stored_with s q) o.room h (p.offering.room ∙ ap room (sym a.1));
            within = ring_within t (stored_with s q) h (subst Within (sym a.1) p.fit.within);
            bytes = rw e p.bytes;
            size = p.size;
          }

      pub taken_lost : o.after ≡ None → t ≡ lost_state s → Within s.rx → Taken s rx b rx' (record { state = t; room = o.room })
      unfolding line_state line_bytes lost_state
      taken_lost i h f =
          record {
            state = rw (e, le-leb s.rx.cap s.rx.len (subst Found i p.offering.after)) h;
            room = ring_told t (lost_state s) o.room h (p.offering.room ∙ ap room (kept i));
            within = ring_within t (lost_state s) h f;
            bytes = rw e p.bytes;
            size = p.size;
          }

-- ---- a line byte out

module _ (s : State) (tx : List ℕ) where
  pub next_stop : owed s.line ≡ true → s.line.holding ≡ true → Some (Own s.regs.c05) ≡ next_out s tx
  unfolding next_out
  next_stop e h = rw (e, h)

  pub next_go : owed s.line ≡ true → s.line.holding ≡ false → Some (Own s.regs.c04) ≡ next_out s tx
  unfolding next_out
  next_go e h = rw (e, h)

  pub next_none : owed s.line ≡ false → (s.line.forbidden || eqb s.tx.len 0) ≡ true → None ≡ next_out s tx
  unfolding next_out
  next_none e h = rw (e, h)

  pub next_held : (b : ℕ) → owed s.line ≡ false → (s.line.forbidden || eqb s.tx.len 0) ≡ false → b ≡ get_or (held tx s.tx) 0 0 → Some (Held b) ≡ next_out s tx
  unfolding next_out
  next_held b e h q = rw (e, h, q)

  -- the transmit store holds something
  pub some_held : (s.line.forbidden || eqb s.tx.len 0) ≡ false → 0 < s.tx.len
  some_held h = go s.line.forbidden (eqb s.tx.len 0) refl h
    where
      go : (a t : Bool) → eqb s.tx.len 0 ≡ t → (a || t) ≡ false → 0 < s.tx.len
      go true t e h = absurd (false≢true (sym h))
      go false true e h = absurd (false≢true (sym h))
      go false false e h = omega (arith, eqb-false s.tx.len 0 e)

  pub gone_some : (b : ℕ) → Some (Held b) ≡ next_out s tx → 1 ≤ s.tx.len
  unfolding next_out
  gone_some b e = go (owed s.line) (s.line.forbidden || eqb s.tx.len 0) refl e
    where
      go : (w t : Bool) → (s.line.forbidden || eqb s.tx.len 0) ≡ t →
          Some (Held b) ≡ cond w (Some (Own (cond s.line.holding (stop s.regs) s.regs.c04))) (cond t None (Some (Held (get_or (held tx s.tx) 0 0)))) → 1 ≤ s.tx.len
      go true t h e = let z : ◌≡◌ {A = ℕ} 0 1 = cc in absurd (omega arith)
      go false true h e = let z : ◌≡◌ {A = ℕ} 0 1 = cc in absurd (omega arith)
      go false false h e = some_held h

-- ---- a line byte that is gone

module _ (s : State) (o : Option Next) where
  pub gone_held : (b : ℕ) (r : Ring) → o ≡ Some (Held b) → Dropped s.tx 1 r → with_tx s r ≡ gone s o
  unfolding gone
  gone_held b r e d = rw e (ap (with_tx s) d.ring)
