-- The kind of change of line bytes in and out, and of register writes. Assumes nothing.
use Prim.Native.Nat.{ℕ, ◌≤◌}
use mathlib.Core.Path.{◌≡◌, refl, sym}
use mathlib.Core.Bool.{Bool, true, false, cond, ◌||◌, false≢true}
use lib.Dec.{eqb}
use lib.ListN.{get_or}
use borrow.Author.Tests.{leb-true, leb-false, eq-eqb, eqb-true}
use Rattle.registers.specs.declared.Registers.{Registers}
use Rattle.registers.specs.Meanings.{go, stop}
use Rattle.registers.specs.Writing.{written}
use Rattle.store.specs.Ring.{held, full, put_bytes}
use Rattle.store.proofs.Laws.{put_full}
use Rattle.std.specs.Prelude.{Option, Some, None}
use Rattle.state.specs.declared.Next.{Next}
use Rattle.state.specs.declared.Next.TheVariants.{Own, Held}
use Rattle.state.specs.State.{with_registers}
use Rattle.answers.specs.Answers.{done}
use Rattle.line.specs.HoldingOff.{is_go_or_stop, flowed, lost_state, stored_state, line_state, line_bytes, set_afresh, after_write, owed, next_out, is_next, gone}
use Rattle.line.proofs.Parts.{some_held}
use Rattle.bridge.specs.Calls.{held_line, next_of, on, write, line_byte, take_line_byte, World}
use Rattle.laws.specs.Observers.{is_flow, arrived, accepted, lost, sent, added, handed_out, restarts, writes, clears}
use Rattle.runs.proofs.Shapes.{seen, core, Fits, Shape, is_still, is_written, is_stored, is_lost, is_handed}
use Rattle.runs.proofs.RuleKept.{rule_kept}
use Rattle.runs.proofs.Quiet.{quiet, none_arrives}

-- ---- line bytes in

module _ (w : World) (F : Fits w) (b : ℕ) where
  pub line_shape : Shape w (seen (on (line_byte b)) w done) (core (line_state w.state b)) (line_bytes w.state w.rx b) w.tx
  unfolding arrived accepted lost sent added is_flow is_go_or_stop handed_out restarts writes clears line_state line_bytes flowed lost_state
  line_shape = by_tests (is_go_or_stop w.state.regs b) (full w.state.rx) refl refl
    where
      by_tests : (t u : Bool) → is_go_or_stop w.state.regs b ≡ t → full w.state.rx ≡ u →
          Shape w (seen (on (line_byte b)) w done) (core (cond t (flowed w.state b) (cond u (lost_state w.state) (stored_state w.state))))
          (cond t w.rx (put_bytes w.rx w.state.rx b)) w.tx
      by_tests true true f e = simp (f, e) is_still
      by_tests true false f e = simp (f, e) is_still
      by_tests false true f e =
          let h : w.state.rx.cap ≤ w.state.rx.len = leb-true _ _ e in
          simp (f, e, put_full w.rx w.state.rx b h) (is_lost b h)
      by_tests false false f e = simp (f, e) (is_stored b F (leb-false _ _ e))

-- ---- line bytes out

module _ (w : World) (F : Fits w) (b : ℕ) where
  -- our own character is not handed out, and the oldest byte is
  pub gone_shape : is_next (next_of w) b ≡ true → Shape w (seen (on (take_line_byte b)) w done) (core (gone w.state (next_of w))) w.rx w.tx
  unfolding arrived sent added handed_out restarts writes clears next_out is_next gone
  gone_shape n =
      none_arrives (on (take_line_byte b)) w done _ _ _ refl
      (by_tests (owed w.state.line) (w.state.line.forbidden || eqb w.state.tx.len 0) refl refl n)
    where
      own : ℕ
      own = cond w.state.line.holding (stop w.state.regs) (go w.state.regs)

      first : ℕ
      first = get_or (held w.tx w.state.tx) 0 0

      out : Bool → Bool → Option Next
      out t u = cond t (Some (Own (cond w.state.line.holding (stop w.state.regs) (go w.state.regs))))
          (cond u None (Some (Held (get_or (held w.tx w.state.tx) 0 0))))

      by_tests : (t u : Bool) → owed w.state.line ≡ t → (w.state.line.forbidden || eqb w.state.tx.len 0) ≡ u → is_next (out t u) b ≡ true →
          Shape w (quiet (on (take_line_byte b)) w done) (core (gone w.state (out t u))) w.rx w.tx
      by_tests true u o e n = simp (o, eq-eqb b own (sym (eqb-true own b n))) is_still
      by_tests false true o e n = absurd (false≢true n)
      by_tests false false o e n = simp (o, ← eqb-true first b n) (is_handed F (some_held w.state w.tx e))

-- ---- register writes

pub write_shape : (w : World) (n v : ℕ) → Fits w → held_line w.state n ≡ false →
    Shape w (seen (on (write n v)) w done) (core (after_write w.state n (written w.state.regs n v))) w.rx w.tx
unfolding arrived sent added handed_out restarts writes clears after_write set_afresh
write_shape w n v F free = none_arrives (on (write n v)) w done _ _ _ refl (by_test (eqb n 11))
  where
    g : Registers
    g = written w.state.regs n v

    by_test : (t : Bool) →
        Shape w (quiet (on (write n v)) w done) (core (cond t (set_afresh (with_registers w.state g)) (with_registers w.state g))) w.rx w.tx
    by_test true = is_written g _ (rule_kept w n v F free)
    by_test false = is_written g _ (rule_kept w n v F free)
