-- A machine whose asks leave all that it keeps goes as it goes without them. Assumes nothing.
use mathlib.Core.Path.{◌≡◌, refl, ap, ◌∙◌}
use mathlib.Core.Bool.{Bool, true, false, false≢true}
use mathlib.Core.List.{List, [], ◌∷◌}
use Rattle.machine.specs.Course.{Seen}
use Rattle.machine.specs.Machine.{Machine, seen, course, finally}
use Rattle.bridge.specs.Calls.{reset, write, line_byte, line_break, key, ask_line_byte, take_line_byte, loop_frame, Call, create, show, on, World}
use Rattle.laws.specs.Observers.{asks_line_byte}
use Rattle.laws.specs.AsksLeftOut.{without_asks, seen_without_asks, LeftOut, AsksLeftOut}

-- what holds of an ask holds of a call that is one
pub at_ask : (P : Call → Type 0) → P (on ask_line_byte) → (c : Call) → asks_line_byte c ≡ true → P c
at_ask P p (create m) e = absurd (false≢true e)
at_ask P p (show side) e = absurd (false≢true e)
at_ask P p (on reset) e = absurd (false≢true e)
at_ask P p (on (write n v)) e = absurd (false≢true e)
at_ask P p (on (line_byte b)) e = absurd (false≢true e)
at_ask P p (on line_break) e = absurd (false≢true e)
at_ask P p (on key) e = absurd (false≢true e)
at_ask P p (on ask_line_byte) e = p
at_ask P p (on (take_line_byte b)) e = absurd (false≢true e)
at_ask P p (on (loop_frame f)) e = absurd (false≢true e)

module _ {Said : Type 0} (M : Machine World Call Said) (leaves : (o : M.Own) → M.after (on ask_line_byte) o ≡ o) where
  -- by whether the first call is an ask
  first_out : (c : Call) (cs : List Call) (o : M.Own) → LeftOut M cs (M.after c o) → LeftOut M (c ∷ cs) o
  unfolding without_asks seen_without_asks course finally
  first_out c cs o rest = by_kind (asks_line_byte c) refl
    where
      by_kind : (t : Bool) → asks_line_byte c ≡ t → LeftOut M (c ∷ cs) o
      by_kind true e =
          let same : M.after c o ≡ o = at_ask (λ c. M.after c o ≡ o) (leaves o) c e in
          record {
            seen = rw e (rest.seen ∙ ap (course M (without_asks cs)) same);
            end = rw e (rest.end ∙ ap (λ (q : M.Own). M.stands (finally M (without_asks cs) q)) same);
          }
      by_kind false e = record { seen = rw e (ap (λ (ss : List (Seen World Call Said)). seen M c o ∷ ss) rest.seen); end = rw e rest.end }

  out : (cs : List Call) (o : M.Own) → LeftOut M cs o
  unfolding without_asks seen_without_asks course finally
  out [] o = record { seen = refl; end = refl }
  out (c ∷ cs) o = first_out c cs o (out cs (M.after c o))

  pub left_out : AsksLeftOut M
  left_out cs o fine fair = out cs o
