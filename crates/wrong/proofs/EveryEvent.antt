-- Laws of what happened, refuted for a break, a lost byte and a key press at once, by tests that hold of every event. Assumes nothing.
use Prim.Native.Nat.{ℕ}
use native.Mathlib.Omega.{arith}
use mathlib.Core.Path.{◌≡◌, refl, sym, ◌∙◌}
use mathlib.Core.Bool.{Bool, true, false, ◌&&◌, not, true≢false}
use mathlib.Core.Logic.{⊎_elim}
use mathlib.Core.List.{List, [], ◌∷◌}
use borrow.Author.Tests.{not-true}
use Rattle.branches.proofs.Branches.{and_left, and_right}
use Rattle.machine.specs.Course.{of, end, some}
use Rattle.machine.specs.Machine.{seen, course, finally}
use Rattle.registers.specs.Bits.{bit}
use Rattle.bridge.specs.Calls.{line_byte, line_break, key, loop_frame, Call, on, World, Did}
use Rattle.laws.specs.Bridges.{Saw, ByteCall, bridge}
use Rattle.laws.specs.Observers.{taken, asks_status, status_sent, empties}
use Rattle.laws.specs.Events.{Event, broken, overrun, pressed, happens, bit_of, Stays}
use Rattle.laws.specs.StatusWay.{sent_and_back, status_back}
use Rattle.laws.specs.StatusTold.{place, Shows, TellsUntilBack}
use Rattle.laws.specs.Cleared.{Clears}
use Rattle.refuting.proofs.Apart.{alike, alike_same}
use Rattle.wrong.specs.Trials.{send_status, full_noting}
use Rattle.wrong.specs.Broken.{Breaks}
use Rattle.wrong.proofs.Small.{byte_calls, fair_calls}

-- a test that holds of every event
unfoldable pub of_every : (Event → Bool) → Bool
of_every p = p broken && (p overrun && p pressed)

every : (p : Event → Bool) → of_every p ≡ true → (e : Event) → p e ≡ true
unfolding of_every
every p h broken = and_left (p broken) (p overrun && p pressed) h
every p h overrun = and_left (p overrun) (p pressed) (and_right (p broken) (p overrun && p pressed) h)
every p h pressed = and_right (p overrun) (p pressed) (and_right (p broken) (p overrun && p pressed) h)

-- a test that holds of no event
unfoldable pub of_none : (Event → Bool) → Bool
of_none p = of_every (λ e. not (p e))

never : (p : Event → Bool) → of_none p ≡ true → (e : Event) → p e ≡ false
unfolding of_none
never p h e = not-true (p e) (every (λ d. not (p d)) h e)

-- the call in which it happens
abbrev pub happening : Event → Call
happening broken = on line_break
happening overrun = on (line_byte 51)
happening pressed = on key

fair : (e : Event) → ByteCall (happening e)
fair broken = tt
fair overrun = omega arith
fair pressed = tt

-- a status byte that shows it was sent, by a test
abbrev pub shown : Event → List ℕ → Bool
shown e [] = false
shown e (g ∷ gs) = bit (place e) g

shows_shown : (e : Event) (gs : List ℕ) → Shows e gs → shown e gs ≡ true
shows_shown e [] h = elim h [ ]
shows_shown e (g ∷ gs) h = h

module _ (B : Event → Call → World → Did) (w : Event → World) (cs : List Call) where
  -- it happens in its world, and then the calls cs are made; status is asked for after them
  abbrev first : Event → Saw
  first e = seen (bridge (B e)) (happening e) (w e)

  abbrev rest : Event → List Saw
  rest e = course (bridge (B e)) cs (first e).after

  abbrev asks : Event → Saw
  asks e = seen (bridge (B e)) (on (loop_frame send_status)) (finally (bridge (B e)) cs (first e).after)

  -- it is not noted any more, and no status byte has come back
  pub not_kept : byte_calls cs ≡ true → of_every (λ e. of (happens e) (first e)) ≡ true → of_none (λ e. some empties (rest e)) ≡ true →
      of_none (λ e. bit_of e (end (first e).after (rest e))) ≡ true → of_none (λ e. sent_and_back (rest e)) ≡ true →
      (e : Event) → Breaks (B e) (Stays e)
  not_kept f h n k t e law =
      ⊎_elim (λ p. true≢false (sym p ∙ never _ k e)) (λ p. true≢false (sym p ∙ never _ t e))
      (law (happening e) cs (w e) tt (fair e) (fair_calls (B e) cs f) (every _ h e) (never _ n e))

  -- no status byte has come back, and the one that is asked for does not show it
  pub not_told : byte_calls cs ≡ true → of_every (λ e. of (happens e) (first e)) ≡ true → of_none (λ e. some empties (rest e)) ≡ true →
      of_none (λ e. sent_and_back (rest e)) ≡ true → of_every (λ e. taken (asks e).answer) ≡ true →
      of_every (λ e. asks_status (asks e).before.state send_status) ≡ true → of_none (λ e. shown e (of status_sent (asks e))) ≡ true →
      (e : Event) → Breaks (B e) (TellsUntilBack e)
  not_told f h n t a s k e law =
      true≢false
      (sym
      (shows_shown e (of status_sent (asks e))
      (law (happening e) cs (on (loop_frame send_status)) (w e) tt (fair e) (fair_calls (B e) cs f) (every _ h e) (never _ n e) (never _ t e)
      send_status refl (every _ a e) (every _ s e)))
      ∙ never _ k e)

-- the status byte that shows it where it is noted
abbrev pub telling : Event → ℕ
telling broken = 31
telling overrun = 47
telling pressed = 143

module _ (B : Event → Call → World → Did) where
  -- status is sent where it is noted, and comes back
  abbrev sends : Event → Saw
  sends e = seen (bridge (B e)) (on (loop_frame send_status)) (full_noting e)

  abbrev returns : Event → Saw
  returns e = seen (bridge (B e)) (on (loop_frame (telling e))) (sends e).after

  -- it is still noted
  pub not_cleared : of_every (λ e. alike (of status_sent (sends e)) (telling e ∷ [])) ≡ true →
      of_every (λ e. status_back (telling e ∷ []) (returns e).call (returns e).answer) ≡ true → of_every (λ e. bit_of e (returns e).after) ≡ true →
      (e : Event) → Breaks (B e) (Clears e)
  unfolding some course finally
  not_cleared s r k e law =
      true≢false
      (sym (every _ k e)
      ∙ law (on (loop_frame send_status)) [] (on (loop_frame (telling e))) (full_noting e) tt tt tt (telling e)
      (alike_same (of status_sent (sends e)) (telling e ∷ []) (every _ s e)) refl refl (every _ r e))
