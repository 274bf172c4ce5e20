-- A break and a key press change nothing but the notes. Assumes nothing.
use Prim.Native.Nat.{ℕ}
use mathlib.Core.Path.{◌≡◌, refl, sym, ap, ◌∙◌}
use mathlib.Core.List.{List}
use mathlib.Core.Bool.{Bool, true, false, cond, ◌||◌, or-true, or-false, false≢true}
use Rattle.answers.specs.Refusals.{first_refusal}
use Rattle.machine.specs.Machine.{Obeys}
use Rattle.status.specs.declared.Events.{Events}
use Rattle.answers.specs.Answers.{refused}
use Rattle.state.specs.State.{with_notes}
use Rattle.state.specs.Conditions.{settled, break_state, key_state}
use Rattle.bridge.specs.Calls.{OnState, reset, write, line_byte, line_break, key, ask_line_byte, take_line_byte, loop_frame, Call, create, show}
use Rattle.bridge.specs.Calls.{on, is, World, world, Did, checks, outcome, settled_by, rx_after, tx_after, not_refused, step}
use Rattle.laws.specs.Bridges.{Saw}
use Rattle.laws.specs.Observers.{taken, on_one}
use Rattle.laws.specs.Events.{Event, broken, overrun, pressed, noted, same, OnlyNoted, Alone}
use Rattle.laws.proofs.Refusing.{by_refusal, fitting}
use Rattle.runs.proofs.Alike.{same_either}
use Rattle.runs.proofs.Shapes.{Fits}
use Rattle.runs.proofs.Broken.{store_broken}
use Rattle.runs.proofs.Steps.{ours}

-- one more note
set_broken : (x : Events) (d : Event) → noted d (record { brk = true; overrun = x.overrun; key = x.key }) ≡ (noted d x || same d broken)
set_broken x broken = sym (or-true x.brk)
set_broken x overrun = sym (or-false x.overrun)
set_broken x pressed = sym (or-false x.key)

set_pressed : (x : Events) (d : Event) → noted d (record { brk = x.brk; overrun = x.overrun; key = true }) ≡ (noted d x || same d pressed)
set_pressed x broken = sym (or-false x.brk)
set_pressed x overrun = sym (or-false x.overrun)
set_pressed x pressed = sym (or-true x.key)

-- a refused call is none
none_refused : (n : ℕ) (d : OnState) (c : Call) → on_one d (taken (refused n)) false c ≡ true → ⊥
none_refused n d (create m) h = false≢true h
none_refused n d (show side) h = false≢true h
none_refused n d (on c) h = false≢true (sym (same_either (is d c) false) ∙ h)

-- what a call did, as it is seen
abbrev saw : Call → World → Did → Saw
saw c w d = record { call = c; before = w; answer = d.said; after = d.world }

abbrev Noted : Event → World → OnState → Type 0
Noted e w c = OnlyNoted e (saw (on c) w (not_refused (on c) w))

-- a call that is neither
neither : {A B : Type 0} → (false ≡ true → A) × (false ≡ true → B)
neither = (λ h. absurd (false≢true h), λ h. absurd (false≢true h))

-- a break notes a break, and a key press notes a key press
notes : (w : World) → Fits w → (c : OnState) → (is line_break c ≡ true → Noted broken w c) × (is key c ≡ true → Noted pressed w c)
unfolding not_refused outcome settled_by settled rx_after tx_after break_state key_state
notes w F reset = neither
notes w F (write n v) = neither
notes w F (line_byte b) = neither
notes w F line_break = (
  λ _. record {
    rest = ap (λ (rx : List ℕ). world (with_notes w.state (not_refused (on line_break) w).world.state.notes) rx w.tx) (store_broken w F);
    seen = set_broken w.state.notes.seen;
    again = set_broken w.state.notes.again;
  },
  λ h. absurd (false≢true h),
)
notes w F key =
    (λ h. absurd (false≢true h), λ _. record { rest = refl; seen = set_pressed w.state.notes.seen; again = set_pressed w.state.notes.again })
notes w F ask_line_byte = neither
notes w F (take_line_byte b) = neither
notes w F (loop_frame f) = neither

-- ---- both laws

holds_first : (t x : Bool) → cond t x false ≡ true → t ≡ true
holds_first true x h = refl
holds_first false x h = absurd (false≢true h)

-- of the event e, which happens in the call d
alone : (e : Event) (d : OnState) (w : World) → (Fits w → (c : OnState) → is d c ≡ true → Noted e w c) → (c : Call) →
    on_one d (taken (step c w).said) false c ≡ true → OnlyNoted e (saw c w (step c w))
alone e d w n c =
    by_refusal (λ (x : Did). on_one d (taken x.said) false c ≡ true → OnlyNoted e (saw c w x)) c w (go c)
    (λ _ h. absurd (none_refused (first_refusal (checks c w)) d c h))
  where
    go : (c : Call) → first_refusal (checks c w) ≡ 0 → on_one d (taken (not_refused c w).said) false c ≡ true → OnlyNoted e (saw c w (not_refused c w))
    go (create m) e h = absurd (false≢true h)
    go (show side) e h = absurd (false≢true h)
    go (on c) e h = n (fitting c w e).0 c (holds_first (is d c) _ h)

pub broken_alone : Obeys ours (Alone broken)
broken_alone c w _ = alone broken line_break w (λ F c. (notes w F c).0) c

pub pressed_alone : Obeys ours (Alone pressed)
pressed_alone c w _ = alone pressed key w (λ F c. (notes w F c).1) c
