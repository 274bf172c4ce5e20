-- Runs of our own bridge, by short names: what the proofs speak of.
use Prim.Native.Nat.{ℕ}
use mathlib.Core.Path.{◌≡◌, refl, sym, subst}
use mathlib.Core.Bool.{Bool, true, false, true≢false}
use mathlib.Core.List.{List}
use Rattle.machine.specs.Course as course
use Rattle.machine.specs.Machine as machine
use Rattle.machine.proofs.Course.{left_stands}
use Rattle.answers.specs.Answers.{Said}
use Rattle.bridge.specs.Calls.{Call, on, create, reset, write, line_byte, line_break, key, ask_line_byte, take_line_byte, loop_frame, show, World, step}
use Rattle.laws.specs.Observers.{on_frame}
use Rattle.laws.specs.Spells as run
use Rattle.laws.specs.StatusWay as way
use Rattle.laws.specs.LastSent as last
pub use Rattle.runs.specs.Obeyed.{ours}

abbrev pub answer : Call → World → Said
answer c w = (step c w).said

abbrev pub after : Call → World → World
after c w = (step c w).world

abbrev pub end : List Call → World → World
end cs w = course.end w (machine.course ours cs w)

abbrev pub all : {X : Type 0} → (Call → World → Said → List X) → List Call → World → List X
all see cs w = course.all see (machine.course ours cs w)

abbrev pub some : (Call → World → Said → Bool) → List Call → World → Bool
some see cs w = course.some see (machine.course ours cs w)

abbrev pub Without : (Call → World → Said → Bool) → List Call → World → Type 0
Without see cs w = some see cs w ≡ false

abbrev pub spells : ℕ → List Call → World → List ℕ
spells k cs w = run.spells k w (machine.course ours cs w)

abbrev pub comes_back : List ℕ → List Call → World → Bool
comes_back l cs w = way.comes_back l (machine.course ours cs w)

abbrev pub sent_and_back : List Call → World → Bool
sent_and_back cs w = way.sent_and_back (machine.course ours cs w)

abbrev pub last_sent : Bool → List Call → World → Bool
last_sent k cs w = last.last_sent k (machine.course ours cs w)

-- ---- laws of the bridge

-- what a run leaves, by its end
pub at_left : (P : World → Type 0) (cs : List Call) (w : World) → P (end cs w) → P (machine.finally ours cs w)
at_left P cs w p = subst P (sym (left_stands ours cs w)) p

-- a law of one call, by that call
pub at_call : (P : Call → Type 0) (d : Call) → P d → (c : Call) → c ≡ d → P c
at_call P d p c e = subst P (sym e) p

-- a law of loop frames: any other call shows nothing of the kind
pub frame_or : (P : Call → Type 0) → ((f : ℕ) → P (on (loop_frame f))) → ((c : Call) → on_frame (λ f. true) false c ≡ false → P c) → (c : Call) → P c
frame_or P p q (create m) = q (create m) refl
frame_or P p q (on reset) = q (on reset) refl
frame_or P p q (on (write n v)) = q (on (write n v)) refl
frame_or P p q (on (line_byte b)) = q (on (line_byte b)) refl
frame_or P p q (on line_break) = q (on line_break) refl
frame_or P p q (on key) = q (on key) refl
frame_or P p q (on ask_line_byte) = q (on ask_line_byte) refl
frame_or P p q (on (take_line_byte b)) = q (on (take_line_byte b)) refl
frame_or P p q (on (loop_frame f)) = p f
frame_or P p q (show side) = q (show side) refl

pub off_frame : {X : Type 0} (see : ℕ → X) (x : X) (c : Call) → on_frame (λ f. true) false c ≡ false → on_frame see x c ≡ x
off_frame see x (create m) e = refl
off_frame see x (on reset) e = refl
off_frame see x (on (write n v)) e = refl
off_frame see x (on (line_byte b)) e = refl
off_frame see x (on line_break) e = refl
off_frame see x (on key) e = refl
off_frame see x (on ask_line_byte) e = refl
off_frame see x (on (take_line_byte b)) e = refl
off_frame see x (on (loop_frame f)) e = absurd (true≢false e)
off_frame see x (show side) e = refl
