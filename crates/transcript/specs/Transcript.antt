-- Proved examples, the program onepass: what it prints, by the calls of the bridge.
use Rattle.std.specs.Prelude.{ℕ, zero, suc, ◌+◌, ◌*◌, ◌≡◌, cond, List, [], ◌∷◌, ◌++◌, length, get_or, replicate, eqb, Option, Some, None, Result, Ok, Err}
use Rattle.std.specs.Option.{option_map_or}
use Rattle.answers.specs.declared.Refusal.{Refusal}
use Rattle.answers.specs.Answers.{Said, number_of, fault_of, is_byte, byte_in}
use Rattle.state.specs.declared.State.{State}
use Rattle.state.specs.Sizes.{start_state}
use Rattle.bridge.specs.Calls.{on, write, line_byte, ask_line_byte, take_line_byte, loop_frame, World, world, Did, step, ask_answer}
use Rattle.transcript.specs.declared.Sections.{Sections}
use Rattle.transcript.specs.Input.{high, sections_of}
use Rattle.transcript.specs.Text.{decimal, newline, first_line, line_word, refused_text, answer_text, bytes_text}

-- the state that register pairs leave, and the number of the refusal that ends them, where one does
pub record Set : Type 0 where
  pub state : State
  pub refusal : Option ℕ

-- writing them answered so
abbrev pub Sets : Result State Refusal → Set → Type 0
Sets (Ok s) g = g ≡ record { state = s; refusal = None }
Sets (Err r) g = g.refusal ≡ Some (number_of r)

-- the program, registers: n pairs from place i are written, up to one that is refused
unfoldable pub set_registers : ℕ → List ℕ → ℕ → World → Set
set_registers zero x i w = record { state = w.state; refusal = None }
set_registers (suc n) x i w =
    cond (eqb (fault_of (step (on (write (get_or x i 0) (get_or x (i + 1) 0))) w).said) 0)
    (set_registers n x (i + 2) (step (on (write (get_or x i 0) (get_or x (i + 1) 0))) w).world)
    (record { state = w.state; refusal = Some (fault_of (step (on (write (get_or x i 0) (get_or x (i + 1) 0))) w).said) })

-- the program, then: n line bytes from place i come in
unfoldable pub line_bytes_in : ℕ → List ℕ → ℕ → World → World
line_bytes_in zero x i w = w
line_bytes_in (suc n) x i w = line_bytes_in n x (i + 1) (step (on (line_byte (get_or x i 0))) w).world

-- the program, then: what n frames that are offered from place i print, and the world after them
unfoldable pub frames_text : ℕ → List ℕ → ℕ → World → List ℕ
frames_text zero x i w = []
frames_text (suc n) x i w = answer_text (step (on (loop_frame (high x i))) w).said ++ frames_text n x (i + 2) (step (on (loop_frame (high x i))) w).world

unfoldable pub frames_world : ℕ → List ℕ → ℕ → World → World
frames_world zero x i w = w
frames_world (suc n) x i w = frames_world n x (i + 2) (step (on (loop_frame (high x i))) w).world

-- the program, then: what a take of the byte that an ask answers does after it, with its answer and the world that it leaves
abbrev pub then_takes : World → Did
then_takes w = step (on (take_line_byte (byte_in (ask_answer w)))) (step (on ask_line_byte) w).world

abbrev pub take_answer : World → Said
take_answer w = (then_takes w).said

abbrev pub next_taken : World → World
next_taken w = (then_takes w).world

-- the line bytes that are asked for and taken until there is none, in n asks at most
unfoldable pub line_out : ℕ → World → List ℕ
line_out zero w = []
line_out (suc n) w = cond (is_byte (ask_answer w)) (byte_in (ask_answer w) ∷ line_out n (next_taken w)) []

-- the bytes of a full store, our own go or stop, and the none
abbrev pub asks : ℕ
asks = 66

unfoldable pub line_text : World → List ℕ
line_text w = line_word ++ (decimal (length (line_out asks w)) ++ (bytes_text (line_out asks w) ++ newline))

-- the world when the line bytes have come in, and when the frames are offered too
abbrev pub after_line_bytes : List ℕ → Sections → World → World
after_line_bytes x p w = line_bytes_in p.bytes x (4 + 2 * p.regs) w

abbrev pub last_world : List ℕ → Sections → World → World
last_world x p w = frames_world p.frames x (6 + 2 * p.regs + p.bytes) (after_line_bytes x p w)

-- what is printed behind the first line when the registers are set
unfoldable pub rest_text : List ℕ → Sections → World → List ℕ
rest_text x p w = frames_text p.frames x (6 + 2 * p.regs + p.bytes) (after_line_bytes x p w) ++ line_text (last_world x p w)

-- the program, registers: where one is refused its number is printed and nothing more
unfoldable pub set_text : List ℕ → Sections → Set → List ℕ → List ℕ → List ℕ
set_text x p g rx tx = option_map_or refused_text g.refusal (rest_text x p (world g.state rx tx))

-- the registers set on these stores, from the state that create gives them with margin 8
abbrev pub registers_set : List ℕ → Sections → List ℕ → List ℕ → Set
registers_set x p rx tx = set_registers p.regs x 2 (world (start_state 8 (length rx) (length tx)) rx tx)

-- a run on these stores
unfoldable pub run_text : List ℕ → Sections → List ℕ → List ℕ → List ℕ
run_text x p rx tx = first_line ++ set_text x p (registers_set x p rx tx) rx tx

-- the program, sizes: a store of 64 cells or bytes, all 0
abbrev pub store : List ℕ
store = replicate 64 0

-- all that is printed; of malformed input one line with refusal 9
unfoldable pub printed : List ℕ → List ℕ
printed x = option_map_or (λ p. run_text x p store store) (sections_of x) (refused_text 9)
