-- Proved examples, the program onepass: behind the line bytes that are printed none is next.
use Rattle.std.specs.Prelude.{ℕ, zero, suc, ◌≤◌, ◌≡◌, true, cond, List}
use Rattle.answers.specs.Answers.{done, none, is_byte}
use Rattle.bridge.specs.Calls.{World, world, ask_answer}
use Rattle.transcript.specs.declared.Sections.{Sections}
use Rattle.transcript.specs.Transcript.{take_answer, next_taken, line_out, asks, last_world, registers_set, store}

-- the world after the bytes of `line_out`
unfoldable pub line_world : ℕ → World → World
line_world zero w = w
line_world (suc n) w = cond (is_byte (ask_answer w)) (line_world n (next_taken w)) w

-- the world after the last frame, whose line bytes are printed unless a register is refused
abbrev pub run_world : List ℕ → Sections → World
run_world x p = last_world x p (world (registers_set x p store store).state store store)

-- the asks of the program are enough: another is answered by none, and more of them give no other bytes
pub record Enough (w : World) : Type 0 where
  pub answer : ask_answer (line_world asks w) ≡ none
  -- each byte that is printed is taken, and no take is refused
  pub takes_done : (n : ℕ) → is_byte (ask_answer (line_world n w)) ≡ true → take_answer (line_world n w) ≡ done
  pub same : (n : ℕ) → asks ≤ n → line_out n w ≡ line_out asks w

-- for every input, whatever its sections
abbrev pub UntilNone : Type 0
UntilNone = (x : List ℕ) (p : Sections) → Enough (run_world x p)
