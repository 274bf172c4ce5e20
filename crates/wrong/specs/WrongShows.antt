-- Bridges that show a store wrongly, or whose margin goes wrong.
use Rattle.std.specs.Prelude.{ℕ, ◌%◌, cond, ◌&&◌, List, [], ◌∷◌, map, eqb}
use Rattle.answers.specs.Answers.{part, done}
use Rattle.state.specs.Sizes.{start_state}
use Rattle.bridge.specs.Calls.{Call, World, world, Did, misfit}
use Rattle.laws.specs.Observers.{on_write, clears}
use Rattle.laws.specs.Worlds.{held_cells}
use Rattle.wrong.specs.Changing.{answering, afterwards, with_margin, is_show}

-- shows an empty part whatever is held
abbrev pub shows_nothing : Call → World → Did
shows_nothing = answering (λ c w a. cond (is_show c) (part []) a)

-- shows the cells of the receive store though the state does not fit
abbrev pub shows_misfits : Call → World → Did
shows_misfits = answering (λ c w a. cond (is_show c && (misfit w).given) (part w.rx) a)

-- shows the bytes of the receive store without their marks
abbrev pub shows_bytes : Call → World → Did
shows_bytes = answering (λ c w a. cond (is_show c) (part (map (λ n. n % 256) (held_cells w))) a)

-- a device clear sets the margin to 1
abbrev pub clears_margin : Call → World → Did
clears_margin = afterwards (λ c w s. cond (clears c w done) (with_margin s 1) s)

-- writing R11 sets the margin to 1
abbrev pub writes_margin : Call → World → Did
writes_margin = afterwards (λ c w s. on_write (λ n v. cond (eqb n 11) (with_margin s 1) s) s c)

-- a world whose margin is 2
abbrev pub wide_bytes : List ℕ
wide_bytes = 49 ∷ 50 ∷ 51 ∷ 52 ∷ 53 ∷ 54 ∷ []

abbrev pub wide : World
wide = world (start_state 2 6 3) wide_bytes (65 ∷ 66 ∷ 67 ∷ [])
