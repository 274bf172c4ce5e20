-- Mailboxes that do not keep what is left in a way, or keep what is not.
use Rattle.std.specs.Prelude.{ℕ, ◌-◌, Bool, true, false, cond, ◌&&◌, ◌||◌, not, List, [], ◌∷◌, eqb}
use Rattle.frame.specs.Frame.{control_of, data_of, made, is_data, is_end}
use Rattle.store.specs.declared.Ring.{Ring}
use Rattle.store.specs.Ring.{put_ring, put_bytes}
use Rattle.answers.specs.Answers.{of_refusal}
use Rattle.mailbox.specs.Calls.{Call, World, Did, step}
use Rattle.maillaws.specs.Sights.{Direction, to_bus, to_loop, store_of, ring_of, on_frame, on_bus_byte, loop_listens, loop_active, bus_listens, cell_for, left}
use Rattle.mailwrong.specs.Spoiling.{Sight, instead_at, leaving, with_ring, with_cells}

-- a ring with so many cells held
abbrev pub holding : ℕ → Ring → Ring
holding n r = record { cap = r.cap; oldest = r.oldest; len = n }

abbrev pub without_newest : Direction → World → World
without_newest d w = with_ring d (holding ((ring_of d w).len - 1) (ring_of d w)) w

-- a byte is offered to the way
abbrev offers : Direction → Call → Bool
offers to_bus = on_frame (λ f. true) false
offers to_loop = on_bus_byte (λ b mark. true) false

-- a byte is offered to the way, and there is no room for it
abbrev pub overflows : Direction → Sight
overflows d c w a = offers d c && of_refusal (λ n. eqb n 4) false a

-- takes a byte for which the way d has no room, in the place of the newest one
abbrev pub replaces_newest : Direction → Call → World → Did
replaces_newest d = instead_at (overflows d) (λ c w. step c (without_newest d w))

-- it is the point
abbrev is_point : List ℕ → Bool
is_point [] = false
is_point (x ∷ xs) = eqb x 46

-- takes a point for the way d and does not keep it
abbrev pub loses_point : Direction → Call → World → Did
loses_point d = leaving (λ c w v. cond (is_point (left d c w (step c w).said)) w v)

-- the cell is put into the way
abbrev put : Direction → ℕ → World → World
put d c w = with_ring d (put_ring (ring_of d w)) (with_cells d (put_bytes (store_of d w) (ring_of d w) c) w)

-- the cell of a data frame
abbrev frame_cell : ℕ → ℕ
frame_cell f = cell_for (data_of f) (is_end f)

-- a byte comes that is not for us: the cell that it would be
abbrev for_others : Direction → Call → World → List ℕ
for_others to_bus c w = on_frame (λ f. cond (is_data f && not (loop_listens w || loop_active w)) (frame_cell f ∷ []) []) [] c
for_others to_loop c w = on_bus_byte (λ b mark. cond (bus_listens w) [] (cell_for b mark ∷ [])) [] c

abbrev put_all : Direction → List ℕ → World → World
put_all d [] w = w
put_all d (c ∷ cs) w = put d c w

-- keeps in the way d what is for another listener
abbrev pub keeps_for_others : Direction → Call → World → Did
keeps_for_others d = leaving (λ c w v. put_all d (for_others d c w) v)

-- not ready for data has come round while a frame is held back; a command comes then
abbrev pub releases : World → Call → Bool
releases w = on_frame (λ f. w.state.hold.held && eqb f (made 5 66)) false

abbrev cuts_off : World → Call → Bool
cuts_off w = on_frame (λ f. w.state.hold.held && eqb (control_of f) 4) false

-- stores the byte of a frame that was held back once more when it is released
abbrev pub stores_held_twice : Call → World → Did
stores_held_twice = leaving (λ c w v. cond (releases w c) (put to_bus (frame_cell w.state.hold.frame) v) v)

-- takes the byte of a frame that is held back out of the way when a command comes
abbrev pub takes_held_back : Call → World → Did
takes_held_back = leaving (λ c w v. cond (cuts_off w c) (without_newest to_bus v) v)
