-- Proved examples: those marked P, in one table and one statement.
use Rattle.std.specs.Prelude.{ℕ, ◌+◌, ◌≡◌, List, [], ◌∷◌, map}
use Rattle.frame.specs.Frame.{control_of, data_of, made}
use Rattle.reading.specs.declared.Rule.{Rule}
use Rattle.reading.specs.Reading.{frames, left_over}
use Rattle.reading.specs.Received.{Received, a_byte, received_in}
use Rattle.reading.specs.Steps.{cut}
use Rattle.registers.specs.Table.{start_registers}
use Rattle.registers.specs.Writing.{written}
use Rattle.loopside.specs.Sends.{rule_of}
use Rattle.answers.specs.Answers.{Said, frame}
use Rattle.state.specs.Sizes.{start_state}
use Rattle.bridge.specs.Calls.{on, Did, loop_frame, world, step}

-- what is tried: cells held, with C00, C01 and R10 bit 3 on; cells held with R10 bit 3 off; or a frame, control and data, taken by a bridge
-- just created
pub data Trial : Type 0 where
  held : ℕ → ℕ → List ℕ → Trial
  held_off : List ℕ → Trial
  taken : ℕ → ℕ → Trial

-- what comes of it: the frames, and the bytes and breaks that are left; or the answer, and the address
pub data Result : Type 0 where
  reads : List Said → List Received → Result
  answers : Said → ℕ → Result

-- an example: what is tried, and what the paper says comes of it
pub record Example : Type 0 where
  pub trial : Trial
  pub wanted : Result

-- the rule of a bridge just created, with R10 bit 3, C00 and C01 written
abbrev rule : ℕ → ℕ → Rule
rule c0 c1 = rule_of (written (written (written start_registers 10 8) 16 c0) 17 c1)

-- a frame as the paper writes it
abbrev shown_as : ℕ → Said
shown_as f = frame (control_of f) (data_of f)

-- a bridge just created, with margin 1 and the smallest stores
abbrev taking : ℕ → ℕ → Did
taking c d = step (on (loop_frame (made c d))) (world (start_state 1 4 3) (0 ∷ 0 ∷ 0 ∷ 0 ∷ []) (0 ∷ 0 ∷ 0 ∷ []))

-- the frames of the cells held, and what is left
abbrev read_by : Rule → List ℕ → Result
read_by r cells = reads (map shown_as (frames (cut r) (received_in cells))) (left_over (cut r) (received_in cells))

unfoldable pub given : Trial → Result
given (held c0 c1 cells) = read_by (rule c0 c1) cells
given (held_off cells) = read_by (rule_of start_registers) cells
given (taken c d) = answers (taking c d).said (taking c d).world.state.talker.role.address

-- the cell of a byte that a break follows; the cell of any other is the byte
abbrev broken : ℕ → ℕ
broken b = b + 256

abbrev crlf : List ℕ → List Said → List ℕ → Example
crlf xs fs rest = record { trial = held 13 10 xs; wanted = reads fs (map a_byte rest) }

-- the pair is 13, 10 where none is said, and R10 bit 3 is on
unfoldable pub table : List Example
table =
    -- what is undecided waits
    crlf [] [] []
    ∷ crlf (50 ∷ []) [] (50 ∷ [])
    ∷ crlf (50 ∷ 13 ∷ []) [] (50 ∷ 13 ∷ [])
    -- a byte with another behind it, an end byte, and a pair alone, of which nothing is left
    ∷ crlf (50 ∷ 46 ∷ []) (frame 0 50 ∷ []) (46 ∷ [])
    ∷ crlf (50 ∷ 13 ∷ 10 ∷ []) (frame 2 50 ∷ []) []
    ∷ crlf (13 ∷ 10 ∷ []) [] []
    -- half a pair is data, also before a whole one
    ∷ crlf (50 ∷ 13 ∷ 46 ∷ []) (frame 0 50 ∷ frame 0 13 ∷ []) (46 ∷ [])
    ∷ crlf (13 ∷ 13 ∷ 10 ∷ []) (frame 2 13 ∷ []) []
    -- an empty line between two others is removed
    ∷ crlf (50 ∷ 13 ∷ 10 ∷ 13 ∷ 10 ∷ 46 ∷ 13 ∷ 10 ∷ []) (frame 2 50 ∷ frame 2 46 ∷ []) []
    -- a pair of two equal characters
    ∷ record { trial = held 10 10 (50 ∷ 10 ∷ 10 ∷ 10 ∷ 46 ∷ 53 ∷ []); wanted = reads (frame 2 50 ∷ frame 0 10 ∷ frame 0 46 ∷ []) (map a_byte (53 ∷ [])) }
    -- a break is a wall: before a pair, which then closes an empty line; inside it; and where the other half may still come
    ∷ crlf (broken 50 ∷ 13 ∷ 10 ∷ []) (frame 0 50 ∷ []) []
    ∷ crlf (broken 13 ∷ 10 ∷ []) (frame 0 13 ∷ []) (10 ∷ [])
    ∷ crlf (50 ∷ broken 13 ∷ 10 ∷ []) (frame 0 50 ∷ frame 0 13 ∷ []) (10 ∷ [])
    ∷ crlf (50 ∷ broken 13 ∷ []) (frame 0 50 ∷ frame 0 13 ∷ []) []
    ∷ crlf (broken 50 ∷ []) (frame 0 50 ∷ []) []
    ∷ crlf (broken 200 ∷ broken 13 ∷ 10 ∷ []) (frame 0 200 ∷ frame 0 13 ∷ []) (10 ∷ [])
    ∷ record { trial = held 10 10 (50 ∷ broken 10 ∷ 10 ∷ []); wanted = reads (frame 0 50 ∷ frame 0 10 ∷ []) (map a_byte (10 ∷ [])) }
    -- behind an indicator it goes with the last byte
    ∷ crlf (50 ∷ 13 ∷ broken 10 ∷ 46 ∷ []) (frame 2 50 ∷ []) (46 ∷ [])
    ∷ crlf (13 ∷ broken 10 ∷ []) [] []
    -- the bits above the ninth do not count
    ∷ crlf ((50 + 512) ∷ (13 + 1024) ∷ (10 + 65024) ∷ []) (frame 2 50 ∷ []) []
    ∷ crlf ((broken 13 + 2048) ∷ 10 ∷ []) (frame 0 13 ∷ []) (10 ∷ [])
    -- with R10 bit 3 off every byte is a data frame, and marks mean nothing
    ∷ record { trial = held_off (50 ∷ broken 13 ∷ 10 ∷ []); wanted = reads (frame 0 50 ∷ frame 0 13 ∷ frame 0 10 ∷ []) [] }
    -- the last address that can be taken
    ∷ record { trial = taken 5 158; wanted = answers (frame 5 159) 30 }
    ∷ []

-- every example comes out as the paper says
abbrev pub AllAsThePaperSays : Type 0
AllAsThePaperSays = map (λ (x : Example). given x.trial) table ≡ map (λ (x : Example). x.wanted) table
