-- The reading rule, over the bytes held and the breaks among them, oldest first; its steps stand in the order of the paper. A break is no byte:
-- no pair has one inside it, no byte is closed by a pair behind one, and where one comes nothing waits for more.
use Rattle.std.specs.Prelude.{ℕ, Bool, true, false, cond, ◌&&◌, ◌||◌, List, [], ◌∷◌, eqb, drop}
use Rattle.frame.specs.Frame.{made}
use Rattle.reading.specs.declared.Rule.{Rule}
use Rattle.reading.specs.declared.Decision.{Decision}
use Rattle.reading.specs.declared.Decision.TheVariants.{Removed, End, Data, Wait}
use Rattle.reading.specs.Reading.{Cut, wait, skip, give}
use Rattle.reading.specs.Received.{Received, a_byte, a_break}

-- the byte x stands here
abbrev pub is_byte : ℕ → Received → Bool
is_byte x (a_byte b) = eqb b x
is_byte x a_break = false

-- the pair C00, C01 stands first
abbrev pub starts_with_pair : Rule → List Received → Bool
starts_with_pair r [] = false
starts_with_pair r (x ∷ []) = false
starts_with_pair r (x ∷ y ∷ xs) = is_byte r.c00 x && is_byte r.c01 y

-- a single byte is there, which is C00, and no break
abbrev pub is_only_c00 : Rule → List Received → Bool
is_only_c00 r [] = false
is_only_c00 r (x ∷ []) = is_byte r.c00 x
is_only_c00 r (x ∷ y ∷ xs) = false

-- no byte is there, and no break
abbrev pub is_nothing : List Received → Bool
is_nothing [] = true
is_nothing (x ∷ xs) = false

-- what the rule decides of the oldest bytes; with nothing held there is nothing to decide
abbrev pub decision : Rule → List Received → Decision
decision r [] = Wait
decision r (x ∷ xs) =
    cond r.on
    -- step 1, a pair is removed
    (cond (starts_with_pair r (x ∷ xs)) Removed
    -- step 1, half a pair waits
    (cond (is_only_c00 r (x ∷ xs)) Wait
    -- step 2, a byte before a pair is an end byte
    (cond (starts_with_pair r xs) End
    -- step 3, a byte that a pair may still follow waits
    (cond (is_nothing xs || is_only_c00 r xs) Wait
    -- step 4, any other byte is a data frame
    Data))))
    -- with R10 bit 3 off every byte is a data frame
    Data

-- how many bytes a decision takes: a pair, an end byte with its pair, or one byte
abbrev pub takes : Decision → ℕ
takes Removed = 2
takes End = 3
takes Data = 1
takes Wait = 0

-- a decision carried out, where b is the oldest byte of xs: an end byte has control 2, a data frame control 0
abbrev pub carried : Decision → ℕ → List Received → Cut Received ℕ
carried Removed b xs = skip (drop (takes Removed) xs)
carried End b xs = give (made 2 b) (drop (takes End) xs)
carried Data b xs = give (made 0 b) (drop (takes Data) xs)
carried Wait b xs = wait

-- what the rule makes of what is held; a break that no byte stands before is passed over
unfoldable pub cut : Rule → List Received → Cut Received ℕ
cut r [] = wait
cut r (a_break ∷ xs) = skip xs
cut r (a_byte b ∷ xs) = carried (decision r (a_byte b ∷ xs)) b (a_byte b ∷ xs)
