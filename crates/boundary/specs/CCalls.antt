-- What the C functions of a product do: numbers and buffers, the state in a lent block of one length, and refusal 2 for a block that is no
-- fitting state; showing alone gets no refusal.
use Rattle.std.specs.Prelude.{ℕ, ◌+◌, ◌*◌, ◌≡◌, Bool, cond, List, length, eqb}
use Rattle.answers.specs.Answers.{Said, refused, part, is_refusal}
use Rattle.answers.specs.Word.{word, word_with}
use Rattle.codec.specs.Blocks.{packed, meaning, fitting_block}
use Rattle.boundary.specs.Product.{Product, Held, held, Kind, creating, showing, calling, shown, said, room, after}

-- the buffers lent at every call
pub record Lent : Type 0 where
  pub block : List ℕ
  pub first : List ℕ
  pub second : List ℕ

abbrev pub lent : List ℕ → List ℕ → List ℕ → Lent
lent b first second = record { block = b; first = first; second = second }

-- what a C call did: the number that it answered, and the buffers after it
pub record CDid : Type 0 where
  pub word : ℕ
  pub lent : Lent

abbrev pub c_did : ℕ → List ℕ → List ℕ → List ℕ → CDid
c_did n b first second = record { word = n; lent = lent b first second }

-- a call that answered this refusal and left the buffers as they were
abbrev pub refused_by : ℕ → Lent → CDid
refused_by n l = record { word = word (refused n); lent = l }

-- of showing: the part's length in bits 0 to 31, and in bits 32 to 63 where it starts in its store
abbrev pub place_word : ℕ → ℕ → ℕ
place_word start len = 4294967296 * start + len

module _ (P : Product) where
  -- the store of a side
  abbrev pub store_of : P.Side → Held P.State → List ℕ
  store_of side h = cond (eqb (P.side_number side) 0) h.first h.second

  -- the state that a block means, and the world that lent buffers stand for
  abbrev pub state_in : List ℕ → P.State
  state_in b = meaning P.layout P.no_state b

  abbrev pub held_in : Lent → Held P.State
  held_in l = held (state_in l.block) l.first l.second

  abbrev pub opened : Lent → P.World
  opened l = P.world (held_in l)

  -- the block is a state that fits the two stores
  abbrev pub fitting : Lent → Bool
  fitting l = fitting_block P.layout (λ s. P.fits s (length l.first) (length l.second)) l.block

  -- the block after a call: a refusal leaves it as it was
  abbrev pub block_after : List ℕ → Said → P.State → List ℕ
  block_after b d s = cond (is_refusal d) b (packed P.layout s)

  -- what a call did, for a caller that lent these buffers: the number of its answer, and what it left
  unfoldable pub closed : Lent → ℕ → Said → Held P.State → CDid
  closed l n d h = c_did n (block_after l.block d h.state) h.first h.second

  -- Sizes and refusals, the table, create: a size, or the length of the block; it tells no room
  unfoldable pub created_for : Lent → Said → Held P.State → CDid
  created_for l d h = cond (eqb (length l.block) P.layout.len) (closed l (word d) d h) (refused_by 1 l)

  -- a call on a state tells the room beside its answer
  unfoldable pub called_for : Lent → Said → ℕ → Held P.State → CDid
  called_for l d n h = closed l (word_with d n) d h

  -- Sizes and refusals, showing: an empty part is the number 0
  abbrev pub place_of : P.Side → P.State → ℕ
  place_of side s = cond (eqb (P.side_number side) 0) (P.first_ring s).oldest (P.second_ring s).oldest

  unfoldable pub shown_word : P.Side → Held P.State → ℕ
  shown_word side h = cond (eqb (length (shown P side h)) 0) 0 (place_word (place_of side h.state) (word (part (shown P side h))))

  -- every C function is the call of its name on the world that the buffers stand for; by the kind of the call
  unfoldable pub c_by : Kind P.Side P.OnState → P.Call → Lent → CDid
  c_by (creating m) c l = created_for l (said P c (opened l)) (P.apart (after P c (opened l)))
  c_by (showing side) c l = record { word = shown_word side (held_in l); lent = l }
  c_by (calling x) c l = called_for l (said P c (opened l)) (room P c (opened l)) (P.apart (after P c (opened l)))

  unfoldable pub c_step : P.Call → Lent → CDid
  c_step c l = c_by (P.kind c) c l

  -- what every C function promises, lent these buffers: it did this
  abbrev pub CPromised : P.Call → Lent → CDid → Type 0
  CPromised c l x = x ≡ c_step c l
