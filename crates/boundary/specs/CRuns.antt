-- Runs of C calls beside runs of the product's calls.
use Rattle.std.specs.Prelude.{ℕ, ◌≡◌, List, [], ◌∷◌, length}
use Rattle.machine.specs.Machine.{Machine, narrowed}
use Rattle.answers.specs.Answers.{Said, Answered}
use Rattle.answers.specs.Word.{word, word_with}
use Rattle.store.specs.Bytes.{Bytes}
use Rattle.codec.specs.Blocks.{packed}
use Rattle.boundary.specs.Product.{Product, Held, Kind, creating, showing, calling, said, room, after}
use Rattle.boundary.specs.CCalls.{Lent, lent, opened, shown_word, c_step}
use Rattle.boundary.specs.Numbers.{c_answer, c_room}

module _ (P : Product) where
  -- the buffers that a state and its stores, and so a world, are lent in
  abbrev pub packed_held : Held P.State → Lent
  packed_held h = lent (packed P.layout h.state) h.first h.second

  abbrev pub packed_world : P.World → Lent
  packed_world w = packed_held (P.apart w)

  -- the number that a call is answered by in C
  unfoldable pub word_by : Kind P.Side P.OnState → P.Call → P.World → ℕ
  word_by (creating m) c w = word (said P c w)
  word_by (showing side) c w = shown_word P side (P.apart w)
  word_by (calling x) c w = word_with (said P c w) (room P c w)

  unfoldable pub answer_word : P.Call → P.World → ℕ
  answer_word c w = word_by (P.kind c) c w

  -- the numbers that the answers of a run of the product's calls are
  unfoldable pub words : List P.Call → P.World → List ℕ
  words [] w = []
  words (c ∷ cs) w = answer_word c w ∷ words cs (after P c w)

  -- the numbers that the same run of C calls answers
  unfoldable pub c_words : List P.Call → Lent → List ℕ
  c_words [] l = []
  c_words (c ∷ cs) l = (c_step P c l).word ∷ c_words cs (c_step P c l).lent

  -- what the types of the code give of every world: numbers that fit their places, and stores of the right numbers
  pub record Typed (w : P.World) : Type 0 where
    pub state : P.layout.Ranged (P.apart w).state
    pub fine : P.Fine w

  -- what the types of the C functions give of lent buffers: a block of bytes, and stores of the right numbers
  pub record Lendable (l : Lent) : Type 0 where
    pub block : Bytes l.block
    pub first : P.FirstStored l.first
    pub second : P.SecondStored l.second

  -- and a lent block of the one length, a state or not
  pub record Whole (l : Lent) : Type 0 where
    pub size : length l.block ≡ P.layout.len
    pub lendable : Lendable l

  -- the C functions as a machine: the buffers stand for a world, and the number tells the answer and the room beside it; the types give a block
  -- of the one length, bytes and right numbers
  abbrev pub c_telling : Machine P.World P.Call Answered
  c_telling =
      record {
        Own = Lent;
        stands = opened P;
        answer = λ c l. record { said = c_answer P c l; room = c_room P c l };
        after = λ c l. (c_step P c l).lent;
        Fine = Whole;
        Fair = P.Fair;
      }

  -- the same where only the answers are seen
  abbrev pub c_functions : Machine P.World P.Call Said
  c_functions = narrowed (λ a. a.said) c_telling
