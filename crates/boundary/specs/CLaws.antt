-- What holds of every C call of a product, and of every run of C calls.
use Rattle.std.specs.Prelude.{ℕ, ◌/◌, ◌%◌, ◌≡◌, true, false, List, length, take, drop, eqb}
use Rattle.machine.specs.Machine.{narrowed, AllFair, finally, Law, Obeys, ObeysAll}
use Rattle.machine.specs.Opening.{Opens}
use Rattle.answers.specs.Answers.{Answered, refused, is_refusal}
use Rattle.boundary.specs.Product.{Product, Held, telling_of, machine_of, shown, said, room, after}
use Rattle.boundary.specs.CCalls.{Lent, c_did, refused_by, store_of, opened, fitting, shown_word, c_step, CPromised}
use Rattle.boundary.specs.Numbers.{c_answer, c_room}
use Rattle.boundary.specs.CRuns.{packed_world, answer_word, words, c_words, Typed, Lendable, Whole, c_telling, c_functions}

module _ (P : Product) where
  -- ---- the answer

  -- What a reader may hold us to, first: two results that a C function's promise allows are equal, the number and every byte of the three
  -- buffers. It is said of `CPromised`, which the contracts of the C functions cite.
  abbrev pub OneResultInC : Type 0
  OneResultInC =
      (c : P.Call) (l : Lent) (n m : ℕ) (b b' xs xs' ys ys' : List ℕ) → CPromised P c l (c_did n b xs ys) → CPromised P c l (c_did m b' xs' ys') →
      (n ≡ m) × ((b ≡ b') × ((xs ≡ xs') × (ys ≡ ys')))

  -- Sizes and refusals, showing: from the oldest on, as far as they stand together, as a part of the buffer of that side; bits 0 to 31 of the
  -- number are its length and bits 32 to 63 its start
  abbrev pub ShownPlace : Type 0
  ShownPlace =
      (side : P.Side) (h : Held P.State) →
      shown P side h ≡ take (shown_word P side h % 4294967296) (drop (shown_word P side h / 4294967296) (store_of P side h))

  -- Sizes and refusals, showing: of any block that is no fitting state an empty part, which is the number 0, and nothing is written
  abbrev pub MisfitShowsNothing : Type 0
  MisfitShowsNothing = (side : P.Side) (l : Lent) → fitting P l ≡ false → c_step P (P.show side) l ≡ record { word = 0; lent = l }

  -- ---- refusals

  -- What is built, the C functions: refusal 2 for a block that is no fitting state, and nothing is written; a block of another length is no
  -- state
  abbrev pub MisfitRefused : Type 0
  MisfitRefused = (c : P.OnState) (l : Lent) → fitting P l ≡ false → c_step P (P.on c) l ≡ refused_by 2 l

  -- Sizes and refusals, the table, create: the length of the block
  abbrev pub WrongBlockRefused : Type 0
  WrongBlockRefused = (m : ℕ) (l : Lent) → eqb (length l.block) P.layout.len ≡ false → c_step P (P.create m) l ≡ refused_by 1 l

  -- Sizes and refusals, below the table: the number alone, and state, stores and block stay; of every C call whose number tells a refusal,
  -- whatever the block is and how long it is
  abbrev pub RefusalKeepsAll : Type 0
  RefusalKeepsAll = (c : P.Call) (l : Lent) → Lendable P l → is_refusal (c_answer P c l) ≡ true → (c_step P c l).lent ≡ l

  -- the same with the whole number, and so without any room
  abbrev pub RefusalAlone : Type 0
  RefusalAlone = (c : P.Call) (l : Lent) (n : ℕ) → Lendable P l → c_answer P c l ≡ refused n → c_step P c l ≡ refused_by n l

  -- ---- every C function is the call of its name

  -- What is built, the lent block: a C call on the block of a state answers the number of what the call answers, and leaves the block of the
  -- state that the call leaves
  abbrev pub SameCall : Type 0
  SameCall =
      (c : P.Call) (w : P.World) → P.layout.Ranged (P.apart w).state →
      c_step P c (packed_world P w) ≡ record { word = answer_word P c w; lent = packed_world P (after P c w) }

  -- each call is given the state as the one before it left it: the buffers at the end of a run are the world at its end
  abbrev pub SameEnd : Type 0
  SameEnd =
      (cs : List P.Call) (w : P.World) → AllFair (c_functions P) cs → Typed P w →
      finally (c_functions P) cs (packed_world P w) ≡ packed_world P (finally (machine_of P) cs w)

  -- the numbers that a run of C calls answers are those of the product's answers
  abbrev pub SameWords : Type 0
  SameWords = (cs : List P.Call) (w : P.World) → AllFair (c_functions P) cs → Typed P w → c_words P cs (packed_world P w) ≡ words P cs w

  -- ---- the same of any block of the one length, a state or not

  -- the world after a C call is the one that the call leaves, and the number is its answer
  pub record Means (c : P.Call) (l : Lent) : Type 0 where
    pub world : opened P (c_step P c l).lent ≡ after P c (opened P l)
    pub word : (c_step P c l).word ≡ answer_word P c (opened P l)

  -- a C call on a block of the one length is the product's call
  abbrev pub CallMeans : Type 0
  CallMeans = (c : P.Call) (l : Lent) → Whole P l → Means c l

  -- the same of a run
  pub record RunMeans (cs : List P.Call) (l : Lent) : Type 0 where
    pub world : opened P (finally (c_functions P) cs l) ≡ finally (machine_of P) cs (opened P l)
    pub words : c_words P cs l ≡ words P cs (opened P l)
    pub whole : Whole P (finally (c_functions P) cs l)

  -- a run of C calls is the run of the product's calls
  abbrev pub RunsMean : Type 0
  RunsMean = (cs : List P.Call) (l : Lent) → AllFair (c_functions P) cs → Whole P l → RunMeans cs l

  -- Forms, answers: the number of a C call tells its whole answer
  abbrev pub AnswersTold : Type 0
  AnswersTold = (c : P.Call) (l : Lent) → Whole P l → c_answer P c l ≡ said P c (opened P l)

  -- and the room that the call tells beside it
  abbrev pub RoomsTold : Type 0
  RoomsTold = (c : P.Call) (l : Lent) → Whole P l → c_room P c l ≡ room P c (opened P l)

  -- ---- laws

  -- step by step the C functions do what the product does on the world that the buffers stand for, a block that is no state included; they answer
  -- the same and tell the same room
  abbrev pub CIsTheProduct : Type 0
  CIsTheProduct = Opens (c_telling P) (telling_of P)

  -- and so where only the answers are seen
  abbrev pub CAnswersAsTheProduct : Type 0
  CAnswersAsTheProduct = Opens (c_functions P) (machine_of P)

  -- so whatever law the product obeys, they obey; of what is told by the answer and the room, a law may see any part: the answers alone, or both
  abbrev pub LawsHoldInC : Type 1
  LawsHoldInC =
      (Part : Type 0) (part : Answered → Part) (L : Law P.World P.Call Part) → Obeys (narrowed part (telling_of P)) L →
      Obeys (narrowed part (c_telling P)) L

  -- and all of a list of laws
  abbrev pub AllHoldInC : Type 1
  AllHoldInC =
      (Part : Type 0) (part : Answered → Part) (Ls : List (Law P.World P.Call Part)) → ObeysAll (narrowed part (telling_of P)) Ls →
      ObeysAll (narrowed part (c_telling P)) Ls
