-- A break is a wall, by the reading rule. Assumes nothing.
use Prim.Native.Nat.{ℕ}
use mathlib.Core.Path.{◌≡◌, refl, sym, ap, ◌∙◌}
use mathlib.Core.Bool.{Bool, true, false, cond, ◌&&◌, false≢true}
use mathlib.Core.List.{List, [], ◌∷◌, ◌++◌, append_assoc, append-nil}
use Rattle.reading.specs.declared.Rule.{Rule}
use Rattle.reading.specs.declared.Decision.{Decision}
use Rattle.reading.specs.declared.Decision.TheVariants.{Removed, End, Data, Wait}
use Rattle.frame.specs.Frame.{made}
use Rattle.reading.specs.Reading.{Cut, wait, skip, give, frames, left_over}
use Rattle.reading.specs.Received.{Received, a_byte, a_break, as_held}
use Rattle.reading.specs.Steps.{is_byte, decision, carried, cut}
use Rattle.reading.specs.Walls.{data_frames, Walled}
use Rattle.reading.proofs.Cuts.{skip_stays, give_stays, by_cuts_lem}
use Rattle.reading.proofs.Reading.{frames_at, left_at, frames_ahead, left_ahead}
use Rattle.reading.proofs.Lawful.{lawful}

module _ (r : Rule) where
  abbrev C : List Received → Cut Received ℕ
  C = cut r

  -- what is read and what is left where a break comes behind
  record AtBreak (xs : List Received) : Type 0 where
    reads : frames C (xs ++ (a_break ∷ [])) ≡ frames C xs ++ data_frames (left_over C xs)
    left : left_over C (xs ++ (a_break ∷ [])) ≡ []

  -- a break passed over
  past : (xs : List Received) → (frames C (a_break ∷ xs) ≡ frames C xs) × (left_over C (a_break ∷ xs) ≡ left_over C xs)
  past xs = (frames_at C (lawful r) (a_break ∷ xs) (skip xs) e, left_at C (lawful r) (a_break ∷ xs) (skip xs) e)
    where
      e : C (a_break ∷ xs) ≡ skip xs
      e = unfold cut in refl

  -- what is undecided where a break comes behind
  one_waits : (b : ℕ) → C (a_byte b ∷ a_break ∷ []) ≡ give (made 0 b) (a_break ∷ [])
  unfolding cut
  one_waits b = ap (λ d. carried d b (a_byte b ∷ a_break ∷ [])) (go r.on (is_byte r.c00 (a_byte b)))
    where
      go : (on p : Bool) → cond on (cond (p && false) Removed Data) Data ≡ Data
      go true true = refl
      go true false = refl
      go false p = refl

  -- a byte and C00, no pair
  two_wait : (b c : ℕ) → decision r (a_byte b ∷ a_byte c ∷ []) ≡ Wait → C (a_byte b ∷ a_byte c ∷ a_break ∷ []) ≡ give (made 0 b) (a_byte c ∷ a_break ∷ [])
  unfolding cut
  two_wait b c e =
      ap (λ d. carried d b (a_byte b ∷ a_byte c ∷ a_break ∷ []))
      (go r.on (is_byte r.c00 (a_byte b) && is_byte r.c01 (a_byte c)) (is_byte r.c00 (a_byte c)) e)
    where
      go : (on p s : Bool) → cond on (cond p Removed (cond s Wait Data)) Data ≡ Wait → cond on (cond p Removed (cond (s && false) End Data)) Data ≡ Data
      go true true s e = let z : Removed ≡ Wait = e in cc
      go true false true e = refl
      go true false false e = refl
      go false p s e = refl

  -- a break, and nothing behind
  abbrev brk : List Received
  brk = a_break ∷ []

  break_alone : (frames C brk ≡ []) × (left_over C brk ≡ [])
  break_alone = ((past []).0 ∙ frames_at C (lawful r) [] wait (unfold cut in refl), (past []).1 ∙ left_at C (lawful r) [] wait (unfold cut in refl))

  one_read : (b : ℕ) → (frames C (a_byte b ∷ brk) ≡ made 0 b ∷ []) × (left_over C (a_byte b ∷ brk) ≡ [])
  one_read b = (
    frames_at C (lawful r) _ _ (one_waits b) ∙ ap (λ l. made 0 b ∷ l) break_alone.0,
    left_at C (lawful r) _ _ (one_waits b) ∙ break_alone.1,
  )

  -- a decision that was wait stays apart from the others
  not_wait : (d : Decision) (b : ℕ) (xs : List Received) → carried d b xs ≡ wait → d ≡ Wait
  not_wait Removed b xs e = let z : carried Removed b xs ≡ wait = e in cc
  not_wait End b xs e = let z : carried End b xs ≡ wait = e in cc
  not_wait Data b xs e = let z : carried Data b xs ≡ wait = e in cc
  not_wait Wait b xs e = refl

  skip_waits : (c : Cut Received ℕ) (xs : List Received) → c ≡ skip xs → c ≡ wait → ⊥
  skip_waits c xs p q = false≢true cc

  give_waits : (c : Cut Received ℕ) (f : ℕ) (xs : List Received) → c ≡ give f xs → c ≡ wait → ⊥
  give_waits c f xs p q = false≢true cc

  -- three are always decided
  decided_three : (b : ℕ) (x y : Received) (xs : List Received) → decision r (a_byte b ∷ x ∷ y ∷ xs) ≡ Wait → ⊥
  decided_three b x y xs = go r.on (is_byte r.c00 (a_byte b) && is_byte r.c01 x) (is_byte r.c00 x && is_byte r.c01 y)
    where
      go : (on p q : Bool) → cond on (cond p Removed (cond q End Data)) Data ≡ Wait → ⊥
      go true true q e = let z : Removed ≡ Wait = e in false≢true cc
      go true false true e = let z : End ≡ Wait = e in false≢true cc
      go true false false e = let z : Data ≡ Wait = e in false≢true cc
      go false p q e = let z : Data ≡ Wait = e in false≢true cc

  waits : (xs : List Received) → C xs ≡ wait → (frames C (xs ++ brk) ≡ data_frames xs) × (left_over C (xs ++ brk) ≡ [])
  unfolding cut data_frames
  waits [] e = break_alone
  waits (a_break ∷ xs) e = absurd (skip_waits _ xs refl e)
  waits (a_byte b ∷ []) e = one_read b
  waits (a_byte b ∷ a_break ∷ []) e = absurd (give_waits _ (made 0 b) brk (one_waits b) e)
  waits (a_byte b ∷ a_byte c ∷ []) e =
      let f = two_wait b c (not_wait (decision r (a_byte b ∷ a_byte c ∷ [])) b _ e) in (
        frames_at C (lawful r) _ _ f ∙ ap (λ l. made 0 b ∷ l) (one_read c).0,
        left_at C (lawful r) _ _ f ∙ (one_read c).1,
      )
  waits (a_byte b ∷ x ∷ y ∷ xs) e = absurd (decided_three b x y xs (not_wait (decision r (a_byte b ∷ x ∷ y ∷ xs)) b _ e))

  at_break : (xs : List Received) → AtBreak xs
  at_break =
      by_cuts_lem C (lawful r) AtBreak
      (λ xs e.
      let w = waits xs e in
      record { reads = w.0 ∙ sym (λ i. frames_at C (lawful r) xs wait e i ++ data_frames (left_at C (lawful r) xs wait e i)); left = w.1 })
      (λ xs s e ih.
      let f : C (xs ++ brk) ≡ skip (s ++ brk) = skip_stays C (lawful r) xs s brk e in
      record {
        reads = frames_at C (lawful r) _ _ f ∙ ih.reads
            ∙ sym (λ i. frames_at C (lawful r) xs (skip s) e i ++ data_frames (left_at C (lawful r) xs (skip s) e i));
        left = left_at C (lawful r) _ _ f ∙ ih.left;
      })
      (λ xs g s e ih.
      let f : C (xs ++ brk) ≡ give g (s ++ brk) = give_stays C (lawful r) xs g s brk e in
      record {
        reads = frames_at C (lawful r) _ _ f ∙ ap (λ l. g ∷ l) ih.reads
            ∙ sym (λ i. frames_at C (lawful r) xs (give g s) e i ++ data_frames (left_at C (lawful r) xs (give g s) e i));
        left = left_at C (lawful r) _ _ f ∙ ih.left;
      })

  behind : (xs ys : List Received) → frames C (xs ++ (a_break ∷ ys)) ≡ frames C (xs ++ brk) ++ frames C ys
  behind xs ys =
      ap (frames C) (sym (append_assoc xs brk ys))
      ∙ frames_ahead C (lawful r) (xs ++ brk) ys
      ∙ ap (λ l. frames C (xs ++ brk) ++ frames C (l ++ ys)) (at_break xs).left

  behind_left : (xs ys : List Received) → left_over C (xs ++ (a_break ∷ ys)) ≡ left_over C ys
  behind_left xs ys =
      ap (left_over C) (sym (append_assoc xs brk ys))
      ∙ left_ahead C (lawful r) (xs ++ brk) ys
      ∙ ap (λ l. left_over C (l ++ ys)) (at_break xs).left

  idle : (xs ys : List Received) → left_over C xs ≡ [] → frames C (xs ++ (a_break ∷ ys)) ≡ frames C (xs ++ ys)
  unfolding data_frames
  idle xs ys e =
      behind xs ys
      ∙ ap (λ l. l ++ frames C ys) ((at_break xs).reads ∙ ap (λ l. frames C xs ++ data_frames l) e ∙ append-nil (frames C xs))
      ∙ sym (frames_ahead C (lawful r) xs ys ∙ ap (λ l. frames C xs ++ frames C (l ++ ys)) e)

  -- two lists that are read alike
  record Alike (xs ys : List Received) : Type 0 where
    reads : frames C xs ≡ frames C ys
    left : left_over C xs ≡ left_over C ys

  -- the same list, written in another way
  alike_as : {xs ys zs : List Received} → xs ≡ ys → Alike ys zs → Alike xs zs
  alike_as e a = record { reads = ap (frames C) e ∙ a.reads; left = ap (left_over C) e ∙ a.left }

  alike_to : {xs ys zs : List Received} → Alike xs ys → ys ≡ zs → Alike xs zs
  alike_to a e = record { reads = a.reads ∙ ap (frames C) e; left = a.left ∙ ap (left_over C) e }

  -- behind a break
  alike_behind : (ps : List Received) {xs ys : List Received} → Alike xs ys → Alike (ps ++ (a_break ∷ xs)) (ps ++ (a_break ∷ ys))
  alike_behind ps {xs} {ys} a =
      record {
        reads = behind ps xs ∙ ap (λ l. frames C (ps ++ brk) ++ l) a.reads ∙ sym (behind ps ys);
        left = behind_left ps xs ∙ a.left ∙ sym (behind_left ps ys);
      }

  -- as it is held, and as it came: bytes may stand before the first byte
  record AsRead (xs : List Received) : Type 0 where
    after : (ps : List Received) (b : ℕ) → Alike (ps ++ as_held (a_byte b ∷ xs)) (ps ++ (a_byte b ∷ xs))
    alone : Alike (as_held xs) xs

  as_read : (xs : List Received) → AsRead xs
  unfolding as_held
  as_read [] = record { after = λ ps b. record { reads = refl; left = refl }; alone = record { reads = refl; left = refl } }
  as_read (a_break ∷ xs) =
      let ih = as_read xs in
      record {
        after = λ ps b.
            alike_as (sym (append_assoc ps (a_byte b ∷ []) (a_break ∷ as_held xs)))
            (alike_to (alike_behind (ps ++ (a_byte b ∷ [])) ih.alone) (append_assoc ps (a_byte b ∷ []) (a_break ∷ xs)));
        alone = record { reads = ih.alone.reads ∙ sym (past xs).0; left = ih.alone.left ∙ sym (past xs).1 };
      }
  as_read (a_byte c ∷ xs) =
      let ih = as_read xs in
      record {
        after = λ ps b.
            alike_as (sym (append_assoc ps (a_byte b ∷ []) (as_held (a_byte c ∷ xs))))
            (alike_to (ih.after (ps ++ (a_byte b ∷ [])) c) (append_assoc ps (a_byte b ∷ []) (a_byte c ∷ xs)));
        alone = ih.after [] c;
      }

  once : (xs ys : List Received) → frames C (as_held xs ++ ys) ≡ frames C (xs ++ ys)
  once xs ys =
      let a = (as_read xs).alone in
      frames_ahead C (lawful r) (as_held xs) ys
      ∙ (λ i. a.reads i ++ frames C (a.left i ++ ys))
      ∙ sym (frames_ahead C (lawful r) xs ys)

-- a break is a wall
pub walled : (r : Rule) → Walled (cut r)
walled r =
    record {
      decided = λ xs. (lawful r).stays xs (a_break ∷ []);
      before = λ xs. (at_break r xs).reads;
      left = λ xs. (at_break r xs).left;
      behind = behind r;
      rest = behind_left r;
      idle = idle r;
      twice = λ xs ys. behind r xs (a_break ∷ ys) ∙ ap (λ l. frames (cut r) (xs ++ (a_break ∷ [])) ++ l) (past r ys).0 ∙ sym (behind r xs ys);
      first = λ ys. (past r ys).0;
      once = once r;
    }
