-- One turn of each loop, on plain values: what is left to do from here is what was to be done. Assumes nothing.
use Rattle.std.proofs.Common.{◌≡◌, ℕ, zero, suc, rules, Result, Ok, Err, IsOk, IsErrAnd, Some, None, ap₂, ◌+◌, ◌-◌, ◌*◌, ◌/◌, ◌≤◌, ◌<◌, List, [], ◌∷◌, ◌++◌, cond, false, length, get_or, take, drop, refl, sym, ap, ◌∙◌, arith, get_or-take, get_or-drop, drop-drop, length-take, length-drop, append_assoc, append-nil, eq-eqb, ne_eqb}
use Rattle.std.specs.Simd.{first_chunks}
use lib.Dec.{eqb}
use Rattle.answers.specs.declared.Refusal.{Refusal}
use Rattle.answers.specs.declared.Refusal.TheVariants as refusal
use Rattle.state.specs.declared.State.{State}
use Rattle.answers.specs.Answers.{Said, done, byte, refused, number_of, fault_of, is_byte, byte_in}
use Rattle.answers.proofs.Answers.{answer_faultless, refusal_numbered}
use Rattle.state.specs.Outcome.{Outcome}
use Rattle.bridge.specs.Calls.{on, write, line_byte, take_line_byte, loop_frame, World, world, Did, did, step, ask_answer}
use Rattle.bridge.proofs.Asks.{ask_leaves}
use Rattle.transcript.specs.Text.{answer_text}
use Rattle.transcript.specs.Input.{high}
use Rattle.transcript.specs.Transcript.{Set, Sets, set_registers, line_bytes_in, frames_text, frames_world, then_takes, next_taken, line_out}
use Rattle.transcript.proofs.Asks.{take_done}

-- ---- pairs of bytes

-- m pairs, and which stands at k
pair_of : (k m : ℕ) (xs d : List ℕ) → k < m → get_or (first_chunks 2 m xs) k d ≡ take 2 (drop (2 * k) xs)
pair_of k zero xs d h = absurd (omega arith)
pair_of zero (suc m) xs d h = refl
pair_of (suc k) (suc m) xs d h =
    let e : 2 * k + 2 ≡ 2 * suc k = omega arith in
    pair_of k m (drop 2 xs) d (omega arith) ∙ ap (take 2) (drop-drop (2 * k) 2 xs) ∙ ap (λ (j : ℕ). take 2 (drop j xs)) (omega arith)

pub pair_at : (xs : List ℕ) (k j : ℕ) {pairs : List (List ℕ)} → k < length xs / 2 → j < 2 → pairs ≡ first_chunks 2 (length xs / 2) xs →
    get_or (get_or pairs k []) j 0 ≡ get_or xs (2 * k + j) 0
pair_at xs k j h s e =
    ap (λ (ps : List (List ℕ)). get_or (get_or ps k []) j 0) e ∙ ap (λ (ds : List ℕ). get_or ds j 0) (pair_of k (length xs / 2) xs [] h)
    ∙ get_or-take 2 (drop (2 * k) xs) j 0 s ∙ get_or-drop (2 * k) xs j 0

pub first_at : (xs : List ℕ) (k : ℕ) {pairs : List (List ℕ)} → k < length xs / 2 → pairs ≡ first_chunks 2 (length xs / 2) xs →
    get_or (get_or pairs k []) 0 0 ≡ get_or xs (2 * k) 0
first_at xs k h e = pair_at xs k 0 h (omega arith) e ∙ ap (λ (j : ℕ). get_or xs j 0) (omega arith)

-- the number in a pair, high byte first
pub high_pair : (xs : List ℕ) (k : ℕ) {f : ℕ} {pairs : List (List ℕ)} → k < length xs / 2 → pairs ≡ first_chunks 2 (length xs / 2) xs →
    f ≡ get_or (get_or pairs k []) 0 0 * 256 + get_or (get_or pairs k []) 1 0 → f ≡ high xs (2 * k)
high_pair xs k h e g = omega (arith, g, first_at xs k h e, pair_at xs k 1 h (omega arith) e)

-- ---- the turns, by the items done

one_less : (n k : ℕ) → k < n → n - k ≡ suc (n - (k + 1))
one_less n k h = omega arith

none_left : (n k : ℕ) → n ≤ k → 0 ≡ n - k
none_left n k h = omega arith

pub registers_turn : (x : List ℕ) (n k : ℕ) (w : World) → k < n →
    set_registers (n - k) x (2 * k) w ≡
    cond (eqb (fault_of (step (on (write (get_or x (2 * k) 0) (get_or x (2 * k + 1) 0))) w).said) 0)
    (set_registers (n - (k + 1)) x (2 * k + 2) (step (on (write (get_or x (2 * k) 0) (get_or x (2 * k + 1) 0))) w).world)
    (record { state = w.state; refusal = Some (fault_of (step (on (write (get_or x (2 * k) 0) (get_or x (2 * k + 1) 0))) w).said) })
unfolding set_registers
registers_turn x n k w h = ap (λ (m : ℕ). set_registers m x (2 * k) w) (one_less n k h)

pub line_in_turn : (x : List ℕ) (n k : ℕ) (w : World) → k < n →
    line_bytes_in (n - k) x k w ≡ line_bytes_in (n - (k + 1)) x (k + 1) (step (on (line_byte (get_or x k 0))) w).world
unfolding line_bytes_in
line_in_turn x n k w h = ap (λ (m : ℕ). line_bytes_in m x k w) (one_less n k h)

pub frames_turn : (x : List ℕ) (n k : ℕ) (w : World) → k < n →
    frames_text (n - k) x (2 * k) w ≡
    answer_text (step (on (loop_frame (high x (2 * k)))) w).said ++ frames_text (n - (k + 1)) x (2 * k + 2) (step (on (loop_frame (high x (2 * k)))) w).world
unfolding frames_text
frames_turn x n k w h = ap (λ (m : ℕ). frames_text m x (2 * k) w) (one_less n k h)

pub world_turn : (x : List ℕ) (n k : ℕ) (w : World) → k < n →
    frames_world (n - k) x (2 * k) w ≡ frames_world (n - (k + 1)) x (2 * k + 2) (step (on (loop_frame (high x (2 * k)))) w).world
unfolding frames_world
world_turn x n k w h = ap (λ (m : ℕ). frames_world m x (2 * k) w) (one_less n k h)

pub line_turn : (n k : ℕ) (w : World) → k < n →
    line_out (n - k) w ≡ cond (is_byte (ask_answer w)) (byte_in (ask_answer w) ∷ line_out (n - (k + 1)) (next_taken w)) []
unfolding line_out
line_turn n k w h = ap (λ (m : ℕ). line_out m w) (one_less n k h)

-- ---- what the loops keep

-- every refusal has a number above 0
some_number : (r : Refusal) → number_of r ≡ 0 → ⊥
some_number refusal.Sizes e = omega (arith, e)
some_number refusal.Misfit e = omega (arith, e)
some_number refusal.LargeFrame e = omega (arith, e)
some_number refusal.Busy e = omega (arith, e)
some_number refusal.NotCarried e = omega (arith, e)
some_number refusal.LargeValue e = omega (arith, e)
some_number refusal.BitNotCarried e = omega (arith, e)
some_number refusal.GoIsStop e = omega (arith, e)
some_number refusal.Malformed e = omega (arith, e)
some_number refusal.HeldLine e = omega (arith, e)
some_number refusal.NotNext e = omega (arith, e)
some_number refusal.LargeCommand e = omega (arith, e)

-- a write that is done, and one that is refused
pub set_again : (x : List ℕ) (n k a b : ℕ) (w : World) (t : State) (rx' tx' : List ℕ) (o : Outcome) {total : Set} → k < n → a ≡ get_or x (2 * k) 0 →
    b ≡ get_or x (2 * k + 1) 0 → did t (Ok o) rx' tx' ≡ step (on (write a b)) w →
    set_registers (n - k) x (2 * k) w ≡ total → set_registers (n - (k + 1)) x (2 * (k + 1)) (world o.state rx' tx') ≡ total
set_again x n k a b w t rx' tx' o h p q e inv =
    let there : did t (Ok o) rx' tx' ≡ step (on (write (get_or x (2 * k) 0) (get_or x (2 * k + 1) 0))) w = cc in
    let told : fault_of (step (on (write (get_or x (2 * k) 0) (get_or x (2 * k + 1) 0))) w).said ≡ 0 =
    ap (λ (d : Did). fault_of d.said) (sym there) ∙ answer_faultless o.answer in
    let next : world o.state rx' tx' ≡ (step (on (write (get_or x (2 * k) 0) (get_or x (2 * k + 1) 0))) w).world = ap (λ (d : Did). d.world) there in
    let place : 2 * (k + 1) ≡ 2 * k + 2 = omega arith in
    ap₂ (λ (j : ℕ) (v : World). set_registers (n - (k + 1)) x j v) place next ∙ sym (registers_turn x n k w h ∙ rw (eq-eqb _ 0 told)) ∙ inv

pub set_stops : (x : List ℕ) (n k a b : ℕ) (w : World) (t : State) (rx' tx' : List ℕ) (r : Refusal) {total : Set} → k < n → a ≡ get_or x (2 * k) 0 →
    b ≡ get_or x (2 * k + 1) 0 → did t (Err r) rx' tx' ≡ step (on (write a b)) w →
    set_registers (n - k) x (2 * k) w ≡ total → total.refusal ≡ Some (number_of r)
set_stops x n k a b w t rx' tx' r {total} h p q e inv =
    let there : did t (Err r) rx' tx' ≡ step (on (write (get_or x (2 * k) 0) (get_or x (2 * k + 1) 0))) w = cc in
    let told : fault_of (step (on (write (get_or x (2 * k) 0) (get_or x (2 * k + 1) 0))) w).said ≡ number_of r =
    ap (λ (d : Did). fault_of d.said) (sym there) ∙ refusal_numbered r in
    let ends : total ≡ record { state = w.state; refusal = Some (number_of r) } =
    sym inv ∙ registers_turn x n k w h ∙ rw (told, ne_eqb (number_of r) 0 (some_number r)) in
    ap (λ (g : Set). g.refusal) ends

-- the refusal goes out as it came
pub refused_sets : (o : Result State Refusal) (r : Refusal) (total : Set) → IsErrAnd o (λ f. f ≡ r) → total.refusal ≡ Some (number_of r) → Sets o total
refused_sets (Ok s) r total h i = absurd h
refused_sets (Err f) r total h i = i ∙ ap (λ (g : Refusal). Some (number_of g)) (sym h)

pub set_ends : (x : List ℕ) (n k : ℕ) (w : World) {total : Set} → n ≤ k → set_registers (n - k) x (2 * k) w ≡ total →
    total ≡ record { state = w.state; refusal = None }
unfolding set_registers
set_ends x n k w h inv = sym inv ∙ ap (λ (m : ℕ). set_registers m x (2 * k) w) (sym (none_left n k h))

pub line_in_again : (x : List ℕ) (n k b : ℕ) (w w' : World) {total : World} → k < n → b ≡ get_or x k 0 → w' ≡ (step (on (line_byte b)) w).world →
    line_bytes_in (n - k) x k w ≡ total → line_bytes_in (n - (k + 1)) x (k + 1) w' ≡ total
line_in_again x n k b w w' h e f inv = let t = line_in_turn x n k w h in cc

pub line_in_ends : (x : List ℕ) (n k : ℕ) (w : World) {total : World} → n ≤ k → line_bytes_in (n - k) x k w ≡ total → w ≡ total
unfolding line_bytes_in
line_in_ends x n k w h inv = ap (λ (m : ℕ). line_bytes_in m x k w) (none_left n k h) ∙ inv

pub frames_again : (x : List ℕ) (n k f : ℕ) (w w' : World) {total : World} → k < n → f ≡ high x (2 * k) → w' ≡ (step (on (loop_frame f)) w).world →
    frames_world (n - k) x (2 * k) w ≡ total → frames_world (n - (k + 1)) x (2 * (k + 1)) w' ≡ total
frames_again x n k f w w' h e g inv = let t = world_turn x n k w h in let a : 2 * (k + 1) ≡ 2 * k + 2 = omega arith in cc

pub frames_end : (x : List ℕ) (n k : ℕ) (w : World) {total : World} → n ≤ k → frames_world (n - k) x (2 * k) w ≡ total → w ≡ total
unfolding frames_world
frames_end x n k w h inv = ap (λ (m : ℕ). frames_world m x (2 * k) w) (none_left n k h) ∙ inv

pub text_again : (x : List ℕ) (n k f : ℕ) (w w' : World) (a : Said) (out : List ℕ) {out' total : List ℕ} → k < n → f ≡ high x (2 * k) → a ≡ (step (on (loop_frame f)) w).said →
    w' ≡ (step (on (loop_frame f)) w).world → out' ≡ out ++ answer_text a → out ++ frames_text (n - k) x (2 * k) w ≡ total →
    out' ++ frames_text (n - (k + 1)) x (2 * (k + 1)) w' ≡ total
text_again x n k f w w' a out h e g l o inv =
    let t = frames_turn x n k w h in
    let j : 2 * (k + 1) ≡ 2 * k + 2 = omega arith in
    let s = append_assoc out (answer_text a) (frames_text (n - (k + 1)) x (2 * (k + 1)) w') in
    cc

pub text_ends : (x : List ℕ) (n k : ℕ) (w : World) {out total : List ℕ} → n ≤ k → out ++ frames_text (n - k) x (2 * k) w ≡ total → out ≡ total
unfolding frames_text
text_ends x n k w {out} h inv = sym (append-nil out) ∙ ap (λ (m : ℕ). out ++ frames_text m x (2 * k) w) (none_left n k h) ∙ inv

-- ---- a section of the input, n bytes of it from i on: what is done from place k of it is what is done from place i + k of the input

abbrev Section : List ℕ → ℕ → ℕ → List ℕ → Type 0
Section x i n xs = (k q : ℕ) → k < n → q ≡ i + k → get_or xs k 0 ≡ get_or x q 0

module _ (x : List ℕ) (i n : ℕ) (xs : List ℕ) (same : Section x i n xs) where
  set_from : (m k q : ℕ) (w : World) → k + 2 * m ≤ n → q ≡ i + k → set_registers m xs k w ≡ set_registers m x q w
  unfolding set_registers
  set_from zero k q w h e = refl
  set_from (suc m) k q w h e =
      rw (same k q (omega arith) e, same (k + 1) (q + 1) (omega arith) (omega arith), set_from m (k + 2) (q + 2) _ (omega arith) (omega arith))

  line_in_from : (m k q : ℕ) (w : World) → k + m ≤ n → q ≡ i + k → line_bytes_in m xs k w ≡ line_bytes_in m x q w
  unfolding line_bytes_in
  line_in_from zero k q w h e = refl
  line_in_from (suc m) k q w h e = rw (same k q (omega arith) e, line_in_from m (k + 1) (q + 1) _ (omega arith) (omega arith))

  text_from : (m k q : ℕ) (w : World) → k + 2 * m ≤ n → q ≡ i + k → frames_text m xs k w ≡ frames_text m x q w
  unfolding frames_text
  text_from zero k q w h e = refl
  text_from (suc m) k q w h e =
      rw (same k q (omega arith) e, same (k + 1) (q + 1) (omega arith) (omega arith), text_from m (k + 2) (q + 2) _ (omega arith) (omega arith))

  world_from : (m k q : ℕ) (w : World) → k + 2 * m ≤ n → q ≡ i + k → frames_world m xs k w ≡ frames_world m x q w
  unfolding frames_world
  world_from zero k q w h e = refl
  world_from (suc m) k q w h e =
      rw (same k q (omega arith) e, same (k + 1) (q + 1) (omega arith) (omega arith), world_from m (k + 2) (q + 2) _ (omega arith) (omega arith))

module _ (x : List ℕ) (i n : ℕ) (w : World) where
  abbrev cut : ℕ → List ℕ
  cut m = take (i + m - i) (drop i x)

  cut_length : (m : ℕ) → i + m ≤ length x → length (cut m) ≡ m
  cut_length m h = simp (length-take, length-drop) (omega arith)

  cut_same : (m : ℕ) → Section x i m (cut m)
  cut_same m k q h e =
      let s : k < i + m - i = omega arith in
      get_or-take (i + m - i) (drop i x) k 0 s ∙ get_or-drop i x k 0 ∙ ap (λ (p : ℕ). get_or x p 0) (sym e)

  half : i + 2 * n ≤ length x → length (cut (2 * n)) / 2 ≡ n
  half h = omega (arith, cut_length (2 * n) h)

  pub set_cut : i + 2 * n ≤ length x → set_registers (length (cut (2 * n)) / 2) (cut (2 * n)) 0 w ≡ set_registers n x i w
  set_cut h = rw (half h) (set_from x i (2 * n) _ (cut_same (2 * n)) n 0 i w (omega arith) (omega arith))

  pub line_in_cut : i + n ≤ length x → line_bytes_in (length (cut n)) (cut n) 0 w ≡ line_bytes_in n x i w
  line_in_cut h = rw (cut_length n h) (line_in_from x i n _ (cut_same n) n 0 i w (omega arith) (omega arith))

  pub text_cut : i + 2 * n ≤ length x → frames_text (length (cut (2 * n)) / 2) (cut (2 * n)) 0 w ≡ frames_text n x i w
  text_cut h = rw (half h) (text_from x i (2 * n) _ (cut_same (2 * n)) n 0 i w (omega arith) (omega arith))

  pub world_cut : i + 2 * n ≤ length x → frames_world (length (cut (2 * n)) / 2) (cut (2 * n)) 0 w ≡ frames_world n x i w
  world_cut h = rw (half h) (world_from x i (2 * n) _ (cut_same (2 * n)) n 0 i w (omega arith) (omega arith))

-- ---- the line bytes that go out

-- a byte that was asked for is taken by its name, and that is not refused
named : (w : World) (b : ℕ) → byte b ≡ ask_answer w → then_takes w ≡ step (on (take_line_byte b)) w
unfolding byte_in
named w b e = λ j. step (on (take_line_byte (byte_in (sym e j)))) (ask_leaves w j)

pub taken : (w : World) (b : ℕ) (t : State) (rx' tx' : List ℕ) (o : Result Outcome Refusal) → byte b ≡ ask_answer w → did t o rx' tx' ≡ step (on (take_line_byte b)) w → IsOk o
unfolding is_byte
taken w b t rx' tx' (Ok o) e f = search rules
taken w b t rx' tx' (Err r) e f =
    let given : refused (number_of r) ≡ done = ap (λ (d : Did). d.said) (f ∙ sym (named w b e)) ∙ take_done w (ap is_byte (sym e)) in
    cc

pub line_stops : (n k : ℕ) (w : World) {out total : List ℕ} → k < n → is_byte (ask_answer w) ≡ false → out ++ line_out (n - k) w ≡ total → out ≡ total
line_stops n k w {out} h f inv =
    let none : line_out (n - k) w ≡ [] = line_turn n k w h ∙ rw f in
    sym (append-nil out) ∙ ap (λ (bs : List ℕ). out ++ bs) (sym none) ∙ inv

pub line_goes : (n k b : ℕ) (w w' : World) (out : List ℕ) {out' total : List ℕ} → k < n → byte b ≡ ask_answer w → w' ≡ (step (on (take_line_byte b)) w).world →
    out' ≡ out ++ (b ∷ []) → out ++ line_out (n - k) w ≡ total → out' ++ line_out (n - (k + 1)) w' ≡ total
unfolding is_byte byte_in
line_goes n k b w w' out h e f o inv =
    let next : next_taken w ≡ w' = ap (λ (d : Did). d.world) (named w b e) ∙ sym f in
    let t : line_out (n - k) w ≡ b ∷ line_out (n - (k + 1)) w' = line_turn n k w h ∙ rw (← e) (ap (λ (v : World). b ∷ line_out (n - (k + 1)) v) next) in
    let s = append_assoc out (b ∷ []) (line_out (n - (k + 1)) w') in
    cc

pub line_ends : (n k : ℕ) (w : World) {out total : List ℕ} → n ≤ k → out ++ line_out (n - k) w ≡ total → out ≡ total
unfolding line_out
line_ends n k w {out} h inv = sym (append-nil out) ∙ ap (λ (m : ℕ). out ++ line_out m w) (none_left n k h) ∙ inv
