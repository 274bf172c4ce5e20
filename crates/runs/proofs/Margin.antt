-- Demand 3, third: no byte is lost where each spell of holding off brings no more than the margin. Assumes nothing.
use Prim.Native.Nat.{ℕ, suc, ◌+◌, ◌*◌, ◌≤◌, ◌<◌}
use native.Mathlib.Omega.{arith}
use mathlib.Core.Path.{◌≡◌, refl, sym, subst}
use mathlib.Core.Bool.{Bool, true, false, cond, ◌&&◌, ◌||◌, not, false≢true}
use mathlib.Core.List.{List, [], ◌∷◌, ◌++◌}
use lib.Dec.{leb}
use lib.ListN.{length}
use borrow.Author.Tests.{leb-true, leb-false}
use Rattle.registers.specs.Meanings.{protocol_on}
use Rattle.store.proofs.Laws.{ring_len, put_cap}
use Rattle.store.specs.Ring as store-ring
use Rattle.sending.specs.Sending.{sent_ring}
use Rattle.state.proofs.Fits.{sizes_hold, tests, rx_fits}
use Rattle.line.specs.HoldingOff.{stored_with, resumed}
use Rattle.loopside.specs.Sends.{rule_of, removed_state}
use Rattle.bridge.specs.Calls.{Call, World}
use Rattle.laws.specs.Observers.{arrived, lost, changes}
use Rattle.laws.specs.Worlds.{holds_off}
use Rattle.laws.specs.Spells.{AtMost}
use Rattle.laws.specs.Demands.{NoneLost}
use Rattle.runs.proofs.Shapes.{Seen, seen, Core, core, Fits, Shape, is_still, is_begun}
use Rattle.runs.proofs.Shapes.{is_written, is_cleared, is_stored, is_lost, is_broken, is_sent, is_none, is_left, is_handed}
use Rattle.runs.proofs.View.{view}
use Rattle.runs.proofs.Sends.{sent_less, sent_cap}
use Rattle.runs.proofs.Runs.{first_not}
use Rattle.runs.proofs.Steps.{answer, after, all, Without, spells, ours}
use Rattle.laws.specs.Spells as run
use Rattle.machine.specs.Machine as machine
use Rattle.machine.specs.Course as course
use Rattle.machine.specs.Machine.{Obeys}

-- f places are free, the margin is m, and k data bytes have arrived in this spell of holding off
abbrev Room : Bool → ℕ → ℕ → ℕ → Type 0
Room true m k f = m ≤ f + k
Room false m k f = m < f

-- the bytes of the spell after n more
abbrev count : Bool → ℕ → ℕ → ℕ
count true k n = k + n
count false k n = 0

-- at most m, if the line is held off
abbrev Within : Bool → ℕ → ℕ → Type 0
Within true m k = k ≤ m
Within false m k = Unit {0}

-- the protocol is on, and there is room
record Calm (m k : ℕ) (h : Core) : Type 0 where
  on : protocol_on h.regs ≡ true
  margin : h.margin ≡ m
  room : Room h.holding m k (store-ring.room h.rx)

still_room : (h : Bool) (m k f : ℕ) → Room h m k f → Room h m (count h k 0) f
still_room true m k f r = omega arith
still_room false m k f r = r

store_room : (h on : Bool) (m n k f g : ℕ) → on ≡ true → n ≡ m → f ≡ suc g → Room h m k f → Room (h || (on && leb g n)) m (count h k 1) g
store_room true on m n k f g o q e r = omega arith
store_room false false m n k f g o q e r = absurd (false≢true o)
store_room false true m n k f g o q e r = go (leb g n) refl
  where
    go : (t : Bool) → leb g n ≡ t → Room t m 0 g
    go true p = omega arith
    go false p = omega (arith, leb-false g n p)

send_room : (h : Bool) (m n k f g : ℕ) → 1 ≤ m → n ≡ m → f ≤ g → Room h m k f → Room (h && not (leb (2 * n) g)) m (count h k 0) g
send_room false m n k f g p q l r = omega arith
send_room true m n k f g p q l r = go (leb (2 * n) g) refl
  where
    go : (t : Bool) → leb (2 * n) g ≡ t → Room (not t) m (k + 0) g
    go true e = omega (arith, leb-true (2 * n) g e)
    go false e = omega arith

-- a full store is never met
never_full : (h : Bool) (m k f : ℕ) → f ≡ 0 → Room h m k f → Within h m (k + 1) → ⊥
never_full true m k f e r w = omega arith
never_full false m k f e r w = omega arith

-- a margin of a world that fits is 1 or more
some_margin : (w : World) → Fits w → 1 ≤ w.state.margin
some_margin w F = (sizes_hold w.state.margin (length w.rx) (length w.tx) (tests w.state (length w.rx) (length w.tx) F).sizes).some

-- what a send leaves free
sent_room : (w : World) (m k : ℕ) → Fits w → Calm m k (core w.state) →
    Room (removed_state w.state w.rx).line.holding m (count (holds_off w) k 0)
    (store-ring.room (sent_ring (rule_of w.state.regs) w.rx w.state.rx))
unfolding removed_state resumed
sent_room w m k F c =
    let r = sent_ring (rule_of w.state.regs) w.rx w.state.rx in
    let fit = (rx_fits w.state w.rx w.tx F).ring in
    let less : r.len ≤ w.state.rx.len = sent_less (rule_of w.state.regs) w.rx w.state.rx fit in
    let cap : r.cap ≡ w.state.rx.cap = sent_cap (rule_of w.state.regs) w.rx w.state.rx fit in
    send_room (holds_off w) m w.state.margin k (store-ring.room w.state.rx) (store-ring.room r) (omega (arith, some_margin w F, c.margin))
    c.margin (omega arith) c.room

calm : (w : World) (x : Seen) (h : Core) (rx tx : List ℕ) → Shape w x h rx tx → x.changes ≡ false → (m k : ℕ) → Calm m k (core w.state) →
    Within (holds_off w) m (k + length x.arrived) → (x.lost ≡ []) × Calm m (count (holds_off w) k (length x.arrived)) h
unfolding stored_with
calm w x h rx tx is_still n m k c i = (refl, record { on = c.on; margin = c.margin; room = still_room (holds_off w) m k (store-ring.room w.state.rx) c.room })
calm w x h rx tx (is_begun j) n m k c i = absurd (false≢true (sym n))
calm w x h rx tx (is_written g t u) n m k c i = absurd (false≢true (sym n))
calm w x h rx tx is_cleared n m k c i = absurd (false≢true (sym n))
calm w x h rx tx (is_stored b F l) n m k c i = (
  refl,
  record {
    on = c.on;
    margin = c.margin;
    room = store_room (holds_off w) (protocol_on w.state.regs) m w.state.margin k (store-ring.room w.state.rx) _ c.on c.margin
        (omega (arith, ring_len w.state.rx l, put_cap w.state.rx)) c.room;
  },
)
calm w x h rx tx (is_lost b l) n m k c i = absurd (never_full (holds_off w) m k (store-ring.room w.state.rx) (omega arith) c.room i)
calm w x h rx tx (is_broken F) n m k c i = (refl, record { on = c.on; margin = c.margin; room = still_room (holds_off w) m k (store-ring.room w.state.rx) c.room })
calm w x h rx tx (is_sent f r F e) n m k c i = (refl, record { on = c.on; margin = c.margin; room = sent_room w m k F c })
calm w x h rx tx (is_none r F e) n m k c i = (refl, record { on = c.on; margin = c.margin; room = sent_room w m k F c })
calm w x h rx tx (is_left l F e) n m k c i = (refl, record { on = c.on; margin = c.margin; room = still_room (holds_off w) m k (store-ring.room w.state.rx) c.room })
calm w x h rx tx (is_handed F e) n m k c i = (refl, record { on = c.on; margin = c.margin; room = still_room (holds_off w) m k (store-ring.room w.state.rx) c.room })

-- ---- what the spells of a run say of its first call and of the rest

abbrev more : Call → World → ℕ
more c w = length (arrived c w (answer c w))

first_spell : (m k : ℕ) (cs : List Call) (w : World) → holds_off w ≡ true → AtMost m (spells k cs w) → k ≤ m
unfolding run.spells machine.course
first_spell m k [] w h a = (subst (λ t. AtMost m (cond t (k ∷ []) [])) h a).0
first_spell m k (c ∷ cs) w h a =
    go (first_spell m (k + more c w) cs (after c w)) (holds_off (after c w)) refl
    (subst (λ t.
    AtMost m (cond t (cond (holds_off (after c w)) (spells (k + more c w) cs (after c w)) ((k + more c w) ∷ spells 0 cs (after c w)))
    (spells 0 cs (after c w)))) h a)
  where
    go : (holds_off (after c w) ≡ true → AtMost m (spells (k + more c w) cs (after c w)) → k + more c w ≤ m) → (t : Bool) → holds_off (after c w) ≡ t →
        AtMost m (cond t (spells (k + more c w) cs (after c w)) ((k + more c w) ∷ spells 0 cs (after c w))) → k ≤ m
    go ih true e b = omega (arith, ih e b)
    go ih false e b = omega (arith, b.0)

-- where no spell is under way, what arrived before does not count
no_spell : (m k : ℕ) (cs : List Call) (w : World) → holds_off w ≡ false → AtMost m (spells 0 cs w) → AtMost m (spells k cs w)
unfolding run.spells machine.course
no_spell m k [] w h a = subst (λ t. AtMost m (cond t (k ∷ []) [])) (sym h) tt
no_spell m k (c ∷ cs) w h a =
    subst (λ t. AtMost m
    (cond t (cond (holds_off (after c w)) (spells (k + more c w) cs (after c w)) ((k + more c w) ∷ spells 0 cs (after c w)))
    (spells 0 cs (after c w)))) (sym h)
    (subst (λ t.
    AtMost m (cond t (cond (holds_off (after c w)) (spells (0 + more c w) cs (after c w)) ((0 + more c w) ∷ spells 0 cs (after c w)))
    (spells 0 cs (after c w)))) h a)

module _ (m k : ℕ) (c : Call) (cs : List Call) (w : World) where
  abbrev Spells : Bool → Bool → List ℕ
  Spells h t = cond h (cond t (spells (k + more c w) cs (after c w)) ((k + more c w) ∷ spells 0 cs (after c w))) (spells 0 cs (after c w))

  within : (h t : Bool) → holds_off (after c w) ≡ t → AtMost m (Spells h t) → Within h m (k + more c w)
  within false t e a = tt
  within true true e a = first_spell m (k + more c w) cs (after c w) e a
  within true false e a = a.0

  later : (h t : Bool) → holds_off (after c w) ≡ t → AtMost m (Spells h t) → AtMost m (spells (count h k (more c w)) cs (after c w))
  later false t e a = a
  later true true e a = a
  later true false e a = no_spell m (k + more c w) cs (after c w) e a.1

none_lost_from : (cs : List Call) (w : World) (m k : ℕ) → Without changes cs w → Calm m k (core w.state) → AtMost m (spells k cs w) → all lost cs w ≡ []
unfolding course.all run.spells machine.course
none_lost_from [] w m k n c a = refl
none_lost_from (c ∷ cs) w m k n q a =
    let p = first_not changes c cs w n in
    let r =
    calm w (seen c w (answer c w)) (core (after c w).state) (after c w).rx (after c w).tx (view c w) p.0 m k q
    (within m k c cs w (holds_off w) (holds_off (after c w)) refl a) in
    both r.0 (none_lost_from cs (after c w) m (count (holds_off w) k (more c w)) p.1 r.1 (later m k c cs w (holds_off w) (holds_off (after c w)) refl a))
  where
    both : {a b : List ℕ} → a ≡ [] → b ≡ [] → a ++ b ≡ []
    both e f = λ i. e i ++ f i

-- (3c)
pub none_lost : Obeys ours NoneLost
none_lost cs w B k n on off room a =
    none_lost_from cs w w.state.margin 0 n
    (record { on = on; margin = refl; room = subst (λ t. Room t w.state.margin 0 (store-ring.room w.state.rx)) (sym off) room }) a
