-- A send on a ring, one decision after the other. Assumes nothing.
use Prim.Native.Nat.{ℕ, ◌+◌, ◌-◌, ◌%◌, ◌≤◌}
use native.Mathlib.Omega.{arith}
use mathlib.Core.Path.{◌≡◌, refl, sym, ap, ◌∙◌}
use mathlib.Core.List.{List, map}
use mathlib.Core.Bool.{true, false, false≢true}
use lib.ListN.{length, get_or, drop, length-map, get_or-eq_default}
use Rattle.frame.specs.Frame.{made}
use Rattle.store.specs.declared.Ring.{Ring}
use Rattle.store.specs.Ring.{Within, Fit, held, drop_ring}
use Rattle.store.specs.Promises.{Dropped}
use Rattle.store.proofs.Promises.{held_length, drop_none, drop_again}
use Rattle.reading.specs.declared.Rule.{Rule}
use Rattle.reading.specs.declared.Decision.{Decision}
use Rattle.reading.specs.declared.Decision.TheVariants.{Removed, End, Data, Wait}
use Rattle.reading.specs.Reading.{Sent, none, one, sent_rest, send}
use Rattle.reading.specs.declared.Item.{Item}
use Rattle.reading.specs.Received.{Received, item_of, received, received_in, bytes_in, as_held}
use Rattle.reading.specs.Steps.{decision, takes, cut}
use Rattle.reading.specs.Firsts.{firsts}
use Rattle.reading.proofs.Firsts.{on_oldest}
use Rattle.reading.proofs.Received.{map_drop, bytes_received, received_held, part_held}
use Rattle.reading.proofs.Sends.{takes_known, send_removed, send_end, send_data, send_wait}
use Rattle.std.specs.Prelude.{Some, None}
use Rattle.sending.specs.declared.Sending.{Sending}
use Rattle.sending.specs.Sending.{given_of, send_held, sent_ring, Sends, is_removed, Left, Goes}

-- what the cells held stand for
abbrev items : List ℕ → Ring → List Item
items s q = map item_of (held s q)

items_length : (s : List ℕ) (q : Ring) → Fit s q → length (items s q) ≡ q.len
items_length s q f = length-map (held s q) item_of ∙ held_length s q f

-- a decision has bytes enough in the ring, and leaves the others
takes_held : (rule : Rule) (s : List ℕ) (q : Ring) (d : Decision) → Fit s q → decision rule (received_in (held s q)) ≡ d →
    takes d + bytes_in (drop (takes d) (received_in (held s q))) ≡ q.len
takes_held rule s q d f e = takes_known rule (items s q) d e ∙ items_length s q f

pub enough : (rule : Rule) (s : List ℕ) (q : Ring) (d : Decision) → Fit s q → decision rule (received_in (held s q)) ≡ d → takes d ≤ q.len
enough rule s q d f e = omega (arith, takes_held rule s q d f e)

removed_is : (d : Decision) → is_removed d ≡ true → d ≡ Removed
removed_is Removed e = refl
removed_is End e = absurd (false≢true e)
removed_is Data e = absurd (false≢true e)
removed_is Wait e = absurd (false≢true e)

pub pair_enough : (rule : Rule) (s : List ℕ) (q : Ring) → Fit s q → is_removed (decision rule (received_in (held s q))) ≡ true → 2 ≤ q.len
pair_enough rule s q f e = enough rule s q Removed f (removed_is (decision rule (received_in (held s q))) e)

pub left_start : (rule : Rule) (s : List ℕ) (r : Ring) → Fit s r → Left rule s r r
left_start rule s r f =
    record { fit = f; less = omega arith; ring = sym (drop_none r f.within) ∙ ap (drop_ring r) (omega arith); same = refl }

-- n bytes more dropped from a ring on the way
further : (r q o : Ring) (n : ℕ) → Within r → q.len ≤ r.len → n ≤ q.len → q ≡ drop_ring r (r.len - q.len) → Dropped q n o →
    o ≡ drop_ring r (r.len - (q.len - n))
further r q o n f less h e d =
    d.ring
    ∙ ap (λ (x : Ring). drop_ring x n) e
    ∙ drop_again r (r.len - q.len) n f (omega arith)
    ∙ ap (drop_ring r) (omega arith)

pub left_again : (rule : Rule) (s : List ℕ) (r q o : Ring) → Fit s r → Left rule s r q →
    is_removed (decision rule (received_in (held s q))) ≡ true → Dropped q 2 o → Left rule s r o
unfolding send_held
left_again rule s r q o f l e d =
    let two : 2 ≤ q.len = pair_enough rule s q l.fit e in
    let n : o.len ≡ q.len - 2 = d.len in
    record {
      fit = d.fit s l.fit;
      less = omega (arith, l.less);
      ring = further r q o 2 f.within l.less two l.ring d ∙ ap (λ (k : ℕ). drop_ring r (r.len - k)) (sym n);
      same =
          l.same
          ∙ send_removed rule (held s q) (removed_is (decision rule (received_in (held s q))) e)
          ∙ ap (λ (l : List ℕ). send (cut rule) (received_in l)) (sym (d.holds s l.fit));
    }

module _ (rule : Rule) (s : List ℕ) (r q : Ring) (f : Fit s r) (l : Left rule s r q) where
  -- a frame that takes n bytes
  frame_met : (control n : ℕ) (o : Sending) → n + bytes_in (drop n (received_in (held s q))) ≡ q.len → Goes s q control n o →
      send_held rule s q ≡ one (made control (get_or (held s q) 0 0 % 256)) (drop n (received_in (held s q))) → Sends rule s r o
  unfolding sent_ring
  frame_met control n o h g e =
      let whole : send_held rule s r ≡ one (made control (get_or (held s q) 0 0 % 256)) (drop n (received_in (held s q))) = l.same ∙ e in
      let size : bytes_in (sent_rest (send_held rule s r)) ≡ q.len - n = ap (λ (x : Sent Received ℕ). bytes_in (sent_rest x)) whole ∙ omega (arith, h) in
      let taken : length (items s q) - bytes_in (drop n (received_in (held s q))) ≡ n = omega (arith, h, items_length s q l.fit) in
      record {
        given = g.given ∙ sym (ap given_of whole);
        ring = further r q o.ring n f.within l.less (omega (arith, h)) l.ring g.dropped ∙ ap (λ (k : ℕ). drop_ring r (r.len - k)) (sym size);
        fit = g.dropped.fit s l.fit;
        holds =
            ap received_in (g.dropped.holds s l.fit)
            ∙ ap received (map_drop n (held s q))
            ∙ sym (part_held (items s q) n ∙ ap (λ (k : ℕ). received (drop k (items s q))) taken)
            ∙ ap (λ (x : Sent Received ℕ). as_held (sent_rest x)) (sym whole);
      }

  pub end_met : (o : Sending) → decision rule (received_in (held s q)) ≡ End → Goes s q 2 3 o → Sends rule s r o
  unfolding send_held
  end_met o e g = frame_met 2 3 o (takes_held rule s q End l.fit e) g (send_end rule (held s q) e)

  pub data_met : (o : Sending) → decision rule (received_in (held s q)) ≡ Data → Goes s q 0 1 o → Sends rule s r o
  unfolding send_held
  data_met o e g = frame_met 0 1 o (takes_held rule s q Data l.fit e) g (send_data rule (held s q) e)

  pub wait_met : decision rule (received_in (held s q)) ≡ Wait → Sends rule s r (record { given = None; ring = q })
  unfolding send_held sent_ring
  wait_met e =
      let whole : send_held rule s r ≡ none (received_in (held s q)) = l.same ∙ send_wait rule (held s q) e in
      let size : bytes_in (sent_rest (send_held rule s r)) ≡ q.len =
      ap (λ (x : Sent Received ℕ). bytes_in (sent_rest x)) whole ∙ bytes_received (items s q) ∙ items_length s q l.fit in
      record {
        given = sym (ap given_of whole);
        ring = l.ring ∙ ap (λ (k : ℕ). drop_ring r (r.len - k)) (sym size);
        fit = l.fit;
        holds = sym (ap (λ (x : Sent Received ℕ). as_held (sent_rest x)) whole ∙ received_held (items s q));
      }

-- after step 1 no pair is left at the front
pub never_removed : (rule : Rule) (s : List ℕ) (q : Ring) (o : Sending) (r : Ring) →
    is_removed (decision rule (received_in (held s q))) ≡ false → decision rule (received_in (held s q)) ≡ Removed → Sends rule s r o
never_removed rule s q o r stopped e = absurd (false≢true (sym stopped ∙ ap is_removed e))

-- ---- what the code looks at

pub past : (s : List ℕ) (r : Ring) (k : ℕ) → Fit s r → r.len ≤ k → 0 ≡ get_or (held s r) k 0
past s r k f h = sym (get_or-eq_default (held s r) 0 {n = k} (omega (arith, held_length s r f)))

pub decided_met : (rule : Rule) (s : List ℕ) (r : Ring) (a b c : Item) (d : Decision) → Fit s r →
    a ≡ item_of (get_or (held s r) 0 0) → b ≡ item_of (get_or (held s r) 1 0) → c ≡ item_of (get_or (held s r) 2 0) →
    d ≡ decision rule (received (firsts r.len a b c)) → d ≡ decision rule (received_in (held s r))
decided_met rule s r a b c d f p q t e =
    e ∙ (λ i. decision rule (received (firsts r.len (p i) (q i) (t i)))) ∙ on_oldest rule (held s r) r.len _ _ _ (held_length s r f) refl refl refl

pub one_frame_met : (s : List ℕ) (q : Ring) (control n x : ℕ) (b : Item) (o : Ring) → b ≡ item_of (get_or (held s q) 0 0) → x ≡ made control b.byte →
    Dropped q n o → Goes s q control n (record { given = Some x; ring = o })
one_frame_met s q control n x b o e m d = record { given = ap Some (m ∙ ap (λ (b : Item). made control b.byte) e); dropped = d }
