-- The reading rule, a send from the receive store: what it gives, and the ring after it.
use Rattle.std.specs.Prelude.{Option, Some, None, ℕ, ◌-◌, ◌%◌, ◌≤◌, ◌≡◌, refl, List, Bool, true, false, get_or}
use Rattle.frame.specs.Frame.{made}
use Rattle.store.specs.declared.Ring.{Ring}
use Rattle.store.specs.Ring.{Fit, held, drop_ring}
use Rattle.store.specs.Promises.{Dropped}
use Rattle.reading.specs.declared.Rule.{Rule}
use Rattle.reading.specs.declared.Decision.{Decision}
use Rattle.reading.specs.declared.Decision.TheVariants.{Removed, End, Data, Wait}
use Rattle.reading.specs.Reading.{Sent, none, one, sent_rest, send}
use Rattle.reading.specs.Received.{Received, received_in, bytes_in, as_held}
use Rattle.reading.specs.Steps.{decision, cut}
use Rattle.sending.specs.declared.Sending.{Sending}

-- the frame of a send, or none
abbrev pub given_of : Sent Received ℕ → Option ℕ
given_of (none r) = None
given_of (one f r) = Some f

-- one send by the reading rule, from the bytes held and the breaks among them
unfoldable pub send_held : Rule → List ℕ → Ring → Sent Received ℕ
send_held rule s r = send (cut rule) (received_in (held s r))

-- a send goes by what the store says it holds, and by nothing else of the store
pub send_reads : (rule : Rule) (s : List ℕ) (r : Ring) → send_held rule s r ≡ send (cut rule) (received_in (held s r))
unfolding send_held
send_reads rule s r = refl

-- the ring without the bytes that the send removed; a break behind the last of them goes with its cell
unfoldable pub sent_ring : Rule → List ℕ → Ring → Ring
sent_ring rule s r = drop_ring r (r.len - bytes_in (sent_rest (send_held rule s r)))

-- the promise of a send
pub record Sends (rule : Rule) (s : List ℕ) (r : Ring) (o : Sending) : Type 0 where
  pub given : o.given ≡ given_of (send_held rule s r)
  pub ring : o.ring ≡ sent_ring rule s r
  pub fit : Fit s o.ring
  pub holds : received_in (held s o.ring) ≡ as_held (sent_rest (send_held rule s r))

-- a decision by step 1
abbrev pub is_removed : Decision → Bool
is_removed Removed = true
is_removed End = false
is_removed Data = false
is_removed Wait = false

-- on the way, q is r without pairs at the front, and a send from it is the same
pub record Left (rule : Rule) (s : List ℕ) (r q : Ring) : Type 0 where
  pub fit : Fit s q
  pub less : q.len ≤ r.len
  pub ring : q ≡ drop_ring r (r.len - q.len)
  pub same : send_held rule s r ≡ send_held rule s q

-- step 1 as often as it holds
pub record Skips (rule : Rule) (s : List ℕ) (r q : Ring) : Type 0 where
  pub left : Left rule s r q
  pub stopped : is_removed (decision rule (received_in (held s q))) ≡ false

-- a frame that takes the n oldest bytes
pub record Goes (s : List ℕ) (q : Ring) (control n : ℕ) (o : Sending) : Type 0 where
  pub given : o.given ≡ Some (made control (get_or (held s q) 0 0 % 256))
  pub dropped : Dropped q n o.ring
