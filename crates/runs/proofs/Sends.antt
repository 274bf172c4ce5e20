-- What a send leaves in the store, and what it is seen to send. Assumes nothing.
use Prim.Native.Nat.{ℕ, ◌-◌, ◌≤◌}
use native.Mathlib.Omega.{arith}
use mathlib.Core.Path.{◌≡◌, sym, ap, ◌∙◌}
use mathlib.Core.List.{List, [], ◌∷◌, map}
use lib.Dec.{ltb}
use lib.ListN.{length, drop, length-map}
use Rattle.branches.proofs.Branches.{cond_true}
use Rattle.frame.specs.Frame.{control_of, stripped}
use Rattle.frame.proofs.Laws.{made_parts}
use Rattle.store.specs.declared.Ring.{Ring}
use Rattle.store.specs.Ring.{Fit, held}
use Rattle.store.proofs.Laws.{held_length, held_drop, drop_cap, drop_len}
use Rattle.reading.specs.declared.Rule.{Rule}
use Rattle.reading.specs.Reading.{sent_rest, send}
use Rattle.reading.specs.declared.Item.{Item}
use Rattle.reading.specs.Received.{Received, item_of, received, received_in, bytes_in, as_held}
use Rattle.reading.specs.Steps.{cut}
use Rattle.reading.proofs.Kept.{send_suffix}
use Rattle.reading.proofs.Lawful.{lawful}
use Rattle.reading.proofs.Received.{map_drop, part_held}
use Rattle.sending.specs.Sending.{send_held, sent_ring}
use Rattle.state.specs.declared.State.{State}
use Rattle.answers.specs.declared.Answer.TheVariants.{Frame}
use Rattle.answers.specs.Answers.{said}
use Rattle.state.specs.Conditions.{serviced}
use Rattle.laws.specs.Observers.{data_frame}
use Rattle.runs.proofs.Answered.{serviced_kind, serviced_rest}
use Rattle.runs.proofs.Bytes.{Plain}

module _ (rule : Rule) (s : List ℕ) (r : Ring) (f : Fit s r) where
  abbrev rest : List Received
  rest = sent_rest (send (cut rule) (received_in (held s r)))

  -- the ring holds what the send leaves, and a break behind the last byte that went is gone with it
  pub held_sent : received_in (held s (sent_ring rule s r)) ≡ as_held (sent_rest (send_held rule s r))
  unfolding sent_ring send_held
  held_sent =
      let items : List Item = map item_of (held s r) in
      let n : ℕ = length (received items) - length rest in
      let suffix : rest ≡ drop n (received items) = send_suffix (cut rule) (lawful rule) (received items) in
      let size : r.len - bytes_in rest ≡ length items - bytes_in (drop n (received items)) =
      (λ i. sym (length-map (held s r) item_of ∙ held_length s r f) i - bytes_in (suffix i)) in
      ap received_in (held_drop s r (r.len - bytes_in rest) f (omega arith))
      ∙ ap received (map_drop (r.len - bytes_in rest) (held s r))
      ∙ ap (λ (k : ℕ). received (drop k items)) size
      ∙ sym (part_held items n)
      ∙ ap as_held (sym suffix)

  -- and is no longer than before
  pub sent_less : (sent_ring rule s r).len ≤ r.len
  unfolding sent_ring
  sent_less = omega (arith, drop_len r (r.len - bytes_in (sent_rest (send_held rule s r))))

  -- the capacity stays
  pub sent_cap : (sent_ring rule s r).cap ≡ r.cap
  unfolding sent_ring
  sent_cap = drop_cap r (r.len - bytes_in (sent_rest (send_held rule s r)))

-- a plain frame is seen as it is, the service bit aside
pub seen_plain : (s : State) (f : ℕ) → Plain f → data_frame (said (Frame (serviced s f))) ≡ f ∷ []
unfolding said
seen_plain s f p =
    cond_true (ltb (control_of (serviced s f)) 4) _ _ (serviced_kind s f ∙ p.isdata)
    ∙ ap (λ (n : ℕ). n ∷ []) (ap stripped (made_parts (serviced s f)) ∙ serviced_rest s f ∙ p.bare)
