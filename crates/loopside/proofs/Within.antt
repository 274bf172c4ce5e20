-- No frame makes the transmit store hold more than it has places: what each way of a frame leaves. Assumes nothing.
use Rattle.std.proofs.Common.{◌≡◌, ℕ, List, sym, subst, arith}
use Rattle.branches.proofs.Branches.{by_cond}
use Rattle.frame.specs.Frame.{data_of}
use Rattle.role.specs.declared.Ready.{Ready}
use Rattle.role.specs.declared.Ready.TheVariants.{Pass, Address, Data, Status, Finish}
use Rattle.role.specs.Orders.{is_clear}
use Rattle.role.specs.ReadyFrames.{ready_of}
use Rattle.talker.specs.declared.Return.{Return}
use Rattle.talker.specs.declared.Return.TheVariants.{Damaged, StatusBack, Finished, Next}
use Rattle.talker.specs.Returning.{return_of}
use Rattle.std.specs.Prelude.{Option, Some, None}
use Rattle.sending.specs.Sending.{given_of, send_held}
use Rattle.store.specs.Ring.{Within}
use Rattle.state.specs.declared.State.{State}
use Rattle.state.specs.Outcome.{Outcome}
use Rattle.state.specs.Conditions.{settled, settled_outcome, after_status, after_status_back}
use Rattle.line.specs.HoldingOff.{resumed}
use Rattle.loopside.specs.Sends.{ended, rule_of, removed_state, send_state, send_from, send_status}
use Rattle.loopside.specs.Frames.{cleared, obeyed, command_state, order_in, command, command_settled, readied, ready, judged, returned, identify}

-- the transmit store of a state, and of what a frame gives
abbrev In : State → Type 0
In s = Within s.tx

abbrev Gives : Outcome → Type 0
Gives o = In o.state

-- what is sent leaves the transmit store alone
sent_in : (before after : State) (g : Option ℕ) → In after → Gives (send_state before after g)
unfolding send_state ended
sent_in before after None h = h
sent_in before after (Some f) h = h

-- so does a request that begins
pub settled_in : (s : State) (p o : Outcome) → Within p.state.tx → o ≡ settled_outcome s p → Within o.state.tx
unfolding settled
settled_in s p o h e = subst Gives (sym e) h

module _ (s : State) (rx : List ℕ) (f : ℕ) (o : Outcome) (h : Within s.tx) where
  send_in : Gives (send_from s rx)
  unfolding send_from
  send_in = sent_in s (removed_state s rx) (given_of (send_held (rule_of s.regs) rx s.rx)) (unfold removed_state resumed in h)

  judged_in : (k : Return) → Gives (judged s rx k)
  unfolding judged ended after_status_back
  judged_in Damaged = h
  judged_in StatusBack = h
  judged_in Finished = h
  judged_in Next = send_in

  readied_in : (k : Ready) → Gives (readied s rx f k)
  unfolding readied send_status after_status
  readied_in Address = h
  readied_in Data = send_in
  readied_in Status = h
  readied_in Finish = h
  readied_in Pass = h

  pub returned_in : o ≡ returned s rx f → Within o.state.tx
  unfolding returned
  returned_in e = subst Gives (sym e) (judged_in (return_of s.talker f))

  pub ready_in : o ≡ ready s rx f → Within o.state.tx
  unfolding ready
  ready_in e = subst Gives (sym e) (readied_in (ready_of s.talker.role (data_of f)))

module _ (s : State) (f : ℕ) (o : Outcome) (h : Within s.tx) where
  -- a device clear leaves an empty store of as many places
  ordered_in : Gives (command s f)
  unfolding command command_state
  ordered_in =
      by_cond In (is_clear (order_in s f)) (cleared (obeyed s (order_in s f))) (obeyed s (order_in s f))
      (λ _. unfold cleared obeyed in record { oldest = omega (arith, h.oldest); len = omega arith; small = h.small })
      (λ _. unfold obeyed in h)

  pub command_in : o ≡ command_settled s f → Within o.state.tx
  unfolding command_settled
  command_in e =
      subst Gives (sym e)
      (by_cond In (is_clear (order_in s f)) (command s f).state (settled s (command s f).state) (λ _. ordered_in) (λ _. unfold settled in ordered_in))

  pub identified_in : o ≡ identify s f → Within o.state.tx
  unfolding identify
  identified_in e = subst Gives (sym e) h
