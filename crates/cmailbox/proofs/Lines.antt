-- The lines leave all as it was. Assumes nothing.
use Prim.Native.Nat.{ℕ}
use mathlib.Core.Path.{◌≡◌, refl, ap, ◌∙◌}
use mathlib.Core.List.{List}
use Rattle.mailstate.specs.declared.State.{State}
use Rattle.mailbox.specs.BusSide as bus-side
use Rattle.mailbox.specs.Calls.{bus_lines, on, world, Did, outcome, tobus_after, toloop_after, not_refused, step}
use Rattle.answers.specs.Word.{word}
use Rattle.boundary.specs.CCalls.{lent, c_did, c_step, state_in}
use Rattle.boundary.proofs.Closing.{looked}
use Rattle.maillaws.proofs.Refusal.{by_refusal}
use Rattle.cmailbox.specs.Mailbox.{mailboxes}
use Rattle.cmailbox.proofs.Forming.{formed}

pub lines_leave : (s : State) (tobus toloop : List ℕ) → (step (on bus_lines) (world s tobus toloop)).world ≡ world s tobus toloop
unfolding not_refused outcome bus-side.bus_lines tobus_after toloop_after
lines_leave s tobus toloop =
    by_refusal (λ (d : Did). d.world ≡ world s tobus toloop) (on bus_lines) (world s tobus toloop) (λ _. refl) (λ _. refl)

-- the number of the lines, and of a refusal
pub lines_met : (b tobus toloop : List ℕ) (s : State) → s ≡ state_in mailboxes b → (d : Did) → d ≡ step (on bus_lines) (world s tobus toloop) → (n : ℕ) →
    n ≡ word d.said → c_did n b tobus toloop ≡ c_step mailboxes (on bus_lines) (lent b tobus toloop)
lines_met b tobus toloop s m d e n q =
    looked mailboxes formed bus_lines b tobus toloop s m d e (ap (λ (x : Did). x.world) e ∙ lines_leave s tobus toloop) n q refl
