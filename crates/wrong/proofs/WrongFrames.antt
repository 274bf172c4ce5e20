-- Every bridge that answers frames wrongly breaks the law of what passes, of the service bit, or of the eleven bits. Assumes nothing.
use native.Mathlib.Omega.{arith}
use mathlib.Core.Path.{◌≡◌, refl, ap}
use mathlib.Core.Bool.{false≢true, true≢false}
use mathlib.Core.List.{[], ◌∷◌}
use Rattle.frame.specs.Frame.{made}
use Rattle.store.proofs.Laws.{held_unbroken}
use Rattle.state.specs.Sizes.{start_state}
use Rattle.laws.specs.Demands.{ElevenBits}
use Rattle.laws.specs.Passing.{FramesPass}
use Rattle.laws.specs.Service.{ServiceBit}
use Rattle.laws.specs.Worlds.{held_cells}
use Rattle.wrong.specs.SmallWorlds.{fresh, active_talker, hidden_request, shown_request, takes, takes_command, takes_ready}
use Rattle.wrong.specs.Trials.{one_to_four}
use Rattle.wrong.specs.WrongFrames.{same_address_on, service_on_commands, takes_service, shows_hidden, carries_service_over, counts_ready_on, packs_control}
use Rattle.wrong.specs.Broken.{Breaks}
use Rattle.wrong.proofs.Computing.{computes}
use Rattle.wrong.proofs.Ends.{is_answer}

-- 5,130 where 5,131 is due
pub same_address_on_falls : Breaks same_address_on FramesPass
unfolding computes
same_address_on_falls law =
    true≢false (ap (is_answer (made 5 130)) ((law (takes_ready 130) fresh tt (made 5 130) refl refl).address refl refl))

-- 5,1 where 4,1 is due
pub service_on_commands_falls : Breaks service_on_commands FramesPass
unfolding computes
service_on_commands_falls law =
    true≢false (ap (is_answer (made 5 1)) ((law (takes_command 1) shown_request tt (made 4 1) refl refl).command refl))

-- 0,68 where 1,68 is due
pub takes_service_falls : Breaks takes_service FramesPass
unfolding computes
takes_service_falls law =
    true≢false (ap (is_answer (made 0 68)) ((law (takes 1 68) fresh tt (made 1 68) refl refl).passes refl))

pub takes_the_service_bit_falls : Breaks takes_service ServiceBit
unfolding computes
takes_the_service_bit_falls law = false≢true ((law (takes 1 68) fresh tt (made 1 68) 0 68 refl refl).bit refl)

pub shows_hidden_falls : Breaks shows_hidden ServiceBit
unfolding computes
shows_hidden_falls law = true≢false ((law (takes 0 68) hidden_request tt (made 0 68) 1 68 refl refl).bit refl)

two_held : held_cells active_talker ≡ 49 ∷ 50 ∷ []
unfolding start_state
two_held = held_unbroken one_to_four (record { cap = 4; oldest = 0; len = 2 }) (omega arith)

-- 1,48 comes back for 0,48, and 1,49 is sent
pub carries_service_falls : Breaks carries_service_over ServiceBit
unfolding computes
carries_service_falls law = true≢false ((law (takes 1 48) active_talker tt (made 1 48) 1 49 refl (rw two_held)).bit refl)

-- 5,255 is answered by 5,256
pub counts_ready_on_falls : Breaks counts_ready_on ElevenBits
unfolding computes
counts_ready_on_falls law = false≢true (law (takes_ready 255) fresh tt)

-- 2,68 is answered by 0,580
pub packs_control_falls : Breaks packs_control ElevenBits
unfolding computes
packs_control_falls law = false≢true (law (takes 2 68) fresh tt)
