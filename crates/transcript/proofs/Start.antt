-- The run starts from what create gives. Assumes nothing.
use Prim.Native.Nat.{ℕ}
use mathlib.Core.Path.{◌≡◌, refl}
use lib.ListN.{length}
use mathlib.Core.List.{List}
use Rattle.answers.specs.Answers.{said, done}
use Rattle.state.specs.Sizes.{sizes_obeyed}
use Rattle.bridge.specs.Calls.{create, unmade, checks, outcome, settled_by, rx_after, tx_after, not_refused, refused_or, step}
use Rattle.transcript.specs.Start.{StartsCreated}

pub starts_created : StartsCreated
unfolding step refused_or checks not_refused outcome settled_by rx_after tx_after sizes_obeyed said
starts_created s = refl

-- create is not refused for two stores of 64
pub made : (rx tx : List ℕ) → length rx ≡ 64 → length tx ≡ 64 → (step (create 8) (unmade 8 rx tx)).said ≡ done
unfolding step refused_or checks not_refused sizes_obeyed said
made rx tx h k = rw (h, k)
