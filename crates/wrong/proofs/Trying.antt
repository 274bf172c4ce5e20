-- What a law says of a bridge's run that is written out, for each kind of law. Assumes nothing.
use mathlib.Core.Path.{◌≡◌}
use mathlib.Core.Bool.{true}
use mathlib.Core.List.{List, ◌∷◌, map}
use Rattle.machine.specs.Machine.{Obeys}
use Rattle.bridge.specs.Calls.{Call, World, Did}
use Rattle.laws.specs.Bridges.{Law, TellingLaw, telling, bridge}
use Rattle.refuting.specs.WrittenOut as out
use Rattle.refuting.specs.WrittenOut.{OfRun, OfSince, OfBetween}
use Rattle.refuting.proofs.ByTurns as by-turns
use Rattle.wrong.proofs.Small.{byte_calls, fair_calls}
use Rattle.wrong.proofs.Written.{bridges, telling_bridges, Turn, called, Does, saw, seen_so, left_so}

module _ (B : Call → World → Did) (L : Law) (w : World) where
  -- of a run
  pub in_run : (ts : List Turn) → Does B w ts → byte_calls (map called ts) ≡ true → Obeys (bridge B) L → OfRun L w (seen_so w ts)
  in_run ts d f law = by-turns.in_run bridges B L w ts d tt (fair_calls B (map called ts) f) law

  -- of a call and the run after it
  pub in_since : (t : Turn) (ts : List Turn) → Does B w (t ∷ ts) → byte_calls (map called (t ∷ ts)) ≡ true →
      Obeys (bridge B) L → OfSince L (saw t.call w t.does) (seen_so t.does.world ts)
  in_since t ts d f law = by-turns.in_since bridges B L w t ts d tt (fair_calls B (map called (t ∷ ts)) f) law

  -- of a call, the run after it and a call after that
  pub in_between : (t : Turn) (ts : List Turn) (c : Call) → Does B w (t ∷ ts) → byte_calls (map called (t ∷ ts)) ≡ true →
      Obeys (bridge B) L → OfBetween L (saw t.call w t.does) (seen_so t.does.world ts) (saw c (left_so w (t ∷ ts)) (B c (left_so w (t ∷ ts))))
  in_between t ts c d f law = by-turns.in_between bridges B L w t ts c d tt (fair_calls B (map called (t ∷ ts)) f) law

-- the same of a law that looks at the room told
module _ (B : Call → World → Did) (L : TellingLaw) (w : World) where
  pub told_since : (t : Turn) (ts : List Turn) → Does B w (t ∷ ts) → byte_calls (map called (t ∷ ts)) ≡ true →
      Obeys (telling B) L → OfSince L (out.saw telling_bridges t.call w t.does) (out.seen_so telling_bridges t.does.world ts)
  told_since t ts d f law = by-turns.in_since telling_bridges B L w t ts d tt (fair_calls B (map called (t ∷ ts)) f) law

  pub told_between : (t : Turn) (ts : List Turn) (c : Call) → Does B w (t ∷ ts) → byte_calls (map called (t ∷ ts)) ≡ true →
      Obeys (telling B) L →
      OfBetween L (out.saw telling_bridges t.call w t.does) (out.seen_so telling_bridges t.does.world ts)
      (out.saw telling_bridges c (left_so w (t ∷ ts)) (B c (left_so w (t ∷ ts))))
  told_between t ts c d f law =
      by-turns.in_between telling_bridges B L w t ts c d tt (fair_calls B (map called (t ∷ ts)) f) law
