-- What a law says of a run that is written out, for each kind of law. Assumes nothing.
use mathlib.Core.Path.{◌≡◌, refl, ap, subst, ◌∙◌}
use mathlib.Core.List.{List, [], ◌∷◌, map}
use Rattle.machine.specs.Course.{Seen}
use Rattle.machine.specs.Machine.{Law, of_calls, of_runs, of_since, of_between, course, finally, AllFair, Obeys}
use Rattle.refuting.specs.WrittenOut.{Turn, called, Kind, machine_of, Does, saw, seen_so, left_so, OfRun, OfSince, OfBetween}

module _ {World Call Said Did : Type 0} (K : Kind World Call Said Did) (B : Call → World → Did) where
  as_written : (w : World) (ts : List (Turn Call Did)) → Does K B w ts → course (machine_of K B) (map called ts) w ≡ seen_so K w ts
  unfolding course
  as_written w [] e = refl
  as_written w (t ∷ ts) e =
      ap (λ (d : Did). saw K t.call w d ∷ course (machine_of K B) (map called ts) (K.left d)) e.0
      ∙ ap (λ (ss : List (Seen World Call Said)). saw K t.call w t.does ∷ ss) (as_written (K.left t.does) ts e.1)

  left_written : (w : World) (ts : List (Turn Call Did)) → Does K B w ts → finally (machine_of K B) (map called ts) w ≡ left_so K w ts
  unfolding finally
  left_written w [] e = refl
  left_written w (t ∷ ts) e =
      ap (λ (d : Did). finally (machine_of K B) (map called ts) (K.left d)) e.0 ∙ left_written (K.left t.does) ts e.1

  -- a call and the run after it
  since_written : (w : World) (t : Turn Call Did) (ts : List (Turn Call Did)) → Does K B w (t ∷ ts) →
      (saw K t.call w (B t.call w) ≡ saw K t.call w t.does)
      × (course (machine_of K B) (map called ts) (K.left (B t.call w)) ≡ seen_so K (K.left t.does) ts)
  since_written w t ts e = (
    ap (saw K t.call w) e.0,
    ap (λ (d : Did). course (machine_of K B) (map called ts) (K.left d)) e.0 ∙ as_written (K.left t.does) ts e.1,
  )

  -- and a call after that
  then_written : (w : World) (t : Turn Call Did) (ts : List (Turn Call Did)) (c : Call) → Does K B w (t ∷ ts) →
      saw K c (finally (machine_of K B) (map called ts) (K.left (B t.call w))) (B c (finally (machine_of K B) (map called ts) (K.left (B t.call w))))
      ≡ saw K c (left_so K w (t ∷ ts)) (B c (left_so K w (t ∷ ts)))
  then_written w t ts c e =
      ap (λ (v : World). saw K c v (B c v))
      (ap (λ (d : Did). finally (machine_of K B) (map called ts) (K.left d)) e.0 ∙ left_written (K.left t.does) ts e.1)

  -- ---- the laws

  pub in_run : (L : Law World Call Said) (w : World) (ts : List (Turn Call Did)) → Does K B w ts → K.Fine w → AllFair (machine_of K B) (map called ts) →
      Obeys (machine_of K B) L → OfRun L w (seen_so K w ts)
  in_run (of_runs P) w ts d h f law = subst (P w) (as_written w ts d) (law (map called ts) w h f)
  in_run (of_calls P) w ts d h f law = tt
  in_run (of_since P) w ts d h f law = tt
  in_run (of_between P) w ts d h f law = tt

  pub in_since : (L : Law World Call Said) (w : World) (t : Turn Call Did) (ts : List (Turn Call Did)) → Does K B w (t ∷ ts) → K.Fine w →
      AllFair (machine_of K B) (map called (t ∷ ts)) → Obeys (machine_of K B) L →
      OfSince L (saw K t.call w t.does) (seen_so K (K.left t.does) ts)
  in_since (of_since P) w t ts d h f law =
      subst (λ (x : Seen World Call Said × List (Seen World Call Said)). P x.0 x.1)
      (λ i. ((since_written w t ts d).0 i, (since_written w t ts d).1 i))
      (law t.call (map called ts) w h f.0 f.1)
  in_since (of_calls P) w t ts d h f law = tt
  in_since (of_runs P) w t ts d h f law = tt
  in_since (of_between P) w t ts d h f law = tt

  pub in_between : (L : Law World Call Said) (w : World) (t : Turn Call Did) (ts : List (Turn Call Did)) (c : Call) → Does K B w (t ∷ ts) → K.Fine w →
      AllFair (machine_of K B) (map called (t ∷ ts)) → Obeys (machine_of K B) L →
      OfBetween L (saw K t.call w t.does) (seen_so K (K.left t.does) ts) (saw K c (left_so K w (t ∷ ts)) (B c (left_so K w (t ∷ ts))))
  in_between (of_between P) w t ts c d h f law =
      subst (λ (x : Seen World Call Said × (List (Seen World Call Said) × Seen World Call Said)). P x.0 x.1.0 x.1.1)
      (λ i. ((since_written w t ts d).0 i, ((since_written w t ts d).1 i, then_written w t ts c d i)))
      (law t.call (map called ts) c w h f.0 f.1)
  in_between (of_calls P) w t ts c d h f law = tt
  in_between (of_runs P) w t ts c d h f law = tt
  in_between (of_since P) w t ts c d h f law = tt
