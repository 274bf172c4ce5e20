-- The C functions do what the product does, and so obey every law that it obeys. Assumes nothing.
use mathlib.Core.Path.{refl}
use Rattle.machine.specs.Machine.{narrowed}
use Rattle.machine.proofs.Opening.{carried, all_carried, opens_narrowed}
use Rattle.answers.specs.Answers.{Said}
use Rattle.boundary.specs.Product.{Product, telling_of}
use Rattle.boundary.specs.CCalls.{opened}
use Rattle.boundary.specs.CRuns.{c_telling}
use Rattle.boundary.specs.CLaws.{CIsTheProduct, CAnswersAsTheProduct, LawsHoldInC, AllHoldInC}
use Rattle.boundary.specs.Formed.{Formed}
use Rattle.boundary.specs.Kept.{Kept}
use Rattle.boundary.proofs.Opened.{opened_typed, whole_kept, call_means}
use Rattle.boundary.proofs.Answers.{answers_told, rooms_told}

module _ (P : Product) (F : Formed P) (K : Kept P) where
  pub c_is_the_product : CIsTheProduct P
  c_is_the_product =
      record {
        own = opened P;
        stands = λ l. refl;
        answer = λ c l h i. record { said = answers_told P F K c l h i; room = rooms_told P F K c l h i };
        after = λ c l h. (call_means P F K c l h).world;
        kept = λ c l h b. whole_kept P F K l h c b;
        fine = λ l h. (opened_typed P F K l h.lendable).fine;
        fair = λ c b. b;
      }

  pub c_answers_as_the_product : CAnswersAsTheProduct P
  c_answers_as_the_product = opens_narrowed (c_telling P) (telling_of P) Said (λ a. a.said) c_is_the_product

  pub laws_hold_in_c : LawsHoldInC P
  laws_hold_in_c Part part = carried (narrowed part (c_telling P)) (narrowed part (telling_of P)) (opens_narrowed (c_telling P) (telling_of P) Part part c_is_the_product)

  pub all_hold_in_c : AllHoldInC P
  all_hold_in_c Part part =
      all_carried (narrowed part (c_telling P)) (narrowed part (telling_of P)) (opens_narrowed (c_telling P) (telling_of P) Part part c_is_the_product)
