-- The byte of a cell is a byte, whatever stands in the cell, and so is that of every frame that is sent. Assumes nothing.
use Prim.Native.Nat.{ℕ, zero, suc, ◌-◌, ◌/◌, ◌%◌, ◌<◌}
use native.Mathlib.Omega.{arith}
use mathlib.Core.Path.{◌≡◌, sym, subst}
use mathlib.Core.Bool.{Bool, true, false, cond}
use mathlib.Core.List.{List, [], ◌∷◌}
use lib.Dec.{eqb}
use lib.ListN.{length, drop}
use Rattle.frame.specs.Frame.{made}
use Rattle.reading.specs.declared.Rule.{Rule}
use Rattle.reading.specs.declared.Decision.{Decision}
use Rattle.reading.specs.declared.Decision.TheVariants.{Removed, End, Data, Wait}
use Rattle.reading.specs.Reading.{Cut, wait, skip, give, Sent, none, one, send}
use Rattle.reading.specs.Received.{Received, a_byte, a_break, received, received_in}
use Rattle.reading.specs.Steps.{decision, carried, cut}
use Rattle.reading.proofs.Cuts.{skip_oldest, by_cuts_lem}
use Rattle.reading.proofs.Reading.{send_at}
use Rattle.reading.proofs.Lawful.{lawful}

-- every byte among them is one
abbrev AllBytes : List Received → Type 0
AllBytes [] = Unit {0}
AllBytes (a_byte b ∷ xs) = (b < 256) × AllBytes xs
AllBytes (a_break ∷ xs) = AllBytes xs

cells_bytes : (cells : List ℕ) → AllBytes (received_in cells)
unfolding received
cells_bytes [] = tt
cells_bytes (n ∷ cells) = (omega arith, go (eqb (n / 256 % 2) 1) (cells_bytes cells))
  where
    go : (t : Bool) → AllBytes (received_in cells) → AllBytes (cond t (a_break ∷ received_in cells) (received_in cells))
    go true ih = ih
    go false ih = ih

drop_bytes : (n : ℕ) (xs : List Received) → AllBytes xs → AllBytes (drop n xs)
drop_bytes zero xs h = h
drop_bytes (suc n) [] h = tt
drop_bytes (suc n) (a_byte b ∷ xs) h = drop_bytes n xs h.1
drop_bytes (suc n) (a_break ∷ xs) h = drop_bytes n xs h

-- what holds of the data frame and of the end byte of every byte holds of every frame that is sent
module _ (r : Rule) (P : ℕ → Type 0) (of-data : (b : ℕ) → b < 256 → P (made 0 b)) (of_end : (b : ℕ) → b < 256 → P (made 2 b)) where
  abbrev OfCut : Cut Received ℕ → Type 0
  OfCut wait = Unit {0}
  OfCut (skip s) = Unit {0}
  OfCut (give f s) = P f

  abbrev OfSent : Sent Received ℕ → Type 0
  OfSent (none s) = Unit {0}
  OfSent (one f s) = P f

  of_carried : (d : Decision) (b : ℕ) (xs : List Received) → b < 256 → OfCut (carried d b xs)
  of_carried Removed b xs h = tt
  of_carried End b xs h = of_end b h
  of_carried Data b xs h = of-data b h
  of_carried Wait b xs h = tt

  of_cut : (xs : List Received) → AllBytes xs → OfCut (cut r xs)
  unfolding cut
  of_cut [] h = tt
  of_cut (a_break ∷ xs) h = tt
  of_cut (a_byte b ∷ xs) h = of_carried (decision r (a_byte b ∷ xs)) b (a_byte b ∷ xs) h.0

  of_send : (xs : List Received) → AllBytes xs → OfSent (send (cut r) xs)
  of_send =
      by_cuts_lem (cut r) (lawful r) (λ xs. AllBytes xs → OfSent (send (cut r) xs))
      (λ xs e h. subst OfSent (sym (send_at (cut r) (lawful r) xs wait e)) tt)
      (λ xs s e ih h.
      subst OfSent (sym (send_at (cut r) (lawful r) xs (skip s) e))
      (ih (subst AllBytes (sym (skip_oldest (cut r) (lawful r) xs s e).suffix) (drop_bytes (length xs - length s) xs h))))
      (λ xs f s e ih h. subst OfSent (sym (send_at (cut r) (lawful r) xs (give f s) e)) (subst OfCut e (of_cut xs h)))

  -- from any cells
  pub sent_frame : (cells : List ℕ) (f : ℕ) (rest : List Received) → send (cut r) (received_in cells) ≡ one f rest → P f
  sent_frame cells f rest e = subst OfSent e (of_send (received_in cells) (cells_bytes cells))
