-- Ask, then take: asks in between change nothing, over a run of any machine. It is no law of the list, because it sets two runs side by side.
use Rattle.std.specs.Prelude.{◌≡◌, cond, List, [], ◌∷◌}
use Rattle.machine.specs.Course.{Seen}
use Rattle.machine.specs.Machine.{Machine, course, finally, AllFair}
use Rattle.bridge.specs.Calls.{Call, World}
use Rattle.laws.specs.Observers.{asks_line_byte}

-- the calls of a run without its asks
unfoldable pub without_asks : List Call → List Call
without_asks [] = []
without_asks (c ∷ cs) = cond (asks_line_byte c) (without_asks cs) (c ∷ without_asks cs)

module _ {Said : Type 0} where
  -- what is seen of a run without them
  unfoldable pub seen_without_asks : List (Seen World Call Said) → List (Seen World Call Said)
  seen_without_asks [] = []
  seen_without_asks (s ∷ ss) = cond (asks_line_byte s.call) (seen_without_asks ss) (s ∷ seen_without_asks ss)

  -- the run goes as it goes without its asks
  pub record LeftOut (M : Machine World Call Said) (cs : List Call) (o : M.Own) : Type 0 where
    -- every other call finds the same world, answers the same and leaves the same
    pub seen : seen_without_asks (course M cs o) ≡ course M (without_asks cs) o
    -- and it ends in the same world
    pub end : M.stands (finally M cs o) ≡ M.stands (finally M (without_asks cs) o)

  -- whatever is called, and whatever world it starts in
  abbrev pub AsksLeftOut : Machine World Call Said → Type 0
  AsksLeftOut M = (cs : List Call) (o : M.Own) → M.Fine o → AllFair M cs → LeftOut M cs o
