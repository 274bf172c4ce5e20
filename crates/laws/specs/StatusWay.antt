-- The way of a status byte round the loop, by the frame that was answered and the frames taken since. The bridge's own record of the frame
-- under way is not consulted: a bridge that records another status byte than it sends would call a damaged one unchanged.
use Rattle.std.specs.Prelude.{ℕ, Bool, false, cond, ◌&&◌, ◌||◌, List, [], ◌∷◌, eqb}
use Rattle.machine.specs.Course.{of}
use Rattle.frame.specs.Frame.{control_of, is_data, same_apart}
use Rattle.answers.specs.Answers.{Said}
use Rattle.bridge.specs.Calls.{Call, World}
use Rattle.laws.specs.Observers.{taken, on_frame, status_sent, restarts}
use Rattle.laws.specs.Bridges.{Saw}

-- it is under way no more: a data frame taken by an active talker is the return, and a command makes an active talker merely addressed
unfoldable pub ends_way : Call → Said → Bool
ends_way c a = on_frame (λ f. taken a && (is_data f || eqb (control_of f) 4)) (restarts c a) c

-- the newest of these, else those
abbrev pub newest : List ℕ → List ℕ → List ℕ
newest [] l = l
newest (g ∷ gs) l = g ∷ []

-- the status byte under way after a call, where l was before it; at most one
unfoldable pub under_way : List ℕ → Call → World → Said → List ℕ
under_way l c w a = newest (status_sent c w a) (cond (ends_way c a) [] l)

-- the frame is the one under way, the service bit aside
abbrev pub is_unchanged : List ℕ → ℕ → Bool
is_unchanged [] f = false
is_unchanged (g ∷ gs) f = same_apart f g

-- the status byte under way has come back unchanged
unfoldable pub status_back : List ℕ → Call → Said → Bool
status_back l c a = on_frame (λ f. taken a && (is_data f && is_unchanged l f)) false c

-- in the run a status byte has come back unchanged, the one under way at its start or one sent in it
unfoldable pub comes_back : List ℕ → List Saw → Bool
comes_back l [] = false
comes_back l (s ∷ ss) = status_back l s.call s.answer || comes_back (of (under_way l) s) ss

-- a status byte was sent in the run and has come back unchanged
abbrev pub sent_and_back : List Saw → Bool
sent_and_back = comes_back []
