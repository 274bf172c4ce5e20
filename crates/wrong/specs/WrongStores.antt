-- Bridges that treat the stores, or the state that goes with them, wrongly.
use Rattle.std.specs.Prelude.{ℕ, ◌+◌, ◌%◌, cond, ◌&&◌, not, List, [], ◌∷◌, ◌++◌, eqb, length, set, get_or}
use Rattle.store.specs.Ring.{empty_ring, drop_ring}
use Rattle.answers.specs.Answers.{done, byte, is_byte}
use Rattle.state.specs.State.{with_rx, with_tx}
use Rattle.bridge.specs.Calls.{receive, ask_line_byte, Call, World, world, Did, step}
use Rattle.laws.specs.Observers.{any, on_one, owes, accepted, breaks, lost, added, handed_out, clears}
use Rattle.places.specs.OneStore.{next_place, written_from}
use Rattle.reading.specs.Received.{marked_cell}
use Rattle.laws.specs.StorePlaces.{written_to}
use Rattle.places.specs.GoingRound.{GoingRound}
use Rattle.places.specs.WrongGoingRound.{late, masked, to_the_second}
use Rattle.wrong.specs.Changing.{leaving, afterwards, answering, is_create}

-- ---- places

-- writes a line byte one place too far
abbrev pub one_too_far : Call → World → Did
one_too_far =
    leaving
    (λ c w v. world v.state (written_from marked_cell ((next_place (length w.rx) w.state.rx + 1) % length w.rx) (written_to receive c w done) w.rx)
    v.tx)

-- a device clear drops what the receive store holds and does not go back to place 0
abbrev pub clears_in_place : Call → World → Did
clears_in_place = afterwards (λ c w s. cond (clears c w done) (with_rx s (drop_ring w.state.rx w.state.rx.len)) s)

-- writes 0 over the byte that is taken
abbrev pub wiping : Call → World → Did
wiping = leaving (λ c w v. world v.state v.rx (cond (any (handed_out c w (step c w).said)) (set w.tx w.state.tx.oldest 0) v.tx))

-- ---- going round

-- the store with the bytes l written by a way of going round, the first at the place p, which may be past the last
abbrev written_by : GoingRound → ℕ → List ℕ → List ℕ → List ℕ
written_by g p [] s = s
written_by g p (b ∷ l) s = written_by g (p + 1) l (set s (g (length s) p) b)

-- a bridge that writes by a way of going round
abbrev round_by : GoingRound → Call → World → Did
round_by g =
    leaving
    (λ c w v.
    world v.state (cond (breaks c w done) v.rx (written_by g (w.state.rx.oldest + w.state.rx.len) (accepted c w done) w.rx))
    (written_by g (w.state.tx.oldest + w.state.tx.len) (added c w done) w.tx))

-- goes round one place late, and swallows the byte that should stand at place 0
abbrev pub round_late : Call → World → Did
round_late = round_by late

-- goes round by a mask, whatever the length of the store
abbrev pub round_masked : Call → World → Did
round_masked = round_by masked

-- comes round to place 1, and writes over the byte that is held there
abbrev pub round_to_second : Call → World → Did
round_to_second = round_by to_the_second

-- compares once for a frame: C02 and C03 go on past the last place, and are swallowed there
abbrev pub compares_once : Call → World → Did
compares_once = leaving (λ c w v. world v.state v.rx (written_by (λ cap p. p) (next_place (length w.tx) w.state.tx) (added c w done) w.tx))

-- records the place past the last for the oldest byte where it comes round to place 0
abbrev pub oldest_late : Call → World → Did
oldest_late =
    afterwards
    (λ c w s. cond (any (handed_out c w (step c w).said) && eqb s.tx.oldest 0)
    (with_tx s (record { cap = s.tx.cap; oldest = s.tx.cap; len = s.tx.len })) s)

-- says the byte of place 0 where the one at the last place is next
abbrev pub reads_across : Call → World → Did
reads_across =
    answering
    (λ c w a. on_one ask_line_byte
    (cond (is_byte a && (not (owes w.state.line.stopped w) && eqb (w.state.tx.oldest + 1) (length w.tx))) (byte (get_or w.tx 0 0)) a) a c)

-- ---- the stores themselves

-- makes the receive store longer where a byte would be lost
abbrev pub growing : Call → World → Did
growing = leaving (λ c w v. world v.state (v.rx ++ lost c w done) v.tx)

-- a device clear leaves stores without any place
abbrev pub clears_away : Call → World → Did
clears_away = leaving (λ c w v. cond (clears c w done) (world v.state [] []) v)

-- ---- fitting

-- create records the length of the receive store for both
abbrev pub creates_alike : Call → World → Did
creates_alike = afterwards (λ c w s. cond (is_create c) (with_tx s (empty_ring (length w.rx))) s)
