-- Status byte: its bits, when a request begins, and when the bits of what happened clear.
use Rattle.std.specs.Prelude.{ℕ, ◌+◌, ◌/◌, ◌%◌, Bool, cond, ◌&&◌, ◌||◌, not, eqb}
use Rattle.status.specs.declared.Conditions.{Conditions}
use Rattle.status.specs.declared.Events.{Events}

-- Status byte, bits 0 to 7: the transmit store empty, not full, the receive store not empty, full, break, overrun, request, key
unfoldable pub status_byte : Conditions → Bool → ℕ
status_byte c requested =
    ((cond c.txempty 1 0 + cond c.txnotfull 2 0) + cond c.rxnotempty 4 0 + cond c.rxfull 8 0)
    + ((cond c.brk 16 0 + cond c.overrun 32 0) + cond requested 64 0 + cond c.key 128 0)

-- Status byte, requests: of each condition whether it is enabled and holds
abbrev pub both : Conditions → Conditions → Conditions
both e c =
    record {
      txempty = e.txempty && c.txempty;
      txnotfull = e.txnotfull && c.txnotfull;
      rxnotempty = e.rxnotempty && c.rxnotempty;
      rxfull = e.rxfull && c.rxfull;
      brk = e.brk && c.brk;
      overrun = e.overrun && c.overrun;
      key = e.key && c.key;
    }

-- a condition comes to hold: after the call and not before it
abbrev pub comes : Bool → Bool → Bool
comes before after = after && not before

-- Status byte, requests: one begins where a condition is "enabled-and-holding" after the call and was not before it
abbrev pub begins : Conditions → Conditions → Bool
begins b a =
    (((((comes b.txempty a.txempty || comes b.txnotfull a.txnotfull) || comes b.rxnotempty a.rxnotempty) || comes b.rxfull a.rxfull)
    || comes b.brk a.brk) || comes b.overrun a.overrun) || comes b.key a.key

-- the status byte d showed the bit that weighs so much
abbrev pub showed : ℕ → ℕ → Bool
showed d weight = eqb (d / weight % 2) 1

-- Status byte, last: a bit that the returning byte showed clears, unless its thing happened again meanwhile
abbrev pub stays : Bool → Bool → Bool → Bool
stays set shown again = set && not (shown && not again)

-- the three things of bits 4, 5 and 7 after the status byte d has come back
abbrev pub acknowledged : Events → Events → ℕ → Events
acknowledged e again d =
    record {
      brk = stays e.brk (showed d 16) again.brk;
      overrun = stays e.overrun (showed d 32) again.overrun;
      key = stays e.key (showed d 128) again.key;
    }
