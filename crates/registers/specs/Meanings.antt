-- What the bits and characters mean: the paper, and appendix D of the manual of the HP 82164A.
use Rattle.std.specs.Prelude.{ℕ, Bool}
use Rattle.registers.specs.declared.Registers.{Registers}
use Rattle.registers.specs.Bits.{bit}

-- Status byte, requests: R00 bit 3 lets a request show
abbrev pub requests_show : Registers → Bool
requests_show g = bit 3 g.r00

-- appendix D: each condition of a request has its enabling bit, in R00, R01 or R02
abbrev pub overrun_enabled : Registers → Bool
overrun_enabled g = bit 0 g.r00

abbrev pub transmit_empty_enabled : Registers → Bool
transmit_empty_enabled g = bit 0 g.r01

abbrev pub transmit_not_full_enabled : Registers → Bool
transmit_not_full_enabled g = bit 1 g.r01

abbrev pub receive_not_empty_enabled : Registers → Bool
receive_not_empty_enabled g = bit 2 g.r01

abbrev pub receive_full_enabled : Registers → Bool
receive_full_enabled g = bit 3 g.r01

abbrev pub break_enabled : Registers → Bool
break_enabled g = bit 0 g.r02

abbrev pub key_enabled : Registers → Bool
key_enabled g = bit 2 g.r02

-- appendix D, R10 bit 3: end characters from the line are looked for and deleted
abbrev pub end_detected : Registers → Bool
end_detected g = bit 3 g.r10

-- appendix D, R10 bit 2: end characters are inserted on the line
abbrev pub end_inserted : Registers → Bool
end_inserted g = bit 2 g.r10

-- appendix D, R11 bit 3: the receiver protocol
abbrev pub protocol_on : Registers → Bool
protocol_on g = bit 3 g.r11

-- appendix D, C04 and C05: the "Ready Character" is our go, the "Not Ready Character" our stop
abbrev pub go : Registers → ℕ
go g = g.c04

abbrev pub stop : Registers → ℕ
stop g = g.c05
