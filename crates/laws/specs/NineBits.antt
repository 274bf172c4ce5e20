-- A break is a wall, the cells: of what is written in the receive store the bits above the ninth are 0. It names neither what a cell stands for
-- nor what a mark makes of one.
use Rattle.std.specs.Prelude.{ℕ, ◌<◌, ◌≡◌, ◌⊎◌, get_or}
use Rattle.machine.specs.Machine.{of_calls}
use Rattle.laws.specs.Bridges.{Law, ByteCall}

-- of every call and every cell: it is as it was, or it has nine bits; a byte from the line is below 256, as its type says
abbrev pub NineBits : Law
NineBits =
    of_calls
    (λ s. ByteCall s.call → (k : ℕ) → (get_or s.after.rx k 0 ≡ get_or s.before.rx k 0) ⊎ (get_or s.after.rx k 0 < 512))
