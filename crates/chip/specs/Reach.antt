-- The states that accesses can reach: a reset, and then any port reads and writes whatever, refused ones included.
-- The pin bytes stand in the type: the promise on scripts asks for a reset with CFG1 = 1.
use Rattle.std.specs.Prelude.{ℕ, ◌<◌}
use Rattle.chip.specs.Access.{port_written, port_read}
use Rattle.chip.specs.Reset.{reset}
use Rattle.chip.specs.State.{Chip}

-- what accesses reach from a reset with these pin bytes
pub data Reach (first second : ℕ) : Chip → Type 0 where
  fresh : Reach first second (reset first second)
  wrote : {c : Chip} (p v : ℕ) → v < 0x100 → Reach first second c → Reach first second (port_written c p v).chip
  saw : {c : Chip} (p : ℕ) → Reach first second c → Reach first second (port_read c p).chip
