-- The names of the groups before, and those of this group before an index, have their bytes.
use Rattle.std.proofs.Common.{◌≡◌, ℕ, ◌+◌, ◌*◌, ◌<◌, length}
use Rattle.chip_registers.specs.Row.{row_size}
use Rattle.chip.proofs.Places.{Stored}
use Rattle.chip.proofs.fill.Given as goal

abbrev pub invariant-loop-k : goal.invariant-loop-k
invariant-loop-k l = record {
  size : length l.row ≡ row_size;
  done : (m : ℕ) → m < 256 * l.k → Stored l.first l.second l.row m;
}

abbrev pub invariant-loop-i : goal.invariant-loop-i
invariant-loop-i l = record {
  size : length l.row ≡ row_size;
  done : (m : ℕ) → m < 256 * l.k + l.i → Stored l.first l.second l.row m;
}
