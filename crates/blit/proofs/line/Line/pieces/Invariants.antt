use Rattle.std.proofs.Common.{◌≡◌, ◌-◌, ◌≤◌, length}
use Rattle.blit.specs.Transfer.{in_turn}
use Rattle.blit.specs.Working.{byte_of}
use Rattle.blit.proofs.line.Line.pieces.Given as goal

abbrev pub invariant-loop-c : goal.invariant-loop-c
invariant-loop-c l =
    (l.c ≤ l.self.w) × (length l.mem ≡ length l.initial.mem) × (l.mem ≡ in_turn l.c (byte_of l.self) l.initial.mem)
    × (length l.pat ≡ length l.initial.pat) × (length l.src ≡ length l.initial.src)

abbrev pub decreases-loop-c : goal.decreases-loop-c
decreases-loop-c l = l.self.w - l.c
