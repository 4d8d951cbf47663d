use Rattle.std.proofs.Common.{◌≡◌, length}
use Rattle.blit.specs.Transfer.{in_turn}
use Rattle.blit.specs.Working.{line_byte}
use Rattle.blit.proofs.lines.in_order.Given as goal

abbrev pub invariant-loop-c : goal.invariant-loop-c
invariant-loop-c g l =
    (length l.mem ≡ length l.initial.mem)
    × (l.mem ≡ in_turn l.c (line_byte l.code l.source l.pattern l.left l.d l.s l.p l.w) l.initial.mem)
