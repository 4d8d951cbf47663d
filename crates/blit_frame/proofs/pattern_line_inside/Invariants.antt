use Rattle.std.proofs.Common.{ℕ, ◌+◌, ◌%◌, ◌<◌}
use Rattle.blit_frame.proofs.pattern_line_inside.Given as goal

abbrev pub invariant-loop-c : goal.invariant-loop-c
invariant-loop-c l = (k : ℕ) → k < l.c → l.p + (l.d + k) % 8 < l.n
