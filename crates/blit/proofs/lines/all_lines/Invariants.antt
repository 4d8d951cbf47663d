use Rattle.std.proofs.Common.{◌≡◌, length}
use Rattle.blit.specs.Transfer.{in_turn, line_done}
use Rattle.blit.proofs.lines.all_lines.Given as goal

abbrev pub invariant-loop-r : goal.invariant-loop-r
invariant-loop-r l =
    (l.mem ≡ in_turn l.r (λ r m. line_done l.fn.t r m) l.initial.mem)
    × (length l.mem ≡ length l.initial.mem) × (length l.pat ≡ length l.initial.pat) × (length l.src ≡ length l.initial.src)
