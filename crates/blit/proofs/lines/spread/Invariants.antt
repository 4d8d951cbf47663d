use Rattle.std.proofs.Common.{◌≡◌, ℕ, ◌%◌, ◌<◌, length, get_or}
use Rattle.blit.proofs.lines.spread.Given as goal

abbrev pub invariant-loop-c : goal.invariant-loop-c
invariant-loop-c l =
    (length l.buf ≡ length l.initial.buf)
    × ((g : ℕ → ℕ) → ((x : ℕ) → x < l.k → x < l.n → get_or l.initial.buf x 0 ≡ g (x % 8)) → (x : ℕ) → x < l.c → x < l.n → get_or l.buf x 0 ≡ g (x % 8))
