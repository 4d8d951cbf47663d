use Rattle.std.proofs.Common.{◌≡◌, ℕ, ◌-◌, Bool, ltb}
use Rattle.lists.specs.Scan.{every}
use Rattle.blit_frame.specs.declared.Transfer.{Transfer}
use Rattle.blit_frame.specs.Frame.{every_byte, pattern_place}
use Rattle.blit_frame.proofs.Ranged.pattern_inside.Given as goal

-- the pattern bytes of line r lie in memory
abbrev pub line_in : ℕ → Transfer → ℕ → Bool
line_in n t r = every (λ c. ltb (pattern_place t r c) n) 0 t.width

-- the answer from this line on is the whole answer
abbrev pub invariant-loop-r : goal.invariant-loop-r
invariant-loop-r l = every_byte l.t (λ r c. ltb (pattern_place l.t r c) l.self.n) ≡ every (line_in l.self.n l.t) l.r (l.t.height - l.r)
