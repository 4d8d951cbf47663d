use Rattle.blit.specs.Working.{Part, taken_byte}
use Rattle.blit.proofs.lines.blend_taken.Given as goal

abbrev pub invariant-loop-c : goal.invariant-loop-c
invariant-loop-c g l = Part l.d (taken_byte l.code l.pattern l.d l.f l.pat l.src l.initial.mem) 0 l.c l.initial.mem l.mem
