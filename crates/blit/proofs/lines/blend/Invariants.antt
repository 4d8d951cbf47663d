use Rattle.blit.specs.Working.{Part, blended_byte}
use Rattle.blit.proofs.lines.blend.Given as goal

abbrev pub invariant-loop-c : goal.invariant-loop-c
invariant-loop-c g l = Part l.d (blended_byte l.code l.source l.pattern l.d l.s l.f l.pat l.initial.mem) 0 l.c l.initial.mem l.mem
