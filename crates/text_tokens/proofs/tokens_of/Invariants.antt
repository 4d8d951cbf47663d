-- The loop's invariant: what is left, taken from here, comes to what the whole line comes to.
use Rattle.std.proofs.Common.{◌≡◌, drop}
use Rattle.text_tokens.specs.Tokens.{none, taken_all}
use Rattle.text_tokens.proofs.tokens_of.Given as goal

abbrev pub invariant-loop-c : goal.invariant-loop-c
invariant-loop-c l = taken_all l.s (drop l.c-index l.line) ≡ taken_all none l.line
