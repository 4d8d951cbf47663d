-- The loop's invariant: the lines of the first j steps stand in the output. The reader hands out every step of an accepted
-- file, so the way out before the last is never taken.
use Rattle.lists.specs.Put.{Added}
use Rattle.text_from_script.specs.Show.{text_to}
use Rattle.text_from_script.proofs.put_lines.Given as goal

abbrev pub invariant-loop-j : goal.invariant-loop-j
invariant-loop-j l = Added l.initial.out 0 (text_to l.file l.j) l.out l.at
