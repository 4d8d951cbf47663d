-- The loop's invariant: the line so far and what is left of the text come to the lines from its place on.
use mathlib.Core.Path.{◌≡◌}
use lib.ListN.{drop}
use Rattle.text_to_script.specs.Lines.{lines_from, lines_of}
use Rattle.text_to_script.specs.Working.{part}
use Rattle.text_to_script.proofs.line_end.Given as goal

abbrev pub invariant-loop-i : goal.invariant-loop-i
invariant-loop-i l = lines_from (part l.text l.from l.i) (drop l.i l.text) ≡ lines_of (drop l.from l.text)
