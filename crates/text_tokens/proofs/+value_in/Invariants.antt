-- The measure is the number of places.
use Rattle.text_tokens.proofs.+value_in.Given as goal

abbrev pub decreases-value_in : goal.decreases-value_in
decreases-value_in l = l.n
