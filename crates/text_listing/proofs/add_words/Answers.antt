-- Room for the longest, and none.
use native.Mathlib.Omega.{arith}
use Rattle.text.proofs.Adding.{none_in, in_added}
use Rattle.text_listing.specs.Line.{words}
use Rattle.text_listing.proofs.Adding.{words_most}
use Rattle.text_listing.proofs.add_words.Goals as goal

pub returns-then-has_room : goal.returns-then-has_room
returns-then-has_room c = let a = c.args in in_added 11 a.out.now a.at (words a.c) (omega (arith, c.has_room.ensures.more_bound.0 c.if-has_room.true)) (words_most a.c) c.put_words.ensures

pub returns : goal.returns
returns c = let a = c.args in none_in 11 a.out.now a.at (words a.c) (omega (arith, c.has_room.ensures.more_bound.1 c.if-has_room.false))
