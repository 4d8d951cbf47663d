-- What is left where the bytes are a state; others are refused.
use Rattle.std.proofs.Common.{rules, ◌≡◌, length}
use Rattle.lent_chip.specs.Layout.{whole}
use Rattle.lent_chip.proofs.access.read_word.Goals as goal

pub returns-clause-left : goal.returns-clause-left
returns-clause-left c = let h = c.in-Some.ensures.cases in record { held = λ _. rw h.same at c.read_in.ensures.holds; kept = λ k. absurd (k h.long) }
