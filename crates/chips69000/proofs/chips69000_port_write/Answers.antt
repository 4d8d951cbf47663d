-- The word's lower half.
use Rattle.chips69000.proofs.Words.{low_half}
use Rattle.chips69000.proofs.chips69000_port_write.Goals as goal

pub returns-clause-packed : goal.returns-clause-packed
returns-clause-packed c = low_half _ _ c.write_word.ensures.packed
