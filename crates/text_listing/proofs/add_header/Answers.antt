-- The two lines, one behind the other.
use native.Mathlib.Omega.{arith}
use Rattle.lists.proofs.Put.{added_append}
use Rattle.text_listing.proofs.Listing.{counts_most, changing_most}
use Rattle.text_listing.proofs.add_header.Goals as goal

pub add_changing-requires : goal.add_changing-requires
add_changing-requires c = omega (arith, counts_most c.args.steps c.args.commands)

pub returns : goal.returns
returns c =
    let a = c.args in
    added_append c.add_counts-at.ensures c.add_changing.ensures
    (omega (arith, counts_most a.steps a.commands, changing_most a.changing))
