-- The header, and the lines behind it.
use native.Mathlib.Omega.{arith}
use Rattle.lists.proofs.Put.{added_append}
use Rattle.text_listing.proofs.Adding.{lines_most}
use Rattle.text_listing.proofs.Listing.{header_most}
use Rattle.text_listing.proofs.add_text.Goals as goal

pub add_lines-requires : goal.add_lines-requires
add_lines-requires c =
    let s = c in
    (s.requires.0, omega (arith, header_most s.args.steps s.args.k s.args.changing))

pub returns : goal.returns
returns c =
    let s = c in
    let front = c.add_header-at.ensures in
    let rest = c.add_lines.ensures in
    added_append front rest
    (omega (arith, header_most s.args.steps s.args.k s.args.changing, lines_most s.args.bytes.now s.args.k))
