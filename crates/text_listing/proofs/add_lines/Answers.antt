-- The loop's invariant: the lines of the first j commands stand in the output.
use Prim.Native.Nat.{◌*◌, ◌-◌, ◌≤◌}
use mathlib.Core.Path.{◌≡◌, refl, ◌∙◌}
use native.Mathlib.Omega.{arith}
use lib.ListN.{length}
use Rattle.text_listing.specs.Adding.{command_at}
use Rattle.lists.proofs.Put.{added_none, added_append, added_length}
use Rattle.text_listing.proofs.Adding.{read_most, lines_most, lines_start, lines_next}
use Rattle.text_listing.proofs.add_lines.Goals as goal

pub loop-j-init : goal.loop-j-init
loop-j-init c = (rw lines_start (added_none _ _), refl)

pub add_read-at-requires : goal.add_read-at-requires
add_read-at-requires c =
    let l = c.loop-j in
    omega (arith, lines_most c.args.bytes.now l.j)

pub loop-j-preserved : goal.loop-j-preserved
loop-j-preserved c =
    let l = c.loop-j in
    let s = c in
    let one = rw c.command_of-c.ensures at c.add_read-at.ensures in
    let room : c.add_read-at.result ≤ length s.args.out.now = omega (arith, read_most (command_at s.args.bytes.now (4 * l.j)), lines_most s.args.bytes.now l.j) in
    let same : length l.out ≡ length s.args.out.now = l.invariant.1 in
    (rw (lines_next s.args.bytes.now l.j) (added_append l.invariant.0 one room), added_length one (omega arith) ∙ same)
