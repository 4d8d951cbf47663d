-- `blit::lines::all_lines` meets its contract: each turn is one more line of the definition. Assumes nothing.
use Rattle.std.proofs.Common.{◌≡◌, length, refl, ap, ◌∙◌, add-one, arith, rules}
use Rattle.blit.specs.Transfer.{in_turn, line_done, lines_done}
use Rattle.blit.proofs.Rows.{in_ranges, destination_low, source_low_lem}
use Rattle.blit.proofs.lines.all_lines.Goals as goal

pub lines_below-lowest-requires : goal.lines_below-lowest-requires
lines_below-lowest-requires c = (in_ranges (length c.args.mem.now) c.args.t c.requires.accepted).high

pub loop-r-init : goal.loop-r-init
unfolding in_turn
loop-r-init c = (refl, refl, refl, refl)

pub invariant_of-lines : goal.invariant_of-lines
invariant_of-lines c =
    let t = c.args.t in
    let n = length c.args.mem.now in
    let lo = c.lines_below-lowest in
    let es = c.uses_source.ensures in
    let low = c.line_low-dlow.ensures ∙ destination_low n t c.requires.accepted lo.result lo.ensures.1 in
    let slow = rw (es, low) at c.source_low-slow.ensures ∙ source_low_lem n t c.requires.accepted lo.result lo.ensures.1 in
    record { destination_lowest = rw lo.ensures.0 at low; source_lowest = rw lo.ensures.0 at slow }

pub loop-r-preserved : goal.loop-r-preserved
unfolding in_turn
loop-r-preserved c =
    let l = c.loop-r in (
      rw add-one (c.one.ensures ∙ ap (line_done _ l.r) l.invariant.0),
      search rules,
      search rules,
      search rules,
    )

pub returns : goal.returns
unfolding lines_done
returns c =
    let e : c.loop-r.r ≡ c.args.t.height = omega arith in
    rw e at c.loop-r.invariant.0
