-- `blit::lines::Lines::one` meets its contract: the line, its source and its pattern lie where the definition says. Assumes
-- nothing.
use Rattle.std.proofs.Common.{◌≤◌, length, ◌∙◌, arith}
use Rattle.blit.specs.Working.{source_span}
use Rattle.blit.proofs.Rows.{sizes, in_ranges, lowest_line, destination_above, source_above, source_close, pattern_low_lem, destination_fits, source_fits, pattern_fits, line-done}
use Rattle.blit.proofs.lines.Lines.one.Goals as goal

pub low_above-d-requires : goal.low_above-d-requires
low_above-d-requires c =
    let n = length c.args.mem.now in
    let t = c.args.self.t in
    let ok = c.requires.accepted in
    let first = c.args.self.destination_lowest in
    let rs = in_ranges n t ok in
    (omega (arith, destination_fits n t ok _ (lowest_line n t ok), (sizes n t ok).1), rs.close, omega (arith, rs.low))

pub low_above-s-requires : goal.low_above-s-requires
low_above-s-requires c =
    let n = length c.args.mem.now in
    let t = c.args.self.t in
    let ok = c.requires.accepted in
    let first = c.args.self.source_lowest in
    let span = rw c.uses_source-source.ensures at c.source_span.ensures in
    let close : source_span t ≤ 8191 = source_close n t ok c.args.r c.requires.in_height in
    (omega (arith, source_fits n t ok _ (lowest_line n t ok), (sizes n t ok).1), omega arith, omega (arith, (in_ranges n t ok).low))

pub done-requires-clause-lies_in : goal.done-requires-clause-lies_in
done-requires-clause-lies_in c =
    let n = length c.args.mem.now in
    let t = c.args.self.t in
    let ok = c.requires.accepted in
    let r = c.args.r in
    let hr = c.requires.in_height in
    let below = c.lines_below-k.ensures.0 in
    let span = rw c.uses_source-source.ensures at c.source_span.ensures in
    let low = rw (c.args.self.destination_lowest, below) at c.low_above-d.ensures ∙ destination_above n t ok r hr in
    let slow = rw (c.args.self.source_lowest, below, span) at c.low_above-s.ensures ∙ source_above n t ok r hr in
    record {
      destination = rw low (destination_fits n t ok r hr);
      source = rw slow (source_fits n t ok r hr);
      small = omega (arith, (sizes n t ok).1);
    }

pub done-requires-clause-pattern_in : goal.done-requires-clause-pattern_in
done-requires-clause-pattern_in c =
    let n = length c.args.mem.now in
    let t = c.args.self.t in
    let ok = c.requires.accepted in
    let r = c.args.r in
    let hr = c.requires.in_height in
    let below = c.lines_below-k.ensures.0 in
    let low = rw (c.args.self.destination_lowest, below) at c.low_above-d.ensures ∙ destination_above n t ok r hr in
    let plow = rw c.uses_pattern-pattern.ensures at c.pattern_low-p.ensures.0 ∙ pattern_low_lem n t ok r hr in
    record { begins = omega (arith, c.pattern_low-p.ensures.1); bytes = rw (low, plow) (pattern_fits n t ok r hr) }

pub done-requires-clause-narrow : goal.done-requires-clause-narrow
done-requires-clause-narrow c = (in_ranges (length c.args.mem.now) c.args.self.t c.requires.accepted).narrow

pub returns : goal.returns
returns c =
    let n = length c.args.mem.now in
    let t = c.args.self.t in
    let ok = c.requires.accepted in
    let r = c.args.r in
    let hr = c.requires.in_height in
    let below = c.lines_below-k.ensures.0 in
    let span = rw c.uses_source-source.ensures at c.source_span.ensures in
    let low = rw (c.args.self.destination_lowest, below) at c.low_above-d.ensures ∙ destination_above n t ok r hr in
    let slow = rw (c.args.self.source_lowest, below, span) at c.low_above-s.ensures ∙ source_above n t ok r hr in
    let plow = rw c.uses_pattern-pattern.ensures at c.pattern_low-p.ensures.0 ∙ pattern_low_lem n t ok r hr in
    rw (low, slow, plow) at c.done.ensures ∙ line-done n t ok r hr c.args.mem.now
