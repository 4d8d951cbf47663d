-- `blit::lines::run` meets its contract: either pair of buffers is long enough. Assumes nothing.
use Rattle.std.proofs.Common.{length, arith, rules}
use Rattle.blit.proofs.Rows.{in_ranges}
use Rattle.blit.proofs.lines.run.Goals as goal

pub all_lines-requires-2-clause-room : goal.all_lines-requires-2-clause-room
all_lines-requires-2-clause-room c =
    let narrow = (in_ranges (length c.args.mem.now) c.args.t c.requires).narrow in
    record { pattern = omega arith; tiles = search rules; source = omega arith }
