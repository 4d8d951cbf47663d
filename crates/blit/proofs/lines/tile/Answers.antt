-- `blit::lines::tile` meets its contract: the eight bytes are put twice, and spread from there. Assumes nothing.
use Rattle.std.proofs.Common.{ℕ, ◌+◌, get_or}
use Rattle.blit.proofs.Parts.{put_twice}
use Rattle.blit.proofs.lines.tile.Goals as goal

pub returns : goal.returns
returns c =
    let b = c in
    let g : ℕ → ℕ = λ y. get_or b.args.mem.now (b.args.p + y) 0 in
    λ e.
    c.spread-2.ensures g (λ x hx hn.
    c.spread.ensures g (λ x hx hl.
    put_twice b.args.p b.args.mem.now _ _ _ c.copy.ensures.copied c.copy-2.ensures.copied x hx)
    x (c.least.ensures.2 x hn hx))
