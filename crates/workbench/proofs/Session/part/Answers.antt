-- With room for a reply at least one byte is taken.
use Rattle.std.proofs.Common.{ap, ◌≤◌, length, arith, rules}
use borrow.Author.Tests.{le-leb}
use Rattle.workbench_input.specs.Lines.{Place, lent_input_at}
use Rattle.workbench_input.proofs.PartLaws.{fed_moves}
use Rattle.workbench.proofs.Session.part.Goals as goal

pub returns : goal.returns
returns g c =
    let a = c.args in
    let b = a.self.now in
    let s = lent_input_at (record { bench = b.input.bench; size = b.input.size; next = 0 }) b.store.now b.line b.out in
    let e = ap (λ (p : Place). p.from) c.feed-f.ensures in
    let room : 8192 ≤ length b.out = omega arith in
    rw e (fed_moves s a.from a.bytes.now c.requires (le-leb _ _ room))
