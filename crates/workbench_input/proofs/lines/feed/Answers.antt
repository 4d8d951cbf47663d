-- No room, a byte kept, a line answered, and the end.
use mathlib.Core.Path.{◌≡◌, sym, ◌∙◌}
use native.Mathlib.Omega.{arith}
use lib.ListN.{get_or}
use Rattle.workbench_input.specs.Lines.{view_answered}
use Rattle.workbench_input.specs.View.{view_bench}
use Rattle.workbench_input.proofs.LineLaws.{taken-kept, taken-line, fed_end, fed_full, fed-more}
use Rattle.workbench_input.proofs.lines.feed.Invariants.{here}
use Rattle.workbench_input.proofs.lines.feed.Goals as goal

-- no room
pub returns-then-not-has_room : goal.returns-then-not-has_room
returns-then-not-has_room c =
    let l = c.loop-i in
    let s = here (view_bench l.bench) l.store l.line l.size l.out l.next in
    let e = sym c.has_room.ensures.value ∙ c.if-not-has_room.true in
    fed_full s l.i c.args.bytes.now c.loop-i-test.true e ∙ l.invariant.0

-- a byte kept
pub loop-i-preserved-then-c-ne10 : goal.loop-i-preserved-then-c-ne10
loop-i-preserved-then-c-ne10 c =
    let l = c.loop-i in
    let a = c.args in
    let s = here (view_bench l.bench) l.store l.line l.size l.out l.next in
    let k = c.keep-size in
    let e = sym c.has_room.ensures.value ∙ c.if-not-has_room.false in
    let turn = taken-kept s (get_or a.bytes.now l.i 0) c.if-c-ne10.true k.new.line k.result k.ensures.value k.ensures.line_after in (
      fed-more s l.i a.bytes.now c.loop-i-test.true e _ turn ∙ l.invariant.0,
      l.invariant.1,
      omega arith,
      l.invariant.3,
      omega arith,
    )

-- a line answered
pub loop-i-preserved : goal.loop-i-preserved
loop-i-preserved c =
    let l = c.loop-i in
    let a = c.args in
    let s = here (view_bench l.bench) l.store l.line l.size l.out l.next in
    let k = c.end_line-a in
    let r = k.ensures in
    let e = sym c.has_room.ensures.value ∙ c.if-not-has_room.false in
    let turn = taken-line s (get_or a.bytes.now l.i 0) c.if-c-ne10.false (view_answered k.result) _ _ r.result_value r.store_after r.out_after in (
      fed-more s l.i a.bytes.now c.loop-i-test.true e _ turn ∙ l.invariant.0,
      omega arith,
      l.invariant.2,
      omega arith,
      omega arith,
    )

-- the end
pub returns : goal.returns
returns c =
    let l = c.loop-i in
    let s = here (view_bench l.bench) l.store l.line l.size l.out l.next in
    let at : c.max.result ≡ l.i = omega arith in
    rw at (fed_end s l.i c.args.bytes.now c.loop-i-test.false ∙ l.invariant.0)
