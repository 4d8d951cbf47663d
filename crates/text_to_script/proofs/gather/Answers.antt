use mathlib.Core.Path.{sym}
use native.Mathlib.Omega.{arith}
use Rattle.text_to_script.proofs.Gathering.{going_start, going_on, going_stop, going_end}
use Rattle.text_to_script.proofs.gather.Goals as goal

pub loop-from-init : goal.loop-from-init
loop-from-init c = going_start c.args.text.now c.args.steps.now (omega arith) c.mark_size-from.ensures

-- a line that is not fine
pub returns-in-Err : goal.returns-in-Err
returns-in-Err c = going_stop _ _ _ _ _ c.loop-from.invariant _ c.line_end-end.ensures _ c.read_line-line.ensures (sym c.in-Err.ensures)

-- a line more
pub loop-from-preserved : goal.loop-from-preserved
loop-from-preserved c =
    going_on _ _ _ _ _ c.loop-from.invariant _ c.line_end-end.ensures _ c.read_line-line.ensures (sym c.in_default.ensures) c.keep-n.ensures

pub returns : goal.returns
returns c = let l = c.loop-from in going_end c.args.text.now l.steps l.from l.k l.n l.invariant (omega arith)
