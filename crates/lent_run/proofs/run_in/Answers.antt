-- The loop's invariant: bytes that hold what is still to be run from. Each way out is a turn of that law.
use Rattle.std.proofs.Common.{◌≡◌, ◌+◌, ◌*◌, ◌%◌, ◌<◌, length, arith}
use Rattle.chip_run.proofs.Turns.{read-four, finished, limited, whole, uneven}
use Rattle.chip_run.specs.declared.Ending.TheVariants.{Ended, AtLimit}
use Rattle.lent_run.proofs.Turns.{begun, out, read_as, again, stopped, unrun}
use Rattle.lent_run.proofs.run_in.Goals as goal

pub returns-in_default : goal.returns-in_default
returns-in_default c =
    let odd : length c.args.commands.now % 4 ≡ 0 → ⊥ = λ e. omega arith in
    unrun c.args.commands.now c.args.limit c.told-state (uneven _ _ _ odd)

pub loop-place-init : goal.loop-place-init
loop-place-init c = begun c.told-state (whole _ _ _ (omega arith))

pub returns-then-place-limit : goal.returns-then-place-limit
returns-then-place-limit c =
    let l = c.loop-place in
    let room : 4 * l.place + 3 < length c.args.commands.now = omega arith in
    out AtLimit l.invariant (limited _ _ _ _ _ _ _ room c.if-place-limit.true)

pub returns-in-Err : goal.returns-in-Err
returns-in-Err c =
    let l = c.loop-place in
    let room : 4 * l.place + 3 < length c.args.commands.now = omega arith in
    let below : l.place < c.args.limit = omega (arith, l.invariant.below) in
    let four = read-four c.args.commands.now c.as_chunks.ensures.front l.place _ (omega arith) in
    stopped l.invariant room below (read_as l.acc four c.command-turn.ensures) c.in-Err.is

pub loop-place-preserved : goal.loop-place-preserved
loop-place-preserved c =
    let l = c.loop-place in
    let room : 4 * l.place + 3 < length c.args.commands.now = omega arith in
    let below : l.place < c.args.limit = omega (arith, l.invariant.below) in
    let four = read-four c.args.commands.now c.as_chunks.ensures.front l.place _ (omega arith) in
    again l.invariant room below (read_as l.acc four c.command-turn.ensures) c.in_default-verdict.is c.from-changing.ensures (omega arith)

pub returns : goal.returns
returns c =
    let l = c.loop-place in
    let commands = c.args.commands.now in
    let end : l.place ≡ length c.as_chunks.result.0.now = omega arith in
    let e = out Ended l.invariant (finished _ _ _ _ _ commands (4 * l.place) (omega arith)) in
    rw end at e
