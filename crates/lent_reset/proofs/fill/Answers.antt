-- The loops' invariants: a name's number is 256 times its group's, plus its index.
use Prim.Native.Nat.{◌+◌, ◌*◌}
use mathlib.Core.Path.{◌≡◌}
use native.Mathlib.Omega.{arith}
use Rattle.lent_reset.proofs.Bytes.{filled, none_done, next_name, fresh_holds}
use Rattle.lent_reset.proofs.fill.Goals as goal
use Rattle.lent_reset.proofs.fill.Goals.{else-loop-i-test, then-loop-i-test+else-i-lt255}

pub loop-n-init : goal.loop-n-init
loop-n-init c = none_done _ _ _ (filled c.args.state.now c.told-state (c.fill.ensures.after (λ y e. e)))

pub loop-i-preserved : goal.loop-i-preserved
loop-i-preserved c =
    let l = c.loop-i in
    rw (c.store.ensures, c.after_reset.ensures, c.group_at-g.ensures) (next_name _ _ c.loop-n.n l.i l.state l.invariant (omega arith) (omega arith))

pub loop-n-preserved : goal.loop-n-preserved
loop-n-preserved c =
    let l = c.loop-i in
    elim c.loop-i-test.branch [
      | else-loop-i-test w ↦ absurd (omega arith)
      | then-loop-i-test+else-i-lt255 v ↦
          let next : 256 * (c.loop-n.n + 1) ≡ 256 * c.loop-n.n + (l.i + 1) = omega arith in
          rw (v.state-is, v.store.ensures, v.after_reset.ensures, c.group_at-g.ensures, next)
          (next_name _ _ c.loop-n.n l.i l.state l.invariant (omega arith) (omega arith))
    ]

pub returns : goal.returns
returns c =
    let all : 256 * c.loop-n.n ≡ 2304 = omega arith in
    let done = c.loop-n.invariant in
    fresh_holds _ _ c.loop-n.state (rw all at done)
