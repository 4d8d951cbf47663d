-- The loops' invariants: a name's number is 256 times its group's, plus its index.
use Rattle.std.proofs.Common.{arith, ◌∙◌, length-set}
use Rattle.chip.proofs.Places.{noted, passed, filled}
use Rattle.chip.proofs.fill.Goals as goal
use Rattle.chip.proofs.fill.Goals.{in-Some, in_default, else-loop-i-test, then-loop-i-test+else-i-lt255}

pub loop-i-preserved : goal.loop-i-preserved
loop-i-preserved c =
    let place = rw c.group_at-g.ensures at c.place_of.ensures.place in
    elim c.match-place_of.branch [
      | in-Some w ↦
          let made = rw c.group_at-g.ensures at w.after_reset.ensures in
          rw w.row-is record {
            size = length-set _ _ _ ∙ c.loop-i.invariant.size;
            done = noted _ _ _ _ _ (omega arith) c.loop-i.invariant.done place w.in-Some.is _ c.loop-i.invariant.size made;
          }
      | in_default w ↦ rw w.row-is record { size = c.loop-i.invariant.size; done = passed _ _ _ _ _ (omega arith) c.loop-i.invariant.done place w.in_default.is }
    ]

pub loop-k-preserved : goal.loop-k-preserved
loop-k-preserved c =
    elim c.loop-i-test.branch [
      | else-loop-i-test w ↦ absurd (omega arith)
      | then-loop-i-test+else-i-lt255 v ↦
          let place = rw c.group_at-g.ensures at v.place_of.ensures.place in
          elim v.match-place_of.branch [
            | in-Some w ↦
                let made = rw c.group_at-g.ensures at w.after_reset.ensures in
                rw (v.row-is, w.row-is) record {
                  size = length-set _ _ _ ∙ c.loop-i.invariant.size;
                  done = λ m h. noted _ _ _ _ _ (omega arith) c.loop-i.invariant.done place w.in-Some.is _ c.loop-i.invariant.size made m (omega arith);
                }
            | in_default w ↦
                rw (v.row-is, w.row-is) record {
                  size = c.loop-i.invariant.size;
                  done = λ m h. passed _ _ _ _ _ (omega arith) c.loop-i.invariant.done place w.in_default.is m (omega arith);
                }
          ]
    ]

pub returns : goal.returns
returns c = filled _ _ c.loop-k.row (λ m h. c.loop-k.invariant.done m (omega arith))
