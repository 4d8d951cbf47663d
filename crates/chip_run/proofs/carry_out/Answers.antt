-- By the kind of command.
use Rattle.std.proofs.Common.{refl, sym, ap, ◌∙◌}
use Rattle.chip.proofs.DifferLaws.{unmoved, read_differs_not}
use Rattle.chip_run.specs.Run.{done, after_write}
use Rattle.chip_run.proofs.carry_out.Goals as goal

pub returns-in-Out : goal.returns-in-Out
unfolding done
returns-in-Out c = rw c.in-Out.is record {
  shown = c.after_write.ensures.shown ∙ ap (after_write c.args.acc) c.write.ensures.result_value;
  counted = c.after_write.ensures.counted ∙ c.write.ensures.changed_value;
}

pub returns-in-In : goal.returns-in-In
unfolding done
returns-in-In c = rw c.in-In.is record {
  shown = rw (c.judge.ensures, ← c.read-s.ensures.result_value);
  counted = sym (read_differs_not _ _);
}

pub returns-in-Merge : goal.returns-in-Merge
unfolding done
returns-in-Merge c = rw c.in-Merge.is record { shown = refl; counted = sym (unmoved _ _ refl) }

pub returns-in-OutAcc : goal.returns-in-OutAcc
unfolding done
returns-in-OutAcc c = rw c.in-OutAcc.is record {
  shown = c.after_write-in-OutAcc.ensures.shown ∙ ap (after_write c.args.acc) c.write-in-OutAcc.ensures.result_value;
  counted = c.after_write-in-OutAcc.ensures.counted ∙ c.write-in-OutAcc.ensures.changed_value;
}
