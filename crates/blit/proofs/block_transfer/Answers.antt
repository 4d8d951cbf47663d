-- `blit::block_transfer` meets its contract: the answer is judged, and the lines of an accepted one are done. Assumes nothing.
use Rattle.std.proofs.Common.{length, sym, ◌∙◌}
use Rattle.blit_frame.proofs.Numbers.{done-accepted, refused_unaccepted}
use Rattle.blit.specs.Transfer.{transferred}
use Rattle.blit.proofs.block_transfer.Goals as goal

-- refused
pub returns-in_err-judge-clause-mem_after : goal.returns-in_err-judge-clause-mem_after
unfolding transferred
returns-in_err-judge-clause-mem_after c = rw (refused_unaccepted _ c.args.t _ (sym c.judge.ensures.value ∙ c.in_err-judge.was))

pub run-requires : goal.run-requires
run-requires c = done-accepted (length c.args.mem.now) c.args.t (sym c.judge.ensures.value ∙ c.in_ok-judge.was)

-- done
pub returns-clause-mem_after : goal.returns-clause-mem_after
unfolding transferred
returns-clause-mem_after c = rw (done-accepted (length c.args.mem.now) c.args.t (sym c.judge.ensures.value ∙ c.in_ok-judge.was)) c.run.ensures
