-- By the answer.
use Rattle.lists.proofs.Put.{added_none}
use Rattle.text_to_script.specs.Complaint.{complaint}
use Rattle.text_to_script.proofs.put_complaint.Goals as goal

pub returns-in-Ok : goal.returns-in-Ok
unfolding complaint
returns-in-Ok c = rw c.in-Ok.is (added_none c.args.out.now c.args.at)

pub returns-in-Err-Stopped : goal.returns-in-Err-Stopped
unfolding complaint
returns-in-Err-Stopped c =
    let error = rw c.in-Err-Stopped.is at c.in-Err-Stopped.field-0-is in
    rw (c.in-Err-Stopped.is, error) c.put_stopped.ensures

pub returns-in-Err-Refused : goal.returns-in-Err-Refused
unfolding complaint
returns-in-Err-Refused c =
    let error = rw c.in-Err-Refused.is at c.in-Err-Refused.field-0-is in
    rw (c.in-Err-Refused.is, error) c.put_refusal.ensures
