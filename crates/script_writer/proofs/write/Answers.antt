-- `write` meets its contract: with each answer go the number and the value that the table has for it.
use Rattle.std.proofs.Common.{◌≡◌, Ok, Err, rules, length}
use Rattle.script.specs.declared.Refusal.TheVariants.{Room}
use Rattle.script_writer.specs.Write.{written}
use Rattle.script_writer.proofs.Writing.{answered}
use Rattle.script_writer.proofs.write.Goals as goal

-- 9
pub returns-then-out-n-clause-result_value : goal.returns-then-out-n-clause-result_value
unfolding written
returns-then-out-n-clause-result_value c =
    let a = c.args in
    let v : written a.list.now (length a.out.now) ≡ Err Room = search rules in
    (answered a.list.now (length a.out.now) v).1

-- the file
pub returns-clause-result_value : goal.returns-clause-result_value
unfolding written
returns-clause-result_value c =
    let a = c.args in
    let v : written a.list.now (length a.out.now) ≡ Ok c.div_ceil-n.result = search rules in
    (answered a.list.now (length a.out.now) v).1
