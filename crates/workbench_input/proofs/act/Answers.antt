-- By the request.
use borrow.Author.Rules.{rules}
use Rattle.workbench_input.specs.Acts.{acted, store_after}
use Rattle.workbench_input.proofs.act.Goals as goal

-- what is left: `Reset`, `Out`, `In`, `Pixel`, which leave the store
pub returns-in-Reset-clause-result_value : goal.returns-in-Reset-clause-result_value
unfolding acted store_after
returns-in-Reset-clause-result_value c = rw c.in-Reset.is c.restart.ensures

-- what is left: `Reset`, `Out`, `In`, `Pixel`, which leave the store
pub returns-in-Reset-clause-store_after : goal.returns-in-Reset-clause-store_after
unfolding acted store_after
returns-in-Reset-clause-store_after c = rw c.in-Reset.is

pub returns-in-Out-clause-result_value : goal.returns-in-Out-clause-result_value
unfolding acted store_after
returns-in-Out-clause-result_value c = rw c.in-Out.is c.output.ensures

pub returns-in-Out-clause-store_after : goal.returns-in-Out-clause-store_after
unfolding acted store_after
returns-in-Out-clause-store_after c = rw c.in-Out.is

pub returns-in-In-clause-result_value : goal.returns-in-In-clause-result_value
unfolding acted store_after
returns-in-In-clause-result_value c = rw c.in-In.is c.input.ensures

pub returns-in-In-clause-store_after : goal.returns-in-In-clause-store_after
unfolding acted store_after
returns-in-In-clause-store_after c = rw c.in-In.is

pub returns-in-Pixel-clause-result_value : goal.returns-in-Pixel-clause-result_value
unfolding acted store_after
returns-in-Pixel-clause-result_value c = rw c.in-Pixel.is c.colour.ensures

pub returns-in-Pixel-clause-store_after : goal.returns-in-Pixel-clause-store_after
unfolding acted store_after
returns-in-Pixel-clause-store_after c = rw c.in-Pixel.is

pub returns-in-Lend-clause-result_value : goal.returns-in-Lend-clause-result_value
unfolding acted store_after
returns-in-Lend-clause-result_value c = rw c.in-Lend.is c.lend.ensures.result_value

pub returns-in-Lend-clause-store_after : goal.returns-in-Lend-clause-store_after
unfolding acted store_after
returns-in-Lend-clause-store_after c = rw c.in-Lend.is c.lend.ensures.store_after

pub returns-in-Read-clause-result_value : goal.returns-in-Read-clause-result_value
unfolding acted store_after
returns-in-Read-clause-result_value c = rw c.in-Read.is c.load.ensures

pub returns-in-Read-clause-store_after : goal.returns-in-Read-clause-store_after
unfolding acted store_after
returns-in-Read-clause-store_after c = rw c.in-Read.is

pub returns-in-Write-clause-result_value : goal.returns-in-Write-clause-result_value
unfolding acted store_after
returns-in-Write-clause-result_value c = rw (c.in-Write.is, c.answer_number.ensures, c.save.ensures.result_number)

pub returns-in-Write-clause-store_after : goal.returns-in-Write-clause-store_after
unfolding acted store_after
returns-in-Write-clause-store_after c = rw c.in-Write.is c.save.ensures.store_after

pub returns-in-Block-clause-result_value : goal.returns-in-Block-clause-result_value
unfolding acted store_after
returns-in-Block-clause-result_value c = rw (c.in-Block.is, c.answer_number-in-Block.ensures, c.carry.ensures.result_number)

pub returns-in-Block-clause-store_after : goal.returns-in-Block-clause-store_after
unfolding acted store_after
returns-in-Block-clause-store_after c = rw c.in-Block.is c.carry.ensures.store_after

-- `Dump`, `Help`, `Quit`, `Pass`, `Unknown`
pub returns-in-Dump-clause-result_value : goal.returns-in-Dump-clause-result_value
unfolding acted store_after
returns-in-Dump-clause-result_value c = rw c.in-Dump.is

-- `Dump`, `Help`, `Quit`, `Pass`, `Unknown`
pub returns-in-Dump-clause-store_after : goal.returns-in-Dump-clause-store_after
unfolding acted store_after
returns-in-Dump-clause-store_after c = rw c.in-Dump.is

pub returns-in-Help-clause-result_value : goal.returns-in-Help-clause-result_value
unfolding acted store_after
returns-in-Help-clause-result_value c = rw c.in-Help.is

pub returns-in-Help-clause-store_after : goal.returns-in-Help-clause-store_after
unfolding acted store_after
returns-in-Help-clause-store_after c = rw c.in-Help.is

pub returns-in-Quit-clause-result_value : goal.returns-in-Quit-clause-result_value
unfolding acted store_after
returns-in-Quit-clause-result_value c = rw c.in-Quit.is c.close.ensures

pub returns-in-Quit-clause-store_after : goal.returns-in-Quit-clause-store_after
unfolding acted store_after
returns-in-Quit-clause-store_after c = rw c.in-Quit.is

pub returns-in-Pass-clause-result_value : goal.returns-in-Pass-clause-result_value
unfolding acted store_after
returns-in-Pass-clause-result_value c = rw c.in-Pass.is

pub returns-in-Pass-clause-store_after : goal.returns-in-Pass-clause-store_after
unfolding acted store_after
returns-in-Pass-clause-store_after c = rw c.in-Pass.is

pub returns-in-Unknown-clause-result_value : goal.returns-in-Unknown-clause-result_value
unfolding acted store_after
returns-in-Unknown-clause-result_value c = rw c.in-Unknown.is

pub returns-in-Unknown-clause-store_after : goal.returns-in-Unknown-clause-store_after
unfolding acted store_after
returns-in-Unknown-clause-store_after c = rw c.in-Unknown.is
