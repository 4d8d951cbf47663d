-- One line a target: what the callee did there.
use Rattle.std.proofs.Common.{refl, rules}
use Rattle.chip.proofs.DifferLaws.{unmoved}
use Rattle.lent_chip.proofs.Holding.{as_it_is}
use Rattle.lent_chip.proofs.Words.{now_wrote, quietly}
use Rattle.std.specs.Prelude.{Ok, Err}
use Rattle.chip.specs.declared.access.AccessError.TheVariants.{Unlisted}
use Rattle.lent_chip.proofs.access.write_to.Goals as goal

pub returns-in-Index : goal.returns-in-Index
returns-in-Index c = rw c.in-Index.is (quietly (Ok tt) c.set_index.ensures (unmoved _ _ refl))

pub returns-in-ReadIndex : goal.returns-in-ReadIndex
returns-in-ReadIndex c = rw c.in-ReadIndex.is (quietly (Ok tt) c.aim.ensures (unmoved _ _ refl))

pub returns-in-WriteIndex : goal.returns-in-WriteIndex
returns-in-WriteIndex c = rw c.in-WriteIndex.is (quietly (Ok tt) c.aim-in-WriteIndex.ensures (unmoved _ _ refl))

pub returns-in-Status : goal.returns-in-Status
returns-in-Status c = rw c.in-Status.is (quietly (Err Unlisted) (as_it_is c.told-state) (unmoved _ _ refl))

pub returns-in-NotPicked : goal.returns-in-NotPicked
returns-in-NotPicked c = rw c.in-NotPicked.is (quietly (Ok tt) (as_it_is c.told-state) (unmoved _ _ refl))

pub returns-in-NotListed : goal.returns-in-NotListed
returns-in-NotListed c = rw c.in-NotListed.is (quietly (Err Unlisted) (as_it_is c.told-state) (unmoved _ _ refl))
