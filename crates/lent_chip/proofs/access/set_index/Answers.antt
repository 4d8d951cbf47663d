-- By the group: one store of what is kept.
use Rattle.lent_chip.specs.Layout.{CR_INDEX, SR_INDEX, GR_INDEX, XR_INDEX, FR_INDEX, MR_INDEX, AR_INDEX}
use Rattle.lent_chip.proofs.Holding.{as_it_is, now_holds, then_single}
use Rattle.std.proofs.Common.{arith, rules}
use Rattle.lent_chip.proofs.access.set_index.Goals as goal

pub returns-in-Cr : goal.returns-in-Cr
returns-in-Cr c = now_holds (then_single CR_INDEX _ (as_it_is c.told-state) (omega arith)) (rw (c.index_kept-kept.ensures, c.in-Cr.is))

pub returns-in-Sr : goal.returns-in-Sr
returns-in-Sr c = now_holds (then_single SR_INDEX _ (as_it_is c.told-state) (omega arith)) (rw (c.index_kept-kept.ensures, c.in-Sr.is))

pub returns-in-Gr : goal.returns-in-Gr
returns-in-Gr c = now_holds (then_single GR_INDEX _ (as_it_is c.told-state) (omega arith)) (rw (c.index_kept-kept.ensures, c.in-Gr.is))

pub returns-in-Xr : goal.returns-in-Xr
returns-in-Xr c = now_holds (then_single XR_INDEX _ (as_it_is c.told-state) (omega arith)) (rw (c.index_kept-kept.ensures, c.in-Xr.is))

pub returns-in-Fr : goal.returns-in-Fr
returns-in-Fr c = now_holds (then_single FR_INDEX _ (as_it_is c.told-state) (omega arith)) (rw (c.index_kept-kept.ensures, c.in-Fr.is))

pub returns-in-Mr : goal.returns-in-Mr
returns-in-Mr c = now_holds (then_single MR_INDEX _ (as_it_is c.told-state) (omega arith)) (rw (c.index_kept-kept.ensures, c.in-Mr.is))

pub returns-in-Ar : goal.returns-in-Ar
returns-in-Ar c = now_holds (then_single AR_INDEX _ (as_it_is c.told-state) (omega arith)) (rw (c.index_kept-kept.ensures, c.in-Ar.is))
