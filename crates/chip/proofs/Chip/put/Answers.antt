-- Where it stands in the row, or in a field of its own.
use Rattle.std.proofs.Common.{◌≡◌, length, ◌∙◌, arith}
use Rattle.chip_registers.specs.Row.{row_size}
use Rattle.chip.proofs.Places.{put-there, put_nowhere, indexed-else, put-msr, put-palmask}
use Rattle.chip.proofs.Chip.put.Goals as goal

pub returns-in-Some : goal.returns-in-Some
returns-in-Some c =
    let size : length c.args.self.row ≡ row_size = omega arith in
    put-there _ _ _ (omega arith) c.place_of.ensures.place c.in-Some.is _ _ _ size (c.writable_now-mask.ensures ∙ rw c.locked.ensures) c.write.ensures

pub returns-in-Msr : goal.returns-in-Msr
returns-in-Msr c = put-msr _ _ c.in-Msr.is _ _ _ _ (c.writable_now-mask.ensures ∙ rw c.locked.ensures) c.write-in-Msr.ensures

pub returns-in-Palmask : goal.returns-in-Palmask
returns-in-Palmask c = put-palmask _ _ c.in-Palmask.is _ _ _ _ (c.writable_now-mask.ensures ∙ rw c.locked.ensures) c.write-in-Palmask.ensures

pub returns-in_default-g : goal.returns-in_default-g
returns-in_default-g c =
    let row = indexed-else c.args.g c.in_default-g.not-Msr c.in_default-g.not-Palmask in
    put_nowhere _ _ _ (omega arith) c.place_of.ensures.place _ row c.in_default.is
