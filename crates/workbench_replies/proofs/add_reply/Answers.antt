-- By the kind of answer.
use borrow.Author.Rules.{rules}
use native.Mathlib.Omega.{arith}
use Rattle.lists.proofs.Put.{added_none}
use Rattle.text.proofs.Adding.{then_in}
use Rattle.workbench_replies.specs.Reply.{reply_text}
use Rattle.workbench_replies.proofs.add_reply.Goals as goal

pub returns-in-Number : goal.returns-in-Number
unfolding reply_text
returns-in-Number c = rw c.in-Number.is (then_in 1 (c.add_decimal-end.ensures.here (omega arith)) c.add.ensures (omega arith))

pub returns-in-Byte : goal.returns-in-Byte
unfolding reply_text
returns-in-Byte c =
    let number = c.add_decimal-number.ensures.here (omega arith) in
    rw c.in-Byte.is (then_in 1 (then_in 3 number c.add_byte-end.ensures (omega arith)) c.add-in-Byte.ensures (omega arith))

pub returns-in-Told : goal.returns-in-Told
unfolding reply_text
returns-in-Told c =
    let number = c.add_decimal-number-in-Told.ensures.here (omega arith) in
    let first = then_in 3 number c.add_byte-first.ensures (omega arith) in
    rw c.in-Told.is (then_in 1 (then_in 3 first c.add_byte-end-in-Told.ensures (omega arith)) c.add-in-Told.ensures (omega arith))

pub returns-in-Colour : goal.returns-in-Colour
unfolding reply_text
returns-in-Colour c =
    let number = c.add-number.ensures.here (omega arith) in
    let red = then_in 3 number c.add_byte-r.ensures (omega arith) in
    let green = then_in 3 red c.add_byte-g.ensures (omega arith) in
    rw c.in-Colour.is (then_in 1 (then_in 3 green c.add_byte-end-in-Colour.ensures (omega arith)) c.add-in-Colour.ensures (omega arith))

pub returns-in-Registers : goal.returns-in-Registers
unfolding reply_text
returns-in-Registers c = rw c.in-Registers.is (c.dump.ensures.here (omega arith))

pub returns-in-Requests : goal.returns-in-Requests
unfolding reply_text
returns-in-Requests c = rw c.in-Requests.is (c.add-in-Requests.ensures.here (omega arith))

-- nothing
pub returns-in-Nothing : goal.returns-in-Nothing
unfolding reply_text
returns-in-Nothing c = rw c.in-Nothing.is (added_none _ _)

pub returns-in-Unknown : goal.returns-in-Unknown
unfolding reply_text
returns-in-Unknown c = rw c.in-Unknown.is (c.add-in-Unknown.ensures.here (omega arith))
