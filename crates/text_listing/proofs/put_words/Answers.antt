-- Each word, and the digits behind it.
use native.Mathlib.Omega.{arith}
use Rattle.lists.proofs.Put.{added_append}
use Rattle.text_listing.proofs.put_words.Goals as goal

pub returns-in-Out : goal.returns-in-Out
returns-in-Out c =
    let number = added_append (c.add-word.ensures.here (omega arith)) c.put_port-number.ensures (omega arith) in
    rw c.in-Out.is (added_append number (c.add_byte.ensures.here (omega arith)) (omega arith))

pub returns-in-In : goal.returns-in-In
returns-in-In c = rw c.in-In.is (added_append (c.add-word-in-In.ensures.here (omega arith)) c.put_port.ensures (omega arith))

pub returns-in-Merge : goal.returns-in-Merge
returns-in-Merge c =
    let kept = added_append (c.add-word-in-Merge.ensures.here (omega arith)) (c.add_byte-kept.ensures.here (omega arith)) (omega arith) in
    rw c.in-Merge.is (added_append kept (c.add_byte-in-Merge.ensures.here (omega arith)) (omega arith))

pub returns-in-OutAcc : goal.returns-in-OutAcc
returns-in-OutAcc c =
    rw c.in-OutAcc.is (added_append (c.add-word-in-OutAcc.ensures.here (omega arith)) c.put_port-in-OutAcc.ensures (omega arith))
