-- By the kind: the word, the name and the bytes, one behind the other.
use native.Mathlib.Omega.{arith}
use Rattle.lists.proofs.Put.{added_append}
use Rattle.text_steps.specs.Written.{step_text}
use Rattle.text_steps.proofs.Lengths.{name_most}
use Rattle.text_steps.proofs.put_step.Goals as goal

pub returns-in-Set : goal.returns-in-Set
unfolding step_text
returns-in-Set c =
    let few = name_most c.in-Set.group c.in-Set.index in
    let w = c.add-name.ensures.here (omega arith) in
    let n = c.put_name-byte.ensures in
    let v = (c.add_byte.ensures.here (omega arith)) in
    rw c.in-Set.is (added_append (added_append w n (omega arith)) v (omega arith))

pub returns-in-Field : goal.returns-in-Field
unfolding step_text
returns-in-Field c =
    let few = name_most c.in-Field.group c.in-Field.index in
    let w = c.add-name-in-Field.ensures.here (omega arith) in
    let n = c.put_name-bits.ensures in
    let m = (c.add_byte-byte.ensures.here (omega arith)) in
    let v = (c.add_byte-in-Field.ensures.here (omega arith)) in
    rw c.in-Field.is (added_append
    (added_append (added_append w n (omega arith)) m (omega arith))
    v
    (omega arith))

pub returns-in-Colour : goal.returns-in-Colour
unfolding step_text
returns-in-Colour c =
    let w = c.add-e.ensures.here (omega arith) in
    let e = (c.add_byte-r.ensures.here (omega arith)) in
    let r = (c.add_byte-g.ensures.here (omega arith)) in
    let g = (c.add_byte-b.ensures.here (omega arith)) in
    let b = (c.add_byte-in-Colour.ensures.here (omega arith)) in
    rw c.in-Colour.is (added_append
    (added_append
    (added_append (added_append w e (omega arith)) r (omega arith))
    g
    (omega arith))
    b
    (omega arith))
