-- What is said of what was played on a chip after a reset.
use Rattle.text_played.specs.Told.{told, left}
use Rattle.text_played.proofs.tell.Goals as goal

pub returns-clause-value : goal.returns-clause-value
unfolding told left
returns-clause-value c =
    let p = c.play-played.ensures in
    let fresh = c.new.ensures in
    let s = c.say.ensures in
    rw (← fresh, ← p.result_value) s.value

pub returns-clause-out_after : goal.returns-clause-out_after
unfolding told left
returns-clause-out_after c =
    let p = c.play-played.ensures in
    let fresh = c.new.ensures in
    let s = c.say.ensures in
    rw (← fresh, ← p.result_value) s.out_after
