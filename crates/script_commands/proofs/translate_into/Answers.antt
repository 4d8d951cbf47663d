-- The steps written, whichever list it is.
use mathlib.Core.Path.{sym, ap, ◌∙◌}
use lib.ListN.{length}
use Rattle.script_commands.specs.Translation.{steps_to, of_translated}
use Rattle.script_commands.proofs.Translating.{put_whole, room-number}
use Rattle.script_commands.proofs.translate_into.Goals as goal

pub returns-clause-out_after : goal.returns-clause-out_after
returns-clause-out_after g c =
    let a = c.args in
    let acc = sym c.check_file.ensures.value ∙ c.in_ok-m.was in
    (put_whole a.file.now (λ n. g.L.Listing.list (steps_to a.file.now n)) a.out.now _ acc c.if-out-m.false c.put_steps.ensures).1

pub returns-clause-number : goal.returns-clause-number
returns-clause-number g c =
    let a = c.args in
    let acc = sym c.check_file.ensures.value ∙ c.in_ok-m.was in
    ap of_translated (put_whole a.file.now (λ n. g.L.Listing.list (steps_to a.file.now n)) a.out.now _ acc c.if-out-m.false c.put_steps.ensures).0
    ∙ room-number a.file.now (λ n. g.L.Listing.list (steps_to a.file.now n)) (length a.out.now)
