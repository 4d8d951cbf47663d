-- By the kind of step: what is kept in mind says whether the short list has the step's index.
use mathlib.Core.Path.{refl, sym, ◌∙◌}
use Rattle.script_short.proofs.Remembering.{by_index, short_kept, kept_more}
use Rattle.script_short.proofs.ShortListing.knows.Goals as goal

pub returns-in-Colour : goal.returns-in-Colour
returns-in-Colour c = rw c.in-Colour.is (record { more = λ ss kept. short_kept ss _ kept refl; kept = λ ss kept. kept_more ss _ kept refl })

-- SET and FIELD
pub returns-in-Set : goal.returns-in-Set
returns-in-Set c =
    let (known, after) = by_index c.args.self.now.last c.in-Set.is in
    let sent = c.is_sent.ensures in
    record { more = λ ss kept. short_kept ss c.args.s kept (sent.sent ∙ sym known); kept = λ ss kept. kept_more ss c.args.s kept (sent.kept ∙ sym after) }
