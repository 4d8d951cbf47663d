-- What the translation answered and left, run.
use Rattle.chip.specs.View.{view}
use Rattle.chip_play.proofs.Playing.{play_answered}
use Rattle.chip_play.proofs.play.Goals as goal

pub returns : goal.returns
returns c =
    let a = c.args in
    let t = c.translate-translated.ensures in
    let (result, (by_name, (buffer, outcome))) = play_answered (view a.chip) a.file.now a.buffer.now t.value t.out_after c.run_by.ensures in
    record { result_value = result; by_name = by_name; buffer_after = buffer; outcome_value = outcome }
