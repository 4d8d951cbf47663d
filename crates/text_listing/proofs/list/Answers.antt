-- What the play answered and left is put in.
use Rattle.chip_play.specs.View.{view_performance}
use Rattle.text_listing.proofs.Listing.{plain_heard, plain-listed}
use Rattle.text_listing.proofs.list.Goals as goal

pub put_listing-requires : goal.put_listing-requires
put_listing-requires c =
    let a = c.args in
    let p = c.play-played.ensures in
    let said = rw c.new.ensures at p.by_name in
    (plain_heard a.file.now a.work.now {p = view_performance c.play-played.result} said p.buffer_after).stands

pub returns : goal.returns
returns c =
    let a = c.args in
    let p = c.play-played.ensures in
    let l = c.put_listing.ensures in
    let said = rw c.new.ensures at p.by_name in
    let h = plain_heard a.file.now a.work.now {p = view_performance c.play-played.result} said p.buffer_after in
    let all = plain-listed a.file.now a.work.now a.out.now h p.buffer_after l.value l.out_after in
    record {
      value = all.0;
      out_after = all.1.0;
      work_after = all.1.1.0;
      result_value = all.1.1.1;
    }
