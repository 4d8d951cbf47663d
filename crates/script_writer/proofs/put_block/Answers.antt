-- `put_block` meets its contract: the header, the places, and the check of the 510 bytes before it. The loop's invariant: the
-- first i places are copied, and the other bytes are as they were.
use mathlib.Core.Path.{◌≡◌, sym, ◌∙◌}
use Prim.Native.Nat.{◌/◌, ◌%◌}
use native.Mathlib.Omega.{arith}
use borrow.Author.Rules.{rules}
use mathlib.Core.List.{◌++◌}
use lib.ListN.{get_or, drop}
use lib.Seq.{length-take-le}
use Rattle.lists.proofs.Put.{paste_put}
use Rattle.lists.specs.Put.{put}
use Rattle.script_writer.specs.Write.{places}
use Rattle.script_writer.proofs.Blocks.{block-done, length-places, places-more}
use Rattle.script_writer.proofs.put_block.Goals as goal

pub loop-i-preserved : goal.loop-i-preserved
loop-i-preserved c =
    let a = c.args in
    places-more a.list.now a.k _ c.loop-i.block c.loop-i.i _ c.loop-i.invariant c.byte_at.ensures (omega arith) (search rules)

pub slice_bounds-check_word-end-2 : goal.slice_bounds-check_word-end-2
slice_bounds-check_word-end-2 c = sym (length-take-le 510 c.loop-i.block (omega arith))

pub returns : goal.returns
returns c =
    let a = c.args in
    let s = a.list.now in
    let b = c.copy_from_slice.new.self ++ drop 6 a.block.now in
    let w = c.check_word.result in
    let low : get_or c.to_le_bytes.result 0 0 ≡ w % 256 = search rules in
    let high : get_or c.to_le_bytes.result 1 0 ≡ w / 256 = search rules in
    let e : c.loop-i.i ≡ 504 = omega arith in
    let copied : c.loop-i.block ≡ put b 6 (places s a.k) =
    c.loop-i.invariant ∙ rw e (paste_put b 6 (places s a.k) 504 (length-places s a.k)) in
    rw (low, high)
    (block-done s a.k a.n a.block.now b c.loop-i.block (search rules)
    (rw (c.copy_from_slice.ensures.after, c.header.ensures)) copied w c.check_word.ensures)
