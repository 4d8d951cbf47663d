-- `is_block` meets its contract: the bytes are the array, and the body goes through its rules in order.
use Rattle.std.proofs.Common.{arith, ◌≡◌, refl, ◌∙◌, ℕ, ◌+◌, ◌*◌, Bool, List, length, get_or, eq-eqb, ne_eqb}
use Rattle.std.specs.Prelude.{◌&&◌}
use lib.Dec.{eqb}
use Rattle.script.specs.Block.{check_legal, content_legal, block_legal}
use Rattle.script.proofs.is_block.Goals as goal
use Rattle.script.proofs.is_block.Goals.{then-numbered, else-numbered}

-- v says whether the number and the content are as they should be
legal : (b x : List ℕ) (k found : ℕ) (last v : Bool) → length b ≡ 512 → x ≡ b → found ≡ get_or x 0 0 + get_or x 1 0 * 256
    → v ≡ (eqb found k && content_legal x last) → block_legal b k last ≡ (v && check_legal x)
unfolding block_legal
legal b x k found last v long same at e =
    let w : get_or b 0 0 + 256 * get_or b 1 0 ≡ found = rw (← same) (omega (arith, at)) in
    rw (e, same, eq-eqb _ _ long, w) refl

-- the number or the content is not
pub returns-else-is_content : goal.returns-else-is_content
returns-else-is_content c =
    let h = c.in-Some.ensures.cases in
    let v : c.if-numbered.value ≡ (eqb c.from-found.result c.args.number && content_legal c.in-Some.block.now c.args.last) =
    elim c.if-numbered.branch [
      | then-numbered w ↦ rw (eq-eqb _ _ w.if-numbered.true) (w.value-is ∙ w.is_content.ensures)
      | else-numbered w ↦ rw (ne_eqb _ _ w.if-numbered.false) (w.value-is ∙ ne_eqb _ _ w.if-numbered.false)
    ] in
    rw (legal _ _ _ _ _ _ h.long h.same (c.from-found.ensures ∙ c.from_le_bytes.ensures) v, c.if-is_content.false) refl

-- both are, and the check decides
pub returns-then-is_content : goal.returns-then-is_content
returns-then-is_content c =
    let h = c.in-Some.ensures.cases in
    let v : c.if-numbered.value ≡ (eqb c.from-found.result c.args.number && content_legal c.in-Some.block.now c.args.last) =
    elim c.if-numbered.branch [
      | then-numbered w ↦ rw (eq-eqb _ _ w.if-numbered.true) (w.value-is ∙ w.is_content.ensures)
      | else-numbered w ↦ rw (ne_eqb _ _ w.if-numbered.false) (w.value-is ∙ ne_eqb _ _ w.if-numbered.false)
    ] in
    let e = legal _ _ _ _ _ _ h.long h.same (c.from-found.ensures ∙ c.from_le_bytes.ensures) v in
    rw (e, c.if-is_content.true, c.word_sum.ensures) refl
