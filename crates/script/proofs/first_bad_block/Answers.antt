-- `first_bad_block` meets its contract. The loop's invariant: the answer from here on is the whole answer.
use mathlib.Core.List.{List}
use mathlib.Core.Bool.{Bool}
use mathlib.Core.Path.{◌≡◌, sym, ap, ◌∙◌}
use Prim.Native.Nat.{ℕ, ◌+◌, ◌-◌, ◌*◌}
use native.Mathlib.Nat.{add-sub_cancel_left}
use native.Mathlib.Omega.{arith}
use borrow.Author.Rules.{rules}
use lib.Dec.{eqb}
use lib.ListN.{take, drop}
use Rattle.lists.proofs.Scan.{first_more, first_stop, first-none}
use Rattle.script.specs.Block.{block_legal}
use Rattle.script.specs.File.{blocks, legal_at}
use Rattle.script.proofs.first_bad_block.Goals as goal

-- what the call says of block k
tested : (f : List ℕ) (k : ℕ) {b : Bool} →
    b ≡ block_legal (take (512 * k + 512 - 512 * k) (drop (512 * k) f)) k (eqb (k + 1) (blocks f)) → legal_at f k ≡ b
tested f k e =
    ap (λ (m : ℕ). block_legal (take m (drop (512 * k) f)) k (eqb (k + 1) (blocks f))) (sym (add-sub_cancel_left (512 * k) 512)) ∙ sym e

pub loop-k-preserved : goal.loop-k-preserved
loop-k-preserved c =
    let f = c.args.file.now in
    c.loop-k.invariant ∙ first_more (legal_at f) c.loop-k.k (blocks f) (search rules) (tested f c.loop-k.k c.is_block.ensures ∙ c.if-not-is_block.false)

-- a block that breaks a rule
pub returns-then-not-is_block : goal.returns-then-not-is_block
returns-then-not-is_block c =
    let f = c.args.file.now in
    sym (c.loop-k.invariant ∙ first_stop (legal_at f) c.loop-k.k (blocks f) (search rules) (tested f c.loop-k.k c.is_block.ensures ∙ c.if-not-is_block.true))

-- all of them are legal
pub returns : goal.returns
returns c =
    let f = c.args.file.now in
    let e : c.loop-k.k ≡ blocks f = omega arith in
    sym (c.loop-k.invariant ∙ first-none (legal_at f) c.loop-k.k (blocks f) (omega arith) ∙ e)
