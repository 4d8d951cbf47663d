-- `is_unused_zero` meets its contract: what the chain says of the bytes of the slice, place by place of the block.
use Rattle.std.proofs.Common.{◌≡◌, IsTrue, ℕ, ◌∙◌, ◌+◌, ◌*◌, ◌-◌, get_or, take, drop, ◌↔◌, ◌<◌, length, rules, arith}
use Rattle.script.proofs.Rules.{zero_part, stretch_cut}
use lib.Dec.{eqb}
use Rattle.script.proofs.is_unused_zero.Goals as goal

pub returns : goal.returns
returns c =
    let b = c.args.block.now in
    let a = c.min-from.result in
    let s = take (510 - a) (drop a b) in
    let all : IsTrue c.all.result ↔ ((k : ℕ) → k < length s → get_or s k 0 ≡ 0) = search rules in
    zero_part b a 510 (omega arith) all ∙ rw (c.min-from.ensures, c.from.ensures) (stretch_cut (λ p. eqb (get_or b p 0) 0) (6 + 6 * c.args.count) 510)
