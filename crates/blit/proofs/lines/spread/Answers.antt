-- `blit::lines::spread` meets its contract: a byte is that of k before it, which has the same place in the eight. Assumes
-- nothing.
use Rattle.std.proofs.Common.{◌≡◌, ◌-◌, ◌%◌, ◌<◌, length, get_or, ap, ◌∙◌, arith, rules, below_more, get_or-set_same, get_or-set_other}
use lib.ListN.{set, length-set}
use Rattle.blit.proofs.lines.spread.Goals as goal

pub loop-c-preserved : goal.loop-c-preserved
loop-c-preserved c =
    let a = c.args in
    let l = c.loop-c in
    let k = a.k in
    let i = l.c in
    let v = get_or l.buf (i - k) 0 in
    let hi : i < length l.buf = omega arith in
    let e : (i - k) % 8 ≡ i % 8 = omega arith in (
      simp length-set (search rules),
      λ g h. below_more (λ x. x < a.n → get_or (set l.buf i v) x 0 ≡ g (x % 8)) i
          (λ x lt hn. get_or-set_other l.buf i x v 0 (λ z. omega arith) ∙ l.invariant.1 g h x lt hn)
          (λ hn. get_or-set_same l.buf i v 0 hi ∙ l.invariant.1 g h (i - k) (omega arith) (omega arith) ∙ ap g e),
    )

pub returns : goal.returns
returns c = λ g h x lt. c.loop-c.invariant.1 g h x (omega arith) lt
