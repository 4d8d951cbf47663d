-- The library's `list_any` over the indexes from 0 on answers what `any_listed` does, which grows at its end.
use Rattle.std.proofs.Common.{ℕ, zero, suc, ◌+◌, ◌||◌, Bool, ◌≡◌, refl, ap, ◌∙◌, sym, arith, rules, tests}
use Rattle.std.proofs.Math.Bool.{or_assoc, or-false}
use Rattle.std.specs.List.{list_any, range_with_len}
use Rattle.std.proofs.lemmas.Iterator.{YieldsList-from_range}
use Rattle.std.proofs.lemmas.Iterator.Search.{any_from_yields_List}
use Rattle.chip_registers.specs.Groups.{row_of}
use Rattle.chip_registers.specs.declared.Group.{Group}
use Rattle.text_registers.specs.Text.{is_listed, any_listed}
use Rattle.text_registers.proofs.any_listed.Goals as goal

any_more : (test : ℕ → Bool) (a n k : ℕ) → a + n ≡ k → list_any test (range_with_len a (suc n)) ≡ (list_any test (range_with_len a n) || test k)
any_more test a zero k h = or-false (test a) ∙ ap test (omega arith)
any_more test a (suc n) k h = ap (◌||◌ (test a)) (any_more test (a + 1) n k (omega arith)) ∙ sym (or_assoc (test a) _ _)

same_any : (g : Group) (i n : ℕ) → list_any (λ k. is_listed (row_of g (i + k))) (range_with_len 0 n) ≡ any_listed g i n
unfolding any_listed
same_any g i zero = refl
same_any g i (suc n) = any_more (λ k. is_listed (row_of g (i + k))) 0 n n (omega arith) ∙ ap (λ (b : Bool). b || is_listed (row_of g (i + n))) (same_any g i n)

pub returns : goal.returns
returns c =
    let a = c.args in
    any_from_yields_List (λ k. is_listed (row_of a.g (a.i + k))) _ _ _ c.any.ensures.ran (YieldsList-from_range 0 a.n a.n refl (omega arith)) (λ x b q k. search (rules, tests))
    ∙ same_any a.g a.i a.n
