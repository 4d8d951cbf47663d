-- Words have at most 60 bytes, a reason at most 91, a place at most 28, and so a complaint at most 128 and the program's name.
use Prim.Native.Nat.{ℕ, ◌+◌, ◌≤◌}
use native.Mathlib.Omega.{arith}
use mathlib.Core.Bool.{Bool, true, false, cond}
use mathlib.Core.List.{List}
use lib.Dec.{eqb}
use lib.ListN.{length, length-append}
use Rattle.text.specs.Digits.{decimal}
use Rattle.text.proofs.DigitLaws.{decimal_most}
use Rattle.text.proofs.Adding.{placed_most}
use Rattle.script.specs.Numbers.{of_refusal}
use Rattle.script.specs.declared.Refusal.{Refusal}
use Rattle.script.specs.declared.Refusal.TheVariants.{Length, Block, Step, Room}
use Rattle.text.specs.Ascii.{ascii}
use Rattle.text_refusals.specs.Words.{words_of}
use Rattle.text_refusals.specs.Complaint.{reason, place_of, complaint}

-- one of two texts that are short
either : (b : Bool) (x y : List ℕ) → length x ≤ 60 → length y ≤ 60 → length (cond b x y) ≤ 60
either true x y h k = h
either false x y h k = k

pub words_most : (number : ℕ) → length (words_of number) ≤ 60
unfolding words_of
words_most number =
    either (eqb number 1) _ _ (omega arith)
    (either (eqb number 2) _ _ (omega arith)
    (either (eqb number 3) _ _ (omega arith)
    (either (eqb number 4) _ _ (omega arith)
    (either (eqb number 5) _ _ (omega arith)
    (either (eqb number 6) _ _ (omega arith)
    (either (eqb number 7) _ _ (omega arith)
    (either (eqb number 8) _ _ (omega arith)
    (either (eqb number 9) _ _ (omega arith)
    (either (eqb number 10) _ _ (omega arith)
    (either (eqb number 11) _ _ (omega arith)
    (omega arith)))))))))))

pub reason_most : (number : ℕ) → length (reason number) ≤ 91
unfolding reason
reason_most number =
    let d : length (decimal number) ≤ 20 = decimal_most 20 number in
    let w : length (words_of number) ≤ 60 = words_most number in
    simp length-append (omega arith)

pub place_most : (r : Refusal) → length (place_of r) ≤ 28
place_most (Block k) = placed_most (ascii "block ") k
place_most (Step j why) = omega (arith, placed_most (ascii "step ") j)
place_most Length = omega arith
place_most Room = omega arith

pub complaint_most : (name : List ℕ) (r : Refusal) → length (complaint name r) ≤ length name + 128
unfolding complaint
complaint_most name r =
    let p : length (place_of r) ≤ 28 = place_most r in
    let q : length (reason (of_refusal r).number) ≤ 91 = reason_most (of_refusal r).number in
    simp length-append (omega arith)
