-- The last line has at most 30 bytes, and the whole text at most 38,430. So it lies within its buffer.
use Prim.Native.Nat.{ℕ, ◌≤◌}
use native.Mathlib.Omega.{arith}
use mathlib.Core.Bool.{Bool, true, false, cond}
use mathlib.Core.Path.{◌≡◌, refl}
use mathlib.Core.List.{List}
use lib.Dec.{ltb}
use lib.ListN.{length, length-append}
use borrow.Author.Tests.{ltb-false}
use Rattle.text.specs.Digits.{decimal}
use Rattle.text.proofs.DigitLaws.{decimal_most}
use Rattle.chip.specs.State.{Named, named}
use Rattle.script.specs.declared.Refusal.TheVariants.{Room}
use Rattle.chip_play.specs.Played.{fresh, played}
use Rattle.text_changes.specs.Changes.{changed}
use Rattle.text_changes.proofs.Lengths.{changed_most}
use Rattle.text_played.specs.Told.{commands_line, tale, told_of, told}
use Rattle.std.specs.Prelude.{Result, Ok, Err}
use Rattle.chip_run.specs.declared.Tally.{Tally}
use Rattle.script.specs.declared.Refusal.{Refusal}

pub line_most : (count : ℕ) → length (commands_line count) ≤ 30
unfolding commands_line
line_most count = let d : length (decimal count) ≤ 20 = decimal_most 20 count in simp length-append (omega arith)

pub tale_most : (after : Named) (count : ℕ) → length (tale after count) ≤ 38430
unfolding tale
tale_most after count =
    omega (arith, changed_most (named fresh) after, line_most count, length-append (changed (named fresh) after) (commands_line count))

-- the text lies within its buffer
pub told-within : (file : List ℕ) (work room n : ℕ) → told file work room ≡ Ok n → n ≤ room
unfolding told
told-within file work room n is = go (played fresh file work).outcome is
  where
    within : (b : Bool) (size : ℕ) → ltb room 38430 ≡ b → size ≤ 38430 → cond b (Err Room) (Ok size) ≡ Ok n → n ≤ room
    within true size e few is = let z : ◌≡◌ {A = ℕ} 0 1 = cc in absurd (omega arith)
    within false size e few is = let same : size ≡ n = cc in let h : 38430 ≤ room = ltb-false _ _ e in omega arith

    go : (o : Result Tally Refusal) → told_of o (named (played fresh file work).chip) room ≡ Ok n → n ≤ room
    go (Err why) is = let z : ◌≡◌ {A = ℕ} 0 1 = cc in absurd (omega arith)
    go (Ok t) is =
        within (ltb room 38430) (length (tale (named (played fresh file work).chip) t.count)) refl (tale_most (named (played fresh file work).chip) t.count) is
