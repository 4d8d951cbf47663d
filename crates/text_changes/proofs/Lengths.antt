-- How long the text can be: a register's line has at most 14 bytes and an entry's 24, so that all nine groups have at most
-- 32,256, all entries at most 6,144, and the whole text at most 38,400.
use Prim.Native.Nat.{ℕ, ◌+◌, ◌*◌, ◌≤◌}
use native.Mathlib.Omega.{arith}
use mathlib.Core.Bool.{Bool, true, false, cond, ◌||◌}
use mathlib.Core.List.{[], ◌++◌}
use lib.Dec.{eqb}
use lib.ListN.{length, length-append}
use Rattle.chip.specs.State.{Named}
use Rattle.chip.specs.Palette.{entry}
use Rattle.chip.specs.declared.Rgb.{Rgb}
use Rattle.text.specs.Ascii.{ascii}
use Rattle.text_steps.specs.Written.{name_text, byte_text}
use Rattle.text_steps.proofs.Lengths.{name_most}
use Rattle.text_registers.proofs.Lengths.{joined_most}
use Rattle.chip.specs.Differ.{same_colour}
use Rattle.text_changes.specs.Changes.{register_line, register_change, indexes, register_at, registers_to, groups_to, colour_line, colour_change, colours_to, changed}

pub register_most : (g i old new : ℕ) → length (register_change g i old new) ≤ 14
unfolding register_change register_line
register_most g i old new = go (eqb old new)
  where
    go : (b : Bool) → length (cond b [] (name_text g i ++ (byte_text old ++ byte_text new ++ ascii "\n"))) ≤ 14
    go true = omega arith
    go false = omega (arith, name_most g i, length-append (name_text g i) (byte_text old ++ byte_text new ++ ascii "\n"))

pub indexes_most : (g : ℕ) → indexes g ≤ 256
unfolding indexes
indexes_most g = go (eqb g 6 || eqb g 7)
  where
    go : (b : Bool) → cond b 1 256 ≤ 256
    go true = omega arith
    go false = omega arith

pub colour_most : (e : ℕ) (old new : Rgb) → length (colour_change e old new) ≤ 24
unfolding colour_change colour_line
colour_most e old new = go (same_colour old new)
  where
    go : (b : Bool) → length (cond b [] (colour_line e old new)) ≤ 24
    go true = omega arith
    go false = omega arith

module _ (before after : Named) where
  pub registers_most : (g n : ℕ) → length (registers_to before after g n) ≤ n * 14
  registers_most g n = joined_most (λ (i : ℕ). register_at before after g i) 14 (λ i. register_most g i _ _) n

  pub group_most : (g : ℕ) → length (registers_to before after g (indexes g)) ≤ 3584
  group_most g = omega (arith, registers_most g (indexes g), indexes_most g)

  pub groups_most : (k : ℕ) → length (groups_to before after k) ≤ k * 3584
  groups_most k = joined_most (λ (g : ℕ). registers_to before after g (indexes g)) 3584 (λ g. group_most g) k

  pub colours_most : (n : ℕ) → length (colours_to before after n) ≤ n * 24
  colours_most n = joined_most (λ (e : ℕ). colour_change e (entry before e) (entry after e)) 24 (λ e. colour_most e _ _) n

  pub changed_most : length (changed before after) ≤ 38400
  unfolding changed
  changed_most =
      omega (arith, groups_most 9, colours_most 256, length-append (groups_to before after 9) (colours_to before after 256))
