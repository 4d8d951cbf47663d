-- The answers by name are those of the chip that bytes hold, for each group by its own number; each number is given exactly when
-- its rule says, 255 before 254; and from a word its parts can be taken out.
use Prim.Native.Nat.{ℕ, ◌<◌, ◌≤◌, ◌/◌, ◌%◌}
use native.Mathlib.Omega.{arith}
use mathlib.Core.Path.{◌≡◌, refl, ap, ◌∙◌}
use mathlib.Core.Bool.{Bool, true, false, cond}
use mathlib.Core.Logic.{◌↔◌}
use mathlib.Core.List.{List}
use lib.Dec.{eqb, ltb}
use lib.ListN.{length}
use borrow.Author.Tests.{eq-eqb, ne_eqb, eqb-true, eqb-false, lt-ltb, ltb-true, ltb-false}
use Rattle.chip_registers.specs.Groups.{number_of, group_at, row_of}
use Rattle.chip_registers.specs.declared.Group.{Group}
use Rattle.chip_registers.proofs.TableLaws.{group_numbered, number_few}
use Rattle.chip.specs.State.{Chip, named}
use Rattle.chip.specs.Names.{register}
use Rattle.chip.specs.Palette.{entry, shown}
use Rattle.chip.specs.declared.Rgb.{Rgb}
use Rattle.chip.proofs.ViewLaws.{unlisted_shows_00}
use Rattle.lent_chip.specs.Layout.{whole, laid, view, Holds}
use Rattle.lent_names.specs.Answers.{register_answer, entry_answer, pixel_answer}
use Rattle.lent_names.specs.Numbers.{of_register, register_word, colour_word}
use Rattle.std.specs.Prelude.{Result, Ok, Err, None}
use Rattle.lent_names.specs.declared.RegisterError.{RegisterError}
use Rattle.lent_names.specs.declared.RegisterError.TheVariants.{NoGroup, Length as RegisterLength}

module _ {l : List ℕ} {c : Chip} {bits : ℕ} (h : Holds l c bits) where
  -- a register by its group's number
  pub register-held : (g : Group) (i : ℕ) → register_answer l (number_of g) i ≡ Ok (register g (named c) i)
  register-held g i = rw (eq-eqb _ _ h.size, lt-ltb _ _ (number_few g), group_numbered g, h.chip)

  pub entry-held : (e : ℕ) → entry_answer l e ≡ Ok (entry (named c) e)
  entry-held e = rw (eq-eqb _ _ h.size, h.chip)

  pub pixel_held : (p : ℕ) → pixel_answer l p ≡ Ok (shown (named c) p)
  pixel_held p = rw (eq-eqb _ _ h.size, h.chip)

  -- an unlisted index reads 00h, in every state
  pub unlisted_held : (g : Group) (i : ℕ) → i < 0x100 → row_of g i ≡ None → register_answer l (number_of g) i ≡ Ok 0x00
  unfolding view
  unlisted_held g i hi none = register-held g i ∙ ap Ok (rw (← h.chip) (unlisted_shows_00 g (laid l) i hi none))

-- MSR, group 6, and PALMASK, group 7, whatever the index
pub msr_whatever_index : (l : List ℕ) (i j : ℕ) → register_answer l 6 i ≡ register_answer l 6 j
unfolding group_at
msr_whatever_index l i j = refl

pub palmask_whatever_index : (l : List ℕ) (i j : ℕ) → register_answer l 7 i ≡ register_answer l 7 j
unfolding group_at
palmask_whatever_index l i j = refl

-- each number exactly when: 255 if the bytes are no state, 254 if they are one and no group has the number, and else 0
pub record Exact (l : List ℕ) (g : ℕ) (number : ℕ) : Type 0 where
  pub no_state_lem : number ≡ 255 ↔ (length l ≡ whole → ⊥)
  pub no_group_lem : number ≡ 254 ↔ (length l ≡ whole) × (8 < g)
  pub done : number ≡ 0 ↔ (length l ≡ whole) × (g ≤ 8)

pub register_exact : (l : List ℕ) (g i : ℕ) → Exact l g (of_register (register_answer l g i)).number
register_exact l g i = go (eqb (length l) whole) refl (ltb g 9) refl
  where
    go : (z : Bool) → eqb (length l) whole ≡ z → (y : Bool) → ltb g 9 ≡ y
        → Exact l g (of_register (cond z (cond y (Ok (register (group_at g) (named (view l)) i)) (Err NoGroup)) (Err RegisterLength))).number
    go true e true f =
        let n : length l ≡ whole = eqb-true _ _ e in
        let w : g < 9 = ltb-true _ _ f in
        record {
          no_state_lem = (λ h. absurd (omega arith), λ h. absurd (h n));
          no_group_lem = (λ h. absurd (omega arith), λ h. absurd (omega arith));
          done = (λ h. (n, omega arith), λ h. refl);
        }
    go true e false f =
        let n : length l ≡ whole = eqb-true _ _ e in
        let w : 9 ≤ g = ltb-false _ _ f in
        record {
          no_state_lem = (λ h. absurd (omega arith), λ h. absurd (h n));
          no_group_lem = (λ h. (n, omega arith), λ h. refl);
          done = (λ h. absurd (omega arith), λ h. absurd (omega arith));
        }
    go false e y f =
        let n : length l ≡ whole → ⊥ = eqb-false _ _ e in
        record {
          no_state_lem = (λ h. n, λ h. refl);
          no_group_lem = (λ h. absurd (omega arith), λ h. absurd (n h.0));
          done = (λ h. absurd (omega arith), λ h. absurd (n h.0));
        }

-- of a register's word the number and the byte can be taken out, of a colour's the number, red, green and blue
pub register-parts : (r : Result ℕ RegisterError) → (of_register r).value < 256 → (register_word r / 256 ≡ (of_register r).number) × (register_word r % 256 ≡ (of_register r).value)
register-parts r h = (omega arith, omega arith)

pub record Parts (c : Rgb) (word : ℕ) : Type 0 where
  pub number : word / 16777216 ≡ 0
  pub red : word / 65536 % 256 ≡ c.red
  pub green : word / 256 % 256 ≡ c.green
  pub blue : word % 256 ≡ c.blue

pub colour_parts : (c : Rgb) → c.red < 256 → c.green < 256 → c.blue < 256 → Parts c (colour_word (Ok c))
colour_parts c r g b = record { number = omega arith; red = omega arith; green = omega arith; blue = omega arith }

pub no_colour : (l : List ℕ) (e : ℕ) → (length l ≡ whole → ⊥) → (colour_word (entry_answer l e) ≡ 0xFF000000) × (colour_word (pixel_answer l e) ≡ 0xFF000000)
no_colour l e n = (rw (ne_eqb _ _ n), rw (ne_eqb _ _ n))

-- a refusal shows FFh
pub refused_ff : (r : Result ℕ RegisterError) → ((of_register r).number ≡ 0 → ⊥) → (of_register r).value ≡ 0xFF
refused_ff (Ok b) n = absurd (n refl)
refused_ff (Err NoGroup) n = refl
refused_ff (Err RegisterLength) n = refl
