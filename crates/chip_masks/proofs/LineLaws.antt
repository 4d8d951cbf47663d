-- A register's writable bits, and where it stands in the row, are the byte of its line that its index names: one argument for
-- both tables and every group.
use Prim.Native.Nat.{ℕ, zero, suc, ◌+◌, ◌*◌, ◌-◌, ◌/◌, ◌%◌, ◌^◌, ◌<◌, ◌≤◌, zero-le}
use native.Mathlib.Omega.{arith}
use mathlib.Core.Bool.{Bool, true, false, cond}
use mathlib.Core.Path.{◌≡◌, refl, ap, sym, ◌∙◌}
use mathlib.Core.List.{List}
use lib.Dec.{eqb}
use lib.ListN.{get_or, length}
use lib.Pow.{shr-shr}
use borrow.Author.Tests.{eqb-true}
use Rattle.lists.specs.Scan.{every}
use Rattle.lists.proofs.Scan.{every-at}
use Rattle.chip_registers.specs.Groups.{is_indexed, writable_of}
use Rattle.chip_registers.specs.declared.Group.{Group}
use Rattle.chip_registers.specs.Row.{Slot, At, Nowhere, before, slot_of}
use Rattle.chip_registers.proofs.TableLaws.{byte-rows}
use Rattle.chip_registers.proofs.RowLaws.{stands}
use Rattle.chip_masks.specs.Table.{packed, line_of, standing, standing_of}

-- byte j of those that are packed, d before the last
pub packed-at : (f : ℕ → ℕ) (m : ℕ) → ((j : ℕ) → j < m → f j < 256) → (d j n : ℕ) → n < m → d + j ≡ n → packed f (suc n) / 2 ^ (8 * d) % 256 ≡ f j
unfolding packed
packed-at f m h zero j n l e = let w : j ≡ n = omega arith in let b = h n l in rw w (omega arith)
packed-at f m h (suc d) j zero l e = absurd (omega arith)
packed-at f m h (suc d) j (suc n) l e =
    let more : 8 * suc d ≡ 8 + 8 * d = omega arith in
    let b = h (suc n) l in
    let cut : (packed f (suc n) * 256 + f (suc n)) / 2 ^ 8 ≡ packed f (suc n) = omega arith in
    ap (λ (x : ℕ). packed f (suc (suc n)) / 2 ^ x % 256) more
    ∙ ap (λ (x : ℕ). x % 256) (sym (shr-shr (packed f (suc (suc n))) 8 (8 * d)) ∙ ap (λ (x : ℕ). x / 2 ^ (8 * d)) cut)
    ∙ packed-at f m h d j n (omega arith) (omega arith)

-- a register's byte in its line, whichever table it is
in_line : (f : Group → ℕ → ℕ) → ((g : Group) (i : ℕ) → i < 256 → f g i < 256) → (g : Group) (i : ℕ) → i < 256
    → line_of f g (i / 8) / 2 ^ (8 * (7 - i % 8)) % 256 ≡ f g i
unfolding line_of
in_line f byte g i h =
    let place : 8 * (i / 8) + i % 8 ≡ i = omega arith in
    packed-at (λ j. f g (8 * (i / 8) + j)) 8 (λ j l. byte g _ (omega arith)) (7 - i % 8) (i % 8) 7 (omega arith) (omega arith) ∙ rw place

pub writable_line : (g : Group) (i : ℕ) → i < 256 → line_of (λ g i. writable_of g i) g (i / 8) / 2 ^ (8 * (7 - i % 8)) % 256 ≡ writable_of g i
writable_line = in_line (λ g i. writable_of g i) (λ g i h. (byte-rows g i).0)

-- where a register stands is a byte
pub standing-byte : (g : Group) (i : ℕ) → i < 256 → standing_of g i < 256
unfolding standing_of
standing-byte g i h = go (is_indexed g) (slot_of g i) refl
  where
    go : (z : Bool) (s : Slot) → slot_of g i ≡ s → cond z (standing (before g) s) 128 < 256
    go true (At k) e = omega (arith, (stands g i k h e).near)
    go true Nowhere e = omega arith
    go false s e = omega arith

pub standing-line : (g : Group) (i : ℕ) → i < 256 → line_of standing_of g (i / 8) / 2 ^ (8 * (7 - i % 8)) % 256 ≡ standing_of g i
standing-line = in_line standing_of standing-byte

-- what the match on a group's number needs
pub ruleset in_lines = (writable_line, standing-line)

-- a table that is tested line by line has what the test says at each; f takes a number of a line
pub table_at_line : {A : Type 0} (lines : List A) (f : A → ℕ) (g : ℕ → ℕ) (d : A) (i k : ℕ)
    → every (λ j. eqb (f (get_or lines j d)) (g j)) 0 (length lines) ≡ true → i ≡ k → k < length lines → f (get_or lines i d) ≡ g k
table_at_line lines f g d i k t e h = rw e (eqb-true _ _ (every-at (λ j. eqb (f (get_or lines j d)) (g j)) 0 (length lines) t k zero-le (omega arith)))

-- the number is none of those below n: what a match says in its last arm
abbrev pub NotBelow : ℕ → ℕ → Type 0
NotBelow k zero = Unit {0}
NotBelow k (suc n) = NotBelow k n × (k ≡ n → ⊥)

pub passed : (k n : ℕ) → NotBelow k n → n ≤ k
passed k zero h = omega arith
passed k (suc n) h = let w : n ≤ k = passed k n h.0 in let ne : k ≡ n → ⊥ = h.1 in omega arith
