-- The number of steps of a file as arithmetic: it is small enough to count with, and an accepted file has 1
-- to 1,008 of them; and a file that is too long, which its first 6,145 bytes show.
use mathlib.Core.Path.{◌≡◌, refl, sym, ap, ◌∙◌}
use mathlib.Core.List.{List}
use mathlib.Core.Bool.{Bool, true, false, cond}
use Prim.Native.Nat.{ℕ, ◌+◌, ◌-◌, ◌*◌, ◌≤◌, ◌<◌}
use native.Mathlib.Omega.{arith}
use borrow.Author.Tests.{ne_eqb, leb-true, leb-false}
use lib.Dec.{leb, eqb}
use lib.ListN.{length, get_or, take}
use lib.Seq.{take_all, length-take-le}
use Rattle.lists.specs.Tab.{Bytes}
use Rattle.lists.proofs.Parts.{get_d_part}
use Rattle.lists.proofs.Scan.{end_first}
use Rattle.lists.proofs.Tests.{units}
use Rattle.script.specs.File.{whole_blocks, blocks, block, legal_at, step_count, checked}
use Rattle.script.proofs.Checking.{Legal, answer_says}
use Rattle.script.proofs.Rules.{Rules, legal_rules, count_few}
use Rattle.std.specs.Prelude.{Ok}

-- a file of bytes has at most 84 steps a block, and 255 more, whatever its last block says
pub count_most : (f : List ℕ) → Bytes f → step_count f ≤ 84 * blocks f + 255
unfolding step_count
count_most f b = go (eqb (blocks f) 0) (b (512 * (blocks f - 1) + 2))
  where
    go : (t : Bool) → get_or f (512 * (blocks f - 1) + 2) 0 < 256
        → cond t 0 (84 * (blocks f - 1) + get_or f (512 * (blocks f - 1) + 2) 0) ≤ 84 * blocks f + 255
    go true h = omega arith
    go false h = omega arith

-- ---- a file that keeps the rules: each of its blocks does, and the last one has the count
module _ (f : List ℕ) (m : ℕ) (l : Legal f m) where
  pub block-kept : (k : ℕ) → k < blocks f → Rules (block f k) k (eqb (k + 1) (blocks f))
  block-kept k h = legal_rules (block f k) k (eqb (k + 1) (blocks f)) (end_first (legal_at f) (blocks f) l.blocks-legal k h)

  pub count_last : m ≡ 84 * (blocks f - 1) + get_or (block f (blocks f - 1)) 2 0
  unfolding step_count
  count_last =
      let z : blocks f ≡ 0 → ⊥ = λ e. omega (arith, units 512 12 (length f) l.whole) in
      sym l.count ∙ rw (ne_eqb (blocks f) 0 z)
      (ap (λ (n : ℕ). 84 * (blocks f - 1) + n) (sym (get_d_part f (512 * (blocks f - 1)) 512 2 (omega arith))))

  pub legal_few : (1 ≤ m) × (m ≤ 1008)
  legal_few =
      let w = units 512 12 (length f) l.whole in
      let b = blocks f - 1 in
      let c = count_few (get_or (block f b) 2 0) (eqb (b + 1) (blocks f)) (block-kept b (omega arith)).count in
      (omega (arith, count_last), omega (arith, count_last))

pub accepted_few : (f : List ℕ) (m : ℕ) → checked f ≡ Ok m → (1 ≤ m) × (m ≤ 1008)
accepted_few f m acc = legal_few f m (answer_says f acc)

-- ---- a file that is too long, of which 6,145 bytes are enough to see it
pub long_refused : (f : List ℕ) → 6144 < length f → whole_blocks f ≡ false
long_refused f h = go (whole_blocks f) refl
  where
    go : (b : Bool) → whole_blocks f ≡ b → b ≡ false
    go false e = refl
    go true e = absurd (let u = units 512 12 (length f) e in omega arith)

-- whatever is the same for all files that are too long is the same of a file and of its first 6,145 bytes
pub start_decides : {A : Type 0} (g : List ℕ → A) (x : A) → ((f : List ℕ) → 6144 < length f → g f ≡ x) → (f : List ℕ) → g (take 6145 f) ≡ g f
start_decides {A} g x long f = go (leb (length f) 6145) refl
  where
    go : (b : Bool) → leb (length f) 6145 ≡ b → g (take 6145 f) ≡ g f
    go true e = ap g (take_all 6145 f (leb-true _ _ e))
    go false e =
        let h : 6145 < length f = leb-false _ _ e in
        let k : length (take 6145 f) ≡ 6145 = length-take-le 6145 f (omega arith) in
        long (take 6145 f) (omega arith) ∙ sym (long f (omega arith))
