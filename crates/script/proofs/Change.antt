-- A legal block with any one byte changed is refused, whatever number it is then asked for, and an accepted
-- file with any one byte changed is refused with number 6 and the block that holds the byte: the block's sum
-- is off, and the blocks before it are as they were.
use mathlib.Core.Path.{◌≡◌, sym, ap, ◌∙◌}
use mathlib.Core.List.{List}
use mathlib.Core.Bool.{Bool, true, false, and-false}
use Prim.Native.Nat.{ℕ, ◌+◌, ◌-◌, ◌*◌, ◌/◌, ◌%◌, ◌<◌}
use native.Mathlib.Omega.{arith}
use lib.Dec.{eqb}
use lib.ListN.{length, take, drop, get_or, set, length-set}
use lib.Seq.{drop-set-add, take-set-le, take-set-lt}
use Rattle.lists.specs.Tab.{Bytes}
use Rattle.lists.specs.Units.{whole_units}
use Rattle.lists.proofs.Parts.{get_d_part}
use Rattle.lists.proofs.Scan.{first-is, end_first}
use Rattle.lists.proofs.Tests.{units}
use Rattle.script.specs.Block.{block_legal}
use Rattle.script.specs.File.{blocks, block, legal_at, checked}
use Rattle.script.specs.declared.Refusal.TheVariants.{Block}
use Rattle.script.proofs.Check.{check_changed}
use Rattle.script.proofs.Checking.{Legal, answer_says, check_block}
use Rattle.script.proofs.Rules.{legal_rules}
use Rattle.std.specs.Prelude.{Ok, Err}

-- ---- a block
pub block-changed : (b : List ℕ) (k : ℕ) (last : Bool) → block_legal b k last ≡ true → (i v : ℕ) → i < 512 → v < 256 → get_or b i 0 < 256
    → (v ≡ get_or b i 0 → ⊥) → (k' : ℕ) (last' : Bool) → block_legal (set b i v) k' last' ≡ false
unfolding block_legal
block-changed b k last e i v hi hv ho ne k' last' =
    let r = legal_rules b k last e in
    rw (check_changed b i v r.size hi hv ho ne r.sum, and-false)

-- ---- a file: byte i lies in block i / 512
module _ (f : List ℕ) (m : ℕ) (acc : checked f ≡ Ok m) (bytes : Bytes f) (i v : ℕ) (hi : i < length f) (hv : v < 256) (ne : v ≡ get_or f i 0 → ⊥) where
  abbrev k : ℕ
  k = i / 512

  abbrev g : List ℕ
  g = set f i v

  legal : Legal f m
  legal = answer_says f acc

  same_length : length g ≡ length f
  same_length = length-set f i v

  k_there : k < blocks f
  k_there = omega (arith, units 512 12 (length f) legal.whole)

  -- a block before it
  before : (p : ℕ) → p < k → block g p ≡ block f p
  before p h =
      let e : i ≡ 512 * p + (i - 512 * p) = omega arith in
      ap (λ (j : ℕ). take 512 (drop (512 * p) (set f j v))) e
      ∙ ap (take 512) (drop-set-add (512 * p) f (i - 512 * p) v)
      ∙ take-set-le 512 (drop (512 * p) f) (i - 512 * p) v (omega arith)

  -- the block itself
  here : block g k ≡ set (block f k) (i % 512) v
  here =
      let e : i ≡ 512 * k + i % 512 = omega arith in
      ap (λ (j : ℕ). take 512 (drop (512 * k) (set f j v))) e
      ∙ ap (take 512) (drop-set-add (512 * k) f (i % 512) v)
      ∙ take-set-lt 512 (drop (512 * k) f) (i % 512) v (omega arith)

  byte_here : get_or (block f k) (i % 512) 0 ≡ get_or f i 0
  byte_here =
      let e : 512 * k + i % 512 ≡ i = omega arith in
      get_d_part f (512 * k) 512 (i % 512) (omega arith) ∙ ap (λ (j : ℕ). get_or f j 0) e

  legal-before : (p : ℕ) → p < k → legal_at g p ≡ true
  legal-before p h =
      let n = k_there in
      ap (λ (n : ℕ). block_legal (block g p) p (eqb (p + 1) (n / 512))) same_length
      ∙ ap (λ (b : List ℕ). block_legal b p (eqb (p + 1) (blocks f))) (before p h)
      ∙ end_first (legal_at f) (blocks f) legal.blocks-legal p (omega arith)

  broken : legal_at g k ≡ false
  broken =
      ap (λ (b : List ℕ). block_legal b k (eqb (k + 1) (blocks g))) here
      ∙ block-changed (block f k) k (eqb (k + 1) (blocks f)) (end_first (legal_at f) (blocks f) legal.blocks-legal k k_there)
      (i % 512) v (omega arith) hv (omega (arith, byte_here, bytes i)) (λ q. ne (q ∙ byte_here)) k (eqb (k + 1) (blocks g))

  pub file_changed : checked (set f i v) ≡ Err (Block (i / 512))
  file_changed =
      let l = same_length in
      let n = k_there in
      check_block g (ap (whole_units 512 12) same_length ∙ legal.whole) k
      (sym (first-is (legal_at g) (blocks g) k (omega arith) legal-before (λ _. broken))) (omega arith)
