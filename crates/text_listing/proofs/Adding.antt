-- The lines that are read from commands' bytes: each line has at most 12 bytes, and the lines
-- of a list of commands are those of its bytes, whatever stands behind them.
use Prim.Native.Nat.{ℕ, zero, suc, ◌+◌, ◌*◌, ◌≤◌}
use native.Mathlib.Omega.{arith}
use native.Mathlib.Numerals.{add-one}
use mathlib.Core.Path.{◌≡◌, refl, sym, ap, ◌∙◌}
use mathlib.Core.List.{List, [], ◌∷◌, ◌++◌, append_assoc, append-nil}
use lib.ListN.{length, get_or, length-append}
use lib.Seq.{get_or-append-add}
use Rattle.script_commands.specs.Command.{bytes_of, command_of, bytes_of_all}
use Rattle.script_commands.specs.declared.Command.{Command}
use Rattle.script_commands.specs.declared.Command.TheVariants.{Out, In, Merge, OutAcc}
use Rattle.script_commands.proofs.Codec.{bytes_read}
use Rattle.text_listing.specs.Line.{words, line, lines_of}
use Rattle.text_listing.specs.Adding.{line_read, command_at, lines_to}
use Rattle.std.specs.Prelude.{Option, Some, None}

-- ---- lines that are read from bytes
pub words_most : (c : Command) → length (words c) ≤ 11
words_most (Out p v) = omega arith
words_most (In p) = omega arith
words_most (Merge k s) = omega arith
words_most (OutAcc p) = omega arith

pub line_most : (c : Command) → length (line c) ≤ 12
line_most (Out p v) = omega arith
line_most (In p) = omega arith
line_most (Merge k s) = omega arith
line_most (OutAcc p) = omega arith

pub read_most : (r : Option Command) → length (line_read r) ≤ 12
read_most (Some c) = line_most c
read_most None = omega arith

pub lines_most : (bs : List ℕ) (n : ℕ) → length (lines_to bs n) ≤ 12 * n
unfolding lines_to
lines_most bs zero = omega arith
lines_most bs (suc n) =
    let h : length (lines_to bs n) ≤ 12 * n = lines_most bs n in
    let k : length (line_read (command_at bs (4 * n))) ≤ 12 = read_most (command_at bs (4 * n)) in
    simp length-append (omega arith)

pub lines_start : (bs : List ℕ) → lines_to bs 0 ≡ []
unfolding lines_to
lines_start bs = refl

pub lines_next : (bs : List ℕ) (n : ℕ) → lines_to bs (n + 1) ≡ lines_to bs n ++ line_read (command_at bs (4 * n))
unfolding lines_to
lines_next bs n = rw (add-one n)

-- four bytes in front shift every command by one
module _ (a b c d : ℕ) (bs : List ℕ) where
  shifted : (p q : ℕ) → p ≡ 4 + q → get_or (a ∷ b ∷ c ∷ d ∷ bs) p 0 ≡ get_or bs q 0
  shifted p q e = ap (λ (k : ℕ). get_or (a ∷ b ∷ c ∷ d ∷ bs) k 0) e ∙ get_or-append-add (a ∷ b ∷ c ∷ d ∷ []) bs q 0

  at_shifted : (n : ℕ) → command_at (a ∷ b ∷ c ∷ d ∷ bs) (4 * suc n) ≡ command_at bs (4 * n)
  at_shifted n = rw (
    shifted (4 * suc n) (4 * n) (omega arith),
    shifted (4 * suc n + 1) (4 * n + 1) (omega arith),
    shifted (4 * suc n + 2) (4 * n + 2) (omega arith),
    shifted (4 * suc n + 3) (4 * n + 3) (omega arith),
  )

  lines_shifted : (n : ℕ) → lines_to (a ∷ b ∷ c ∷ d ∷ bs) (suc n) ≡ line_read (command_of a b c d) ++ lines_to bs n
  unfolding lines_to
  lines_shifted zero = sym (append-nil _)
  lines_shifted (suc n) =
      ap (λ (l : List ℕ). l ++ line_read (command_at (a ∷ b ∷ c ∷ d ∷ bs) (4 * suc n))) (lines_shifted n)
      ∙ ap (λ (r : Option Command). (line_read (command_of a b c d) ++ lines_to bs n) ++ line_read r) (at_shifted n)
      ∙ append_assoc (line_read (command_of a b c d)) (lines_to bs n) _

  lines_known : (x : Command) → command_of a b c d ≡ Some x → (n : ℕ) → lines_to (a ∷ b ∷ c ∷ d ∷ bs) (suc n) ≡ line x ++ lines_to bs n
  lines_known x e n = lines_shifted n ∙ ap (λ (r : Option Command). line_read r ++ lines_to bs n) e

lines_first : (c : Command) (bs : List ℕ) (n : ℕ) → lines_to (bytes_of c ++ bs) (suc n) ≡ line c ++ lines_to bs n
lines_first (Out p v) bs n = lines_known _ _ _ _ bs _ (bytes_read (Out p v)) n
lines_first (In p) bs n = lines_known _ _ _ _ bs _ (bytes_read (In p)) n
lines_first (Merge k s) bs n = lines_known _ _ _ _ bs _ (bytes_read (Merge k s)) n
lines_first (OutAcc p) bs n = lines_known _ _ _ _ bs _ (bytes_read (OutAcc p)) n

pub lines_read : (cs : List Command) (r : List ℕ) → lines_to (bytes_of_all cs ++ r) (length cs) ≡ lines_of cs
unfolding lines_to lines_of bytes_of_all
lines_read [] r = refl
lines_read (c ∷ cs) r =
    ap (λ (l : List ℕ). lines_to l (suc (length cs))) (append_assoc (bytes_of c) (bytes_of_all cs) r)
    ∙ lines_first c (bytes_of_all cs ++ r) (length cs)
    ∙ ap (◌++◌ (line c)) (lines_read cs r)
