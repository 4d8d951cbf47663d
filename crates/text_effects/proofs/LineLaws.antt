-- Where something differs something is told, and what is told of one command is one line. So every line of the text ends with a
-- line feed.
use Prim.Native.Nat.{ℕ, ◌<◌}
use native.Mathlib.Decide.{dec_lt}
use native.Mathlib.Omega.{arith}
use mathlib.Core.Bool.{Bool, true, false, not, cond}
use mathlib.Core.Path.{◌≡◌, refl, sym, ap, ◌∙◌}
use mathlib.Core.List.{List, [], ◌++◌, append_assoc}
use lib.Dec.{eqb}
use Rattle.chip_registers.specs.Groups.{number_of, group_at}
use Rattle.chip_registers.specs.declared.Group.{Group}
use Rattle.chip_registers.specs.declared.Group.TheVariants.{Cr, Sr, Gr, Xr, Fr, Mr, Msr, Palmask, Ar}
use Rattle.chip.specs.State.{Chip, Named, named, index_byte, index_of}
use Rattle.chip.specs.Names.{register}
use Rattle.chip.specs.Palette.{coloured}
use Rattle.chip.specs.Access.{port_written}
use Rattle.chip.specs.Differ.{same_colour, differ}
use Rattle.chip.specs.declared.Rgb.{Rgb}
use Rattle.chip.proofs.AccessLaws.{named-written}
use Rattle.chip.proofs.DifferLaws.{same-stored}
use Rattle.script_commands.specs.declared.Command.TheVariants.{Out, In, Merge, OutAcc}
use Rattle.chip_run.specs.Run.{one, done}
use Rattle.text.specs.Ascii.{ascii}
use Rattle.text_steps.specs.Written.{name_text, byte_text}
use Rattle.text_changes.specs.Changes.{register_line, register_change, indexes, colour_digits, colour_line, colour_change, changed}
use Rattle.text_changes.proofs.One.{kept-index, changed-received, changed-coloured, changed_outside, changed_picture, read-line}
use Rattle.text_changes.proofs.Telling.{registers_same, colours_same, changed-none}
use Rattle.text_effects.specs.Effects.{words_read, behind}
use Rattle.std.specs.Prelude.{Option, Some, None}
use Rattle.script_commands.specs.declared.Command.{Command}

-- bytes that end with a line feed
pub record Line (l : List ℕ) : Type 0 where
  pub front : List ℕ
  pub ends : l ≡ front ++ ascii "\n"

line-behind : (x : List ℕ) {l : List ℕ} → Line l → Line (x ++ l)
line-behind x e = record { front = x ++ e.front; ends = ap (◌++◌ x) e.ends ∙ sym (append_assoc x e.front (ascii "\n")) }

module _ (a b : Named) (silent : changed a b ≡ []) where
  registers_all : (g : Group) (i : ℕ) → i < 256 → register g a i ≡ register g b i
  unfolding group_at indexes
  registers_all Cr i h = registers_same a b silent 0 i (omega arith) h
  registers_all Sr i h = registers_same a b silent 1 i (omega arith) h
  registers_all Gr i h = registers_same a b silent 2 i (omega arith) h
  registers_all Xr i h = registers_same a b silent 3 i (omega arith) h
  registers_all Fr i h = registers_same a b silent 4 i (omega arith) h
  registers_all Mr i h = registers_same a b silent 5 i (omega arith) h
  registers_all Msr i h = registers_same a b silent 6 0 (omega arith) (omega arith)
  registers_all Palmask i h = registers_same a b silent 7 0 (omega arith) (omega arith)
  registers_all Ar i h = registers_same a b silent 8 i (omega arith) h

pub silent_same : (c d : Chip) → changed (named c) (named d) ≡ [] → differ c d ≡ false
unfolding differ
silent_same c d silent =
    ap not (same-stored (named c) (named d) (record { registers = registers_all (named c) (named d) silent; colours = colours_same (named c) (named d) silent }))

-- what is told of one command is a line, or nothing
register-ends : (g i old new : ℕ) → (register_change g i old new ≡ [] → ⊥) → Line (register_change g i old new)
unfolding register_change register_line
register-ends g i old new = go (eqb old new)
  where
    go : (z : Bool) → (cond z [] (register_line g i old new) ≡ [] → ⊥) → Line (cond z [] (register_line g i old new))
    go true some = absurd (some refl)
    go false some = line-behind (name_text g i) (record { front = byte_text old ++ byte_text new; ends = refl })

colour_ends : (e : ℕ) (old new : Rgb) → (colour_change e old new ≡ [] → ⊥) → Line (colour_change e old new)
unfolding colour_change colour_line
colour_ends e old new = go (same_colour old new)
  where
    go : (z : Bool) → (cond z [] (colour_line e old new) ≡ [] → ⊥) → Line (cond z [] (colour_line e old new))
    go true some = absurd (some refl)
    go false some = record { front = ascii "COLOUR" ++ byte_text e ++ colour_digits old ++ colour_digits new; ends = refl }

coloured-ends : (n : Named) (e r g b : ℕ) → (changed n (coloured n e r g b) ≡ [] → ⊥) → Line (changed n (coloured n e r g b))
coloured-ends n e r g b some = go (dec_lt e 256)
  where
    go : Dec (e < 256) → Line (changed n (coloured n e r g b))
    go (yes h) = rw (changed-coloured n e r g b h) (colour_ends e _ _ (rw (changed-coloured n e r g b h) at some))
    go (no h) = absurd (some (changed_outside n e r g b h))

written-ends : (c : Chip) (p v : ℕ) → (changed (named c) (named (port_written c p v).chip) ≡ [] → ⊥) → Line (changed (named c) (named (port_written c p v).chip))
written-ends c p v =
    named-written (λ n. (changed (named c) n ≡ [] → ⊥) → Line (changed (named c) n)) c v (λ some. absurd (some (changed-none (named c))))
    (λ g. let e = changed-received g (named c) (index_of g c.indexes) v (kept-index g (index_byte g c.indexes)) in
    λ some. rw e (register-ends (number_of g) (index_of g c.indexes) _ _ (rw e at some)))
    (coloured-ends (named c)) (λ lit some. absurd (some (changed_picture (named c) lit))) p

changed-ends : (c : Chip) (acc : ℕ) (r : Option Command) → (changed (named c) (named (one c acc r).chip) ≡ [] → ⊥)
    → Line (changed (named c) (named (one c acc r).chip))
unfolding one done
changed-ends c acc (Some (Out p v)) some = written-ends c p v some
changed-ends c acc (Some (In p)) some = absurd (some (read-line c p))
changed-ends c acc (Some (Merge keep set)) some = absurd (some (changed-none (named c)))
changed-ends c acc (Some (OutAcc p)) some = written-ends c p acc some
changed-ends c acc None some = absurd (some (changed-none (named c)))

pub line-ends : (c : Chip) (acc : ℕ) (r : Option Command) → Line (words_read r ++ behind c (one c acc r).chip)
unfolding behind
line-ends c acc r = line-behind (words_read r) (go (differ c d) refl)
  where
    d : Chip
    d = (one c acc r).chip

    go : (z : Bool) → differ c d ≡ z → Line (cond z (ascii "   " ++ changed (named c) (named d)) (ascii "\n"))
    go true e = line-behind (ascii "   ") (changed-ends c acc r (λ silent. let z : true ≡ false = sym e ∙ silent_same c d silent in let w : ◌≡◌ {A = ℕ} 0 1 = cc in omega arith))
    go false e = record { front = []; ends = refl }
