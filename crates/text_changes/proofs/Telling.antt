-- What the text does not tell is the same in both states: two states of which nothing is told have the same byte in every
-- register and the same three bytes in every palette entry. Nothing is told of two states that have, so of a state and itself.
use Prim.Native.Nat.{ℕ, zero, suc, ◌<◌}
use native.Mathlib.Omega.{arith}
use native.Mathlib.Decide.{ℕ_discrete}
use mathlib.Core.Bool.{Bool, true, false, cond}
use mathlib.Core.Path.{◌≡◌, refl, sym, ap, ◌∙◌}
use mathlib.Core.List.{List, [], ◌∷◌, ◌++◌}
use lib.Dec.{eqb}
use borrow.Author.Tests.{eqb-true, eq-eqb}
use Rattle.chip_registers.specs.Groups.{group_at}
use Rattle.chip.specs.State.{Named}
use Rattle.chip.specs.Names.{register}
use Rattle.chip.specs.Palette.{entry}
use Rattle.chip.specs.Differ.{same_colour}
use Rattle.chip.specs.declared.Rgb.{Rgb}
use Rattle.chip.proofs.DifferLaws.{colour_self, colour_same}
use Rattle.text.specs.Ascii.{ascii}
use Rattle.text_steps.specs.Written.{name_text, byte_text}
use Rattle.text_registers.specs.Line.{joined}
use Rattle.text_registers.proofs.Growing.{joined-none}
use Rattle.text_changes.specs.Changes.{register_line, register_change, indexes, register_at, registers_to, groups_to, colour_line, colour_change, colours_to, changed}

-- ---- nothing, piece by piece
empty_left : (a b : List ℕ) → a ++ b ≡ [] → a ≡ []
empty_left [] b e = refl
empty_left (x ∷ a) b e = cc

empty_right : (a b : List ℕ) → a ++ b ≡ [] → b ≡ []
empty_right [] b e = e
empty_right (x ∷ a) b e = cc

module _ (piece : ℕ → List ℕ) where
  joined_empty : (n k : ℕ) → k < n → joined piece n ≡ [] → piece k ≡ []
  unfolding joined
  joined_empty zero k h e = absurd (omega arith)
  joined_empty (suc n) k h e = go (ℕ_discrete k n) (λ w. joined_empty n k w (empty_left (joined piece n) (piece n) e))
    where
      go : Dec (k ≡ n) → (k < n → piece k ≡ []) → piece k ≡ []
      go (yes w) before = ap piece w ∙ empty_right (joined piece n) (piece n) e
      go (no w) before = before (omega arith)

-- ---- a line that is not there
register_silent : (g i old new : ℕ) → register_change g i old new ≡ [] → old ≡ new
unfolding register_change register_line
register_silent g i old new e = go (eqb old new) refl e
  where
    go : (b : Bool) → eqb old new ≡ b → cond b [] (name_text g i ++ (byte_text old ++ byte_text new ++ ascii "\n")) ≡ [] → old ≡ new
    go true h e = eqb-true _ _ h
    go false h e = let z = empty_right (name_text g i) (byte_text old ++ byte_text new ++ ascii "\n") e in cc

colour_silent : (e : ℕ) (old new : Rgb) → colour_change e old new ≡ [] → old ≡ new
unfolding colour_change colour_line
colour_silent e old new w = go (same_colour old new) refl w
  where
    go : (b : Bool) → same_colour old new ≡ b → cond b [] (colour_line e old new) ≡ [] → old ≡ new
    go true h w = colour_same old new h
    go false h w = cc

module _ (before after : Named) (silent : changed before after ≡ []) where
  -- every register; MSR and PALMASK have the index 0
  pub registers_same : (g i : ℕ) → g < 9 → i < indexes g → register (group_at g) before i ≡ register (group_at g) after i
  unfolding changed
  registers_same g i hg hi =
      let e = empty_left (groups_to before after 9) (colours_to before after 256) silent in
      let f = joined_empty (λ (k : ℕ). registers_to before after k (indexes k)) 9 g hg e in
      register_silent g i _ _ (joined_empty (λ (k : ℕ). register_at before after g k) (indexes g) i hi f)

  pub colours_same : (e : ℕ) → e < 256 → entry before e ≡ entry after e
  unfolding changed
  colours_same e h =
      let w = empty_right (groups_to before after 9) (colours_to before after 256) silent in
      colour_silent e _ _ (joined_empty (λ (k : ℕ). colour_change k (entry before k) (entry after k)) 256 e h w)

-- ---- and back: no line for what is the same
pub register-kept : (g i old new : ℕ) → old ≡ new → register_change g i old new ≡ []
unfolding register_change
register-kept g i old new e = rw (eq-eqb old new e)

pub colour_kept : (e : ℕ) (old new : Rgb) → old ≡ new → colour_change e old new ≡ []
unfolding colour_change
colour_kept e old new w = let same : same_colour old new ≡ true = ap (same_colour old) (sym w) ∙ colour_self old in rw same

module _ (before after : Named) where
  pub group_silent : (g : ℕ) → ((i : ℕ) → i < indexes g → register (group_at g) before i ≡ register (group_at g) after i)
      → registers_to before after g (indexes g) ≡ []
  group_silent g same =
      joined-none (λ (i : ℕ). register_at before after g i) (indexes g) (λ i h. register-kept g i _ _ (same i h))

  pub groups_silent : ((g i : ℕ) → g < 9 → i < indexes g → register (group_at g) before i ≡ register (group_at g) after i)
      → groups_to before after 9 ≡ []
  groups_silent same =
      joined-none (λ (g : ℕ). registers_to before after g (indexes g)) 9 (λ g hg. group_silent g (λ i hi. same g i hg hi))

  pub colours_silent : ((e : ℕ) → e < 256 → entry before e ≡ entry after e) → colours_to before after 256 ≡ []
  colours_silent same =
      joined-none (λ (e : ℕ). colour_change e (entry before e) (entry after e)) 256 (λ e h. colour_kept e _ _ (same e h))

  pub changed_silent : ((g i : ℕ) → g < 9 → i < indexes g → register (group_at g) before i ≡ register (group_at g) after i)
      → ((e : ℕ) → e < 256 → entry before e ≡ entry after e) → changed before after ≡ []
  unfolding changed
  changed_silent registers colours = rw (groups_silent registers, colours_silent colours)

-- of a state and itself nothing is told
pub changed-none : (n : Named) → changed n n ≡ []
changed-none n = changed_silent n n (λ g i hg hi. refl) (λ e h. refl)
