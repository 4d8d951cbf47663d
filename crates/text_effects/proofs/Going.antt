-- The loop of put_effects: the lines of the commands so far stand in the output, and with those of the commands from here on they
-- are all lines. One turn adds a line; there is room for it; and at the end all of them stand there.
use Prim.Native.Nat.{ℕ, ◌+◌, ◌*◌, ◌/◌, ◌%◌, ◌≤◌, ◌<◌}
use native.Mathlib.Omega.{arith}
use mathlib.Core.Path.{◌≡◌, refl, sym, ap, ◌∙◌}
use mathlib.Core.List.{List, [], ◌∷◌, ◌++◌, append_assoc, append-nil}
use lib.ListN.{length, get_or, length-append}
use Rattle.lists.specs.Put.{Added}
use Rattle.lists.proofs.Put.{added_length, added_append}
use Rattle.chip.specs.State.{Chip}
use Rattle.chip_run.specs.Run.{Did, one, reads}
use Rattle.std.proofs.lemmas.List.{nil_from_length}
use Rattle.script_commands.specs.Command.{command_of}
use Rattle.chip_play.specs.Played.{fresh}
use Rattle.text_effects.specs.Effects.{words_read, behind, effects_of}
use Rattle.text_effects.proofs.EffectLaws.{words_read_most, line_most}
use Rattle.std.specs.Prelude.{Option}
use Rattle.script_commands.specs.declared.Command.{Command}

-- with these bytes to come, this state and this accumulator; the output was `out₀` and is `out`
pub record Going (bytes out₀ out : List ℕ) (c : Chip) (acc at : ℕ) (rest : List ℕ) : Type 0 where
  pub lines : List ℕ
  pub stand : Added out₀ 0 lines out at
  pub all : lines ++ effects_of c acc (reads rest) ≡ effects_of fresh 0 (reads bytes)
  pub few : length lines + 38 * (length rest / 4) ≤ 38 * (length bytes / 4)
  pub fours : length rest % 4 ≡ 0
  pub same : length out ≡ length out₀

-- the definition's two clauses
none_left : (c : Chip) (acc : ℕ) → effects_of c acc (reads []) ≡ []
unfolding effects_of reads
none_left c acc = refl

first-line : (c : Chip) (acc : ℕ) (r : Option Command) (rs : List (Option Command))
    → effects_of c acc (r ∷ rs) ≡ (words_read r ++ behind c (one c acc r).chip) ++ effects_of (one c acc r).chip (one c acc r).acc rs
unfolding effects_of
first-line c acc r rs = refl

-- what four bytes are read as
abbrev pub read : List ℕ → Option Command
read four = command_of (get_or four 0 0) (get_or four 1 0) (get_or four 2 0) (get_or four 3 0)

reads_more : (four rest : List ℕ) → length four ≡ 4 → reads (four ++ rest) ≡ read four ∷ reads rest
unfolding reads
reads_more (a ∷ b ∷ c ∷ d ∷ []) rest e = refl
reads_more [] rest e = absurd (omega arith)
reads_more (a ∷ []) rest e = absurd (omega arith)
reads_more (a ∷ b ∷ []) rest e = absurd (omega arith)
reads_more (a ∷ b ∷ c ∷ []) rest e = absurd (omega arith)
reads_more (a ∷ b ∷ c ∷ d ∷ x ∷ l) rest e = absurd (omega arith)

module _ (bytes out₀ : List ℕ) (whole : length bytes % 4 ≡ 0) where
  module _ (room : 38400 + 38 * (length bytes / 4) ≤ length out₀) {out : List ℕ} {c : Chip} {acc at : ℕ} {rest : List ℕ}
      (g : Going bytes out₀ out c acc at rest) where
    -- no command is left
    pub ends : length rest < 4 → Added out₀ 0 (effects_of fresh 0 (reads bytes)) out at
    ends h =
        let none : rest ≡ [] = nil_from_length rest (omega (arith, g.fours)) in
        let e : g.lines ≡ effects_of fresh 0 (reads bytes) =
        sym (append-nil g.lines) ∙ ap (◌++◌ g.lines) (sym (none_left c acc)) ∙ ap (λ (l : List ℕ). g.lines ++ effects_of c acc (reads l)) (sym none) ∙ g.all in
        rw e at g.stand

    module _ (four rest' : List ℕ) (is-more : rest ≡ four ++ rest') (size : length four ≡ 4) where
      longer : length rest ≡ 4 + length rest'
      longer = ap length is-more ∙ length-append four rest' ∙ ap (λ (k : ℕ). k + length rest') size

      -- room for its words, and then for whatever is told
      pub room-words : at + 38438 ≤ length out
      room-words = omega (arith, longer, g.few, g.same, g.stand.next)

      module _ {o₁ : List ℕ} {e₁ : ℕ} (said : Added out at (words_read (read four)) o₁ e₁) where
        same-words : length o₁ ≡ length out
        same-words = added_length said (omega (arith, room-words, words_read_most (read four)))

        pub room-behind : e₁ + 38403 ≤ length o₁
        room-behind = omega (arith, same-words, room-words, words_read_most (read four))

        module _ {d : Did} (is : d ≡ one c acc (read four)) {o₂ : List ℕ} {e₂ : ℕ} (did : Added o₁ e₁ (behind c d.chip) o₂ e₂) where
          -- a line more
          pub goes_on : Going bytes out₀ o₂ d.chip d.acc e₂ rest'
          goes_on =
              let r : Option Command = read four in
              let line : List ℕ = words_read r ++ behind c d.chip in
              let most : length line ≤ 38 = rw is (line_most c acc r) in
              let e : e₂ ≤ at + 38 = omega (arith, length-append (words_read r) (behind c d.chip)) in
              let put : Added out at line o₂ e₂ = added_append said did (omega (arith, room-words)) in
              record {
                lines = g.lines ++ line;
                stand = added_append g.stand put (omega (arith, room-words));
                all = append_assoc g.lines line (effects_of d.chip d.acc (reads rest'))
                    ∙ ap (◌++◌ g.lines) (rw is (sym (first-line c acc r (reads rest'))))
                    ∙ ap (λ (rs : List (Option Command)). g.lines ++ effects_of c acc rs) (sym (ap reads is-more ∙ reads_more four rest' size))
                    ∙ g.all;
                few = omega (arith, length-append g.lines line, longer, g.few, g.fours);
                fours = omega (arith, longer, g.fours);
                same = added_length put (omega (arith, room-words)) ∙ g.same;
              }
