-- What differs between two states, as text: a line for each register whose byte differs, in the order of the groups' numbers
-- and within a group by rising index, with the byte before and the byte after, `XR60 00 43`, `MSR 00 67`; then a line for
-- each palette entry that differs, by rising number, with the three stored bytes before and after, `COLOUR 02 000000 FFD000`.
-- Registers and entries are read by name: no index register and no loading state is looked at. How long the text can be, and
-- that what it does not tell is the same in both states, are laws: proofs/Lengths and proofs/Telling.
use Rattle.std.specs.Prelude.{ℕ, cond, ◌||◌, List, [], ◌++◌, eqb}
use Rattle.chip_registers.specs.Groups.{group_at}
use Rattle.chip.specs.State.{Named}
use Rattle.chip.specs.Names.{register}
use Rattle.chip.specs.Palette.{entry}
use Rattle.chip.specs.Differ.{same_colour}
use Rattle.chip.specs.declared.Rgb.{Rgb}
use Rattle.text.specs.Ascii.{ascii}
use Rattle.text.specs.Digits.{byte_digits}
use Rattle.text_steps.specs.Written.{name_text, byte_text}
use Rattle.text_registers.specs.Line.{joined}

-- ---- registers
-- the name of a register of the group with this number, the byte before and the byte after
unfoldable pub register_line : ℕ → ℕ → ℕ → ℕ → List ℕ
register_line g i old new = name_text g i ++ (byte_text old ++ byte_text new ++ ascii "\n")

-- nothing where the two are the same
unfoldable pub register_change : ℕ → ℕ → ℕ → ℕ → List ℕ
register_change g i old new = cond (eqb old new) [] (register_line g i old new)

-- MSR and PALMASK are one register each
unfoldable pub indexes : ℕ → ℕ
indexes g = cond (eqb g 6 || eqb g 7) 1 256

abbrev pub register_at : Named → Named → ℕ → ℕ → List ℕ
register_at before after g i = register_change g i (register (group_at g) before i) (register (group_at g) after i)

-- the lines of the first n indexes of a group, and of the first k groups
abbrev pub registers_to : Named → Named → ℕ → ℕ → List ℕ
registers_to before after g n = joined (λ (i : ℕ). register_at before after g i) n

abbrev pub groups_to : Named → Named → ℕ → List ℕ
groups_to before after k = joined (λ (g : ℕ). registers_to before after g (indexes g)) k

-- ---- colours
abbrev pub colour_digits : Rgb → List ℕ
colour_digits c = ascii " " ++ byte_digits c.red ++ byte_digits c.green ++ byte_digits c.blue

-- `COLOUR`, the number of the entry, its bytes before and after
unfoldable pub colour_line : ℕ → Rgb → Rgb → List ℕ
colour_line e old new =
    ascii "COLOUR" ++ byte_text e ++ colour_digits old ++ colour_digits new ++ ascii "\n"

-- nothing where the two are the same
unfoldable pub colour_change : ℕ → Rgb → Rgb → List ℕ
colour_change e old new = cond (same_colour old new) [] (colour_line e old new)

-- the lines of the first n entries
abbrev pub colours_to : Named → Named → ℕ → List ℕ
colours_to before after n = joined (λ (e : ℕ). colour_change e (entry before e) (entry after e)) n

-- ---- the whole
unfoldable pub changed : Named → Named → List ℕ
changed before after = groups_to before after 9 ++ colours_to before after 256
