-- What people type, as a text, by computation over the definitions that the contract cites.
use mathlib.Core.Path.{◌≡◌, refl}
use mathlib.Core.List.{[], ◌∷◌, ◌++◌}
use Rattle.text.specs.Ascii.{ascii}
use Rattle.text_tokens.specs.Tokens.{grown, ended, taken, taken_all, tokens_of}
use Rattle.text_tokens.specs.Hex.{digit_value, is_byte, byte_of}
use Rattle.script_steps.specs.Step.{bytes_of}
use Rattle.text_steps.specs.Reading.{group_of, indexed, name_of, set_of, step_of, said, before_comment, line_of}
use Rattle.text_to_script.specs.Lines.{lines_from, mark, mark_size, text_lines}
use Rattle.text_to_script.specs.Compose.{gathered}

-- a mark, an indented comment, and a comment behind a step: one step, SET XR60 43h
pub case-typed : gathered [] (text_lines (mark ++ ascii "  # the bank\nSET XR60 43   # bank\n")) ≡ 1 ∷ 3 ∷ 0x60 ∷ 0x43 ∷ 0 ∷ 0 ∷ []
unfolding mark_size lines_from gathered line_of before_comment said step_of set_of name_of indexed group_of is_byte byte_of digit_value tokens_of taken_all taken grown ended bytes_of
case-typed = refl
