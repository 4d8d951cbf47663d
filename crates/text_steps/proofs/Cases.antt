-- What people type, as lines, by computation over the definition that the contract cites.
use mathlib.Core.Path.{◌≡◌, refl}
use Rattle.text.specs.Ascii.{ascii}
use Rattle.text_tokens.specs.Tokens.{grown, ended, taken, taken_all, tokens_of}
use Rattle.text_tokens.specs.Hex.{digit_value, is_byte, byte_of}
use Rattle.script_steps.specs.declared.Step.TheVariants.{Set}
use Rattle.text_steps.specs.Reading.{group_of, indexed, name_of, set_of, step_of, said, before_comment, line_of}
use Rattle.std.specs.Prelude.{Ok, Err, Some, None}
use Rattle.text_steps.specs.declared.NotAStep.TheVariants.{Other}

pub case_comment_behind : line_of (ascii "SET XR60 43   # bank") ≡ Ok (Some (Set 3 0x60 0x43))
unfolding line_of before_comment said step_of set_of name_of indexed group_of is_byte byte_of digit_value tokens_of taken_all taken grown ended
case_comment_behind = refl

pub case_comment_indented : line_of (ascii "    # SET XR60 43") ≡ Ok None
unfolding line_of before_comment said tokens_of taken_all taken grown ended
case_comment_indented = refl

-- a `#` within a word is no comment
pub case_no_blank : line_of (ascii "SET XR60 43# bank") ≡ Err Other
unfolding line_of before_comment said step_of set_of name_of indexed group_of is_byte byte_of digit_value tokens_of taken_all taken grown ended
case_no_blank = refl

pub case_letter_behind : line_of (ascii "SET XR60 67h") ≡ Err Other
unfolding line_of before_comment said step_of set_of name_of indexed group_of is_byte byte_of digit_value tokens_of taken_all taken grown ended
case_letter_behind = refl
