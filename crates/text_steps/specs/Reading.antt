-- A line of text read: a step, a line to pass over, or one of another form. Words are those of the crate text_tokens, so blanks
-- and the case of letters are free; a byte has exactly two digits, and so has an index: what is left out is not guessed. A `#`
-- at the line's start or behind a blank begins a comment, which is not read; a line without words is passed over. Whether a
-- step is legal is not asked here. Laws of comments are proofs/CommentLaws.
use Rattle.std.specs.Prelude.{ℕ, ◌/◌, ◌%◌, Bool, true, cond, ◌&&◌, List, [], ◌∷◌, ltb, eqb, Result, Option, Ok, Err, Some, None}
use Rattle.text_tokens.specs.declared.Tokens.{Tokens}
use Rattle.text_tokens.specs.Tokens.{blank, token, token_at, tokens_of}
use Rattle.text_tokens.specs.Hex.{is_byte, byte_of}
use Rattle.script_steps.specs.declared.Step.TheVariants.{Set, Field, Colour}
use Rattle.text_steps.specs.declared.Name.{Name}
use Rattle.text_steps.specs.declared.NotAStep.{NotAStep}
use Rattle.text_steps.specs.declared.NotAStep.TheVariants.{Other}
use Rattle.script_steps.specs.declared.Step.{Step}

-- 9 for letters of no group
unfoldable pub group_of : ℕ → ℕ
group_of letters =
    cond (eqb letters (token "CR")) 0
    (cond (eqb letters (token "SR")) 1
    (cond (eqb letters (token "GR")) 2
    (cond (eqb letters (token "XR")) 3
    (cond (eqb letters (token "FR")) 4
    (cond (eqb letters (token "MR")) 5
    (cond (eqb letters (token "AR")) 8 9))))))

abbrev pub register_name : ℕ → ℕ → Name
register_name g i = record { group = g; index = i }

-- two letters and two digits
unfoldable pub indexed : ℕ → ℕ → Option Name
indexed letters digits = cond (is_byte digits && ltb (group_of letters) 9) (Some (register_name (group_of letters) (byte_of digits))) None

-- the two that have no index, and the others
unfoldable pub name_of : ℕ → Option Name
name_of word =
    cond (eqb word (token "MSR")) (Some (register_name 6 0))
    (cond (eqb word (token "PALMASK")) (Some (register_name 7 0))
    (indexed (word / 65536) (word % 65536)))

-- a name and one byte; a name, the mask and the value; four bytes
unfoldable pub set_of : Option Name → ℕ → Result (Option Step) NotAStep
set_of (Some n) value = cond (is_byte value) (Ok (Some (Set n.group n.index (byte_of value)))) (Err Other)
set_of None value = Err Other

unfoldable pub field_of : Option Name → ℕ → ℕ → Result (Option Step) NotAStep
field_of (Some n) mask value = cond (is_byte mask && is_byte value) (Ok (Some (Field n.group n.index (byte_of value) (byte_of mask)))) (Err Other)
field_of None mask value = Err Other

unfoldable pub colour_of : ℕ → ℕ → ℕ → ℕ → Result (Option Step) NotAStep
colour_of entry red green blue =
    cond (is_byte entry && is_byte red && is_byte green && is_byte blue)
    (Ok (Some (Colour (byte_of entry) (byte_of red) (byte_of green) (byte_of blue)))) (Err Other)

-- each with just its words
unfoldable pub step_of : Tokens → Result (Option Step) NotAStep
step_of w =
    cond (eqb (token_at w 0) (token "SET") && eqb (token_at w 3) 0) (set_of (name_of (token_at w 1)) (token_at w 2))
    (cond (eqb (token_at w 0) (token "FIELD") && eqb (token_at w 4) 0) (field_of (name_of (token_at w 1)) (token_at w 2) (token_at w 3))
    (cond (eqb (token_at w 0) (token "COLOUR") && eqb (token_at w 5) 0) (colour_of (token_at w 1) (token_at w 2) (token_at w 3) (token_at w 4))
    (Err Other)))

-- no word at all is a blank line
unfoldable pub said : Tokens → Result (Option Step) NotAStep
said w = cond (eqb (token_at w 0) 0) (Ok None) (step_of w)

-- what stands before a comment, from a place on: whether a word can begin there, and what follows. `#` is 23h
unfoldable pub before_comment : Bool → List ℕ → List ℕ
before_comment free [] = []
before_comment free (c ∷ cs) = cond (free && eqb c 0x23) [] (c ∷ before_comment (blank c) cs)

unfoldable pub line_of : List ℕ → Result (Option Step) NotAStep
line_of l = said (tokens_of (before_comment true l))
