-- Lines as they are typed, each with what it asks for, by computation over the definition.
use Prim.Native.String.{String}
use mathlib.Core.Bool.{true, false}
use mathlib.Core.Path.{◌≡◌, refl}
use mathlib.Core.List.{List, [], ◌∷◌, map}
use Rattle.text.specs.Ascii.{ascii}
use Rattle.text_tokens.specs.Hex.{digit_value, all_digits, value_in, number_of}
use Rattle.text_tokens.specs.Tokens.{grown, ended, taken, taken_all, tokens_of}
use Rattle.workbench_requests.specs.Request.{fits, value, is_transfer, transfer_of, request_of}
use Rattle.workbench_requests.specs.declared.Request.{Request}
use Rattle.workbench_requests.specs.declared.Request.TheVariants.{Reset, Out, In, Block, Dump, Help, Quit, Pass, Unknown}

-- what a line asks for
unfoldable pub asked : String → Request
asked line = request_of (tokens_of (ascii line))

-- the last line has a space and a carriage return
abbrev pub typed : List (String × Request)
typed =
    ("o 3d6 60", Out 0x3D6 0x60)
    ∷ ("i 3d7", In 0x3D7)
    ∷ ("RESET FF FF", Reset 0xFF 0xFF)
    ∷ ("d", Dump)
    ∷ (
      "t 1000 400 0 400 80 60 cc 0 1 0 7",
      Block (record {
        destination = record { address = 0x1000; span = 0x400 };
        source = record { address = 0; span = 0x400 };
        width = 0x80;
        height = 0x60;
        code = 0xCC;
        leftward = false;
        upward = true;
        pattern_address = 0;
        pattern_row = 7;
      }),
    )
    ∷ ("?", Help)
    ∷ ("help", Help)
    ∷ ("q", Quit)
    ∷ (" \r", Pass)
    ∷ []

pub lines_read : map (λ (t : String × Request). asked t.0) typed ≡ map (λ (t : String × Request). t.1) typed
unfolding asked request_of is_transfer transfer_of fits value number_of all_digits value_in digit_value tokens_of taken_all taken ended grown
lines_read = refl

-- a byte that is too large, a word too many, a direction 2, and a number left out
abbrev pub mistyped : List String
mistyped = "o 3d6 160" ∷ "d x" ∷ "t 1000 400 0 400 80 60 cc 0 2 0 7" ∷ "t 1000 400 0 400 80 60 cc 0 1 0" ∷ []

pub lines_unknown : map asked mistyped ≡ map (λ (t : String). Unknown) mistyped
unfolding asked request_of is_transfer transfer_of fits value number_of all_digits value_in digit_value tokens_of taken_all taken ended grown
lines_unknown = refl
