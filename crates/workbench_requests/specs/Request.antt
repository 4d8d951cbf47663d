-- What the words of a line ask for. The first word is the request's name, numbers follow it, each of one to eight hexadecimal
-- digits, and no word stands behind them. A line without words is passed over. A line of any other form is Unknown, and so is
-- one with a number that does not fit its place: a port is at most FFFFh; a byte, a pin byte, a pixel and a raster code are at
-- most FFh; a direction is 0 or 1. Worked lines are proofs/WorkedLines.
use Rattle.std.specs.Prelude.{ℕ, ◌+◌, Bool, false, cond, ◌&&◌, leb, eqb, Option, Some, None}
use Rattle.text_tokens.specs.Hex.{number_of}
use Rattle.text_tokens.specs.Tokens.{token_at, token}
use Rattle.text_tokens.specs.declared.Tokens.{Tokens}
use Rattle.blit_frame.specs.declared.Transfer.{Transfer}
use Rattle.workbench_requests.specs.declared.Request.{Request}
use Rattle.workbench_requests.specs.declared.Request.TheVariants.{Reset, Out, In, Pixel, Lend, Read, Write, Block, Dump, Help, Quit, Pass, Unknown}

-- ---- a word as a number that is at most so much, and its value, 0 where it is no such number
abbrev pub up_to : ℕ → Option ℕ → Bool
up_to most (Some n) = leb n most
up_to most None = false

abbrev pub value_of : Option ℕ → ℕ
value_of (Some n) = n
value_of None = 0

unfoldable pub fits : ℕ → ℕ → Bool
fits most word = up_to most (number_of word)

unfoldable pub value : ℕ → ℕ → ℕ
value most word = cond (fits most word) (value_of (number_of word)) 0

-- ---- the words of a line by their place, the name being 0
-- the name, and no word behind the n that follow it
abbrev pub form : Tokens → ℕ → ℕ → Bool
form w name n = eqb (token_at w 0) name && eqb (token_at w (n + 1)) 0

-- a port, a byte, a direction, and a number of any value
abbrev pub is_port : Tokens → ℕ → Bool
is_port w k = fits 0xFFFF (token_at w k)

abbrev pub port : Tokens → ℕ → ℕ
port w k = value 0xFFFF (token_at w k)

abbrev pub is_byte : Tokens → ℕ → Bool
is_byte w k = fits 0xFF (token_at w k)

abbrev pub byte : Tokens → ℕ → ℕ
byte w k = value 0xFF (token_at w k)

abbrev pub is_direction : Tokens → ℕ → Bool
is_direction w k = fits 1 (token_at w k)

abbrev pub direction : Tokens → ℕ → Bool
direction w k = eqb (value 1 (token_at w k)) 1

abbrev pub is_number : Tokens → ℕ → Bool
is_number w k = fits 0xFFFFFFFF (token_at w k)

abbrev pub number : Tokens → ℕ → ℕ
number w k = value 0xFFFFFFFF (token_at w k)

-- ---- the eleven numbers of a transfer: destination, its span, source, its span, width, height, code, right to left, bottom to top,
-- pattern address, pattern row
unfoldable pub is_transfer : Tokens → Bool
is_transfer w =
    is_number w 1 && is_number w 2 && is_number w 3 && is_number w 4 && is_number w 5 && is_number w 6
    && is_byte w 7 && is_direction w 8 && is_direction w 9 && is_number w 10 && is_number w 11

unfoldable pub transfer_of : Tokens → Transfer
transfer_of w = record {
  destination = record { address = number w 1; span = number w 2 };
  source = record { address = number w 3; span = number w 4 };
  width = number w 5;
  height = number w 6;
  code = byte w 7;
  leftward = direction w 8;
  upward = direction w 9;
  pattern_address = number w 10;
  pattern_row = number w 11;
}

-- ---- the requests
unfoldable pub request_of : Tokens → Request
request_of w =
    cond (form w (token "RESET") 2 && is_byte w 1 && is_byte w 2) (Reset (byte w 1) (byte w 2))
    (cond (form w (token "O") 2 && is_port w 1 && is_byte w 2) (Out (port w 1) (byte w 2))
    (cond (form w (token "I") 1 && is_port w 1) (In (port w 1))
    (cond (form w (token "P") 1 && is_byte w 1) (Pixel (byte w 1))
    (cond (form w (token "M") 1 && is_number w 1) (Lend (number w 1))
    (cond (form w (token "R") 1 && is_number w 1) (Read (number w 1))
    (cond (form w (token "W") 2 && is_number w 1 && is_byte w 2) (Write (number w 1) (byte w 2))
    (cond (form w (token "T") 11 && is_transfer w) (Block (transfer_of w))
    (cond (form w (token "D") 0) Dump
    (cond (form w (token "?") 0) Help
    (cond (form w (token "HELP") 0) Help
    (cond (form w (token "Q") 0) Quit
    (cond (eqb (token_at w 0) 0) Pass
    Unknown))))))))))))
