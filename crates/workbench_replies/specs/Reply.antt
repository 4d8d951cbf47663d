-- The text of an answer: a line, with a line feed at its end, or all registers. A number is decimal, and bytes are two capital
-- hexadecimal digits each. It goes where 8,192 bytes are left, the room that all registers ask for; with less nothing changes
-- (`AddedIn` of the crate text). That no answer is longer, and worked answers, are proofs/ReplyLaws.
use Rattle.std.specs.Prelude.{ℕ, ◌+◌, List, [], ◌++◌}
use Rattle.text.specs.Digits.{byte_digits, decimal}
use Rattle.chip.specs.State.{Named}
use Rattle.text_registers.specs.Text.{dumped}
use Rattle.text.specs.Ascii.{ascii}
use Rattle.workbench_replies.specs.declared.Reply.{Reply}
use Rattle.workbench_replies.specs.declared.Reply.TheVariants.{Number, Byte, Told, Colour, Registers, Requests, Nothing, Unknown}

-- a space and a byte
abbrev pub spaced : ℕ → List ℕ
spaced v = ascii " " ++ byte_digits v

-- the requests, with a form each
abbrev pub requests : List ℕ
requests =
    ascii "reset FF FF    a reset with the two pin bytes\n"
    ++ ascii "o 3D6 60       a byte to a port\n"
    ++ ascii "i 3D7          a byte from a port\n"
    ++ ascii "p 07           the colour that a pixel with this byte shows\n"
    ++ ascii "m 200000       so many bytes of memory, all 0\n"
    ++ ascii "r 1FFF         a byte of memory\n"
    ++ ascii "w 1FFF 5A      a byte into memory\n"
    ++ ascii "t 1F 10 0 10 4 2 CC 0 0 40 7\n"
    ++ ascii "               a block transfer: destination, span, source, span, width, height, raster code,\n"
    ++ ascii "               right to left, bottom to top, pattern, row\n"
    ++ ascii "d              all registers by name\n"
    ++ ascii "? or help      this list\n"
    ++ ascii "q              the end\n"

-- `0`, `0 43`, `0 00 43`, `0 FC 00 54`, all registers, the requests, nothing, and `?`
unfoldable pub reply_text : Named → Reply → List ℕ
reply_text n (Number k) = decimal k ++ ascii "\n"
reply_text n (Byte k v) = decimal k ++ spaced v ++ ascii "\n"
reply_text n (Told k before after) = decimal k ++ spaced before ++ spaced after ++ ascii "\n"
reply_text n (Colour red green blue) = ascii "0" ++ spaced red ++ spaced green ++ spaced blue ++ ascii "\n"
reply_text n Registers = dumped n
reply_text n Requests = requests
reply_text n Nothing = []
reply_text n Unknown = ascii "?\n"
