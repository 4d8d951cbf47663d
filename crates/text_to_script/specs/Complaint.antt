-- What is said of an answer of `compose`, in one line: what is wrong, and in which line of the text, counted from 1 as an
-- editor counts them. `compose: line 3: not a step`, `compose: line 3: refused 11, a step can do nothing`, `compose: refused 8,
-- not 1 to 12 whole blocks, or not 1 to 1008 steps`; of a file nothing is said. The words of a number are the crate
-- text_refusals'. Room is asked for 128 bytes: no complaint is longer (proofs/Complaining).
use Rattle.std.specs.Prelude.{ℕ, ◌+◌, ◌%◌, cond, List, [], ◌++◌, eqb, Result, Ok, Err}
use Rattle.text.specs.Ascii.{ascii}
use Rattle.text.specs.Refused.{placed}
use Rattle.text_refusals.specs.Complaint.{reason}
use Rattle.script.specs.Numbers.{of_refusal}
use Rattle.text_to_script.specs.Compose.{verdict_number}
use Rattle.text_to_script.specs.declared.ComposeError.{ComposeError}
use Rattle.text_to_script.specs.declared.ComposeError.TheVariants.{Stopped, Refused as NotWritten}

-- in 64 bits; no text is so long that it matters
abbrev pub line_number : ℕ → ℕ
line_number k = (k + 1) % 18446744073709551616

-- of another form, or the number and its words
unfoldable pub wrong : ℕ → List ℕ
wrong number = cond (eqb number 0) (ascii "not a step\n") (reason number)

abbrev pub stopped_place : ℕ → List ℕ
stopped_place k = placed (ascii "compose: line ") (line_number k)

abbrev pub stopped_text : ℕ → ℕ → List ℕ
stopped_text number k = stopped_place k ++ wrong number

abbrev pub refusal_text : ℕ → List ℕ
refusal_text number = ascii "compose: " ++ reason number

unfoldable pub complaint : Result ℕ ComposeError → List ℕ
complaint (Ok n) = []
complaint (Err (Stopped v k)) = stopped_text (verdict_number v) k
complaint (Err (NotWritten r)) = refusal_text (of_refusal r).number
