-- What only the private functions' contracts speak of: where a line ends, steps kept in a buffer, and a text's lines gathered.
use Rattle.std.specs.Prelude.{ℕ, ◌+◌, ◌-◌, ◌≤◌, ◌≡◌, List, [], ◌∷◌, length, take, drop, Result, Option, Ok, Err, Some, None}
use Rattle.script_writer.specs.Write.{written}
use Rattle.text_to_script.specs.Lines.{lines_of, text_lines}
use Rattle.text_to_script.specs.Compose.{with_line, of_writer, composed, gathered}
use Rattle.text_steps.specs.declared.NotAStep.{NotAStep}
use Rattle.text_steps.specs.declared.NotAStep.TheVariants.{Other}
use Rattle.script_steps.specs.declared.Step.{Step}
use Rattle.text_to_script.specs.declared.ComposeError.{ComposeError}

-- a line from one place up to another, and the lines behind it
abbrev pub part : List ℕ → ℕ → ℕ → List ℕ
part text from end = take (end - from) (drop from text)

pub record LineEnds (text : List ℕ) (from : ℕ) (end : ℕ) : Type 0 where
  pub after : from ≤ end
  pub within : end ≤ length text
  pub lines : lines_of (drop from text) ≡ part text from end ∷ lines_of (drop (end + 1) text)

-- a step has six bytes
abbrev pub line_size : Result (Option Step) NotAStep → ℕ
line_size (Ok (Some step)) = 6
line_size (Ok None) = 0
line_size (Err Other) = 0

-- the steps of a line behind the first n bytes of a buffer
pub record Kept (before : List ℕ) (n : ℕ) (line : Result (Option Step) NotAStep) (after : List ℕ) (end : ℕ) : Type 0 where
  pub steps : take end after ≡ with_line line (take n before)
  pub size : length after ≡ length before
  pub next : end ≡ n + line_size line

pub record AllGathered (text : List ℕ) (buffer : List ℕ) (n : ℕ) : Type 0 where
  pub within : n ≤ length buffer
  pub steps : take n buffer ≡ gathered [] (text_lines text)
  pub answer : (room : ℕ) → composed text room ≡ of_writer (written (take n buffer) room)

abbrev pub Gathers : List ℕ → List ℕ → Result ℕ ComposeError → Type 0
Gathers text buffer (Ok n) = AllGathered text buffer n
Gathers text buffer (Err e) = (room : ℕ) → composed text room ≡ Err e
