-- Lines of input, each answered by a text. Once the end was asked for, every line is passed over. A line that begins with
-- `#` is passed over. Any other of more than 255 bytes is not known. A line feed has the line answered, any other byte goes
-- behind the line, where there is room for it. Input is fed while any reply has room behind the text. That input in parts is
-- the same as in one is proofs/PartLaws; how the line and the text grow, proofs/LineLaws.
use Rattle.std.specs.Prelude.{ℕ, ◌+◌, Bool, cond, List, [], ◌∷◌, ltb, leb, eqb, length, take, drop, set, get_or}
use Rattle.chip.specs.State.{Named, named}
use Rattle.text.specs.Adding.{with_added_in, behind_in}
use Rattle.text_tokens.specs.Tokens.{tokens_of}
use Rattle.workbench_requests.specs.Request.{request_of}
use Rattle.workbench_requests.specs.declared.Request.{Request}
use Rattle.workbench_requests.specs.declared.Request.TheVariants.{Pass, Unknown}
use Rattle.workbench_replies.specs.Reply.{reply_text}
use Rattle.workbench_input.specs.Acts.{Bench, Acted, acted, store_after}
use Rattle.workbench_input.specs.View.{view_bench}
use Rattle.workbench_input.specs.declared.lines.Answered.{Answered as KeptAnswered}
use Rattle.workbench_input.specs.declared.lines.Input.{Input}
use Rattle.workbench_input.specs.declared.lines.Fed.{Fed}

-- ---- one line

-- a line on a bench where the end was asked for or not; `#` is 23h
unfoldable pub request_in : Bool → List ℕ → Request
request_in ended line =
    cond ended Pass (cond (eqb (get_or line 0 0) 0x23) Pass (cond (ltb 255 (length line)) Unknown (request_of (tokens_of line))))

abbrev pub line_acted : Bench → List ℕ → List ℕ → Acted
line_acted b store line = acted b store (request_in b.ended line)

abbrev pub store_left : Bench → List ℕ → List ℕ → List ℕ
store_left b store line = store_after b store (request_in b.ended line)

-- what has a name afterwards: all registers are shown as the request leaves them
abbrev pub named_in : Acted → Named
named_in a = named a.bench.chip

-- the reply as a text; and the reply put into an output, where it has room: where the next byte goes, and what it then holds
abbrev pub text_of : Acted → List ℕ
text_of a = reply_text (named_in a) a.reply

-- the bench after a line, and where the next reply goes
pub record Answered : Type 0 where
  pub bench : Bench
  pub next : ℕ

abbrev pub answered_in : List ℕ → ℕ → Acted → Answered
answered_in out at a = record { bench = a.bench; next = behind_in 8192 out at (text_of a) }

abbrev pub out_left : List ℕ → ℕ → Acted → List ℕ
out_left out at a = with_added_in 8192 out at (text_of a)

-- ---- bytes as they come

-- how far the input has come, with the lent bytes: the bench, the store, the bytes lent for a line, of which the first `size`
-- are the line so far, and the bytes lent for replies, of which the first `next` are the text so far
pub record LentInput : Type 0 where
  pub bench : Bench
  pub store : List ℕ
  pub line : List ℕ
  pub size : ℕ
  pub out : List ℕ
  pub next : ℕ

abbrev pub line_so_far : LentInput → List ℕ
line_so_far s = take s.size s.line

abbrev pub text_so_far : LentInput → List ℕ
text_so_far s = take s.next s.out

abbrev pub with_line : LentInput → List ℕ → ℕ → LentInput
with_line s line size = record { bench = s.bench; store = s.store; line = line; size = size; out = s.out; next = s.next }

-- a byte goes behind the line so far, where there is room for it
unfoldable pub byte_kept : LentInput → ℕ → LentInput
byte_kept s c = cond (ltb s.size (length s.line)) (with_line s (set s.line s.size c) (s.size + 1)) s

-- the line is answered, the reply goes behind the text so far, and the next line begins
unfoldable pub line_done : LentInput → LentInput
line_done s = let a = line_acted s.bench s.store (line_so_far s) in record {
  bench = a.bench;
  store = store_left s.bench s.store (line_so_far s);
  line = s.line;
  size = 0;
  out = out_left s.out s.next a;
  next = (answered_in s.out s.next a).next;
}

-- a byte is taken
unfoldable pub taken : LentInput → ℕ → LentInput
taken s c = cond (eqb c 0x0A) (line_done s) (byte_kept s c)

unfoldable pub taken_all : LentInput → List ℕ → LentInput
taken_all s [] = s
taken_all s (c ∷ cs) = taken_all (taken s c) cs

-- ---- bytes while there is room for a reply

-- the same, and the place of the next byte
pub record Place : Type 0 where
  pub input : LentInput
  pub from : ℕ

abbrev pub place : LentInput → ℕ → Place
place s i = record { input = s; from = i }

-- every reply finds its room: 8,192 bytes behind the text
abbrev pub has_room : LentInput → Bool
has_room s = leb (s.next + 8192) (length s.out)

unfoldable pub fed : LentInput → ℕ → List ℕ → Place
fed s i [] = place s i
fed s i (c ∷ cs) = cond (has_room s) (fed (taken s c) (i + 1) cs) (place s i)

-- ---- the code's structs beside the lent bytes, as they are shown

abbrev pub view_answered : KeptAnswered → Answered
view_answered a = record { bench = view_bench a.bench; next = a.next }

abbrev pub lent_input_at : Input → List ℕ → List ℕ → List ℕ → LentInput
lent_input_at i store line out = record { bench = view_bench i.bench; store = store; line = line; size = i.size; out = out; next = i.next }

abbrev pub place_at : Fed → List ℕ → List ℕ → List ℕ → Place
place_at f store line out = place (lent_input_at f.input store line out) f.from

-- input from a place on
abbrev pub fed_from : Input → List ℕ → List ℕ → List ℕ → ℕ → List ℕ → Place
fed_from i store line out from bytes = fed (lent_input_at i store line out) from (drop from bytes)
