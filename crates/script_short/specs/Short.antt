-- A script file translated into a shorter list: document 02, P8. It is the plain list (`commands_to` of crate `script_commands`)
-- without those writes to index ports that send what the last write to the same port sent. The rule is said of the plain list, so
-- a write that is itself left out counts as sent. Numbers and the room of 32 bytes a step are those of the plain translation.
-- Laws of the list are proofs/ShortLaws; that it does what the plain list does is crate `chip_short`'s.
use Rattle.std.specs.Prelude.{ℕ, ◌+◌, Bool, false, cond, ◌&&◌, ◌||◌, List, [], ◌∷◌, eqb, length, Result}
use Rattle.script.specs.File.{step_count, checked}
use Rattle.script.specs.Numbers.{checks_table}
use Rattle.lists.specs.Numbers.{Returned, returned}
use Rattle.script_commands.specs.Translation.{commands_to, if_room, if_accepted, put_by, room_table}
use Rattle.script_commands.specs.declared.Command.{Command}
use Rattle.script_commands.specs.declared.Command.TheVariants.{Out, In, Merge, OutAcc}
use Rattle.script.specs.declared.Refusal.{Refusal}

-- "a group's index port": those of CR, SR, GR, XR, FR and MR in document 01's table. "Writes to 3C8h and 3C0h always stay": they
-- are not among these
abbrev pub is_index_port : ℕ → Bool
is_index_port p =
    eqb p 0x3B4 || eqb p 0x3D4 || eqb p 0x3C4 || eqb p 0x3CE || eqb p 0x3D6 || eqb p 0x3D0 || eqb p 0x3D2

-- whether the last write to port p sent i, of commands with the last of them first. "Each CR index port counts for itself". What
-- the accumulator sends does not stand in a list
unfoldable pub last_sent : ℕ → ℕ → List Command → Bool
last_sent p i [] = false
last_sent p i (Out q v ∷ before) = cond (eqb p q) (eqb i v) (last_sent p i before)
last_sent p i (In q ∷ before) = last_sent p i before
last_sent p i (Merge keep set ∷ before) = last_sent p i before
last_sent p i (OutAcc q ∷ before) = cond (eqb p q) false (last_sent p i before)

-- "a write to a group's index port whenever the last write to that port earlier in the plain list sent the same index"
abbrev pub left_out : List Command → Command → Bool
left_out before (Out p i) = is_index_port p && last_sent p i before
left_out before (In p) = false
left_out before (Merge keep set) = false
left_out before (OutAcc p) = false

-- what is left of commands behind others, of which the last comes first
unfoldable pub shortened : List Command → List Command → List Command
shortened before [] = []
shortened before (c ∷ cs) = cond (left_out before c) (shortened (c ∷ before) cs) (c ∷ shortened (c ∷ before) cs)

-- how many are left out
unfoldable pub omitted : List Command → List Command → ℕ
omitted before [] = 0
omitted before (c ∷ cs) = cond (left_out before c) 1 0 + omitted (c ∷ before) cs

-- the short commands of the first n steps of a file, and how many they are: where those of step n begin
abbrev pub short_to : List ℕ → ℕ → List Command
short_to f n = shortened [] (commands_to f n)

abbrev pub short_begins : List ℕ → ℕ → ℕ
short_begins f n = length (short_to f n)

-- the answer, what the lent output then holds, and the table of numbers: 8, 6, 7 or 11, 9
unfoldable pub short_translated : List ℕ → ℕ → Result ℕ Refusal
short_translated f room = if_room (checked f) (short_to f) room

abbrev pub short_left_by : Result ℕ Refusal → List ℕ → List ℕ → List ℕ
short_left_by t f out = put_by t (short_to f (step_count f)) out

abbrev pub short_table : List ℕ → ℕ → Returned
short_table f room = room_table f (short_to f) room

-- where the short commands of step n of a file begin, and its table of numbers: 8, 6, 7 or 11
unfoldable pub short_begun : List ℕ → ℕ → Result ℕ Refusal
short_begun f n = if_accepted (checked f) (short_begins f n)

abbrev pub short_begun_table : List ℕ → ℕ → Returned
short_begun_table f n = checks_table f (returned 0 (short_begins f n))
