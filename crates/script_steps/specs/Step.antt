-- A step of a script: what a legal step is, which step can do nothing, the six bytes of a step, and what
-- reading six bytes finds (document 01, Scripts; document 02, P1, P2 and P5). `judged` is the one definition of
-- a step that passes, for the reader, the writer and a text of steps; `names` is the part of it that says
-- which group and index a step may name. That reading and writing undo each other is proofs/Codec.
use Rattle.std.specs.Prelude.{ℕ, List, [], ◌∷◌, Bool, true, false, cond, ◌&&◌, ◌||◌, ltb, eqb, length, get_or, take, drop, Result, Ok, Err}
use Rattle.std.specs.Int.Bits.{bit_and}
use Rattle.lists.specs.Numbers.{Returned, returned}
use Rattle.chip_registers.specs.Groups.{group_at, writable_of}
use Rattle.chip_registers.specs.Indexes.{fits}
use Rattle.script_steps.specs.declared.Step.{Step}
use Rattle.script_steps.specs.declared.Step.TheVariants.{Set, Field, Colour}
use Rattle.script_steps.specs.declared.Fault.{Fault}
use Rattle.script_steps.specs.declared.Fault.TheVariants.{Unallowed, Idle}

-- document 01, Scripts: "Groups are 0 to 7; for 6 and 7 the index is 0." Document 02, P1: "Scripts gain group 8", and "group 8
-- with an index above 14h is 7"; P5: "a step whose index doesn't fit its group is refused". MSR and PALMASK have no index, so
-- that 0 alone fits.
unfoldable pub names : ℕ → ℕ → Bool
names group index = ltb group 9 && fits (group_at group) index && (ltb group 8 || ltb index 0x15)

-- "value has no bit outside mask"
abbrev pub within : ℕ → ℕ → Bool
within value mask = eqb (bit_and value mask) value

-- a step that is one of the allowed
unfoldable pub legal : Step → Bool
legal (Set group index value) = names group index
legal (Field group index value mask) = names group index && within value mask
legal (Colour entry red green blue) = true

-- document 02, P2: "whose register has no writable bit, unlisted ones included". The writable bits of the
-- register's row alone decide (chapters 8 to 16, as the crate chip_registers has them): not CR11's protection nor bit
-- 5 of the attribute index, which are state, and not a FIELD's mask
abbrev pub unwritable : ℕ → ℕ → Bool
unwritable group index = eqb (writable_of (group_at group) index) 0

-- a step that can do nothing
unfoldable pub idle : Step → Bool
idle (Set group index value) = unwritable group index
idle (Field group index value mask) = unwritable group index
idle (Colour entry red green blue) = false

-- what a step comes to: "11 .. after 7 for the same step"
unfoldable pub judged : Step → Result Step Fault
judged s = cond (legal s) (cond (idle s) (Err Idle) (Ok s)) (Err Unallowed)

-- "SET: 1, group, index, value, 0, 0. FIELD: 2, group, index, value, mask, 0. COLOUR: 3, entry, red, green, blue, 0."
unfoldable pub bytes_of : Step → List ℕ
bytes_of (Set group index value) = 1 ∷ group ∷ index ∷ value ∷ 0 ∷ 0 ∷ []
bytes_of (Field group index value mask) = 2 ∷ group ∷ index ∷ value ∷ mask ∷ 0 ∷ []
bytes_of (Colour entry red green blue) = 3 ∷ entry ∷ red ∷ green ∷ blue ∷ 0 ∷ []

-- six bytes by their kind, with the bytes that have to be 0
unfoldable pub shaped : ℕ → ℕ → ℕ → ℕ → ℕ → ℕ → Result Step Fault
shaped a b c d e f =
    cond (eqb a 1 && eqb e 0 && eqb f 0) (Ok (Set b c d))
    (cond (eqb a 2 && eqb f 0) (Ok (Field b c d e))
    (cond (eqb a 3 && eqb f 0) (Ok (Colour b c d e)) (Err Unallowed)))

-- "A step read is one of three kinds, and otherwise a refusal": bytes of another kind are none of the allowed
abbrev pub if_shaped : Result Step Fault → Result Step Fault
if_shaped (Ok s) = judged s
if_shaped (Err why) = Err Unallowed

-- bytes read as a step: six of them
unfoldable pub step_of : List ℕ → Result Step Fault
step_of l =
    cond (eqb (length l) 6)
    (if_shaped (shaped (get_or l 0 0) (get_or l 1 0) (get_or l 2 0) (get_or l 3 0) (get_or l 4 0) (get_or l 5 0))) (Err Unallowed)

-- the step that stands at a place of a list of bytes
abbrev pub read_at : List ℕ → ℕ → Result Step Fault
read_at list place = step_of (take 6 (drop place list))

abbrev pub is_good : Result Step Fault → Bool
is_good (Ok s) = true
is_good (Err why) = false

-- 7 a step is none of the allowed; document 02, P2: 11 a step can do nothing
abbrev pub fault_number : Fault → ℕ
fault_number Unallowed = 7
fault_number Idle = 11

-- the number of what was read: that of its fault, or done
abbrev pub step_read_number : Result Step Fault → ℕ
step_read_number (Ok s) = 0
step_read_number (Err why) = fault_number why

-- .. and with it the value for what is read as step j: the step number, or where the answer is the step no value
abbrev pub of_step_read : ℕ → Result Step Fault → Returned
of_step_read j (Ok s) = returned 0 0
of_step_read j (Err why) = returned (fault_number why) j

-- the table of numbers for a step: 7, then 11, else 0
abbrev pub step_table : Step → ℕ
step_table s = cond (legal s) (cond (idle s) 11 0) 7

-- .. and for bytes: 7 where they are not six, or of none of the three kinds, else that of the step
abbrev pub shape_table : Result Step Fault → ℕ
shape_table (Ok s) = step_table s
shape_table (Err why) = 7

unfoldable pub bytes_table : List ℕ → ℕ
bytes_table l =
    cond (eqb (length l) 6)
    (shape_table (shaped (get_or l 0 0) (get_or l 1 0) (get_or l 2 0) (get_or l 3 0) (get_or l 4 0) (get_or l 5 0))) 7
