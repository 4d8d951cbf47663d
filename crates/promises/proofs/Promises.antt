-- Every promise of the project, each with its statement as its type, proved by the theorem that it cites. In the order of
-- document 01's demands: numbers and refusals (1), the chip, memory and the round trips (2), scripts (3); then what each
-- request of document 02 adds. A statement is written out over the definitions of the crates' specs/, which is what has to be
-- believed. The contracts of the functions are equations with the same definitions; they are checked where the functions are.
-- Assumes nothing.
use mathlib.Core.Path.{◌≡◌, ◌∙◌}
use mathlib.Core.Bool.{Bool, true, false, cond}
use mathlib.Core.List.{List, [], ◌++◌}
use mathlib.Core.Logic.{◌↔◌}
use Prim.Native.Nat.{ℕ, ◌+◌, ◌*◌, ◌/◌, ◌%◌, ◌≤◌, ◌<◌}
use lib.ListN.{length, get_or}
use Rattle.lists.specs.Bits.{bit, is_set}
use Rattle.lists.specs.Numbers.{returned}
use Rattle.lists.specs.Put.{put}
use Rattle.lists.specs.Tab.{Bytes}
use Rattle.chip_registers.specs.Groups.{group_at, is_indexed, row_of, writable_of}
use Rattle.chip_registers.specs.Row.{At, Nowhere, slot_of, row_size}
use Rattle.chip_registers.specs.Indexes.{index_kept, fits}
use Rattle.chip_registers.specs.WriteRule.{written}
use Rattle.chip_registers.specs.declared.Group.{Group}
use Rattle.chip_registers.specs.declared.Group.TheVariants.{Ar, Palmask}
use Rattle.chip_registers.proofs.PrintedRows as printed-rows
use Rattle.chip_registers.proofs.PrintedRows.{as_printed, printed}
use Rattle.chip_registers.proofs.RowLaws as row_laws
use Rattle.chip_registers.proofs.RowLaws.{group_on, index_on}
use Rattle.chip_registers.proofs.Stretches.{has}
use Rattle.chip_registers.proofs.WriteLaws as write-laws
use Rattle.chip_ports.specs.Ports.{target}
use Rattle.chip_ports.specs.declared.Target.TheVariants.{Index, Data, Attribute}
use Rattle.chip_ports.proofs.PortLaws as port-laws
use Rattle.chip_ports.proofs.PortLaws.{listed_ports, lines_from, documented}
use Rattle.chip.specs.State.{Chip, Named, named, join, index_of, with_index, with_picture, with_turn}
use Rattle.chip.specs.Names.{register, read_byte, received, writable_at, ports_open, picks3_dx, eight_bit}
use Rattle.chip.specs.Palette.{entry, rgb, shown}
use Rattle.chip.specs.Access.{answer_number, access_table, port_written, port_read, told}
use Rattle.chip.specs.Attribute.{attribute_aimed}
use Rattle.chip.specs.Differ.{same_stored}
use Rattle.chip.specs.Reset.{reset_byte}
use Rattle.chip.specs.Reach.{Reach}
use Rattle.chip.specs.View.{view as shown_by, Shows}
use Rattle.chip.specs.declared.Chip.{Chip as Kept}
use Rattle.chip.proofs.NumberLaws as number-laws
use Rattle.chip.proofs.NameLaws as name-laws
use Rattle.chip.proofs.NameLaws.{Has, Different}
use Rattle.chip.proofs.ReachLaws as reach-laws
use Rattle.chip.proofs.ShownLaws as shown-laws
use Rattle.chip.proofs.IndexLaws as index-laws
use Rattle.chip.proofs.AttributeLaws as attribute-laws
use Rattle.chip.proofs.ViewLaws as view_laws
use Rattle.chip.proofs.DifferLaws as differ-laws
use Rattle.chip.proofs.DifferLaws.{Same, tells}
use Rattle.memory.specs.Memory.{length_allowed, byte_number}
use Rattle.memory.proofs.Laws as memory-laws
use Rattle.blit_raster.specs.Raster.{raster}
use Rattle.blit_raster.specs.AppendixE.{printed as printedCodes, value, inputs, zeros}
use Rattle.blit_raster.proofs.AppendixELaws as appendix-laws
use Rattle.blit_frame.specs.Frame.{in_range, judged_number}
use Rattle.blit_frame.specs.declared.Transfer.{Transfer}
use Rattle.blit_frame.proofs.Numbers as frame-laws
use Rattle.blit_frame.proofs.Numbers.{UsedOutside}
use Rattle.blit.specs.Transfer.{transferred}
use Rattle.blit.proofs.Laws as blit-laws
use Rattle.script_steps.specs.Step.{legal, idle, judged}
use Rattle.script_steps.specs.declared.Step.{Step}
use Rattle.script_steps.specs.declared.Step.TheVariants.{Set, Field}
use Rattle.script_steps.specs.declared.Fault.TheVariants.{Unallowed, Idle}
use Rattle.script_steps.proofs.Lawful as lawful
use Rattle.script.specs.File.{blocks, step_count, checked}
use Rattle.script.specs.Numbers.{of_checked, checked_table}
use Rattle.script.specs.Reader.{next_of}
use Rattle.script.proofs.Checking as checking
use Rattle.script_writer.specs.Write.{file_of, written as listWritten, left_by as listLeftBy, of_written, written_table, steps_of}
use Rattle.script_writer.proofs.RoundTrip as round_trip
use Rattle.script_writer.proofs.Writing as writing
use Rattle.script_commands.specs.Command.{bytes_of_all}
use Rattle.script_commands.specs.Translation.{steps_to, commands_to, begins, translated, of_translated, translated_table}
use Rattle.script_commands.proofs.Translating as translating
use Rattle.script_commands.proofs.Counted as counted
use Rattle.script_commands.proofs.Counted.{sixes, places_to}
use Rattle.chip_run.specs.Run.{ran, did, altering, carry, Still, of_ending, least, run_table, tally}
use Rattle.chip_run.specs.declared.Ending.{Ending}
use Rattle.chip_run.proofs.RunLaws as run-laws
use Rattle.chip_run.proofs.RunNumbers as run-number-laws
use Rattle.chip_run.proofs.ChangingLaws as changing-laws
use Rattle.script_commands.specs.declared.Command.{Command}
use Rattle.script_commands.specs.declared.Command.TheVariants.{Out}
use Rattle.script_short.specs.Short.{is_index_port, left_out, omitted, short_to, short_begins, short_translated, short_table}
use Rattle.script_short.proofs.ShortLaws as short-laws
use Rattle.chip_play.specs.ByName.{applied, applied_all, steps_changing}
use Rattle.chip_play.specs.Played.{changing_of}
use Rattle.chip_play.specs.Matching.{Act, Said, gave, KeptGave}
use Rattle.chip_play.proofs.Matching as matching
use Rattle.chip_play.proofs.Demand3 as scripts
use Rattle.chip_play.proofs.StepsChanging as step_Counts
use Rattle.chip_play.proofs.Scripts as script-laws
use Rattle.chip_play.proofs.Scripts.{AllPass}
use Rattle.chip_play.proofs.Idle as idle-laws
use Rattle.chip.proofs.NameLaws.{Bytes as NamedBytes}
use Rattle.chip_short.proofs.Demand3 as short-scripts
use Rattle.chip_short.proofs.IndexPorts as index-ports
use Rattle.lent_chip.specs.Layout.{whole, laid, view, spare}
use Rattle.lent_chip.specs.Accesses.{Left}
use Rattle.lent_chip.proofs.Whole as whole-laws
use Rattle.lent_run.specs.Run.{run_answer}
use Rattle.lent_play.proofs.Demand3 as lent-scripts
use Rattle.text_from_script.specs.Show.{text_of}
use Rattle.text_to_script.specs.Compose.{composed, left_by as textLeftBy}
use Rattle.text_to_script.proofs.SameFile as same-file-laws
use Rattle.cases.specs.Cases.{all_hold}
use Rattle.cases.specs.Starred.{starred}
use Rattle.cases.proofs.Holding as starred-laws
use Rattle.cases_requests.specs.Asked.{asked}
use Rattle.std.specs.Prelude.{Result, Option, Ok, Err, None}
use Rattle.lent_chip.specs.declared.access.StateError.{StateError}
use Rattle.chip_run.specs.declared.Tally.{Tally}
use Rattle.cases_requests.proofs.Holding as asked-laws

-- ==== 1. Everything is accepted: each number exactly when, and a refusal changes nothing

-- A port access gives 2 where ports are closed, else 1 where the port, in this direction, is not in document 01's list, else 0.
pub write_numbers : (c : Chip) (p v : ℕ) → answer_number (port_written c p v).answer ≡ cond (ports_open (named c)) (cond (has p (listed_ports true)) 0 1) 2
write_numbers c p v = number-laws.write_number c p v ∙ number-laws.number-listed true c p

pub read-numbers : (c : Chip) (p : ℕ) → answer_number (port_read c p).answer ≡ cond (ports_open (named c)) (cond (has p (listed_ports false)) 0 1) 2
read-numbers c p = number-laws.read_number c p ∙ number-laws.number-listed false c p

-- A refused access hands back the whole state, and a refused read FFh.
pub refused_write : (c : Chip) (p v : ℕ) → (answer_number (port_written c p v).answer ≡ 0 → ⊥) → (port_written c p v).chip ≡ c
refused_write = number-laws.write_refused

pub refused-read : (c : Chip) (p : ℕ) → (answer_number (port_read c p).answer ≡ 0 → ⊥) → ((port_read c p).value ≡ 0xFF) × ((port_read c p).chip ≡ c)
refused-read = number-laws.read-refused

-- A byte of memory: 3 exactly when the memory's length is not allowed, 4 exactly when it is and the place lies outside.
pub byte-numbers : (n at : ℕ) → ((byte_number n at ≡ 3) ↔ (length_allowed n ≡ false)) × ((byte_number n at ≡ 4) ↔ ((length_allowed n ≡ true) × (n ≤ at)))
byte-numbers n at = (memory-laws.byte_3_exactly n at, memory-laws.byte_4_exactly n at)

-- A transfer: 3 for the length, else 5 for a number out of its range, else 4 for a byte used that lies outside memory, else 0.
pub transfer_numbers : (n : ℕ) (t : Transfer)
    → ((judged_number n t ≡ 3) ↔ (length_allowed n ≡ false))
    × ((judged_number n t ≡ 5) ↔ ((length_allowed n ≡ true) × (in_range t ≡ false)))
    × ((judged_number n t ≡ 4) ↔ ((length_allowed n ≡ true) × (in_range t ≡ true) × UsedOutside n t))
transfer_numbers n t = (frame-laws.number_3_exactly n t, frame-laws.number_5_exactly n t, frame-laws.number_4_exactly n t)

pub refused_transfer : (m : List ℕ) (t : Transfer) → (judged_number (length m) t ≡ 0 → ⊥) → transferred m t ≡ m
refused_transfer = blit-laws.refused-numbered

-- A script file: document 01's table, 8, 6, 7 or 11, else the number of its steps.
pub file_numbers : (f : List ℕ) → of_checked (checked f) ≡ checked_table f
file_numbers = checking.checked-number

-- A list of steps written, and a file translated: 8, 6 of a file, 7 or 11, 9, else what there is.
pub list_numbers : (l : List ℕ) (room : ℕ) → of_written (listWritten l room) ≡ written_table l room
list_numbers = writing.written-number

pub translation_numbers : (f : List ℕ) (room : ℕ) → of_translated (translated f room) ≡ translated_table f room
translation_numbers = translating.translated-number

-- A run: 10 for the length, before any runs; else the number of the command behind those carried out, 10 for no known form,
-- else that of its port access, 2 and then 1; else 0.
pub run_numbers : (c : Chip) (bytes : List ℕ) (limit : ℕ) → of_ending (ran c bytes limit).ending ≡ run_table c bytes limit
run_numbers = run-number-laws.run_number

pub access_numbers : (write : Bool) (c : Chip) (p : ℕ) → access_table write c p ≡ cond (ports_open (named c)) (cond (has p (listed_ports write)) 0 1) 2
access_numbers = number-laws.number-listed

-- It counts the least of the limit, the commands there are and those before the first refused one.
pub run_count_lem : (c : Chip) (bytes : List ℕ) (limit : ℕ) → (ran c bytes limit).count ≡ least c bytes limit
run_count_lem = run-laws.count_least

-- What a call leaves of lent bytes is decided, byte for byte.
pub lent_decided : (l : List ℕ) (c : Chip) (bits : ℕ) (m n : List ℕ) → Left l c bits m → Left l c bits n → m ≡ n
lent_decided = whole-laws.left_decides

-- ==== 2. It is the chip

-- The write rule, over any mask: a writable bit becomes the byte's, any other stays.
pub write_rule : (k old new mask : ℕ) → k < 8 → mask < 0x100 → bit k (written old new mask) ≡ cond (is_set k mask) (bit k new) (bit k old)
write_rule = write-laws.bit-written

-- A register that receives a byte: its bits by that rule, and no other register changes.
pub received_bits : (k : ℕ) (g : Group) (n : Named) (i v : ℕ) → k < 8 → Has g n i
    → bit k (register g (received g n i v) i) ≡ cond (is_set k (writable_at g n i)) (bit k v) (bit k (register g n i))
received_bits = name-laws.received-bit

pub received_elsewhere : (g h : Group) (n : Named) (i v k : ℕ) → Different g i h k → register h (received g n i v) k ≡ register h n k
received_elsewhere = name-laws.received_other

-- In every state that accesses reach from a reset, bits that are not writable keep the reset's value; in every state that is
-- kept, reached or not, an unlisted index reads 00h, and so it does on lent bytes.
pub bits_fixed : {first second : ℕ} {c : Chip} → Reach first second c → (g : Group) (i k : ℕ) → i < 0x100 → k < 8 → bit k (writable_of g i) ≡ 0
    → bit k (register g (named c) i) ≡ bit k (reset_byte first second g i)
bits_fixed = reach-laws.fixed_bits

pub unlisted_00 : (k : Kept) (g : Group) (i : ℕ) → i < 0x100 → row_of g i ≡ None → register g (named (shown_by k)) i ≡ 0x00
unlisted_00 k g i h none = view_laws.unlisted_shows_00 g k i h none

pub unlisted_00_on_lent_bytes : (l : List ℕ) (g : Group) (i : ℕ) → i < 0x100 → row_of g i ≡ None → register g (named (view l)) i ≡ 0x00
unfolding view
unlisted_00_on_lent_bytes l g i h none = view_laws.unlisted_shows_00 g (laid l) i h none

-- Document 01's rows, and its table of ports with document 02's, P1.
pub rows-printed : as_printed printed ≡ true
rows-printed = printed-rows.printed-rows

pub ports-printed : (picks3_dx : Bool) → lines_from picks3_dx 0x3B0 0x30 ≡ documented picks3_dx
ports-printed = port-laws.ports-documented

-- A pixel shows the entry at the pixel AND PALMASK, in eight-bit mode as stored, in six-bit mode four times each component
-- modulo 64.
pub pixel_shown : (n : Named) (p e : ℕ) → p < 0x100 → e < 0x100 → ((k : ℕ) → k < 8 → bit k e ≡ bit k p * bit k (register Palmask n 0x00))
    → (eight_bit n ≡ true → shown n p ≡ entry n e)
    × (eight_bit n ≡ false → shown n p ≡ rgb (4 * ((entry n e).red % 64)) (4 * ((entry n e).green % 64)) (4 * ((entry n e).blue % 64)))
pixel_shown n p e hp he both = (shown-laws.shown-eight n p e hp he both, shown-laws.shown-six n p e hp he both)

-- A script written into blocks reads back as the same steps, and accepted blocks write back to the same bytes.
pub written-reads_back : (s : List ℕ) (room n : ℕ) → listWritten s room ≡ Ok n
    → (checked (file_of s) ≡ Ok (length s / 6)) × (steps_of (file_of s) (length s / 6) ≡ s)
    × ((j : ℕ) → length s / 6 ≤ j → next_of (file_of s) j ≡ Ok None)
written-reads_back s room n e = let r = round_trip.written_read s room n e in (r.accepted, r.steps, r.end)

pub read_writes_back : (f : List ℕ) (m : ℕ) → Bytes f → checked f ≡ Ok m → (out : List ℕ) → length f ≤ length out
    → (listWritten (steps_of f m) (length out) ≡ Ok (blocks f)) × (listLeftBy (Ok (blocks f)) (steps_of f m) out ≡ put out 0 f)
read_writes_back f m bytes acc out h = let r = round_trip.read-written f m bytes acc out h in (r.answer, r.left)

-- The text that is shown of an accepted file composes to the same file.
pub shown_composes_back : (f : List ℕ) (m : ℕ) → Bytes f → checked f ≡ Ok m → (out : List ℕ) → length f ≤ length out
    → (composed (text_of f) (length out) ≡ Ok (blocks f)) × (textLeftBy (Ok (blocks f)) (text_of f) out ≡ put out 0 f)
shown_composes_back f m bytes acc out h = let r = same-file-laws.same_file f m bytes acc out h in (r.answer, r.left)

-- ==== 3. A script does what it says, from any state that accesses reach from a reset with ports open

-- After the commands of the first n steps of an accepted file: all were carried out and none refused, everything that has a
-- name is what these steps say by name, and bit 5 of the attribute index is what it was.
pub demand_3 : (file : List ℕ) (m : ℕ) → checked file ≡ Ok m → (first second : ℕ) → is_set 1 first ≡ true → (c : Chip) → Reach first second c
    → (n : ℕ) → n ≤ m
    → ((ran c (bytes_of_all (commands_to file m)) (begins file n)).count ≡ begins file n)
    × (of_ending (ran c (bytes_of_all (commands_to file m)) (begins file n)).ending ≡ returned 0 0)
    × (named (ran c (bytes_of_all (commands_to file m)) (begins file n)).chip ≡ applied_all (steps_to file n) (named c))
    × ((ran c (bytes_of_all (commands_to file m)) (begins file n)).chip.picture ≡ c.picture)
demand_3 file m acc first second strapped c reach n h =
    let r = (scripts.demand_3).holds file m acc first second strapped c reach n h in
    (r.count, r.unrefused, r.as_named, r.picture)

-- It is not had by a reader that hands out nothing, nor by a check that accepts nothing: the first n steps of an accepted file
-- are n, their bytes are those at the file's places, and every list of 1 to 1,008 steps that pass is the list of an accepted
-- file.
pub demand_3-counted : (f : List ℕ) (m : ℕ) → checked f ≡ Ok m → (n : ℕ) → n ≤ m
    → (length (steps_to f n) ≡ n) × (sixes (steps_to f n) ≡ places_to f n)
demand_3-counted f m acc n h = (counted.steps_counted f m acc n h, counted.steps_stand f m acc n h)

pub demand_3_every_script : (ss : List Step) → 1 ≤ length ss → length ss ≤ 1008 → AllPass ss
    → (file : List ℕ) × (checked file ≡ Ok (length ss)) × (steps_to file (length ss) ≡ ss)
demand_3_every_script ss some few pass = let r = script-laws.script_there ss some few pass in (r.file, r.accepted, r.steps)

-- The same on lent bytes, after each step, of any bytes that hold a chip whose ports are open: what `run` of `lent_run`
-- answers, and leaves.
pub demand_3_on_lent_bytes : (file : List ℕ) (m : ℕ) → checked file ≡ Ok m → (l : List ℕ) → length l ≡ whole → ports_open (named (view l)) ≡ true
    → (n : ℕ) → n ≤ m → (r : Result Tally StateError) (after : List ℕ) → r ≡ run_answer l (bytes_of_all (commands_to file m)) (begins file n)
    → Left l (ran (view l) (bytes_of_all (commands_to file m)) (begins file n)).chip (spare l) after
    → ((e : Ending) × (r ≡ Ok (tally (begins file n) (steps_changing (steps_to file n) (named (view l))) e)) × (of_ending e ≡ returned 0 0))
    × (named (view after) ≡ applied_all (steps_to file n) (named (view l))) × ((view after).picture ≡ (view l).picture)
demand_3_on_lent_bytes file m acc l size open-ports n h r after answer left =
    let a = (lent-scripts.demand_3_in).holds file m acc l size open-ports n h r after answer left in
    ((a.ending, a.answer, a.unrefused), a.as_named, a.picture)

-- ==== Document 01's set-ups, and those of requests

pub starred_cases : all_hold starred ≡ true
starred_cases = starred-laws.starred_hold

pub asked_cases : all_hold asked ≡ true
asked_cases = asked-laws.requests_hold

-- ==== Document 02's requests

-- P1. An index and then a byte at 3C0h, from the index's turn, is a write by name under the picture that the index brings; a
-- read of input status 1 returns the turn.
pub p1_attribute_by_port : (c : Chip) → ports_open (named c) ≡ true → (v b : ℕ) → c.indexes.turn ≡ false
    → port_written (port_written c 0x3C0 v).chip 0x3C0 b
    ≡ told Ar (v % 32) (attribute_aimed c v) (join (received Ar (with_picture (named c) (is_set 5 v)) (v % 32) b) (with_turn (with_index Ar c.indexes v) false) c.loading)
p1_attribute_by_port = attribute-laws.attribute_by_port

-- P2. A step is refused with 7 where it is not legal, else with 11 where its register has no writable bit, else it passes; a
-- step refused with 11 would have changed no register.
pub p2_first_7 : (s : Step) → legal s ≡ false → judged s ≡ Err Unallowed
p2_first_7 = lawful.unallowed_first

pub p2_then_11 : (s : Step) → legal s ≡ true → idle s ≡ true → judged s ≡ Err Idle
p2_then_11 = lawful.idle-second

pub p2_changes_nothing : (s : Step) (n : Named) → NamedBytes n → idle s ≡ true → (h : Group) (j : ℕ) → register h (applied s n) j ≡ register h n j
p2_changes_nothing = idle-laws.idle_keeps

-- P3. Each printed row of appendix E is the raster byte of its code, for all bytes.
pub p3_appendix_e : (j p s d : ℕ) → j < length printedCodes → p < 256 → s < 256 → d < 256 → value 255 (inputs (λ k. 0) p s d) (get_or printedCodes j (0, zeros)).1 ≡ raster (get_or printedCodes j (0, zeros)).0 p s d
p3_appendix_e = appendix-laws.appendix_e

-- P5. At a port a long index is the same as its short one; in a step an index that does not fit its group is refused with 7.
pub p5_folds_at_the_port : (c : Chip) (p v : ℕ) (g : Group) → ports_open (named c) ≡ true → target (picks3_dx (named c)) true p ≡ Index g
    → port_written c p v ≡ port_written c p (index_kept g v)
p5_folds_at_the_port = index-laws.index_folds

pub p5_misfit_is_7 : (g i : ℕ) → fits (group_at g) i ≡ false → ((v : ℕ) → judged (Set g i v) ≡ Err Unallowed) × ((v m : ℕ) → judged (Field g i v m) ≡ Err Unallowed)
p5_misfit_is_7 g i misfit = (lawful.misfit_set g i misfit, lawful.misfit_field g i misfit)

-- P6. A data write hands back the register's byte as it reads before it and after it; a refused write, and one that is of no
-- register's data, FFh twice.
pub p6_register_told : (c : Chip) (p v : ℕ) → ports_open (named c) ≡ true → (g : Group) → target (picks3_dx (named c)) true p ≡ Data g
    → ((port_written c p v).before ≡ read_byte g (named c) (index_of g c.indexes))
    × ((port_written c p v).after ≡ read_byte g (named (port_written c p v).chip) (index_of g c.indexes))
p6_register_told = differ-laws.register-told

pub p6_attribute_told : (c : Chip) (p v : ℕ) → ports_open (named c) ≡ true → target (picks3_dx (named c)) true p ≡ Attribute → c.indexes.turn ≡ true
    → ((port_written c p v).before ≡ read_byte Ar (named c) (index_of Ar c.indexes))
    × ((port_written c p v).after ≡ read_byte Ar (named (port_written c p v).chip) (index_of Ar c.indexes))
p6_attribute_told = differ-laws.attribute_told

pub p6_elsewhere_ff : (c : Chip) (p v : ℕ) → ports_open (named c) ≡ true → tells (target (picks3_dx (named c)) true p) c ≡ false
    → ((port_written c p v).before ≡ 0xFF) × ((port_written c p v).after ≡ 0xFF)
p6_elsewhere_ff = differ-laws.elsewhere_untold

pub p6_refused_ff : (c : Chip) (p v : ℕ) → (answer_number (port_written c p v).answer ≡ 0 → ⊥) → ((port_written c p v).before ≡ 0xFF) × ((port_written c p v).after ≡ 0xFF)
p6_refused_ff = differ-laws.refused-untold

-- "Changed a register or a colour": some name has another byte, or some entry another colour. A run counts the commands after
-- which that is so: at most those that it carried out, of two lists one after the other the sum, and 0 exactly where no command
-- moved anything. Of a script it is the number of its steps that change something by name, from every state with open ports.
pub p6_same : (a b : Named) → (same_stored a b ≡ true) ↔ Same a b
p6_same a b = (differ-laws.stored_same a b, differ-laws.same-stored a b)

pub p6_at_most : (c : Chip) (bytes : List ℕ) (limit : ℕ) → (ran c bytes limit).changing ≤ (ran c bytes limit).count
p6_at_most = changing-laws.changing_most

pub p6_sum : (xs ys : List (Option Command)) (c d : Chip) (a b : ℕ) → carry c a xs ≡ did (Ok tt) b d → altering c a (xs ++ ys) ≡ altering c a xs + altering d b ys
p6_sum = changing-laws.altering-append

pub p6_none : (rs : List (Option Command)) (c : Chip) (acc : ℕ) → (altering c acc rs ≡ 0) ↔ Still c acc rs
p6_none = changing-laws.changing-none

pub p6_steps : (f : List ℕ) (m : ℕ) → checked f ≡ Ok m → (c : Chip) → ports_open (named c) ≡ true
    → changing_of c f ≡ steps_changing (steps_to f (step_count f)) (named c)
p6_steps = step_Counts.changing_script

-- P7. A kept state, the code's struct with its row of 275 bytes, matches the state that it shows. Whatever is asked, reset, port
-- write and read, run and script: from matching states the same is said, and matching states are left; what the contract says
-- decides what is kept, and asks for nothing that is not there; and every state that accesses reach in the arrangement of tables
-- is matched.
pub p7_matching : (k : Kept) (c : Chip) → Shows k c → (a : Act) (s : Said) (m : Kept) → KeptGave k a s m → (s ≡ (gave a c).said) × Shows m (gave a c).chip
p7_matching = (matching.smaller_state).act

pub p7_decided : (k : Kept) (a : Act) (s t : Said) (m n : Kept) → KeptGave k a s m → KeptGave k a t n → (s ≡ t) × (m ≡ n)
p7_decided = (matching.smaller_state).decided

pub p7_there : (k : Kept) (a : Act) → (s : Said) × (m : Kept) × KeptGave k a s m
p7_there = (matching.smaller_state).there

pub p7_reached : (first second : ℕ) (c : Chip) → Reach first second c → (k : Kept) × Shows k c
p7_reached = (matching.smaller_state).reached

-- Two registers never stand at one place, every place of the row has its register, and there is a place exactly where an index is
-- listed.
pub p7_one_place : (g h : Group) (i j k : ℕ) → i < 0x100 → j < 0x100 → slot_of g i ≡ At k → slot_of h j ≡ At k → (g ≡ h) × (i ≡ j)
p7_one_place = row_laws.slot-one

pub p7_no_place_left : (k : ℕ) → k < row_size → slot_of (group_on k) (index_on k) ≡ At k
p7_no_place_left = row_laws.each-slot

pub p7_listed_only : (g : Group) (i : ℕ) → i < 0x100 → is_indexed g ≡ true → (slot_of g i ≡ Nowhere) ↔ (row_of g i ≡ None)
p7_listed_only g i h x = (row_laws.nowhere_unlisted g i h x, row_laws.unlisted_nowhere g i h)

-- P8. The short list. Its numbers are those of the table, 8, 6, 7 or 11, 9 at 32 bytes a step; the ports of its rule are exactly
-- those at which a write leads to a group's index, with one CR pair picked or the other, and writes to 3C8h and 3C0h always stay;
-- its length is the plain length less the writes left out.
pub p8_numbers : (f : List ℕ) (room : ℕ) → of_translated (short_translated f room) ≡ short_table f room
unfolding short_translated
p8_numbers f room = translating.room-number f (short_to f) room

pub p8_index_ports : (b : Bool) (p : ℕ) (g : Group) → target b true p ≡ Index g → is_index_port p ≡ true
p8_index_ports = index-ports.leads_index_port

pub p8_no_other_ports : (p : ℕ) → is_index_port p ≡ true → (b : Bool) × (g : Group) × (target b true p ≡ Index g)
p8_no_other_ports = index-ports.index_port_leads

pub p8_stays : (before : List Command) (v : ℕ) → (left_out before (Out 0x3C8 v) ≡ false) × (left_out before (Out 0x3C0 v) ≡ false)
p8_stays before v = (short-laws.palette-stays before v, short-laws.attribute_stays before v)

pub p8_length : (f : List ℕ) (n : ℕ) → short_begins f n + omitted [] (commands_to f n) ≡ begins f n
p8_length f n = short-laws.short_length [] (commands_to f n)

-- After the short commands of the first n steps of an accepted file, from any state that accesses reach from a reset with ports
-- open: all were carried out and none refused, everything that has a name is what these steps say, bit 5 of the attribute index
-- is what it was; and the whole state is the one that the plain commands of these steps leave, with as many changes on the way.
pub p8_demand_3 : (file : List ℕ) (m : ℕ) → checked file ≡ Ok m → (first second : ℕ) → is_set 1 first ≡ true → (c : Chip) → Reach first second c
    → (n : ℕ) → n ≤ m
    → ((ran c (bytes_of_all (short_to file m)) (short_begins file n)).count ≡ short_begins file n)
    × (of_ending (ran c (bytes_of_all (short_to file m)) (short_begins file n)).ending ≡ returned 0 0)
    × (named (ran c (bytes_of_all (short_to file m)) (short_begins file n)).chip ≡ applied_all (steps_to file n) (named c))
    × ((ran c (bytes_of_all (short_to file m)) (short_begins file n)).chip.picture ≡ c.picture)
    × ((ran c (bytes_of_all (short_to file m)) (short_begins file n)).chip ≡ (ran c (bytes_of_all (commands_to file m)) (begins file n)).chip)
    × ((ran c (bytes_of_all (short_to file m)) (short_begins file n)).changing ≡ (ran c (bytes_of_all (commands_to file m)) (begins file n)).changing)
p8_demand_3 file m acc first second strapped c reach n h =
    let r = (short-scripts.demand_3_short).holds file m acc first second strapped c reach n h in
    (r.count, r.unrefused, r.as_named, r.picture, r.same, r.changing)

-- The same on lent bytes, of any bytes that hold a chip whose ports are open: what `run` of `lent_run` answers, and leaves.
pub p8_on_lent_bytes : (file : List ℕ) (m : ℕ) → checked file ≡ Ok m → (l : List ℕ) → length l ≡ whole → ports_open (named (view l)) ≡ true
    → (n : ℕ) → n ≤ m → (r : Result Tally StateError) (after : List ℕ) → r ≡ run_answer l (bytes_of_all (short_to file m)) (short_begins file n)
    → Left l (ran (view l) (bytes_of_all (short_to file m)) (short_begins file n)).chip (spare l) after
    → ((e : Ending) × (r ≡ Ok (tally (short_begins file n) (steps_changing (steps_to file n) (named (view l))) e)) × (of_ending e ≡ returned 0 0))
    × (named (view after) ≡ applied_all (steps_to file n) (named (view l)))
    × (view after ≡ (ran (view l) (bytes_of_all (commands_to file m)) (begins file n)).chip)
p8_on_lent_bytes file m acc l size open-ports n h r after answer left =
    let (a, same) = (lent-scripts.demand_3_short_in).holds file m acc l size open-ports n h r after answer left in
    ((a.ending, a.answer, a.unrefused), a.as_named, same)
