-- The run of commands. Document 01, "Commands": the accumulator starts at 0; for each command 10 comes before 2 and 2 before 1,
-- and MERGE is no port access; a limit met at a bad command counts first; with every command done it is the end. A stopped run
-- hands back the state that its earlier commands left. Its laws are in proofs/RunLaws; that its number and place are those of the
-- table below, and so each of 10, 2 and 1 is given exactly when, is in proofs/RunNumbers. Document 02, P6: a run also hands back
-- how many of its commands changed a register or a colour; its laws are in proofs/ChangingLaws.
use Rattle.std.specs.Prelude.{ℕ, zero, suc, ◌+◌, ◌/◌, ◌%◌, ◌<◌, min, true, false, cond, ◌≡◌, List, [], ◌∷◌, eqb, ltb, length, take, get_or, Result, Option, Ok, Err, Some, None}
use Rattle.std.specs.Int.Bits.{bit_and, bit_or}
use Rattle.chip.specs.Access.{Seen, Wrote, access_table, port_written, port_read}
use Rattle.chip.specs.Differ.{differ, changes}
use Rattle.chip.specs.State.{Chip}
use Rattle.script_commands.specs.Command.{command_of}
use Rattle.script_commands.specs.declared.Command.{Command}
use Rattle.script_commands.specs.declared.Command.TheVariants.{Out, In, Merge, OutAcc}
use Rattle.lists.specs.Numbers.{Returned, returned}
use Rattle.chip_run.specs.declared.Reason.{Reason}
use Rattle.chip_run.specs.declared.Reason.TheVariants.{Form, Closed, Unlisted}
use Rattle.chip_run.specs.declared.Ending.{Ending}
use Rattle.chip_run.specs.declared.Ending.TheVariants.{Ended, AtLimit, Stopped}
use Rattle.chip_run.specs.declared.Tally.{Tally}
use Rattle.chip.specs.declared.access.AccessError.{AccessError}
use Rattle.chip.specs.declared.access.AccessError.TheVariants.{Unlisted as NoPort, Closed as Shut}

-- a port access's refusal as the reason of its command's
abbrev pub reason_of : AccessError → Reason
reason_of NoPort = Unlisted
reason_of Shut = Closed

-- a port access's answer as a verdict on its command
abbrev pub answered : Result (Unit {0}) AccessError → Result (Unit {0}) Reason
answered (Ok _) = Ok tt
answered (Err error) = Err (reason_of error)

-- one command: its verdict, the accumulator and the state after it
pub record Did : Type 0 where
  pub verdict : Result (Unit {0}) Reason
  pub acc : ℕ
  pub chip : Chip

abbrev pub did : Result (Unit {0}) Reason → ℕ → Chip → Did
did v acc c = record { verdict = v; acc = acc; chip = c }

abbrev pub after_write : ℕ → Wrote → Did
after_write acc w = did (answered w.answer) acc w.chip

abbrev pub after_read : Seen → Did
after_read s = did (answered s.answer) s.value s.chip

-- a command of a known form: "accumulator AND keep, OR set"
unfoldable pub done : Chip → ℕ → Command → Did
done c acc (Out port value) = after_write acc (port_written c port value)
done c acc (In port) = after_read (port_read c port)
done c acc (Merge keep set) = did (Ok tt) (bit_or (bit_and acc keep) set) c
done c acc (OutAcc port) = after_write acc (port_written c port acc)

-- what four bytes were read as, as a command
unfoldable pub one : Chip → ℕ → Option Command → Did
one c acc (Some x) = done c acc x
one c acc None = did (Err Form) acc c

-- how far commands went: the state, how many were carried out, and how it ended
pub record Went : Type 0 where
  pub chip : Chip
  pub count : ℕ
  pub ending : Ending

abbrev pub went_to : Chip → ℕ → Ending → Went
went_to c k e = record { chip = c; count = k; ending = e }

-- what follows a verdict: x where the command was done, or f of the reason
abbrev pub following : Result (Unit {0}) Reason → Went → (Reason → Went) → Went
following (Ok tt) x f = x
following (Err why) x f = f why

-- a run from place k on, with so many commands left to the limit
unfoldable pub run_from : Chip → ℕ → ℕ → ℕ → List (Option Command) → Went
run_from c acc k left [] = went_to c k Ended
run_from c acc k zero (r ∷ rs) = went_to c k AtLimit
run_from c acc k (suc left) (r ∷ rs) =
    let d = one c acc r in
    following d.verdict (run_from d.chip d.acc (k + 1) left rs) (λ why. went_to c k (Stopped k why))

-- document 02, P6: how many of the commands changed a register or a colour, up to the first that is refused. A command counts
-- where registers or colours differ after it (`changes` of crate `chip`)
abbrev pub counted : Result (Unit {0}) Reason → ℕ → ℕ → ℕ
counted (Ok tt) n rest = n + rest
counted (Err why) n rest = 0

unfoldable pub altering : Chip → ℕ → List (Option Command) → ℕ
altering c acc [] = 0
altering c acc (r ∷ rs) =
    let d = one c acc r in counted d.verdict (changes c d.chip) (altering d.chip d.acc rs)

-- how a run went, for those who hold the state elsewhere
abbrev pub tally : ℕ → ℕ → Ending → Tally
tally n m e = record { count = n; changing = m; ending = e }

-- what a run hands back: the state, how many commands were carried out, how many of these changed something, and how it ended
pub record Ran : Type 0 where
  pub chip : Chip
  pub count : ℕ
  pub changing : ℕ
  pub ending : Ending

abbrev pub ran_to : Chip → ℕ → ℕ → Ending → Ran
ran_to c k n e = record { chip = c; count = k; changing = n; ending = e }

abbrev pub handed : ℕ → Went → Ran
handed n w = ran_to w.chip w.count n w.ending

-- all the commands, up to the first that is refused: the state and the accumulator that they leave
abbrev pub after_done : Result (Unit {0}) Reason → Did → Did → Did
after_done (Ok tt) x d = x
after_done (Err why) x d = d

unfoldable pub carry : Chip → ℕ → List (Option Command) → Did
carry c acc [] = did (Ok tt) acc c
carry c acc (r ∷ rs) = let d = one c acc r in after_done d.verdict (carry d.chip d.acc rs) d

-- how many commands come before the first that is refused; all, where none is
abbrev pub more : Result (Unit {0}) Reason → ℕ → ℕ
more (Ok tt) n = suc n
more (Err why) n = 0

unfoldable pub carried : Chip → ℕ → List (Option Command) → ℕ
carried c acc [] = 0
carried c acc (r ∷ rs) = let d = one c acc r in more d.verdict (carried d.chip d.acc rs)

-- the state that the first k commands leave
abbrev pub state_at : Chip → ℕ → List (Option Command) → ℕ → Chip
state_at c acc rs k = (carry c acc (take k rs)).chip

-- registers and colours never moved: they are the same before and after each command that is carried out
abbrev pub Still : Chip → ℕ → List (Option Command) → Type 0
Still c acc rs = (k : ℕ) → k < carried c acc rs → differ (state_at c acc rs k) (state_at c acc rs (suc k)) ≡ false

-- bytes as commands, four to each
unfoldable pub reads : List ℕ → List (Option Command)
reads [] = []
reads (a ∷ []) = []
reads (a ∷ b ∷ []) = []
reads (a ∷ b ∷ c ∷ []) = []
reads (a ∷ b ∷ c ∷ d ∷ l) = command_of a b c d ∷ reads l

-- the run of command bytes: a length that is no multiple of 4 is refused before any runs
unfoldable pub ran : Chip → List ℕ → ℕ → Ran
ran c bytes limit =
    cond (eqb (length bytes % 4) 0) (handed (altering c 0 (take limit (reads bytes))) (run_from c 0 0 limit (reads bytes)))
    (ran_to c 0 0 (Stopped 0 Form))

-- "the least of the limit, the commands there are, and those before the first refused one"; none where the length is refused
abbrev pub least : Chip → List ℕ → ℕ → ℕ
least c bytes limit = cond (eqb (length bytes % 4) 0) (min limit (min (length bytes / 4) (carried c 0 (reads bytes)))) 0

-- document 01's number of a reason, and the number and value of an ending: a refusal's place; the end and the limit are 0
abbrev pub reason_number : Reason → ℕ
reason_number Form = 10
reason_number Closed = 2
reason_number Unlisted = 1

abbrev pub verdict_number : Result (Unit {0}) Reason → ℕ
verdict_number (Ok tt) = 0
verdict_number (Err why) = reason_number why

abbrev pub of_ending : Ending → Returned
of_ending Ended = returned 0 0
of_ending AtLimit = returned 0 0
of_ending (Stopped place why) = returned (reason_number why) place

-- the table of numbers for a command in a state: 10 where it has no known form; else that of its port access, 2 while the ports
-- are closed and then 1 where the port or its direction is not listed; MERGE is no port access
abbrev pub command_table : Chip → Option Command → ℕ
command_table c (Some (Out port value)) = access_table true c port
command_table c (Some (In port)) = access_table false c port
command_table c (Some (Merge keep set)) = 0
command_table c (Some (OutAcc port)) = access_table true c port
command_table c None = 10

-- that of the command at a place, in the state that the commands before it left
abbrev pub stop_table : Chip → ℕ → List (Option Command) → ℕ → ℕ
stop_table c acc rs k = command_table (carry c acc (take k rs)).chip (get_or rs k None)

-- the table of numbers for a run: 10 at place 0 for the length; 0 where the limit is met or every command is done; else that of
-- the command behind those carried out, at its place
unfoldable pub run_table : Chip → List ℕ → ℕ → Returned
run_table c bytes limit =
    cond (eqb (length bytes % 4) 0)
    (cond (ltb (least c bytes limit) (min limit (length bytes / 4)))
    (returned (stop_table c 0 (reads bytes) (least c bytes limit)) (least c bytes limit))
    (returned 0 0))
    (returned 10 0)
