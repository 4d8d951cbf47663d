-- The entry of demand 3: a file is translated into a lent buffer and its commands are run whole. What comes back, for every chip,
-- file and buffer, and then what that means by name.
use Rattle.std.specs.Prelude.{ℕ, ◌*◌, ◌≡◌, true, false, cond, List, ltb, take, Result, Ok, Err}
use Rattle.chip.specs.State.{Chip, named}
use Rattle.chip.specs.Names.{ports_open}
use Rattle.chip.specs.Reset.{reset}
use Rattle.script.specs.File.{step_count}
use Rattle.lists.specs.Numbers.{Returned, returned}
use Rattle.script.specs.Numbers.{of_refusal, checks_table}
use Rattle.script.specs.declared.Refusal.{Refusal}
use Rattle.script_commands.specs.Command.{bytes_of_all}
use Rattle.script_commands.specs.Translation.{steps_to, commands_to, translated}
use Rattle.script_commands.specs.declared.Command.{Command}
use Rattle.chip_run.specs.Run.{Ran, ran, reads, altering, of_ending, tally}
use Rattle.chip_run.specs.declared.Ending.TheVariants.{Ended, Stopped}
use Rattle.chip_run.specs.declared.Reason.TheVariants.{Closed}
use Rattle.chip_play.specs.ByName.{applied_all}
use Rattle.chip_run.specs.declared.Tally.{Tally}

-- the state after a script, and what became of it
pub record Performance : Type 0 where
  pub chip : Chip
  pub outcome : Result Tally Refusal

-- the chip of the listing and of the programs that play a script: document 02, P6, "the state after a reset with pin bytes FFh
-- and FFh"
abbrev pub fresh : Chip
fresh = reset 0xFF 0xFF

-- what a run gives the caller
abbrev pub performed : Ran → Performance
performed r = record { chip = r.chip; outcome = Ok (tally r.count r.changing r.ending) }

-- what a translation answered, and the run of what it left: k commands in front of a buffer
abbrev pub run_by : Result ℕ Refusal → Chip → List ℕ → Performance
run_by (Ok k) c buffer = performed (ran c (take (4 * k) buffer) k)
run_by (Err why) c buffer = record { chip = c; outcome = Err why }

-- .. and the run of these commands
abbrev pub after_translation : Result ℕ Refusal → List Command → Chip → Performance
after_translation (Ok k) cs c = performed (ran c (bytes_of_all cs) k)
after_translation (Err why) cs c = record { chip = c; outcome = Err why }

-- how many of a file's commands change a register or a colour, all of them run: document 02, P6
abbrev pub changing_of : Chip → List ℕ → ℕ
changing_of c file = altering c 0 (reads (bytes_of_all (commands_to file (step_count file))))

unfoldable pub played : Chip → List ℕ → ℕ → Performance
played c file room = after_translation (translated file room) (commands_to file (step_count file)) c

-- by name, where a file's translation answers t: a refused file changes nothing; with open ports every command is carried out and
-- the registers and colours are what the steps say; with closed ports the run stops at its first command, number 2, and nothing
-- changes
pub record ByName (t : Result ℕ Refusal) (c : Chip) (file : List ℕ) (p : Performance) : Type 0 where
  pub refused : (why : Refusal) → t ≡ Err why → (p.outcome ≡ Err why) × (p.chip ≡ c)
  pub answers : (k : ℕ) → t ≡ Ok k → ports_open (named c) ≡ true
      → (p.outcome ≡ Ok (tally k (changing_of c file) Ended)) × (named p.chip ≡ applied_all (steps_to file (step_count file)) (named c))
  pub closed : (k : ℕ) → t ≡ Ok k → ports_open (named c) ≡ false
      → (p.outcome ≡ Ok (tally 0 0 (Stopped 0 Closed))) × (p.chip ≡ c)

-- document 01's number and value for each outcome: that of the file's refusal, or of how the run ended
abbrev pub of_outcome : Result Tally Refusal → Returned
of_outcome (Err why) = of_refusal why
of_outcome (Ok t) = of_ending t.ending

-- the table of numbers for a script played, in its order: 8, 6, 7 or 11, 9, then 2 at place 0 while the ports are closed; else 0
abbrev pub play_table : Chip → List ℕ → ℕ → Returned
play_table c file room =
    checks_table file (cond (ltb room (32 * step_count file)) (returned 9 0) (cond (ports_open (named c)) (returned 0 0) (returned 2 0)))
