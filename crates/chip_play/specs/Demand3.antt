-- Demand 3, to read, as document 02, P1, completes it: a script does what it says, from any state. The definitions under it are
-- those that the contracts cite: `checked` of the check, `commands_to` of the translation, `ran` of the run, `Reach` of the chip,
-- `applied_all` of ByName. The theorem that says it of every script and every reachable state is `demand_3`, in proofs/Demand3. It
-- is not had by a reader that hands out nothing, nor by a check that accepts nothing. The first n steps of an accepted file are
-- n, and their bytes are those at the file's places (proofs/Counted of crate `script_commands`); and for every list of 1 to 1,008
-- steps that pass there is an accepted file whose steps are that list, which is the demand's own quantifier (proofs/Scripts):
--     steps-counted : .. checked f ≡ Ok m → (n : ℕ) → n ≤ m → length (stepsTo f n) ≡ n
--     steps-stand : .. checked f ≡ Ok m → (n : ℕ) → n ≤ m → sixes (stepsTo f n) ≡ placesTo f n
--     script-there : (ss : List Step) → 1 ≤ length ss → length ss ≤ 1008 → AllPass ss → ScriptOf ss
-- where a `ScriptOf ss` is a file with `checked file ≡ Ok (length ss)` and `steps_to file (length ss) ≡ ss`.
-- On lent bytes it is said after each step in specs/Demand3 of crate `lent_play`.
use Rattle.std.specs.Prelude.{ℕ, ◌≤◌, ◌≡◌, true, List, Ok}
use Rattle.lists.specs.Bits.{is_set}
use Rattle.chip.specs.State.{Chip, named}
use Rattle.chip.specs.Reach.{Reach}
use Rattle.script.specs.File.{checked}
use Rattle.lists.specs.Numbers.{returned}
use Rattle.script_commands.specs.Command.{bytes_of_all}
use Rattle.script_commands.specs.Translation.{steps_to, commands_to, begins}
use Rattle.chip_run.specs.Run.{Ran, ran, of_ending}
use Rattle.chip_play.specs.ByName.{applied_all}

-- the run of a file's translated commands up to those of its first n steps; m is the number of its steps
abbrev pub ran_steps : Chip → List ℕ → ℕ → ℕ → Ran
ran_steps c file m n = ran c (bytes_of_all (commands_to file m)) (begins file n)

-- after the commands of the first n steps: all of them were carried out, none was refused, and everything that has a name,
-- every register of every group, MSR, PALMASK and all 256 colours, is what the n steps say by name. Bit 5 of the attribute index,
-- which decides whether there is a picture, is in `Named` too, and no step says anything of it: it is unchanged (`picture`). The
-- six indexes, the low five bits of the attribute index, the turn of 3C0h and the palette's loading state are not in `Named`:
-- they may differ.
pub record AfterSteps (c : Chip) (file : List ℕ) (m n : ℕ) : Type 0 where
  pub count : (ran_steps c file m n).count ≡ begins file n
  pub unrefused : of_ending (ran_steps c file m n).ending ≡ returned 0 0
  pub as_named : named (ran_steps c file m n).chip ≡ applied_all (steps_to file n) (named c)
  pub picture : (ran_steps c file m n).chip.picture ≡ c.picture

-- for every accepted file, every state that accesses reach from a reset with CFG1 = 1, and every number of its steps
pub record Demand3 : Type 0 where
  pub holds : (file : List ℕ) (m : ℕ) → checked file ≡ Ok m
      → (first second : ℕ) → is_set 1 first ≡ true → (c : Chip) → Reach first second c
      → (n : ℕ) → n ≤ m → AfterSteps c file m n
