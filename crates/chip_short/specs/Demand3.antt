-- Demand 3 for the short list, to read: document 02, P8. A script's short commands do what the steps say, after each step and
-- from any state that accesses reach, and they leave what the plain list leaves. The definitions under it are those of the plain
-- list's own statement (specs/Demand3 of crate `chip_play`), with `short_to` and `short_begins` of crate `script_short` in place of
-- its list and its counts. The theorem is `demand_3_short`, in proofs/Demand3. A run that its limit stops inside a step is not
-- covered: there a plain list has sent an index again that the short one has not.
use Rattle.std.specs.Prelude.{ℕ, ◌≤◌, ◌≡◌, true, List, Ok}
use Rattle.lists.specs.Bits.{is_set}
use Rattle.lists.specs.Numbers.{returned}
use Rattle.chip.specs.State.{Chip, named}
use Rattle.chip.specs.Reach.{Reach}
use Rattle.script.specs.File.{checked}
use Rattle.script_commands.specs.Command.{bytes_of_all}
use Rattle.script_commands.specs.Translation.{steps_to}
use Rattle.script_short.specs.Short.{short_to, short_begins}
use Rattle.chip_run.specs.Run.{Ran, ran, of_ending}
use Rattle.chip_play.specs.ByName.{applied_all}
use Rattle.chip_play.specs.Demand3.{ran_steps}

-- the run of a file's short commands up to those of its first n steps; m is the number of its steps
abbrev pub ran_short : Chip → List ℕ → ℕ → ℕ → Ran
ran_short c file m n = ran c (bytes_of_all (short_to file m)) (short_begins file n)

-- after the short commands of the first n steps: all of them were carried out, none was refused, everything that has a name is
-- what the n steps say, and bit 5 of the attribute index is unchanged. "Registers, colours and P1's bit 5 are the same as with
-- the plain list", and so is the whole state, with every index, the turn of 3C0h and the palette's loading state (`same`); and as
-- many commands changed a register or a colour as of the plain list's (P6)
pub record AfterShort (c : Chip) (file : List ℕ) (m n : ℕ) : Type 0 where
  pub count : (ran_short c file m n).count ≡ short_begins file n
  pub unrefused : of_ending (ran_short c file m n).ending ≡ returned 0 0
  pub as_named : named (ran_short c file m n).chip ≡ applied_all (steps_to file n) (named c)
  pub picture : (ran_short c file m n).chip.picture ≡ c.picture
  pub same : (ran_short c file m n).chip ≡ (ran_steps c file m n).chip
  pub changing : (ran_short c file m n).changing ≡ (ran_steps c file m n).changing

-- for every accepted file, every state that accesses reach from a reset with CFG1 = 1, and every number of its steps
pub record Demand3Short : Type 0 where
  pub holds : (file : List ℕ) (m : ℕ) → checked file ≡ Ok m
      → (first second : ℕ) → is_set 1 first ≡ true → (c : Chip) → Reach first second c
      → (n : ℕ) → n ≤ m → AfterShort c file m n
