-- Demand 3 on lent bytes: what the run answers and leaves is that of the run on the chip that they hold, of which crate
-- `chip_play` says it, and for the short list crate `chip_short`.
use Prim.Native.Nat.{ℕ, ◌≤◌}
use mathlib.Core.Path.{◌≡◌, ap, ap₂, ◌∙◌}
use mathlib.Core.Bool.{true}
use mathlib.Core.List.{List}
use lib.ListN.{length}
use borrow.Author.Tests.{eq-eqb}
use Rattle.chip.specs.State.{Chip, named}
use Rattle.chip.specs.Names.{ports_open}
use Rattle.script.specs.File.{checked}
use Rattle.script_commands.specs.Command.{bytes_of_all}
use Rattle.script_commands.specs.Translation.{commands_to, begins}
use Rattle.script_short.specs.Short.{short_to, short_begins}
use Rattle.chip_play.specs.Demand3.{ran_steps}
use Rattle.chip_play.proofs.Demand3.{after_steps}
use Rattle.chip_play.proofs.StepsChanging.{changing_steps}
use Rattle.chip_short.specs.Demand3.{ran_short}
use Rattle.chip_short.proofs.Demand3.{after_short}
use Rattle.lent_chip.specs.Layout.{whole, view, spare}
use Rattle.lent_chip.specs.Accesses.{Left}
use Rattle.lent_run.specs.Run.{run_answer}
use Rattle.lent_play.specs.Demand3.{AfterStepsIn, Demand3In, Demand3ShortIn}
use Rattle.std.specs.Prelude.{Result, Ok}
use Rattle.lent_chip.specs.declared.access.StateError.{StateError}
use Rattle.chip_run.specs.declared.Tally.{Tally}
use Rattle.chip_run.specs.Run.{tally}

after_steps_in : (file : List ℕ) (m : ℕ) → checked file ≡ Ok m → (l : List ℕ) → length l ≡ whole → ports_open (named (view l)) ≡ true
    → (n : ℕ) → n ≤ m → (r : Result Tally StateError) (after : List ℕ)
    → r ≡ run_answer l (bytes_of_all (commands_to file m)) (begins file n) → Left l (ran_steps (view l) file m n).chip (spare l) after
    → AfterStepsIn l file n (begins file n) r after
after_steps_in file m acc l size free n room r after gave left =
    let a = after_steps file m acc (view l) free n room in
    let held = left.held size in
    record {
      ending = (ran_steps (view l) file m n).ending;
      answer =
          gave ∙ rw (eq-eqb (length l) whole size)
          (ap₂ (λ (k d : ℕ). Ok (tally k d (ran_steps (view l) file m n).ending)) a.count (changing_steps file m acc (view l) free n room));
      unrefused = a.unrefused;
      as_named = ap named held.chip ∙ a.as_named;
      picture = ap (λ (c : Chip). c.picture) held.chip ∙ a.picture;
    }

-- the short list: what is not the plain list's count and state is its own statement's
after_short_in : (file : List ℕ) (m : ℕ) → checked file ≡ Ok m → (l : List ℕ) → length l ≡ whole → ports_open (named (view l)) ≡ true
    → (n : ℕ) → n ≤ m → (r : Result Tally StateError) (after : List ℕ)
    → r ≡ run_answer l (bytes_of_all (short_to file m)) (short_begins file n) → Left l (ran_short (view l) file m n).chip (spare l) after
    → AfterStepsIn l file n (short_begins file n) r after × (view after ≡ (ran_steps (view l) file m n).chip)
after_short_in file m acc l size free n room r after gave left =
    let a = after_short file m acc (view l) free n room in
    let held = left.held size in (
      record {
        ending = (ran_short (view l) file m n).ending;
        answer =
            gave ∙ rw (eq-eqb (length l) whole size)
            (ap₂ (λ (k d : ℕ). Ok (tally k d (ran_short (view l) file m n).ending)) a.count (a.changing ∙ changing_steps file m acc (view l) free n room));
        unrefused = a.unrefused;
        as_named = ap named held.chip ∙ a.as_named;
        picture = ap (λ (c : Chip). c.picture) held.chip ∙ a.picture;
      },
      held.chip ∙ a.same,
    )

pub demand_3_in : Demand3In
demand_3_in = record { holds = after_steps_in }

pub demand_3_short_in : Demand3ShortIn
demand_3_short_in = record { holds = after_short_in }
