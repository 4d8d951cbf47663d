-- How often a script changes a register or a colour, told with no port: document 02, P6. With open ports as many commands change
-- something as steps do by name (`steps_changing` of specs/ByName): the commands of a step change something once where the step
-- does, and else never.
use Prim.Native.Nat.{ℕ, ◌≤◌}
use native.Mathlib.Omega.{arith}
use mathlib.Core.Bool.{true}
use mathlib.Core.Path.{◌≡◌, ◌∙◌, ap, sym}
use mathlib.Core.List.{List}
use Rattle.chip.specs.State.{Chip, named}
use Rattle.chip.specs.Names.{ports_open}
use Rattle.script.specs.File.{step_count, checked}
use Rattle.script.proofs.Checking.{Legal, answer_says}
use Rattle.script_commands.specs.Translation.{steps_to, translated}
use Rattle.script_commands.proofs.Translating.{translated-says}
use Rattle.chip_run.specs.Run.{Ran, tally}
use Rattle.chip_run.specs.declared.Ending.TheVariants.{Ended}
use Rattle.chip_play.specs.ByName.{steps_changing}
use Rattle.chip_play.specs.Demand3.{ran_steps}
use Rattle.chip_play.specs.Played.{changing_of, played}
use Rattle.chip_play.proofs.Demand3.{stands, whole_run}
use Rattle.chip_play.proofs.Playing.{by_name}
use Rattle.std.specs.Prelude.{Ok}

module _ (f : List ℕ) (m : ℕ) (acc : checked f ≡ Ok m) (c : Chip) (free : ports_open (named c) ≡ true) where
  -- the commands of the first n steps of an accepted file
  pub changing_steps : (n : ℕ) → n ≤ m → (ran_steps c f m n).changing ≡ steps_changing (steps_to f n) (named c)
  changing_steps n room = let (x, l, w, e, s) = stands f m acc c free n room in ap (λ (r : Ran). r.changing) e

  -- all of its commands
  pub changing_script : changing_of c f ≡ steps_changing (steps_to f (step_count f)) (named c)
  changing_script =
      let l : Legal f m = answer_says f acc in
      let (x, y, e) = whole_run f m acc c free in
      rw l.count (sym (ap (λ (r : Ran). r.changing) e) ∙ changing_steps m (omega arith))

-- what the entry hands back
pub played-changing : (c : Chip) (f : List ℕ) (room k : ℕ) → translated f room ≡ Ok k → ports_open (named c) ≡ true
    → (played c f room).outcome ≡ Ok (tally k (steps_changing (steps_to f (step_count f)) (named c)) Ended)
played-changing c f room k is free =
    let t = translated-says f room k is in
    ((by_name c f room).answers k is free).0 ∙ ap (λ (n : ℕ). Ok (tally k n Ended)) (changing_script f t.steps t.accepted c free)
