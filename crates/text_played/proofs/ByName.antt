-- What the text says by the steps alone: the ports of a chip after a reset with FFh and FFh are open, so every command of
-- an accepted file is carried out, and what has a name is then what the steps say by name (`answers` of the crate chip_play).
use Prim.Native.Nat.{ℕ}
use mathlib.Core.Bool.{cond}
use mathlib.Core.Path.{◌≡◌, ap, ◌∙◌}
use mathlib.Core.List.{List}
use lib.Dec.{ltb}
use lib.ListN.{length}
use Rattle.lists.specs.Put.{put}
use Rattle.chip.specs.State.{Named, named}
use Rattle.script.specs.File.{step_count}
use Rattle.script.specs.declared.Refusal.{Refusal}
use Rattle.script.specs.declared.Refusal.TheVariants.{Room}
use Rattle.script_commands.specs.Translation.{steps_to, translated}
use Rattle.chip_play.specs.ByName.{applied_all}
use Rattle.chip_play.specs.Played.{fresh, played}
use Rattle.chip_play.proofs.Playing.{by_name, fresh_open}
use Rattle.text_played.specs.Told.{tale, told_of, told, left_of, left}
use Rattle.std.specs.Prelude.{Result, Ok, Err}
use Rattle.chip_run.specs.declared.Tally.{Tally}

module _ (file : List ℕ) (work room : ℕ) where
  -- the state that the steps make of a reset, by name
  abbrev pub said : Named
  said = applied_all (steps_to file (step_count file)) (named fresh)

  -- an accepted file: what the steps say by name, and as many commands as it has
  pub told-by_name : (k : ℕ) → translated file work ≡ Ok k
      → told file work room ≡ cond (ltb room 38430) (Err Room) (Ok (length (tale said k)))
  unfolding told
  told-by_name k is =
      let (o, n) = (by_name fresh file work).answers k is fresh_open in
      ap (λ (x : Result Tally Refusal). told_of x (named (played fresh file work).chip) room) o
      ∙ ap (λ (x : Named). cond (ltb room 38430) (Err Room) (Ok (length (tale x k)))) n

  -- any other: its refusal
  pub told-refused : (why : Refusal) → translated file work ≡ Err why → told file work room ≡ Err why
  unfolding told
  told-refused why is =
      ap (λ (x : Result Tally Refusal). told_of x (named (played fresh file work).chip) room) ((by_name fresh file work).refused why is).0

  -- and what the output then holds
  pub left-by_name : (out : List ℕ) (k : ℕ) → translated file work ≡ Ok k
      → left file work out ≡ cond (ltb (length out) 38430) out (put out 0 (tale said k))
  unfolding left
  left-by_name out k is =
      let (o, n) = (by_name fresh file work).answers k is fresh_open in
      ap (λ (x : Result Tally Refusal). left_of x (named (played fresh file work).chip) out) o
      ∙ ap (λ (x : Named). cond (ltb (length out) 38430) out (put out 0 (tale x k))) n
