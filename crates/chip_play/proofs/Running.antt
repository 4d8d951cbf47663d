-- A run of commands that are all carried out: up to them it stands where they leave it, whatever comes behind, and where nothing
-- does it ends there.
use Prim.Native.Nat.{ℕ, suc}
use native.Mathlib.Omega.{arith}
use mathlib.Core.Path.{◌≡◌, refl, ◌∙◌, ap, sym}
use mathlib.Core.List.{List, [], ◌∷◌, ◌++◌, append-nil}
use lib.ListN.{length, take}
use lib.Seq.{take_all, take_at}
use Rattle.chip.specs.State.{Chip}
use Rattle.script_commands.specs.Command.{bytes_of_all}
use Rattle.script_commands.specs.declared.Command.{Command}
use Rattle.chip_run.specs.Run.{Went, did, carry, run_from, altering, ran_to, handed, ran}
use Rattle.chip_run.specs.declared.Ending.TheVariants.{Ended}
use Rattle.chip_run.proofs.RunLaws.{knowns, run_append, run_commands, at_limit, Stands}
use Rattle.chip_play.proofs.Sends.{knowns-append}
use Rattle.std.specs.Prelude.{Option, Ok}

length-knowns : (cs : List Command) → length (knowns cs) ≡ length cs
length-knowns [] = refl
length-knowns (c ∷ cs) = ap suc (length-knowns cs)

module _ (c : Chip) (xs : List Command) {d : Chip} {a : ℕ} (goes : carry c 0 (knowns xs) ≡ did (Ok tt) a d) where
  pub run_front : (ys : List Command) → (w : Went) × (ran c (bytes_of_all (xs ++ ys)) (length xs) ≡ handed (altering c 0 (knowns xs)) w) × Stands w d (length xs)
  run_front ys =
      let k : length (knowns xs) ≡ length xs = length-knowns xs in
      let parts : knowns (xs ++ ys) ≡ knowns xs ++ knowns ys = knowns-append xs ys in
      let front : altering c 0 (take (length xs) (knowns (xs ++ ys))) ≡ altering c 0 (knowns xs) =
      ap (λ (rs : List (Option Command)). altering c 0 (take (length xs) rs)) parts ∙ ap (altering c 0) (take_at (knowns xs) (knowns ys) (length xs) k) in
      let w : Went = run_from d a (length xs) 0 (knowns ys) in
      let e : run_from c 0 0 (length xs) (knowns (xs ++ ys)) ≡ w =
      ap (run_from c 0 0 (length xs)) parts ∙ run_append (knowns xs) (knowns ys) c d 0 a 0 (length xs) (length xs) 0 (omega arith) (omega arith) goes in
      (w, run_commands c (xs ++ ys) (length xs) ∙ ap (handed _) e ∙ ap (λ (j : ℕ). handed j w) front, at_limit d a (length xs) (knowns ys))

  pub run_whole : ran c (bytes_of_all xs) (length xs) ≡ ran_to d (length xs) (altering c 0 (knowns xs)) Ended
  unfolding run_from
  run_whole =
      let k : length (knowns xs) ≡ length xs = length-knowns xs in
      run_commands c xs (length xs)
      ∙ ap (λ (rs : List (Option Command)). handed (altering c 0 rs) (run_from c 0 0 (length xs) (knowns xs))) (take_all (length xs) (knowns xs) (omega arith))
      ∙ ap (handed (altering c 0 (knowns xs)))
      (ap (run_from c 0 0 (length xs)) (sym (append-nil (knowns xs)))
      ∙ run_append (knowns xs) [] c d 0 a 0 (length xs) (length xs) 0 (omega arith) (omega arith) goes)
