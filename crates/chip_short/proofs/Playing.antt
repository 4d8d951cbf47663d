-- The entry: the short list does what a play asks of a list (`Plays` of crate `chip_play`).
use Prim.Native.Nat.{ℕ}
use native.Mathlib.Omega.{arith}
use mathlib.Core.Bool.{false}
use mathlib.Core.Path.{◌≡◌, refl, sym, ap, ◌∙◌}
use mathlib.Core.List.{List, [], ◌∷◌}
use lib.ListN.{length}
use Rattle.chip.specs.State.{Chip, named, join}
use Rattle.chip.specs.Names.{ports_open}
use Rattle.script_commands.specs.Translation.{steps_to, commands_to}
use Rattle.script_short.specs.Short.{shortened, short_to, short_translated, short_left_by}
use Rattle.script_short.proofs.ShortLaws.{short_most, first-stays}
use Rattle.chip_run.specs.Run.{altering, ran_to}
use Rattle.chip_run.specs.declared.Ending.TheVariants.{Ended}
use Rattle.chip_run.proofs.RunLaws.{reads_bytes}
use Rattle.chip_play.specs.ByName.{applied_all}
use Rattle.chip_play.specs.Played.{Performance, run_by, ByName, of_outcome, play_table}
use Rattle.chip_play.proofs.Running.{run_whole}
use Rattle.chip_play.proofs.Closed.{Stops}
use Rattle.chip_play.proofs.Playing.{Plays, plain_plays, list_answered}
use Rattle.chip_short.specs.Played.{short_played}
use Rattle.chip_short.proofs.Demand3.{short_alike, short_goes}
use Rattle.std.specs.Prelude.{Result, Option}
use Rattle.script_commands.specs.declared.Command.{Command}
use Rattle.script.specs.declared.Refusal.{Refusal}

-- the first command stays, and with closed ports it is refused
short_stops : (c : Chip) (shut : ports_open (named c) ≡ false) (f : List ℕ) (m : ℕ) → Stops c shut (commands_to f m) → Stops c shut (short_to f m)
short_stops c shut f m s = record {
  first = s.first;
  others = shortened (s.first ∷ []) s.others;
  whole = first-stays f m s.first s.others s.whole;
  refused = s.refused;
}

pub short_plays : (f : List ℕ) (c : Chip) → Plays f (short_to f) c
short_plays f c = record {
  ends = λ m acc free.
      let (x, l, a, _, goes) = short_goes f m acc c free m (omega arith) in
      let d : Chip = join (applied_all (steps_to f m) (named c)) x l in (
        d,
        run_whole c (short_to f m) goes
            ∙ ap (λ (k : ℕ). ran_to d (length (short_to f m)) k Ended) (sym (short_alike f m acc c free m (omega arith)).alters)
            ∙ ap (λ (rs : List (Option Command)). ran_to d (length (short_to f m)) (altering c 0 rs) Ended) (sym (reads_bytes (commands_to f m))),
        refl,
      );
  stops = λ m acc shut. short_stops c shut f m ((plain_plays f c).stops m acc shut);
}

-- what the contract of `play_short` says, from what was run in the buffer
pub short_play_answered : (c : Chip) (f o : List ℕ) {r : Performance} {o' : List ℕ} {t : Result ℕ Refusal} → t ≡ short_translated f (length o) → o' ≡ short_left_by t f o
    → r ≡ run_by t c o'
    → (r ≡ short_played c f (length o))
    × (ByName (short_translated f (length o)) c f r × ((o' ≡ short_left_by (short_translated f (length o)) f o) × (of_outcome r.outcome ≡ play_table c f (length o))))
unfolding short_translated short_played
short_play_answered c f o is left gave = list_answered f (short_to f) c (short_plays f c) (length o) (short_most f) o refl is left gave
