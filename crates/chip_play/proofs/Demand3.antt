-- Demand 3. A script's steps are legal, so their commands do what they say one step after the other, and change something as
-- often as they (`script_sent`); a run whose limit ends with a step's commands stands where those commands leave it. The only
-- fact about the state is that its ports are open, which every state reached from a reset with CFG1 = 1 has.
use Prim.Native.Nat.{ℕ, zero, suc, ◌≤◌}
use native.Mathlib.Omega.{arith}
use mathlib.Core.Bool.{true}
use mathlib.Core.Path.{◌≡◌, refl, ◌∙◌, ap, sym}
use mathlib.Core.List.{List, [], ◌∷◌, ◌++◌}
use Rattle.chip.specs.State.{Chip, Named, named, join}
use Rattle.chip.specs.Names.{received, ports_open}
use Rattle.chip.specs.Palette.{coloured}
use Rattle.chip.proofs.ReachLaws.{ports_stay}
use Rattle.chip.specs.declared.Indexes.{Indexes}
use Rattle.chip.specs.declared.Loading.{Loading}
use Rattle.script_steps.specs.Step.{legal}
use Rattle.script_steps.specs.declared.Step.{Step}
use Rattle.script_steps.specs.declared.Step.TheVariants.{Set, Field, Colour}
use Rattle.script.specs.File.{checked}
use Rattle.script.proofs.Reading.{accepted-handed}
use Rattle.script_commands.specs.Command.{bytes_of_all}
use Rattle.script_commands.specs.Expansion.{commands_of}
use Rattle.script_commands.specs.Translation.{steps_to, commands_to, begins}
use Rattle.script_commands.proofs.Counted.{steps_split}
use Rattle.script_commands.proofs.Expanding.{commands_append}
use Rattle.script_commands.specs.declared.Command.{Command}
use Rattle.chip_run.specs.Run.{Went, altering, Ran, ran_to, handed, reads, ran, of_ending}
use Rattle.chip_run.proofs.RunLaws.{reads_bytes, Stands}
use Rattle.chip_run.specs.declared.Ending.TheVariants.{Ended}
use Rattle.chip_play.specs.ByName.{applied, applied_all, steps_changing}
use Rattle.chip_play.specs.Demand3.{ran_steps, AfterSteps, Demand3}
use Rattle.chip_play.proofs.Sends.{Goes, Sends, Is, sends_append, sends_none}
use Rattle.chip_play.proofs.Running.{run_front, run_whole}
use Rattle.chip_play.proofs.Reaching.{open_received, open_coloured}
use Rattle.chip_play.proofs.StepsSent.{indexes_after, step_sent}
use Rattle.std.specs.Prelude.{Option, Ok}

-- ---- a list of legal steps
abbrev pub AllLegal : List Step → Type 0
AllLegal [] = Unit {0}
AllLegal (s ∷ ss) = (legal s ≡ true) × AllLegal ss

pub open_applied : (s : Step) (n : Named) → ports_open (applied s n) ≡ ports_open n
unfolding applied
open_applied (Set g i v) n = open_received _ n i v
open_applied (Field g i v m) n = open_received _ n i _
open_applied (Colour e r g b) n = open_coloured n e r g b

-- no step says anything of the picture
picture_applied : (s : Step) (n : Named) → (applied s n).picture ≡ n.picture
unfolding applied received coloured
picture_applied (Set g i v) n = refl
picture_applied (Field g i v m) n = refl
picture_applied (Colour e r g b) n = refl

picture_stays : (ss : List Step) (n : Named) → (applied_all ss n).picture ≡ n.picture
unfolding applied_all
picture_stays [] n = refl
picture_stays (s ∷ ss) n = picture_stays ss (applied s n) ∙ picture_applied s n

-- the indexes that steps leave
abbrev pub indexes_after_all : List Step → Indexes → Indexes
indexes_after_all [] y = y
indexes_after_all (s ∷ ss) y = indexes_after_all ss (indexes_after s y)

pub script_sent : (ss : List Step) (n : Named) → AllLegal ss → ports_open n ≡ true → (y : Indexes)
    → Sends (Is y) n (commands_of ss) (applied_all ss n) (Is (indexes_after_all ss y)) (steps_changing ss n)
unfolding commands_of applied_all steps_changing
script_sent [] n lawful free y = sends_none n
script_sent (s ∷ ss) n lawful free y =
    sends_append (step_sent s n lawful.0 free y) (script_sent ss (applied s n) lawful.1 (open_applied s n ∙ free) (indexes_after s y))

-- ---- the steps of an accepted file
all_legal-append : (ss ts : List Step) → AllLegal ss → AllLegal ts → AllLegal (ss ++ ts)
all_legal-append [] ts h k = k
all_legal-append (s ∷ ss) ts h k = (h.0, all_legal-append ss ts h.1 k)

pub steps_legal : (f : List ℕ) (m : ℕ) → checked f ≡ Ok m → (n : ℕ) → n ≤ m → AllLegal (steps_to f n)
unfolding steps_to
steps_legal f m acc zero room = tt
steps_legal f m acc (suc n) room =
    let h = accepted-handed f m acc n (omega arith) in
    all_legal-append (steps_to f n) _ (steps_legal f m acc n (omega arith)) (rw h.answer (h.lawful, tt))

-- ---- the run
module _ (f : List ℕ) (m : ℕ) (acc : checked f ≡ Ok m) (c : Chip) (free : ports_open (named c) ≡ true) where
  -- the commands of the first n steps go so far
  pub steps_go : (n : ℕ) → n ≤ m → (x : Indexes) × (l : Loading) × (a : ℕ)
      × Goes c 0 (commands_to f n) (join (applied_all (steps_to f n) (named c)) x l) a (steps_changing (steps_to f n) (named c))
  steps_go n room =
      let (x, l, a, h, _) = (script_sent (steps_to f n) (named c) (steps_legal f m acc n room) free c.indexes).runs c.indexes c.loading 0 refl in
      (x, l, a, h)

  -- the run up to the commands of the first n steps stands where these leave it, with as many changes as the steps make
  pub stands : (n : ℕ) → n ≤ m → (x : Indexes) × (l : Loading) × (w : Went)
      × (ran_steps c f m n ≡ handed (steps_changing (steps_to f n) (named c)) w) × Stands w (join (applied_all (steps_to f n) (named c)) x l) (begins f n)
  stands n room =
      let (rest, split) = steps_split f m n room in
      let (x, l, a, h) = steps_go n room in
      let (w, e, s) = run_front c (commands_to f n) h.ends (commands_of rest) in
      let parts : commands_to f m ≡ commands_to f n ++ commands_of rest = ap commands_of split ∙ commands_append (steps_to f n) rest in
      (x, l, w, ap (λ (cs : List Command). ran c (bytes_of_all cs) (begins f n)) parts ∙ e ∙ ap (λ (k : ℕ). handed k w) h.alters, s)

  pub after_steps : (n : ℕ) → n ≤ m → AfterSteps c f m n
  after_steps n room =
      let (x, l, w, e, s) = stands n room in
      record {
        count = ap (λ (r : Ran). r.count) e ∙ s.count;
        unrefused = ap (λ (r : Ran). of_ending r.ending) e ∙ s.unrefused;
        as_named = ap (λ (r : Ran). named r.chip) e ∙ ap named s.chip;
        picture = ap (λ (r : Ran). r.chip.picture) e ∙ ap (λ (d : Chip). d.picture) s.chip ∙ picture_stays (steps_to f n) (named c);
      }

  -- the run of all its commands ends
  pub whole_run : (x : Indexes) × (l : Loading)
      × (ran c (bytes_of_all (commands_to f m)) (begins f m)
      ≡ ran_to (join (applied_all (steps_to f m) (named c)) x l) (begins f m) (altering c 0 (reads (bytes_of_all (commands_to f m)))) Ended)
  whole_run =
      let (x, l, a, h) = steps_go m (omega arith) in
      (x, l, run_whole c (commands_to f m) h.ends ∙ ap (λ (rs : List (Option Command)). ran_to (join (applied_all (steps_to f m) (named c)) x l) (begins f m) (altering c 0 rs) Ended) (sym (reads_bytes (commands_to f m))))

-- ---- the theorem
pub demand_3 : Demand3
demand_3 = record { holds = λ file m acc first second strapped c reach n room. after_steps file m acc c (ports_stay reach ∙ strapped) n room }
