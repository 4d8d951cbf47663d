-- Demand 3 for the short list. Each step does the same without the writes of an index that stands, and what the rule leaves out
-- is such a write: so the short list of a script leaves, after each step, the state and the accumulator that the plain list
-- leaves, and changes a register or a colour as often (`script_alike`). What the plain list does, it then does too.
use Prim.Native.Nat.{ℕ, ◌≤◌}
use mathlib.Core.Bool.{true}
use mathlib.Core.Path.{◌≡◌, refl, sym, ap, ◌∙◌}
use mathlib.Core.List.{List, [], ◌∷◌, ◌++◌}
use Rattle.chip.specs.State.{Chip, Named, named, join}
use Rattle.chip.specs.Names.{ports_open}
use Rattle.chip.specs.declared.Indexes.{Indexes}
use Rattle.chip.specs.declared.Loading.{Loading}
use Rattle.chip.proofs.ReachLaws.{ports_stay}
use Rattle.script_steps.specs.declared.Step.{Step}
use Rattle.script.specs.File.{checked}
use Rattle.script_commands.specs.Command.{bytes_of_all}
use Rattle.script_commands.specs.Expansion.{expanded, commands_of}
use Rattle.script_commands.specs.Known.{expanded_known}
use Rattle.script_commands.specs.Translation.{steps_to, commands_to, begins}
use Rattle.script_commands.specs.declared.Command.{Command}
use Rattle.script_commands.proofs.Counted.{steps_split}
use Rattle.script_commands.proofs.Expanding.{commands_append}
use Rattle.script_short.specs.Short.{shortened, short_to, short_begins}
use Rattle.script_short.proofs.ShortLaws.{past, short_append}
use Rattle.script_short.proofs.Recalling.{short_step}
use Rattle.chip_run.specs.Run.{Ran, did, carry, altering, handed, ran, of_ending}
use Rattle.chip_run.proofs.RunLaws.{knowns}
use Rattle.chip_play.specs.ByName.{applied, applied_all}
use Rattle.chip_play.specs.Demand3.{ran_steps}
use Rattle.chip_play.proofs.StepsSent.{step_sent}
use Rattle.chip_play.proofs.Running.{run_front}
use Rattle.chip_play.proofs.Demand3.{AllLegal, open_applied, steps_legal, steps_go, after_steps}
use Rattle.chip_short.specs.Demand3.{ran_short, AfterShort, Demand3Short}
use Rattle.chip_short.proofs.Alike.{Alike, alike_self, alike-append}
use Rattle.chip_short.proofs.Repeated.{step_alike}
use Rattle.chip_short.proofs.Between.{Recalls, recalls-none, recalls_next, recalls_for}
use Rattle.std.specs.Prelude.{Ok}

-- ---- steps, behind commands of which it is known what stands
abbrev Shortens : List Step → Type 0
Shortens ss = (n : Named) → AllLegal ss → ports_open n ≡ true → (x : Indexes) (l : Loading) (a : ℕ) (before : List Command) → Recalls before x
    → Alike (join n x l) a (commands_of ss) (shortened before (commands_of ss))

none_alike : Shortens []
unfolding commands_of shortened
none_alike n lawful free x l a before known = alike_self

more-alike : (s : Step) (ss : List Step) → Shortens ss → Shortens (s ∷ ss)
unfolding commands_of
more-alike s ss rest n lawful free x l a before known =
    let (z, recalled, stands) = recalls_for s before x known in
    let (x', l', b, goes, e) = (step_sent s n lawful.0 free x).runs x l a refl in
    let next : Recalls (past before (expanded s)) x' = rw e (recalls_next s before x known) in
    rw (short_append before (expanded s) (commands_of ss), short_step s z before recalled)
    (alike-append (expanded s) (expanded_known z s) (commands_of ss) (shortened (past before (expanded s)) (commands_of ss)) goes.ends
    (step_alike s n lawful.0 free z x l a stands)
    (rest (applied s n) lawful.1 (open_applied s n ∙ free) x' l' b (past before (expanded s)) next))

script_alike : (ss : List Step) → Shortens ss
script_alike [] = none_alike
script_alike (s ∷ ss) = more-alike s ss (script_alike ss)

-- ---- the steps of an accepted file, with nothing before them
module _ (f : List ℕ) (m : ℕ) (acc : checked f ≡ Ok m) (c : Chip) (free : ports_open (named c) ≡ true) where
  pub short_alike : (n : ℕ) → n ≤ m → Alike c 0 (commands_to f n) (short_to f n)
  short_alike n room = script_alike (steps_to f n) (named c) (steps_legal f m acc n room) free c.indexes c.loading 0 [] (recalls-none c.indexes)

  -- the short commands of the first n steps go as far as the plain ones
  pub short_goes : (n : ℕ) → n ≤ m → (x : Indexes) × (l : Loading) × (a : ℕ)
      × (carry c 0 (knowns (commands_to f n)) ≡ did (Ok tt) a (join (applied_all (steps_to f n) (named c)) x l))
      × (carry c 0 (knowns (short_to f n)) ≡ did (Ok tt) a (join (applied_all (steps_to f n) (named c)) x l))
  short_goes n room =
      let (x, l, a, h) = steps_go f m acc c free n room in
      (x, l, a, h.ends, sym (short_alike n room).leaves ∙ h.ends)

  pub after_short : (n : ℕ) → n ≤ m → AfterShort c f m n
  after_short n room =
      let (rest, split) = steps_split f m n room in
      let (x, l, a, goes, goes') = short_goes n room in
      let alike = short_alike n room in
      let plain : commands_to f m ≡ commands_to f n ++ commands_of rest = ap commands_of split ∙ commands_append (steps_to f n) rest in
      let short : short_to f m ≡ short_to f n ++ shortened (past [] (commands_to f n)) (commands_of rest) =
      ap (shortened []) plain ∙ short_append [] (commands_to f n) (commands_of rest) in
      let (w, e, s) = run_front c (commands_to f n) goes (commands_of rest) in
      let (w', e', s') = run_front c (short_to f n) goes' (shortened (past [] (commands_to f n)) (commands_of rest)) in
      let p : ran_steps c f m n ≡ handed (altering c 0 (knowns (commands_to f n))) w = ap (λ (cs : List Command). ran c (bytes_of_all cs) (begins f n)) plain ∙ e in
      let r : ran_short c f m n ≡ handed (altering c 0 (knowns (short_to f n))) w' = ap (λ (cs : List Command). ran c (bytes_of_all cs) (short_begins f n)) short ∙ e' in
      let same : (ran_short c f m n).chip ≡ (ran_steps c f m n).chip =
      ap (λ (t : Ran). t.chip) r ∙ s'.chip ∙ sym s.chip ∙ sym (ap (λ (t : Ran). t.chip) p) in
      let said = after_steps f m acc c free n room in
      record {
        count = ap (λ (t : Ran). t.count) r ∙ s'.count;
        unrefused = ap (λ (t : Ran). of_ending t.ending) r ∙ s'.unrefused;
        as_named = ap named same ∙ said.as_named;
        picture = ap (λ (d : Chip). d.picture) same ∙ said.picture;
        same = same;
        changing = ap (λ (t : Ran). t.changing) r ∙ sym alike.alters ∙ sym (ap (λ (t : Ran). t.changing) p);
      }

-- ---- the theorem
pub demand_3_short : Demand3Short
demand_3_short = record { holds = λ file m acc first second strapped c reach n room. after_short file m acc c (ports_stay reach ∙ strapped) n room }
