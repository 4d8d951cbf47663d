-- With closed ports a script's run stops at its first command, number 2, and the state is as it was: every legal step begins with
-- a port access.
use Prim.Native.Nat.{ℕ, suc, ◌<◌}
use native.Mathlib.Omega.{arith}
use mathlib.Core.Bool.{true, false}
use mathlib.Core.Path.{◌≡◌, refl, ap, ◌∙◌}
use mathlib.Core.List.{List, [], ◌∷◌, ◌++◌}
use lib.ListN.{length}
use Rattle.std.proofs.lemmas.Bool.{and_parts}
use Rattle.chip.specs.State.{Chip, named}
use Rattle.chip.specs.Names.{ports_open}
use Rattle.chip.specs.Access.{port_written, port_read}
use Rattle.script_steps.specs.Step.{names, within, legal}
use Rattle.script_steps.specs.declared.Step.{Step}
use Rattle.script_steps.specs.declared.Step.TheVariants.{Set, Field, Colour}
use Rattle.script_commands.specs.Command.{bytes_of_all}
use Rattle.script_commands.specs.Expansion.{ways, set_by, field_by, expanded, commands_of}
use Rattle.script_commands.specs.declared.Command.{Command}
use Rattle.script_commands.specs.declared.Command.TheVariants.{Out, In}
use Rattle.script_commands.specs.declared.Ways.{Ways}
use Rattle.script_commands.specs.declared.Ways.TheVariants.{Pair, Pairs, Direct, Turns, Nowhere}
use Rattle.chip_run.specs.Run.{one, done, run_from, altering, ran_to, ran}
use Rattle.chip_run.proofs.RunLaws.{run_commands}
use Rattle.chip_run.specs.declared.Reason.TheVariants.{Closed}
use Rattle.chip_run.specs.declared.Ending.TheVariants.{Stopped}
use Rattle.chip_registers.specs.Groups.{group_at}
use Rattle.chip_play.proofs.Reaching.{Leads, leads}
use Rattle.chip_play.proofs.Demand3.{AllLegal}
use Rattle.std.specs.Prelude.{Err, Some}

module _ (c : Chip) (shut : ports_open (named c) ≡ false) where
  -- a list of commands of which the first is refused
  pub record Stops (cs : List Command) : Type 0 where
    pub first : Command
    pub others : List Command
    pub whole : cs ≡ first ∷ others
    pub refused : (one c 0 (Some first)).verdict ≡ Err Closed

  -- a run of it stops there, and has changed nothing
  pub stops_run : (cs : List Command) → Stops cs → ran c (bytes_of_all cs) (length cs) ≡ ran_to c 0 0 (Stopped 0 Closed)
  unfolding run_from altering
  stops_run cs s =
      ap (λ (ds : List Command). ran c (bytes_of_all ds) (length ds)) s.whole ∙ run_commands c (s.first ∷ s.others) (suc (length s.others))
      ∙ rw s.refused refl

  stops-behind : (cs ds : List Command) → Stops cs → Stops (cs ++ ds)
  stops-behind cs ds s = record {
    first = s.first;
    others = s.others ++ ds;
    whole = ap (λ (l : List Command). l ++ ds) s.whole;
    refused = s.refused;
  }

  out-stops : (p v : ℕ) (cs : List Command) → Stops (Out p v ∷ cs)
  unfolding one done port_written
  out-stops p v cs = record { first = Out p v; others = cs; whole = refl; refused = rw shut }

  in_stops : (p : ℕ) (cs : List Command) → Stops (In p ∷ cs)
  unfolding one done port_read
  in_stops p cs = record { first = In p; others = cs; whole = refl; refused = rw shut }

  set-stops : (w : Ways) (i v group : ℕ) → Leads true (group_at group) i w → Stops (set_by w i v)
  set-stops (Pair x p) i v group l = out-stops x i _
  set-stops (Pairs x p y q) i v group l = out-stops x i _
  set-stops (Direct w r) i v group l = out-stops w v _
  set-stops (Turns p r) i v group l = in_stops 0x3BA _
  set-stops Nowhere i v group l = absurd l

  field_stops : (w : Ways) (i k s group : ℕ) → Leads true (group_at group) i w → Stops (field_by w i k s)
  field_stops (Pair x p) i k s group l = out-stops x i _
  field_stops (Pairs x p y q) i k s group l = out-stops x i _
  field_stops (Direct w r) i k s group l = in_stops r _
  field_stops (Turns p r) i k s group l = in_stops 0x3BA _
  field_stops Nowhere i k s group l = absurd l

  step_stops : (s : Step) → legal s ≡ true → Stops (expanded s)
  unfolding expanded legal
  step_stops (Set group i v) lawful = set-stops (ways group) i v group (leads true group i lawful)
  step_stops (Field group i v m) lawful = field_stops (ways group) i _ v group (leads true group i (and_parts (names group i) (within v m) lawful).0)
  step_stops (Colour e r g b) lawful = out-stops 0x3C8 e _

  pub steps_stop : (ss : List Step) → AllLegal ss → 0 < length ss → Stops (commands_of ss)
  unfolding commands_of
  steps_stop [] lawful some = absurd (omega arith)
  steps_stop (s ∷ ss) lawful some = stops-behind (expanded s) (commands_of ss) (step_stops s lawful.0)
