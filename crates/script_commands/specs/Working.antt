-- For the contracts of functions on the way: nothing here has to be believed. A step's commands by the way its group is reached,
-- once for SET and FIELD, and what `put_steps` leaves in the output.
use Rattle.std.specs.Prelude.{ℕ, ◌+◌, ◌*◌, ◌≡◌, Bool, List, [], ◌∷◌, ◌++◌, length, Option, Result, Ok, Err}
use Rattle.lists.specs.Put.{put}
use Rattle.script_commands.specs.Command.{bytes_of_all}
use Rattle.script_commands.specs.Expansion.{turned, change}
use Rattle.script_commands.specs.Known.{index_write}
use Rattle.script_commands.specs.declared.Command.{Command}
use Rattle.script_commands.specs.declared.Command.TheVariants.{Out}
use Rattle.script_commands.specs.declared.Data.{Data}
use Rattle.script_commands.specs.declared.Data.TheVariants.{Byte, Merged}
use Rattle.script_commands.specs.declared.Output.{Output}
use Rattle.script_commands.specs.declared.Ways.{Ways}
use Rattle.script_commands.specs.declared.Ways.TheVariants.{Pair, Pairs, Direct, Turns, Nowhere}
use Rattle.script.specs.declared.Refusal.{Refusal}
use Rattle.script_steps.specs.declared.Step.{Step}

-- what a data port receives, written to port w; a FIELD reads it at port r
abbrev pub at_port : ℕ → ℕ → Data → List Command
at_port w r (Byte v) = Out w v ∷ []
at_port w r (Merged keep set) = change w r keep set

abbrev pub indexed : Bool → ℕ → ℕ → ℕ → Data → List Command
indexed known x p i sent = index_write known x i ++ at_port p p sent

-- `set_known` and `field_known` of Known in one
abbrev pub by_way : Bool → Ways → ℕ → Data → List Command
by_way known (Pair x p) i sent = indexed known x p i sent
by_way known (Pairs x p y q) i sent = indexed known x p i sent ++ indexed known y q i sent
by_way known (Direct w r) i sent = at_port w r sent
by_way known (Turns p r) i sent = turned p i ++ at_port p r sent
by_way known Nowhere i sent = []

-- commands are written into an output, one behind the other, which stays the output that was lent
pub record Wrote (before : Output) (cs : List Command) (after : Output) : Type 0 where
  pub bytes : after.bytes.now ≡ put before.bytes.now before.at (bytes_of_all cs)
  pub next : after.at ≡ before.at + 4 * length cs
  pub size : length after.bytes.now ≡ length before.bytes.now
  pub same_reference : after.bytes.ghost_name ≡ before.bytes.ghost_name

-- what is answered where the reader hands out no step
abbrev pub without_step : Result (Option Step) Refusal → ℕ → Result ℕ Refusal
without_step (Ok next) k = Ok k
without_step (Err why) k = Err why

-- commands stand in front of an output, and are counted
pub record StepsPut (cs : List Command) (before after : List ℕ) (r : Result ℕ Refusal) : Type 0 where
  pub answer : r ≡ Ok (length cs)
  pub bytes : after ≡ put before 0 (bytes_of_all cs)
