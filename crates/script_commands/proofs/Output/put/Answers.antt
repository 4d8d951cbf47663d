-- Four bytes stored.
use mathlib.Core.Path.{refl}
use Rattle.std.proofs.Common.{arith}
use Rattle.std.proofs.lemmas.Grind.{common_steps}
use Rattle.script_commands.proofs.Writing.{wrote_one}
use Rattle.script_commands.proofs.Output.put.Goals as goal

pub returns : goal.returns
returns c = wrote_one c.args.c (grind (arith, common_steps)) c.requires refl
