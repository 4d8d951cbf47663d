-- Four bytes of no known form, and a command.
use Rattle.std.proofs.Common.{refl, sym}
use Rattle.chip.specs.View.{view}
use Rattle.chip.proofs.DifferLaws.{unmoved}
use Rattle.script_commands.specs.Command.{command_of}
use Rattle.chip_run.specs.Run.{one}
use Rattle.chip_run.specs.View.{view_did}
use Rattle.chip_run.proofs.RunNumbers.{command_answered}
use Rattle.chip_run.proofs.command.Goals as goal

pub returns-in_default : goal.returns-in_default
unfolding one
returns-in_default c = rw (← c.command_of.ensures, c.in_default.is) record {
  result_value = refl;
  verdict_value = refl;
  changed_value = sym (unmoved _ _ refl);
}

pub returns : goal.returns
unfolding one
returns c =
    let a = c.args in
    let did = c.carry_out in
    let (result, (verdict, changed)) =
    command_answered (view a.chip) a.acc (command_of a.a a.b a.c a.d) {d = view_did did.result} {b = did.result.changed}
    (rw (← c.command_of.ensures, c.in-Some.is) did.ensures.shown) (rw (← c.command_of.ensures, c.in-Some.is) did.ensures.counted) in
    record { result_value = result; verdict_value = verdict; changed_value = changed }
