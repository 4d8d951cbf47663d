-- A script by hand: its short list, command for command. The second step on XR60 and the second on CR0C send no index, though
-- another group's step and MSR stand between; both COLOURs write 3C8h, and the AR step has all its commands.
use mathlib.Core.Path.{◌≡◌, refl}
use mathlib.Core.List.{List, [], ◌∷◌}
use Rattle.script_steps.specs.declared.Step.{Step}
use Rattle.script_steps.specs.declared.Step.TheVariants.{Set, Field, Colour}
use Rattle.script_commands.specs.Expansion.{ways, expanded, commands_of}
use Rattle.script_commands.specs.declared.Command.TheVariants.{Out, In, Merge, OutAcc}
use Rattle.script_short.specs.Short.{last_sent, shortened, omitted}

abbrev pub written : List Step
written =
    Set 3 0x60 0x43
    ∷ Set 1 0x01 0x21
    ∷ Field 3 0x60 0x00 0x01
    ∷ Set 0 0x0C 0x12
    ∷ Set 6 0x00 0x01
    ∷ Set 0 0x0C 0x34
    ∷ Set 0 0x0D 0x34
    ∷ Colour 0x05 0x3F 0x00 0x15
    ∷ Colour 0x05 0x3F 0x00 0x16
    ∷ Set 8 0x11 0x07
    ∷ []

pub short_by_hand : shortened [] (commands_of written)
    ≡ Out 0x3D6 0x60 ∷ Out 0x3D7 0x43
    ∷ Out 0x3C4 0x01 ∷ Out 0x3C5 0x21
    ∷ In 0x3D7 ∷ Merge 0xFE 0x00 ∷ OutAcc 0x3D7
    ∷ Out 0x3B4 0x0C ∷ Out 0x3B5 0x12 ∷ Out 0x3D4 0x0C ∷ Out 0x3D5 0x12
    ∷ Out 0x3C2 0x01
    ∷ Out 0x3B5 0x34 ∷ Out 0x3D5 0x34
    ∷ Out 0x3B4 0x0D ∷ Out 0x3B5 0x34 ∷ Out 0x3D4 0x0D ∷ Out 0x3D5 0x34
    ∷ Out 0x3C8 0x05 ∷ Out 0x3C9 0x3F ∷ Out 0x3C9 0x00 ∷ Out 0x3C9 0x15
    ∷ Out 0x3C8 0x05 ∷ Out 0x3C9 0x3F ∷ Out 0x3C9 0x00 ∷ Out 0x3C9 0x16
    ∷ In 0x3BA ∷ In 0x3DA ∷ In 0x3C0 ∷ Merge 0x20 0x11 ∷ OutAcc 0x3C0 ∷ Out 0x3C0 0x07
    ∷ []
unfolding commands_of expanded ways shortened last_sent
short_by_hand = refl

-- three writes are left out: one to 3D6h, one to 3B4h and one to 3D4h
pub omitted_by_hand : omitted [] (commands_of written) ≡ 3
unfolding commands_of expanded ways omitted last_sent
omitted_by_hand = refl
