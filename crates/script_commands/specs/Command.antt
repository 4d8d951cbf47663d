-- A command's four bytes: document 01, "Commands". A command of no known form has a kind other than 1 to 4, or a last byte that
-- has to be 0 and is not. That reading and writing undo each other is proofs/Codec.
use Rattle.std.specs.Prelude.{ℕ, ◌+◌, ◌*◌, ◌/◌, ◌%◌, cond, ◌&&◌, List, [], ◌∷◌, ◌++◌, eqb, Option, Some, None}
use Rattle.script_commands.specs.declared.Command.{Command}
use Rattle.script_commands.specs.declared.Command.TheVariants.{Out, In, Merge, OutAcc}

-- "1 OUT (port low, port high, value); 2 IN to the accumulator (port, 0); 3 MERGE (keep, set, 0); 4 OUT of the accumulator
-- (port, 0)"
abbrev pub bytes_of : Command → List ℕ
bytes_of (Out port value) = 1 ∷ port % 256 ∷ port / 256 ∷ value ∷ []
bytes_of (In port) = 2 ∷ port % 256 ∷ port / 256 ∷ 0 ∷ []
bytes_of (Merge keep set) = 3 ∷ keep ∷ set ∷ 0 ∷ []
bytes_of (OutAcc port) = 4 ∷ port % 256 ∷ port / 256 ∷ 0 ∷ []

-- four bytes read as a command
unfoldable pub command_of : ℕ → ℕ → ℕ → ℕ → Option Command
command_of a b c d =
    cond (eqb a 1) (Some (Out (b + c * 256) d))
    (cond (eqb a 2 && eqb d 0) (Some (In (b + c * 256)))
    (cond (eqb a 3 && eqb d 0) (Some (Merge b c))
    (cond (eqb a 4 && eqb d 0) (Some (OutAcc (b + c * 256)))
    None)))

-- the bytes of commands, one behind the other
unfoldable pub bytes_of_all : List Command → List ℕ
bytes_of_all [] = []
bytes_of_all (c ∷ cs) = bytes_of c ++ bytes_of_all cs
