-- Laws of the expansion: a step has at most 8 commands, and so n steps at most 8 n; steps behind each other have their commands
-- behind each other.
use Prim.Native.Nat.{ℕ, zero, suc, ◌+◌, ◌*◌, ◌≤◌}
use native.Mathlib.Omega.{arith}
use mathlib.Core.Path.{◌≡◌, refl, sym, ap, ◌∙◌}
use mathlib.Core.List.{List, [], ◌∷◌, ◌++◌, append_assoc, append-nil}
use lib.ListN.{length, length-append}
use Rattle.script_steps.specs.declared.Step.{Step}
use Rattle.script.specs.Reader.{next_of}
use Rattle.script_commands.specs.Expansion.{expanded, commands_of}
use Rattle.script_commands.specs.Translation.{handed, steps_to, commands_to, begins}
use Rattle.script_commands.proofs.Knowing.{nothing_known, known_most}
use Rattle.std.specs.Prelude.{false, Result, Option, Ok, Err, Some, None}
use Rattle.script.specs.declared.Refusal.{Refusal}

-- "So a step has at most 8 commands and 32 bytes."
pub expanded_most : (s : Step) → length (expanded s) ≤ 8
expanded_most s = rw (← nothing_known s) (known_most false s)

pub commands_append : (ss ts : List Step) → commands_of (ss ++ ts) ≡ commands_of ss ++ commands_of ts
unfolding commands_of
commands_append [] ts = refl
commands_append (s ∷ ss) ts = ap (◌++◌ (expanded s)) (commands_append ss ts) ∙ sym (append_assoc (expanded s) _ _)

pub commands_one : (s : Step) → commands_of (s ∷ []) ≡ expanded s
unfolding commands_of
commands_one s = append-nil (expanded s)

-- the commands of one step more
pub commands_next : (f : List ℕ) (n : ℕ) (s : Step) → next_of f n ≡ Ok (Some s) → commands_to f (suc n) ≡ commands_to f n ++ expanded s
unfolding steps_to
commands_next f n s is =
    ap (λ (r : Result (Option Step) Refusal). commands_of (steps_to f n ++ handed r)) is ∙ commands_append (steps_to f n) (s ∷ [])
    ∙ ap (◌++◌ (commands_to f n)) (commands_one s)

pub commands_none : commands_of [] ≡ []
unfolding commands_of
commands_none = refl

one_most : (r : Result (Option Step) Refusal) → length (commands_of (handed r)) ≤ 8
one_most (Ok (Some s)) = rw (commands_one s) (expanded_most s)
one_most (Err r) = rw commands_none (omega arith)
one_most (Ok None) = rw commands_none (omega arith)

pub begins_most : (f : List ℕ) (n : ℕ) → begins f n ≤ 8 * n
unfolding steps_to
begins_most f zero = rw commands_none (omega arith)
begins_most f (suc n) =
    let h : begins f n ≤ 8 * n = begins_most f n in
    let o : length (commands_of (handed (next_of f n))) ≤ 8 = one_most (next_of f n) in
    rw (commands_append (steps_to f n) (handed (next_of f n))) (simp length-append (omega arith))
