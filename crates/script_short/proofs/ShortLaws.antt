-- Laws of the short list. 3C8h and 3C0h always stay (`palette-stays`, `attribute_stays`), and a script's first command too
-- (`first-stays`). A list of two parts is shortened part by part, the second behind the first (`short_append`). What is left out
-- is counted, so the list is never longer than the plain one (`short_length`).
use Prim.Native.Nat.{ℕ, suc, ◌+◌, ◌*◌, ◌≤◌}
use native.Mathlib.Omega.{arith}
use mathlib.Core.Bool.{Bool, true, false, cond, and-false}
use mathlib.Core.Path.{◌≡◌, refl, ap, ◌∙◌}
use mathlib.Core.List.{List, [], ◌∷◌, ◌++◌}
use lib.ListN.{length}
use Rattle.script_steps.specs.declared.Step.{Step}
use Rattle.script_commands.specs.Expansion.{expanded, commands_of}
use Rattle.script_commands.specs.Translation.{commands_to, begins}
use Rattle.script_commands.specs.declared.Command.{Command}
use Rattle.script_commands.specs.declared.Command.TheVariants.{Out, In, Merge, OutAcc}
use Rattle.script_commands.proofs.Expanding.{commands_append, commands_one, begins_most}
use Rattle.script_short.specs.Short.{is_index_port, last_sent, left_out, shortened, omitted, short_to, short_begins}

-- ---- what always stays
pub palette-stays : (before : List Command) (v : ℕ) → left_out before (Out 0x3C8 v) ≡ false
palette-stays before v = refl

pub attribute_stays : (before : List Command) (v : ℕ) → left_out before (Out 0x3C0 v) ≡ false
attribute_stays before v = refl

-- a script's first command, whatever a state's indexes are
pub first-stays : (f : List ℕ) (n : ℕ) (c : Command) (cs : List Command) → commands_to f n ≡ c ∷ cs → short_to f n ≡ c ∷ shortened (c ∷ []) cs
unfolding shortened last_sent
first-stays f n (Out p i) cs is = ap (shortened []) is ∙ rw (and-false (is_index_port p)) refl
first-stays f n (In p) cs is = ap (shortened []) is
first-stays f n (Merge k s) cs is = ap (shortened []) is
first-stays f n (OutAcc p) cs is = ap (shortened []) is

-- commands behind others, with the last first
unfoldable pub past : List Command → List Command → List Command
past before [] = before
past before (c ∷ cs) = past (c ∷ before) cs

pub past-append : (before xs ys : List Command) → past before (xs ++ ys) ≡ past (past before xs) ys
unfolding past
past-append before [] ys = refl
past-append before (c ∷ xs) ys = past-append (c ∷ before) xs ys

pub short_append : (before xs ys : List Command) → shortened before (xs ++ ys) ≡ shortened before xs ++ shortened (past before xs) ys
unfolding past shortened
short_append before [] ys = refl
short_append before (c ∷ xs) ys = go (left_out before c) (short_append (c ∷ before) xs ys)
  where
    go : (z : Bool) → shortened (c ∷ before) (xs ++ ys) ≡ shortened (c ∷ before) xs ++ shortened (past (c ∷ before) xs) ys
        → cond z (shortened (c ∷ before) (xs ++ ys)) (c ∷ shortened (c ∷ before) (xs ++ ys))
        ≡ cond z (shortened (c ∷ before) xs) (c ∷ shortened (c ∷ before) xs) ++ shortened (past (c ∷ before) xs) ys
    go true h = h
    go false h = ap (◌∷◌ c) h

-- ---- "Its length is the plain length less the writes left out, and never more."
pub short_length : (before cs : List Command) → length (shortened before cs) + omitted before cs ≡ length cs
unfolding shortened omitted
short_length before [] = refl
short_length before (c ∷ cs) = go (left_out before c) (short_length (c ∷ before) cs)
  where
    go : (z : Bool) → length (shortened (c ∷ before) cs) + omitted (c ∷ before) cs ≡ length cs
        → length (cond z (shortened (c ∷ before) cs) (c ∷ shortened (c ∷ before) cs)) + (cond z 1 0 + omitted (c ∷ before) cs) ≡ suc (length cs)
    go true h = omega arith
    go false h = omega arith

pub short_shorter : (f : List ℕ) (n : ℕ) → short_begins f n ≤ begins f n
short_shorter f n = omega (arith, short_length [] (commands_to f n))

pub short_most : (f : List ℕ) (n : ℕ) → short_begins f n ≤ 8 * n
short_most f n = omega (arith, short_shorter f n, begins_most f n)

-- ---- the list of steps, one by one
pub short_start : shortened [] (commands_of []) ≡ []
unfolding commands_of shortened
short_start = refl

-- one step more
pub short_next : (ss : List Step) (s : Step) → shortened [] (commands_of (ss ++ (s ∷ []))) ≡ shortened [] (commands_of ss) ++ shortened (past [] (commands_of ss)) (expanded s)
short_next ss s =
    ap (shortened []) (commands_append ss (s ∷ []) ∙ ap (◌++◌ (commands_of ss)) (commands_one s)) ∙ short_append [] (commands_of ss) (expanded s)
