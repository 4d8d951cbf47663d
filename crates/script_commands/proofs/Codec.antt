-- A command written and read again is the same command, and four bytes that are read as a command are its bytes. So the bytes
-- of a list of commands say the list.
use Prim.Native.Nat.{ℕ, ◌+◌, ◌*◌, ◌/◌, ◌%◌, ◌<◌}
use native.Mathlib.Omega.{arith}
use mathlib.Core.Bool.{Bool, true, false, cond, ◌&&◌}
use mathlib.Core.Path.{◌≡◌, refl, sym, ap, ◌∙◌}
use mathlib.Core.List.{List, [], ◌∷◌, ◌++◌, append_assoc}
use lib.Dec.{eqb}
use borrow.Author.Tests.{eqb-true}
use Rattle.std.proofs.lemmas.Bool.{and_parts}
use lib.ListN.{length, length-append}
use Rattle.script_commands.specs.Command.{bytes_of, command_of, bytes_of_all}
use Rattle.script_commands.specs.declared.Command.{Command}
use Rattle.script_commands.specs.declared.Command.TheVariants.{Out, In, Merge, OutAcc}
use Rattle.std.specs.Prelude.{Option, Some, None}

-- four bytes of a list read as a command
abbrev pub read_four : List ℕ → Option Command
read_four [] = None
read_four (a ∷ []) = None
read_four (a ∷ b ∷ []) = None
read_four (a ∷ b ∷ c ∷ []) = None
read_four (a ∷ b ∷ c ∷ d ∷ l) = command_of a b c d

pub port-whole : (p : ℕ) → p % 256 + p / 256 * 256 ≡ p
port-whole p = omega arith

pub bytes_read : (c : Command) → read_four (bytes_of c) ≡ Some c
unfolding command_of
bytes_read (Out p v) = ap (λ (x : ℕ). Some (Out x v)) (port-whole p)
bytes_read (In p) = ap (λ (x : ℕ). Some (In x)) (port-whole p)
bytes_read (Merge k s) = refl
bytes_read (OutAcc p) = ap (λ (x : ℕ). Some (OutAcc x)) (port-whole p)

-- the other way: four bytes that are read as a command are that command's
pub read-bytes : (a b c d : ℕ) (x : Command) → b < 256 → c < 256 → command_of a b c d ≡ Some x → bytes_of x ≡ a ∷ b ∷ c ∷ d ∷ []
unfolding command_of
read-bytes a b c d x hb hc is = go (eqb a 1) refl (eqb a 2 && eqb d 0) refl (eqb a 3 && eqb d 0) refl (eqb a 4 && eqb d 0) refl is
  where
    port : (b + c * 256) % 256 ≡ b
    port = omega arith

    high : (b + c * 256) / 256 ≡ c
    high = omega arith

    zero_last : (k : ℕ) → (eqb a k && eqb d 0) ≡ true → (a ≡ k) × (d ≡ 0)
    zero_last k e = let (p, q) = and_parts (eqb a k) (eqb d 0) e in (eqb-true a k p, eqb-true d 0 q)

    same : (y : Command) → Some y ≡ Some x → y ≡ x
    same y e = cc

    go : (o : Bool) → eqb a 1 ≡ o → (i : Bool) → (eqb a 2 && eqb d 0) ≡ i → (m : Bool) → (eqb a 3 && eqb d 0) ≡ m → (u : Bool) → (eqb a 4 && eqb d 0) ≡ u
        → cond o (Some (Out (b + c * 256) d)) (cond i (Some (In (b + c * 256))) (cond m (Some (Merge b c)) (cond u (Some (OutAcc (b + c * 256))) None))) ≡ Some x
        → bytes_of x ≡ a ∷ b ∷ c ∷ d ∷ []
    go true eo i ei m em u eu k = rw (← same _ k, port, high, eqb-true a 1 eo)
    go false eo true ei m em u eu k = let (p, q) = zero_last 2 ei in rw (← same _ k, port, high, p, q)
    go false eo false ei true em u eu k = let (p, q) = zero_last 3 em in rw (← same _ k, p, q)
    go false eo false ei false em true eu k = let (p, q) = zero_last 4 eu in rw (← same _ k, port, high, p, q)
    go false eo false ei false em false eu k = absurd (let z : ◌≡◌ {A = ℕ} 0 1 = cc in omega arith)

pub bytes-append : (xs ys : List Command) → bytes_of_all (xs ++ ys) ≡ bytes_of_all xs ++ bytes_of_all ys
unfolding bytes_of_all
bytes-append [] ys = refl
bytes-append (c ∷ xs) ys = ap (◌++◌ (bytes_of c)) (bytes-append xs ys) ∙ sym (append_assoc (bytes_of c) _ _)

pub four : (c : Command) → length (bytes_of c) ≡ 4
four (Out p v) = refl
four (In p) = refl
four (Merge k s) = refl
four (OutAcc p) = refl

pub length-bytes : (cs : List Command) → length (bytes_of_all cs) ≡ 4 * length cs
unfolding bytes_of_all
length-bytes [] = refl
length-bytes (c ∷ cs) =
    let h : length (bytes_of_all cs) ≡ 4 * length cs = length-bytes cs in
    let f : length (bytes_of c) ≡ 4 = four c in
    length-append (bytes_of c) (bytes_of_all cs) ∙ omega arith
