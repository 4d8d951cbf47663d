-- Two lists of commands that do the same from a state: they leave the same state and accumulator, and as many of them change a
-- register or a colour. A command that does nothing there can be left out.
use Prim.Native.Nat.{ℕ, ◌+◌}
use native.Mathlib.Nat.{zero-add}
use mathlib.Core.Path.{◌≡◌, refl, sym, ap, ap₂, ◌∙◌}
use mathlib.Core.List.{List, ◌∷◌, ◌++◌}
use Rattle.chip.specs.State.{Chip, Named, join}
use Rattle.chip.proofs.DifferLaws.{unmoved}
use Rattle.chip.specs.declared.Indexes.{Indexes}
use Rattle.chip.specs.declared.Loading.{Loading}
use Rattle.script_commands.specs.declared.Command.{Command}
use Rattle.chip_run.specs.Run.{did, one, carry, altering}
use Rattle.chip_run.proofs.RunLaws.{carry-append, knowns}
use Rattle.chip_run.proofs.ChangingLaws.{altering-append}
use Rattle.chip_play.proofs.Sends.{Sends, Is, knowns-append}
use Rattle.std.specs.Prelude.{Ok, Some}

pub record Alike (c : Chip) (a : ℕ) (cs ds : List Command) : Type 0 where
  pub leaves : carry c a (knowns cs) ≡ carry c a (knowns ds)
  pub alters : altering c a (knowns cs) ≡ altering c a (knowns ds)

pub alike_self : {c : Chip} {a : ℕ} {cs : List Command} → Alike c a cs cs
alike_self = record { leaves = refl; alters = refl }

pub alike_then : {c : Chip} {a : ℕ} {cs ds es : List Command} → Alike c a cs ds → Alike c a ds es → Alike c a cs es
alike_then s t = record { leaves = s.leaves ∙ t.leaves; alters = s.alters ∙ t.alters }

-- one behind the other, where the first are carried out
pub alike-append : {c d : Chip} {a b : ℕ} (xs xs' ys ys' : List Command) → carry c a (knowns xs) ≡ did (Ok tt) b d → Alike c a xs xs' → Alike d b ys ys'
    → Alike c a (xs ++ ys) (xs' ++ ys')
alike-append {c} {d} {a} {b} xs xs' ys ys' goes s t =
    let goes' : carry c a (knowns xs') ≡ did (Ok tt) b d = sym s.leaves ∙ goes in
    record {
      leaves =
          ap (carry c a) (knowns-append xs ys) ∙ carry-append (knowns xs) (knowns ys) c d a b goes ∙ t.leaves
          ∙ sym (ap (carry c a) (knowns-append xs' ys') ∙ carry-append (knowns xs') (knowns ys') c d a b goes');
      alters =
          ap (altering c a) (knowns-append xs ys) ∙ altering-append (knowns xs) (knowns ys) c d a b goes
          ∙ ap₂ (λ (j k : ℕ). j + k) s.alters t.alters
          ∙ sym (ap (altering c a) (knowns-append xs' ys') ∙ altering-append (knowns xs') (knowns ys') c d a b goes');
    }

-- a command that does nothing in a state
abbrev pub Void : Chip → Command → Type 0
Void c x = (a : ℕ) → one c a (Some x) ≡ did (Ok tt) a c

pub left_out_lem : {c : Chip} {a : ℕ} (x : Command) (cs : List Command) → Void c x → Alike c a (x ∷ cs) cs
unfolding carry altering
left_out_lem {c} {a} x cs idle = record { leaves = rw (idle a) refl; alters = rw (idle a, unmoved c c refl, zero-add) refl }

-- .. also behind others that leave the indexes
pub left_out-behind : {x : Indexes} {n m : Named} {k : ℕ} (l : Loading) (a : ℕ) (xs : List Command) (y : Command) (ys : List Command)
    → Sends (Is x) n xs m (Is x) k → ((z : Indexes) (l' : Loading) → Is x z → Void (join m z l') y)
    → Alike (join n x l) a (xs ++ (y ∷ ys)) (xs ++ ys)
left_out-behind {x} l a xs y ys sends idle =
    let (z, l', b, goes, e) = sends.runs x l a refl in
    alike-append xs xs (y ∷ ys) ys goes.ends alike_self (left_out_lem y ys (idle z l' e))
