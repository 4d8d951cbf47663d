-- Commands written into an output: none, one, and commands behind commands.
use Prim.Native.Nat.{ℕ, ◌+◌, ◌≤◌}
use mathlib.Core.Bool.{cond}
use lib.Dec.{ltb}
use borrow.Author.Tests.{le-ltb}
use native.Mathlib.Omega.{arith}
use mathlib.Core.Path.{◌≡◌, refl, sym, ap, ◌∙◌}
use mathlib.Core.List.{List, [], ◌∷◌, ◌++◌, append-nil}
use lib.ListN.{length, length-append}
use Rattle.lists.specs.Put.{put, Added}
use Rattle.lists.proofs.Put.{put_nil, added_length, put_then}
use Rattle.script_commands.specs.Command.{bytes_of, bytes_of_all}
use Rattle.script_commands.specs.Working.{Wrote}
use Rattle.script_commands.specs.declared.Command.{Command}
use Rattle.script_commands.specs.declared.Output.{Output}
use Rattle.script_commands.proofs.Codec.{four, bytes-append, length-bytes}

pub wrote_none : (o : Output) → Wrote o [] o
unfolding bytes_of_all
wrote_none o = record { bytes = sym (put_nil o.bytes.now o.at); next = omega arith; size = refl; same_reference = refl }

pub wrote_one : {o o' : Output} (c : Command) → Added o.bytes.now o.at (bytes_of c) o'.bytes.now o'.at → o.at + 4 ≤ length o.bytes.now
    → o'.bytes.ghost_name ≡ o.bytes.ghost_name → Wrote o (c ∷ []) o'
unfolding bytes_of_all
wrote_one {o} {o'} c added room same = record {
  bytes = added.now ∙ ap (put o.bytes.now o.at) (sym (append-nil (bytes_of c)));
  next = omega (arith, added.next, four c);
  size = added_length added (omega (arith, added.next, four c));
  same_reference = same;
}

pub wrote_then : {o o₁ o₂ : Output} {cs ds : List Command} → Wrote o cs o₁ → Wrote o₁ ds o₂ → o₂.at ≤ length o.bytes.now → Wrote o (cs ++ ds) o₂
wrote_then {o} {o₁} {o₂} {cs} {ds} p q room = record {
  bytes =
      rw bytes-append
      (put_then o.bytes.now (bytes_of_all cs) (bytes_of_all ds) o.at o₁.at p.bytes q.bytes (omega (arith, p.next, length-bytes cs))
      (omega (arith, p.next, q.next, length-bytes cs, length-bytes ds)));
  next = omega (arith, p.next, q.next, length-append cs ds);
  size = q.size ∙ p.size;
  same_reference = q.same_reference ∙ p.same_reference;
}

-- what `add_step` promises where there is room
pub wrote_added : {o o' : Output} {cs : List Command} {out : List ℕ} → Wrote o cs o' → out ≡ o'.bytes.now → o.at + 32 ≤ length o.bytes.now
    → Added o.bytes.now o.at (cond (ltb (length o.bytes.now) (o.at + 32)) [] (bytes_of_all cs)) out o'.at
wrote_added {o} {o'} {cs} w same room = rw (le-ltb _ _ room) (record { now = same ∙ w.bytes; next = omega (arith, w.next, length-bytes cs) })
