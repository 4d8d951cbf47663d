-- The loop's invariant: what is still to come from here is the whole of it, and the place is not past the end.
use Prim.Native.Nat.{ℕ, ◌≤◌, max}
use mathlib.Core.List.{List}
use mathlib.Core.Path.{◌≡◌}
use lib.ListN.{length, drop}
use Rattle.workbench_input.specs.Acts.{Bench}
use Rattle.workbench_input.specs.Lines.{LentInput, fed}
use Rattle.workbench_input.specs.View.{view_bench}
use Rattle.workbench_input.proofs.lines.feed.Given as goal

-- the input that the loop's variables are
abbrev pub here : Bench → List ℕ → List ℕ → ℕ → List ℕ → ℕ → LentInput
here b store line size out next = record { bench = b; store = store; line = line; size = size; out = out; next = next }

abbrev pub invariant-loop-i : goal.invariant-loop-i
invariant-loop-i l =
    (fed (here (view_bench l.bench) l.store l.line l.size l.out l.next) l.i (drop l.i l.bytes) ≡ fed (here (view_bench l.initial.bench) l.initial.store l.initial.line l.initial.size l.initial.out l.initial.next) l.from (drop l.from l.bytes))
    × (length l.store ≡ length l.initial.store) × (length l.line ≡ length l.initial.line) × (length l.out ≡ length l.initial.out)
    × (l.i ≤ max l.from (length l.bytes))
