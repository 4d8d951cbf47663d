-- A complaint begins with the program's name; and what stands in front of an output.
use mathlib.Core.Path.{◌≡◌}
use Rattle.std.proofs.Common.{append_assoc}
use mathlib.Core.List.{List, [], ◌∷◌, ◌++◌}
use Prim.Native.Nat.{ℕ}
use native.Mathlib.Omega.{arith}
use lib.ListN.{length, take, drop}
use Rattle.std.proofs.Math.Seq.{take-append_seam}
use Rattle.lists.specs.Put.{put, Added}
use Rattle.script.specs.declared.Refusal.{Refusal}
use Rattle.text_refusals.specs.Complaint.{complaint}

pub name_first : (name : List ℕ) (why : Refusal) → complaint name why ≡ name ++ complaint [] why
unfolding complaint
name_first name why = simp append_assoc

-- what was added in front of an output stands there
front : (o x : List ℕ) → put o 0 x ≡ x ++ drop (length x) o
front [] x = grind arith
front (c ∷ cs) x = grind arith

pub added_front : {o x o' : List ℕ} {n : ℕ} → Added o 0 x o' n → take n o' ≡ x
added_front {o} {x} {o'} {n} a =
    let e : n ≡ length x = omega (arith, a.next) in
    rw (e, a.now, front) (take-append_seam x (drop (length x) o))
