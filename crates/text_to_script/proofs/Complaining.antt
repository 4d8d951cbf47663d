-- How long a complaint is.
use Prim.Native.Nat.{ℕ, ◌≤◌}
use native.Mathlib.Omega.{arith}
use mathlib.Core.Bool.{Bool, true, false, cond}
use lib.Dec.{eqb}
use lib.ListN.{length, length-append}
use Rattle.text.specs.Ascii.{ascii}
use Rattle.text.proofs.Adding.{placed_most}
use Rattle.text_refusals.specs.Complaint.{reason}
use Rattle.text_refusals.proofs.Lengths.{reason_most}
use Rattle.script.specs.Numbers.{of_refusal}
use Rattle.text_to_script.specs.Compose.{verdict_number}
use Rattle.text_to_script.specs.Complaint.{line_number, wrong, stopped_place, complaint}
use Rattle.std.specs.Prelude.{Result, Ok, Err}
use Rattle.text_to_script.specs.declared.ComposeError.{ComposeError}
use Rattle.text_to_script.specs.declared.ComposeError.TheVariants.{Stopped, Refused as NotWritten}

pub wrong_most : (n : ℕ) → length (wrong n) ≤ 91
unfolding wrong
wrong_most n = go (eqb n 0)
  where
    go : (b : Bool) → length (cond b (ascii "not a step\n") (reason n)) ≤ 91
    go true = omega arith
    go false = reason_most n

pub place_most : (k : ℕ) → length (stopped_place k) ≤ 36
place_most k = placed_most (ascii "compose: line ") (line_number k)

pub complaint_most : (c : Result ℕ ComposeError) → length (complaint c) ≤ 128
unfolding complaint
complaint_most (Ok n) = omega arith
complaint_most (Err (Stopped v k)) =
    let e = length-append (stopped_place k) (wrong (verdict_number v)) in
    omega (arith, place_most k, wrong_most (verdict_number v))
complaint_most (Err (NotWritten r)) = omega (arith, reason_most (of_refusal r).number)
