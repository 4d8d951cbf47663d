-- The text's length lies within the buffer that it was put into.
use Rattle.std.proofs.Common.{◌≡◌, ℕ, ◌≤◌, List, length, take, sym, ap, arith, length-take-le}
use Rattle.text_listing.specs.Text.{listed}
use Rattle.text_listing.proofs.TextLaws.{counted, listed-within}
use Rattle.listing.proofs.run.Goals as goal

inside : (file : List ℕ) (work room n : ℕ) (text : List ℕ) → n ≡ counted (listed file work room) → length text ≡ room
    → (n ≤ length text) × (n ≡ length (take n text))
inside file work room n text e same =
    let h : n ≤ length text = omega (arith, listed-within file work room) in
    (h, sym (length-take-le n text h))

pub slice_bounds-text-end : goal.slice_bounds-text-end
slice_bounds-text-end g c = (inside _ _ _ c.in-Ok.n _ (ap counted c.in-Ok.ensures.value) c.list.auto.out).0

pub slice_bounds-print-end-in-Ok : goal.slice_bounds-print-end-in-Ok
slice_bounds-print-end-in-Ok g c = (inside _ _ _ c.in-Ok.n _ (ap counted c.in-Ok.ensures.value) c.list.auto.out).1

pub slice_bounds-text-end-in-Err-Refused : goal.slice_bounds-text-end-in-Err-Refused
slice_bounds-text-end-in-Err-Refused g c =
    let e = rw c.in-Err-Refused.field-0-is at c.in-Err-Refused.ensures.value in
    (inside _ _ _ c.in-Err-Refused.n _ (ap counted e) c.list.auto.out).0

pub slice_bounds-print-end-in-Err-Refused-2 : goal.slice_bounds-print-end-in-Err-Refused-2
slice_bounds-print-end-in-Err-Refused-2 g c =
    let e = rw c.in-Err-Refused.field-0-is at c.in-Err-Refused.ensures.value in
    (inside _ _ _ c.in-Err-Refused.n _ (ap counted e) c.list.auto.out).1
