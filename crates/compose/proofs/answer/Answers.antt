-- The file lies within the buffer that it was put into.
use Rattle.std.proofs.Common.{◌≡◌, ℕ, ◌*◌, ◌≤◌, List, [], length, take, sym, arith, length-take-le, Ok}
use Rattle.text_to_script.specs.Compose.{composed}
use Rattle.text_to_script.specs.Lines.{text_lines}
use Rattle.text_to_script.proofs.Gathering.{composed-within}
use Rattle.compose.proofs.answer.Goals as goal

inside : (text : List ℕ) (room n : ℕ) (file : List ℕ) → Ok n ≡ composed text room → length file ≡ room
    → (512 * n ≤ length file) × (512 * n ≡ length (take (512 * n) file))
inside text room n file e same =
    let h : 512 * n ≤ length file = omega (arith, composed-within (text_lines text) 0 [] room n (sym e)) in
    (h, sym (length-take-le (512 * n) file h))

pub overflow_mul-file : goal.overflow_mul-file
overflow_mul-file g c =
    let h = (inside _ _ c.in-Ok.count _ c.in-Ok.ensures.value c.compose-made.auto.out).0 in
    omega arith

pub slice_bounds-file-end-2 : goal.slice_bounds-file-end-2
slice_bounds-file-end-2 g c = (inside _ _ c.in-Ok.count _ c.in-Ok.ensures.value c.compose-made.auto.out).0

pub slice_bounds-print-end-2 : goal.slice_bounds-print-end-2
slice_bounds-print-end-2 g c = (inside _ _ c.in-Ok.count _ c.in-Ok.ensures.value c.compose-made.auto.out).1
