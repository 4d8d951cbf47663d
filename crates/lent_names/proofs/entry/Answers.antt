-- Three bytes.
use Prim.Native.Nat.{ℕ, ◌+◌, ◌*◌, ◌<◌}
use mathlib.Core.Path.{◌≡◌, sym}
use mathlib.Core.List.{List}
use lib.ListN.{get_or}
use Rattle.chip.specs.State.{named}
use Rattle.chip.specs.Palette.{rgb, entry}
use Rattle.lent_chip.specs.Layout.{PALETTE, view}
use Rattle.lent_chip.proofs.Stores.{get_colour}
use borrow.Author.Rules.{rules}
use native.Mathlib.Omega.{arith}
use Rattle.lent_names.proofs.entry.Goals as goal

entry_at : (l : List ℕ) (e : ℕ) → e < 256
    → entry (named (view l)) e ≡ rgb (get_or l (PALETTE + 3 * e) 0) (get_or l (PALETTE + 3 * e + 1) 0) (get_or l (PALETTE + 3 * e + 2) 0)
entry_at l e h =
    let x : PALETTE + 3 * e + 1 ≡ PALETTE + (3 * e + 1) = omega arith in
    let y : PALETTE + 3 * e + 2 ≡ PALETTE + (3 * e + 2) = omega arith in
    rw (x, y) (get_colour l e h)

pub returns : goal.returns
returns c = sym (entry_at c.args.state.now c.args.e (omega arith))
