-- Input in parts is the same as in one: bytes taken behind others, and bytes fed behind others that found room; and the bytes
-- that were fed are the first ones, each taken once.
use Prim.Native.Nat.{ℕ, suc, ◌+◌, ◌-◌, ◌≤◌, ◌<◌}
use mathlib.Core.Path.{◌≡◌, refl, sym, ap, ◌∙◌}
use mathlib.Core.Bool.{Bool, true, false}
use mathlib.Core.List.{List, [], ◌∷◌, ◌++◌}
use native.Mathlib.Nat.{add-zero}
use native.Mathlib.Omega.{arith}
use lib.ListN.{length, take, drop, get_or}
use lib.Seq.{take-nil, drop-cons}
use Rattle.workbench_input.specs.Lines.{LentInput, Place, place, has_room, taken, taken_all, fed}

pub taken-append : (s : LentInput) (x y : List ℕ) → taken_all s (x ++ y) ≡ taken_all (taken_all s x) y
unfolding taken_all
taken-append s [] y = refl
taken-append s (c ∷ x) y = taken-append (taken s c) x y

-- one byte, with room and without
fed-room : (s : LentInput) (i c : ℕ) (cs : List ℕ) → has_room s ≡ true
    → fed s i (c ∷ cs) ≡ fed (taken s c) (i + 1) cs
unfolding fed
fed-room s i c cs e = rw e

fed-none : (s : LentInput) (i c : ℕ) (cs : List ℕ) → has_room s ≡ false → fed s i (c ∷ cs) ≡ place s i
unfolding fed
fed-none s i c cs e = rw e

-- ---- the place moves on
abbrev Behind : LentInput → ℕ → List ℕ → Type 0
Behind s i cs = i ≤ (fed s i cs).from

behind_by : (s : LentInput) (i c : ℕ) (cs : List ℕ) (b : Bool) → has_room s ≡ b → Behind (taken s c) (i + 1) cs
    → Behind s i (c ∷ cs)
behind_by s i c cs true e h = rw (fed-room s i c cs e) (omega arith)
behind_by s i c cs false e h = rw (fed-none s i c cs e) (omega arith)

pub fed-behind : (s : LentInput) (i : ℕ) (cs : List ℕ) → i ≤ (fed s i cs).from
unfolding fed
fed-behind s i [] = omega arith
fed-behind s i (c ∷ cs) = behind_by s i c cs (has_room s) refl (fed-behind (taken s c) (i + 1) cs)

-- by one byte at the least, where there is one and room for a reply
pub fed_moves : (s : LentInput) (i : ℕ) (bytes : List ℕ) → i < length bytes → has_room s ≡ true → i < (fed s i (drop i bytes)).from
fed_moves s i bytes h e =
    let t : LentInput = taken s (get_or bytes i 0) in
    let k : i + 1 ≤ (fed t (i + 1) (drop (suc i) bytes)).from = fed-behind t (i + 1) (drop (suc i) bytes) in
    rw (drop-cons bytes i 0 h, fed-room s i (get_or bytes i 0) (drop (suc i) bytes) e) (omega arith)

-- ---- the bytes before it were taken
abbrev First : LentInput → ℕ → List ℕ → Type 0
First s i cs = (fed s i cs).input ≡ taken_all s (take ((fed s i cs).from - i) cs)

first_by : (s : LentInput) (i c : ℕ) (cs : List ℕ) (b : Bool) → has_room s ≡ b → First (taken s c) (i + 1) cs → First s i (c ∷ cs)
unfolding taken_all
first_by s i c cs true e h =
    let p : Place = fed (taken s c) (i + 1) cs in
    let k : i + 1 ≤ p.from = fed-behind (taken s c) (i + 1) cs in
    let n : p.from - i ≡ suc (p.from - (i + 1)) = omega arith in
    rw (fed-room s i c cs e, n) h
first_by s i c cs false e h =
    let n : i - i ≡ 0 = omega arith in
    rw (fed-none s i c cs e, n)

pub fed-first : (s : LentInput) (i : ℕ) (cs : List ℕ)
    → (fed s i cs).input ≡ taken_all s (take ((fed s i cs).from - i) cs)
unfolding fed taken_all
fed-first s i [] = rw (take-nil {A = ℕ})
fed-first s i (c ∷ cs) = first_by s i c cs (has_room s) refl (fed-first (taken s c) (i + 1) cs)

-- ---- bytes fed behind others that were all taken
abbrev Parts : LentInput → ℕ → List ℕ → List ℕ → Type 0
Parts s i x y = (fed s i x).from ≡ i + length x → fed s i (x ++ y) ≡ fed (fed s i x).input (i + length x) y

parts_by : (s : LentInput) (i c : ℕ) (x y : List ℕ) (b : Bool) → has_room s ≡ b → Parts (taken s c) (i + 1) x y
    → Parts s i (c ∷ x) y
parts_by s i c x y true e h whole =
    let w : (fed (taken s c) (i + 1) x).from ≡ i + suc (length x) = ap (λ (p : Place). p.from) (sym (fed-room s i c x e)) ∙ whole in
    let n : i + suc (length x) ≡ i + 1 + length x = omega arith in
    rw (fed-room s i c (x ++ y) e, fed-room s i c x e, n) (h (w ∙ n))
parts_by s i c x y false e h whole =
    let w : i ≡ i + suc (length x) = ap (λ (p : Place). p.from) (sym (fed-none s i c x e)) ∙ whole in
    absurd (omega arith)

pub fed-append : (s : LentInput) (i : ℕ) (x y : List ℕ) → (fed s i x).from ≡ i + length x
    → fed s i (x ++ y) ≡ fed (fed s i x).input (i + length x) y
unfolding fed
fed-append s i [] y whole = rw add-zero
fed-append s i (c ∷ x) y whole = parts_by s i c x y (has_room s) refl (fed-append (taken s c) (i + 1) x y) whole
