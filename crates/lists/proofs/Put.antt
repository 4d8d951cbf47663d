-- Laws of a list written into another at a place: nothing written changes nothing, the length stays, and
-- one list written behind another is both of them written at once.
use mathlib.Core.Path.{◌≡◌, sym, ap, ◌∙◌}
use mathlib.Core.List.{List, [], ◌∷◌, ◌++◌, append_assoc, append-nil}
use Prim.Native.Nat.{ℕ, ◌+◌, ◌≤◌}
use native.Mathlib.Numerals.{add-one, add-two, add-three}
use native.Mathlib.Nat.{add-zero}
use native.Mathlib.Omega.{arith}
use lib.ListN.{length, take, drop, set, length-append, length-drop, take-append-drop}
use lib.Seq.{sets-eq, take_at, drop-append-add, drop-drop, length-take-le, take-length, paste}
use Rattle.lists.specs.Put.{put, Added}

pub put_nil : (o : List ℕ) (i : ℕ) → put o i [] ≡ o
put_nil o i = rw (add-zero, append-nil) (take-append-drop i o)

pub put_four : (o : List ℕ) (i a b c d : ℕ) → i + 4 ≤ length o
    → set (set (set (set o i a) (i + 1) b) (i + 2) c) (i + 3) d ≡ put o i (a ∷ b ∷ c ∷ d ∷ [])
put_four o i a b c d h = rw (add-one, add-two, add-three) (sets-eq (a ∷ b ∷ c ∷ d ∷ []) o i h)

head_length : (o x : List ℕ) (i : ℕ) → i ≤ length o → length (take i o ++ x) ≡ i + length x
head_length o x i h = length-append (take i o) x ∙ ap (λ (n : ℕ). n + length x) (length-take-le i o h)

pub length-put : (o x : List ℕ) (i : ℕ) → i + length x ≤ length o → length (put o i x) ≡ length o
length-put o x i h =
    let e : length (take i o ++ x) ≡ i + length x = head_length o x i (omega arith) in
    simp (length-append (take i o ++ x), length-drop) (omega arith)

pub put-put : (o x y : List ℕ) (i : ℕ) → i + length x + length y ≤ length o → put (put o i x) (i + length x) y ≡ put o i (x ++ y)
put-put o x y i h =
    let p : List ℕ = take i o ++ x in
    let r : List ℕ = drop (i + length x) o in
    let l : length p ≡ i + length x = head_length o x i (omega arith) in
    let n : i + length x + length y ≡ i + length (x ++ y) = omega (arith, length-append x y) in
    ap (λ (t : List ℕ). t ++ y ++ drop (i + length x + length y) (p ++ r)) (take_at p r (i + length x) l)
    ∙ ap (λ (k : ℕ). p ++ y ++ drop (k + length y) (p ++ r)) (sym l)
    ∙ ap (λ (t : List ℕ). p ++ y ++ t) (drop-append-add p r (length y) ∙ drop-drop (length y) (i + length x) o ∙ ap (λ (k : ℕ). drop k o) n)
    ∙ ap (λ (t : List ℕ). t ++ drop (i + length (x ++ y)) o) (append_assoc (take i o) x y)

-- a loop that has copied a whole list has put it in
pub paste_put : (o : List ℕ) (i : ℕ) (x : List ℕ) (n : ℕ) → length x ≡ n → paste o i x n ≡ put o i x
paste_put o i x n e = rw (← e, take-length x)

-- what two writers leave, one behind the other
pub put_then : (o x y : List ℕ) (i b : ℕ) {o₁ o₂ : List ℕ} → o₁ ≡ put o i x → o₂ ≡ put o₁ b y → b ≡ i + length x
    → i + length x + length y ≤ length o → o₂ ≡ put o i (x ++ y)
put_then o x y i b {o₁} {o₂} e₁ e₂ eb h =
    e₂ ∙ ap (λ (k : ℕ). put o₁ k y) eb ∙ ap (λ (l : List ℕ). put l (i + length x) y) e₁ ∙ put-put o x y i h

-- ---- bytes behind bytes
pub added_none : (o : List ℕ) (at : ℕ) → Added o at [] o at
added_none o at = record { now = sym (put_nil o at); next = omega arith }

pub added_length : {o : List ℕ} {at : ℕ} {x : List ℕ} {o₁ : List ℕ} {e : ℕ} → Added o at x o₁ e → e ≤ length o → length o₁ ≡ length o
added_length {o} {at} {x} {o₁} {e} s h =
    let n : e ≡ at + length x = s.next in
    ap length s.now ∙ length-put o x at (omega arith)

pub added_append : {o : List ℕ} {at : ℕ} {x : List ℕ} {o₁ : List ℕ} {e₁ : ℕ} {y : List ℕ} {o₂ : List ℕ} {e₂ : ℕ}
    → Added o at x o₁ e₁ → Added o₁ e₁ y o₂ e₂ → e₂ ≤ length o → Added o at (x ++ y) o₂ e₂
added_append {o} {at} {x} {o₁} {e₁} {y} {o₂} {e₂} s t h =
    let nx : e₁ ≡ at + length x = s.next in
    let ny : e₂ ≡ e₁ + length y = t.next in
    let l : length (x ++ y) ≡ length x + length y = length-append x y in
    record { now = put_then o x y at e₁ s.now t.now nx (omega arith); next = omega arith }
