-- Laws of parts of a list: an element of a part, the part that a callee was lent and
-- gave back, and six elements in a row.
use mathlib.Core.Path.{◌≡◌, sym, ap, ◌∙◌}
use mathlib.Core.List.{List, [], ◌∷◌, ◌++◌, append_assoc}
use Prim.Native.Nat.{ℕ, suc, ◌+◌, ◌-◌, ◌≤◌, ◌<◌}
use native.Mathlib.Numerals.{add-one, add-two, add-three, add-four, add_five}
use native.Mathlib.Omega.{arith}
use borrow.Rule.Slice.PartMut.{put_mid, Post-is}
use lib.ListN.{length, take, drop, get_or}
use lib.Seq.{drop-cons, take_at, drop-append-add, drop-drop, get_or-take, get_or-drop}

-- an element of a part
pub get_d_part : (l : List ℕ) (a n i : ℕ) → i < n → get_or (take n (drop a l)) i 0 ≡ get_or l (a + i) 0
get_d_part l a n i h = get_or-take n (drop a l) i 0 h ∙ get_or-drop a l i 0

-- a list that is written part by part: p stands in front, and the part from a to e comes back as y
pub part_back : (p y b o : List ℕ) (a e : ℕ) → o ≡ p ++ drop a b → length p ≡ a → a ≤ e → put_mid a (e - a) o y ≡ p ++ y ++ drop e b
part_back p y b o a e ho hp h =
    let k : length p + (e - a) ≡ e = omega arith in
    let k' : a + (e - a) ≡ e = omega arith in
    ap (λ (l : List ℕ). take a o ++ (y ++ l)) (Post-is a e o h)
    ∙ ap (λ (l : List ℕ). take a l ++ (y ++ drop e l)) ho
    ∙ ap (λ (l : List ℕ). l ++ (y ++ drop e (p ++ drop a b))) (take_at p (drop a b) a hp)
    ∙ ap (λ (n : ℕ). p ++ (y ++ drop n (p ++ drop a b))) (sym k)
    ∙ ap (λ (l : List ℕ). p ++ (y ++ l)) (drop-append-add p (drop a b) (e - a) ∙ drop-drop (e - a) a b ∙ ap (λ (n : ℕ). drop n b) k')
    ∙ sym (append_assoc p y (drop e b))

-- six elements in a row
pub six-at : (l : List ℕ) (p : ℕ) → p + 6 ≤ length l
    → take 6 (drop p l) ≡ get_or l p 0 ∷ get_or l (p + 1) 0 ∷ get_or l (p + 2) 0 ∷ get_or l (p + 3) 0 ∷ get_or l (p + 4) 0 ∷ get_or l (p + 5) 0 ∷ []
six-at l p h = rw (
  add-one,
  add-two,
  add-three,
  add-four,
  add_five,
  drop-cons l p 0 (omega arith),
  drop-cons l (suc p) 0 (omega arith),
  drop-cons l (suc (suc p)) 0 (omega arith),
  drop-cons l (suc (suc (suc p))) 0 (omega arith),
  drop-cons l (suc (suc (suc (suc p)))) 0 (omega arith),
  drop-cons l (suc (suc (suc (suc (suc p))))) 0 (omega arith),
)
