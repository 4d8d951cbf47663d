-- A line says its command, whatever stands behind it, and so lines say the list of their commands: two scripts with the same
-- lines have the same commands. What is shown is a port below 1000h and a byte.
use Prim.Native.Nat.{ℕ, ◌%◌, ◌<◌}
use native.Mathlib.Omega.{arith}
use mathlib.Core.Path.{◌≡◌, refl, sym, ap, ◌∙◌}
use mathlib.Core.List.{List, [], ◌∷◌, ◌++◌}
use lib.ListN.{get_or, take, drop, length}
use Rattle.script_commands.specs.declared.Command.{Command}
use Rattle.script_commands.specs.declared.Command.TheVariants.{Out, In, Merge, OutAcc}
use Rattle.text.specs.Digits.{byte_digits, port_digits}
use Rattle.text_listing.specs.Line.{line, lines_of}
use Rattle.text.proofs.DigitLaws.{value_of, byte-read, port-read}

abbrev pub Shown : Command → Type 0
Shown (Out port value) = (port < 0x1000) × (value < 256)
Shown (In port) = port < 0x1000
Shown (Merge keep set) = (keep < 256) × (set < 256)
Shown (OutAcc port) = port < 0x1000

abbrev pub AllShown : List Command → Type 0
AllShown [] = Unit {0}
AllShown (c ∷ cs) = Shown c × AllShown cs

port-same : (p q : ℕ) → p < 0x1000 → q < 0x1000 → value_of 16 0 (port_digits p) ≡ value_of 16 0 (port_digits q) → p ≡ q
port-same p q h g e = let r : p % 4096 ≡ q % 4096 = sym (port-read p) ∙ e ∙ port-read q in omega arith

byte-same : (v w : ℕ) → v < 256 → w < 256 → value_of 16 0 (byte_digits v) ≡ value_of 16 0 (byte_digits w) → v ≡ w
byte-same v w h g e = let r : v % 256 ≡ w % 256 = sym (byte-read v) ∙ e ∙ byte-read w in omega arith

pub line-tells : (c d : Command) (x y : List ℕ) → Shown c → Shown d → line c ++ x ≡ line d ++ y → (c ≡ d) × (x ≡ y)
line-tells (Out p v) (Out q w) x y h g e =
    let ports : p ≡ q = port-same p q h.0 g.0 (ap (λ (l : List ℕ). value_of 16 0 (take 3 (drop 4 l))) e) in
    let values : v ≡ w = byte-same v w h.1 g.1 (ap (λ (l : List ℕ). value_of 16 0 (take 2 (drop 8 l))) e) in
    (cc, ap (drop 11) e)
line-tells (Out p v) (In q) x y h g e = absurd (let z = ap (λ (l : List ℕ). get_or l 0 0) e in omega arith)
line-tells (Out p v) (Merge m t) x y h g e = absurd (let z = ap (λ (l : List ℕ). get_or l 0 0) e in omega arith)
line-tells (Out p v) (OutAcc q) x y h g e = absurd (let z = ap (λ (l : List ℕ). get_or l 3 0) e in omega arith)
line-tells (In p) (Out q w) x y h g e = absurd (let z = ap (λ (l : List ℕ). get_or l 0 0) e in omega arith)
line-tells (In p) (In q) x y h g e =
    let ports : p ≡ q = port-same p q h g (ap (λ (l : List ℕ). value_of 16 0 (take 3 (drop 3 l))) e) in
    (cc, ap (drop 7) e)
line-tells (In p) (Merge m t) x y h g e = absurd (let z = ap (λ (l : List ℕ). get_or l 0 0) e in omega arith)
line-tells (In p) (OutAcc q) x y h g e = absurd (let z = ap (λ (l : List ℕ). get_or l 0 0) e in omega arith)
line-tells (Merge k s) (Out q w) x y h g e = absurd (let z = ap (λ (l : List ℕ). get_or l 0 0) e in omega arith)
line-tells (Merge k s) (In q) x y h g e = absurd (let z = ap (λ (l : List ℕ). get_or l 0 0) e in omega arith)
line-tells (Merge k s) (Merge m t) x y h g e =
    let keeps : k ≡ m = byte-same k m h.0 g.0 (ap (λ (l : List ℕ). value_of 16 0 (take 2 (drop 6 l))) e) in
    let sets : s ≡ t = byte-same s t h.1 g.1 (ap (λ (l : List ℕ). value_of 16 0 (take 2 (drop 9 l))) e) in
    (cc, ap (drop 12) e)
line-tells (Merge k s) (OutAcc q) x y h g e = absurd (let z = ap (λ (l : List ℕ). get_or l 0 0) e in omega arith)
line-tells (OutAcc p) (Out q w) x y h g e = absurd (let z = ap (λ (l : List ℕ). get_or l 3 0) e in omega arith)
line-tells (OutAcc p) (In q) x y h g e = absurd (let z = ap (λ (l : List ℕ). get_or l 0 0) e in omega arith)
line-tells (OutAcc p) (Merge m t) x y h g e = absurd (let z = ap (λ (l : List ℕ). get_or l 0 0) e in omega arith)
line-tells (OutAcc p) (OutAcc q) x y h g e =
    let ports : p ≡ q = port-same p q h g (ap (λ (l : List ℕ). value_of 16 0 (take 3 (drop 5 l))) e) in
    (cc, ap (drop 9) e)

some : (c : Command) (x : List ℕ) → length (line c ++ x) ≡ 0 → ⊥
some (Out p v) x e = omega arith
some (In p) x e = omega arith
some (Merge k s) x e = omega arith
some (OutAcc p) x e = omega arith

pub lines_tell : (cs ds : List Command) → AllShown cs → AllShown ds → lines_of cs ≡ lines_of ds → cs ≡ ds
unfolding lines_of
lines_tell [] [] h g e = refl
lines_tell [] (d ∷ ds) h g e = absurd (some d (lines_of ds) (ap length (sym e)))
lines_tell (c ∷ cs) [] h g e = absurd (some c (lines_of cs) (ap length e))
lines_tell (c ∷ cs) (d ∷ ds) h g e =
    let both = line-tells c d (lines_of cs) (lines_of ds) h.0 g.0 e in
    let rest : cs ≡ ds = lines_tell cs ds h.1 g.1 both.1 in
    let here : c ≡ d = both.0 in
    cc
