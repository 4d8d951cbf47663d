-- The eight terms are the raster byte: an operation on P, S, D and eight bytes, each of which is a bit of the code in all its
-- bits. On single bits every code and every P, S and D is tried. Assumes nothing.
use mathlib.Core.Path.{◌≡◌, refl, sym}
use mathlib.Core.Bool.{Bool, true, false, beq}
use mathlib.Core.List.{[], ◌∷◌}
use Prim.Native.Nat.{ℕ, ◌*◌, ◌/◌, ◌<◌, zero-le}
use lib.Bits.{bit_or}
use lib.ListN.{get_or}
use Rattle.lists.specs.Bits.{bit}
use Rattle.lists.specs.Scan.{every}
use Rattle.lists.proofs.Scan.{every-at}
use Rattle.blit_raster.specs.Raster.{number, raster}
use Rattle.blit_raster.specs.AppendixE.{Operation, input, not, ◌and◌, ◌or◌, P, S, D, value, inputs}
use Rattle.blit_raster.proofs.AppendixELaws.{value-raster}
use Rattle.blit_raster.proofs.Laws.{two, bit_small, bit-number, number_small, agree, agree_at, bit_of}

-- the terms, with the code's bits as further inputs
abbrev eight : Operation
eight =
    (not P and (not S and (not D and input 3)))
    or (not P and (not S and (D and input 4)))
    or (not P and (S and (not D and input 5)))
    or (not P and (S and (D and input 6)))
    or (P and (not S and (not D and input 7)))
    or (P and (not S and (D and input 8)))
    or (P and (S and (not D and input 9)))
    or (P and (S and (D and input 10)))

tried : (code : ℕ) → code < 256 → agree (λ p s d. value 1 (inputs (λ k. bit k code) p s d) eight) (bit_of code) ≡ true
unfolding every value inputs
tried code h = every-at (λ code. agree (λ p s d. value 1 (inputs (λ k. bit k code) p s d) eight) (bit_of code)) 0 256 refl code zero-le h

eight-raster : (code p s d : ℕ) → code < 256 → p < 256 → s < 256 → d < 256
    → value 255 (inputs (λ k. number 8 (λ i. bit k code)) p s d) eight ≡ raster code p s d
unfolding value inputs
eight-raster code p s d hc hp hs hd =
    value-raster eight (λ k. number 8 (λ i. bit k code)) code p s d (λ k. number_small 8 (λ i. bit k code) (λ i. bit_small k code)) hp hs hd (λ i l.
    let e : (k : ℕ) → bit i (number 8 (λ i. bit k code)) ≡ bit k code = λ k. bit-number 8 (λ i. bit k code) (λ i. bit_small k code) i l in
    simp e
    (agree_at (λ p s d. value 1 (inputs (λ k. bit k code) p s d) eight) (bit_of code) (tried code hc) (bit i p) (bit i s) (bit i d) (bit_small i p) (bit_small i s) (bit_small i d)))

-- the same with a name for each of the eight bytes
pub named-raster : {a b c d e f g h : ℕ} (code p s x : ℕ) → code < 256 → p < 256 → s < 256 → x < 256
    → a ≡ number 8 (λ i. bit 0 code) → b ≡ number 8 (λ i. bit 1 code) → c ≡ number 8 (λ i. bit 2 code) → d ≡ number 8 (λ i. bit 3 code)
    → e ≡ number 8 (λ i. bit 4 code) → f ≡ number 8 (λ i. bit 5 code) → g ≡ number 8 (λ i. bit 6 code) → h ≡ number 8 (λ i. bit 7 code)
    → value 255 (inputs (λ k. get_or (a ∷ b ∷ c ∷ d ∷ e ∷ f ∷ g ∷ h ∷ []) k 0) p s x) eight ≡ raster code p s x
unfolding value inputs
named-raster code p s x hc hp hs hx ea eb ec ed ee ef eg eh = rw (ea, eb, ec, ed, ee, ef, eg, eh) (eight-raster code p s x hc hp hs hx)

-- a bit copied beside itself, then the two, then the four
abbrev beside : ℕ → ℕ → ℕ
beside n x = bit_or x (x / n)

pub copied : (x : ℕ) → x < 2 → beside 16 (beside 4 (beside 2 (x * 128))) ≡ number 8 (λ i. x)
unfolding number
copied = two (λ (x : ℕ). beside 16 (beside 4 (beside 2 (x * 128))) ≡ number 8 (λ i. x)) refl refl

-- two tests that agree are the same
pub same : (a b : Bool) → beq a b ≡ true → a ≡ b
same true true e = refl
same true false e = sym e
same false true e = e
same false false e = refl
