-- The registers of a group as one list, its bank: a table, or the one byte of MSR or PALMASK. What a register's byte is and what
-- replacing one does, said over the bank and for every group at once; the laws of names rest on these two equations. Then that
-- colours and the picture are in no bank.
use Rattle.std.proofs.Common.{◌≡◌, ℕ, ◌<◌, Bool, true, false, cond, List, [], ◌∷◌, get_or, set, refl, arith, eq-eqb}
use Rattle.chip_registers.specs.Groups.{number_of, is, is_indexed}
use Rattle.chip_registers.specs.declared.Group.{Group}
use Rattle.chip_registers.specs.declared.Group.TheVariants.{Cr, Sr, Gr, Xr, Fr, Mr, Msr, Palmask, Ar}
use Rattle.chip.specs.State.{Named, same_registers}
use Rattle.chip.specs.Names.{register, replaced}
use Rattle.chip.specs.declared.Rgb.{Rgb}

abbrev pub bank : Group → Named → List ℕ
bank Cr n = n.cr
bank Sr n = n.sr
bank Gr n = n.gr
bank Xr n = n.xr
bank Fr n = n.fr
bank Mr n = n.mr
bank Msr n = n.msr ∷ []
bank Palmask n = n.palmask ∷ []
bank Ar n = n.ar

-- the place in the bank: the index, where the group has one
abbrev pub place : Group → ℕ → ℕ
place g i = cond (is_indexed g) i 0

-- how many registers a bank has room for
abbrev pub room : Group → ℕ
room g = cond (is_indexed g) 256 1

pub place-room : (g : Group) (i : ℕ) → i < 0x100 → place g i < room g
place-room g i h = go (is_indexed g)
  where
    go : (z : Bool) → cond z i 0 < cond z 256 1
    go true = h
    go false = omega arith

pub register-bank : (g : Group) (n : Named) (i : ℕ) → register g n i ≡ get_or (bank g n) (place g i) 0
register-bank Cr n i = refl
register-bank Sr n i = refl
register-bank Gr n i = refl
register-bank Xr n i = refl
register-bank Fr n i = refl
register-bank Mr n i = refl
register-bank Msr n i = refl
register-bank Palmask n i = refl
register-bank Ar n i = refl

one_byte : (z : Bool) (x b : ℕ) → ◌≡◌ {A = List ℕ} (cond z b x ∷ []) (cond z (set (x ∷ []) 0 b) (x ∷ []))
one_byte true x b = refl
one_byte false x b = refl

pub bank-replaced : (h g : Group) (n : Named) (i b : ℕ) → bank h (replaced g n i b) ≡ cond (is g h) (set (bank h n) (place h i) b) (bank h n)
bank-replaced Cr g n i b = refl
bank-replaced Sr g n i b = refl
bank-replaced Gr g n i b = refl
bank-replaced Xr g n i b = refl
bank-replaced Fr g n i b = refl
bank-replaced Mr g n i b = refl
bank-replaced Msr g n i b = one_byte (is g Msr) n.msr b
bank-replaced Palmask g n i b = one_byte (is g Palmask) n.palmask b
bank-replaced Ar g n i b = refl

pub bank-same : (h : Group) (n : Named) (colours : List Rgb) (lit : Bool) → bank h (same_registers n colours lit) ≡ bank h n
bank-same Cr n colours lit = refl
bank-same Sr n colours lit = refl
bank-same Gr n colours lit = refl
bank-same Xr n colours lit = refl
bank-same Fr n colours lit = refl
bank-same Mr n colours lit = refl
bank-same Msr n colours lit = refl
bank-same Palmask n colours lit = refl
bank-same Ar n colours lit = refl

pub is_self : (g : Group) → is g g ≡ true
is_self g = eq-eqb (number_of g) (number_of g) refl
