-- The listed ports and directions beside document 01's table. All ports from 3B0h to 3DFh are looked up in both directions, and
-- those that are listed come out as that table, with document 02's ports of the attribute registers (P1), in the order of their
-- numbers. And a port is listed for a direction exactly where the table lists it, for every number there is.
use Prim.Native.Nat.{ℕ, zero, suc, ◌+◌}
use mathlib.Core.Bool.{Bool, true, false, cond, not, ◌&&◌, ◌||◌, true≢false}
use mathlib.Core.Path.{◌≡◌, refl, sym, ap, ◌∙◌}
use mathlib.Core.List.{List, [], ◌∷◌}
use lib.Dec.{eqb}
use borrow.Author.Tests.{eqb-true, not-true}
use Rattle.std.proofs.lemmas.Bool.{and_parts}
use Rattle.chip_registers.proofs.Stretches.{has}
use Rattle.chip_registers.specs.declared.Group.TheVariants.{Cr, Sr, Gr, Xr, Fr, Mr, Msr, Palmask, Ar}
use Rattle.chip_ports.specs.Ports.{Port, ports, target_in, target, is_listed}
use Rattle.chip_ports.specs.declared.Target.{Target}
use Rattle.chip_ports.specs.declared.Target.TheVariants.{Index, Data, ReadIndex, WriteIndex, Paldata, Attribute, Status, NotPicked, NotListed}

-- a port with where a write to it leads, and where a read of it does
pub record Line : Type 0 where
  pub port : ℕ
  pub written : Target
  pub read : Target

abbrev pub line : ℕ → Target → Target → Line
line p w r = record { port = p; written = w; read = r }

-- document 01's table, with P1's ports, in the order of their numbers: MSR bit 0 = 1 picks 3Dx, and 0 picks 3Bx
abbrev pub documented : Bool → List Line
documented picks3_dx =
    line 0x3B4 (mono (Index Cr)) (mono (Index Cr))
    ∷ line 0x3B5 (mono (Data Cr)) (mono (Data Cr))
    ∷ line 0x3BA NotListed (mono Status)
    ∷ line 0x3C0 Attribute Attribute
    ∷ line 0x3C1 NotListed (Data Ar)
    ∷ line 0x3C2 (Data Msr) NotListed
    ∷ line 0x3C4 (Index Sr) (Index Sr)
    ∷ line 0x3C5 (Data Sr) (Data Sr)
    ∷ line 0x3C6 (Data Palmask) (Data Palmask)
    ∷ line 0x3C7 ReadIndex ReadIndex
    ∷ line 0x3C8 WriteIndex WriteIndex
    ∷ line 0x3C9 Paldata Paldata
    ∷ line 0x3CC NotListed (Data Msr)
    ∷ line 0x3CE (Index Gr) (Index Gr)
    ∷ line 0x3CF (Data Gr) (Data Gr)
    ∷ line 0x3D0 (Index Fr) (Index Fr)
    ∷ line 0x3D1 (Data Fr) (Data Fr)
    ∷ line 0x3D2 (Index Mr) (Index Mr)
    ∷ line 0x3D3 (Data Mr) (Data Mr)
    ∷ line 0x3D4 (chosen (Index Cr)) (chosen (Index Cr))
    ∷ line 0x3D5 (chosen (Data Cr)) (chosen (Data Cr))
    ∷ line 0x3D6 (Index Xr) (Index Xr)
    ∷ line 0x3D7 (Data Xr) (Data Xr)
    ∷ line 0x3DA NotListed (chosen Status)
    ∷ []
  where
    mono : Target → Target
    mono t = cond picks3_dx NotPicked t

    chosen : Target → Target
    chosen t = cond picks3_dx t NotPicked

-- a line in front of others, if it is listed in some direction
abbrev keeping : Line → List Line → List Line
keeping l ls = cond (is_listed l.written || is_listed l.read) (l ∷ ls) ls

-- the lines of the n ports from p on, as `target` has them
abbrev pub lines_from : Bool → ℕ → ℕ → List Line
lines_from picks3_dx p zero = []
lines_from picks3_dx p (suc n) = keeping (line p (target picks3_dx true p) (target picks3_dx false p)) (lines_from picks3_dx (p + 1) n)

pub ports-documented : (picks3_dx : Bool) → lines_from picks3_dx 0x3B0 0x30 ≡ documented picks3_dx
unfolding target ports
ports-documented true = refl
ports-documented false = refl

-- the ports that the table lists for writing (true) or for reading (false)
abbrev pub listed_in : Bool → List Line → List ℕ
listed_in write [] = []
listed_in write (l ∷ ls) = cond (is_listed (cond write l.written l.read)) (l.port ∷ listed_in write ls) (listed_in write ls)

abbrev pub listed_ports : Bool → List ℕ
listed_ports write = listed_in write (documented true)

-- what holds where a port is not listed, and wherever a row of another number than these leads, holds where any other port leads
abbrev pub holds : (Target → Bool) → List ℕ → Bool → List Port → Bool
holds t ks write [] = t NotListed
holds t ks write (r ∷ rs) = (t (r.leads write) || has r.number ks) && holds t ks write rs

leads_elsewhere : (t : Target → Bool) (ks : List ℕ) (write : Bool) (rs : List Port) (p : ℕ) → holds t ks write rs ≡ true → has p ks ≡ false
    → t (target_in rs write p) ≡ true
leads_elsewhere t ks write [] p all other = all
leads_elsewhere t ks write (r ∷ rs) p all other =
    let (here, others) = and_parts (t (r.leads write) || has r.number ks) (holds t ks write rs) all in
    go (eqb p r.number) refl here (leads_elsewhere t ks write rs p others other)
  where
    row : (z : Bool) → t (r.leads write) ≡ z → p ≡ r.number → (z || has r.number ks) ≡ true → t (r.leads write) ≡ true
    row true e same here = e
    row false e same here = absurd (true≢false (sym here ∙ ap (λ (q : ℕ). has q ks) (sym same) ∙ other))

    go : (z : Bool) → eqb p r.number ≡ z → (t (r.leads write) || has r.number ks) ≡ true → t (target_in rs write p) ≡ true
        → t (cond z (r.leads write) (target_in rs write p)) ≡ true
    go true e here later = row (t (r.leads write)) refl (eqb-true p r.number e) here
    go false e here later = later

pub target_elsewhere : (t : Target → Bool) (ks : List ℕ) (picks3_dx write : Bool) (p : ℕ) → holds t ks write (ports picks3_dx) ≡ true → has p ks ≡ false
    → t (target picks3_dx write p) ≡ true
unfolding target
target_elsewhere t ks picks3_dx write p all other = leads_elsewhere t ks write (ports picks3_dx) p all other

-- input status 1 is for reading only: no write leads to it
abbrev not_status : Target → Bool
not_status (Index g) = true
not_status (Data g) = true
not_status ReadIndex = true
not_status WriteIndex = true
not_status Paldata = true
not_status Attribute = true
not_status Status = false
not_status NotPicked = true
not_status NotListed = true

never-written : (picks3_dx : Bool) → holds not_status [] true (ports picks3_dx) ≡ true
unfolding ports
never-written true = refl
never-written false = refl

pub status_read-only : (picks3_dx : Bool) (p : ℕ) → target picks3_dx true p ≡ Status → ⊥
status_read-only picks3_dx p leads =
    true≢false (sym (target_elsewhere not_status [] picks3_dx true p (never-written picks3_dx) refl) ∙ ap not_status leads)

-- what holds at each of these numbers holds at a number that is among them
abbrev at_each : (ℕ → Bool) → List ℕ → Bool
at_each t [] = true
at_each t (k ∷ ks) = t k && at_each t ks

among : (t : ℕ → Bool) (ks : List ℕ) (p : ℕ) → at_each t ks ≡ true → has p ks ≡ true → t p ≡ true
among t [] p all h = absurd (true≢false (sym h))
among t (k ∷ ks) p all h = let (here, others) = and_parts (t k) (at_each t ks) all in go (eqb p k) refl here (among t ks p others) h
  where
    go : (z : Bool) → eqb p k ≡ z → t k ≡ true → (has p ks ≡ true → t p ≡ true) → (z || has p ks) ≡ true → t p ≡ true
    go true e here later u = ap t (eqb-true p k e) ∙ here
    go false e here later u = later u

-- a port is listed for a direction exactly where the table lists it, whichever pair is picked
listed-reached : (picks3_dx write : Bool) → at_each (λ q. is_listed (target picks3_dx write q)) (listed_ports write) ≡ true
unfolding target ports
listed-reached true true = refl
listed-reached true false = refl
listed-reached false true = refl
listed-reached false false = refl

no_other : (picks3_dx write : Bool) → holds (λ t. not (is_listed t)) (listed_ports write) write (ports picks3_dx) ≡ true
unfolding ports
no_other true true = refl
no_other true false = refl
no_other false true = refl
no_other false false = refl

pub listed_exactly : (picks3_dx write : Bool) (p : ℕ) → is_listed (target picks3_dx write p) ≡ has p (listed_ports write)
listed_exactly picks3_dx write p = go (has p (listed_ports write)) refl
  where
    go : (z : Bool) → has p (listed_ports write) ≡ z → is_listed (target picks3_dx write p) ≡ z
    go true e = among (λ q. is_listed (target picks3_dx write q)) (listed_ports write) p (listed-reached picks3_dx write) e
    go false e = not-true _ (target_elsewhere (λ t. not (is_listed t)) (listed_ports write) picks3_dx write p (no_other picks3_dx write) e)
