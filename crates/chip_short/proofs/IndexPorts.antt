-- The ports of the rule are the right ones: a port is a group's index port exactly where a write to it leads to a group's index,
-- with one CR pair picked or the other (document 01's table of ports, in crate `chip_ports`).
use Prim.Native.Nat.{ℕ}
use mathlib.Core.Bool.{Bool, true, false, ◌||◌, true≢false}
use mathlib.Core.Path.{◌≡◌, refl, sym, ap, ◌∙◌}
use mathlib.Core.List.{List, [], ◌∷◌}
use lib.Dec.{eqb}
use borrow.Author.Tests.{eqb-true}
use Rattle.chip_registers.proofs.Stretches.{has}
use Rattle.chip_registers.specs.declared.Group.{Group}
use Rattle.chip_registers.specs.declared.Group.TheVariants.{Cr, Sr, Gr, Xr, Fr, Mr}
use Rattle.chip_ports.specs.Ports.{ports, target}
use Rattle.chip_ports.specs.declared.Target.{Target}
use Rattle.chip_ports.specs.declared.Target.TheVariants.{Index, Data, ReadIndex, WriteIndex, Paldata, Attribute, Status, NotPicked, NotListed}
use Rattle.chip_ports.proofs.PortLaws.{holds, target_elsewhere}
use Rattle.script_short.specs.Short.{is_index_port}

-- ---- a write that leads to an index is to one of them
abbrev no_index : Target → Bool
no_index (Index g) = false
no_index (Data g) = true
no_index ReadIndex = true
no_index WriteIndex = true
no_index Paldata = true
no_index Attribute = true
no_index Status = true
no_index NotPicked = true
no_index NotListed = true

abbrev these : List ℕ
these = 0x3B4 ∷ 0x3D4 ∷ 0x3C4 ∷ 0x3CE ∷ 0x3D6 ∷ 0x3D0 ∷ 0x3D2 ∷ []

no_other : (b : Bool) → holds no_index these true (ports b) ≡ true
unfolding ports
no_other true = refl
no_other false = refl

neither : (a b : Bool) → (a || b) ≡ false → (a ≡ false) × (b ≡ false)
neither true b e = absurd (true≢false e)
neither false b e = (refl, e)

none_of : (p : ℕ) → is_index_port p ≡ false → has p these ≡ false
none_of p e =
    let (e6, mr) = neither (eqb p 0x3B4 || eqb p 0x3D4 || eqb p 0x3C4 || eqb p 0x3CE || eqb p 0x3D6 || eqb p 0x3D0) (eqb p 0x3D2) e in
    let (e5, fr) = neither (eqb p 0x3B4 || eqb p 0x3D4 || eqb p 0x3C4 || eqb p 0x3CE || eqb p 0x3D6) (eqb p 0x3D0) e6 in
    let (e4, xr) = neither (eqb p 0x3B4 || eqb p 0x3D4 || eqb p 0x3C4 || eqb p 0x3CE) (eqb p 0x3D6) e5 in
    let (e3, gr) = neither (eqb p 0x3B4 || eqb p 0x3D4 || eqb p 0x3C4) (eqb p 0x3CE) e4 in
    let (e2, sr) = neither (eqb p 0x3B4 || eqb p 0x3D4) (eqb p 0x3C4) e3 in
    let (mono, cr) = neither (eqb p 0x3B4) (eqb p 0x3D4) e2 in
    rw (mono, cr, sr, gr, xr, fr, mr)

pub leads_index_port : (b : Bool) (p : ℕ) (g : Group) → target b true p ≡ Index g → is_index_port p ≡ true
leads_index_port b p g leads = go (is_index_port p) refl
  where
    go : (z : Bool) → is_index_port p ≡ z → z ≡ true
    go true e = refl
    go false e = absurd (true≢false (sym (target_elsewhere no_index these b true p (no_other b) (none_of p e)) ∙ ap no_index leads))

-- ---- and each of them leads to one
abbrev pub Reached : ℕ → Type 0
Reached p = (b : Bool) × (g : Group) × (target b true p ≡ Index g)

one_of : (p k : ℕ) (others : Bool) → Reached k → (others ≡ true → Reached p) → (others || eqb p k) ≡ true → Reached p
one_of p k others here before h = go others refl h
  where
    go : (z : Bool) → others ≡ z → (z || eqb p k) ≡ true → Reached p
    go true e u = before e
    go false e u = rw (eqb-true p k u) here

pub index_port_leads : (p : ℕ) → is_index_port p ≡ true → Reached p
unfolding target ports
index_port_leads p =
    one_of p 0x3D2 _ (true, Mr, refl)
    (one_of p 0x3D0 _ (true, Fr, refl)
    (one_of p 0x3D6 _ (true, Xr, refl)
    (one_of p 0x3CE _ (true, Gr, refl)
    (one_of p 0x3C4 _ (true, Sr, refl)
    (one_of p 0x3D4 _ (true, Cr, refl) (λ h. rw (eqb-true p 0x3B4 h) (false, Cr, refl)))))))
