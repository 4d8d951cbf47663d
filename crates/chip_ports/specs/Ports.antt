-- The ports and where they lead. Document 01, "Ports": the table of groups, the palette's ports, and MSR bit 0, which picks
-- the CR pair: 1 is 3D4h and 3D5h, 0 is 3B4h and 3B5h. Document 02, P1, with chapter 12 of the databook: 3C0h takes the attribute
-- index and data by turns, 3C1h reads the data, and input status 1 is read at 3DAh or 3BAh, by the same bit.
use Rattle.std.specs.Prelude.{ℕ, Bool, true, false, cond, not, List, [], ◌∷◌, eqb}
use Rattle.chip_ports.specs.declared.Target.{Target}
use Rattle.chip_ports.specs.declared.Target.TheVariants.{Index, Data, ReadIndex, WriteIndex, Paldata, Attribute, Status, NotPicked, NotListed}
use Rattle.chip_registers.specs.declared.Group.TheVariants.{Cr, Sr, Gr, Xr, Fr, Mr, Msr, Palmask, Ar}

-- a port, and where it leads when it is written (true) or read (false)
pub record Port : Type 0 where
  pub number : ℕ
  pub leads : Bool → Target

abbrev pub both : ℕ → Target → Port
both p t = record { number = p; leads = λ write. t }

abbrev pub write_only : ℕ → Target → Port
write_only p t = record { number = p; leads = λ write. cond write t NotListed }

abbrev pub read_only : ℕ → Target → Port
read_only p t = record { number = p; leads = λ write. cond write NotListed t }

-- a port that leads somewhere while MSR bit 0 picks it. One that is not picked is listed all the same: it answers 0 (HOUSE of the
-- CR pair; document 02, P1, of the status port)
abbrev pub while : Bool → Target → Target
while picked t = cond picked t NotPicked

-- the ports, MSR bit 0 being `picks3_dx`
unfoldable pub ports : Bool → List Port
ports picks3_dx =
    both 0x3B4 (while (not picks3_dx) (Index Cr))
    ∷ both 0x3B5 (while (not picks3_dx) (Data Cr))
    ∷ both 0x3D4 (while picks3_dx (Index Cr))
    ∷ both 0x3D5 (while picks3_dx (Data Cr))
    ∷ both 0x3C4 (Index Sr)
    ∷ both 0x3C5 (Data Sr)
    ∷ both 0x3CE (Index Gr)
    ∷ both 0x3CF (Data Gr)
    ∷ both 0x3D6 (Index Xr)
    ∷ both 0x3D7 (Data Xr)
    ∷ both 0x3D0 (Index Fr)
    ∷ both 0x3D1 (Data Fr)
    ∷ both 0x3D2 (Index Mr)
    ∷ both 0x3D3 (Data Mr)
    ∷ write_only 0x3C2 (Data Msr)
    ∷ read_only 0x3CC (Data Msr)
    ∷ both 0x3C6 (Data Palmask)
    ∷ both 0x3C7 ReadIndex
    ∷ both 0x3C8 WriteIndex
    ∷ both 0x3C9 Paldata
    ∷ both 0x3C0 Attribute
    ∷ read_only 0x3C1 (Data Ar)
    ∷ read_only 0x3BA (while (not picks3_dx) Status)
    ∷ read_only 0x3DA (while picks3_dx Status)
    ∷ []

abbrev pub target_in : List Port → Bool → ℕ → Target
target_in [] write p = NotListed
target_in (r ∷ rs) write p = cond (eqb p r.number) (r.leads write) (target_in rs write p)

-- where a port leads when it is written or read
unfoldable pub target : Bool → Bool → ℕ → Target
target picks3_dx write p = target_in (ports picks3_dx) write p

-- whether a port is listed for a direction, by where it leads
abbrev pub is_listed : Target → Bool
is_listed (Index g) = true
is_listed (Data g) = true
is_listed ReadIndex = true
is_listed WriteIndex = true
is_listed Paldata = true
is_listed Attribute = true
is_listed Status = true
is_listed NotPicked = true
is_listed NotListed = false
