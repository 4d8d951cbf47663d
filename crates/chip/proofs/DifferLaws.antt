-- Whether a register or a colour differs, and what accesses make of it. Document 02, P6. Two states differ exactly where a name
-- has another byte or an entry another colour. A register that received a byte differs exactly where its byte before is not its
-- byte after; a stored colour where the entry is another; the picture and a read change nothing. A refused write hands back FFh
-- twice, and a data write what a read of the register shows before it and after it.
use Rattle.std.proofs.Common.{◌≡◌, ℕ, ◌<◌, Bool, true, false, cond, not, ◌&&◌, eqb, get_or, sym, refl, ap, ◌∙◌, true≢false, arith, eq-eqb, ne_eqb, eqb-true}
use Rattle.std.proofs.Math.Bool.{and_assoc}
use borrow.Author.Tests.{eqb-false}
use Rattle.lists.specs.Bits.{is_set}
use Rattle.lists.specs.Scan.{every}
use Rattle.lists.proofs.Scan.{every_all, every-at}
use Rattle.std.proofs.lemmas.Bool.{and_parts}
use Rattle.std.specs.Cmp.Derive.{both_true}
use Rattle.chip_registers.specs.Groups.{number_of, group_at, is}
use Rattle.chip_registers.proofs.TableLaws.{group_numbered, number_few, is_same}
use Rattle.chip_registers.proofs.IndexLaws.{kept_byte}
use Rattle.chip_registers.specs.declared.Group.{Group}
use Rattle.chip_registers.specs.declared.Group.TheVariants.{Ar}
use Rattle.chip_ports.specs.Ports.{target}
use Rattle.chip_ports.specs.declared.Target.{Target}
use Rattle.chip_ports.specs.declared.Target.TheVariants.{Index, Data, ReadIndex, WriteIndex, Paldata, Attribute, Status, NotPicked, NotListed}
use Rattle.chip.specs.State.{Chip, Named, named, with_named, with_picture, index_byte, index_of}
use Rattle.chip.specs.Names.{register, read_byte, received, ports_open, picks3_dx}
use Rattle.chip.specs.Palette.{rgb, entry, coloured, loaded}
use Rattle.chip.specs.Attribute.{attribute_aimed, attribute_set}
use Rattle.chip.specs.Access.{Wrote, answer_number, access_table, untold, told, write_to, read_from, port_written, port_read}
use Rattle.chip.specs.Differ.{same_group, same_colour, same_stored, differ}
use Rattle.chip.specs.declared.Rgb.{Rgb}
use Rattle.chip.specs.declared.Loading.{Loading}
use Rattle.chip.proofs.Banks.{bank, place, register-bank}
use Rattle.chip.proofs.NameLaws.{received_other, received_keeps_colours, coloured_keeps_register, picture_keeps_register}
use Rattle.chip.proofs.PaletteLaws.{coloured_other}
use Rattle.chip.proofs.AccessLaws.{write_closed, write_open, write_data, read_keeps_all}
use Rattle.chip.proofs.NumberLaws.{refused, write_number}
use Rattle.std.specs.Prelude.{Result, Ok, Err}
use Rattle.chip.specs.declared.access.AccessError.{AccessError}
use Rattle.chip.specs.declared.access.AccessError.TheVariants.{Closed}

-- two tests that hold together are one
as_one : (a b : Bool) → (a ≡ true → b ≡ true) → (b ≡ true → a ≡ true) → a ≡ b
as_one true b f g = sym (f refl)
as_one false true f g = g refl
as_one false false f g = refl

-- ---- two states differ exactly where a name has another byte, or an entry another colour
pub colour_self : (x : Rgb) → same_colour x x ≡ true
unfolding same_colour
colour_self x = both_true (both_true (eq-eqb x.red x.red refl) (eq-eqb x.green x.green refl)) (eq-eqb x.blue x.blue refl)

pub colour_same : (x y : Rgb) → same_colour x y ≡ true → x ≡ y
unfolding same_colour
colour_same x y e =
    let (rg, b) = and_parts (eqb x.red y.red && eqb x.green y.green) (eqb x.blue y.blue) e in
    let (r, g) = and_parts (eqb x.red y.red) (eqb x.green y.green) rg in
    ap (λ (v : ℕ). rgb v x.green x.blue) (eqb-true _ _ r) ∙ ap (λ (v : ℕ). rgb y.red v x.blue) (eqb-true _ _ g)
    ∙ ap (λ (v : ℕ). rgb y.red y.green v) (eqb-true _ _ b)

pub record Same (a b : Named) : Type 0 where
  pub registers : (g : Group) (i : ℕ) → i < 256 → register g a i ≡ register g b i
  pub colours : (e : ℕ) → e < 256 → entry a e ≡ entry b e

pub same-stored : (a b : Named) → Same a b → same_stored a b ≡ true
unfolding same_stored same_group
same-stored a b s =
    both_true (every_all (λ k. same_group a b (group_at k)) 0 9 (λ k _ h. groups (group_at k)))
    (every_all (λ e. same_colour (entry a e) (entry b e)) 0 256 (λ e _ h. ap (same_colour (entry a e)) (sym (s.colours e (omega arith))) ∙ colour_self (entry a e)))
  where
    groups : (g : Group) → same_group a b g ≡ true
    groups g = every_all (λ i. eqb (register g a i) (register g b i)) 0 256 (λ i _ h. eq-eqb _ _ (s.registers g i (omega arith)))

pub stored_same : (a b : Named) → same_stored a b ≡ true → Same a b
unfolding same_stored same_group
stored_same a b e =
    let (gs, cs) = and_parts (every (λ k. same_group a b (group_at k)) 0 9) (every (λ k. same_colour (entry a k) (entry b k)) 0 256) e in
    record {
      registers = λ g i h.
          let whole : same_group a b g ≡ true =
          ap (same_group a b) (sym (group_numbered g)) ∙ every-at (λ k. same_group a b (group_at k)) 0 9 gs (number_of g) (omega arith) (omega (arith, number_few g)) in
          eqb-true _ _ (every-at (λ k. eqb (register g a k) (register g b k)) 0 256 whole i (omega arith) (omega arith));
      colours = λ k h. colour_same _ _ (every-at (λ j. same_colour (entry a j) (entry b j)) 0 256 cs k (omega arith) (omega arith));
    }

pub same_self : (n : Named) → same_stored n n ≡ true
same_self n = same-stored n n (record { registers = λ g i h. refl; colours = λ e h. refl })

-- it is what has a name that is looked at; a state with the same does not differ
pub differ-named : (c d e : Chip) → named d ≡ named e → differ c d ≡ differ c e
unfolding differ
differ-named c d e h = rw h

pub unmoved : (c d : Chip) → named d ≡ named c → differ c d ≡ false
unfolding differ
unmoved c d e = rw (e, same_self (named c))

-- ---- a register that received a byte: it differs exactly where its byte does
module _ (g : Group) (n : Named) (i v : ℕ) where
  -- where the register has its byte again, every register has
  stays : register g (received g n i v) i ≡ register g n i → (h : Group) (j : ℕ) → register h n j ≡ register h (received g n i v) j
  stays e h j = sym (go (is g h) refl (eqb (place h i) (place h j)) refl)
    where
      go : (z : Bool) → is g h ≡ z → (y : Bool) → eqb (place h i) (place h j) ≡ y → register h (received g n i v) j ≡ register h n j
      go false a y b = received_other g h n i v j (λ p q. eqb-false _ _ a p)
      go true a false b = received_other g h n i v j (λ p q. eqb-false _ _ b q)
      go true a true b =
          let at : place h i ≡ place h j = eqb-true _ _ b in
          let e' = rw (is_same g h a) at e in
          register-bank h (received g n i v) j ∙ ap (λ (k : ℕ). get_or (bank h (received g n i v)) k 0) (sym at)
          ∙ sym (register-bank h (received g n i v) i) ∙ rw (is_same g h a) e' ∙ register-bank h n i ∙ ap (λ (k : ℕ). get_or (bank h n) k 0) at
          ∙ sym (register-bank h n j)

  pub received_same-stored : i < 256 → same_stored n (received g n i v) ≡ eqb (register g n i) (register g (received g n i v) i)
  received_same-stored h =
      as_one (same_stored n (received g n i v)) (eqb (register g n i) (register g (received g n i v) i))
      (λ s. eq-eqb _ _ ((stored_same n (received g n i v) s).registers g i h))
      (λ e. same-stored n (received g n i v) (record {
        registers = λ k j _. stays (sym (eqb-true _ _ e)) k j;
        colours = λ k _. ap (λ l. get_or l k (rgb 0 0 0)) (sym (received_keeps_colours g n i v));
      }))

-- ---- a colour that is stored: it differs exactly where its entry does
pub coloured_same-stored : (n : Named) (e r g b : ℕ) → e < 256 → same_stored n (coloured n e r g b) ≡ same_colour (entry n e) (entry (coloured n e r g b) e)
coloured_same-stored n e r g b h =
    as_one (same_stored n (coloured n e r g b)) (same_colour (entry n e) (entry (coloured n e r g b) e))
    (λ s. ap (same_colour (entry n e)) (sym ((stored_same n (coloured n e r g b) s).colours e h)) ∙ colour_self (entry n e))
    (λ s. same-stored n (coloured n e r g b) (record {
      registers = λ k j _. sym (coloured_keeps_register k n e r g b j);
      colours = λ k _. go s k (eqb k e) refl;
    }))
  where
    go : same_colour (entry n e) (entry (coloured n e r g b) e) ≡ true → (k : ℕ) (z : Bool) → eqb k e ≡ z → entry n k ≡ entry (coloured n e r g b) k
    go s k true x = rw (eqb-true k e x) (colour_same _ _ s)
    go s k false x = sym (coloured_other n e r g b k (eqb-false k e x))

-- a byte that comes to PALDATA
pub loaded-same_stored : (n : Named) (l : Loading) (v : ℕ) → l.index < 256
    → same_stored n (loaded n l v) ≡ same_colour (entry n l.index) (entry (loaded n l v) l.index)
unfolding loaded
loaded-same_stored n l v h = go (eqb l.position 2)
  where
    m : Bool → Named
    m z = cond z (coloured n l.index l.red l.green v) n

    go : (z : Bool) → same_stored n (m z) ≡ same_colour (entry n l.index) (entry (m z) l.index)
    go true = coloured_same-stored n l.index l.red l.green v h
    go false = same_self n ∙ sym (colour_self (entry n l.index))

-- ---- the picture is no register and no colour
pub picture_same_stored : (n : Named) (lit : Bool) → same_stored n (with_picture n lit) ≡ true
picture_same_stored n lit = same-stored n (with_picture n lit) (record { registers = λ g i _. sym (picture_keeps_register g n lit i); colours = λ e _. refl })

-- ---- accesses
pub read_differs_not : (c : Chip) (p : ℕ) → differ c (port_read c p).chip ≡ false
read_differs_not c p = unmoved c (port_read c p).chip (read_keeps_all c p).0

pub received_differs : (g : Group) (c : Chip) (i v : ℕ) → i < 256
    → differ c (with_named c (received g (named c) i v)) ≡ not (eqb (register g (named c) i) (register g (received g (named c) i v) i))
unfolding differ
received_differs g c i v h = ap not (received_same-stored g (named c) i v h)

-- .. and so does any state with what that leaves of the register at a group's index
pub reached_differs : (g : Group) (c d : Chip) (v : ℕ) → named d ≡ received g (named c) (index_of g c.indexes) v
    → differ c d ≡ not (eqb (register g (named c) (index_of g c.indexes)) (register g (named d) (index_of g c.indexes)))
reached_differs g c d v is =
    differ-named c d (with_named c (received g (named c) (index_of g c.indexes) v)) is
    ∙ received_differs g c (index_of g c.indexes) v (kept_byte g (index_byte g c.indexes)) ∙ rw is refl

-- a data write differs exactly where it hands back two bytes
pub data_differs : (g : Group) (c : Chip) (v : ℕ)
    → differ c (write_to (Data g) c v).chip ≡ not (eqb (write_to (Data g) c v).before (write_to (Data g) c v).after)
data_differs g c v = reached_differs g c (write_to (Data g) c v).chip v refl

-- what `==` of two colours is
pub colours-same : (x y : Rgb) → (eqb x.red y.red && (eqb x.green y.green && eqb x.blue y.blue)) ≡ same_colour x y
unfolding same_colour
colours-same x y = sym (and_assoc (eqb x.red y.red) (eqb x.green y.green) (eqb x.blue y.blue))

-- so does a byte to PALDATA where the entry at the index does
pub paldata_differs : (c : Chip) (v e : ℕ) → c.loading.index ≡ e → e < 256
    → differ c (write_to Paldata c v).chip ≡ not (same_colour (entry (named c) e) (entry (named (write_to Paldata c v).chip) e))
unfolding differ
paldata_differs c v e is h =
    let below : c.loading.index < 256 = omega arith in
    ap not (loaded-same_stored (named c) c.loading v below)
    ∙ ap (λ (x : ℕ). not (same_colour (entry (named c) x) (entry (named (write_to Paldata c v).chip) x))) is

-- the attribute index is no register, and its bit 5 is none
pub aimed_differs_not : (c : Chip) (v : ℕ) → differ c (attribute_aimed c v) ≡ false
unfolding differ
aimed_differs_not c v = rw (picture_same_stored (named c) (is_set 5 v))

-- a write that tells of nothing and leaves what has a name, as a contract says it
pub quiet : {w : Wrote} {b : Bool} {a : Result (Unit {0}) AccessError} {k d : Chip} (c : Chip) → w ≡ untold a k → b ≡ false → k ≡ d → named d ≡ named c
    → (w ≡ untold a d) × (b ≡ differ c d)
quiet {a = a} {d = d} c u f e n = (u ∙ ap (untold a) e, f ∙ sym (unmoved c d n))

-- whether a write tells of a register: at a data port, and at 3C0h where data comes next
abbrev pub tells : Target → Chip → Bool
tells (Index g) c = false
tells (Data g) c = true
tells ReadIndex c = false
tells WriteIndex c = false
tells Paldata c = false
tells Attribute c = c.indexes.turn
tells Status c = false
tells NotPicked c = false
tells NotListed c = false

-- what it hands back is what a read of the register shows, before it and after it
pub data_told : (g : Group) (c : Chip) (v : ℕ)
    → ((write_to (Data g) c v).before ≡ (read_from (Data g) c).value) × ((write_to (Data g) c v).after ≡ (read_from (Data g) (write_to (Data g) c v).chip).value)
data_told g c v = (refl, refl)

-- a write that hands back two bytes, at whatever port, changed the register
target_differs : (t : Target) (c : Chip) (v : ℕ) → ((write_to t c v).before ≡ (write_to t c v).after → ⊥) → differ c (write_to t c v).chip ≡ true
target_differs (Index g) c v other = absurd (other refl)
target_differs (Data g) c v other = data_differs g c v ∙ ap not (ne_eqb _ _ other)
target_differs ReadIndex c v other = absurd (other refl)
target_differs WriteIndex c v other = absurd (other refl)
target_differs Paldata c v other = absurd (other refl)
target_differs Attribute c v other = go c.indexes.turn other
  where
    by : Bool → Wrote
    by z = cond z (told Ar (index_of Ar c.indexes) c (attribute_set c v)) (untold (Ok tt) (attribute_aimed c v))

    go : (z : Bool) → ((by z).before ≡ (by z).after → ⊥) → differ c (by z).chip ≡ true
    go true h = reached_differs Ar c (attribute_set c v) v refl ∙ ap not (ne_eqb _ _ h)
    go false h = absurd (h refl)
target_differs Status c v other = absurd (other refl)
target_differs NotPicked c v other = absurd (other refl)
target_differs NotListed c v other = absurd (other refl)

pub told_differs : (c : Chip) (p v : ℕ) → ((port_written c p v).before ≡ (port_written c p v).after → ⊥) → differ c (port_written c p v).chip ≡ true
unfolding port_written
told_differs c p v other = go (ports_open (named c)) other
  where
    by : Bool → Wrote
    by z = cond z (write_to (target (picks3_dx (named c)) true p) c v) (untold (Err Closed) c)

    go : (z : Bool) → ((by z).before ≡ (by z).after → ⊥) → differ c (by z).chip ≡ true
    go true h = target_differs (target (picks3_dx (named c)) true p) c v h
    go false h = absurd (h refl)

-- what is told at a port that leads to a register: its byte as it reads before the write, and in the state that the write leaves
module _ (c : Chip) (p v : ℕ) (free : ports_open (named c) ≡ true) where
  pub register-told : (g : Group) → target (picks3_dx (named c)) true p ≡ Data g
      → ((port_written c p v).before ≡ read_byte g (named c) (index_of g c.indexes))
      × ((port_written c p v).after ≡ read_byte g (named (port_written c p v).chip) (index_of g c.indexes))
  register-told g leads = rw (write_data c p free g v leads) (refl, refl)

  pub attribute_told : target (picks3_dx (named c)) true p ≡ Attribute → c.indexes.turn ≡ true
      → ((port_written c p v).before ≡ read_byte Ar (named c) (index_of Ar c.indexes))
      × ((port_written c p v).after ≡ read_byte Ar (named (port_written c p v).chip) (index_of Ar c.indexes))
  attribute_told leads turn = rw (write_open c p free v, leads, turn) (refl, refl)

  -- every other port tells of no register: FFh twice
  pub elsewhere_untold : tells (target (picks3_dx (named c)) true p) c ≡ false → ((port_written c p v).before ≡ 0xFF) × ((port_written c p v).after ≡ 0xFF)
  elsewhere_untold h = rw (write_open c p free v) (go (target (picks3_dx (named c)) true p) h)
    where
      go : (t : Target) → tells t c ≡ false → ((write_to t c v).before ≡ 0xFF) × ((write_to t c v).after ≡ 0xFF)
      go (Index g) e = (refl, refl)
      go (Data g) e = absurd (true≢false e)
      go ReadIndex e = (refl, refl)
      go WriteIndex e = (refl, refl)
      go Paldata e = (refl, refl)
      go Attribute e = rw e (refl, refl)
      go Status e = (refl, refl)
      go NotPicked e = (refl, refl)
      go NotListed e = (refl, refl)

-- a refused write hands back FFh twice
pub refused-untold : (c : Chip) (p v : ℕ) → (answer_number (port_written c p v).answer ≡ 0 → ⊥)
    → ((port_written c p v).before ≡ 0xFF) × ((port_written c p v).after ≡ 0xFF)
refused-untold c p v other =
    refused true c p _ (λ h. other (write_number c p v ∙ h)) (λ shut. rw (write_closed c p shut v) (refl, refl))
    (λ free unlisted. rw (write_open c p free v, unlisted) (refl, refl))

-- what the contract of `write` says, from the one equation of where the port leads
pub write_answered : (c : Chip) (p v : ℕ) {w r : Wrote} {b : Bool} → r ≡ w → b ≡ differ c w.chip → w ≡ port_written c p v
    → (r ≡ port_written c p v) × ((answer_number r.answer ≡ access_table true c p) × (b ≡ differ c (port_written c p v).chip))
write_answered c p v e f is =
    (e ∙ is, (ap (λ (x : Wrote). answer_number x.answer) (e ∙ is) ∙ write_number c p v, f ∙ ap (λ (x : Wrote). differ c x.chip) is))
