-- Accesses keep sizes: no table and not the palette gets longer or shorter. So in every state that they reach from a reset each
-- register with an index below 256 has its place, and the palette has 256 entries: what `received-same`, `received-bit` and
-- `coloured-same` ask for. No index passes 255, so this holds of the register and the entry that an index names. And accesses
-- leave in the byte that holds an index no bit that its index register does not keep.
use Rattle.std.proofs.Common.{◌≡◌, ℕ, ◌%◌, ◌<◌, Bool, true, false, cond, eqb, List, length, set, sym, refl, ap, ◌∙◌, ap₂, arith, length-set, eqb-true}
use lib.ListN.{length-replicate}
use Rattle.lists.specs.Bits.{bit, is_set}
use Rattle.lists.proofs.Tab.{tab-length}
use Rattle.chip_registers.specs.CrtController.{cr_lines}
use Rattle.chip_registers.specs.Groups.{group_at, is, row_of}
use Rattle.chip_registers.specs.Indexes.{fits}
use Rattle.chip_registers.specs.WriteRule.{left_open, writable_now, written}
use Rattle.chip_registers.proofs.IndexLaws.{kept-fits, fits_kept, kept_byte}
use Rattle.chip_registers.proofs.TableLaws.{group_numbered}
use Rattle.chip_registers.specs.declared.Group.{Group}
use Rattle.chip_registers.specs.declared.Group.TheVariants.{Cr, Sr, Gr, Xr, Fr, Mr, Msr, Palmask, Ar}
use Rattle.chip_ports.specs.Ports.{target}
use Rattle.chip_ports.specs.declared.Target.{Target}
use Rattle.chip_ports.specs.declared.Target.TheVariants.{Index, Data, ReadIndex, WriteIndex, Paldata, Attribute, Status, NotPicked, NotListed}
use Rattle.chip.specs.State.{Chip, Named, named, index_byte, index_of, with_index}
use Rattle.chip.specs.Names.{register, received, locked, writable_at, ports_open, picks3_dx, eight_bit}
use Rattle.chip.specs.Palette.{rgb, by_mode, entry, coloured, held, moved}
use Rattle.chip.specs.Attribute.{attribute_set, attribute_aimed}
use Rattle.chip.specs.Access.{Seen, write_to, port_written, told, untold}
use Rattle.chip.specs.Reset.{reset_byte, reset}
use Rattle.chip.specs.Reach.{Reach, fresh, wrote, saw}
use Rattle.chip.specs.declared.Indexes.{Indexes}
use Rattle.chip.specs.declared.Loading.{Loading}
use Rattle.chip.specs.declared.Rgb.{Rgb}
use Rattle.chip.proofs.Banks.{bank, place, room, place-room, bank-replaced, bank-same}
use Rattle.chip.proofs.NameLaws.{Has, received-same, received-bit, coloured_keeps_register}
use Rattle.chip.proofs.AccessLaws.{write_cases, state_read, write_data, named-written, read_keeps_all}
use Rattle.chip.proofs.IndexLaws.{byte-written, byte_other, index_turn}
use Rattle.chip.proofs.PaletteLaws.{coloured-same, after, read, colour_by_ports, colour_read_by_ports}
use Rattle.chip.proofs.ResetLaws.{bank-reset}
use Rattle.std.specs.Prelude.{Ok}

-- a register that receives a byte, and a colour that is stored, leave every table and the palette as long as it was
set_if : (z : Bool) (l : List ℕ) (i b : ℕ) → length (cond z (set l i b) l) ≡ length l
set_if true l i b = length-set l i b
set_if false l i b = refl

pub length-received : (h g : Group) (n : Named) (i v : ℕ) → length (bank h (received g n i v)) ≡ length (bank h n)
unfolding received
length-received h g n i v = ap length (bank-replaced h g n i _) ∙ set_if (is g h) (bank h n) (place h i) _

pub length-coloured : (n : Named) (e r g b : ℕ) → length (coloured n e r g b).palette ≡ length n.palette
unfolding coloured
length-coloured n e r g b = length-set n.palette e _

-- so does every port write
pub length-written : (h : Group) (c : Chip) (p v : ℕ) → length (bank h (named (port_written c p v).chip)) ≡ length (bank h (named c))
unfolding coloured
length-written h c p v =
    named-written (λ n. length (bank h n) ≡ length (bank h (named c))) c v refl
    (λ g. length-received h g (named c) (index_of g c.indexes) v) (λ e r g b. ap length (bank-same h (named c) _ c.picture)) (λ b. ap length (bank-same h (named c) c.palette b)) p

pub length_palette_written : (c : Chip) (p v : ℕ) → length (port_written c p v).chip.palette ≡ length c.palette
unfolding received
length_palette_written c p v =
    named-written (λ n. length n.palette ≡ length c.palette) c v refl (λ g. refl) (length-coloured (named c)) (λ b. refl) p

-- the sizes of a reached state
reach_room : {first second : ℕ} {c : Chip} → Reach first second c → (g : Group) → length (bank g (named c)) ≡ room g
reach_room {first} {second} fresh g = ap length (bank-reset first second g) ∙ tab-length (reset_byte first second g) (room g)
reach_room (wrote {c} p v hv r) g = length-written g c p v ∙ reach_room r g
reach_room (saw {c} p r) g = ap (λ (n : Named). length (bank g n)) (read_keeps_all c p).0 ∙ reach_room r g

pub reach_has : {first second : ℕ} {c : Chip} → Reach first second c → (g : Group) (i : ℕ) → i < 0x100 → Has g (named c) i
reach_has r g i h = rw (reach_room r g) (place-room g i h)

pub reach_palette : {first second : ℕ} {c : Chip} → Reach first second c → length c.palette ≡ 256
unfolding reset
reach_palette fresh = length-replicate 256 (rgb 0 0 0)
reach_palette (wrote {c} p v hv r) = length_palette_written c p v ∙ reach_palette r
reach_palette (saw {c} p r) = ap (λ (n : Named). length n.palette) (read_keeps_all c p).0 ∙ reach_palette r

-- the bytes that hold the seven indexes have no bit that their index registers do not keep, and the palette's index does not pass
-- 255
record Within (c : Chip) : Type 0 where
  groups : (g : Group) → fits g (index_byte g c.indexes) ≡ true
  colours : c.loading.index < 0x100

index-fits : (g h : Group) (x : Indexes) (v : ℕ) → fits h (index_byte h x) ≡ true → fits h (index_byte h (with_index g x v)) ≡ true
index-fits g h x v old = go (is g h) refl
  where
    go : (z : Bool) → is g h ≡ z → fits h (index_byte h (with_index g x v)) ≡ true
    go true e =
        let same : g ≡ h = sym (group_numbered g) ∙ ap group_at (eqb-true _ _ e) ∙ group_numbered h in
        rw (← same) (ap (fits g) (byte-written g x v) ∙ kept-fits g v)
    go false e = ap (fits h) (byte_other g h x v e) ∙ old

either : (z : Bool) (a b : Loading) → a.index < 0x100 → b.index < 0x100 → (cond z a b).index < 0x100
either true a b ha hb = ha
either false a b ha hb = hb

moved_below : (l : Loading) → l.index < 0x100 → (moved l).index < 0x100
moved_below l h = either (eqb l.position 2) _ _ (omega arith) h

held_below : (l : Loading) (v : ℕ) → l.index < 0x100 → (held l v).index < 0x100
held_below l v h = either (eqb l.position 2) _ _ h (either (eqb l.position 1) _ _ h h)

attribute_within : (c : Chip) (v : ℕ) → Within c → (z : Bool) → Within (cond z (told Ar (index_of Ar c.indexes) c (attribute_set c v)) (untold (Ok tt) (attribute_aimed c v))).chip
attribute_within c v w true = record { groups = λ h. rw (index_turn h c.indexes false) (w.groups h); colours = w.colours }
attribute_within c v w false = record {
  groups = λ h. rw (index_turn h (with_index Ar c.indexes v) true) (index-fits Ar h c.indexes v (w.groups h));
  colours = w.colours;
}

write_within : (t : Target) (c : Chip) (v : ℕ) → v < 0x100 → Within c → Within (write_to t c v).chip
write_within (Index g) c v hv w = record { groups = λ h. index-fits g h c.indexes v (w.groups h); colours = w.colours }
write_within (Data g) c v hv w = record { groups = w.groups; colours = w.colours }
write_within ReadIndex c v hv w = record { groups = w.groups; colours = hv }
write_within WriteIndex c v hv w = record { groups = w.groups; colours = hv }
write_within Paldata c v hv w = record { groups = w.groups; colours = moved_below (held c.loading v) (held_below c.loading v w.colours) }
write_within Attribute c v hv w = attribute_within c v w c.indexes.turn
write_within Status c v hv w = w
write_within NotPicked c v hv w = w
write_within NotListed c v hv w = w

fresh-within : (first second : ℕ) → Within (reset first second)
unfolding reset fits
fresh-within first second = record { groups = zeros; colours = omega arith }
  where
    zeros : (g : Group) → fits g (index_byte g (reset first second).indexes) ≡ true
    zeros Cr = refl
    zeros Sr = refl
    zeros Gr = refl
    zeros Xr = refl
    zeros Fr = refl
    zeros Mr = refl
    zeros Msr = refl
    zeros Palmask = refl
    zeros Ar = refl

reach_within : {first second : ℕ} {c : Chip} → Reach first second c → Within c
reach_within {first} {second} fresh = fresh-within first second
reach_within (wrote {c} p v hv r) = let w = reach_within r in write_cases Within c p v w (λ t. write_within t c v hv w)
reach_within (saw {c} p r) =
    let w = reach_within r in
    state_read Within c p w (record { groups = w.groups; colours = moved_below c.loading w.colours })
    (record { groups = λ h. rw (index_turn h c.indexes false) (w.groups h); colours = w.colours })

-- so the byte that holds an index is the index
pub reach_kept : {first second : ℕ} {c : Chip} → Reach first second c → (g : Group) → index_of g c.indexes ≡ index_byte g c.indexes
reach_kept {c = c} r g = fits_kept g (index_byte g c.indexes) ((reach_within r).groups g)

-- the register that a data port works on has its place, and the entry that the palette's index names is one of the 256
pub reach_has_current : {first second : ℕ} {c : Chip} → Reach first second c → (g : Group) → Has g (named c) (index_of g c.indexes)
reach_has_current {c = c} r g = reach_has r g (index_of g c.indexes) (kept_byte g (index_byte g c.indexes))

pub reach_entry : {first second : ℕ} {c : Chip} → Reach first second c → c.loading.index < length c.palette
reach_entry r = rw (reach_palette r) (reach_within r).colours

cr07_bit_4_always : (lock : Bool) → is_set 4 (writable_now Cr lock 0x07) ≡ true
unfolding writable_now left_open row_of cr_lines
cr07_bit_4_always true = refl
cr07_bit_4_always false = refl

-- a data port's write and three bytes to PALDATA, in a reached state with open ports: the register reads the write rule's byte,
-- the entry holds the colour by the mode
module _ {first second : ℕ} {c : Chip} (r : Reach first second c) (free : ports_open (named c) ≡ true) where
  pub data_written : (g : Group) (p v : ℕ) → target (picks3_dx (named c)) true p ≡ Data g
      → register g (named (port_written c p v).chip) (index_of g c.indexes)
      ≡ written (register g (named c) (index_of g c.indexes)) v (writable_at g (named c) (index_of g c.indexes))
  data_written g p v leads = rw (write_data c p free g v leads) (received-same g (named c) (index_of g c.indexes) v (reach_has_current r g))

  -- CR07 bit 4 can always be written, whatever CR11 holds
  pub cr07_bit_4_written : (p v : ℕ) → target (picks3_dx (named c)) true p ≡ Data Cr → index_of Cr c.indexes ≡ 0x07
      → bit 4 (register Cr (named (port_written c p v).chip) 0x07) ≡ bit 4 v
  cr07_bit_4_written p v leads at =
      rw (write_data c p free Cr v leads, at)
      (received-bit 4 Cr (named c) 0x07 v (omega arith) (reach_has r Cr 0x07 (omega arith)) ∙ rw (cr07_bit_4_always (locked Cr (named c))))

  pub colour_written : (e red green blue : ℕ) → e < 0x100
      → entry (named (after (after (after (port_written c 0x3C8 e).chip red) green) blue)) e
      ≡ rgb (by_mode (eight_bit (named c)) red) (by_mode (eight_bit (named c)) green) (by_mode (eight_bit (named c)) blue)
  colour_written e red green blue h =
      ap (λ (d : Chip). entry (named d) e) (colour_by_ports c e free red green blue)
      ∙ coloured-same (named c) e red green blue (rw (reach_palette r) h)

-- a colour written so reads back through 3C7h and 3C9h: whole in eight-bit mode, modulo 64 in six-bit mode
module _ {first second : ℕ} {c : Chip} (r : Reach first second c) (free : ports_open (named c) ≡ true) (e red green blue : ℕ) (h : e < 0x100) where
  abbrev stored : Chip
  stored = after (after (after (port_written c 0x3C8 e).chip red) green) blue

  stored-named : named stored ≡ coloured (named c) e red green blue
  stored-named = ap named (colour_by_ports c e free red green blue)

  stored_open : ports_open (named stored) ≡ true
  unfolding ports_open
  stored_open = ap ports_open stored-named ∙ ap (is_set 1) (coloured_keeps_register Xr (named c) e red green blue 0x70) ∙ free

  stored_mode : eight_bit (named stored) ≡ eight_bit (named c)
  unfolding eight_bit
  stored_mode = ap eight_bit stored-named ∙ ap (is_set 7) (coloured_keeps_register Xr (named c) e red green blue 0x80)

  reads_as : (part : Rgb → ℕ) (z : Bool) → eight_bit (named c) ≡ z
      → by_mode (eight_bit (named stored)) (part (entry (named stored) e)) ≡ by_mode z (part (rgb (by_mode z red) (by_mode z green) (by_mode z blue)))
  reads_as part z mode =
      ap₂ (λ (b : Bool) (x : Rgb). by_mode b (part x)) (stored_mode ∙ mode)
      (colour_written r free e red green blue h ∙ ap (λ (b : Bool). rgb (by_mode b red) (by_mode b green) (by_mode b blue)) mode)

  back : (z : Bool) → eight_bit (named c) ≡ z
      → ((read (port_written stored 0x3C7 e).chip).value ≡ by_mode z (by_mode z red))
      × ((read (read (port_written stored 0x3C7 e).chip).chip).value ≡ by_mode z (by_mode z green))
      × ((read (read (read (port_written stored 0x3C7 e).chip).chip).chip).value ≡ by_mode z (by_mode z blue))
  back z mode =
      let (one, two, three) = colour_read_by_ports stored e stored_open in
      (one ∙ reads_as (λ x. x.red) z mode, two ∙ reads_as (λ x. x.green) z mode, ap (λ (s : Seen). s.value) three ∙ reads_as (λ x. x.blue) z mode)

  pub colour_reads_back : eight_bit (named c) ≡ true
      → ((read (port_written stored 0x3C7 e).chip).value ≡ red)
      × ((read (read (port_written stored 0x3C7 e).chip).chip).value ≡ green)
      × ((read (read (read (port_written stored 0x3C7 e).chip).chip).chip).value ≡ blue)
  colour_reads_back mode = back true mode

  pub colour_reads_back-six : eight_bit (named c) ≡ false
      → ((read (port_written stored 0x3C7 e).chip).value ≡ red % 64)
      × ((read (read (port_written stored 0x3C7 e).chip).chip).value ≡ green % 64)
      × ((read (read (read (port_written stored 0x3C7 e).chip).chip).chip).value ≡ blue % 64)
  colour_reads_back-six mode =
      let (one, two, three) = back false mode in
      let once : (x : ℕ) → x % 64 % 64 ≡ x % 64 = λ x. omega arith in
      (one ∙ once red, two ∙ once green, three ∙ once blue)
