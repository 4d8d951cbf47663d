-- The palette by ports, 3C7h, 3C8h and 3C9h. After either index is written, one or two data writes change no colour and the third
-- changes exactly one entry, by the mode of that moment, whatever was written elsewhere meanwhile; three data reads give the
-- entry's components, each by the mode of its moment; either way the next entry follows, 0 after 255.
use Rattle.std.proofs.Common.{◌≡◌, ℕ, ◌+◌, ◌%◌, ◌<◌, Bool, true, false, eqb, length, refl, ap, ◌∙◌, arith, get_or-set_other, get_or-set_same, ne_eqb}
use Rattle.lists.specs.Bits.{is_set}
use Rattle.chip_registers.specs.Extension.{xr_lines}
use Rattle.chip_registers.specs.Groups.{row_of}
use Rattle.chip_registers.specs.WriteRule.{locked_by, writable_now}
use Rattle.chip_registers.specs.Indexes.{index_kept}
use Rattle.chip_registers.specs.declared.Group.TheVariants.{Xr}
use Rattle.chip_ports.specs.Ports.{ports, target}
use Rattle.chip.specs.State.{Chip, Named, named, join, with_index, with_loading}
use Rattle.chip.specs.Names.{locked, received, ports_open, eight_bit}
use Rattle.chip.specs.Palette.{rgb, by_mode, entry, coloured, aimed, held, moved, loaded, paldata}
use Rattle.chip.specs.Access.{Seen, Wrote, port_written, port_read, untold, seen}
use Rattle.chip.specs.declared.Indexes.{Indexes}
use Rattle.chip.specs.declared.Loading.{Loading}
use Rattle.chip.proofs.NameLaws.{Has, received-bit, received_other, received_keeps_colours}
use Rattle.chip.proofs.AccessLaws.{write_open, read_open}
use Rattle.chip.proofs.IndexLaws.{register_by_ports}
use Rattle.std.specs.Prelude.{Ok}

-- a stored colour stands at its entry, and the other entries keep theirs
pub coloured-same : (n : Named) (e r g b : ℕ) → e < length n.palette
    → entry (coloured n e r g b) e ≡ rgb (by_mode (eight_bit n) r) (by_mode (eight_bit n) g) (by_mode (eight_bit n) b)
unfolding coloured
coloured-same n e r g b h = get_or-set_same n.palette e _ (rgb 0 0 0) h

pub coloured_other : (n : Named) (e r g b k : ℕ) → (k ≡ e → ⊥) → entry (coloured n e r g b) k ≡ entry n k
unfolding coloured
coloured_other n e r g b k h = get_or-set_other n.palette e k _ (rgb 0 0 0) h

module _ (n : Named) (x : Indexes) (l : Loading) (v : ℕ) (free : ports_open n ≡ true) where
  pub write_index-written : port_written (join n x l) 0x3C8 v ≡ untold (Ok tt) (join n x (aimed l v false))
  unfolding target ports
  write_index-written = write_open (join n x l) 0x3C8 free v

  pub read-index_written : port_written (join n x l) 0x3C7 v ≡ untold (Ok tt) (join n x (aimed l v true))
  unfolding target ports
  read-index_written = write_open (join n x l) 0x3C7 free v

  pub paldata-written : port_written (join n x l) 0x3C9 v ≡ untold (Ok tt) (join (loaded n l v) x (moved (held l v)))
  unfolding target ports
  paldata-written = write_open (join n x l) 0x3C9 free v

pub paldata-read : (n : Named) (x : Indexes) (l : Loading) → ports_open n ≡ true → port_read (join n x l) 0x3C9 ≡ seen (Ok tt) (paldata n l) (join n x (moved l))
unfolding target ports
paldata-read n x l free = read_open (join n x l) 0x3C9 free

-- the state after a byte is written to PALDATA, and what a read of it hands back
abbrev pub after : Chip → ℕ → Chip
after c v = (port_written c 0x3C9 v).chip

abbrev pub read : Chip → Seen
read c = port_read c 0x3C9

-- three data writes from the position red, each in a state of its own: what has a name and the indexes may have changed meanwhile
module _ (l : Loading) (e : ℕ) (reading : Bool) (r g b : ℕ) where
  abbrev holding : Loading
  holding = record { index = e; position = 2; red = r; green = g; reading = reading }

  module _ (n : Named) (x : Indexes) (free : ports_open n ≡ true) where
    red-held : after (join n x (aimed l e reading)) r ≡ join n x (moved (held (aimed l e reading) r))
    unfolding loaded
    red-held = ap (λ (w : Wrote). w.chip) (paldata-written n x (aimed l e reading) r free)

    green-held : after (join n x (moved (held (aimed l e reading) r))) g ≡ join n x holding
    unfolding loaded
    green-held = ap (λ (w : Wrote). w.chip) (paldata-written n x (moved (held (aimed l e reading) r)) g free)

    blue_stored : after (join n x holding) b ≡ join (coloured n e r g b) x (moved holding)
    unfolding loaded
    blue_stored = ap (λ (w : Wrote). w.chip) (paldata-written n x holding b free)

  -- the bytes held at red and green are stored by the mode at blue, and so is the third
  pub blue_decides : (m n o : Named) (x y z : Indexes) → ports_open m ≡ true → ports_open n ≡ true → ports_open o ≡ true
      → after (join o z (after (join n y (after (join m x (aimed l e reading)) r).loading) g).loading) b
      ≡ join (coloured o e r g b) z (record { index = (e + 1) % 256; position = 0; red = r; green = g; reading = reading })
  blue_decides m n o x y z first second third =
      ap (λ (c : Chip). after (join o z (after (join n y c.loading) g).loading) b) (red-held m x first)
      ∙ ap (λ (c : Chip). after (join o z c.loading) b) (green-held n y second)
      ∙ blue_stored o z third

-- three data writes with nothing between them
module _ (n : Named) (x : Indexes) (l : Loading) (e : ℕ) (reading : Bool) (free : ports_open n ≡ true) (r g b : ℕ) where
  abbrev aim : Chip
  aim = join n x (aimed l e reading)

  two : after (after aim r) g ≡ join n x (record { index = e; position = 2; red = r; green = g; reading = reading })
  two = ap (λ (c : Chip). after c g) (red-held l e reading r g b n x free) ∙ green-held l e reading r g b n x free

  three : after (after (after aim r) g) b
      ≡ join (coloured n e r g b) x (record { index = (e + 1) % 256; position = 0; red = r; green = g; reading = reading })
  three = ap (λ (c : Chip). after c b) two ∙ blue_stored l e reading r g b n x free

  -- fewer than three change nothing that has a name; the third stores the entry and no other
  pub fewer_than_three : (named (after aim r) ≡ n) × (named (after (after aim r) g) ≡ n)
  fewer_than_three = (ap named (red-held l e reading r g b n x free), ap named two)

  pub third_stores : named (after (after (after aim r) g) b) ≡ coloured n e r g b
  third_stores = ap named three

-- XR80 bit 7 is the mode, as it was last received
pub xr80_sets_mode : (n : Named) (w : ℕ) → Has Xr n 0x80 → eight_bit (received Xr n 0x80 w) ≡ is_set 7 w
unfolding eight_bit locked locked_by writable_now row_of xr_lines
xr80_sets_mode n w has = ap (λ (d : ℕ). eqb d 1) (received-bit 7 Xr n 0x80 w (omega arith) has)

xr80_leaves_ports : (n : Named) (w : ℕ) → ports_open (received Xr n 0x80 w) ≡ ports_open n
unfolding ports_open
xr80_leaves_ports n w = ap (is_set 1) (received_other Xr Xr n 0x80 w 0x70 (λ p q. omega arith))

-- from any state with open ports
module _ (c : Chip) (e : ℕ) (free : ports_open (named c) ≡ true) where
  aim_write : (port_written c 0x3C8 e).chip ≡ join (named c) c.indexes (aimed c.loading e false)
  aim_write = ap (λ (w : Wrote). w.chip) (write_index-written (named c) c.indexes c.loading e free)

  -- 3C8h gets an entry, then 3C9h three bytes
  pub colour_by_ports : (r g b : ℕ)
      → after (after (after (port_written c 0x3C8 e).chip r) g) b
      ≡ join (coloured (named c) e r g b) c.indexes (record { index = (e + 1) % 256; position = 0; red = r; green = g; reading = false })
  colour_by_ports r g b =
      ap (λ (d : Chip). after (after (after d r) g) b) aim_write ∙ three (named c) c.indexes c.loading e false free r g b

  -- the same with XR80 written before the third byte: its bit 7 decides all three
  pub xr80_before_blue : (r g w b : ℕ) → Has Xr (named c) 0x80 → e < length c.palette
      → entry (named (after (port_written (port_written (after (after (port_written c 0x3C8 e).chip r) g) 0x3D6 0x80).chip 0x3D7 w).chip b)) e
      ≡ rgb (by_mode (is_set 7 w) r) (by_mode (is_set 7 w) g) (by_mode (is_set 7 w) b)
  unfolding target ports index_kept
  xr80_before_blue r g w b has inside =
      ap (λ (d : Chip). entry (named (after d b)) e) mode_written
      ∙ ap (λ (d : Chip). entry (named d) e) (blue_stored c.loading e false r g b after_mode _ (xr80_leaves_ports (named c) w ∙ free))
      ∙ coloured-same after_mode e r g b (rw (received_keeps_colours Xr (named c) 0x80 w) inside)
      ∙ ap (λ (eight : Bool). rgb (by_mode eight r) (by_mode eight g) (by_mode eight b)) (xr80_sets_mode (named c) w has)
    where
      after_mode : Named
      after_mode = received Xr (named c) 0x80 w

      two-held : Chip
      two-held = join (named c) c.indexes (holding c.loading e false r g b)

      mode_written : (port_written (port_written (after (after (port_written c 0x3C8 e).chip r) g) 0x3D6 0x80).chip 0x3D7 w).chip
          ≡ join after_mode (with_index Xr c.indexes 0x80) (holding c.loading e false r g b)
      mode_written =
          ap (λ (d : Chip). (port_written (port_written d 0x3D6 0x80).chip 0x3D7 w).chip)
          (ap (λ (d : Chip). after (after d r) g) aim_write ∙ two (named c) c.indexes c.loading e false free r g b)
          ∙ ap (λ (t : Wrote). t.chip) (register_by_ports two-held 0x3D6 0x80 Xr free refl 0x3D7 w refl)

-- three data reads from the position red, each in a state of its own: the entry's components, by the mode of each moment
module _ (l : Loading) (e : ℕ) (reading : Bool) where
  abbrev at : ℕ → Loading
  at position = record { index = e; position = position; red = l.red; green = l.green; reading = reading }

  pub components-read : (m n o : Named) (x y z : Indexes) → ports_open m ≡ true → ports_open n ≡ true → ports_open o ≡ true
      → ((read (join m x (aimed l e reading))).value ≡ by_mode (eight_bit m) (entry m e).red)
      × ((read (join n y (read (join m x (aimed l e reading))).chip.loading)).value ≡ by_mode (eight_bit n) (entry n e).green)
      × (read (join o z (read (join n y (read (join m x (aimed l e reading))).chip.loading)).chip.loading)
      ≡ seen (Ok tt) (by_mode (eight_bit o) (entry o e).blue) (join o z (aimed l ((e + 1) % 256) reading)))
  components-read m n o x y z first second third =
      rw (paldata-read m x (at 0) first, paldata-read n y (at 1) second, paldata-read o z (at 2) third) (refl, refl, refl)

-- 3C7h gets an entry, then 3C9h is read three times, with nothing between: from any state with open ports
module _ (c : Chip) (e : ℕ) (free : ports_open (named c) ≡ true) where
  aim_read : port_written c 0x3C7 e ≡ untold (Ok tt) (join (named c) c.indexes (at c.loading e true 0))
  aim_read = read-index_written (named c) c.indexes c.loading e free

  pub colour_read_by_ports :
      ((read (port_written c 0x3C7 e).chip).value ≡ by_mode (eight_bit (named c)) (entry (named c) e).red)
      × ((read (read (port_written c 0x3C7 e).chip).chip).value ≡ by_mode (eight_bit (named c)) (entry (named c) e).green)
      × (read (read (read (port_written c 0x3C7 e).chip).chip).chip
      ≡ seen (Ok tt) (by_mode (eight_bit (named c)) (entry (named c) e).blue) (with_loading c (aimed c.loading ((e + 1) % 256) true)))
  colour_read_by_ports =
      rw (
        aim_read,
        paldata-read (named c) c.indexes (at c.loading e true 0) free,
        paldata-read (named c) c.indexes (at c.loading e true 1) free,
        paldata-read (named c) c.indexes (at c.loading e true 2) free,
      ) (refl, refl, refl)

-- a position outside the three counts as red: the byte is held as red and nothing is stored, the red component is read, and
-- green follows
pub outside_counts_as_red : (n : Named) (l : Loading) (v : ℕ) → 2 < l.position
    → ((held l v).red ≡ v) × (loaded n l v ≡ n) × (paldata n l ≡ by_mode (eight_bit n) (entry n l.index).red) × ((moved l).position ≡ 1)
unfolding loaded
outside_counts_as_red n l v h =
    rw (ne_eqb l.position 2 (omega arith), ne_eqb l.position 1 (omega arith)) (refl, refl, refl, refl)
