-- The palette's index by ports, for every chip with open ports. Document 01, "Palette": writing either index sets the position
-- to red and keeps the held bytes; 3C8h reads the current index, and 3C7h PALSTATE, which chapter 13 gives as 3 where the read
-- index was written last and as 0 where the write index was. No other access changes PALSTATE, and after a reset it is 0.
use Rattle.std.proofs.Common.{◌≡◌, ℕ, ◌+◌, ◌%◌, Bool, true, false, cond, not, eqb, [], ◌∷◌, refl, ap, ◌∙◌, ne_eqb}
use Rattle.lists.specs.Bits.{is_set}
use Rattle.chip_registers.specs.declared.Group.TheVariants.{Ar}
use Rattle.chip_registers.proofs.Stretches.{has}
use Rattle.chip_ports.specs.Ports.{ports, target}
use Rattle.chip_ports.specs.declared.Target.{Target}
use Rattle.chip_ports.specs.declared.Target.TheVariants.{Index, Data, ReadIndex, WriteIndex, Paldata, Attribute, Status, NotPicked, NotListed}
use Rattle.chip_ports.proofs.PortLaws.{holds, target_elsewhere}
use Rattle.chip.specs.State.{Chip, named, with_loading, index_of}
use Rattle.chip.specs.Names.{ports_open, picks3_dx}
use Rattle.chip.specs.Palette.{coloured, aimed, held, moved, palstate}
use Rattle.chip.specs.Attribute.{attribute_set, attribute_aimed}
use Rattle.chip.specs.Access.{Seen, Wrote, write_to, port_written, port_read, told, untold}
use Rattle.chip.specs.Reset.{reset}
use Rattle.chip.specs.Reach.{fresh}
use Rattle.chip.specs.declared.Loading.{Loading}
use Rattle.chip.proofs.AccessLaws.{read_open, state_read}
use Rattle.chip.proofs.PaletteLaws.{write_index-written, read-index_written, after, read, colour_by_ports, colour_read_by_ports}
use Rattle.chip.proofs.ReachLaws.{ports_stay}
use Rattle.std.specs.Prelude.{Ok, Err}
use Rattle.chip.specs.declared.access.AccessError.TheVariants.{Closed}

-- the state after an index is written: the read index at 3C7h, the write index at 3C8h
abbrev pub index_written : Chip → ℕ → Bool → Chip
index_written c e reading = (port_written c (cond reading 0x3C7 0x3C8) e).chip

module _ (c : Chip) (e : ℕ) (free : ports_open (named c) ≡ true) where
  aimed-is : (reading : Bool) → index_written c e reading ≡ with_loading c (aimed c.loading e reading)
  aimed-is true = ap (λ (w : Wrote). w.chip) (read-index_written (named c) c.indexes c.loading e free)
  aimed-is false = ap (λ (w : Wrote). w.chip) (write_index-written (named c) c.indexes c.loading e free)

  -- the position is red, and the held bytes stay
  pub index_keeps_held : (reading : Bool)
      → ((index_written c e reading).loading.position ≡ 0)
      × ((index_written c e reading).loading.red ≡ c.loading.red) × ((index_written c e reading).loading.green ≡ c.loading.green)
  index_keeps_held reading = rw (aimed-is reading) (refl, refl, refl)

  -- PALSTATE
  reads_state : (reading : Bool) → (port_read (index_written c e reading) 0x3C7).value ≡ cond reading 0x03 0x00
  unfolding target ports
  reads_state reading =
      rw (aimed-is reading) (ap (λ (s : Seen). s.value) (read_open (with_loading c (aimed c.loading e reading)) 0x3C7 free))

  pub palstate_read_index : (port_read (port_written c 0x3C7 e).chip 0x3C7).value ≡ 0x03
  palstate_read_index = reads_state true

  pub palstate_write_index : (port_read (port_written c 0x3C8 e).chip 0x3C7).value ≡ 0x00
  palstate_write_index = reads_state false

  -- 3C8h reads the index that was written, whichever it was, and the next one after a colour was written or read
  pub current_index : (reading : Bool) → (port_read (index_written c e reading) 0x3C8).value ≡ e
  unfolding target ports
  current_index reading =
      rw (aimed-is reading) (ap (λ (s : Seen). s.value) (read_open (with_loading c (aimed c.loading e reading)) 0x3C8 free))

  pub current_index-written : (r g b : ℕ) → (port_read (after (after (after (port_written c 0x3C8 e).chip r) g) b) 0x3C8).value ≡ (e + 1) % 256
  unfolding target ports ports_open coloured
  current_index-written r g b = rw (colour_by_ports c e free r g b) (ap (λ (s : Seen). s.value) (read_open _ 0x3C8 free))

  pub current_index-read : (port_read (read (read (read (port_written c 0x3C7 e).chip).chip).chip).chip 0x3C8).value ≡ (e + 1) % 256
  unfolding target ports ports_open
  current_index-read = rw (colour_read_by_ports c e free).2 (ap (λ (s : Seen). s.value) (read_open _ 0x3C8 free))

-- no other write changes PALSTATE, and no read
either : (z : Bool) (a b : Loading) {state : Bool} → a.reading ≡ state → b.reading ≡ state → (cond z a b).reading ≡ state
either true a b p q = p
either false a b p q = q

moved_state : (l : Loading) → (moved l).reading ≡ l.reading
moved_state l = either (eqb l.position 2) _ _ refl refl

held_state : (l : Loading) (v : ℕ) → (held l v).reading ≡ l.reading
held_state l v = either (eqb l.position 2) _ _ refl (either (eqb l.position 1) _ _ refl refl)

-- a write to this target is of a palette index
abbrev aims : Target → Bool
aims (Index g) = false
aims (Data g) = false
aims ReadIndex = true
aims WriteIndex = true
aims Paldata = false
aims Attribute = false
aims Status = false
aims NotPicked = false
aims NotListed = false

target_state : (t : Target) (c : Chip) (v : ℕ) → not (aims t) ≡ true → (write_to t c v).chip.loading.reading ≡ c.loading.reading
target_state (Index g) c v other = refl
target_state (Data g) c v other = refl
target_state ReadIndex c v other = cc
target_state WriteIndex c v other = cc
target_state Paldata c v other = moved_state (held c.loading v) ∙ held_state c.loading v
target_state Attribute c v other = go c.indexes.turn
  where
    go : (z : Bool) → (cond z (told Ar (index_of Ar c.indexes) c (attribute_set c v)) (untold (Ok tt) (attribute_aimed c v))).chip.loading.reading ≡ c.loading.reading
    go true = refl
    go false = refl
target_state Status c v other = refl
target_state NotPicked c v other = refl
target_state NotListed c v other = refl

aims-there : (b : Bool) → holds (λ t. not (aims t)) (0x3C7 ∷ 0x3C8 ∷ []) true (ports b) ≡ true
unfolding ports
aims-there true = refl
aims-there false = refl

pub palstate_kept_by_write : (c : Chip) (p v : ℕ) → (p ≡ 0x3C7 → ⊥) → (p ≡ 0x3C8 → ⊥) → palstate (port_written c p v).chip.loading ≡ palstate c.loading
unfolding port_written
palstate_kept_by_write c p v read-index write_index = let same = go (ports_open (named c)) in rw same
  where
    elsewhere : has p (0x3C7 ∷ 0x3C8 ∷ []) ≡ false
    elsewhere = rw (ne_eqb p 0x3C7 read-index, ne_eqb p 0x3C8 write_index)

    go : (z : Bool) → (cond z (write_to (target (picks3_dx (named c)) true p) c v) (untold (Err Closed) c)).chip.loading.reading ≡ c.loading.reading
    go true =
        target_state (target (picks3_dx (named c)) true p) c v
        (target_elsewhere (λ t. not (aims t)) (0x3C7 ∷ 0x3C8 ∷ []) (picks3_dx (named c)) true p (aims-there (picks3_dx (named c))) elsewhere)
    go false = refl

pub palstate_kept_by_read : (c : Chip) (p : ℕ) → palstate (port_read c p).chip.loading ≡ palstate c.loading
palstate_kept_by_read c p =
    state_read (λ d. palstate d.loading ≡ palstate c.loading) c p refl (let same = moved_state c.loading in rw same) refl

-- after a reset the write index counts as written last, and the current index is 0
module _ (first second : ℕ) (pin : is_set 1 first ≡ true) where
  open_reset : ports_open (named (reset first second)) ≡ true
  open_reset = ports_stay fresh ∙ pin

  pub palstate_reset : (port_read (reset first second) 0x3C7).value ≡ 0x00
  unfolding target ports reset
  palstate_reset = ap (λ (s : Seen). s.value) (read_open (reset first second) 0x3C7 open_reset)

  pub current_index-reset : (port_read (reset first second) 0x3C8).value ≡ 0x00
  unfolding target ports reset
  current_index-reset = ap (λ (s : Seen). s.value) (read_open (reset first second) 0x3C8 open_reset)
