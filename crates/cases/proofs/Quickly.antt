-- Whether a port write changes a register or a colour, told by what it hands back: it does exactly where the byte before is not
-- the byte after, or the entry at the palette's index has another colour. `differ` looks at every name; this computes at once,
-- and a table that holds by it holds.
use Prim.Native.Nat.{ℕ, ◌<◌}
use mathlib.Core.Bool.{Bool, true, false, not, cond, ◌&&◌}
use mathlib.Core.List.{List}
use mathlib.Core.Path.{◌≡◌, refl, sym, ap, ◌∙◌, fun_ext}
use lib.Dec.{eqb, ltb}
use lib.ListN.{get_or}
use borrow.Author.Tests.{eq-eqb, ltb-true}
use Rattle.chip_registers.specs.declared.Group.TheVariants.{Ar}
use Rattle.chip_ports.specs.Ports.{target}
use Rattle.chip_ports.specs.declared.Target.{Target}
use Rattle.chip_ports.specs.declared.Target.TheVariants.{Index, Data, ReadIndex, WriteIndex, Paldata, Attribute, Status, NotPicked, NotListed}
use Rattle.chip.specs.State.{Chip, Named, named, index_of}
use Rattle.chip.specs.Names.{ports_open, picks3_dx}
use Rattle.chip.specs.Palette.{rgb, entry}
use Rattle.chip.specs.Attribute.{attribute_set, attribute_aimed}
use Rattle.chip.specs.Access.{Wrote, told, untold, write_to, port_written}
use Rattle.chip.specs.Differ.{same_colour, differ}
use Rattle.chip.specs.declared.Rgb.{Rgb}
use Rattle.chip.proofs.NameLaws.{received_keeps_colours}
use Rattle.chip.proofs.AccessLaws.{write_closed, write_open}
use Rattle.chip.proofs.DifferLaws.{colour_self, unmoved, reached_differs, data_differs, paldata_differs, aimed_differs_not}
use Rattle.cases.specs.Cases.{Row, changing, rows_hold_by, rows_hold}
use Rattle.std.specs.Prelude.{Ok, Err}
use Rattle.chip.specs.declared.access.AccessError.TheVariants.{Closed}

-- by the entry at the palette's index, and by the two bytes
abbrev pub same_here : Chip → Chip → Bool
same_here c d = same_colour (entry (named c) c.loading.index) (entry (named d) c.loading.index)

abbrev pub tells_change : Chip → Wrote → Bool
tells_change c w = not (same_here c w.chip && eqb w.before w.after)

module _ (c : Chip) where
  -- a write that leaves the colours is told by its bytes
  by_bytes : (w : Wrote) → w.chip.palette ≡ c.palette → differ c w.chip ≡ not (eqb w.before w.after)
      → differ c w.chip ≡ tells_change c w
  by_bytes w e f =
      let x : Rgb = entry (named c) c.loading.index in
      let h : same_here c w.chip ≡ true =
      ap (λ (l : List Rgb). same_colour x (get_or l c.loading.index (rgb 0 0 0))) e ∙ colour_self x in
      f ∙ sym (ap (λ (z : Bool). not (z && eqb w.before w.after)) h)

  by_none : (w : Wrote) → named w.chip ≡ named c → w.before ≡ w.after → differ c w.chip ≡ tells_change c w
  by_none w e f = by_bytes w (ap (λ (n : Named). n.palette) e) (unmoved c w.chip e ∙ sym (ap not (eq-eqb _ _ f)))

  -- the data of an attribute register, and its index
  by_turn : (v : ℕ) (z : Bool) → let w = cond z (told Ar (index_of Ar c.indexes) c (attribute_set c v)) (untold (Ok tt) (attribute_aimed c v)) in
      differ c w.chip ≡ tells_change c w
  by_turn v true =
      let i : ℕ = index_of Ar c.indexes in
      by_bytes (told Ar i c (attribute_set c v)) (received_keeps_colours Ar (named c) i v) (reached_differs Ar c (attribute_set c v) v refl)
  by_turn v false = by_bytes (untold (Ok tt) (attribute_aimed c v)) refl (aimed_differs_not c v)

  and_true : (z : Bool) → z ≡ z && true
  and_true true = refl
  and_true false = refl

  by_target : (v : ℕ) → c.loading.index < 256 → (t : Target) → differ c (write_to t c v).chip ≡ tells_change c (write_to t c v)
  by_target v h (Index g) = by_none (write_to (Index g) c v) refl refl
  by_target v h (Data g) = by_bytes (write_to (Data g) c v) (received_keeps_colours g (named c) (index_of g c.indexes) v) (data_differs g c v)
  by_target v h ReadIndex = by_none (write_to ReadIndex c v) refl refl
  by_target v h WriteIndex = by_none (write_to WriteIndex c v) refl refl
  by_target v h Paldata = paldata_differs c v c.loading.index refl h ∙ ap not (and_true (same_here c (write_to Paldata c v).chip))
  by_target v h Attribute = by_turn v c.indexes.turn
  by_target v h Status = by_none (write_to Status c v) refl refl
  by_target v h NotPicked = by_none (write_to NotPicked c v) refl refl
  by_target v h NotListed = by_none (write_to NotListed c v) refl refl

-- any port write, where the palette's index is a byte
pub write_changing : (c : Chip) (p v : ℕ) → c.loading.index < 256 → changing c p v ≡ tells_change c (port_written c p v)
write_changing c p v h = go (ports_open (named c)) refl
  where
    go : (z : Bool) → ports_open (named c) ≡ z → changing c p v ≡ tells_change c (port_written c p v)
    go true free = rw (write_open c p free v) (by_target c v h (target (picks3_dx (named c)) true p))
    go false shut = rw (write_closed c p shut v) (by_none c (untold (Err Closed) c) refl refl)

-- the test that computes at once
abbrev pub quick : Chip → ℕ → ℕ → Bool
quick c p v = cond (ltb c.loading.index 256) (tells_change c (port_written c p v)) (changing c p v)

quick-changing : (c : Chip) (p v : ℕ) → changing c p v ≡ quick c p v
quick-changing c p v = go (ltb c.loading.index 256) refl
  where
    go : (z : Bool) → ltb c.loading.index 256 ≡ z → changing c p v ≡ cond z (tells_change c (port_written c p v)) (changing c p v)
    go true e = write_changing c p v (ltb-true _ _ e)
    go false e = refl

pub hold_quickly : (rs : List Row) → rows_hold_by quick rs ≡ true → rows_hold rs ≡ true
hold_quickly rs e =
    ap (λ (t : Chip → ℕ → ℕ → Bool). rows_hold_by t rs) (fun_ext (λ c. fun_ext (λ p. fun_ext (λ v. quick-changing c p v)))) ∙ e
