-- What stands behind a command: behind a data write, at 3C0h too, its register with the two bytes that the write hands back, and
-- behind a byte to PALDATA the entry before and after; nothing where the two are the same, nothing behind a read, and nothing
-- behind a write of an index. A line has at most 38 bytes, so that the text of any file fits into 344,832.
use Prim.Native.Nat.{ℕ, ◌*◌, ◌≤◌, ◌<◌}
use native.Mathlib.Omega.{arith}
use mathlib.Core.Bool.{Bool, true, false, not, cond}
use mathlib.Core.Path.{◌≡◌, refl, sym, ap, ◌∙◌}
use mathlib.Core.List.{List, [], ◌∷◌, ◌++◌}
use lib.Dec.{eqb, ltb}
use lib.ListN.{length, length-append}
use borrow.Author.Tests.{eq-eqb, ne_eqb, ltb-false}
use Rattle.chip_registers.specs.Groups.{number_of}
use Rattle.chip_registers.specs.declared.Group.{Group}
use Rattle.chip_registers.specs.declared.Group.TheVariants.{Ar}
use Rattle.chip_ports.specs.Ports.{target}
use Rattle.chip_ports.specs.declared.Target.{Target}
use Rattle.chip_ports.specs.declared.Target.TheVariants.{Index, Data, ReadIndex, WriteIndex, Paldata, Attribute}
use Rattle.chip.specs.State.{Chip, Named, named, index_byte, index_of}
use Rattle.chip.specs.Names.{received, ports_open, picks3_dx}
use Rattle.chip.specs.Palette.{entry, coloured, loaded}
use Rattle.chip.specs.Attribute.{attribute_aimed, attribute_set}
use Rattle.chip.specs.declared.Rgb.{Rgb}
use Rattle.chip.specs.declared.Loading.{Loading}
use Rattle.chip.specs.Access.{Wrote, untold, told as handed, write_to, port_written, port_read}
use Rattle.chip.specs.Differ.{same_colour, differ}
use Rattle.chip.proofs.AccessLaws.{write_open}
use Rattle.chip.proofs.DifferLaws.{colour_self, colour_same, unmoved, reached_differs, paldata_differs, aimed_differs_not, read_differs_not}
use Rattle.script.specs.File.{step_count}
use Rattle.script.specs.declared.Refusal.TheVariants.{Room}
use Rattle.script_commands.specs.Command.{bytes_of_all}
use Rattle.script_commands.specs.Translation.{commands_to, translated}
use Rattle.script_commands.specs.declared.Command.TheVariants.{Out, In, Merge, OutAcc}
use Rattle.script_commands.proofs.Codec.{length-bytes}
use Rattle.chip_run.specs.Run.{one, done, reads}
use Rattle.chip_run.proofs.RunLaws.{length-reads}
use Rattle.chip_play.specs.Played.{fresh}
use Rattle.text.specs.Ascii.{ascii}
use Rattle.text_changes.specs.Changes.{register_line, register_change, colour_line, colour_change, changed}
use Rattle.text_changes.proofs.One.{kept-index, changed-received, changed-coloured, written-line, read-line}
use Rattle.text_changes.proofs.Telling.{changed-none}
use Rattle.text_listing.proofs.Adding.{words_most}
use Rattle.text_listing.proofs.Listing.{translated_few}
use Rattle.text_effects.specs.Effects.{words_read, behind, effects_of, text, wanted, told_by, told}
use Rattle.std.specs.Prelude.{Result, Option, Ok, Err, Some, None}
use Rattle.script_commands.specs.declared.Command.{Command}
use Rattle.script.specs.declared.Refusal.{Refusal}

-- ---- by whether something differs
pub behind_other : (c d : Chip) → differ c d ≡ true → behind c d ≡ ascii "   " ++ changed (named c) (named d)
unfolding behind
behind_other c d h = rw h

pub behind-same : (c d : Chip) → differ c d ≡ false → behind c d ≡ ascii "\n"
unfolding behind
behind-same c d h = rw h

-- ---- a register that a write reached, as a write tells of it: its name and the two bytes, or nothing where they are the same
module _ (g : Group) (c d : Chip) (v : ℕ) (is : named d ≡ received g (named c) (index_of g c.indexes) v) where
  told_other : {w : Wrote} → w ≡ handed g (index_of g c.indexes) c d → (w.before ≡ w.after → ⊥)
      → behind c w.chip ≡ ascii "   " ++ register_line (number_of g) (index_of g c.indexes) w.before w.after
  unfolding register_change
  told_other e = rw e (λ other.
      behind_other c d (reached_differs g c d v is ∙ ap not (ne_eqb _ _ other))
      ∙ ap (◌++◌ (ascii "   "))
      (ap (changed (named c)) is ∙ changed-received g (named c) (index_of g c.indexes) v (kept-index g (index_byte g c.indexes))
      ∙ rw (← is, ne_eqb _ _ other)))

  told_same : {w : Wrote} → w ≡ handed g (index_of g c.indexes) c d → w.before ≡ w.after → behind c w.chip ≡ ascii "\n"
  told_same e = rw e (λ same. behind-same c d (reached_differs g c d v is ∙ ap not (eq-eqb _ _ same)))

-- ---- a colour that a write reached
other_colour : (x y : Rgb) → (x ≡ y → ⊥) → same_colour x y ≡ false
other_colour x y other = go (same_colour x y) refl
  where
    go : (b : Bool) → same_colour x y ≡ b → b ≡ false
    go true same = absurd (other (colour_same x y same))
    go false same = refl

colour_told : (e : ℕ) (x y : Rgb) → (x ≡ y → ⊥) → colour_change e x y ≡ colour_line e x y
unfolding colour_change
colour_told e x y other = rw (other_colour x y other)

-- what has a name after a byte to PALDATA
loaded-told : (n : Named) (l : Loading) (v e : ℕ) → l.index ≡ e → e < 256 → (entry n e ≡ entry (loaded n l v) e → ⊥)
    → changed n (loaded n l v) ≡ colour_line e (entry n e) (entry (loaded n l v) e)
unfolding loaded
loaded-told n l v e at few = go (eqb l.position 2)
  where
    m : Bool → Named
    m z = cond z (coloured n l.index l.red l.green v) n

    go : (z : Bool) → (entry n e ≡ entry (m z) e → ⊥) → changed n (m z) ≡ colour_line e (entry n e) (entry (m z) e)
    go true other =
        changed-coloured n l.index l.red l.green v (omega arith)
        ∙ ap (λ (k : ℕ). colour_change k (entry n k) (entry (m true) k)) at ∙ colour_told e _ _ other
    go false other = absurd (other refl)

module _ (c : Chip) (v e : ℕ) (at : c.loading.index ≡ e) (few : e < 256) where
  loaded_other : (entry (named c) e ≡ entry (named (write_to Paldata c v).chip) e → ⊥)
      → behind c (write_to Paldata c v).chip ≡ ascii "   " ++ colour_line e (entry (named c) e) (entry (named (write_to Paldata c v).chip) e)
  loaded_other other =
      behind_other c (write_to Paldata c v).chip (paldata_differs c v e at few ∙ ap not (other_colour _ _ other))
      ∙ ap (◌++◌ (ascii "   ")) (loaded-told (named c) c.loading v e at few other)

  loaded-same : entry (named c) e ≡ entry (named (write_to Paldata c v).chip) e → behind c (write_to Paldata c v).chip ≡ ascii "\n"
  loaded-same same =
      behind-same c (write_to Paldata c v).chip
      (paldata_differs c v e at few ∙ ap (λ (x : Rgb). not (same_colour (entry (named c) e) x)) (sym same) ∙ ap not (colour_self (entry (named c) e)))

-- ---- what stands behind the writes
module _ (c : Chip) (p v : ℕ) (free : ports_open (named c) ≡ true) where
  to : {t : Target} → target (picks3_dx (named c)) true p ≡ t → port_written c p v ≡ write_to t c v
  to leads = write_open c p free v ∙ ap (λ (t : Target). write_to t c v) leads

  -- a data write
  module _ (g : Group) (leads : target (picks3_dx (named c)) true p ≡ Data g) where
    pub data_behind : ((port_written c p v).before ≡ (port_written c p v).after → ⊥)
        → behind c (port_written c p v).chip
        ≡ ascii "   " ++ register_line (number_of g) (index_of g c.indexes) (port_written c p v).before (port_written c p v).after
    data_behind = told_other g c (write_to (Data g) c v).chip v refl (to leads)

    pub data_behind_not : (port_written c p v).before ≡ (port_written c p v).after → behind c (port_written c p v).chip ≡ ascii "\n"
    data_behind_not = told_same g c (write_to (Data g) c v).chip v refl (to leads)

  -- 3C0h in the turn of data
  module _ (leads : target (picks3_dx (named c)) true p ≡ Attribute) (turn : c.indexes.turn ≡ true) where
    to_attribute : port_written c p v ≡ handed Ar (index_of Ar c.indexes) c (attribute_set c v)
    to_attribute = to leads ∙ rw turn refl

    pub attribute_behind : ((port_written c p v).before ≡ (port_written c p v).after → ⊥)
        → behind c (port_written c p v).chip
        ≡ ascii "   " ++ register_line 8 (index_of Ar c.indexes) (port_written c p v).before (port_written c p v).after
    attribute_behind = told_other Ar c (attribute_set c v) v refl to_attribute

    pub attribute_behind_not : (port_written c p v).before ≡ (port_written c p v).after → behind c (port_written c p v).chip ≡ ascii "\n"
    attribute_behind_not = told_same Ar c (attribute_set c v) v refl to_attribute

  -- a byte to PALDATA: the entry at the index, before and after
  module _ (leads : target (picks3_dx (named c)) true p ≡ Paldata) (e : ℕ) (at : c.loading.index ≡ e) (few : e < 256) where
    pub colour_behind : (entry (named c) e ≡ entry (named (port_written c p v).chip) e → ⊥)
        → behind c (port_written c p v).chip ≡ ascii "   " ++ colour_line e (entry (named c) e) (entry (named (port_written c p v).chip) e)
    colour_behind = rw (to leads) (loaded_other c v e at few)

    pub colour_behind_not : entry (named c) e ≡ entry (named (port_written c p v).chip) e → behind c (port_written c p v).chip ≡ ascii "\n"
    colour_behind_not = rw (to leads) (loaded-same c v e at few)

  -- a write of an index: of a group, of the palette, and of the attribute registers at 3C0h
  unmoved-behind : {t : Target} → target (picks3_dx (named c)) true p ≡ t → named (write_to t c v).chip ≡ named c
      → behind c (port_written c p v).chip ≡ ascii "\n"
  unmoved-behind leads same =
      behind-same c (port_written c p v).chip (unmoved c (port_written c p v).chip (ap (λ (w : Wrote). named w.chip) (to leads) ∙ same))

  pub index_behind_not : (g : Group) → target (picks3_dx (named c)) true p ≡ Index g → behind c (port_written c p v).chip ≡ ascii "\n"
  index_behind_not g leads = unmoved-behind leads refl

  pub read-index_behind_not : target (picks3_dx (named c)) true p ≡ ReadIndex → behind c (port_written c p v).chip ≡ ascii "\n"
  read-index_behind_not leads = unmoved-behind leads refl

  pub write_index_behind_not : target (picks3_dx (named c)) true p ≡ WriteIndex → behind c (port_written c p v).chip ≡ ascii "\n"
  write_index_behind_not leads = unmoved-behind leads refl

  pub attribute_index_behind_not : target (picks3_dx (named c)) true p ≡ Attribute → c.indexes.turn ≡ false
      → behind c (port_written c p v).chip ≡ ascii "\n"
  attribute_index_behind_not leads turn =
      let e : port_written c p v ≡ untold (Ok tt) (attribute_aimed c v) = to leads ∙ rw turn refl in
      rw e (behind-same c (attribute_aimed c v) (aimed_differs_not c v))

-- a read
pub read_behind_not : (c : Chip) (p : ℕ) → behind c (port_read c p).chip ≡ ascii "\n"
read_behind_not c p = behind-same c (port_read c p).chip (read_differs_not c p)

-- ---- a line has at most 38 bytes
changed_few : (c : Chip) (acc : ℕ) (r : Option Command) → length (changed (named c) (named (one c acc r).chip)) ≤ 24
unfolding one done
changed_few c acc (Some (Out p v)) = written-line c p v
changed_few c acc (Some (In p)) = rw (read-line c p) (omega arith)
changed_few c acc (Some (Merge keep set)) = rw (changed-none (named c)) (omega arith)
changed_few c acc (Some (OutAcc p)) = written-line c p acc
changed_few c acc None = rw (changed-none (named c)) (omega arith)

pub words_read_most : (r : Option Command) → length (words_read r) ≤ 11
words_read_most (Some x) = words_most x
words_read_most None = omega arith

pub behind_most : (c : Chip) (acc : ℕ) (r : Option Command) → length (behind c (one c acc r).chip) ≤ 27
unfolding behind
behind_most c acc r = go (differ c (one c acc r).chip)
  where
    told_here : List ℕ
    told_here = changed (named c) (named (one c acc r).chip)

    go : (b : Bool) → length (cond b (ascii "   " ++ told_here) (ascii "\n")) ≤ 27
    go true = omega (arith, changed_few c acc r)
    go false = omega arith

pub line_most : (c : Chip) (acc : ℕ) (r : Option Command) → length (words_read r ++ behind c (one c acc r).chip) ≤ 38
line_most c acc r =
    omega (arith, words_read_most r, behind_most c acc r, length-append (words_read r) (behind c (one c acc r).chip))

-- ---- the text has at most 38 bytes a command
pub effects_most : (rs : List (Option Command)) (c : Chip) (acc : ℕ) → length (effects_of c acc rs) ≤ 38 * length rs
unfolding effects_of
effects_most [] c acc = omega arith
effects_most (r ∷ rs) c acc =
    let d = one c acc r in
    let rest : length (effects_of d.chip d.acc rs) ≤ 38 * length rs = effects_most rs d.chip d.acc in
    omega (arith, line_most c acc r, length-append (words_read r ++ behind c d.chip) (effects_of d.chip d.acc rs))

pub text_most : (f : List ℕ) (work k : ℕ) → translated f work ≡ Ok k → length (text f) ≤ 38 * k
text_most f work k is =
    let bytes : List ℕ = bytes_of_all (commands_to f (step_count f)) in
    omega (arith, (translated_few f work k is).count, length-bytes (commands_to f (step_count f)), length-reads bytes, effects_most (reads bytes) fresh 0)

-- the text lies within its buffer
pub told-within : (f : List ℕ) (work room n : ℕ) → told f work room ≡ Ok n → n ≤ room
unfolding told
told-within f work room n is = go (translated f work) refl is
  where
    within : (k : ℕ) → translated f work ≡ Ok k → (b : Bool) → ltb room (wanted k) ≡ b
        → cond b (Err Room) (Ok (length (text f))) ≡ Ok n → n ≤ room
    within k t true e is = let z : ◌≡◌ {A = ℕ} 0 1 = cc in absurd (omega arith)
    within k t false e is =
        let same : length (text f) ≡ n = cc in
        let enough : wanted k ≤ room = ltb-false _ _ e in
        omega (arith, text_most f work k t)

    go : (t : Result ℕ Refusal) → translated f work ≡ t → told_by t f room ≡ Ok n → n ≤ room
    go (Ok k) e is = within k e (ltb room (wanted k)) refl is
    go (Err why) e is = let z : ◌≡◌ {A = ℕ} 0 1 = cc in absurd (omega arith)

-- 8,064 commands, the most of any file, want 344,832 bytes
pub wanted_most : (k : ℕ) → k ≤ 8064 → wanted k ≤ 344832
wanted_most k h = omega arith

pub file_wanted_most : (f : List ℕ) (work k : ℕ) → translated f work ≡ Ok k → wanted k ≤ 344832
file_wanted_most f work k is = wanted_most k (translated_few f work k is).few
