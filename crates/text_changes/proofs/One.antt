-- One write is at most one line: a register that receives a byte is told alone and so is a colour that is stored, and whether
-- there is a picture is not told. So after any port write the text has at most the 24 bytes of a colour's line, and after a
-- port read none.
use Prim.Native.Nat.{ℕ, ◌^◌, ◌≤◌, ◌<◌}
use native.Mathlib.Decide.{dec_lt}
use native.Mathlib.Nat.{mod-lt}
use native.Mathlib.Omega.{arith}
use mathlib.Core.Bool.{Bool, true, false, cond}
use mathlib.Core.Path.{◌≡◌, refl, sym, ap, ◌∙◌}
use mathlib.Core.List.{List, [], append-nil}
use lib.Dec.{eqb, leb}
use lib.ListN.{length}
use lib.Pow.{pow_pos}
use borrow.Author.Tests.{eqb-true, leb-true}
use Rattle.lists.specs.Scan.{every}
use Rattle.chip_registers.specs.Groups.{number_of, group_at, is_indexed}
use Rattle.chip_registers.specs.Indexes.{index_bits, index_kept}
use Rattle.chip_registers.specs.declared.Group.{Group}
use Rattle.chip_registers.proofs.TableLaws.{group_numbered, number_few, number_grouped, every_group}
use Rattle.chip.specs.State.{Chip, Named, named, with_picture, index_byte}
use Rattle.chip.specs.Names.{register, received}
use Rattle.chip.specs.Palette.{entry, coloured}
use Rattle.chip.specs.Access.{port_written, port_read}
use Rattle.chip.proofs.Banks.{place, room}
use Rattle.chip.proofs.NameLaws.{received_other, received_keeps_colours, coloured_keeps_register, picture_keeps_register}
use Rattle.chip.proofs.PaletteLaws.{coloured_other}
use Rattle.chip.proofs.AccessLaws.{named-written, read_keeps_all}
use Rattle.text_registers.proofs.Growing.{joined-one}
use Rattle.text_changes.specs.Changes.{register_change, indexes, registers_to, groups_to, colour_change, changed}
use Rattle.text_changes.proofs.Lengths.{register_most, colour_most}
use Rattle.text_changes.proofs.Telling.{register-kept, colour_kept, group_silent, groups_silent, colours_silent, changed_silent, changed-none}

-- ---- the indexes of each group
-- an index that a group has is the register's place in its bank
place-index : (g : Group) (i : ℕ) → i < indexes (number_of g) → place g i ≡ i
unfolding indexes group_at every
place-index g i h =
    let all : indexes (number_of g) ≡ room g = eqb-true _ _ (every_group (λ k. eqb (indexes (number_of k)) (room k)) refl g) in
    go (is_indexed g) (rw all at h)
  where
    go : (z : Bool) → i < cond z 256 1 → cond z i 0 ≡ i
    go true w = refl
    go false w = omega arith

-- what an index register keeps is one of them
pub kept-index : (g : Group) (v : ℕ) → index_kept g v < indexes (number_of g)
unfolding index_kept indexes group_at every
kept-index g v =
    let few : 2 ^ index_bits g ≤ indexes (number_of g) =
    leb-true (2 ^ index_bits g) (indexes (number_of g)) (every_group (λ h. leb (2 ^ index_bits h) (indexes (number_of h))) refl g) in
    omega (arith, mod-lt v (pow_pos (index_bits g)))

-- ---- a register that receives a byte
module _ (g : Group) (n : Named) (i v : ℕ) where
  -- the registers of the other groups stay, and the others of its own
  group_stays : (k j : ℕ) → k < 9 → (k ≡ number_of g → ⊥) → register (group_at k) n j ≡ register (group_at k) (received g n i v) j
  group_stays k j h other =
      sym (received_other g (group_at k) n i v j (λ same _. other (sym (same ∙ number_grouped k h))))

  module _ (hi : i < indexes (number_of g)) where
    rest-stays : (j : ℕ) → j < indexes (number_of g) → (j ≡ i → ⊥) → register g n j ≡ register g (received g n i v) j
    rest-stays j hj other =
        sym (received_other g g n i v j (λ _ same. other (sym (sym (place-index g i hi) ∙ same ∙ place-index g j hj))))

    group_told : registers_to n (received g n i v) (number_of g) (indexes (number_of g))
        ≡ register_change (number_of g) i (register g n i) (register g (received g n i v) i)
    group_told =
        rw (group_numbered g)
        (joined-one (λ (j : ℕ). register_change (number_of g) j (register g n j) (register g (received g n i v) j)) (indexes (number_of g)) i hi
        (λ j hj other. register-kept (number_of g) j _ _ (rest-stays j hj other)))

    groups_told : groups_to n (received g n i v) 9 ≡ register_change (number_of g) i (register g n i) (register g (received g n i v) i)
    groups_told =
        joined-one (λ (k : ℕ). registers_to n (received g n i v) k (indexes k)) 9 (number_of g) (number_few g)
        (λ k hk other. group_silent n (received g n i v) k (λ j hj. group_stays k j hk other))
        ∙ group_told

    -- it is told alone
    pub changed-received : changed n (received g n i v) ≡ register_change (number_of g) i (register g n i) (register g (received g n i v) i)
    unfolding changed
    changed-received =
        rw (groups_told, colours_silent n (received g n i v) (λ e h. rw (received_keeps_colours g n i v))) (append-nil _)

-- ---- a colour that is stored
module _ (n : Named) (e r g b : ℕ) where
  registers_stay : groups_to n (coloured n e r g b) 9 ≡ []
  registers_stay = groups_silent n (coloured n e r g b) (λ h i hh hi. sym (coloured_keeps_register (group_at h) n e r g b i))

  -- it is told alone; and past the 256 entries there is none to tell
  pub changed-coloured : e < 256 → changed n (coloured n e r g b) ≡ colour_change e (entry n e) (entry (coloured n e r g b) e)
  unfolding changed
  changed-coloured h =
      rw registers_stay
      (joined-one (λ (k : ℕ). colour_change k (entry n k) (entry (coloured n e r g b) k)) 256 e h
      (λ k hk other. colour_kept k _ _ (sym (coloured_other n e r g b k other))))

  pub changed_outside : (e < 256 → ⊥) → changed n (coloured n e r g b) ≡ []
  unfolding changed
  changed_outside h =
      rw registers_stay
      (colours_silent n (coloured n e r g b) (λ k hk. sym (coloured_other n e r g b k (λ same. h (omega arith)))))

-- ---- the picture, which is in no register and in no colour
pub changed_picture : (n : Named) (lit : Bool) → changed n (with_picture n lit) ≡ []
changed_picture n lit =
    changed_silent n (with_picture n lit) (λ g i hg hi. sym (picture_keeps_register (group_at g) n lit i)) (λ e h. refl)

-- ---- how long the text of one write is
pub received-line : (g : Group) (n : Named) (i v : ℕ) → i < indexes (number_of g) → length (changed n (received g n i v)) ≤ 14
received-line g n i v h = rw (changed-received g n i v h) (register_most (number_of g) i _ _)

pub coloured-line : (n : Named) (e r g b : ℕ) → length (changed n (coloured n e r g b)) ≤ 24
coloured-line n e r g b = go (dec_lt e 256)
  where
    go : Dec (e < 256) → length (changed n (coloured n e r g b)) ≤ 24
    go (yes h) = rw (changed-coloured n e r g b h) (colour_most e _ _)
    go (no h) = rw (changed_outside n e r g b h) (omega arith)

pub written-line : (c : Chip) (p v : ℕ) → length (changed (named c) (named (port_written c p v).chip)) ≤ 24
written-line c p v =
    named-written (λ n. length (changed (named c) n) ≤ 24) c v (silent (changed-none (named c)))
    (λ g. omega (arith, received-line g (named c) _ v (kept-index g (index_byte g c.indexes))))
    (coloured-line (named c)) (λ lit. silent (changed_picture (named c) lit)) p
  where
    silent : {l : List ℕ} → l ≡ [] → length l ≤ 24
    silent e = rw e (omega arith)

-- a port read changes nothing that is told
pub read-line : (c : Chip) (p : ℕ) → changed (named c) (named (port_read c p).chip) ≡ []
read-line c p = ap (changed (named c)) (read_keeps_all c p).0 ∙ changed-none (named c)
