-- What a write answers, as one number: the number decides what is told and is decided by it; the words of writes that tell of no
-- register; and the word of a register's byte before and after.
use Rattle.std.proofs.Common.{◌≡◌, ℕ, ◌+◌, ◌*◌, ◌/◌, ◌%◌, ◌<◌, ◌≤◌, Bool, true, false, cond, not, ◌&&◌, ◌||◌, eqb, leb, List, get_or, sym, refl, ap, ◌∙◌, arith, eq-eqb, eqb-true, leb-false, leb-true}
use borrow.Author.Tests.{eqb-false}
use Rattle.chip_registers.specs.declared.Group.{Group}
use Rattle.chip_registers.specs.declared.Group.TheVariants.{Ar}
use Rattle.chip_ports.specs.declared.Target.TheVariants.{Paldata}
use Rattle.chip.specs.State.{Chip, named, join, with_named, with_indexes, with_loading, with_turn, index_of}
use Rattle.chip.specs.Names.{register, received, eight_bit}
use Rattle.chip.specs.Palette.{by_mode, coloured, held, moved, loaded}
use Rattle.chip.specs.Attribute.{attribute_set}
use Rattle.chip.specs.Access.{Wrote, untold, told, write_to}
use Rattle.chip.specs.Differ.{same_colour, same_stored, differ, changes}
use Rattle.chip.proofs.DifferLaws.{received_differs, differ-named, coloured_same-stored}
use Rattle.chip.proofs.PaletteLaws.{coloured-same}
use Rattle.lent_chip.specs.Layout.{PALETTE, view, spare, Holds}
use Rattle.lent_chip.specs.Accesses.{Told, told_of, Packed, WroteIn}
use Rattle.lent_chip.proofs.Stores.{get_colour, palette-length}
use Rattle.lent_chip.proofs.Holding.{turned}
use Rattle.std.specs.Prelude.{Result, Ok, Err}
use Rattle.chip.specs.declared.access.AccessError.{AccessError}
use Rattle.chip.specs.declared.access.AccessError.TheVariants.{Unlisted, Closed}

-- ---- what is told is the number's bytes
top : (x : ℕ) → x / 65536 ≡ 65536 * (x / 4294967296) + 256 * (x / 16777216 % 256) + x / 65536 % 256
top x =
    let a : x / 16777216 ≡ 256 * (x / 4294967296) + x / 16777216 % 256 = omega arith in
    let b : x / 65536 ≡ 256 * (x / 16777216) + x / 65536 % 256 = omega arith in
    omega (arith, a, b)

low : (x : ℕ) → x % 65536 ≡ 256 * (x / 256 % 256) + x % 256
low x = omega arith

halves : (x y : ℕ) → x / 65536 ≡ y / 65536 → x % 65536 ≡ y % 65536 → x ≡ y
halves x y h l = omega arith

pub packed_decides : (r s : ℕ) (t : Told) → Packed r t → Packed s t → r ≡ s
packed_decides r s t p q =
    halves r s
    (top r ∙ rw (p.above, p.number, p.between) (sym (top s ∙ rw (q.above, q.number, q.between) refl)))
    (low r ∙ rw (p.before, p.after) (sym (low s ∙ rw (q.before, q.after) refl)))

-- it tells whether something differs, where two bytes that are not the same say so: of every write they do
pub packed-changed : (r : ℕ) (t : Told) → Packed r t → t.changed ≤ 1 → ((t.before ≡ t.after → ⊥) → t.changed ≡ 1)
    → t.changed ≡ cond (not (eqb (r / 256 % 256) (r % 256)) || leb 4294967296 r) 1 0
packed-changed r t p few differs = rw (p.before, p.after) (go (eqb t.before t.after) refl p.above)
  where
    high : (z : Bool) → leb 4294967296 r ≡ z → r / 4294967296 ≡ t.changed → t.changed ≡ cond z 1 0
    high true e a = let h : 4294967296 ≤ r = leb-true _ _ e in omega arith
    high false e a = let h : r < 4294967296 = leb-false _ _ e in omega arith

    go : (z : Bool) → eqb t.before t.after ≡ z → r / 4294967296 ≡ cond z t.changed 0
        → t.changed ≡ cond (not z || leb 4294967296 r) 1 0
    go true e a = high (leb 4294967296 r) refl a
    go false e a = differs (eqb-false _ _ e)

-- the word of a register's byte before and after
word : (b a k : ℕ) → b < 256 → a < 256 → ((b ≡ a) → k ≡ 0) → Packed (256 * b + a) (record { number = 0; changed = k; before = b; after = a })
word b a k hb ha same = record {
  above = go (eqb b a) refl;
  number = omega arith;
  between = omega arith;
  before = omega arith;
  after = omega arith;
}
  where
    go : (z : Bool) → eqb b a ≡ z → (256 * b + a) / 4294967296 ≡ cond z k 0
    go true e = let h : k ≡ 0 = same (eqb-true _ _ e) in omega arith
    go false e = omega arith

-- a write that tells of no register and changes none, by its answer
abbrev pub word_of : Result (Unit {0}) AccessError → ℕ
word_of (Ok tt) = 0x0000FFFF
word_of (Err Unlisted) = 0x0100FFFF
word_of (Err Closed) = 0x0200FFFF

pub quiet_word : (c d : Chip) (a : Result (Unit {0}) AccessError) → differ c d ≡ false → Packed (word_of a) (told_of c (untold a d))
quiet_word c d (Ok tt) e = rw e (record { above = refl; number = refl; between = refl; before = refl; after = refl })
quiet_word c d (Err Unlisted) e = rw e (record { above = refl; number = refl; between = refl; before = refl; after = refl })
quiet_word c d (Err Closed) e = rw e (record { above = refl; number = refl; between = refl; before = refl; after = refl })

shown_below : (z : Bool) (x : ℕ) → x < 256 → cond z x 0 < 256
shown_below true x h = h
shown_below false x h = omega arith

-- a register received a byte: its word, from its byte as the code shows it in the bytes before and in those that are left
pub then_told : {l m : List ℕ} {r : ℕ} (g : Group) (i v : ℕ) (z : Bool) (before after : ℕ) → i < 256
    → Holds m (with_named (view l) (received g (named (view l)) i v)) (spare l) → r ≡ 256 * cond z before 0 + cond z after 0
    → before < 256 → after < 256 → cond z before 0 ≡ register g (named (view l)) i → cond z after 0 ≡ register g (named (view m)) i
    → WroteIn l (told g i (view l) (with_named (view l) (received g (named (view l)) i v))) m r
then_told {l} g i v z before after h k is hb ha b a =
    let now = a ∙ ap (λ (d : Chip). register g (named d) i) k.chip in
    let old : ℕ = register g (named (view l)) i in
    let new : ℕ = register g (received g (named (view l)) i v) i in
    let same : old ≡ new → changes (view l) (with_named (view l) (received g (named (view l)) i v)) ≡ 0 =
    λ e. rw (received_differs g (view l) i v h, eq-eqb old new e) refl in
    record { holds = k; answer = rw (is, b, now) (word old new _ (rw b at (shown_below z before hb)) (rw now at (shown_below z after ha)) same) }

-- what an access leaves and tells, from an access of which it is the same
pub now_wrote : {l m : List ℕ} {w x : Wrote} {r : ℕ} → WroteIn l w m r → w ≡ x → WroteIn l x m r
now_wrote h e = rw (← e) h

-- a byte to PALDATA tells of no register; what is stored may differ
pub colour_word_lem : (c d : Chip) (z : Bool) → differ c d ≡ z → Packed (cond z 0x10000FFFF 0x0000FFFF) (told_of c (untold (Ok tt) d))
colour_word_lem c d true e = rw e (record { above = refl; number = refl; between = refl; before = refl; after = refl })
colour_word_lem c d false e = quiet_word c d (Ok tt) e

-- a write of an index: what has a name stays, or the picture alone differs
pub quietly : {l m : List ℕ} {d : Chip} (a : Result (Unit {0}) AccessError) → Holds m d (spare l) → differ (view l) d ≡ false → WroteIn l (untold a d) m (word_of a)
quietly {l} {d = d} a h e = record { holds = h; answer = quiet_word (view l) d a e }

-- a byte came to PALDATA, and then the position moved
pub then_loaded : {l k m : List ℕ} {b : Bool} (v : ℕ)
    → Holds k (join (loaded (named (view l)) (view l).loading v) (view l).indexes (held (view l).loading v)) (spare l)
    → b ≡ not (same_stored (named (view l)) (loaded (named (view l)) (view l).loading v))
    → Holds m (with_loading (view k) (moved (view k).loading)) (spare k)
    → WroteIn l (write_to Paldata (view l) v) m (cond b 0x10000FFFF 0x0000FFFF)
unfolding differ
then_loaded {l} {b = b} v h e n = record {
  holds = record {
    size = n.size;
    chip = n.chip ∙ ap (λ (d : Chip). with_loading d (moved d.loading)) h.chip;
    spare = n.spare ∙ h.spare;
  };
  answer = colour_word_lem (view l) (write_to Paldata (view l) v).chip b (sym e);
}

-- the register at the attribute index received a byte, and then the turn was set
pub then_set : {l k m : List ℕ} {i r : ℕ} (v : ℕ) → WroteIn l (told Ar i (view l) (with_named (view l) (received Ar (named (view l)) i v))) k r
    → Holds m (with_indexes (view k) (with_turn (view k).indexes false)) (spare k) → i ≡ index_of Ar (view l).indexes
    → WroteIn l (told Ar (index_of Ar (view l).indexes) (view l) (attribute_set (view l) v)) m r
then_set {l} v w h is =
    let x = rw is at w in
    record {
      holds = turned false x.holds h;
      answer = rw (← differ-named (view l) _ (attribute_set (view l) v) refl) x.answer;
    }

-- the three bytes of an entry are those of a stored colour exactly where nothing differs
pub colour_told : (l : List ℕ) (e r g b : ℕ) {x y z : ℕ} → e < 256
    → x ≡ by_mode (eight_bit (named (view l))) r → y ≡ by_mode (eight_bit (named (view l))) g → z ≡ by_mode (eight_bit (named (view l))) b
    → (eqb (get_or l (PALETTE + 3 * e) 0) x && eqb (get_or l (PALETTE + 3 * e + 1) 0) y && eqb (get_or l (PALETTE + 3 * e + 2) 0) z)
    ≡ same_stored (named (view l)) (coloured (named (view l)) e r g b)
unfolding same_colour
colour_told l e r g b {x} {y} {z} h p q s =
    let one : PALETTE + 3 * e + 1 ≡ PALETTE + (3 * e + 1) = omega arith in
    let two : PALETTE + 3 * e + 2 ≡ PALETTE + (3 * e + 2) = omega arith in
    rw (p, q, s, one, two)
    (sym (coloured_same-stored (named (view l)) e r g b h
    ∙ rw (get_colour l e h, coloured-same (named (view l)) e r g b (rw (palette-length l) h)) refl))
