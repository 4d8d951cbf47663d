-- The laws of reading and writing by name, for every group at once: a register that received a byte, the other registers, the
-- colours, and which bits can change at all. Layers above cite these and not the tables.
use Rattle.std.proofs.Common.{◌≡◌, ℕ, zero, suc, ◌<◌, Bool, true, false, cond, eqb, List, [], ◌∷◌, length, get_or, set, sym, refl, ap, ◌∙◌, get_or-set_other, get_or-set_same, eqb-true}
use borrow.Author.Tests.{eqb-false}
use Rattle.lists.specs.Bits.{bit, is_set}
use Rattle.chip_registers.specs.Groups.{number_of, is, row_of}
use Rattle.chip_registers.specs.WriteRule.{left_open, writable_now, written}
use Rattle.chip_registers.proofs.TableLaws.{is_same}
use Rattle.chip_registers.proofs.WriteLaws.{bit-written, written_byte, byte_now}
use Rattle.chip_registers.specs.declared.Group.{Group}
use Rattle.chip_registers.specs.declared.Group.TheVariants.{Cr, Sr, Gr, Xr, Fr, Mr, Msr, Palmask, Ar}
use Rattle.chip.specs.State.{Named, same_registers, with_picture}
use Rattle.chip.specs.Names.{register, replaced, locked, writable_at, received}
use Rattle.chip.specs.Palette.{coloured}
use Rattle.chip.specs.declared.Rgb.{Rgb}
use Rattle.chip.proofs.Banks.{bank, place, register-bank, bank-replaced, bank-same, is_self}

-- the register has its place in the state: every index below 256 does, where tables hold 256 bytes
abbrev pub Has : Group → Named → ℕ → Type 0
Has g n i = place g i < length (bank g n)

-- two names that do not mean one register
abbrev pub Different : Group → ℕ → Group → ℕ → Type 0
Different g i h k = number_of g ≡ number_of h → place h i ≡ place h k → ⊥

after : (h g : Group) (n : Named) (i b k : ℕ) → register h (replaced g n i b) k ≡ get_or (cond (is g h) (set (bank h n) (place h i) b) (bank h n)) (place h k) 0
after h g n i b k = register-bank h (replaced g n i b) k ∙ ap (λ (l : List ℕ). get_or l (place h k) 0) (bank-replaced h g n i b)

pub replaced-same : (g : Group) (n : Named) (i b : ℕ) → Has g n i → register g (replaced g n i b) i ≡ b
replaced-same g n i b has = after g g n i b i ∙ rw (is_self g) (get_or-set_same (bank g n) (place g i) b 0 has)

pub replaced_other : (g h : Group) (n : Named) (i b k : ℕ) → Different g i h k → register h (replaced g n i b) k ≡ register h n k
replaced_other g h n i b k different = after h g n i b k ∙ go (is g h) refl ∙ sym (register-bank h n k)
  where
    go : (z : Bool) → is g h ≡ z → get_or (cond z (set (bank h n) (place h i) b) (bank h n)) (place h k) 0 ≡ get_or (bank h n) (place h k) 0
    go true e = get_or-set_other (bank h n) (place h i) (place h k) b 0 (λ p. different (eqb-true _ _ e) (sym p))
    go false e = refl

-- replacing a byte by one that has the same bit k leaves bit k of every register
bit-set : (k : ℕ) (l : List ℕ) (i j b : ℕ) → bit k b ≡ bit k (get_or l i 0) → bit k (get_or (set l i b) j 0) ≡ bit k (get_or l j 0)
bit-set k [] i j b h = refl
bit-set k (x ∷ l) zero zero b h = h
bit-set k (x ∷ l) zero (suc j) b h = refl
bit-set k (x ∷ l) (suc i) zero b h = refl
bit-set k (x ∷ l) (suc i) (suc j) b h = bit-set k l i j b h

pub replaced-bit : (k : ℕ) (g h : Group) (n : Named) (i b j : ℕ) → bit k b ≡ bit k (register g n i)
    → bit k (register h (replaced g n i b) j) ≡ bit k (register h n j)
replaced-bit k g h n i b j same = ap (bit k) (after h g n i b j) ∙ go (is g h) refl ∙ ap (bit k) (sym (register-bank h n j))
  where
    go : (z : Bool) → is g h ≡ z
        → bit k (get_or (cond z (set (bank h n) (place h i) b) (bank h n)) (place h j) 0) ≡ bit k (get_or (bank h n) (place h j) 0)
    go true e =
        let there : bit k b ≡ bit k (register h n i) = rw (is_same g h e) at same in
        bit-set k (bank h n) (place h i) (place h j) b (there ∙ ap (bit k) (register-bank h n i))
    go false e = refl

-- what holds of the new byte and of every old one holds of every register afterwards
set_all : (P : ℕ → Type 0) (l : List ℕ) (i j b : ℕ) → P b → P (get_or l j 0) → P (get_or (set l i b) j 0)
set_all P [] i j b new old = old
set_all P (x ∷ l) zero zero b new old = new
set_all P (x ∷ l) zero (suc j) b new old = old
set_all P (x ∷ l) (suc i) zero b new old = old
set_all P (x ∷ l) (suc i) (suc j) b new old = set_all P l i j b new old

pub replaced_all : (P : ℕ → Type 0) (g h : Group) (n : Named) (i b j : ℕ) → P b → P (register h n j) → P (register h (replaced g n i b) j)
replaced_all P g h n i b j new old = rw (after h g n i b j) (go (is g h))
  where
    go : (z : Bool) → P (get_or (cond z (set (bank h n) (place h i) b) (bank h n)) (place h j) 0)
    go true = set_all P (bank h n) (place h i) (place h j) b new (rw (register-bank h n j) at old)
    go false = rw (register-bank h n j) at old

-- a register that received a byte: the write rule, whole and bit for bit
pub received-same : (g : Group) (n : Named) (i v : ℕ) → Has g n i → register g (received g n i v) i ≡ written (register g n i) v (writable_at g n i)
unfolding received
received-same g n i v has = replaced-same g n i _ has

pub received-bit : (k : ℕ) (g : Group) (n : Named) (i v : ℕ) → k < 8 → Has g n i
    → bit k (register g (received g n i v) i) ≡ cond (is_set k (writable_at g n i)) (bit k v) (bit k (register g n i))
received-bit k g n i v hk has = ap (bit k) (received-same g n i v has) ∙ bit-written k (register g n i) v (writable_at g n i) hk (byte_now g (locked g n) i)

-- the others keep their byte
pub received_other : (g h : Group) (n : Named) (i v k : ℕ) → Different g i h k → register h (received g n i v) k ≡ register h n k
unfolding received
received_other g h n i v k different = replaced_other g h n i _ k different

-- the mask of a register depends on its place alone
writable_place : (g : Group) (lock : Bool) (i : ℕ) → writable_now g lock i ≡ writable_now g lock (place g i)
unfolding writable_now row_of left_open
writable_place Cr lock i = refl
writable_place Sr lock i = refl
writable_place Gr lock i = refl
writable_place Xr lock i = refl
writable_place Fr lock i = refl
writable_place Mr lock i = refl
writable_place Msr lock i = refl
writable_place Palmask lock i = refl
writable_place Ar lock i = refl

-- whatever register receives a byte, no bit changes that is not writable at that moment
pub received_keeps_bit : (k : ℕ) (g h : Group) (n : Named) (i v j : ℕ) → k < 8 → bit k (writable_at h n j) ≡ 0
    → bit k (register h (received g n i v) j) ≡ bit k (register h n j)
unfolding received
received_keeps_bit k g h n i v j hk shut = go (is g h) refl (eqb (place h i) (place h j)) refl
  where
    here : bit k (writable_at g n i) ≡ 0 → bit k (register h (received g n i v) j) ≡ bit k (register h n j)
    here none =
        replaced-bit k g h n i _ j
        (bit-written k (register g n i) v (writable_at g n i) hk (byte_now g (locked g n) i) ∙ rw none refl)

    go : (z : Bool) → is g h ≡ z → (y : Bool) → eqb (place h i) (place h j) ≡ y → bit k (register h (received g n i v) j) ≡ bit k (register h n j)
    go false e y f = ap (bit k) (received_other g h n i v j (λ p q. eqb-false _ _ e p))
    go true e false f = ap (bit k) (received_other g h n i v j (λ p q. eqb-false _ _ f q))
    go true e true f =
        let at : place h i ≡ place h j = eqb-true _ _ f in
        let mask : writable_at h n i ≡ writable_at h n j =
        writable_place h (locked h n) i ∙ ap (writable_now h (locked h n)) at ∙ sym (writable_place h (locked h n) j) in
        here (rw (is_same g h e, mask) shut)

-- bytes stay bytes
abbrev pub Bytes : Named → Type 0
Bytes n = (g : Group) (i : ℕ) → register g n i < 0x100

pub received-bytes : (g : Group) (n : Named) (i v : ℕ) → v < 0x100 → Bytes n → Bytes (received g n i v)
unfolding received
received-bytes g n i v hv bytes h j =
    replaced_all (λ x. x < 0x100) g h n i _ j (written_byte (register g n i) v (writable_at g n i) (bytes g i) hv) (bytes h j)

pub received_keeps_colours : (g : Group) (n : Named) (i v : ℕ) → (received g n i v).palette ≡ n.palette
unfolding received
received_keeps_colours g n i v = refl

-- other colours and another picture leave every register; so does storing a colour
register-same : (h : Group) (n : Named) (colours : List Rgb) (lit : Bool) (i : ℕ) → register h (same_registers n colours lit) i ≡ register h n i
register-same h n colours lit i =
    register-bank h (same_registers n colours lit) i ∙ ap (λ (l : List ℕ). get_or l (place h i) 0) (bank-same h n colours lit) ∙ sym (register-bank h n i)

pub coloured_keeps_register : (h : Group) (n : Named) (e r g b i : ℕ) → register h (coloured n e r g b) i ≡ register h n i
unfolding coloured
coloured_keeps_register h n e r g b i = register-same h n _ n.picture i

pub picture_keeps_register : (h : Group) (n : Named) (lit : Bool) (i : ℕ) → register h (with_picture n lit) i ≡ register h n i
picture_keeps_register h n lit i = register-same h n n.palette lit i
