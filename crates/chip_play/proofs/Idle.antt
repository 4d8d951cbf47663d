-- Document 02, P2: steps that can do nothing. A step that is refused with 11 would change no register and no colour, from any
-- state (`idle_keeps`, `idle_keeps_colours`); and a register that a SET may name can be changed: where its lock is off, FFh and
-- 00h leave it different bytes (`useful_changes`). So the writable mask is what tells such steps from others.
use Prim.Native.Nat.{ℕ, ◌<◌}
use native.Mathlib.Omega.{arith}
use mathlib.Core.Bool.{Bool, true, false, cond}
use mathlib.Core.Path.{◌≡◌, refl, sym, ap, ◌∙◌}
use borrow.Author.Tests.{eqb-true, eqb-false}
use Rattle.lists.specs.Bits.{bit, is_set}
use Rattle.lists.proofs.Bits.{zero_bit, bit_complement}
use Rattle.chip_registers.specs.Groups.{group_at, writable_of}
use Rattle.chip_registers.specs.WriteRule.{writable_now, written}
use Rattle.chip_registers.specs.declared.Group.{Group}
use Rattle.chip_registers.proofs.TableLaws.{byte-rows}
use Rattle.chip_registers.proofs.WriteLaws.{written_none, same_bits, locked_fewer, byte_now}
use Rattle.chip.specs.State.{Named}
use Rattle.chip.specs.Names.{register, locked, writable_at, received}
use Rattle.chip.proofs.NameLaws.{Has, Bytes, replaced_all, replaced-bit, received-bit, received_keeps_colours}
use Rattle.script_steps.specs.Step.{idle}
use Rattle.script_steps.specs.declared.Step.{Step}
use Rattle.script_steps.specs.declared.Step.TheVariants.{Set, Field, Colour}
use Rattle.chip_play.specs.ByName.{applied}

module _ (g : Group) (n : Named) (i : ℕ) where
  -- ---- a register without a writable bit: it has none now, and keeps its byte
  none_now : writable_of g i ≡ 0 → writable_at g n i ≡ 0
  none_now e =
      same_bits (writable_at g n i) 0 (byte_now g (locked g n) i) (omega arith)
      (λ k hk. locked_fewer k g (locked g n) i (rw e (zero_bit k)) ∙ sym (zero_bit k))

  kept : (v : ℕ) → Bytes n → writable_of g i ≡ 0 → (h : Group) (j : ℕ) → register h (received g n i v) j ≡ register h n j
  unfolding received
  kept v bytes none h j =
      let same : written (register g n i) v (writable_at g n i) ≡ register g n i =
      ap (written (register g n i) v) (none_now none) ∙ written_none (register g n i) v (bytes g i) in
      same_bits _ _ (replaced_all (λ x. x < 0x100) g h n i _ j (rw same (bytes g i)) (bytes h j)) (bytes h j)
      (λ k hk. replaced-bit k g h n i _ j (ap (bit k) same))

  -- ---- a register with one, and its lock off
  changed : (writable_of g i ≡ 0 → ⊥) → locked g n ≡ false → Has g n i
      → register g (received g n i 0xFF) i ≡ register g (received g n i 0x00) i → ⊥
  unfolding writable_now
  changed some free has same = some (same_bits (writable_of g i) 0 (byte-rows g i).0 (omega arith) (λ k hk. clear k hk ∙ sym (zero_bit k)))
    where
      now : writable_at g n i ≡ writable_of g i
      now = rw free

      clear : (k : ℕ) → k < 8 → bit k (writable_of g i) ≡ 0
      clear k hk = go (is_set k (writable_at g n i)) refl
          (sym (received-bit k g n i 0xFF hk has) ∙ ap (bit k) same ∙ received-bit k g n i 0x00 hk has)
        where
          go : (b : Bool) → is_set k (writable_at g n i) ≡ b → cond b (bit k 0xFF) (bit k (register g n i)) ≡ cond b (bit k 0x00) (bit k (register g n i))
              → bit k (writable_of g i) ≡ 0
          go true e q = absurd (omega (arith, bit_complement k 0 hk (omega arith)))
          go false e q =
              let m : bit k (writable_of g i) ≡ 1 → ⊥ = λ t. eqb-false _ _ e (ap (bit k) now ∙ t) in
              let d : bit k (writable_of g i) < 2 = omega arith in
              omega arith

-- ---- steps
pub idle_keeps : (s : Step) (n : Named) → Bytes n → idle s ≡ true → (h : Group) (j : ℕ) → register h (applied s n) j ≡ register h n j
unfolding idle applied
idle_keeps (Set group i v) n bytes e = kept (group_at group) n i _ bytes (eqb-true _ _ e)
idle_keeps (Field group i v m) n bytes e = kept (group_at group) n i _ bytes (eqb-true _ _ e)
idle_keeps (Colour entry red green blue) n bytes e = cc

pub idle_keeps_colours : (s : Step) (n : Named) → idle s ≡ true → (applied s n).palette ≡ n.palette
unfolding idle applied
idle_keeps_colours (Set group i v) n e = received_keeps_colours (group_at group) n i _
idle_keeps_colours (Field group i v m) n e = received_keeps_colours (group_at group) n i _
idle_keeps_colours (Colour entry red green blue) n e = cc

pub useful_changes : (group i v : ℕ) (n : Named) → idle (Set group i v) ≡ false → locked (group_at group) n ≡ false → Has (group_at group) n i
    → register (group_at group) (applied (Set group i 0xFF) n) i ≡ register (group_at group) (applied (Set group i 0x00) n) i → ⊥
unfolding idle applied
useful_changes group i v n e free has = changed (group_at group) n i (eqb-false _ _ e) free has
