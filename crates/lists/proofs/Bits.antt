-- Laws of bits: zero has none, a bit of two numbers put together is that of their bits, and a bit of a byte's complement is the
-- other one.
use Prim.Native.Nat.{ℕ, ◌-◌, ◌/◌, ◌%◌, ◌^◌, ◌<◌}
use native.Mathlib.Nat.{zero-div}
use mathlib.Core.Path.{◌≡◌, ap, ◌∙◌}
use lib.Bits.{bit_and, bit_or, bit_xor, and_shr, and_mod, or_shr, or_mod, xor_shr, xor_mod}
use mir.Syntax.{w8}
use Rattle.std.proofs.lemmas.Nat.Bits.{bit_at_not}
use Rattle.lists.specs.Bits.{bit}

pub zero_bit : (k : ℕ) → bit k 0x00 ≡ 0
zero_bit k = rw (zero-div (2 ^ k))

pub bit-and : (k a b : ℕ) → bit k (bit_and a b) ≡ bit_and (bit k a) (bit k b)
bit-and k a b = ap (λ (t : ℕ). t % 2) (and_shr a b k) ∙ and_mod (a / 2 ^ k) (b / 2 ^ k) 1

pub bit-or : (k a b : ℕ) → bit k (bit_or a b) ≡ bit_or (bit k a) (bit k b)
bit-or k a b = ap (λ (t : ℕ). t % 2) (or_shr a b k) ∙ or_mod (a / 2 ^ k) (b / 2 ^ k) 1

pub bit-xor : (k a b : ℕ) → bit k (bit_xor a b) ≡ bit_xor (bit k a) (bit k b)
bit-xor k a b = ap (λ (t : ℕ). t % 2) (xor_shr a b k) ∙ xor_mod (a / 2 ^ k) (b / 2 ^ k) 1

pub bit_complement : (k m : ℕ) → k < 8 → m < 0x100 → bit k (0xFF - m) ≡ 1 - bit k m
bit_complement k m hk hm = bit_at_not w8 m k hm hk
