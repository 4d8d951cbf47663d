-- The databook's appendix E, tables E-1 to E-3, row by row: a code and what it writes, in the print's own words. No contract
-- rests on it: it is what two people can lay beside the print, and the law `appendix_e` shows that each row is document 01's
-- code. Six of the 256 rows are not here, since the text that was read does not have them whole: 2Eh, 2Fh, 5Eh, 5Fh, AAh and
-- B5h.
use Rattle.std.specs.Prelude.{ℕ, zero, suc, ◌-◌, List, [], ◌∷◌}
use Rattle.std.specs.Int.Bits.{bit_and, bit_or, bit_xor}

-- a bit-wise operation on numbered inputs
pub data Operation : Type 0 where
  input : ℕ → Operation
  zeros ones : Operation
  not : Operation → Operation
  ◌and◌ ◌or◌ ◌xor◌ : Operation → Operation → Operation

infixl 20 ◌and◌
infixl 20 ◌or◌
infixl 20 ◌xor◌
-- the print's letters: input data at the destination, source data, pattern data
abbrev pub D : Operation
D = input 0

abbrev pub S : Operation
S = input 1

abbrev pub P : Operation
P = input 2

-- what an operation makes of its inputs, bytes with n = 255 and single bits with n = 1
unfoldable pub value : ℕ → (ℕ → ℕ) → Operation → ℕ
value n at (input j) = at j
value n at zeros = 0
value n at ones = n
value n at (not o) = n - value n at o
value n at (a and b) = bit_and (value n at a) (value n at b)
value n at (a or b) = bit_or (value n at a) (value n at b)
value n at (a xor b) = bit_xor (value n at a) (value n at b)

-- P, S and D as inputs, and behind them any others
unfoldable pub inputs : (ℕ → ℕ) → ℕ → ℕ → ℕ → ℕ → ℕ
inputs m p s d zero = d
inputs m p s d (suc zero) = s
inputs m p s d (suc (suc zero)) = p
inputs m p s d (suc (suc (suc k))) = m k

unfoldable pub printed : List (ℕ × Operation)
printed =
    (0x00, zeros) ∷
    (0x01, not (D or (P or S))) ∷
    (0x02, D and (not (P or S))) ∷
    (0x03, not (P or S)) ∷
    (0x04, S and (not (D or P))) ∷
    (0x05, not (D or P)) ∷
    (0x06, not (P or (not (D xor S)))) ∷
    (0x07, not (P or (D and S))) ∷
    (0x08, S and (D and (not P))) ∷
    (0x09, not (P or (D xor S))) ∷
    (0x0A, D and (not P)) ∷
    (0x0B, not (P or (S and (not D)))) ∷
    (0x0C, S and (not P)) ∷
    (0x0D, not (P or (D and (not S)))) ∷
    (0x0E, not (P or (not (D or S)))) ∷
    (0x0F, not P) ∷
    (0x10, P and (not (D or S))) ∷
    (0x11, not (D or S)) ∷
    (0x12, not (S or (not (D xor P)))) ∷
    (0x13, not (S or (D and P))) ∷
    (0x14, not (D or (not (P xor S)))) ∷
    (0x15, not (D or (P and S))) ∷
    (0x16, P xor (S xor (D and (not (P and S))))) ∷
    (0x17, not (S xor ((S xor P) and (D xor S)))) ∷
    (0x18, (S xor P) and (P xor D)) ∷
    (0x19, not (S xor (D and (not (P and S))))) ∷
    (0x1A, P xor (D or (S and P))) ∷
    (0x1B, not (S xor (D and (P xor S)))) ∷
    (0x1C, P xor (S or (D and P))) ∷
    (0x1D, not (D xor (S and (P xor D)))) ∷
    (0x1E, P xor (D or S)) ∷
    (0x1F, not (P and (D or S))) ∷
    (0x20, D and (P and (not S))) ∷
    (0x21, not (S or (D xor P))) ∷
    (0x22, D and (not S)) ∷
    (0x23, not (S or (P and (not D)))) ∷
    (0x24, (S xor P) and (D xor S)) ∷
    (0x25, not (P xor (D and (not (S and P))))) ∷
    (0x26, S xor (D or (P and S))) ∷
    (0x27, S xor (D or (not (P xor S)))) ∷
    (0x28, D and (P xor S)) ∷
    (0x29, not (P xor (S xor (D or (P and S))))) ∷
    (0x2A, D and (not (P and S))) ∷
    (0x2B, not (S xor ((S xor P) and (P xor D)))) ∷
    (0x2C, S xor (P and (D or S))) ∷
    (0x2D, P xor (S or (not D))) ∷
    (0x30, P and (not S)) ∷
    (0x31, not (S or (D and (not P)))) ∷
    (0x32, S xor (D or (P or S))) ∷
    (0x33, not S) ∷
    (0x34, S xor (P or (D and S))) ∷
    (0x35, S xor (P or (not (D xor S)))) ∷
    (0x36, S xor (D or P)) ∷
    (0x37, not (S and (D or P))) ∷
    (0x38, P xor (S and (D or P))) ∷
    (0x39, S xor (P or (not D))) ∷
    (0x3A, S xor (P or (D xor S))) ∷
    (0x3B, not (S and (P or (not D)))) ∷
    (0x3C, P xor S) ∷
    (0x3D, S xor (P or (not (D or S)))) ∷
    (0x3E, S xor (P or (D and (not S)))) ∷
    (0x3F, not (P and S)) ∷
    (0x40, P and (S and (not D))) ∷
    (0x41, not (D or (P xor S))) ∷
    (0x42, (S xor D) and (P xor D)) ∷
    (0x43, not (S xor (P and (not (D and S))))) ∷
    (0x44, S and (not D)) ∷
    (0x45, not (D or (P and (not S)))) ∷
    (0x46, D xor (S or (P and D))) ∷
    (0x47, not (P xor (S and (D xor P)))) ∷
    (0x48, S and (D xor P)) ∷
    (0x49, not (P xor (D xor (S or (P and D))))) ∷
    (0x4A, D xor (P and (S or D))) ∷
    (0x4B, P xor (D or (not S))) ∷
    (0x4C, S and (not (D and P))) ∷
    (0x4D, not (S xor ((S xor P) or (D xor S)))) ∷
    (0x4E, P xor (D or (S xor P))) ∷
    (0x4F, not (P and (D or (not S)))) ∷
    (0x50, P and (not D)) ∷
    (0x51, not (D or (S and (not P)))) ∷
    (0x52, D xor (P or (S and D))) ∷
    (0x53, not (S xor (P and (D xor S)))) ∷
    (0x54, not (D or (not (P or S)))) ∷
    (0x55, not D) ∷
    (0x56, D xor (P or S)) ∷
    (0x57, not (D and (P or S))) ∷
    (0x58, P xor (D and (S or P))) ∷
    (0x59, D xor (P or (not S))) ∷
    (0x5A, D xor P) ∷
    (0x5B, D xor (P or (not (S or D)))) ∷
    (0x5C, D xor (P or (S xor D))) ∷
    (0x5D, not (D and (P or (not S)))) ∷
    (0x60, P and (D xor S)) ∷
    (0x61, not (D xor (S xor (P or (D and S))))) ∷
    (0x62, D xor (S and (P or D))) ∷
    (0x63, S xor (D or (not P))) ∷
    (0x64, S xor (D and (P or S))) ∷
    (0x65, D xor (S or (not P))) ∷
    (0x66, D xor S) ∷
    (0x67, S xor (D or (not (P or S)))) ∷
    (0x68, not (D xor (S xor (P or (not (D or S)))))) ∷
    (0x69, not (P xor (D xor S))) ∷
    (0x6A, D xor (P and S)) ∷
    (0x6B, not (P xor (S xor (D and (P or S))))) ∷
    (0x6C, S xor (D and P)) ∷
    (0x6D, not (P xor (D xor (S and (P or D))))) ∷
    (0x6E, S xor (D and (P or (not S)))) ∷
    (0x6F, not (P and (not (D xor S)))) ∷
    (0x70, P and (not (D and S))) ∷
    (0x71, not (S xor ((S xor D) and (P xor D)))) ∷
    (0x72, S xor (D or (P xor S))) ∷
    (0x73, not (S and (D or (not P)))) ∷
    (0x74, D xor (S or (P xor D))) ∷
    (0x75, not (D and (S or (not P)))) ∷
    (0x76, S xor (D or (P and (not S)))) ∷
    (0x77, not (D and S)) ∷
    (0x78, P xor (D and S)) ∷
    (0x79, not (D xor (S xor (P and (D or S))))) ∷
    (0x7A, D xor (P and (S or (not D)))) ∷
    (0x7B, not (S and (not (D xor P)))) ∷
    (0x7C, S xor (P and (D or (not S)))) ∷
    (0x7D, not (D and (not (P xor S)))) ∷
    (0x7E, (S xor P) or (D xor S)) ∷
    (0x7F, not (D and (P and S))) ∷
    (0x80, D and (P and S)) ∷
    (0x81, not ((S xor P) or (D xor S))) ∷
    (0x82, D and (not (P xor S))) ∷
    (0x83, not (S xor (P and (D or (not S))))) ∷
    (0x84, S and (not (D xor P))) ∷
    (0x85, not (P xor (D and (S or (not P))))) ∷
    (0x86, D xor (S xor (P and (D or S)))) ∷
    (0x87, not (P xor (D and S))) ∷
    (0x88, D and S) ∷
    (0x89, not (S xor (D or (P and (not S))))) ∷
    (0x8A, D and (S or (not P))) ∷
    (0x8B, not (D xor (S or (P xor D)))) ∷
    (0x8C, S and (D or (not P))) ∷
    (0x8D, not (S xor (D or (P xor S)))) ∷
    (0x8E, S xor ((S xor D) and (P xor D))) ∷
    (0x8F, not (P and (not (D and S)))) ∷
    (0x90, P and (not (D xor S))) ∷
    (0x91, not (S xor (D and (P or (not S))))) ∷
    (0x92, D xor (P xor (S and (D or P)))) ∷
    (0x93, not (S xor (P and D))) ∷
    (0x94, P xor (S xor (D and (P or S)))) ∷
    (0x95, not (D xor (P and S))) ∷
    (0x96, D xor (P xor S)) ∷
    (0x97, P xor (S xor (D or (not (P or S))))) ∷
    (0x98, not (S xor (D or (not (P or S))))) ∷
    (0x99, not (D xor S)) ∷
    (0x9A, D xor (P and (not S))) ∷
    (0x9B, not (S xor (D and (P or S)))) ∷
    (0x9C, S xor (P and (not D))) ∷
    (0x9D, not (D xor (S and (P or D)))) ∷
    (0x9E, D xor (S xor (P or (D and S)))) ∷
    (0x9F, not (P and (D xor S))) ∷
    (0xA0, D and P) ∷
    (0xA1, not (P xor (D or (S and (not P))))) ∷
    (0xA2, D and (P or (not S))) ∷
    (0xA3, not (D xor (P or (S xor D)))) ∷
    (0xA4, not (P xor (D or (not (S or P))))) ∷
    (0xA5, not (P xor D)) ∷
    (0xA6, D xor (S and (not P))) ∷
    (0xA7, not (P xor (D and (S or P)))) ∷
    (0xA8, D and (P or S)) ∷
    (0xA9, not (D xor (P or S))) ∷
    (0xAB, D or (not (P or S))) ∷
    (0xAC, S xor (P and (D xor S))) ∷
    (0xAD, not (D xor (P or (S and D)))) ∷
    (0xAE, D or (S and (not P))) ∷
    (0xAF, D or (not P)) ∷
    (0xB0, P and (D or (not S))) ∷
    (0xB1, not (P xor (D or (S xor P)))) ∷
    (0xB2, S xor ((S xor P) or (D xor S))) ∷
    (0xB3, not (S and (not (D and P)))) ∷
    (0xB4, P xor (S and (not D))) ∷
    (0xB6, D xor (P xor (S or (D and P)))) ∷
    (0xB7, not (S and (D xor P))) ∷
    (0xB8, P xor (S and (D xor P))) ∷
    (0xB9, not (D xor (S or (P and D)))) ∷
    (0xBA, D or (P and (not S))) ∷
    (0xBB, D or (not S)) ∷
    (0xBC, S xor (P and (not (D and S)))) ∷
    (0xBD, not ((S xor D) and (P xor D))) ∷
    (0xBE, D or (P xor S)) ∷
    (0xBF, D or (not (P and S))) ∷
    (0xC0, P and S) ∷
    (0xC1, not (S xor (P or (D and (not S))))) ∷
    (0xC2, not (S xor (P or (not (D or S))))) ∷
    (0xC3, not (P xor S)) ∷
    (0xC4, S and (P or (not D))) ∷
    (0xC5, not (S xor (P or (D xor S)))) ∷
    (0xC6, S xor (D and (not P))) ∷
    (0xC7, not (P xor (S and (D or P)))) ∷
    (0xC8, S and (D or P)) ∷
    (0xC9, not (S xor (P or D))) ∷
    (0xCA, D xor (P and (S xor D))) ∷
    (0xCB, not (S xor (P or (D and S)))) ∷
    (0xCC, S) ∷
    (0xCD, S or (not (D or P))) ∷
    (0xCE, S or (D and (not P))) ∷
    (0xCF, S or (not P)) ∷
    (0xD0, P and (S or (not D))) ∷
    (0xD1, not (P xor (S or (D xor P)))) ∷
    (0xD2, P xor (D and (not S))) ∷
    (0xD3, not (S xor (P and (D or S)))) ∷
    (0xD4, S xor ((S xor P) and (P xor D))) ∷
    (0xD5, not (D and (not (P and S)))) ∷
    (0xD6, P xor (S xor (D or (P and S)))) ∷
    (0xD7, not (D and (P xor S))) ∷
    (0xD8, P xor (D and (S xor P))) ∷
    (0xD9, not (S xor (D or (P and S)))) ∷
    (0xDA, D xor (P and (not (S and D)))) ∷
    (0xDB, not ((S xor P) and (D xor S))) ∷
    (0xDC, S or (P and (not D))) ∷
    (0xDD, S or (not D)) ∷
    (0xDE, S or (D xor P)) ∷
    (0xDF, S or (not (D and P))) ∷
    (0xE0, P and (D or S)) ∷
    (0xE1, not (P xor (D or S))) ∷
    (0xE2, D xor (S and (P xor D))) ∷
    (0xE3, not (P xor (S or (D and P)))) ∷
    (0xE4, S xor (D and (P xor S))) ∷
    (0xE5, not (P xor (D or (S and P)))) ∷
    (0xE6, S xor (D and (not (P and S)))) ∷
    (0xE7, not ((S xor P) and (P xor D))) ∷
    (0xE8, S xor ((S xor P) and (D xor S))) ∷
    (0xE9, not (D xor (S xor (P and (not (D and S)))))) ∷
    (0xEA, D or (P and S)) ∷
    (0xEB, D or (not (P xor S))) ∷
    (0xEC, S or (D and P)) ∷
    (0xED, S or (not (D xor P))) ∷
    (0xEE, D or S) ∷
    (0xEF, S or (D or (not P))) ∷
    (0xF0, P) ∷
    (0xF1, P or (not (D or S))) ∷
    (0xF2, P or (D and (not S))) ∷
    (0xF3, P or (not S)) ∷
    (0xF4, P or (S and (not D))) ∷
    (0xF5, P or (not D)) ∷
    (0xF6, P or (D xor S)) ∷
    (0xF7, P or (not (D and S))) ∷
    (0xF8, P or (D and S)) ∷
    (0xF9, P or (not (D xor S))) ∷
    (0xFA, D or P) ∷
    (0xFB, D or (P or (not S))) ∷
    (0xFC, P or S) ∷
    (0xFD, P or (S or (not D))) ∷
    (0xFE, D or (P or S)) ∷
    (0xFF, ones) ∷
    []
