-- The search finds each single index and the lower ranges in the table. The four highest ranges and each gap of the last arm
-- are one test that is computed over them (`otherwise`).
use Prim.Native.Nat.{ℕ}
use native.Mathlib.Omega.{arith}
use mathlib.Core.Path.{refl}
use mathlib.Core.List.{List, [], ◌∷◌}
use Rattle.chip_registers.specs.Extension.{xr_lines}
use Rattle.chip_registers.proofs.Stretches.{otherwise}
use Rattle.std.specs.Prelude.{Some, None}
use Rattle.chip_registers.specs.Rows.{listed}
use Rattle.chip_registers.proofs.rows.xr.Goals as goal

-- the single indexes, the last first
abbrev singles : List ℕ
singles = 0xD2 ∷ 0xD1 ∷ 0xD0 ∷ 0xCF ∷ 0xCE ∷ 0xCB ∷ 0xC7 ∷ 0xC3 ∷ 0xAF ∷ 0xAE ∷ 0xAD ∷ 0xAC ∷ 0xAB ∷ 0xA7 ∷ 0xA6 ∷ 0xA5 ∷ 0xA4 ∷ 0xA3 ∷ 0x82 ∷ 0x81 ∷ 0x80 ∷ 0x67 ∷ 0x63 ∷ 0x62 ∷ 0x61 ∷ 0x60 ∷ 0x20 ∷ 0x0E ∷ 0x0B ∷ 0x0A ∷ 0x09 ∷ 0x08 ∷ 0x04 ∷ 0x03 ∷ 0x02 ∷ 0x01 ∷ 0x00 ∷ []

pub returns-in-200-to-201 : goal.returns-in-200-to-201
unfolding xr_lines
returns-in-200-to-201 c = otherwise xr_lines singles (Some (listed 0xFF 0x00)) 0xC7 3 _ refl c.in-200-to-201.in_default-own.rest (omega arith) (omega arith)

pub returns-in-204-to-205 : goal.returns-in-204-to-205
unfolding xr_lines
returns-in-204-to-205 c = otherwise xr_lines singles (Some (listed 0xFF 0x00)) 0xCB 3 _ refl c.in-204-to-205.in_default-own.rest (omega arith) (omega arith)

pub returns-in-224-to-235 : goal.returns-in-224-to-235
unfolding xr_lines
returns-in-224-to-235 c = otherwise xr_lines singles (Some (listed 0xFF 0x00)) 0xE0 12 _ refl c.in-224-to-235.in_default-own.rest (omega arith) (omega arith)

pub returns-in-248-to-252 : goal.returns-in-248-to-252
unfolding xr_lines
returns-in-248-to-252 c = otherwise xr_lines singles (Some (listed 0xFF 0x00)) 0xF8 5 _ refl c.in-248-to-252.in_default-own.rest (omega arith) (omega arith)

pub returns-in_default : goal.returns-in_default
unfolding xr_lines
returns-in_default c = otherwise xr_lines singles None 0x07 57 _ refl c.in_default.in_default-own.rest (omega arith) (omega arith)

pub returns-in_default-2 : goal.returns-in_default-2
unfolding xr_lines
returns-in_default-2 c = otherwise xr_lines singles None 0x50 32 _ refl c.in_default.in_default-own.rest (omega arith) (omega arith)

pub returns-in_default-3 : goal.returns-in_default-3
unfolding xr_lines
returns-in_default-3 c = otherwise xr_lines singles None 0x72 46 _ refl c.in_default.in_default-own.rest (omega arith) (omega arith)

pub returns-in_default-4 : goal.returns-in_default-4
unfolding xr_lines
returns-in_default-4 c = otherwise xr_lines singles None 0xAB 21 _ refl c.in_default.in_default-own.rest (omega arith) (omega arith)

pub returns-in_default-5 : goal.returns-in_default-5
unfolding xr_lines
returns-in_default-5 c = otherwise xr_lines singles None 0xC2 1 _ refl c.in_default.in_default-own.rest (omega arith) (omega arith)

pub returns-in_default-6 : goal.returns-in_default-6
unfolding xr_lines
returns-in_default-6 c = otherwise xr_lines singles None 0xC6 1 _ refl c.in_default.in_default-own.rest (omega arith) (omega arith)

pub returns-in_default-7 : goal.returns-in_default-7
unfolding xr_lines
returns-in_default-7 c = otherwise xr_lines singles None 0xCA 1 _ refl c.in_default.in_default-own.rest (omega arith) (omega arith)

pub returns-in_default-8 : goal.returns-in_default-8
unfolding xr_lines
returns-in_default-8 c = otherwise xr_lines singles None 0xCE 18 _ refl c.in_default.in_default-own.rest (omega arith) (omega arith)

pub returns-in_default-9 : goal.returns-in_default-9
unfolding xr_lines
returns-in_default-9 c = otherwise xr_lines singles None 0xEC 12 _ refl c.in_default.in_default-own.rest (omega arith) (omega arith)

pub returns-in_default-10 : goal.returns-in_default-10
unfolding xr_lines
returns-in_default-10 c = otherwise xr_lines singles None 0xFD 3 _ refl c.in_default.in_default-own.rest (omega arith) (omega arith)
