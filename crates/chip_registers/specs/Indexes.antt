-- The index registers. Document 02, P5: "Each index register keeps the bits its chapter shows, and the others read 0." So a
-- long index folds onto a short one.
use Rattle.std.specs.Prelude.{ℕ, ◌%◌, ◌^◌, Bool, ltb}
use Rattle.chip_registers.specs.declared.Group.{Group}
use Rattle.chip_registers.specs.declared.Group.TheVariants.{Cr, Sr, Gr, Xr, Fr, Mr, Msr, Palmask, Ar}

-- how many bits a group's index has: CRX, bits 7-0 (chapter 9); SRX, 2-0 (chapter 10); GRX, 3-0 (chapter 11); XRX, 7-0 (chapter
-- 14); ARX, 4-0 (chapter 12), and bit 5, the picture, is kept apart. Chapters 15 and 16 show no index register for FR and MR,
-- which keep the eight bits of document 01, "Ports" (HOUSE). MSR and PALMASK have no index
abbrev pub index_bits : Group → ℕ
index_bits Cr = 8
index_bits Sr = 3
index_bits Gr = 4
index_bits Xr = 8
index_bits Fr = 8
index_bits Mr = 8
index_bits Msr = 0
index_bits Palmask = 0
index_bits Ar = 5

-- what is kept of a byte that is written as a group's index: its low bits, as many as the index has
unfoldable pub index_kept : Group → ℕ → ℕ
index_kept g v = v % 2 ^ index_bits g

-- an index that fits its group: it has no other bits than those
unfoldable pub fits : Group → ℕ → Bool
fits g i = ltb i (2 ^ index_bits g)
