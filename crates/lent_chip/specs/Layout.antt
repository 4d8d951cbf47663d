-- The chip on lent bytes: which byte of a list is which part of the state. Document 01, "Ports" (the chip state); document 02,
-- P1, for the attribute registers, and P7: only listed registers are kept. First come the single bytes, then the palette with
-- three bytes an entry, and last, since it is what grows, the row of the listed registers (`slot_of` of crate `chip_registers`
-- says where each stands). Every place has a name below. An unlisted index has no byte, and reads 00h. Any list of `whole` bytes
-- is a state. The upper five bits of the flags are no part of the chip: they are spare, and stay.
use Rattle.std.specs.Prelude.{◌≡◌, ℕ, ◌+◌, ◌*◌, ◌/◌, ◌%◌, cond, List, length, ◌==◌, slice_index}
use Rattle.lists.specs.Tab.{tab}
use Rattle.chip_registers.specs.Row.{before, row_size}
use Rattle.chip_registers.specs.declared.Group.{Group}
use Rattle.chip_registers.specs.declared.Group.TheVariants.{Cr, Sr, Gr, Xr, Fr, Mr, Msr, Palmask, Ar}
use Rattle.chip_masks.specs.Table.{standing_of}
use Rattle.chip.specs.Palette.{rgb}
use Rattle.chip.specs.View.{view as shown_by}
use Rattle.chip.specs.declared.Chip.{Chip as Kept}
use Rattle.chip.specs.State.{Chip}
use Rattle.chip.specs.declared.Rgb.{Rgb}

-- the single bytes: MSR and PALMASK, the seven indexes, the palette's index, its position, the bytes held at red and at green,
-- and the flags: bit 0 says that the read index was written last (PALSTATE), bit 1 that data comes next at 3C0h, and bit 2 is
-- bit 5 of the attribute index, the picture
abbrev pub MSR : ℕ
MSR = 0

abbrev pub PALMASK : ℕ
PALMASK = 1

abbrev pub CR_INDEX : ℕ
CR_INDEX = 2

abbrev pub SR_INDEX : ℕ
SR_INDEX = 3

abbrev pub GR_INDEX : ℕ
GR_INDEX = 4

abbrev pub XR_INDEX : ℕ
XR_INDEX = 5

abbrev pub FR_INDEX : ℕ
FR_INDEX = 6

abbrev pub MR_INDEX : ℕ
MR_INDEX = 7

abbrev pub AR_INDEX : ℕ
AR_INDEX = 8

abbrev pub INDEX : ℕ
INDEX = 9

abbrev pub POSITION : ℕ
POSITION = 10

abbrev pub RED : ℕ
RED = 11

abbrev pub GREEN : ℕ
GREEN = 12

abbrev pub FLAGS : ℕ
FLAGS = 13

-- where the palette starts, and where the row does; that they follow one another and fill a state is the law `regions_fill`
abbrev pub PALETTE : ℕ
PALETTE = 14

abbrev pub ROW : ℕ
ROW = 782

-- the bytes of a state
abbrev pub whole : ℕ
whole = 1057

-- entry e of the palette
abbrev pub colour_in : List ℕ → ℕ → Rgb
colour_in l e = rgb (slice_index l (PALETTE + 3 * e)) (slice_index l (PALETTE + (3 * e + 1))) (slice_index l (PALETTE + (3 * e + 2)))

-- what bytes keep, as crate `chip` keeps it
unfoldable pub laid : List ℕ → Kept
laid l = record {
  row = tab (λ k. slice_index l (ROW + k)) row_size;
  msr = slice_index l MSR;
  palmask = slice_index l PALMASK;
  picture = (slice_index l FLAGS / 4 % 2 == 1);
  palette = tab (colour_in l) 256;
  indexes = record {
    cr = slice_index l CR_INDEX;
    sr = slice_index l SR_INDEX;
    gr = slice_index l GR_INDEX;
    xr = slice_index l XR_INDEX;
    fr = slice_index l FR_INDEX;
    mr = slice_index l MR_INDEX;
    ar = slice_index l AR_INDEX;
    turn = (slice_index l FLAGS / 2 % 2 == 1);
  };
  loading = record {
    index = slice_index l INDEX;
    position = slice_index l POSITION;
    red = slice_index l RED;
    green = slice_index l GREEN;
    reading = (slice_index l FLAGS % 2 == 1);
  };
}

-- the chip that bytes hold: what they keep, as crate `chip` shows it
unfoldable pub view : List ℕ → Chip
view l = shown_by (laid l)

-- the bits that are no part of the chip
unfoldable pub spare : List ℕ → ℕ
spare l = slice_index l FLAGS / 8

-- bytes of the right length that hold a chip, with these spare bits. They are the only ones: law `holds_decides`
pub record Holds (l : List ℕ) (c : Chip) (bits : ℕ) : Type 0 where
  pub size : length l ≡ whole
  pub chip : view l ≡ c
  pub spare : spare l ≡ bits

-- where the bytes of a group's registers start
unfoldable pub base_of : Group → ℕ
base_of Cr = ROW + before Cr
base_of Sr = ROW + before Sr
base_of Gr = ROW + before Gr
base_of Xr = ROW + before Xr
base_of Fr = ROW + before Fr
base_of Mr = ROW + before Mr
base_of Msr = MSR
base_of Palmask = PALMASK
base_of Ar = ROW + before Ar

-- where a register's byte is; an unlisted index leads to its group's first byte
unfoldable pub place_of : Group → ℕ → ℕ
place_of g i = base_of g + standing_of g i % 128

-- which byte of a colour a position is at; a position outside the three counts as red (HOUSE)
abbrev pub third_of : ℕ → ℕ
third_of position = cond (position == 2) 2 (cond (position == 1) 1 0)
