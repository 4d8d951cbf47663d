-- The palette: its entries by name, the loading of an entry byte by byte, and the colour shown. Document 01, "Palette";
-- chapter 13 of the databook.
use Rattle.std.specs.Prelude.{ℕ, ◌+◌, ◌*◌, ◌%◌, Bool, cond, List, ◌==◌, bit_and, slice_index_or, slice_set}
use Rattle.chip_registers.specs.declared.Group.TheVariants.{Palmask}
use Rattle.chip.specs.State.{Named, same_registers}
use Rattle.chip.specs.Names.{register, eight_bit}
use Rattle.chip.specs.declared.Rgb.{Rgb}
use Rattle.chip.specs.declared.Loading.{Loading}

abbrev pub rgb : ℕ → ℕ → ℕ → Rgb
rgb r g b = record { red = r; green = g; blue = b }

-- a component as a mode stores and reads it: whole in eight-bit mode, else modulo 64
abbrev pub by_mode : Bool → ℕ → ℕ
by_mode eight v = cond eight v (v % 64)

abbrev pub entry : Named → ℕ → Rgb
entry n e = slice_index_or n.palette e (rgb 0 0 0)

abbrev pub with_palette : Named → List Rgb → Named
with_palette n colours = same_registers n colours n.picture

-- an entry is stored, by the mode at that moment
unfoldable pub coloured : Named → ℕ → ℕ → ℕ → ℕ → Named
coloured n e r g b =
    with_palette n (slice_set n.palette e (rgb (by_mode (eight_bit n) r) (by_mode (eight_bit n) g) (by_mode (eight_bit n) b)))

-- the component of an entry at a position: 2 is blue, 1 green, 0 red; a position outside the three counts as red (HOUSE)
abbrev pub component : Rgb → ℕ → ℕ
component e position = cond (position == 2) e.blue (cond (position == 1) e.green e.red)

-- either index is written: the position is red, the held bytes stay
abbrev pub aimed : Loading → ℕ → Bool → Loading
aimed l v reading = record { index = v; position = 0; red = l.red; green = l.green; reading = reading }

-- a byte comes to PALDATA: at red and at green it is held, whole
abbrev pub held : Loading → ℕ → Loading
held l v =
    cond (l.position == 2) l
    (cond (l.position == 1)
    (record { index = l.index; position = l.position; red = l.red; green = v; reading = l.reading })
    (record { index = l.index; position = l.position; red = v; green = l.green; reading = l.reading }))

-- the position moves on: red, green, blue, and after blue red of the next entry, 255 going to 0
abbrev pub moved : Loading → Loading
moved l =
    cond (l.position == 2)
    (record { index = (l.index + 1) % 256; position = 0; red = l.red; green = l.green; reading = l.reading })
    (record { index = l.index; position = cond (l.position == 1) 2 1; red = l.red; green = l.green; reading = l.reading })

-- what has a name after a byte comes to PALDATA: at blue the two held bytes and this one are stored
unfoldable pub loaded : Named → Loading → ℕ → Named
loaded n l v = cond (l.position == 2) (coloured n l.index l.red l.green v) n

-- PALSTATE: 3 after the read index was written last, 0 after the write index
abbrev pub palstate : Loading → ℕ
palstate l = cond l.reading 0x03 0x00

-- what PALDATA reads
abbrev pub paldata : Named → Loading → ℕ
paldata n l = by_mode (eight_bit n) (component (entry n l.index) l.position)

-- a component as it is shown: four times (stored modulo 64) in six-bit mode, else the stored byte (HOUSE)
abbrev pub bright : Bool → ℕ → ℕ
bright eight v = cond eight v (v % 64 * 4)

-- the colour of a pixel
unfoldable pub shown : Named → ℕ → Rgb
shown n p =
    let e = entry n (bit_and p (register Palmask n 0x00)) in
    rgb (bright (eight_bit n) e.red) (bright (eight_bit n) e.green) (bright (eight_bit n) e.blue)
