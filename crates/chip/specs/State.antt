-- The state in two parts: what has a name (registers and colours, and bit 5 of the attribute index, which decides whether there
-- is a picture), and the rest (the seven indexes, the turn of 3C0h, the palette's loading state). Document 01, "Ports": the chip
-- state; document 02, P1: what the attribute registers add. Every access is said as a change of these parts.
use Rattle.std.specs.Prelude.{ℕ, Bool, cond, List}
use Rattle.chip_registers.specs.Groups.{is}
use Rattle.chip_registers.specs.Indexes.{index_kept}
use Rattle.chip_registers.specs.declared.Group.{Group}
use Rattle.chip_registers.specs.declared.Group.TheVariants.{Cr, Sr, Gr, Xr, Fr, Mr, Msr, Palmask, Ar}
use Rattle.chip.specs.declared.Rgb.{Rgb}
use Rattle.chip.specs.declared.Indexes.{Indexes}
use Rattle.chip.specs.declared.Loading.{Loading}

-- the state. Its tables have a byte for every index; what is kept of it are the listed registers alone, and specs/View says how
pub record Chip : Type 0 where
  pub cr : List ℕ
  pub sr : List ℕ
  pub gr : List ℕ
  pub xr : List ℕ
  pub fr : List ℕ
  pub mr : List ℕ
  pub ar : List ℕ
  pub msr : ℕ
  pub palmask : ℕ
  pub picture : Bool
  pub palette : List Rgb
  pub indexes : Indexes
  pub loading : Loading

-- what has a name
pub record Named : Type 0 where
  pub cr : List ℕ
  pub sr : List ℕ
  pub gr : List ℕ
  pub xr : List ℕ
  pub fr : List ℕ
  pub mr : List ℕ
  pub ar : List ℕ
  pub msr : ℕ
  pub palmask : ℕ
  pub picture : Bool
  pub palette : List Rgb

abbrev pub named : Chip → Named
named c = record {
  cr = c.cr;
  sr = c.sr;
  gr = c.gr;
  xr = c.xr;
  fr = c.fr;
  mr = c.mr;
  ar = c.ar;
  msr = c.msr;
  palmask = c.palmask;
  picture = c.picture;
  palette = c.palette;
}

-- a state from its parts
abbrev pub join : Named → Indexes → Loading → Chip
join n x l = record {
  cr = n.cr;
  sr = n.sr;
  gr = n.gr;
  xr = n.xr;
  fr = n.fr;
  mr = n.mr;
  ar = n.ar;
  msr = n.msr;
  palmask = n.palmask;
  picture = n.picture;
  palette = n.palette;
  indexes = x;
  loading = l;
}

abbrev pub with_named : Chip → Named → Chip
with_named c n = join n c.indexes c.loading

abbrev pub with_indexes : Chip → Indexes → Chip
with_indexes c x = join (named c) x c.loading

abbrev pub with_loading : Chip → Loading → Chip
with_loading c l = join (named c) c.indexes l

-- the same registers, with these colours and this bit 5 of the attribute index
abbrev pub same_registers : Named → List Rgb → Bool → Named
same_registers n colours lit = record {
  cr = n.cr;
  sr = n.sr;
  gr = n.gr;
  xr = n.xr;
  fr = n.fr;
  mr = n.mr;
  ar = n.ar;
  msr = n.msr;
  palmask = n.palmask;
  picture = lit;
  palette = colours;
}

abbrev pub with_picture : Named → Bool → Named
with_picture n lit = same_registers n n.palette lit

-- the byte that holds a group's index; MSR and PALMASK have none, and stand at 0
abbrev pub index_byte : Group → Indexes → ℕ
index_byte Cr x = x.cr
index_byte Sr x = x.sr
index_byte Gr x = x.gr
index_byte Xr x = x.xr
index_byte Fr x = x.fr
index_byte Mr x = x.mr
index_byte Msr x = 0x00
index_byte Palmask x = 0x00
index_byte Ar x = x.ar

-- the indexes with one group's byte replaced
abbrev pub with_index_byte : Group → Indexes → ℕ → Indexes
with_index_byte g x b = record {
  cr = cond (is g Cr) b x.cr;
  sr = cond (is g Sr) b x.sr;
  gr = cond (is g Gr) b x.gr;
  xr = cond (is g Xr) b x.xr;
  fr = cond (is g Fr) b x.fr;
  mr = cond (is g Mr) b x.mr;
  ar = cond (is g Ar) b x.ar;
  turn = x.turn;
}

-- document 02, P5: an index register keeps the bits that it has. So a group's index is those bits of its byte (in a reached state
-- the byte has no others: law `reach_kept`), and those of what is written stay
abbrev pub index_of : Group → Indexes → ℕ
index_of g x = index_kept g (index_byte g x)

abbrev pub with_index : Group → Indexes → ℕ → Indexes
with_index g x v = with_index_byte g x (index_kept g v)

-- the indexes with the turn of 3C0h replaced: true, and data comes next
abbrev pub with_turn : Indexes → Bool → Indexes
with_turn x turn = record {
  cr = x.cr;
  sr = x.sr;
  gr = x.gr;
  xr = x.xr;
  fr = x.fr;
  mr = x.mr;
  ar = x.ar;
  turn = turn;
}
