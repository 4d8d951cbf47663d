-- The bench as it is shown, and what a request hands back: document 02, P7, and specs/View of crate `chip`.
use Rattle.chip.specs.View.{view}
use Rattle.chip.specs.declared.Chip.{Chip as Kept}
use Rattle.workbench_input.specs.Acts.{Bench, Acted, replied}
use Rattle.workbench_input.specs.declared.Bench.{Bench as KeptBench}
use Rattle.workbench_input.specs.declared.Acted.{Acted as KeptActed}

abbrev pub view_bench : KeptBench → Bench
view_bench b = record { chip = view b.chip; lent = b.lent; ended = b.ended }

abbrev pub view_acted : KeptActed → Acted
view_acted a = replied (view_bench a.bench) a.reply

-- the bench with another chip
abbrev pub with_kept : KeptBench → Kept → KeptBench
with_kept b c = record { chip = c; lent = b.lent; ended = b.ended }
