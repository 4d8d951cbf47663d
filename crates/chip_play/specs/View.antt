-- What a script played hands back, as it is shown: document 02, P7, and specs/View of crate `chip`.
use Rattle.chip.specs.View.{view}
use Rattle.chip_play.specs.Played.{Performance}
use Rattle.chip_play.specs.declared.Performance.{Performance as KeptPerformance}

abbrev pub view_performance : KeptPerformance → Performance
view_performance p = record { chip = view p.chip; outcome = p.outcome }
