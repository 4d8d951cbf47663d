-- What a command and a run hand back, as it is shown: document 02, P7, and specs/View of crate `chip`.
use Rattle.chip.specs.View.{view}
use Rattle.chip_run.specs.Run.{Did, did, Ran, ran_to}
use Rattle.chip_run.specs.declared.Did.{Did as KeptDid}
use Rattle.chip_run.specs.declared.Ran.{Ran as KeptRan}

abbrev pub view_did : KeptDid → Did
view_did d = did d.verdict d.acc (view d.chip)

abbrev pub view_ran : KeptRan → Ran
view_ran r = ran_to (view r.chip) r.count r.changing r.ending
