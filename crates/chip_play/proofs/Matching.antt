-- The theorem of specs/Matching, and that the contracts of the code are what it speaks of.
use Prim.Native.Nat.{ℕ}
use mathlib.Core.Bool.{Bool}
use mathlib.Core.Path.{◌≡◌, refl, sym, ap, ◌∙◌}
use mathlib.Core.List.{List}
use lib.ListN.{length}
use Rattle.chip_registers.specs.Row.{row_size}
use Rattle.chip.specs.State.{Chip, named}
use Rattle.chip.specs.Access.{Wrote as WroteTo, Seen, port_written, port_read}
use Rattle.chip.specs.Differ.{differ}
use Rattle.chip.specs.Reset.{reset}
use Rattle.chip.specs.View.{view, view_wrote, view_seen, Shows}
use Rattle.chip.specs.declared.Chip.{Chip as Kept}
use Rattle.chip.specs.declared.access.Wrote.{Wrote as KeptWrote}
use Rattle.chip.specs.declared.access.Seen.{Seen as KeptSeen}
use Rattle.chip.proofs.ViewLaws.{view_decides}
use Rattle.chip.proofs.KeptLaws.{kept, Rowable, kept_shows, view_rowable, reset_rowable, written_rowable, read_rowable, reached-shown}
use Rattle.chip_run.specs.Run.{Ran as RanTo, ran}
use Rattle.chip_run.specs.View.{view_ran}
use Rattle.chip_run.proofs.RunLaws.{run_keeps}
use Rattle.chip_run.specs.declared.Ran.{Ran as KeptRan}
use Rattle.chip_play.specs.Matching.{Act, Reset, Write, Read, Run, Play, Said, Nothing, Wrote, Saw, Ran, Became, Gave, gives, gave, KeptGave, KeptAll, none, next, said_by, left_by, SmallerState}
use Rattle.script.specs.File.{step_count}
use Rattle.script_commands.specs.Translation.{commands_to, translated}
use Rattle.chip_play.specs.Played.{Performance, after_translation, played}
use Rattle.chip_play.specs.View.{view_performance}
use Rattle.chip_play.specs.declared.Performance.{Performance as KeptPerformance}
use Rattle.std.specs.Prelude.{Result, Ok, Err}
use Rattle.script.specs.declared.Refusal.{Refusal}

-- ---- what a contract says is what the theorem takes
module _ (k : Kept) where
  pub reset-gave : (first second : ℕ) (m : Kept) → length m.row ≡ row_size → view m ≡ reset first second → KeptGave k (Reset first second) Nothing m
  unfolding gave
  reset-gave first second m size e = record { size = size; shown = ap (gives Nothing) e }

  pub write_gave : (p v : ℕ) (r : KeptWrote) → length r.chip.row ≡ row_size → view_wrote r ≡ port_written (view k) p v
      → r.changed ≡ differ (view k) (port_written (view k) p v).chip → KeptGave k (Write p v) (Wrote r.answer r.before r.after r.changed) r.chip
  unfolding gave
  write_gave p v r size e changed = record {
    size = size;
    shown = ap (λ (b : Bool). gives (Wrote r.answer r.before r.after b) (view r.chip)) changed
        ∙ ap (λ (w : WroteTo). gives (Wrote w.answer w.before w.after (differ (view k) (port_written (view k) p v).chip)) w.chip) e;
  }

  pub read-gave : (p : ℕ) (r : KeptSeen) → length r.chip.row ≡ row_size → view_seen r ≡ port_read (view k) p
      → KeptGave k (Read p) (Saw r.answer r.value) r.chip
  unfolding gave
  read-gave p r size e = record { size = size; shown = ap (λ (s : Seen). gives (Saw s.answer s.value) s.chip) e }

  pub run_gave : (bytes : List ℕ) (limit : ℕ) (r : KeptRan) → length r.chip.row ≡ row_size → view_ran r ≡ ran (view k) bytes limit
      → KeptGave k (Run bytes limit) (Ran r.count r.changing r.ending) r.chip
  unfolding gave
  run_gave bytes limit r size e = record { size = size; shown = ap (λ (x : RanTo). gives (Ran x.count x.changing x.ending) x.chip) e }

  pub play_gave : (file : List ℕ) (room : ℕ) (r : KeptPerformance) → length r.chip.row ≡ row_size → view_performance r ≡ played (view k) file room
      → KeptGave k (Play file room) (Became r.outcome) r.chip
  unfolding gave
  play_gave file room r size e = record { size = size; shown = ap (λ (p : Performance). gives (Became p.outcome) p.chip) e }

-- ---- the theorem
matched : (k : Kept) (c : Chip) → Shows k c → (a : Act) (s : Said) (m : Kept) → KeptGave k a s m → (s ≡ (gave a c).said) × Shows m (gave a c).chip
matched k c shows a s m g =
    let e : gives s (view m) ≡ gave a c = g.shown ∙ ap (gave a) shows.chip in
    (ap (λ (x : Gave). x.said) e, record { size = g.size; chip = ap (λ (x : Gave). x.chip) e })

all_matched : {k m : Kept} {l : List Act} {said : List Said} → KeptAll k l said m → (c : Chip) → Shows k c → (said ≡ said_by l c) × Shows m (left_by l c)
unfolding said_by left_by
all_matched none c shows = (refl, shows)
all_matched (next {k} {m} {n} {a} {s} g more) c shows =
    let (same, left) = matched k c shows a s m g in
    let (others, end) = all_matched more (gave a c).chip left in
    (rw (same, others), end)

-- an act leaves a state that can be kept
act_rowable : (a : Act) (c : Chip) → Rowable (named c) → Rowable (named (gave a c).chip)
unfolding gave played
act_rowable (Reset first second) c r = reset_rowable first second
act_rowable (Write p v) c r = written_rowable c p v r
act_rowable (Read p) c r = read_rowable c p r
act_rowable (Run bytes limit) c r = run_keeps (λ d. Rowable (named d)) written_rowable read_rowable c bytes limit r
act_rowable (Play file room) c r = go (translated file room)
  where
    go : (t : Result ℕ Refusal) → Rowable (named (after_translation t (commands_to file (step_count file)) c).chip)
    go (Ok k) = run_keeps (λ d. Rowable (named d)) written_rowable read_rowable c _ k r
    go (Err why) = r

there : (k : Kept) (a : Act) → (s : Said) × (m : Kept) × KeptGave k a s m
there k a =
    let s = kept_shows (gave a (view k)).chip (act_rowable a (view k) (view_rowable k)) in
    ((gave a (view k)).said, kept (gave a (view k)).chip, record { size = s.size; shown = ap (gives (gave a (view k)).said) s.chip })

pub smaller_state : SmallerState
smaller_state = record {
  act = matched;
  acts = λ k c shows l said m all. all_matched all c shows;
  decided = λ k a s t m n g h.
      let e : gives s (view m) ≡ gives t (view n) = g.shown ∙ sym h.shown in
      (ap (λ (x : Gave). x.said) e, view_decides m n g.size h.size (ap (λ (x : Gave). x.chip) e));
  there = there;
  reached = λ first second c r. (kept c, reached-shown r);
  one = λ k c d s t. sym s.chip ∙ t.chip;
}
