-- The round trips, to read: what the writer wrote is read back as the steps that were written (`written_read`),
-- and the steps of an accepted file, written, are the same bytes (`read-written`). The arguments are in
-- proofs/Back and proofs/Again.
use mathlib.Core.Path.{◌≡◌, ap, ◌∙◌}
use mathlib.Core.List.{List}
use Prim.Native.Nat.{ℕ, ◌*◌, ◌/◌, ◌≤◌, ◌<◌}
use lib.ListN.{length, take, drop}
use Rattle.lists.specs.Put.{put}
use Rattle.lists.specs.Tab.{Bytes}
use Rattle.script_steps.specs.Step.{bytes_of}
use Rattle.script_steps.specs.declared.Step.{Step}
use Rattle.script.specs.File.{blocks, checked}
use Rattle.script.specs.Reader.{next_of}
use Rattle.script.proofs.Checking.{Legal, answer_says as file-says}
use Rattle.script.proofs.Reading.{accepted-handed, accepted_end}
use Rattle.script_writer.specs.Write.{file_of, written, left_by, steps_of}
use Rattle.script_writer.proofs.Again.{file_again, written-again}
use Rattle.script_writer.proofs.Back.{six_back, steps_back, accepted_back}
use Rattle.script_writer.proofs.Writing.{Done, answer_says}
use Rattle.std.specs.Prelude.{Ok, Some, None}

-- ---- the steps read back from what the writer wrote are the steps that were written

-- step j as the reader hands it out, with the six bytes that the list has for it
pub record SameStep (s : List ℕ) (j : ℕ) : Type 0 where
  pub step : Step
  pub answer : next_of (file_of s) j ≡ Ok (Some step)
  pub bytes : bytes_of step ≡ take 6 (drop (6 * j) s)

pub record ReadBack (s : List ℕ) : Type 0 where
  pub accepted : checked (file_of s) ≡ Ok (length s / 6)
  pub steps : steps_of (file_of s) (length s / 6) ≡ s
  pub each : (j : ℕ) → j < length s / 6 → SameStep s j
  pub end : (j : ℕ) → length s / 6 ≤ j → next_of (file_of s) j ≡ Ok None

pub written_read : (s : List ℕ) (room n : ℕ) → written s room ≡ Ok n → ReadBack s
written_read s room n r =
    let d : Done s room n = answer_says s room r in
    let l = d.legal in
    let a = accepted_back s l.whole l.steps_legal in
    record {
      accepted = a;
      steps = steps_back s l.whole;
      each = λ j h.
          let p = accepted-handed (file_of s) (length s / 6) a j h in
          record { step = p.step; answer = p.answer; bytes = p.bytes ∙ six_back s l.whole j h };
      end = accepted_end (file_of s) (length s / 6) a;
    }

-- ---- the steps of an accepted file, written, are the same bytes
pub record WrittenAgain (f : List ℕ) (m : ℕ) (out : List ℕ) : Type 0 where
  pub answer : written (steps_of f m) (length out) ≡ Ok (blocks f)
  pub left : left_by (Ok (blocks f)) (steps_of f m) out ≡ put out 0 f

pub read-written : (f : List ℕ) (m : ℕ) → Bytes f → checked f ≡ Ok m → (out : List ℕ) → length f ≤ length out → WrittenAgain f m out
read-written f m bytes acc out h =
    let l : Legal f m = file-says f acc in
    record {
      answer = written-again f m bytes l (length out) h;
      left = ap (put out 0) (file_again f m bytes l);
    }
