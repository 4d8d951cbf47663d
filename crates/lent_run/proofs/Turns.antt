-- One turn of the run's loop on lent bytes. A refused command leaves the chip as it was, so bytes that a stopped run leaves hold
-- the chip before that command; everything else is crate `chip_run`'s law of the same turn.
use Prim.Native.Nat.{ℕ, ◌+◌, ◌/◌, ◌%◌, ◌<◌, ◌≤◌}
use native.Mathlib.Omega.{arith}
use mathlib.Core.Bool.{Bool, true, false, not, cond, ◌||◌}
use mathlib.Core.Path.{◌≡◌, refl, ap, sym, ◌∙◌}
use mathlib.Core.List.{List}
use lib.Dec.{eqb, leb}
use lib.ListN.{length}
use Rattle.chip.specs.Access.{Wrote, answer_number, port_written, port_read}
use Rattle.chip.specs.declared.access.AccessError.{AccessError}
use Rattle.chip.specs.declared.access.AccessError.TheVariants.{Unlisted as NoPort, Closed as Shut}
use Rattle.chip.specs.State.{Chip}
use Rattle.chip.specs.Differ.{differ, changes}
use Rattle.chip.proofs.NumberLaws.{write_refused, read-refused}
use Rattle.chip.proofs.DifferLaws.{unmoved, read_differs_not, told_differs}
use Rattle.script_commands.specs.declared.Command.TheVariants.{Out, In, Merge, OutAcc}
use Rattle.chip_run.specs.Run.{Ran, Did, answered, after_write, after_read, done, one, ran_to, ran, verdict_number, reason_number, tally}
use Rattle.chip_run.specs.declared.Ending.{Ending}
use Rattle.chip_run.specs.declared.Ending.TheVariants.{Stopped}
use Rattle.chip_run.specs.declared.Reason.{Reason}
use Rattle.chip_run.specs.declared.Reason.TheVariants.{Form, Closed, Unlisted}
use Rattle.chip_run.proofs.RunNumbers.{answered-number}
use Rattle.chip_run.proofs.Turns.{read_at, rest, step_most, added_most, turned, halted}
use Rattle.lent_chip.specs.Layout.{whole, view, spare}
use Rattle.lent_chip.specs.Accesses.{WroteIn, ReadIn, told_of}
use Rattle.lent_chip.proofs.Words.{packed-changed}
use Rattle.lent_run.specs.Run.{answer_of, reason_of, verdict_of, DidIn, RanIn}
use Rattle.lent_run.specs.declared.Turn.{Turn}
use Rattle.std.specs.Prelude.{Result, Option, Ok, Err, Some, None}
use Rattle.std.specs.Int.{from_bool}
use Rattle.script_commands.specs.declared.Command.{Command}

-- a command that is no write changes nothing
pub unchanged : (c : Chip) → false ≡ differ c c
unchanged c = sym (unmoved c c refl)

changes_most : (c d : Chip) → changes c d ≤ 1
changes_most c d = step_most (differ c d) refl

-- ---- a port access on a state: its number is its verdict, and a write's word says whether something differs
verdict_known : (a : Result (Unit {0}) AccessError) → verdict_of (answer_number a) ≡ answered a
verdict_known (Ok tt) = refl
verdict_known (Err NoPort) = refl
verdict_known (Err Shut) = refl

same_step : (a b : Bool) → ◌≡◌ {A = ℕ} (cond a 1 0) (cond b 1 0) → a ≡ b
same_step true true h = refl
same_step true false h = absurd (omega arith)
same_step false true h = absurd (omega arith)
same_step false false h = refl

module _ {l m : List ℕ} {t : Turn} (p : ℕ) where
  pub sent : {acc w : ℕ} (v : ℕ) → WroteIn l (port_written (view l) p v) m w → t.verdict ≡ verdict_of (w / 16777216 % 256)
      → t.changed ≡ (not (eqb (w / 256 % 256) (w % 256)) || leb 4294967296 w) → t.acc ≡ acc → DidIn l (after_write acc (port_written (view l) p v)) m t
  sent {w = w} v wrote n c a =
      let x : Wrote = port_written (view l) p v in
      record {
        holds = wrote.holds;
        verdict = n ∙ ap verdict_of wrote.answer.number ∙ verdict_known x.answer;
        acc = a;
        changed =
            c ∙ same_step _ (differ (view l) x.chip) (sym (packed-changed w (told_of (view l) x) wrote.answer (changes_most (view l) x.chip)
            (λ other. ap (λ (z : Bool). cond z 1 0) (told_differs (view l) p v other))));
      }

  pub fetched : {w : ℕ} → ReadIn l (port_read (view l) p) m w → t.verdict ≡ verdict_of (w / 256) → t.acc ≡ w % 256 → t.changed ≡ false
      → DidIn l (after_read (port_read (view l) p)) m t
  fetched seen n a c = record {
    holds = seen.holds;
    verdict = n ∙ ap verdict_of seen.number ∙ verdict_known (port_read (view l) p).answer;
    acc = a ∙ seen.value;
    changed = c ∙ sym (read_differs_not (view l) p);
  }

-- a test as a number
from_cond : (b : Bool) → from_bool b ≡ cond b 1 0
from_cond true = refl
from_cond false = refl

-- a command counts where something differs after it
counts : {l m : List ℕ} {d : Did} {t : Turn} → DidIn l d m t → from_bool t.changed ≡ changes (view l) d.chip
counts {t = t} h = from_cond t.changed ∙ ap (λ (z : Bool). cond z 1 0) h.changed

-- ---- a command by its number
pub reason_known : (why : Reason) → reason_of (reason_number why) ≡ why
reason_known Form = refl
reason_known Closed = refl
reason_known Unlisted = refl

refused_number : (why : Reason) → reason_number why ≡ 0 → ⊥
refused_number Form h = omega arith
refused_number Closed h = omega arith
refused_number Unlisted h = omega arith

-- a command that is refused, by its number, hands back the very chip
pub bad_stays : (c : Chip) (acc : ℕ) (r : Option Command) → (verdict_number (one c acc r).verdict ≡ 0 → ⊥) → (one c acc r).chip ≡ c
unfolding one done
bad_stays c acc None h = refl
bad_stays c acc (Some (Out p v)) h = write_refused c p v (λ z. h (answered-number (port_written c p v).answer ∙ z))
bad_stays c acc (Some (In p)) h = (read-refused c p (λ z. h (answered-number (port_read c p).answer ∙ z))).1
bad_stays c acc (Some (Merge keep set)) h = refl
bad_stays c acc (Some (OutAcc p)) h = write_refused c p acc (λ z. h (answered-number (port_written c p acc).answer ∙ z))

-- ---- the loop: bytes that hold what is still to be run from
pub record Going (l bs : List ℕ) (limit acc k n at : ℕ) (m : List ℕ) : Type 0 where
  pub size : length m ≡ whole
  pub spare : spare m ≡ spare l
  pub still : rest (view m) acc k n limit bs at ≡ ran (view l) bs limit
  pub below : k ≤ limit
  pub few : n ≤ k

pub begun : {l bs : List ℕ} {limit : ℕ} → length l ≡ whole → rest (view l) 0 0 0 limit bs 0 ≡ ran (view l) bs limit
    → Going l bs limit 0 0 0 0 l
begun n r = record { size = n; spare = refl; still = r; below = omega arith; few = omega arith }

-- a run that is known gives its answer
answered_lem : {k n : ℕ} {e : Ending} {c : Chip} {r : Ran} → ran_to c k n e ≡ r → Ok (tally k n e) ≡ answer_of r
answered_lem h = ap answer_of h

pub unrun : {l : List ℕ} {e : Ending} (bs : List ℕ) (limit : ℕ) → length l ≡ whole → ran_to (view l) 0 0 e ≡ ran (view l) bs limit
    → RanIn l (ran (view l) bs limit) l (Ok (tally 0 0 e))
unrun bs limit n r = record {
  holds = record { size = n; chip = ap (λ (u : Ran). u.chip) r; spare = refl };
  answer = answered_lem r;
}

-- a way out
pub out : {l bs m : List ℕ} {limit acc k n at : ℕ} (e : Ending) → Going l bs limit acc k n at m
    → ran_to (view m) k n e ≡ rest (view m) acc k n limit bs at → RanIn l (ran (view l) bs limit) m (Ok (tally k n e))
out e g h = let r = h ∙ g.still in record {
  holds = record { size = g.size; chip = ap (λ (u : Ran). u.chip) r; spare = g.spare };
  answer = answered_lem r;
}

-- a command is the same whatever says how it is read
pub read_as : {m s : List ℕ} {t : Turn} {x y : Option Command} (acc : ℕ) → x ≡ y → DidIn m (one (view m) acc x) s t → DidIn m (one (view m) acc y) s t
read_as acc e d = rw e at d

module _ {l bs m s : List ℕ} {limit acc k n at : ℕ} {t : Turn} (g : Going l bs limit acc k n at m) (room : at + 3 < length bs) (below : k < limit)
    (d : DidIn m (one (view m) acc (read_at bs at)) s t) where
  pub again : {s' at' : ℕ} → t.verdict ≡ Ok tt → s' ≡ from_bool t.changed → at' ≡ at + 4 → Going l bs limit t.acc (k + 1) (n + s') at' s
  again e more next =
      rw (more, next) (record {
        size = d.holds.size;
        spare = d.holds.spare ∙ g.spare;
        still = rw (d.holds.chip, d.acc, counts d) (turned (view m) acc k n limit bs at room below (one (view m) acc (read_at bs at)) refl (sym d.verdict ∙ e) ∙ g.still);
        below = omega arith;
        few = let a = g.few in omega (arith, a, added_most t.changed);
      })

  pub stopped : {why : Reason} → t.verdict ≡ Err why → RanIn l (ran (view l) bs limit) s (Ok (tally k n (Stopped k why)))
  stopped {why} e =
      let v : (one (view m) acc (read_at bs at)).verdict ≡ Err why = sym d.verdict ∙ e in
      let bad : verdict_number (one (view m) acc (read_at bs at)).verdict ≡ 0 → ⊥ = λ z. refused_number why (sym (ap verdict_number v) ∙ z) in
      let r = halted (view m) acc k n limit bs at room below (one (view m) acc (read_at bs at)) refl why v ∙ g.still in
      record {
        holds = record {
          size = d.holds.size;
          chip = d.holds.chip ∙ bad_stays (view m) acc (read_at bs at) bad ∙ ap (λ (u : Ran). u.chip) r;
          spare = d.holds.spare ∙ g.spare;
        };
        answer = answered_lem r;
      }
