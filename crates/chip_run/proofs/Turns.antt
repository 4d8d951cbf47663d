-- One turn of the run's loop, in each of its ways: what is still to come from here is the whole run.
use Prim.Native.Nat.{ℕ, zero, suc, ◌+◌, ◌-◌, ◌*◌, ◌/◌, ◌%◌, ◌<◌, ◌≤◌}
use native.Mathlib.Nat.{add_assoc, zero-add}
use native.Mathlib.Omega.{arith}
use native.Mathlib.Numerals.{towards_suc}
use mathlib.Core.Bool.{Bool, true, false, cond}
use mathlib.Core.Path.{◌≡◌, refl, sym, ap, ◌∙◌}
use mathlib.Core.List.{List, [], ◌∷◌}
use lib.ListN.{length, get_or, take, drop, drop_of_length-le}
use lib.Seq.{drop-cons, take-nil}
use borrow.Author.Tests.{eq-eqb, ne_eqb}
use Rattle.chip.specs.State.{Chip}
use Rattle.chip.specs.Differ.{differ, changes}
use Rattle.script_commands.specs.Command.{command_of}
use Rattle.chip_run.specs.Run.{Did, one, run_from, altering, Ran, ran_to, handed, reads, ran}
use Rattle.chip_run.specs.declared.Reason.{Reason}
use Rattle.chip_run.specs.declared.Reason.TheVariants.{Form}
use Rattle.chip_run.specs.declared.Ending.TheVariants.{Ended, AtLimit, Stopped}
use Rattle.std.specs.Prelude.{Option, Ok, Err}
use Rattle.std.specs.Simd.{first_chunks}
use Rattle.std.specs.Int.{from_bool}
use Rattle.std.proofs.lemmas.List.{drop-drop, get_or-take, get_or-drop}
use Rattle.script_commands.specs.declared.Command.{Command}

-- what stands at a place of the bytes
abbrev pub read_at : List ℕ → ℕ → Option Command
read_at bs at = command_of (get_or bs at 0) (get_or bs (at + 1) 0) (get_or bs (at + 2) 0) (get_or bs (at + 3) 0)

pub reads_at : (bs : List ℕ) (at : ℕ) → at + 3 < length bs → reads (drop at bs) ≡ read_at bs at ∷ reads (drop (at + 4) bs)
unfolding reads
reads_at bs at h =
    let h0 : at < length bs = omega arith in
    let h1 : suc at < length bs = omega arith in
    let h2 : suc (suc at) < length bs = omega arith in
    let h3 : suc (suc (suc at)) < length bs = omega arith in
    simp towards_suc
    (rw (drop-cons bs at 0 h0, drop-cons bs (suc at) 0 h1, drop-cons bs (suc (suc at)) 0 h2, drop-cons bs (suc (suc (suc at))) 0 h3))

-- bytes in fours: the command at a place of them is that at four times the place of the bytes
module _ (bs : List ℕ) where
  four-at : (k p : ℕ) (d : List ℕ) → p < k → get_or (first_chunks 4 k bs) p d ≡ take 4 (drop (4 * p) bs)
  four-at k p d h = go k p bs h
    where
      go : (k p : ℕ) (xs : List ℕ) → p < k → get_or (first_chunks 4 k xs) p d ≡ take 4 (drop (4 * p) xs)
      go zero p xs h = absurd (omega arith)
      go (suc k) zero xs h = refl
      go (suc k) (suc p) xs h =
          let e : 4 * suc p ≡ 4 + 4 * p = omega arith in
          rw (go k p (drop 4 xs) (omega arith), e, drop-drop (4 * p) 4 xs)

  byte-at : (k p i : ℕ) (d : List ℕ) → p < k → i < 4 → get_or (get_or (first_chunks 4 k bs) p d) i 0 ≡ get_or bs (4 * p + i) 0
  byte-at k p i d h j = rw (four-at k p d h) (get_or-take 4 (drop (4 * p) bs) i 0 j ∙ get_or-drop (4 * p) bs i 0)

  pub read-four : {fours : List (List ℕ)} → fours ≡ first_chunks 4 (length bs / 4) bs → (p : ℕ) (d : List ℕ) → p < length bs / 4
      → command_of (get_or (get_or fours p d) 0 0) (get_or (get_or fours p d) 1 0) (get_or (get_or fours p d) 2 0) (get_or (get_or fours p d) 3 0)
      ≡ read_at bs (4 * p)
  read-four e p d h =
      let k = length bs / 4 in
      let z : 4 * p + 0 ≡ 4 * p = omega arith in
      rw (e, byte-at k p 0 d h (omega arith), byte-at k p 1 d h (omega arith), byte-at k p 2 d h (omega arith), byte-at k p 3 d h (omega arith), z)

-- what is still to come from a place: how far the commands go from there, with those that change something added to n
abbrev pub rest : Chip → ℕ → ℕ → ℕ → ℕ → List ℕ → ℕ → Ran
rest c acc k n limit bs at =
    handed (n + altering c acc (take (limit - k) (reads (drop at bs)))) (run_from c acc k (limit - k) (reads (drop at bs)))

-- nothing more is added
stays : (n : ℕ) → n ≡ n + 0
stays n = omega arith

nothing-reads : reads [] ≡ []
unfolding reads
nothing-reads = refl

-- what is added for a command is at most 1
pub step_most : {s : ℕ} (b : Bool) → s ≡ cond b 1 0 → s ≤ 1
step_most true h = omega arith
step_most false h = omega arith

pub added_most : (b : Bool) → from_bool b ≤ 1
added_most true = omega arith
added_most false = omega arith

from_cond : (b : Bool) → from_bool b ≡ cond b 1 0
from_cond true = refl
from_cond false = refl

module _ (c : Chip) (acc k n limit : ℕ) (bs : List ℕ) (at : ℕ) where
  pub finished : length bs ≤ at → ran_to c k n Ended ≡ rest c acc k n limit bs at
  unfolding run_from altering
  finished h = ap (λ (m : ℕ). ran_to c k m Ended) (stays n) ∙ rw (drop_of_length-le bs h, nothing-reads, take-nil {A = Option Command} (limit - k))

  module _ (room : at + 3 < length bs) where
    pub limited : k ≡ limit → ran_to c k n AtLimit ≡ rest c acc k n limit bs at
    unfolding run_from altering
    limited e =
        let z : limit - k ≡ 0 = omega arith in ap (λ (m : ℕ). ran_to c k m AtLimit) (stays n) ∙ rw (z, reads_at bs at room)

    module _ (below : k < limit) (d : Did) (is : d ≡ one c acc (read_at bs at)) where
      pub turned : d.verdict ≡ Ok tt
          → rest d.chip d.acc (k + 1) (n + changes c d.chip) limit bs (at + 4) ≡ rest c acc k n limit bs at
      unfolding run_from altering
      turned e = let s : limit - k ≡ suc (limit - (k + 1)) = omega arith in rw (s, reads_at bs at room, ← is, e, add_assoc)

      -- the same as `command` says it, and a number from a test
      pub advanced : {s : ℕ} {b : Bool} → b ≡ differ c (one c acc (read_at bs at)).chip → s ≡ from_bool b → d.verdict ≡ Ok tt
          → rest d.chip d.acc (k + 1) (n + s) limit bs (at + 4) ≡ rest c acc k n limit bs at
      advanced {b = b} f g e =
          ap (λ (s : ℕ). rest d.chip d.acc (k + 1) (n + s) limit bs (at + 4))
          (g ∙ from_cond b ∙ ap (λ (x : Bool). cond x 1 0) f ∙ ap (λ (x : Did). changes c x.chip) (sym is))
          ∙ turned e

      pub halted : (why : Reason) → d.verdict ≡ Err why → ran_to c k n (Stopped k why) ≡ rest c acc k n limit bs at
      unfolding run_from altering
      halted why e =
          let s : limit - k ≡ suc (limit - (k + 1)) = omega arith in
          ap (λ (m : ℕ). ran_to c k m (Stopped k why)) (stays n) ∙ rw (s, reads_at bs at room, ← is, e)

module _ (c : Chip) (bs : List ℕ) (limit : ℕ) where
  pub whole : length bs % 4 ≡ 0 → rest c 0 0 0 limit bs 0 ≡ ran c bs limit
  unfolding ran
  whole h = let z : limit - 0 ≡ limit = omega arith in rw (z, eq-eqb _ _ h, zero-add)

  pub uneven : (length bs % 4 ≡ 0 → ⊥) → ran_to c 0 0 (Stopped 0 Form) ≡ ran c bs limit
  unfolding ran
  uneven h = rw (ne_eqb _ _ h)
