-- The listing's answers, for a list of at most 8 commands a step, whichever it is: what a translation says of its number of
-- commands, the lines of the bytes that it leaves, the answer's number, and that what became of the script on a chip after a reset
-- has the list's text. The plain list and the short list come last.
use Prim.Native.Nat.{ℕ, ◌*◌, ◌≤◌}
use native.Mathlib.Omega.{arith}
use mathlib.Core.Bool.{cond}
use mathlib.Core.Path.{◌≡◌, refl, sym, ap, ◌∙◌}
use mathlib.Core.List.{List, ◌++◌}
use lib.Dec.{ltb}
use lib.ListN.{length, length-append}
use Rattle.lists.specs.Put.{put}
use Rattle.lists.specs.Numbers.{returned}
use Rattle.lists.proofs.Tests.{of_cond}
use Rattle.script.specs.File.{step_count, checked}
use Rattle.script.specs.Numbers.{checks_table}
use Rattle.script.specs.declared.Refusal.TheVariants.{Room}
use Rattle.script.proofs.Checking.{answer_says, accepted_table, refused_table}
use Rattle.script.proofs.Counting.{accepted_few}
use Rattle.script_commands.specs.Command.{bytes_of_all}
use Rattle.script_commands.specs.Translation.{commands_to, if_room, translated, put_by, left_by as translatedBy}
use Rattle.script_commands.specs.declared.Command.{Command}
use Rattle.script_commands.proofs.Expanding.{begins_most}
use Rattle.script_commands.proofs.Translating.{Translates, room_says}
use Rattle.script_short.specs.Short.{short_to, short_translated, short_left_by}
use Rattle.script_short.proofs.ShortLaws.{short_most}
use Rattle.chip_play.specs.Played.{Performance, ByName, fresh, changing_of}
use Rattle.chip_play.proofs.Playing.{list_fits, list_front-fits, fresh_open}
use Rattle.text.specs.Digits.{decimal}
use Rattle.text.proofs.DigitLaws.{decimal_most}
use Rattle.text_listing.specs.Line.{lines_of}
use Rattle.text_listing.specs.Text.{counts_line, changing_line, header, text_by, text, short_text, wanted, answered, listed_by, listed, short_listed, left_by, of_listed, table_by, listed_table, short_listed_table}
use Rattle.text_listing.specs.Adding.{lines_to, answer_of, Stands, text_of}
use Rattle.text_listing.proofs.Adding.{lines_read}
use Rattle.std.specs.Prelude.{Result, Ok, Err}
use Rattle.script.specs.declared.Refusal.{Refusal}
use Rattle.chip_run.specs.declared.Tally.{Tally}
use Rattle.text_listing.specs.declared.ListError.{ListError}
use Rattle.text_listing.specs.declared.ListError.TheVariants.{Short}

-- ---- the longest header
pub counts_most : (n k : ℕ) → length (counts_line n k) ≤ 57
counts_most n k =
    let a : length (decimal n) ≤ 20 = decimal_most 20 n in
    let b : length (decimal k) ≤ 20 = decimal_most 20 k in
    simp length-append (omega arith)

pub changing_most : (m : ℕ) → length (changing_line m) ≤ 30
changing_most m = let a : length (decimal m) ≤ 20 = decimal_most 20 m in simp length-append (omega arith)

pub header_most : (n k m : ℕ) → length (header n k m) ≤ 87
header_most n k m = omega (arith, counts_most n k, changing_most m, length-append (counts_line n k) (changing_line m))

-- ---- a translation's number of commands
pub record Few (f : List ℕ) (list : ℕ → List Command) (work k : ℕ) : Type 0 where
  pub count : k ≡ length (list (step_count f))
  pub room : 4 * k ≤ work
  pub few : k ≤ 8064

module _ (f : List ℕ) (list : ℕ → List Command) (most : (n : ℕ) → length (list n) ≤ 8 * n) where
  pub list_few : (work k : ℕ) → if_room (checked f) list work ≡ Ok k → Few f list work k
  list_few work k e =
      let t : Translates f list work k = room_says f list work k e in
      let n : length (list t.steps) ≤ 8 * t.steps = most t.steps in
      let s : t.steps ≤ 1008 = (accepted_few f t.steps t.accepted).1 in
      let same : k ≡ length (list t.steps) = t.commands in
      record {
        count = same ∙ ap (λ (m : ℕ). length (list m)) (sym t.counted);
        room = list_fits f list most work k t;
        few = omega arith;
      }

  -- the bytes that it leaves are read as its commands
  lines_left : (work bytes : List ℕ) (k : ℕ) → if_room (checked f) list (length work) ≡ Ok k → bytes ≡ put_by (Ok k) (list (step_count f)) work
      → lines_to bytes k ≡ lines_of (list (step_count f))
  lines_left work bytes k e is =
      ap (λ (l : List ℕ). lines_to l k) is
      ∙ ap (lines_to (put work 0 (bytes_of_all (list (step_count f))))) (list_few (length work) k e).count
      ∙ lines_read (list (step_count f)) _

  -- ---- the answer's number: 9 where the room is too little, and else the file's, or 0 with the text's length
  answered-number : (work n : ℕ)
      → of_listed (answered (if_room (checked f) list work) n) ≡ checks_table f (cond (ltb work (32 * step_count f)) (returned 9 0) (returned 0 n))
  answered-number work n = go (checked f) refl
    where
      go : (r : Result ℕ Refusal) → checked f ≡ r
          → of_listed (answered (if_room r list work) n) ≡ checks_table f (cond (ltb work (32 * step_count f)) (returned 9 0) (returned 0 n))
      go (Ok m) acc =
          let count : step_count f ≡ m = (answer_says f acc).count in
          of_cond (λ (t : Result ℕ Refusal). of_listed (answered t n)) (ltb work (32 * m)) (Err Room) (Ok (length (list m)))
          ∙ ap (λ (k : ℕ). cond (ltb work (32 * k)) (returned 9 0) (returned 0 n)) (sym count) ∙ sym (accepted_table f m acc _)
      go (Err why) acc = sym (refused_table f why acc _)

  number_by : (x : List ℕ) (work room : ℕ) → of_listed (listed_by (if_room (checked f) list work) x room) ≡ table_by (if_room (checked f) list work) x f work room
  number_by x work room =
      let t : Result ℕ Refusal = if_room (checked f) list work in
      of_cond of_listed (ltb room (wanted t)) (Err Short) (answered t (length x))
      ∙ ap (cond (ltb room (wanted t)) (returned 9 0)) (answered-number work (length x))

  -- ---- what became of the script on a chip after a reset, and what stands in the buffer: their text is the list's
  module _ (work : List ℕ) where
    abbrev answer : Result ℕ Refusal
    answer = if_room (checked f) list (length work)

    abbrev whole : List ℕ
    whole = text_by answer (list (step_count f)) f

    pub record Heard (o : Result Tally Refusal) (bytes : List ℕ) : Type 0 where
      pub told : answer_of o ≡ answer
      pub stands : Stands o bytes
      pub same : text_of o f bytes ≡ whole

    pub list_heard : {bytes : List ℕ} {p : Performance} → ByName answer fresh f p → bytes ≡ put_by answer (list (step_count f)) work → Heard p.outcome bytes
    list_heard {bytes} {p} by left = go answer refl
      where
        go : (t : Result ℕ Refusal) → answer ≡ t → Heard p.outcome bytes
        go (Err why) e =
            rw (by.refused why e).0
            (record {
              told = sym e;
              stands = record { within = omega arith; few = omega arith };
              same = ap (λ (t : Result ℕ Refusal). text_by t (list (step_count f)) f) (sym e);
            })
        go (Ok k) e =
            let there : bytes ≡ put_by (Ok k) (list (step_count f)) work = left ∙ ap (λ (t : Result ℕ Refusal). put_by t (list (step_count f)) work) e in
            rw (by.answers k e fresh_open).0
            (record {
              told = sym e;
              stands = record { within = list_front-fits f list most work k (room_says f list (length work) k e) there; few = (list_few (length work) k e).few };
              same =
                  ap (◌++◌ (header (step_count f) k (changing_of fresh f))) (lines_left work bytes k e there)
                  ∙ ap (λ (t : Result ℕ Refusal). text_by t (list (step_count f)) f) (sym e);
            })

    -- what a contract says of such a listing, from what was put in
    pub list_listed : (out : List ℕ) {o : Result Tally Refusal} {bytes out' : List ℕ} {r : Result ℕ ListError} → Heard o bytes → bytes ≡ put_by answer (list (step_count f)) work
        → r ≡ listed_by (answer_of o) (text_of o f bytes) (length out) → out' ≡ left_by r (text_of o f bytes) out
        → (r ≡ listed_by answer whole (length out))
        × ((out' ≡ left_by r whole out) × ((bytes ≡ put_by answer (list (step_count f)) work) × (of_listed r ≡ table_by answer whole f (length work) (length out))))
    list_listed out {o} {bytes} {out'} {r} h left is put_in =
        let e : r ≡ listed_by answer whole (length out) =
        is ∙ ap (λ (t : Result ℕ Refusal). listed_by t (text_of o f bytes) (length out)) h.told ∙ ap (λ (x : List ℕ). listed_by answer x (length out)) h.same in
        (e, (put_in ∙ ap (λ (x : List ℕ). left_by r x out) h.same, (left, ap of_listed e ∙ number_by whole (length work) (length out))))

-- ---- the plain list
pub translated_few : (f : List ℕ) (work k : ℕ) → translated f work ≡ Ok k → Few f (commands_to f) work k
unfolding translated
translated_few f = list_few f (commands_to f) (begins_most f)

pub listed-number : (f : List ℕ) (work room : ℕ) → of_listed (listed f work room) ≡ listed_table f work room
unfolding translated listed
listed-number f work room = number_by f (commands_to f) (begins_most f) (text f work) work room

module _ (f work : List ℕ) where
  abbrev pub Plain : Result Tally Refusal → List ℕ → Type 0
  Plain = Heard f (commands_to f) (begins_most f) work

  pub plain_heard : {bytes : List ℕ} {p : Performance} → ByName (translated f (length work)) fresh f p → bytes ≡ translatedBy (translated f (length work)) f work
      → Plain p.outcome bytes
  unfolding translated
  plain_heard = list_heard f (commands_to f) (begins_most f) work

  pub plain-listed : (out : List ℕ) {o : Result Tally Refusal} {bytes out' : List ℕ} {r : Result ℕ ListError} → Plain o bytes → bytes ≡ translatedBy (translated f (length work)) f work
      → r ≡ listed_by (answer_of o) (text_of o f bytes) (length out) → out' ≡ left_by r (text_of o f bytes) out
      → (r ≡ listed f (length work) (length out))
      × ((out' ≡ left_by r (text f (length work)) out)
      × ((bytes ≡ translatedBy (translated f (length work)) f work) × (of_listed r ≡ listed_table f (length work) (length out))))
  unfolding translated text listed
  plain-listed = list_listed f (commands_to f) (begins_most f) work

-- ---- the short list
pub short_few : (f : List ℕ) (work k : ℕ) → short_translated f work ≡ Ok k → Few f (short_to f) work k
unfolding short_translated
short_few f = list_few f (short_to f) (short_most f)

pub short_listed-number : (f : List ℕ) (work room : ℕ) → of_listed (short_listed f work room) ≡ short_listed_table f work room
unfolding short_translated short_listed
short_listed-number f work room = number_by f (short_to f) (short_most f) (short_text f work) work room

module _ (f work : List ℕ) where
  abbrev pub Shorter : Result Tally Refusal → List ℕ → Type 0
  Shorter = Heard f (short_to f) (short_most f) work

  pub short_heard : {bytes : List ℕ} {p : Performance} → ByName (short_translated f (length work)) fresh f p → bytes ≡ short_left_by (short_translated f (length work)) f work
      → Shorter p.outcome bytes
  unfolding short_translated
  short_heard = list_heard f (short_to f) (short_most f) work

  pub short_listed_lem : (out : List ℕ) {o : Result Tally Refusal} {bytes out' : List ℕ} {r : Result ℕ ListError} → Shorter o bytes → bytes ≡ short_left_by (short_translated f (length work)) f work
      → r ≡ listed_by (answer_of o) (text_of o f bytes) (length out) → out' ≡ left_by r (text_of o f bytes) out
      → (r ≡ short_listed f (length work) (length out))
      × ((out' ≡ left_by r (short_text f (length work)) out)
      × ((bytes ≡ short_left_by (short_translated f (length work)) f work) × (of_listed r ≡ short_listed_table f (length work) (length out))))
  unfolding short_translated short_text short_listed
  short_listed_lem = list_listed f (short_to f) (short_most f) work
