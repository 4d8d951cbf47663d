-- Laws of the text. It fits where there is room for the longest, and 96,855 bytes are room for any; with 32,256 bytes for the
-- commands it is a function of the file alone; bytes behind the first 6,145 change nothing, so that a program may stop reading
-- there; all of this for the plain list and for the short one. And every port of a script has three digits.
use Prim.Native.Nat.{ℕ, ◌-◌, ◌*◌, ◌≤◌}
use native.Mathlib.Omega.{arith}
use mathlib.Core.Bool.{Bool, true, false, cond, ◌&&◌}
use mathlib.Core.Path.{◌≡◌, refl}
use mathlib.Core.List.{List, [], ◌∷◌, ◌++◌}
use lib.Dec.{ltb, eqb}
use lib.ListN.{length, take, length-append}
use borrow.Author.Tests.{le-ltb, ltb-false}
use Rattle.script_steps.specs.declared.Step.{Step}
use Rattle.script_steps.specs.declared.Step.TheVariants.{Set, Field, Colour}
use Rattle.script.specs.File.{whole_blocks, step_count, checked}
use Rattle.script.specs.Numbers.{of_refusal}
use Rattle.script.proofs.Checking.{Legal, answer_says, check_length}
use Rattle.script.proofs.Counting.{accepted_few, long_refused, start_decides}
use Rattle.script_commands.specs.Expansion.{ways, set_by, field_by, expanded}
use Rattle.script_commands.specs.Translation.{commands_to, if_room, translated}
use Rattle.script_commands.specs.declared.Command.{Command}
use Rattle.script_commands.specs.declared.Command.TheVariants.{Out, In, Merge, OutAcc}
use Rattle.script_commands.specs.declared.Ways.{Ways}
use Rattle.script_commands.specs.declared.Ways.TheVariants.{Pair, Pairs, Direct, Turns, Nowhere}
use Rattle.script_commands.proofs.Expanding.{begins_most}
use Rattle.script_short.specs.Short.{short_to, short_translated}
use Rattle.script_short.proofs.ShortLaws.{short_most}
use Rattle.chip_play.specs.Played.{fresh, changing_of}
use Rattle.text.specs.Refused.{refused}
use Rattle.text.proofs.Adding.{refused_most}
use Rattle.text_listing.specs.Line.{line, lines_of}
use Rattle.text_listing.specs.Text.{header, text_by, text, short_text, wanted, answered, listed_by, listed, short_listed}
use Rattle.text_listing.proofs.Adding.{line_most}
use Rattle.text_listing.proofs.Listing.{header_most, list_few}
use Rattle.std.specs.Prelude.{Result, Ok, Err}
use Rattle.script.specs.declared.Refusal.{Refusal}
use Rattle.text_listing.specs.declared.ListError.{ListError}
use Rattle.text_listing.specs.declared.ListError.TheVariants.{Refused as NotListed, Short}

-- ---- the text fits
pub length_lines : (cs : List Command) → length (lines_of cs) ≤ 12 * length cs
unfolding lines_of
length_lines [] = omega arith
length_lines (c ∷ cs) =
    let h : length (lines_of cs) ≤ 12 * length cs = length_lines cs in
    let k : length (line c) ≤ 12 = line_most c in
    rw (length-append (line c) (lines_of cs)) (omega arith)

-- how many bytes of text an answer counts
abbrev pub counted : Result ℕ ListError → ℕ
counted (Ok n) = n
counted (Err (NotListed r n)) = n
counted (Err Short) = 0

answered-counted : (t : Result ℕ Refusal) (n : ℕ) → counted (answered t n) ≡ n
answered-counted (Ok k) n = refl
answered-counted (Err r) n = refl

within_by : (t : Result ℕ Refusal) (x : List ℕ) (room : ℕ) → length x ≤ wanted t → counted (listed_by t x room) ≤ room
within_by t x room h = go (ltb room (wanted t)) refl
  where
    go : (b : Bool) → ltb room (wanted t) ≡ b → counted (cond b (Err Short) (answered t (length x))) ≤ room
    go true eb = omega arith
    go false eb = let enough : wanted t ≤ room = ltb-false _ _ eb in omega (arith, answered-counted t (length x))

whole_by : (t : Result ℕ Refusal) (x : List ℕ) (room : ℕ) → wanted t ≤ 96855 → 96855 ≤ room → listed_by t x room ≡ answered t (length x)
whole_by t x room most h = let w : wanted t ≤ room = omega arith in rw (le-ltb _ _ w) refl

-- the text of the file alone
abbrev pub checked_text : Result ℕ Refusal → (ℕ → List Command) → List ℕ → List ℕ
checked_text (Ok m) list f = header m (length (list m)) (changing_of fresh f) ++ lines_of (list m)
checked_text (Err r) list f = refused (of_refusal r).number

-- ---- of a list of at most 8 commands a step, whichever it is
module _ (list : List ℕ → ℕ → List Command) (most : (f : List ℕ) (n : ℕ) → length (list f n) ≤ 8 * n) where
  abbrev answer : List ℕ → ℕ → Result ℕ Refusal
  answer f work = if_room (checked f) (list f) work

  abbrev whole : List ℕ → ℕ → List ℕ
  whole f work = text_by (answer f work) (list f (step_count f)) f

  list_text_most : (f : List ℕ) (work : ℕ) → length (whole f work) ≤ wanted (answer f work)
  list_text_most f work = go (answer f work) refl
    where
      go : (t : Result ℕ Refusal) → answer f work ≡ t → length (text_by t (list f (step_count f)) f) ≤ wanted t
      go (Err r) e = omega (arith, refused_most (of_refusal r).number)
      go (Ok k) e =
          let cs : List Command = list f (step_count f) in
          let w : k ≡ length cs = (list_few f (list f) (most f) work k e).count in
          let h : length (header (step_count f) k (changing_of fresh f)) ≤ 87 = header_most (step_count f) k (changing_of fresh f) in
          let l : length (lines_of cs) ≤ 12 * length cs = length_lines cs in
          rw (length-append (header (step_count f) k (changing_of fresh f)) (lines_of cs)) (omega arith)

  list_wanted_most : (f : List ℕ) (work : ℕ) → wanted (answer f work) ≤ 96855
  list_wanted_most f work = go (answer f work) refl
    where
      go : (t : Result ℕ Refusal) → answer f work ≡ t → wanted t ≤ 96855
      go (Err r) e = omega arith
      go (Ok k) e = omega (arith, (list_few f (list f) (most f) work k e).few)

  list_text_alone : (f : List ℕ) (work : ℕ) → 32256 ≤ work → whole f work ≡ checked_text (checked f) (list f) f
  list_text_alone f work h = go (checked f) refl
    where
      go : (r : Result ℕ Refusal) → checked f ≡ r → text_by (if_room r (list f) work) (list f (step_count f)) f ≡ checked_text r (list f) f
      go (Err r) e = refl
      go (Ok m) e =
          let few : 32 * m ≤ work = omega (arith, (accepted_few f m e).1) in
          let l : Legal f m = answer_says f e in
          rw (le-ltb _ _ few, l.count)

  -- a file that is too long
  list_text_long : (f : List ℕ) (work : ℕ) → whole_blocks f ≡ false → whole f work ≡ refused 8
  list_text_long f work w = rw (check_length f w)

  list_text_start : (f : List ℕ) (work : ℕ) → whole (take 6145 f) work ≡ whole f work
  list_text_start f work = start_decides (λ l. whole l work) (refused 8) (λ l h. list_text_long l work (long_refused l h)) f

-- ---- the plain list: the text has the room that it wants
pub text_most : (f : List ℕ) (work : ℕ) → length (text f work) ≤ wanted (translated f work)
unfolding text translated
text_most = list_text_most commands_to begins_most

-- what is counted lies within the output
pub listed-within : (f : List ℕ) (work room : ℕ) → counted (listed f work room) ≤ room
unfolding listed
listed-within f work room = within_by (translated f work) (text f work) room (text_most f work)

-- no file wants more than 96,855 bytes
pub wanted_most : (f : List ℕ) (work : ℕ) → wanted (translated f work) ≤ 96855
unfolding translated
wanted_most = list_wanted_most commands_to begins_most

-- .. so that there the text's length is counted
pub listed-whole : (f : List ℕ) (work room : ℕ) → 96855 ≤ room → listed f work room ≡ answered (translated f work) (length (text f work))
unfolding listed
listed-whole f work room = whole_by (translated f work) (text f work) room (wanted_most f work)

-- the text of the file alone
pub text_alone : (f : List ℕ) (work : ℕ) → 32256 ≤ work → text f work ≡ checked_text (checked f) (commands_to f) f
unfolding text translated
text_alone = list_text_alone commands_to begins_most

-- reading may stop at 6,145 bytes
pub text_start : (f : List ℕ) (work : ℕ) → text (take 6145 f) work ≡ text f work
unfolding text translated
text_start = list_text_start commands_to begins_most

-- ---- the short list: the same laws
pub short_text_most : (f : List ℕ) (work : ℕ) → length (short_text f work) ≤ wanted (short_translated f work)
unfolding short_text short_translated
short_text_most = list_text_most short_to short_most

pub short_listed-within : (f : List ℕ) (work room : ℕ) → counted (short_listed f work room) ≤ room
unfolding short_listed
short_listed-within f work room = within_by (short_translated f work) (short_text f work) room (short_text_most f work)

pub short_wanted_most : (f : List ℕ) (work : ℕ) → wanted (short_translated f work) ≤ 96855
unfolding short_translated
short_wanted_most = list_wanted_most short_to short_most

pub short_listed-whole : (f : List ℕ) (work room : ℕ) → 96855 ≤ room → short_listed f work room ≡ answered (short_translated f work) (length (short_text f work))
unfolding short_listed
short_listed-whole f work room = whole_by (short_translated f work) (short_text f work) room (short_wanted_most f work)

pub short_text_alone : (f : List ℕ) (work : ℕ) → 32256 ≤ work → short_text f work ≡ checked_text (checked f) (short_to f) f
unfolding short_text short_translated
short_text_alone = list_text_alone short_to short_most

pub short_text_start : (f : List ℕ) (work : ℕ) → short_text (take 6145 f) work ≡ short_text f work
unfolding short_text short_translated
short_text_start = list_text_start short_to short_most

-- ---- the ports of a script's commands are below 1000h
abbrev pub low_port : Command → Bool
low_port (Out p v) = ltb p 0x1000
low_port (In p) = ltb p 0x1000
low_port (Merge k s) = true
low_port (OutAcc p) = ltb p 0x1000

abbrev pub low_ports : List Command → Bool
low_ports [] = true
low_ports (c ∷ cs) = low_port c && low_ports cs

either : {A : Type 0} (t : A → Bool) (b : Bool) (x y : A) → t x ≡ true → t y ≡ true → t (cond b x y) ≡ true
either t true x y p q = p
either t false x y p q = q

-- whatever is done by a way: SET and FIELD
low_by : (t : Ways → List Command) → low_ports (t (Pairs 0x3B4 0x3B5 0x3D4 0x3D5)) ≡ true → low_ports (t (Pair 0x3C4 0x3C5)) ≡ true
    → low_ports (t (Pair 0x3CE 0x3CF)) ≡ true → low_ports (t (Pair 0x3D6 0x3D7)) ≡ true → low_ports (t (Pair 0x3D0 0x3D1)) ≡ true
    → low_ports (t (Pair 0x3D2 0x3D3)) ≡ true → low_ports (t (Direct 0x3C2 0x3CC)) ≡ true → low_ports (t (Direct 0x3C6 0x3C6)) ≡ true
    → low_ports (t (Turns 0x3C0 0x3C1)) ≡ true → low_ports (t Nowhere) ≡ true → (g : ℕ) → low_ports (t (ways g)) ≡ true
unfolding ways
low_by t a b c d e f h i j k g =
    let u : Ways → Bool = λ w. low_ports (t w) in
    let at : (b : Bool) (x y : Ways) → u x ≡ true → u y ≡ true → u (cond b x y) ≡ true = either u in
    at (eqb g 0) _ _ a (at (eqb g 1) _ _ b (at (eqb g 2) _ _ c (at (eqb g 3) _ _ d
    (at (eqb g 4) _ _ e (at (eqb g 5) _ _ f (at (eqb g 6) _ _ h (at (eqb g 7) _ _ i (at (eqb g 8) _ _ j k))))))))

pub expanded-low : (s : Step) → low_ports (expanded s) ≡ true
unfolding expanded
expanded-low (Set g i v) = low_by (λ w. set_by w i v) refl refl refl refl refl refl refl refl refl refl g
expanded-low (Field g i v m) = low_by (λ w. field_by w i (0xFF - m) v) refl refl refl refl refl refl refl refl refl refl g
expanded-low (Colour e r g b) = refl
