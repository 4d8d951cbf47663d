-- The answers of `tell`, from what the translation answered and left in its buffer: the refusal, too little room for the text,
-- and the text. The commands' bytes are the front of the buffer, four for each, and they are what the file's text is made of.
use Prim.Native.Nat.{ℕ, ◌+◌, ◌*◌, ◌/◌, ◌%◌, ◌≤◌, ◌<◌}
use native.Mathlib.Omega.{arith}
use mathlib.Core.Path.{◌≡◌, refl, sym, ap, ◌∙◌}
use mathlib.Core.List.{List}
use lib.ListN.{length, take}
use lib.Seq.{length-take-le}
use borrow.Author.Tests.{lt-ltb, le-ltb}
use Rattle.lists.specs.Put.{put, Added}
use Rattle.script.specs.declared.Refusal.{Refusal}
use Rattle.script.specs.declared.Refusal.TheVariants.{Room}
use Rattle.script_commands.specs.Translation.{translated, left_by as written_by}
use Rattle.chip_run.specs.Run.{reads}
use Rattle.chip_play.specs.Played.{fresh}
use Rattle.chip_play.proofs.Playing.{front_fits, front_commands}
use Rattle.text_listing.proofs.Listing.{translated_few}
use Rattle.text_effects.specs.Effects.{effects_of, text, wanted, told_by, told, left_by, left}
use Rattle.std.specs.Prelude.{Result, Ok, Err}

-- what the contract of `tell` says of an answer and the two buffers
abbrev pub Answers : List ℕ → List ℕ → List ℕ → Result ℕ Refusal → List ℕ → List ℕ → Type 0
Answers f work out r work' out' =
    (r ≡ told f (length work) (length out))
    × ((out' ≡ left f (length work) out) × (work' ≡ written_by (translated f (length work)) f work))

module _ (f work out : List ℕ) {t : Result ℕ Refusal} {work' : List ℕ} (is : t ≡ translated f (length work)) (kept : work' ≡ written_by t f work) where
  answers : {r : Result ℕ Refusal} {out' : List ℕ} → r ≡ told_by t f (length out) → out' ≡ left_by t f out → Answers f work out r work' out'
  unfolding told left
  answers {r} {out'} a b = (rw (← is) a, (rw (← is) b, rw (← is) kept))

  -- a refused file
  pub refusal-answers : (why : Refusal) → t ≡ Err why → Answers f work out (Err why) work' out
  refusal-answers why e = answers (rw e refl) (rw e refl)

  module _ (k : ℕ) (e : t ≡ Ok k) where
    commands : translated f (length work) ≡ Ok k
    commands = sym is ∙ e

    pub few : k ≤ 8064
    few = (translated_few f (length work) k commands).few

    -- too little room for the text
    pub room-answers : length out < wanted k → Answers f work out (Err Room) work' out
    room-answers h = answers (rw (e, lt-ltb _ _ h) refl) (rw (e, lt-ltb _ _ h) refl)

    -- the front of the buffer
    pub front-within : 4 * k ≤ length work'
    front-within = front_fits f work k commands (kept ∙ ap (λ (x : Result ℕ Refusal). written_by x f work) e)

    pub front_length : 4 * k ≡ length (take (4 * k) work')
    front_length = sym (length-take-le (4 * k) work' front-within)

    module _ (enough : wanted k ≤ length out) where
      pub front-room : (length (take (4 * k) work') % 4 ≡ 0) × (38400 + 38 * (length (take (4 * k) work') / 4) ≤ length out)
      front-room = (omega (arith, front_length), omega (arith, front_length))

      -- the text
      pub text-answers : {out' : List ℕ} {n : ℕ} → Added out 0 (effects_of fresh 0 (reads (take (4 * k) work'))) out' n
          → Answers f work out (Ok n) work' out'
      text-answers {out'} {n} a =
          let same : effects_of fresh 0 (reads (take (4 * k) work')) ≡ text f =
          ap (λ (l : List ℕ). effects_of fresh 0 (reads l)) (front_commands f work k commands (kept ∙ ap (λ (x : Result ℕ Refusal). written_by x f work) e)) in
          let size : n ≡ length (text f) = omega (arith, ap length same) in
          answers (rw (e, le-ltb _ _ enough) (ap Ok size)) (rw (e, le-ltb _ _ enough) (a.now ∙ ap (put out 0) same))
