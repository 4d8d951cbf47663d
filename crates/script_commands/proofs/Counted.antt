-- The steps of an accepted file are as many as it says, and each has the six bytes at its place; so they are neither none nor
-- others (`steps_counted`, `steps_stand`). Where a step's commands begin: the sum of what the steps before it have
-- (`begins_sum`), and there they stand (`commands_there`); past the last step there are no more (`begins-past`).
use Prim.Native.Nat.{ℕ, zero, suc, ◌+◌, ◌≤◌, ◌<◌}
use native.Mathlib.Decide.{ℕ_discrete, dec_lt}
use native.Mathlib.Numerals.{add-one}
use native.Mathlib.Omega.{arith}
use mathlib.Core.Path.{◌≡◌, refl, sym, ap, ◌∙◌}
use mathlib.Core.List.{List, [], ◌∷◌, ◌++◌, append_assoc, append-nil}
use lib.ListN.{length, take, drop, length-append}
use Rattle.script_steps.specs.Step.{bytes_of}
use Rattle.script_steps.specs.declared.Step.{Step}
use Rattle.script.specs.File.{checked, step_place}
use Rattle.script.specs.Reader.{next_of}
use Rattle.script.specs.declared.Layout.TheVariants.{Blocks}
use Rattle.script.proofs.Reading.{accepted-handed, accepted_end}
use Rattle.script_commands.specs.Expansion.{expanded, commands_of}
use Rattle.script_commands.specs.Translation.{handed, steps_to, commands_to, begins}
use Rattle.script_commands.specs.declared.Command.{Command}
use Rattle.script_commands.proofs.Expanding.{commands_append, commands_next}
use Rattle.std.specs.Prelude.{Result, Option, Ok, Err, Some, None}
use Rattle.script.specs.declared.Refusal.{Refusal}

-- ---- the first n steps of an accepted file are n
pub steps_counted : (f : List ℕ) (m : ℕ) → checked f ≡ Ok m → (n : ℕ) → n ≤ m → length (steps_to f n) ≡ n
unfolding steps_to
steps_counted f m acc zero room = refl
steps_counted f m acc (suc n) room =
    let h = accepted-handed f m acc n (omega arith) in
    let before : length (steps_to f n) ≡ n = steps_counted f m acc n (omega arith) in
    rw h.answer (simp length-append (omega arith))

-- one step more
pub steps_next : (f : List ℕ) (j : ℕ) {s : Step} → next_of f j ≡ Ok (Some s) → steps_to f (j + 1) ≡ steps_to f j ++ (s ∷ [])
unfolding steps_to
steps_next f j is = rw add-one (ap (λ (r : Result (Option Step) Refusal). steps_to f j ++ handed r) is)

-- no step of it is refused, and where there is none it is past the last
module _ (f : List ℕ) (m : ℕ) (acc : checked f ≡ Ok m) (j : ℕ) where
  pub never_refused : {why : Refusal} → next_of f j ≡ Err why → ⊥
  never_refused {why} is = go (dec_lt j m)
    where
      go : Dec (j < m) → ⊥
      go (yes h) = let p = accepted-handed f m acc j h in let e : Err why ≡ Ok (Some p.step) = sym is ∙ p.answer in cc
      go (no h) = let e : Err why ≡ Ok None = sym is ∙ accepted_end f m acc j (omega arith) in cc

  pub past_last : next_of f j ≡ Ok None → m ≤ j
  past_last is = go (dec_lt j m)
    where
      go : Dec (j < m) → m ≤ j
      go (yes h) = let p = accepted-handed f m acc j h in absurd (let e : Ok None ≡ Ok (Some p.step) = sym is ∙ p.answer in cc)
      go (no h) = omega arith

-- ---- their bytes are those at the file's places
-- the bytes of steps, one behind the other
unfoldable pub sixes : List Step → List ℕ
sixes [] = []
sixes (s ∷ ss) = bytes_of s ++ sixes ss

-- the first n places of a file, one behind the other
unfoldable pub places_to : List ℕ → ℕ → List ℕ
places_to f zero = []
places_to f (suc n) = places_to f n ++ take 6 (drop (step_place Blocks n) f)

pub sixes-append : (ss ts : List Step) → sixes (ss ++ ts) ≡ sixes ss ++ sixes ts
unfolding sixes
sixes-append [] ts = refl
sixes-append (s ∷ ss) ts = ap (◌++◌ (bytes_of s)) (sixes-append ss ts) ∙ sym (append_assoc (bytes_of s) (sixes ss) _)

sixes-one : (s : Step) → sixes (s ∷ []) ≡ bytes_of s
unfolding sixes
sixes-one s = append-nil (bytes_of s)

sixes-none : sixes [] ≡ []
unfolding sixes
sixes-none = refl

pub steps_stand : (f : List ℕ) (m : ℕ) → checked f ≡ Ok m → (n : ℕ) → n ≤ m → sixes (steps_to f n) ≡ places_to f n
unfolding steps_to places_to
steps_stand f m acc zero room = sixes-none
steps_stand f m acc (suc n) room =
    let h = accepted-handed f m acc n (omega arith) in
    let before : sixes (steps_to f n) ≡ places_to f n = steps_stand f m acc n (omega arith) in
    rw h.answer
    (sixes-append (steps_to f n) _ ∙ ap (λ (l : List ℕ). l ++ sixes (h.step ∷ [])) before ∙ ap (◌++◌ (places_to f n)) (sixes-one h.step ∙ h.bytes))

-- ---- the first n steps are the beginning of the first m
pub steps_split : (f : List ℕ) (m n : ℕ) → n ≤ m → (rest : List Step) × (steps_to f m ≡ steps_to f n ++ rest)
unfolding steps_to
steps_split f zero n room = let z : n ≡ 0 = omega arith in ([], rw z refl)
steps_split f (suc m) n room = go (ℕ_discrete n (suc m)) (steps_split f m n)
  where
    go : Dec (n ≡ suc m) → (n ≤ m → (rest : List Step) × (steps_to f m ≡ steps_to f n ++ rest))
        → (rest : List Step) × (steps_to f m ++ handed (next_of f m) ≡ steps_to f n ++ rest)
    go (yes e) before = ([], rw e (sym (append-nil _)))
    go (no e) before =
        let (rest, split) = before (omega arith) in
        (rest ++ handed (next_of f m), ap (λ (l : List Step). l ++ handed (next_of f m)) split ∙ append_assoc (steps_to f n) rest _)

-- ---- where a step's commands begin
-- the commands of steps, counted step by step
unfoldable pub lengths : List Step → ℕ
lengths [] = 0
lengths (s ∷ ss) = length (expanded s) + lengths ss

length_commands : (ss : List Step) → length (commands_of ss) ≡ lengths ss
unfolding commands_of lengths
length_commands [] = refl
length_commands (s ∷ ss) = let h : length (commands_of ss) ≡ lengths ss = length_commands ss in simp length-append (omega arith)

pub begins_sum : (f : List ℕ) (n : ℕ) → begins f n ≡ lengths (steps_to f n)
begins_sum f n = length_commands (steps_to f n)

-- there they stand: those of the steps before it, its own, and the others
pub commands_there : (f : List ℕ) (m n : ℕ) (s : Step) → n < m → next_of f n ≡ Ok (Some s)
    → (rest : List Command) × (commands_to f m ≡ commands_to f n ++ (expanded s ++ rest))
commands_there f m n s room is =
    let (rest, split) = steps_split f m (suc n) (omega arith) in (
      commands_of rest,
      ap commands_of split ∙ commands_append (steps_to f (suc n)) rest ∙ ap (λ (cs : List Command). cs ++ commands_of rest) (commands_next f n s is)
          ∙ append_assoc (commands_to f n) (expanded s) (commands_of rest),
    )

-- past the last step there are no more
pub steps_past : (f : List ℕ) (m : ℕ) → checked f ≡ Ok m → (j n : ℕ) → m ≤ j → j ≤ n → steps_to f n ≡ steps_to f j
unfolding steps_to
steps_past f m acc j zero past room = let z : j ≡ 0 = omega arith in rw z refl
steps_past f m acc j (suc n) past room = go (ℕ_discrete j (suc n)) (steps_past f m acc j n past)
  where
    go : Dec (j ≡ suc n) → (j ≤ n → steps_to f n ≡ steps_to f j) → steps_to f n ++ handed (next_of f n) ≡ steps_to f j
    go (yes e) before = rw e refl
    go (no e) before =
        let h : m ≤ n = omega arith in
        ap (λ (x : Result (Option Step) Refusal). steps_to f n ++ handed x) (accepted_end f m acc n h) ∙ append-nil (steps_to f n) ∙ before (omega arith)

pub begins-past : (f : List ℕ) (m : ℕ) → checked f ≡ Ok m → (j n : ℕ) → m ≤ j → j ≤ n → begins f n ≡ begins f j
begins-past f m acc j n past room = ap (λ (ss : List Step). length (commands_of ss)) (steps_past f m acc j n past room)
