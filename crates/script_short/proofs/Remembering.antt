-- The translation's loop: what it keeps in mind is what the plain list has sent so far (`Remembers`), so each step is put as the
-- short list has it, behind those before it.
use Prim.Native.Nat.{ℕ, ◌≤◌, ◌<◌}
use native.Mathlib.Omega.{arith}
use native.Mathlib.Decide.{dec_lt}
use mathlib.Core.Bool.{Bool}
use mathlib.Core.Logic.{◌⊎◌, inl, inr}
use mathlib.Core.Path.{◌≡◌, refl, sym, ap, ◌∙◌}
use mathlib.Core.List.{List, [], ◌∷◌, ◌++◌}
use lib.Dec.{eqb}
use lib.ListN.{length, get_or, length-set}
use Rattle.std.proofs.lemmas.List.{get_or-replicate}
use lib.Seq.{get_or-set_same, get_or-set_other}
use Rattle.script_steps.specs.declared.Step.{Step}
use Rattle.script_steps.specs.declared.Step.TheVariants.{Set, Field, Colour}
use Rattle.script_commands.specs.Expansion.{ways, expanded, commands_of}
use Rattle.script_commands.specs.Known.{expanded_known}
use Rattle.script_commands.specs.declared.Command.{Command}
use Rattle.script_short.specs.Short.{shortened}
use Rattle.script_short.specs.Memory.{index_in, is_last, minded, nothing, knows, behind, kept_of}
use Rattle.script_short.proofs.ShortLaws.{past, past-append, short_next}
use Rattle.script_short.proofs.Recalling.{Recalled, RecalledFor, OfGroup, is_group, ways-none, short_step, sent-own, recalled_other, recalled-none}
use Rattle.std.specs.Prelude.{Option, Some, None}

-- what is kept in mind is what each group's index ports were last sent
pub record Remembers (last : List (Option ℕ)) (before : List Command) : Type 0 where
  pub size : length last ≡ 9
  pub says : (g j : ℕ) → g < 9 → Recalled (ways g) (is_last last g j) j before

-- ---- nothing yet
pub remembers_start : Remembers nothing []
remembers_start = record {
  size = refl;
  says = λ g j low. let e : get_or nothing g None ≡ None = get_or-replicate 9 g None None low in rw e (recalled-none (ways g) j);
}

-- ---- a step more
module _ (last : List (Option ℕ)) (before : List Command) (h : Remembers last before) where
  -- a group's index sent
  sent_here : (g i j : ℕ) → g < 9 → is_last (minded last g i) g j ≡ eqb j i
  sent_here g i j low = let room : g < length last = omega (arith, h.size) in rw (get_or-set_same last g (Some i) None room)

  says_next : (s : Step) (g j : ℕ) → g < 9 → Recalled (ways g) (is_last (behind last s) g j) j (past before (expanded s))
  says_next s g j low = go (is_group s g)
    where
      own : (t : Step) → OfGroup t g → is_last (behind last t) g j ≡ eqb j (index_in t)
      own (Set k i v) is = rw is (sent_here g i j low)
      own (Field k i v m) is = rw is (sent_here g i j low)
      own (Colour e r c b) is = absurd is

      other : (t : Step) → (OfGroup t g → ⊥) → get_or (behind last t) g None ≡ get_or last g None
      other (Set k i v) no_g = get_or-set_other last k g (Some i) None (λ e. no_g (sym e))
      other (Field k i v m) no_g = get_or-set_other last k g (Some i) None (λ e. no_g (sym e))
      other (Colour e r c b) no_g = refl

      go : Dec (OfGroup s g) → Recalled (ways g) (is_last (behind last s) g j) j (past before (expanded s))
      go (yes is) = rw (own s is) (sent-own s g j before is)
      go (no no_g) = rw (other s no_g) (recalled_other s g _ j before no_g (h.says g j low))

  size_next : (s : Step) → length (behind last s) ≡ 9
  size_next (Set k i v) = length-set last k (Some i) ∙ h.size
  size_next (Field k i v m) = length-set last k (Some i) ∙ h.size
  size_next (Colour e r c b) = h.size

  pub remembers_next : (s : Step) → Remembers (behind last s) (past before (expanded s))
  remembers_next s = record { size = size_next s; says = says_next s }

  known_by_group : (g i : ℕ) → Dec (g < 9) → Recalled (ways g) (is_last last g i) i before
  known_by_group g i (yes low) = h.says g i low
  known_by_group g i (no high) = let k : 9 ≤ g = omega arith in rw (ways-none g k) tt

  pub known_step : (s : Step) → RecalledFor s (knows last s) before
  known_step (Set g i v) = known_by_group g i (dec_lt g 9)
  known_step (Field g i v m) = known_by_group g i (dec_lt g 9)
  known_step (Colour e r c b) = tt

-- ---- all steps
pub kept_next : (last : List (Option ℕ)) (ss : List Step) (s : Step) → kept_of last (ss ++ (s ∷ [])) ≡ behind (kept_of last ss) s
unfolding kept_of
kept_next last [] s = refl
kept_next last (t ∷ ss) s = kept_next (behind last t) ss s

remembers : (last : List (Option ℕ)) (before : List Command) → Remembers last before → (ss : List Step) → Remembers (kept_of last ss) (past before (commands_of ss))
unfolding kept_of commands_of past
remembers last before h [] = h
remembers last before h (s ∷ ss) =
    rw (past-append before (expanded s) (commands_of ss)) (remembers (behind last s) (past before (expanded s)) (remembers_next last before h s) ss)

-- .. and the short commands of one more
pub short_more : (ss : List Step) (s : Step)
    → shortened [] (commands_of (ss ++ (s ∷ []))) ≡ shortened [] (commands_of ss) ++ expanded_known (knows (kept_of nothing ss) s) s
short_more ss s =
    let before : List Command = past [] (commands_of ss) in
    let h = remembers nothing [] remembers_start ss in
    short_next ss s ∙ ap (◌++◌ (shortened [] (commands_of ss))) (short_step s (knows (kept_of nothing ss) s) before (known_step (kept_of nothing ss) before h s))

-- what `knows` promises, of a list that is kept in mind
pub short_kept : {last : List (Option ℕ)} {known : Bool} (ss : List Step) (s : Step) → last ≡ kept_of nothing ss → known ≡ knows last s
    → shortened [] (commands_of (ss ++ (s ∷ []))) ≡ shortened [] (commands_of ss) ++ expanded_known known s
short_kept ss s kept says = rw (says, kept) (short_more ss s)

pub kept_more : {last after : List (Option ℕ)} (ss : List Step) (s : Step) → last ≡ kept_of nothing ss → after ≡ behind last s
    → after ≡ kept_of nothing (ss ++ (s ∷ []))
kept_more ss s kept more = more ∙ ap (λ l. behind l s) kept ∙ sym (kept_next nothing ss s)

-- a step with an index is known, and kept in mind, by its group and index
pub by_index : {s : Step} {g i : ℕ} (last : List (Option ℕ)) → ((v : ℕ) × (s ≡ Set g i v)) ⊎ ((v : ℕ) × (m : ℕ) × (s ≡ Field g i v m))
    → (knows last s ≡ is_last last g i) × (behind last s ≡ minded last g i)
by_index last (inl (v, is)) = rw is (refl, refl)
by_index last (inr (v, m, is)) = rw is (refl, refl)
