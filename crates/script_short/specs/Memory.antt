-- For the contracts of private functions alone: nothing here has to be believed. What the translation keeps in mind between two
-- steps: for each group, by its number, the index that its ports were last sent, if they were sent one. The two ports of CR are
-- always sent the same, so one index serves both. A COLOUR has no group, and a group above 8 no ports.
use Rattle.std.specs.Prelude.{ℕ, Bool, false, List, [], ◌∷◌, eqb, slice_index_or, set, replicate, Option, Some, None}
use Rattle.script_steps.specs.declared.Step.{Step}
use Rattle.script_steps.specs.declared.Step.TheVariants.{Set, Field, Colour}

-- the index of a step
abbrev pub index_in : Step → ℕ
index_in (Set group index value) = index
index_in (Field group index value mask) = index
index_in (Colour entry red green blue) = 0

-- whether an index is the one that was last sent
abbrev pub is_index : Option ℕ → ℕ → Bool
is_index (Some j) i = eqb i j
is_index None i = false

-- whether a group's ports were last sent an index, and what is kept in mind behind it
abbrev pub is_last : List (Option ℕ) → ℕ → ℕ → Bool
is_last last group i = is_index (slice_index_or last group None) i

abbrev pub minded : List (Option ℕ) → ℕ → ℕ → List (Option ℕ)
minded last group i = set last group (Some i)

-- .. before the first step
abbrev pub nothing : List (Option ℕ)
nothing = replicate 9 None

-- whether a step's index is known to stand, and what is kept in mind behind the step
abbrev pub knows : List (Option ℕ) → Step → Bool
knows last (Set group index value) = is_last last group index
knows last (Field group index value mask) = is_last last group index
knows last (Colour entry red green blue) = false

abbrev pub behind : List (Option ℕ) → Step → List (Option ℕ)
behind last (Set group index value) = minded last group index
behind last (Field group index value mask) = minded last group index
behind last (Colour entry red green blue) = last

-- .. and behind steps
unfoldable pub kept_of : List (Option ℕ) → List Step → List (Option ℕ)
kept_of last [] = last
kept_of last (s ∷ ss) = kept_of (behind last s) ss
