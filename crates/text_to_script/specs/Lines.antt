-- The lines of a text: what stands before each line feed, and what stands behind the last one if it is not empty. A text may
-- begin with the mark of UTF-8, which some editors put there: it is no part of the first line.
use Rattle.std.specs.Prelude.{ℕ, cond, ◌&&◌, List, [], ◌∷◌, ◌++◌, eqb, get_or, drop}

-- the last line, if it is not empty
abbrev pub last_line : List ℕ → List (List ℕ)
last_line [] = []
last_line (b ∷ bs) = (b ∷ bs) ∷ []

-- with a line that has been begun; a line feed is 0Ah
unfoldable pub lines_from : List ℕ → List ℕ → List (List ℕ)
lines_from begun [] = last_line begun
lines_from begun (c ∷ cs) = cond (eqb c 0x0A) (begun ∷ lines_from [] cs) (lines_from (begun ++ (c ∷ [])) cs)

abbrev pub lines_of : List ℕ → List (List ℕ)
lines_of text = lines_from [] text

-- the mark, and how many bytes of it a text begins with: all three or none
abbrev pub mark : List ℕ
mark = 0xEF ∷ 0xBB ∷ 0xBF ∷ []

unfoldable pub mark_size : List ℕ → ℕ
mark_size text = cond (eqb (get_or text 0 0) 0xEF && eqb (get_or text 1 0) 0xBB && eqb (get_or text 2 0) 0xBF) 3 0

-- the lines behind the mark
abbrev pub text_lines : List ℕ → List (List ℕ)
text_lines text = lines_of (drop (mark_size text) text)
