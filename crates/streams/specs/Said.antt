-- What a program says on standard error where its input cannot be read.
use Rattle.std.specs.Prelude.{ℕ, List, ◌++◌, codes}

-- .. by its name
abbrev pub unread : List ℕ → List ℕ
unread name = name ++ codes ": cannot read standard input\n"
