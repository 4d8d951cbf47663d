-- The words beside each number that a program complains with: document 01, "Numbers returned", and document 02, P2, for 11.
-- No words have over 60 bytes: proofs/Lengths.
use Rattle.std.specs.Prelude.{ℕ, cond, List, eqb}
use Rattle.text.specs.Ascii.{ascii}

unfoldable pub words_of : ℕ → List ℕ
words_of number =
    cond (eqb number 1) (ascii "no such port in that direction")
    (cond (eqb number 2) (ascii "the ports are closed")
    (cond (eqb number 3) (ascii "a length of memory that is not allowed")
    (cond (eqb number 4) (ascii "a byte outside memory")
    (cond (eqb number 5) (ascii "a transfer number out of its range")
    (cond (eqb number 6) (ascii "a block breaks a layout or check rule")
    (cond (eqb number 7) (ascii "a step is none of the allowed")
    (cond (eqb number 8) (ascii "not 1 to 12 whole blocks, or not 1 to 1008 steps")
    (cond (eqb number 9) (ascii "too little room for the output")
    (cond (eqb number 10) (ascii "a command of no known form")
    (cond (eqb number 11) (ascii "a step can do nothing")
    (ascii "done")))))))))))
