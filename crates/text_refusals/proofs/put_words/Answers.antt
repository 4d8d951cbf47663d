-- The words that the match gives are the number's, and there is room for them.
use mathlib.Core.Path.{◌≡◌, refl, ap}
use native.Mathlib.Omega.{arith}
use lib.ListN.{length}
use borrow.Author.Tests.{ne_eqb}
use Rattle.text_refusals.specs.Words.{words_of}
use Rattle.text_refusals.proofs.Lengths.{words_most}
use Rattle.text_refusals.proofs.put_words.Goals.{in-1, in-2, in-3, in-4, in-5, in-6, in-7, in-8, in-9, in-10, in-11, in_default}
use Rattle.text_refusals.proofs.put_words.Goals as goal

pub returns : goal.returns
unfolding words_of
returns c =
    let n = c.args.n in
    let is : words_of n ≡ c.match-n.words.now = elim c.match-n.branch [
      | in-1 w ↦ rw (w.in-1.is, w.words-is) refl
      | in-2 w ↦ rw (w.in-2.is, w.words-is) refl
      | in-3 w ↦ rw (w.in-3.is, w.words-is) refl
      | in-4 w ↦ rw (w.in-4.is, w.words-is) refl
      | in-5 w ↦ rw (w.in-5.is, w.words-is) refl
      | in-6 w ↦ rw (w.in-6.is, w.words-is) refl
      | in-7 w ↦ rw (w.in-7.is, w.words-is) refl
      | in-8 w ↦ rw (w.in-8.is, w.words-is) refl
      | in-9 w ↦ rw (w.in-9.is, w.words-is) refl
      | in-10 w ↦ rw (w.in-10.is, w.words-is) refl
      | in-11 w ↦ rw (w.in-11.is, w.words-is) refl
      | in_default w ↦
          let (((((((((((_, k1), k2), k3), k4), k5), k6), k7), k8), k9), k10), k11) = w.in_default.in_default-own.rest in
          rw (
            ne_eqb _ _ k1,
            ne_eqb _ _ k2,
            ne_eqb _ _ k3,
            ne_eqb _ _ k4,
            ne_eqb _ _ k5,
            ne_eqb _ _ k6,
            ne_eqb _ _ k7,
            ne_eqb _ _ k8,
            ne_eqb _ _ k9,
            ne_eqb _ _ k10,
            ne_eqb _ _ k11,
            w.words-is,
          ) refl
    ] in
    rw is (c.add.ensures.here (omega (arith, words_most n, ap length is)))
