-- A length that is not allowed or more than there is, and the first bytes cleared.
use mathlib.Core.Bool.{false}
use mathlib.Core.Path.{◌≡◌, sym, ◌∙◌}
use lib.ListN.{length}
use borrow.Author.Tests.{le-leb, lt-leb}
use Rattle.workbench_input.specs.Acts.{after_lend, lent_from, lendable}
use Rattle.workbench_input.proofs.lend.Goals as goal
use Rattle.workbench_input.proofs.lend.Goals.{then-not-length_allowed-via-then-not-length_allowed, then-not-length_allowed-via-else-not-length_allowed+then-store-n}

-- the two ways in which nothing is lent
refused : (c : goal.Joined-then-not-length_allowed) → lendable c.args.n (length c.args.store.now) ≡ false
refused c = elim c.then-not-length_allowed.branch [
  | then-not-length_allowed-via-then-not-length_allowed w ↦ rw (sym c.length_allowed.ensures ∙ w.if-not-length_allowed.true)
  | then-not-length_allowed-via-else-not-length_allowed+then-store-n w ↦
      rw (sym c.length_allowed.ensures ∙ w.if-not-length_allowed.false, lt-leb _ _ w.if-store-n.true)
]

pub returns-then-not-length_allowed-clause-result_value : goal.returns-then-not-length_allowed-clause-result_value
unfolding after_lend lent_from
returns-then-not-length_allowed-clause-result_value c = rw (refused c)

pub returns-then-not-length_allowed-clause-store_after : goal.returns-then-not-length_allowed-clause-store_after
unfolding after_lend lent_from
returns-then-not-length_allowed-clause-store_after c = rw (refused c)

pub returns-clause-result_value : goal.returns-clause-result_value
unfolding after_lend lent_from
returns-clause-result_value c =
    let l = sym c.length_allowed.ensures ∙ c.if-not-length_allowed.false in
    let m = le-leb _ _ c.if-store-n.false in
    rw (l, m)

pub returns-clause-store_after : goal.returns-clause-store_after
unfolding after_lend lent_from
returns-clause-store_after c =
    let l = sym c.length_allowed.ensures ∙ c.if-not-length_allowed.false in
    let m = le-leb _ _ c.if-store-n.false in
    rw (l, m) c.clear.ensures
