-- What a list of commands does to everything that has a name, whatever the loading state and the accumulator are, and how many of
-- the commands change a register or a colour. The relation has a condition on the indexes before and after, so that a list may
-- count on an index that an earlier one left; it composes by append. Under it, one law for each kind of command.
use Prim.Native.Nat.{ℕ, ◌+◌}
use native.Mathlib.Nat.{zero-add, add-zero}
use mathlib.Core.Bool.{Bool, true, false, not, cond}
use mathlib.Core.Path.{◌≡◌, refl, ◌∙◌, ap}
use mathlib.Core.List.{List, [], ◌∷◌, ◌++◌}
use lib.Bits.{bit_and, bit_or}
use Rattle.chip_registers.specs.declared.Group.{Group}
use Rattle.chip_ports.specs.Ports.{target}
use Rattle.chip_ports.specs.declared.Target.TheVariants.{Index, Data, NotPicked}
use Rattle.chip.specs.State.{Chip, Named, named, join, index_of, with_index}
use Rattle.chip.specs.Names.{read_byte, received, ports_open, picks3_dx}
use Rattle.chip.specs.Access.{port_written, port_read}
use Rattle.chip.specs.Differ.{same_stored, differ}
use Rattle.chip.proofs.DifferLaws.{unmoved}
use Rattle.chip.specs.declared.Indexes.{Indexes}
use Rattle.chip.specs.declared.Loading.{Loading}
use Rattle.script_commands.specs.declared.Command.{Command}
use Rattle.script_commands.specs.declared.Command.TheVariants.{Out, In, Merge, OutAcc}
use Rattle.chip_run.specs.Run.{did, one, done, carry, altering}
use Rattle.chip_run.proofs.RunLaws.{carry-append, knowns}
use Rattle.chip_run.proofs.ChangingLaws.{altering-append}
use Rattle.std.specs.Prelude.{Ok, Some}

-- commands that are all carried out leave a state and an accumulator, and k of them change a register or a colour
pub record Goes (c : Chip) (a : ℕ) (cs : List Command) (d : Chip) (b k : ℕ) : Type 0 where
  pub ends : carry c a (knowns cs) ≡ did (Ok tt) b d
  pub alters : altering c a (knowns cs) ≡ k

-- one change where a register or a colour differs, else none
abbrev pub once : Named → Named → ℕ
once n m = cond (same_stored n m) 0 1

-- ---- one command at the head of a list: it leaves what has a name, or it is the last and changes it at most once
pub ended : {c : Chip} {a : ℕ} → Goes c a [] c a 0
unfolding carry altering
ended = record { ends = refl; alters = refl }

pub quietly : {c d e : Chip} {a b z k : ℕ} {x : Command} {cs : List Command} → one c a (Some x) ≡ did (Ok tt) b d → named d ≡ named c
    → Goes d b cs e z k → Goes c a (x ∷ cs) e z k
unfolding carry altering
quietly {c} {d} {e} {a} {b} {z} {k} {x} {cs} is same t = record {
  ends = rw is t.ends;
  alters = rw (is, unmoved c d same, zero-add) t.alters;
}

differ-once : (b : Bool) → ◌≡◌ {A = ℕ} (cond (not b) 1 0 + 0) (cond b 0 1)
differ-once true = refl
differ-once false = refl

pub lastly : {c d : Chip} {a b : ℕ} {x : Command} → one c a (Some x) ≡ did (Ok tt) b d → Goes c a (x ∷ []) d b (once (named c) (named d))
unfolding carry altering differ
lastly {c} {d} is = record { ends = rw is refl; alters = rw is (differ-once (same_stored (named c) (named d))) }

-- from named state n, at any indexes of which P holds, any loading state and any accumulator, the commands are all carried out
-- and leave named state m, at indexes of which Q holds; k of them change a register or a colour
pub record Sends (P : Indexes → Type 0) (n : Named) (cs : List Command) (m : Named) (Q : Indexes → Type 0) (k : ℕ) : Type 0 where
  pub runs : (x : Indexes) (l : Loading) (a : ℕ) → P x
      → (x' : Indexes) × (l' : Loading) × (a' : ℕ) × Goes (join n x l) a cs (join m x' l') a' k × Q x'

-- these indexes and no others
abbrev pub Is : Indexes → Indexes → Type 0
Is y x = x ≡ y

-- the group's index is i
abbrev pub At : Group → ℕ → Indexes → Type 0
At g i x = index_of g x ≡ i

pub knowns-append : (xs ys : List Command) → knowns (xs ++ ys) ≡ knowns xs ++ knowns ys
knowns-append [] ys = refl
knowns-append (x ∷ xs) ys = ap (◌∷◌ (Some x)) (knowns-append xs ys)

-- of two lists one after the other the changes add up
goes_append : {c d e : Chip} {a b z k j : ℕ} {cs ds : List Command} → Goes c a cs d b k → Goes d b ds e z j → Goes c a (cs ++ ds) e z (k + j)
goes_append {c} {d} {e} {a} {b} {z} {k} {j} {cs} {ds} s t = record {
  ends = ap (carry c a) (knowns-append cs ds) ∙ carry-append (knowns cs) (knowns ds) c d a b s.ends ∙ t.ends;
  alters = ap (altering c a) (knowns-append cs ds) ∙ altering-append (knowns cs) (knowns ds) c d a b s.ends ∙ rw (s.alters, t.alters) refl;
}

pub sends_append : {P Q R : Indexes → Type 0} {n m o : Named} {cs ds : List Command} {k j : ℕ}
    → Sends P n cs m Q k → Sends Q m ds o R j → Sends P n (cs ++ ds) o R (k + j)
sends_append s t = record {
  runs = λ x l a p.
      let (x', l', a', h, q) = s.runs x l a p in
      let (x'', l'', a'', h', r) = t.runs x' l' a' q in
      (x'', l'', a'', goes_append h h', r);
}

-- behind commands that change nothing, and before such
pub sends_after : {P Q R : Indexes → Type 0} {n m o : Named} {cs ds : List Command} {k : ℕ}
    → Sends P n cs m Q 0 → Sends Q m ds o R k → Sends P n (cs ++ ds) o R k
sends_after {P} {Q} {R} {n} {m} {o} {cs} {ds} {k} s t = rw (zero-add k) at (sends_append s t)

pub sends_before : {P Q R : Indexes → Type 0} {n m o : Named} {cs ds : List Command} {k : ℕ}
    → Sends P n cs m Q k → Sends Q m ds o R 0 → Sends P n (cs ++ ds) o R k
sends_before {P} {Q} {R} {n} {m} {o} {cs} {ds} {k} s t = rw (add-zero k) at (sends_append s t)

pub sends_none : {P : Indexes → Type 0} (n : Named) → Sends P n [] n P 0
sends_none n = record { runs = λ x l a p. (x, l, a, ended, p) }

-- ---- what each kind of command does
module _ (n : Named) (x : Indexes) (l : Loading) (a : ℕ) (free : ports_open n ≡ true) (b : Bool) (picks : picks3_dx n ≡ b) (p : ℕ) where
  pub select : (g : Group) (i : ℕ) → target b true p ≡ Index g → one (join n x l) a (Some (Out p i)) ≡ did (Ok tt) a (join n (with_index g x i) l)
  unfolding one done port_written
  select g i h = rw (free, picks, h)

  store : (g : Group) (i v : ℕ) → index_of g x ≡ i → target b true p ≡ Data g
      → one (join n x l) a (Some (Out p v)) ≡ did (Ok tt) a (join (received g n i v) x l)
  unfolding one done port_written
  store g i v e h = rw (free, picks, h, e)

  store_acc : (g : Group) (i : ℕ) → index_of g x ≡ i → target b true p ≡ Data g
      → one (join n x l) a (Some (OutAcc p)) ≡ did (Ok tt) a (join (received g n i a) x l)
  unfolding one done port_written
  store_acc g i e h = rw (free, picks, h, e)

  pub fetch : (g : Group) (i : ℕ) → index_of g x ≡ i → target b false p ≡ Data g
      → one (join n x l) a (Some (In p)) ≡ did (Ok tt) (read_byte g n i) (join n x l)
  unfolding one done port_read
  fetch g i e h = rw (free, picks, h, e)

  pub idle : (v : ℕ) → target b true p ≡ NotPicked → one (join n x l) a (Some (Out p v)) ≡ did (Ok tt) a (join n x l)
  unfolding one done port_written
  idle v h = rw (free, picks, h)

  idle_acc : target b true p ≡ NotPicked → one (join n x l) a (Some (OutAcc p)) ≡ did (Ok tt) a (join n x l)
  unfolding one done port_written
  idle_acc h = rw (free, picks, h)

  pub idle_in : target b false p ≡ NotPicked → one (join n x l) a (Some (In p)) ≡ did (Ok tt) 0xFF (join n x l)
  unfolding one done port_read
  idle_in h = rw (free, picks, h)

pub merged : (c : Chip) (a k s : ℕ) → one c a (Some (Merge k s)) ≡ did (Ok tt) (bit_or (bit_and a k) s) c
unfolding one done
merged c a k s = refl

-- ---- what ports do in the relation
module _ {P : Indexes → Type 0} (n : Named) (free : ports_open n ≡ true) (b : Bool) (picks : picks3_dx n ≡ b) (g : Group) (i : ℕ) where
  -- an index port that leads to the group
  pub selects : {Q : Indexes → Type 0} → ((x : Indexes) → P x → Q (with_index g x i)) → (p : ℕ) → target b true p ≡ Index g → Sends P n (Out p i ∷ []) n Q 0
  selects f p hp = record { runs = λ x l a h. (with_index g x i, l, a, quietly (select n x l a free b picks p g i hp) refl ended, f x h) }

  -- data ports that lead to the group, where its index is i
  module _ (at : (x : Indexes) → P x → At g i x) where
    pub stores : (w v : ℕ) → target b true w ≡ Data g → Sends P n (Out w v ∷ []) (received g n i v) P (once n (received g n i v))
    stores w v hw = record { runs = λ x l a h. (x, l, a, lastly (store n x l a free b picks w g i v (at x h) hw), h) }

    pub changes : (w r k s : ℕ) → target b true w ≡ Data g → target b false r ≡ Data g
        → (let m = received g n i (bit_or (bit_and (read_byte g n i) k) s) in Sends P n (In r ∷ Merge k s ∷ OutAcc w ∷ []) m P (once n m))
    changes w r k s hw hr = record {
      runs = λ x l a h. (
        x,
        l,
        _,
        quietly (fetch n x l a free b picks r g i (at x h) hr) refl
            (quietly (merged (join n x l) _ k s) refl (lastly (store_acc n x l _ free b picks w g i (at x h) hw))),
        h,
      );
    }

-- ports of the pair that is not picked
module _ {P : Indexes → Type 0} (n : Named) (free : ports_open n ≡ true) (b : Bool) (picks : picks3_dx n ≡ b) (p : ℕ) (hp : target b true p ≡ NotPicked) where
  pub passes : (v : ℕ) → Sends P n (Out p v ∷ []) n P 0
  passes v = record { runs = λ x l a h. (x, l, a, quietly (idle n x l a free b picks p v hp) refl ended, h) }

  pub skips : (k s : ℕ) → target b false p ≡ NotPicked → Sends P n (In p ∷ Merge k s ∷ OutAcc p ∷ []) n P 0
  skips k s hr = record {
    runs = λ x l a h. (
      x,
      l,
      _,
      quietly (idle_in n x l a free b picks p hr) refl
          (quietly (merged (join n x l) _ k s) refl (quietly (idle_acc n x l _ free b picks p hp) refl ended)),
      h,
    );
  }
