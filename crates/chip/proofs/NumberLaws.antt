-- The numbers of port accesses. Document 01, "Numbers returned": each of 0, 1 and 2 is given exactly when the table says, closed
-- ports before anything else; and a refused access hands back the state as it was, a read with FFh.
use Rattle.std.proofs.Common.{◌≡◌, ℕ, Bool, true, false, cond, ◌↔◌, refl, ap, ◌∙◌, arith}
use Rattle.lists.proofs.Tests.{of_cond}
use Rattle.chip_registers.proofs.Stretches.{has}
use Rattle.chip_ports.specs.Ports.{ports, target, is_listed}
use Rattle.chip_ports.proofs.PortLaws.{listed_ports, listed_exactly, status_read-only}
use Rattle.chip_ports.specs.declared.Target.{Target}
use Rattle.chip_ports.specs.declared.Target.TheVariants.{Index, Data, ReadIndex, WriteIndex, Paldata, Attribute, Status, NotPicked, NotListed}
use Rattle.chip.specs.State.{Chip, named}
use Rattle.chip.specs.Names.{ports_open, picks3_dx}
use Rattle.chip.specs.Access.{Seen, Wrote, answer_number, access_table, write_to, read_from, port_written, port_read, untold, seen}
use Rattle.chip.proofs.AccessLaws.{write_closed, read_closed, write_open, read_open}
use Rattle.std.specs.Prelude.{Ok, Err}
use Rattle.chip.specs.declared.access.AccessError.TheVariants.{Unlisted, Closed}

-- the number by where a port leads; no write leads to the status
written-number : (t : Target) (c : Chip) (v : ℕ) → (t ≡ Status → ⊥) → answer_number (write_to t c v).answer ≡ cond (is_listed t) 0 1
written-number (Index g) c v other = refl
written-number (Data g) c v other = refl
written-number ReadIndex c v other = refl
written-number WriteIndex c v other = refl
written-number Paldata c v other = refl
written-number Attribute c v other = ap answer_number (of_cond (λ (w : Wrote). w.answer) c.indexes.turn _ _) ∙ same c.indexes.turn
  where
    same : (z : Bool) → answer_number (cond z (Ok tt) (Ok tt)) ≡ 0
    same true = refl
    same false = refl
written-number Status c v other = absurd (other refl)
written-number NotPicked c v other = refl
written-number NotListed c v other = refl

seen-number : (t : Target) (c : Chip) → answer_number (read_from t c).answer ≡ cond (is_listed t) 0 1
seen-number (Index g) c = refl
seen-number (Data g) c = refl
seen-number ReadIndex c = refl
seen-number WriteIndex c = refl
seen-number Paldata c = refl
seen-number Attribute c = refl
seen-number Status c = refl
seen-number NotPicked c = refl
seen-number NotListed c = refl

not_listed : (t : Target) → is_listed t ≡ false → t ≡ NotListed
not_listed (Index g) h = cc
not_listed (Data g) h = cc
not_listed ReadIndex h = cc
not_listed WriteIndex h = cc
not_listed Paldata h = cc
not_listed Attribute h = cc
not_listed Status h = cc
not_listed NotPicked h = cc
not_listed NotListed h = refl

-- the number that an answer has is the one that the definition gives
pub write_number : (c : Chip) (p v : ℕ) → answer_number (port_written c p v).answer ≡ access_table true c p
unfolding port_written access_table
write_number c p v = go (ports_open (named c))
  where
    t : Target
    t = target (picks3_dx (named c)) true p

    go : (z : Bool) → answer_number (cond z (write_to t c v) (untold (Err Closed) c)).answer ≡ cond z (cond (is_listed t) 0 1) 2
    go true = written-number t c v (status_read-only (picks3_dx (named c)) p)
    go false = refl

pub read_number : (c : Chip) (p : ℕ) → answer_number (port_read c p).answer ≡ access_table false c p
unfolding port_read access_table
read_number c p = go (ports_open (named c))
  where
    t : Target
    t = target (picks3_dx (named c)) false p

    go : (z : Bool) → answer_number (cond z (read_from t c) (seen (Err Closed) 0xFF c)).answer ≡ cond z (cond (is_listed t) 0 1) 2
    go true = seen-number t c
    go false = refl

-- what the contract of `read` says, from the one equation
pub read-answered : (c : Chip) (p : ℕ) {r : Seen} → r ≡ port_read c p → (r ≡ port_read c p) × (answer_number r.answer ≡ access_table false c p)
read-answered c p e = (e, ap (λ (s : Seen). answer_number s.answer) e ∙ read_number c p)

-- listed is what document 01's table lists (`documented` of `ports`), whichever pair is picked: the number by that list
pub number-listed : (write : Bool) (c : Chip) (p : ℕ) → access_table write c p ≡ cond (ports_open (named c)) (cond (has p (listed_ports write)) 0 1) 2
unfolding access_table
number-listed write c p =
    ap (λ (z : Bool). cond (ports_open (named c)) (cond z 0 1) 2)
    (listed_exactly (picks3_dx (named c)) write p)

-- each number exactly when: 2 if the ports are closed, 1 if they are open and the port or its direction is not listed, 0 if they
-- are open and it is
pub record Exact (write : Bool) (c : Chip) (p number : ℕ) : Type 0 where
  pub closed : number ≡ 2 ↔ ports_open (named c) ≡ false
  pub unlisted : number ≡ 1 ↔ (ports_open (named c) ≡ true) × (target (picks3_dx (named c)) write p ≡ NotListed)
  pub done : number ≡ 0 ↔ (ports_open (named c) ≡ true) × (target (picks3_dx (named c)) write p ≡ NotListed → ⊥)

differ : {A : Type 0} {z : Bool} → z ≡ true → z ≡ false → A
differ e f = let h : ◌≡◌ {A = ℕ} 0 1 = cc in absurd (omega arith)

pub number_exact : (write : Bool) (c : Chip) (p : ℕ) → Exact write c p (access_table write c p)
unfolding access_table
number_exact write c p = go (ports_open (named c)) refl (is_listed t) refl
  where
    t : Target
    t = target (picks3_dx (named c)) write p

    go : (z : Bool) → ports_open (named c) ≡ z → (y : Bool) → is_listed t ≡ y → Exact write c p (cond z (cond y 0 1) 2)
    go true e true f = record {
      closed = (λ h. absurd (omega arith), λ h. differ e h);
      unlisted = (λ h. absurd (omega arith), λ h. differ f (ap is_listed h.1));
      done = (λ h. (e, λ none. differ f (ap is_listed none)), λ h. refl);
    }
    go true e false f = record {
      closed = (λ h. absurd (omega arith), λ h. differ e h);
      unlisted = (λ h. (e, not_listed t f), λ h. refl);
      done = (λ h. absurd (omega arith), λ h. absurd (h.1 (not_listed t f)));
    }
    go false e y f = record {
      closed = (λ h. e, λ h. refl);
      unlisted = (λ h. absurd (omega arith), λ h. differ h.0 e);
      done = (λ h. absurd (omega arith), λ h. differ h.0 e);
    }

pub write_exact : (c : Chip) (p v : ℕ) → Exact true c p (answer_number (port_written c p v).answer)
write_exact c p v = rw (write_number c p v) (number_exact true c p)

pub read_exact : (c : Chip) (p : ℕ) → Exact false c p (answer_number (port_read c p).answer)
read_exact c p = rw (read_number c p) (number_exact false c p)

-- a refused access hands back the state as it was, and a refused read FFh
pub refused : (write : Bool) (c : Chip) (p : ℕ) (A : Type 0) → (access_table write c p ≡ 0 → ⊥)
    → (ports_open (named c) ≡ false → A) → (ports_open (named c) ≡ true → target (picks3_dx (named c)) write p ≡ NotListed → A) → A
unfolding access_table
refused write c p A no_zero shut unlisted = go (ports_open (named c)) refl (is_listed t) refl no_zero
  where
    t : Target
    t = target (picks3_dx (named c)) write p

    go : (z : Bool) → ports_open (named c) ≡ z → (y : Bool) → is_listed t ≡ y → (◌≡◌ {A = ℕ} (cond z (cond y 0 1) 2) 0 → ⊥) → A
    go true e true f h = absurd (h refl)
    go true e false f h = unlisted e (not_listed t f)
    go false e y f h = shut e

pub write_refused : (c : Chip) (p v : ℕ) → (answer_number (port_written c p v).answer ≡ 0 → ⊥) → (port_written c p v).chip ≡ c
write_refused c p v other =
    refused true c p _ (λ h. other (write_number c p v ∙ h)) (λ shut. rw (write_closed c p shut v) refl)
    (λ free unlisted. rw (write_open c p free v, unlisted) refl)

pub read-refused : (c : Chip) (p : ℕ) → (answer_number (port_read c p).answer ≡ 0 → ⊥) → ((port_read c p).value ≡ 0xFF) × ((port_read c p).chip ≡ c)
read-refused c p other =
    refused false c p _ (λ h. other (read_number c p ∙ h)) (λ shut. rw (read_closed c p shut) (refl, refl))
    (λ free unlisted. rw (read_open c p free, unlisted) (refl, refl))

-- MSR is written at 3C2h and read at 3CCh: the other direction of each is refused with 1
pub msr_one_way : (c : Chip) → ports_open (named c) ≡ true → (v : ℕ) → (port_read c 0x3C2 ≡ seen (Err Unlisted) 0xFF c) × (port_written c 0x3CC v ≡ untold (Err Unlisted) c)
unfolding target ports
msr_one_way c free v = (read_open c 0x3C2 free, write_open c 0x3CC free v)
