-- From what the code finds on its way to where a port leads, to what the definition of the access says; and from a state's
-- bytes to bytes of any length.
use Rattle.std.proofs.Common.{◌≡◌, ℕ, Bool, true, false, not, List, length, refl}
use Rattle.chip_ports.specs.Ports.{target}
use Rattle.chip_ports.specs.declared.Target.{Target}
use Rattle.chip.specs.State.{Chip, named}
use Rattle.chip.specs.Names.{ports_open, picks3_dx}
use Rattle.chip.specs.Access.{port_written, port_read, write_to, read_from}
use Rattle.chip.proofs.DifferLaws.{unmoved}
use Rattle.chip.proofs.Reached.{closed_write, closed_read, reached_write, reached-read}
use Rattle.lent_chip.specs.Layout.{whole, view, Holds}
use Rattle.lent_chip.specs.Accesses.{Left, WroteIn, ReadIn}
use Rattle.lent_chip.proofs.Holding.{as_it_is}
use Rattle.lent_chip.proofs.Words.{quiet_word}
use Rattle.std.specs.Prelude.{Err}
use Rattle.chip.specs.declared.access.AccessError.TheVariants.{Closed}

module _ {l : List ℕ} {o : Bool} (is : o ≡ ports_open (named (view l))) where
  module _ (size : length l ≡ whole) (shut : not o ≡ true) where
    pub write_closed : (p v : ℕ) → WroteIn l (port_written (view l) p v) l 0x0200FFFF
    write_closed p v = rw (← closed_write (view l) p is shut v) (record { holds = as_it_is size; answer = quiet_word (view l) (view l) (Err Closed) (unmoved (view l) (view l) refl) })

    pub read_closed : (p : ℕ) → ReadIn l (port_read (view l) p) l 0x2FF
    read_closed p = rw (← closed_read (view l) p is shut) (record { holds = as_it_is size; number = refl; value = refl })

  module _ (free : not o ≡ false) {b : Bool} (picks : b ≡ picks3_dx (named (view l))) {t : Target} {m : List ℕ} {r : ℕ} (p : ℕ) where
    pub write_reached : (v : ℕ) → t ≡ target b true p → WroteIn l (write_to t (view l) v) m r → WroteIn l (port_written (view l) p v) m r
    write_reached v leads h = rw (← reached_write (view l) p is free picks leads v) h

    pub read-reached : t ≡ target b false p → ReadIn l (read_from t (view l)) m r → ReadIn l (port_read (view l) p) m r
    read-reached leads h = rw (← reached-read (view l) p is free picks leads) h

-- bytes of any length
pub left-held : {l m : List ℕ} {c : Chip} {bits : ℕ} → length l ≡ whole → Holds m c bits → Left l c bits m
left-held n h = record { held = λ _. h; kept = λ f. absurd (f n) }

pub left-kept : {l : List ℕ} {c : Chip} {bits : ℕ} → (length l ≡ whole → ⊥) → Left l c bits l
left-kept f = record { held = λ n. absurd (f n); kept = λ _. refl }
