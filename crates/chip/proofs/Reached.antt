-- A port access, once it is known whether the ports are open and where the port leads: what the proofs of `read` and `write`
-- cite.
use Rattle.std.proofs.Common.{◌≡◌, ℕ, Bool, true, false, not}
use borrow.Author.Tests.{not-true, not-false}
use Rattle.chip_ports.specs.Ports.{target}
use Rattle.chip_ports.specs.declared.Target.{Target}
use Rattle.chip.specs.State.{Chip, named}
use Rattle.chip.specs.Names.{ports_open, picks3_dx}
use Rattle.chip.specs.Access.{port_written, port_read, write_to, read_from, untold, seen}
use Rattle.std.specs.Prelude.{Err}
use Rattle.chip.specs.declared.access.AccessError.TheVariants.{Closed}

module _ (c : Chip) (p : ℕ) {answers : Bool} (is : answers ≡ ports_open (named c)) where
  module _ (shut : not answers ≡ true) where
    pub closed_write : (v : ℕ) → untold (Err Closed) c ≡ port_written c p v
    unfolding port_written
    closed_write v = rw (← is, not-true answers shut)

    pub closed_read : seen (Err Closed) 0xFF c ≡ port_read c p
    unfolding port_read
    closed_read = rw (← is, not-true answers shut)

  module _ (free : not answers ≡ false) {b : Bool} (picks : b ≡ picks3_dx (named c)) {t : Target} where
    pub reached_write : t ≡ target b true p → (v : ℕ) → write_to t c v ≡ port_written c p v
    unfolding port_written
    reached_write leads v = rw (← is, not-false answers free, ← picks, ← leads)

    pub reached-read : t ≡ target b false p → read_from t c ≡ port_read c p
    unfolding port_read
    reached-read leads = rw (← is, not-false answers free, ← picks, ← leads)
