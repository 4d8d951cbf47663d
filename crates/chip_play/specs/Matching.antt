-- Document 02, P7, to read: "Every access, run and script must give exactly what the old arrangement gave, from matching states
-- to matching states." The old arrangement, with a table of 256 for each group, is the state of the definitions (`Chip`); what
-- is kept has the listed registers alone (`Kept`, the code's struct); the two match when the one shows the other (`Shows`,
-- specs/View of crate `chip`). An act is whatever a host can ask of a chip. What the contracts say of an act on what is kept is
-- `KeptGave`: the struct's row has its 275 bytes, and what is shown and said is what the definitions give from what was shown.
-- The theorem is `smaller_state`, in proofs/Matching. It looks at no group: one argument for all, AR's included.
use Rattle.std.specs.Prelude.{ℕ, Bool, ◌≡◌, List, [], ◌∷◌, length, Result}
use Rattle.chip_registers.specs.Row.{row_size}
use Rattle.chip.specs.State.{Chip}
use Rattle.chip.specs.Access.{port_written, port_read}
use Rattle.chip.specs.Differ.{differ}
use Rattle.chip.specs.Reset.{reset}
use Rattle.chip.specs.Reach.{Reach}
use Rattle.chip.specs.View.{view, Shows}
use Rattle.chip.specs.declared.Chip.{Chip as Kept}
use Rattle.chip_run.specs.Run.{ran}
use Rattle.chip_run.specs.declared.Ending.{Ending}
use Rattle.chip_play.specs.Played.{played}
use Rattle.chip.specs.declared.access.AccessError.{AccessError}
use Rattle.chip_run.specs.declared.Tally.{Tally}
use Rattle.script.specs.declared.Refusal.{Refusal}

-- what a host can ask: a reset with two pin bytes, a port write and read, a run of command bytes up to a limit, and a script file
-- played with so many bytes lent for its commands
pub data Act : Type 0 where
  Reset : ℕ → ℕ → Act
  Write : ℕ → ℕ → Act
  Read : ℕ → Act
  Run : List ℕ → ℕ → Act
  Play : List ℕ → ℕ → Act

-- what it is told, the state apart
pub data Said : Type 0 where
  Nothing : Said
  Wrote : Result (Unit {0}) AccessError → ℕ → ℕ → Bool → Said
  Saw : Result (Unit {0}) AccessError → ℕ → Said
  Ran : ℕ → ℕ → Ending → Said
  Became : Result Tally Refusal → Said

-- what the old arrangement gives
pub record Gave : Type 0 where
  pub said : Said
  pub chip : Chip

abbrev pub gives : Said → Chip → Gave
gives s c = record { said = s; chip = c }

unfoldable pub gave : Act → Chip → Gave
gave (Reset first second) c = gives Nothing (reset first second)
gave (Write p v) c = gives (Wrote (port_written c p v).answer (port_written c p v).before (port_written c p v).after (differ c (port_written c p v).chip)) (port_written c p v).chip
gave (Read p) c = gives (Saw (port_read c p).answer (port_read c p).value) (port_read c p).chip
gave (Run bytes limit) c = gives (Ran (ran c bytes limit).count (ran c bytes limit).changing (ran c bytes limit).ending) (ran c bytes limit).chip
gave (Play file room) c = gives (Became (played c file room).outcome) (played c file room).chip

-- an act on what is kept, by its contract: from k, s is said and m is kept
pub record KeptGave (k : Kept) (a : Act) (s : Said) (m : Kept) : Type 0 where
  pub size : length m.row ≡ row_size
  pub shown : gives s (view m) ≡ gave a (view k)

-- one act after another
pub data KeptAll : Kept → List Act → List Said → Kept → Type 0 where
  none : {k : Kept} → KeptAll k [] [] k
  next : {k m n : Kept} {a : Act} {s : Said} {acts : List Act} {said : List Said} → KeptGave k a s m → KeptAll m acts said n
      → KeptAll k (a ∷ acts) (s ∷ said) n

-- the same in the old arrangement: what is said, and the state that is left
unfoldable pub said_by : List Act → Chip → List Said
said_by [] c = []
said_by (a ∷ acts) c = (gave a c).said ∷ said_by acts (gave a c).chip

unfoldable pub left_by : List Act → Chip → Chip
left_by [] c = c
left_by (a ∷ acts) c = left_by acts (gave a c).chip

pub record SmallerState : Type 0 where
  -- one act: the same is said, and matching states are left
  pub act : (k : Kept) (c : Chip) → Shows k c → (a : Act) (s : Said) (m : Kept) → KeptGave k a s m → (s ≡ (gave a c).said) × Shows m (gave a c).chip
  -- any acts, one after another
  pub acts : (k : Kept) (c : Chip) → Shows k c → (l : List Act) (said : List Said) (m : Kept) → KeptAll k l said m
      → (said ≡ said_by l c) × Shows m (left_by l c)
  -- the contract decides what is said and what is kept
  pub decided : (k : Kept) (a : Act) (s t : Said) (m n : Kept) → KeptGave k a s m → KeptGave k a t n → (s ≡ t) × (m ≡ n)
  -- and it asks for nothing that is not there
  pub there : (k : Kept) (a : Act) → (s : Said) × (m : Kept) × KeptGave k a s m
  -- every state that accesses reach in the old arrangement is matched, and what is kept matches one state
  pub reached : (first second : ℕ) (c : Chip) → Reach first second c → (k : Kept) × Shows k c
  pub one : (k : Kept) (c d : Chip) → Shows k c → Shows k d → c ≡ d
