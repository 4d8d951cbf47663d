-- A step's commands do what the step says by name: by the way its group is reached, once over the groups; and COLOUR.
use Prim.Native.Nat.{ℕ, ◌+◌, ◌%◌, ◌-◌, ◌<◌}
use native.Mathlib.Omega.{arith}
use mathlib.Core.Bool.{Bool, true, false}
use mathlib.Core.Path.{◌≡◌, refl, ap, ◌∙◌}
use lib.Bits.{bit_and, bit_or}
use Rattle.std.proofs.lemmas.Bool.{and_parts}
use Rattle.chip_registers.specs.Indexes.{index_kept}
use Rattle.chip_registers.specs.declared.Group.{Group}
use Rattle.chip_registers.specs.declared.Group.TheVariants.{Ar}
use Rattle.chip_ports.specs.Ports.{ports, target}
use Rattle.chip.specs.State.{Named, join, index_of, with_index, with_turn}
use Rattle.chip.specs.Names.{read_byte, received, ports_open, picks3_dx}
use Rattle.chip.specs.Palette.{coloured, aimed, held, moved, loaded}
use Rattle.chip.specs.Access.{port_written}
use Rattle.chip.specs.declared.Indexes.{Indexes}
use Rattle.chip.specs.declared.Loading.{Loading}
use Rattle.script_steps.specs.Step.{names, within, legal}
use Rattle.script_steps.specs.declared.Step.{Step}
use Rattle.script_steps.specs.declared.Step.TheVariants.{Set, Field, Colour}
use Rattle.script_commands.specs.Expansion.{ways, set_by, field_by, expanded}
use Rattle.script_commands.specs.declared.Command.TheVariants.{Out}
use Rattle.script_commands.specs.declared.Ways.{Ways}
use Rattle.script_commands.specs.declared.Ways.TheVariants.{Pair, Pairs, Direct, Turns, Nowhere}
use Rattle.chip_run.specs.Run.{did, one, done}
use Rattle.chip_registers.specs.Groups.{group_at}
use Rattle.chip_play.specs.ByName.{applied}
use Rattle.chip_play.proofs.Sends.{once, quietly, lastly, Sends, Is, At, sends_append, sends_after, sends_before, selects, stores, changes, passes, skips}
use Rattle.chip_play.proofs.Turning.{aims, gives, gives-change}
use Rattle.chip_play.proofs.Reaching.{Leads, leads, open_received}
use Rattle.std.specs.Prelude.{Ok, Some}

low-kept : (y : Indexes) {i : ℕ} → i < 32 → index_of Ar (with_turn (with_index Ar y i) true) ≡ i
unfolding index_kept
low-kept y {i} fits = omega arith

-- the indexes that a step leaves, by the way its group is reached: its own is written, and the others are as they were
abbrev pub aimed_by : Ways → Group → ℕ → Indexes → Indexes
aimed_by (Pair x p) g i y = with_index g y i
aimed_by (Pairs x p z q) g i y = with_index g y i
aimed_by (Direct w r) g i y = y
aimed_by (Turns p r) g i y = with_turn (with_index g y i) false
aimed_by Nowhere g i y = y

module _ (n : Named) (free : ports_open n ≡ true) (g : Group) (i : ℕ) (y : Indexes) where
  -- the index port writes the index, and the data ports work at it
  points : (z : Indexes) → Is y z → Is (with_index g y i) (with_index g z i)
  points z e = ap (λ (t : Indexes). with_index g t i) e

  stands_at : ((z : Indexes) → index_of g (with_index g z i) ≡ i) → (z : Indexes) → Is (with_index g y i) z → At g i z
  stands_at kept z e = ap (index_of g) e ∙ kept y

  set-sent : (v : ℕ) (w : Ways) (b : Bool) → picks3_dx n ≡ b → Leads b g i w
      → Sends (Is y) n (set_by w i v) (received g n i v) (Is (aimed_by w g i y)) (once n (received g n i v))
  set-sent v (Pair x p) b picks (on, kept) =
      sends_after (selects n free b picks g i points x on.0) (stores n free b picks g i (stands_at kept) p v on.1)
  set-sent v (Pairs x p z q) true picks (off, on, steady, kept) =
      sends_after (sends_append (passes n free true picks x off.0 i) (passes n free true picks p off.1 v))
      (sends_after (selects n free true picks g i points z on.0) (stores n free true picks g i (stands_at kept) q v on.1))
  set-sent v (Pairs x p z q) false picks (on, off, steady, kept) =
      let free' = open_received g n i v ∙ free in
      let picks' = steady n i v ∙ picks in
      sends_before (sends_after (selects n free false picks g i points x on.0) (stores n free false picks g i (stands_at kept) p v on.1))
      (sends_append (passes _ free' false picks' z off.0 i) (passes _ free' false picks' q off.1 v))
  set-sent v (Direct w r) b picks (hw, hr, at) = stores n free b picks g i (λ z _. at z) w v hw
  set-sent v (Turns p r) b picks (is, writes, index, data-port, fits) =
      rw is (sends_after (aims n free b picks p writes i fits index y)
      (gives n free b picks p writes i fits (with_turn (with_index Ar y i) true) (low-kept y fits) refl v))
  set-sent v Nowhere b picks none = absurd none

  field_sent : (k s : ℕ) (w : Ways) (b : Bool) → picks3_dx n ≡ b → Leads b g i w
      → (let m = received g n i (bit_or (bit_and (read_byte g n i) k) s) in Sends (Is y) n (field_by w i k s) m (Is (aimed_by w g i y)) (once n m))
  field_sent k s (Pair x p) b picks (on, kept) =
      sends_after (selects n free b picks g i points x on.0) (changes n free b picks g i (stands_at kept) p p k s on.1 on.2)
  field_sent k s (Pairs x p z q) true picks (off, on, steady, kept) =
      sends_after (sends_append (passes n free true picks x off.0 i) (skips n free true picks p off.1 k s off.2))
      (sends_after (selects n free true picks g i points z on.0) (changes n free true picks g i (stands_at kept) q q k s on.1 on.2))
  field_sent k s (Pairs x p z q) false picks (on, off, steady, kept) =
      let v = bit_or (bit_and (read_byte g n i) k) s in
      let free' = open_received g n i v ∙ free in
      let picks' = steady n i v ∙ picks in
      sends_before (sends_after (selects n free false picks g i points x on.0) (changes n free false picks g i (stands_at kept) p p k s on.1 on.2))
      (sends_append (passes _ free' false picks' z off.0 i) (skips _ free' false picks' q off.1 k s off.2))
  field_sent k s (Direct w r) b picks (hw, hr, at) = changes n free b picks g i (λ z _. at z) w r k s hw hr
  field_sent k s (Turns p r) b picks (is, writes, index, data-port, fits) =
      rw is (sends_after (aims n free b picks p writes i fits index y)
      (gives-change n free b picks p writes i fits (with_turn (with_index Ar y i) true) (low-kept y fits) refl r k s data-port))
  field_sent k s Nowhere b picks none = absurd none

-- COLOUR: the write index is written, whatever was half loaded is dropped, and the third byte stores the entry
module _ (n : Named) (free : ports_open n ≡ true) (x : Indexes) (l : Loading) (a v : ℕ) where
  aim : one (join n x l) a (Some (Out 0x3C8 v)) ≡ did (Ok tt) a (join n x (aimed l v false))
  unfolding one done port_written target ports
  aim = rw free

  load : one (join n x l) a (Some (Out 0x3C9 v)) ≡ did (Ok tt) a (join (loaded n l v) x (moved (held l v)))
  unfolding one done port_written target ports
  load = rw free

colour_sent : {P : Indexes → Type 0} (n : Named) → ports_open n ≡ true → (e r g b : ℕ)
    → Sends P n (expanded (Colour e r g b)) (coloured n e r g b) P (once n (coloured n e r g b))
unfolding loaded expanded
colour_sent n free e r g b = record {
  runs = λ x l a h. (
    x,
    record { index = (e + 1) % 256; position = 0; red = r; green = g; reading = false },
    a,
    quietly (aim n free x l a e) refl (quietly (load n free x _ a r) refl (quietly (load n free x _ a g) refl (lastly (load n free x _ a b)))),
    h,
  );
}

-- the indexes that a step leaves
abbrev pub indexes_after : Step → Indexes → Indexes
indexes_after (Set group i v) y = aimed_by (ways group) (group_at group) i y
indexes_after (Field group i v m) y = aimed_by (ways group) (group_at group) i y
indexes_after (Colour e r g b) y = y

pub step_sent : (s : Step) (n : Named) → legal s ≡ true → ports_open n ≡ true → (y : Indexes)
    → Sends (Is y) n (expanded s) (applied s n) (Is (indexes_after s y)) (once n (applied s n))
unfolding expanded applied legal
step_sent (Set group i v) n lawful free y = set-sent n free (group_at group) i y v (ways group) (picks3_dx n) refl (leads (picks3_dx n) group i lawful)
step_sent (Field group i v m) n lawful free y =
    field_sent n free (group_at group) i y (0xFF - m) v (ways group) (picks3_dx n) refl (leads (picks3_dx n) group i (and_parts (names group i) (within v m) lawful).0)
step_sent (Colour e r g b) n lawful free y = colour_sent n free e r g b
