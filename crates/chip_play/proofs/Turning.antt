-- The port that takes index and data by turns: what the five commands that write its index do, from any state, and then a byte or
-- a change. Reading both status ports returns the turn whichever is picked; the index is written with bit 5 as it was, so the
-- picture stays. Document 02, P1.
use Prim.Native.Nat.{ℕ, ◌+◌, ◌%◌, ◌/◌, ◌<◌}
use native.Mathlib.Nat.{add_comm}
use native.Mathlib.Omega.{arith}
use mathlib.Core.Bool.{Bool, true, false, cond}
use mathlib.Core.Path.{◌≡◌, refl, ◌∙◌, ap}
use mathlib.Core.List.{List, [], ◌∷◌}
use lib.Bits.{bit_and, bit_or, and_zero_r, or_zero_l, and_block, and_shifted, and_comm, or_shifted}
use Rattle.lists.specs.Bits.{is_set}
use Rattle.chip_registers.specs.Indexes.{index_kept}
use Rattle.chip_registers.specs.declared.Group.TheVariants.{Ar}
use Rattle.chip_ports.specs.Ports.{ports, target}
use Rattle.chip_ports.specs.declared.Target.TheVariants.{Data, Attribute, Status}
use Rattle.chip.specs.State.{Chip, Named, join, with_turn, index_of, with_index}
use Rattle.chip.specs.Names.{read_byte, received, ports_open, picks3_dx}
use Rattle.chip.specs.Attribute.{attribute_index, attribute_aimed}
use Rattle.chip.specs.Access.{port_written, port_read}
use Rattle.chip.specs.declared.Indexes.{Indexes}
use Rattle.chip.specs.declared.Loading.{Loading}
use Rattle.script_commands.specs.Expansion.{turned, change}
use Rattle.script_commands.specs.declared.Command.{Command}
use Rattle.script_commands.specs.declared.Command.TheVariants.{Out, In, OutAcc}
use Rattle.chip_run.specs.Run.{did, one, done}
use Rattle.chip_play.proofs.Sends.{Goes, once, quietly, lastly, ended, Sends, Is, idle_in, fetch, merged}
use Rattle.std.specs.Prelude.{Ok, Some}

-- ---- the index that is written: bit 5 of the one that was read, and the register's
keep_bit : (lit : Bool) (low i : ℕ) → low < 32 → i < 32 → bit_or (bit_and (low + cond lit 0x20 0x00) 0x20) i ≡ cond lit 0x20 0x00 + i
keep_bit true low i h k =
    ap (λ (t : ℕ). bit_or t i)
    (ap (λ (t : ℕ). bit_and t 0x20) (add_comm low 0x20) ∙ and_block 5 1 1 low 0 h (omega arith) ∙ ap (λ (t : ℕ). 0x20 + t) (and_zero_r low))
    ∙ or_shifted 1 5 i k
keep_bit false low i h k =
    let e : low + 0 ≡ low = omega arith in
    rw (e, and_comm low 0x20, and_shifted 1 5 low h) (or_zero_l i ∙ omega arith)

kept_picture : (lit : Bool) (i : ℕ) → i < 32 → is_set 5 (cond lit 0x20 0x00 + i) ≡ lit
kept_picture true i h = let e : (0x20 + i) / 32 % 2 ≡ 1 = omega arith in rw e
kept_picture false i h = let e : (0x00 + i) / 32 % 2 ≡ 0 = omega arith in rw e

kept_low : (lit : Bool) (i : ℕ) → index_kept Ar (cond lit 0x20 0x00 + i) ≡ index_kept Ar i
unfolding index_kept
kept_low true i = omega arith
kept_low false i = omega arith

-- ---- what each kind of command does
module _ (n : Named) (x : Indexes) (l : Loading) (a : ℕ) (free : ports_open n ≡ true) (b : Bool) (picks : picks3_dx n ≡ b) (p : ℕ) where
  turn_back : target b false p ≡ Status → one (join n x l) a (Some (In p)) ≡ did (Ok tt) 0x00 (join n (with_turn x false) l)
  unfolding one done port_read
  turn_back h = rw (free, picks, h)

  see_index : target b false p ≡ Attribute → one (join n x l) a (Some (In p)) ≡ did (Ok tt) (attribute_index (join n x l)) (join n x l)
  unfolding one done port_read
  see_index h = rw (free, picks, h)

  aim_acc : target b true p ≡ Attribute → x.turn ≡ false → one (join n x l) a (Some (OutAcc p)) ≡ did (Ok tt) a (attribute_aimed (join n x l) a)
  unfolding one done port_written
  aim_acc h t = rw (free, picks, h, t)

  -- a byte to the register, at the turn of data
  module _ (leads : target b true p ≡ Attribute) (turn : x.turn ≡ true) (i : ℕ) (at : index_of Ar x ≡ i) where
    give : (v : ℕ) → one (join n x l) a (Some (Out p v)) ≡ did (Ok tt) a (join (received Ar n i v) (with_turn x false) l)
    unfolding one done port_written
    give v = rw (free, picks, leads, turn, at)

    give_acc : one (join n x l) a (Some (OutAcc p)) ≡ did (Ok tt) a (join (received Ar n i a) (with_turn x false) l)
    unfolding one done port_written
    give_acc = rw (free, picks, leads, turn, at)

low_five : (x : Indexes) → index_of Ar x < 32
unfolding index_kept
low_five x = omega arith

module _ (n : Named) (free : ports_open n ≡ true) where
  -- both status ports are read: the turn is the index's
  both_read : (b : Bool) → picks3_dx n ≡ b → (x : Indexes) (l : Loading) (a : ℕ) (cs : List Command) (d : Chip) (z k : ℕ)
      → Goes (join n (with_turn x false) l) (cond b 0x00 0xFF) cs d z k → Goes (join n x l) a (In 0x3BA ∷ In 0x3DA ∷ cs) d z k
  unfolding target ports
  both_read true picks x l a cs d z k t =
      quietly (idle_in n x l a free true picks 0x3BA refl) refl (quietly (turn_back n x l _ free true picks 0x3DA refl) refl t)
  both_read false picks x l a cs d z k t =
      quietly (turn_back n x l a free false picks 0x3BA refl) refl (quietly (idle_in n _ l _ free false picks 0x3DA refl) refl t)

  module _ (b : Bool) (picks : picks3_dx n ≡ b) (p : ℕ) (writes : target b true p ≡ Attribute) (i : ℕ) (fits : i < 32) where
    -- the index is written, and the picture stays
    aimed : (x : Indexes) (l : Loading)
        → (let v = cond n.picture 0x20 0x00 + i in
        one (join n (with_turn x false) l) v (Some (OutAcc p)) ≡ did (Ok tt) v (join n (with_turn (with_index Ar x i) true) l))
    aimed x l =
        aim_acc n (with_turn x false) l _ free b picks p writes refl ∙ rw (kept_picture n.picture i fits, kept_low n.picture i) refl

    pub aims : target b false p ≡ Attribute → (y : Indexes) → Sends (Is y) n (turned p i) n (Is (with_turn (with_index Ar y i) true)) 0
    aims reads y = record {
      runs = λ x l a h. (
        with_turn (with_index Ar x i) true,
        l,
        cond n.picture 0x20 0x00 + i,
        both_read b picks x l a _ _ _ _
            (quietly (see_index n (with_turn x false) l _ free b picks p reads) refl
            (quietly (merged (join n (with_turn x false) l) _ 0x20 i ∙ ap (λ (v : ℕ). did (Ok tt) v (join n (with_turn x false) l)) (keep_bit n.picture (index_of Ar x) i (low_five x) fits)) refl
            (quietly (aimed x l) refl ended))),
        ap (λ (t : Indexes). with_turn (with_index Ar t i) true) h,
      );
    }

    -- then a byte, or a change, where the index is the register's and data comes next
    module _ (y : Indexes) (at : index_of Ar y ≡ i) (turn : y.turn ≡ true) where
      at-index : (x : Indexes) → Is y x → index_of Ar x ≡ i
      at-index x h = ap (index_of Ar) h ∙ at

      at_turn : (x : Indexes) → Is y x → x.turn ≡ true
      at_turn x h = ap (λ (t : Indexes). t.turn) h ∙ turn

      pub gives : (v : ℕ) → Sends (Is y) n (Out p v ∷ []) (received Ar n i v) (Is (with_turn y false)) (once n (received Ar n i v))
      gives v = record {
        runs = λ x l a h. (
          with_turn x false,
          l,
          a,
          lastly (give n x l a free b picks p writes (at_turn x h) i (at-index x h) v),
          ap (λ (t : Indexes). with_turn t false) h,
        );
      }

      pub gives-change : (r k s : ℕ) → target b false r ≡ Data Ar
          → (let m = received Ar n i (bit_or (bit_and (read_byte Ar n i) k) s) in Sends (Is y) n (change p r k s) m (Is (with_turn y false)) (once n m))
      gives-change r k s reads = record {
        runs = λ x l a h. (
          with_turn x false,
          l,
          _,
          quietly (fetch n x l a free b picks r Ar i (at-index x h) reads) refl
              (quietly (merged (join n x l) _ k s) refl (lastly (give_acc n x l _ free b picks p writes (at_turn x h) i (at-index x h)))),
          ap (λ (t : Indexes). with_turn t false) h,
        );
      }
