-- An index that is written where it stands already changes nothing, through the port that is picked and through the other. So a
-- step does the same without the writes of its index (`step_alike`): by the way its group is reached, once over the groups.
use Prim.Native.Nat.{ℕ, ◌-◌}
use mathlib.Core.Bool.{Bool, true, false}
use mathlib.Core.Path.{◌≡◌, refl, sym, ap, ◌∙◌}
use mathlib.Core.List.{[], ◌∷◌}
use lib.Bits.{bit_and, bit_or}
use Rattle.std.proofs.lemmas.Bool.{and_parts}
use Rattle.chip_registers.specs.Groups.{group_at}
use Rattle.chip_registers.specs.Indexes.{index_kept}
use Rattle.chip_registers.specs.declared.Group.{Group}
use Rattle.chip_registers.specs.declared.Group.TheVariants.{Cr, Sr, Gr, Xr, Fr, Mr, Msr, Palmask, Ar}
use Rattle.chip_ports.specs.Ports.{target}
use Rattle.chip_ports.specs.declared.Target.TheVariants.{Index, NotPicked}
use Rattle.chip.specs.State.{Named, join, index_byte, with_index_byte, index_of, with_index}
use Rattle.chip.specs.Names.{read_byte, ports_open, picks3_dx}
use Rattle.chip.specs.declared.Indexes.{Indexes}
use Rattle.chip.specs.declared.Loading.{Loading}
use Rattle.script_steps.specs.Step.{names, within, legal}
use Rattle.script_steps.specs.declared.Step.{Step}
use Rattle.script_steps.specs.declared.Step.TheVariants.{Set, Field, Colour}
use Rattle.script_commands.specs.Expansion.{ways, change, set_by, field_by, expanded}
use Rattle.script_commands.specs.Known.{set_known, field_known, expanded_known}
use Rattle.script_commands.specs.declared.Command.TheVariants.{Out}
use Rattle.script_commands.specs.declared.Ways.{Ways}
use Rattle.script_commands.specs.declared.Ways.TheVariants.{Pair, Pairs, Direct, Turns, Nowhere}
use Rattle.script_commands.proofs.Knowing.{nothing_known}
use Rattle.chip_run.specs.Run.{did}
use Rattle.chip_play.proofs.Sends.{Is, At, select, idle, stores, changes, passes, skips}
use Rattle.chip_play.proofs.Reaching.{Leads, leads, open_received}
use Rattle.chip_short.proofs.Alike.{Alike, Void, alike_self, alike_then, left_out_lem, left_out-behind}
use Rattle.std.specs.Prelude.{Ok}

-- ---- an index that stands
byte-again : (g : Group) (x : Indexes) → with_index_byte g x (index_byte g x) ≡ x
byte-again Cr x = refl
byte-again Sr x = refl
byte-again Gr x = refl
byte-again Xr x = refl
byte-again Fr x = refl
byte-again Mr x = refl
byte-again Msr x = refl
byte-again Palmask x = refl
byte-again Ar x = refl

abbrev pub StandsAt : Group → ℕ → Indexes → Type 0
StandsAt g i x = index_byte g x ≡ index_kept g i

index-again : (g : Group) (i : ℕ) (x : Indexes) → StandsAt g i x → with_index g x i ≡ x
index-again g i x stands = ap (with_index_byte g x) (sym stands) ∙ byte-again g x

-- ---- by the way a group is reached
module _ (n : Named) (free : ports_open n ≡ true) (g : Group) (i : ℕ) (x : Indexes) (stands : StandsAt g i x) (l : Loading) (a : ℕ) where
  picked : (b : Bool) → picks3_dx n ≡ b → (p : ℕ) → target b true p ≡ Index g → (z : Indexes) (l' : Loading) → Is x z → Void (join n z l') (Out p i)
  picked b picks p leads z l' e c =
      select n z l' c free b picks p g i leads ∙ ap (λ (t : Indexes). did (Ok tt) c (join n t l')) (index-again g i z (ap (index_byte g) e ∙ stands))

  at-index : ((z : Indexes) → index_of g (with_index g z i) ≡ i) → (z : Indexes) → Is x z → At g i z
  at-index kept z e = ap (index_of g) e ∙ ap (index_of g) (sym (index-again g i x stands)) ∙ kept x

  not_picked : (m : Named) → ports_open m ≡ true → (b : Bool) → picks3_dx m ≡ b → (p : ℕ) → target b true p ≡ NotPicked
      → (z : Indexes) (l' : Loading) → Is x z → Void (join m z l') (Out p i)
  not_picked m free' b picks p off z l' e c = idle m z l' c free' b picks p i off

  set-alike : (v : ℕ) (w : Ways) (b : Bool) → picks3_dx n ≡ b → Leads b g i w → Alike (join n x l) a (set_by w i v) (set_known true w i v)
  set-alike v (Pair y p) b picks (on, kept) = left_out_lem (Out y i) (Out p v ∷ []) (picked b picks y on.0 x l refl)
  set-alike v (Pairs y p z q) true picks (off, on, steady, kept) =
      alike_then (left_out_lem (Out y i) _ (not_picked n free true picks y off.0 x l refl))
      (left_out-behind l a (Out p v ∷ []) (Out z i) (Out q v ∷ []) (passes n free true picks p off.1 v) (picked true picks z on.0))
  set-alike v (Pairs y p z q) false picks (on, off, steady, kept) =
      alike_then (left_out_lem (Out y i) _ (picked false picks y on.0 x l refl))
      (left_out-behind l a (Out p v ∷ []) (Out z i) (Out q v ∷ []) (stores n free false picks g i (at-index kept) p v on.1)
      (not_picked _ (open_received g n i v ∙ free) false (steady n i v ∙ picks) z off.0))
  set-alike v (Direct w r) b picks h = alike_self
  set-alike v (Turns p r) b picks h = alike_self
  set-alike v Nowhere b picks h = absurd h

  field_alike : (k s : ℕ) (w : Ways) (b : Bool) → picks3_dx n ≡ b → Leads b g i w → Alike (join n x l) a (field_by w i k s) (field_known true w i k s)
  field_alike k s (Pair y p) b picks (on, kept) = left_out_lem (Out y i) (change p p k s) (picked b picks y on.0 x l refl)
  field_alike k s (Pairs y p z q) true picks (off, on, steady, kept) =
      alike_then (left_out_lem (Out y i) _ (not_picked n free true picks y off.0 x l refl))
      (left_out-behind l a (change p p k s) (Out z i) (change q q k s) (skips n free true picks p off.1 k s off.2) (picked true picks z on.0))
  field_alike k s (Pairs y p z q) false picks (on, off, steady, kept) =
      let v = bit_or (bit_and (read_byte g n i) k) s in
      alike_then (left_out_lem (Out y i) _ (picked false picks y on.0 x l refl))
      (left_out-behind l a (change p p k s) (Out z i) (change q q k s) (changes n free false picks g i (at-index kept) p p k s on.1 on.2)
      (not_picked _ (open_received g n i v ∙ free) false (steady n i v ∙ picks) z off.0))
  field_alike k s (Direct w r) b picks h = alike_self
  field_alike k s (Turns p r) b picks h = alike_self
  field_alike k s Nowhere b picks h = absurd h

-- ---- a step's index stands
abbrev pub StandsFor : Step → Indexes → Type 0
StandsFor (Set group i v) x = StandsAt (group_at group) i x
StandsFor (Field group i v m) x = StandsAt (group_at group) i x
StandsFor (Colour e r g b) x = Unit {0}

pub step_alike : (s : Step) (n : Named) → legal s ≡ true → ports_open n ≡ true → (z : Bool) (x : Indexes) (l : Loading) (a : ℕ) → (z ≡ true → StandsFor s x)
    → Alike (join n x l) a (expanded s) (expanded_known z s)
unfolding expanded expanded_known legal
step_alike s n lawful free false x l a stands = rw (nothing_known s) alike_self
step_alike (Set group i v) n lawful free true x l a stands =
    set-alike n free (group_at group) i x (stands refl) l a v (ways group) (picks3_dx n) refl (leads (picks3_dx n) group i lawful)
step_alike (Field group i v m) n lawful free true x l a stands =
    field_alike n free (group_at group) i x (stands refl) l a (0xFF - m) v (ways group) (picks3_dx n) refl
    (leads (picks3_dx n) group i (and_parts (names group i) (within v m) lawful).0)
step_alike (Colour e r g b) n lawful free true x l a stands = alike_self
