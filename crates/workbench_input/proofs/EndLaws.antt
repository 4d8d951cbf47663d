-- Lines that are passed over: behind the end every line leaves the bench and the store as they are and says nothing, and so
-- does a line that begins with `#`. And `q` is the end.
use Prim.Native.Nat.{ℕ}
use mathlib.Core.Bool.{Bool, true, false}
use mathlib.Core.Path.{◌≡◌, refl}
use mathlib.Core.List.{List, []}
use lib.ListN.{get_or}
use borrow.Author.Tests.{eq-eqb}
use Rattle.workbench_replies.specs.Reply.{reply_text}
use Rattle.workbench_replies.specs.declared.Reply.TheVariants.{Nothing}
use Rattle.workbench_requests.specs.declared.Request.TheVariants.{Quit, Pass}
use Rattle.workbench_input.specs.Acts.{Bench, replied, acted, store_after}
use Rattle.workbench_input.specs.Lines.{request_in, line_acted, store_left, text_of}

module _ (b : Bench) (store line : List ℕ) where
  -- a line that is passed over leaves the bench and the store, and says nothing
  abbrev pub PassedOver : Type 0
  PassedOver = (line_acted b store line ≡ replied b Nothing) × (store_left b store line ≡ store) × (text_of (line_acted b store line) ≡ [])

  passed : request_in b.ended line ≡ Pass → PassedOver
  unfolding acted store_after reply_text
  passed e = (rw e, rw e, rw e)

  pub end_silent : b.ended ≡ true → PassedOver
  unfolding request_in
  end_silent h = passed (rw h)

  pub comment_silent : get_or line 0 0 ≡ 0x23 → PassedOver
  unfolding request_in
  comment_silent h = passed (go b.ended)
    where
      go : (ended : Bool) → request_in ended line ≡ Pass
      go true = refl
      go false = rw (eq-eqb _ _ h)

-- `q` is the end
pub end_asked : (b : Bench) (store : List ℕ) → (acted b store Quit).bench.ended ≡ true
unfolding acted
end_asked b store = refl
