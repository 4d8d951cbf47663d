-- Laws of the text of an answer: no answer has more than 8,192 bytes, the room that is asked for; and worked answers.
use Prim.Native.Nat.{◌≤◌}
use native.Mathlib.Omega.{arith}
use mathlib.Core.Path.{◌≡◌, refl}
use lib.ListN.{length, length-append}
use Rattle.text.specs.Ascii.{ascii}
use Rattle.text.specs.Digits.{decimal_in, decimal}
use Rattle.text.proofs.DigitLaws.{decimal_most}
use Rattle.chip.specs.State.{Named}
use Rattle.text_registers.proofs.Lengths.{dumped_most}
use Rattle.workbench_replies.specs.Reply.{reply_text}
use Rattle.workbench_replies.specs.declared.Reply.{Reply}
use Rattle.workbench_replies.specs.declared.Reply.TheVariants.{Number, Byte, Told, Colour, Registers, Requests, Nothing, Unknown}

-- ---- the text of an answer
module _ (n : Named) where
  pub length_reply : (r : Reply) → length (reply_text n r) ≤ 8192
  unfolding reply_text
  length_reply (Number k) = let h : length (decimal k) ≤ 20 = decimal_most 20 k in simp length-append (omega arith)
  length_reply (Byte k v) = let h : length (decimal k) ≤ 20 = decimal_most 20 k in simp length-append (omega arith)
  length_reply (Told k before after) = let h : length (decimal k) ≤ 20 = decimal_most 20 k in simp length-append (omega arith)
  length_reply (Colour red green blue) = omega arith
  length_reply Registers = dumped_most n
  length_reply Requests = omega arith
  length_reply Nothing = omega arith
  length_reply Unknown = omega arith

  pub reply_done : reply_text n (Number 0) ≡ ascii "0\n"
  unfolding reply_text decimal_in
  reply_done = refl

  pub reply_refused : reply_text n (Number 18) ≡ ascii "18\n"
  unfolding reply_text decimal_in
  reply_refused = refl

  pub reply_byte : reply_text n (Byte 1 0xFF) ≡ ascii "1 FF\n"
  unfolding reply_text decimal_in
  reply_byte = refl

  pub reply_told : reply_text n (Told 0 0x00 0x43) ≡ ascii "0 00 43\n"
  unfolding reply_text decimal_in
  reply_told = refl

  pub reply_colour : reply_text n (Colour 0xFC 0x00 0x54) ≡ ascii "0 FC 00 54\n"
  unfolding reply_text
  reply_colour = refl
