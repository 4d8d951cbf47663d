-- By the name: each form where no word stands behind it, and where one does; then no word, and any other name.
use mathlib.Core.Bool.{Bool, true, false, cond, ◌&&◌}
use mathlib.Core.Path.{◌≡◌, refl}
use borrow.Author.Tests.{eq-eqb, ne_eqb}
use Rattle.std.specs.Prelude.{Some, None}
use Rattle.std.specs.Option.{unwrap_or}
use Rattle.workbench_requests.specs.Request.{is_port, port, is_byte, byte, is_number, number, is_transfer, transfer_of, request_of}
use Rattle.workbench_requests.specs.declared.Request.{Request}
use Rattle.workbench_requests.specs.declared.Request.TheVariants.{Reset, Out, In, Pixel, Lend, Read, Write, Block, Unknown}
use Rattle.workbench_requests.proofs.request_of.Goals as goal
use Rattle.workbench_requests.proofs.request_of.Goals.{in-353350403412, in-79, in-73, in-80, in-77, in-82, in-87, in-84, in-68, in-63, in-1212501072, in-81, in-0, in_default-2, in_default-3, in_default-4, in_default-5, in_default-6, in_default-7, in_default-8, in_default-9, in_default-10, in_default-11, in_default-12, in_default-13, in_default}

-- words that do not fit the form are an unknown line
or_unknown : (b : Bool) (r : Request) → unwrap_or (cond b (Some r) None) Unknown ≡ cond b r Unknown
or_unknown true r = refl
or_unknown false r = refl

pub returns : goal.returns
unfolding request_of
returns c = rw c.unwrap_or.ensures (elim c.match-at.branch [
  | in-353350403412 w ↦ rw (w.asked-is, w.reset-asked.ensures, w.in-353350403412.is, eq-eqb _ _ w.if-at-eq0.true) (or_unknown (is_byte c.args.w 1 && is_byte c.args.w 2) (Reset (byte c.args.w 1) (byte c.args.w 2)))
  | in-79 w ↦ rw (w.asked-is, w.output-asked.ensures, w.in-79.is, eq-eqb _ _ w.if-at-eq0-2.true) (or_unknown (is_port c.args.w 1 && is_byte c.args.w 2) (Out (port c.args.w 1) (byte c.args.w 2)))
  | in-73 w ↦ rw (w.asked-is, w.input-asked.ensures, w.in-73.is, eq-eqb _ _ w.if-at-eq0-3.true) (or_unknown (is_port c.args.w 1) (In (port c.args.w 1)))
  | in-80 w ↦ rw (w.asked-is, w.pixel-asked.ensures, w.in-80.is, eq-eqb _ _ w.if-at-eq0-4.true) (or_unknown (is_byte c.args.w 1) (Pixel (byte c.args.w 1)))
  | in-77 w ↦ rw (w.asked-is, w.lend-asked.ensures, w.in-77.is, eq-eqb _ _ w.if-at-eq0-5.true) (or_unknown (is_number c.args.w 1) (Lend (number c.args.w 1)))
  | in-82 w ↦ rw (w.asked-is, w.read-asked.ensures, w.in-82.is, eq-eqb _ _ w.if-at-eq0-6.true) (or_unknown (is_number c.args.w 1) (Read (number c.args.w 1)))
  | in-87 w ↦ rw (w.asked-is, w.write-asked.ensures, w.in-87.is, eq-eqb _ _ w.if-at-eq0-7.true) (or_unknown (is_number c.args.w 1 && is_byte c.args.w 2) (Write (number c.args.w 1) (byte c.args.w 2)))
  | in-84 w ↦ rw (w.asked-is, w.block-asked.ensures, w.in-84.is, eq-eqb _ _ w.if-at-eq0-8.true) (or_unknown (is_transfer c.args.w) (Block (transfer_of c.args.w)))
  | in-68 w ↦ rw (w.asked-is, w.in-68.is, eq-eqb _ _ w.if-at-eq0-9.true)
  | in-63 w ↦ rw (w.asked-is, w.in-63.is, eq-eqb _ _ w.if-at-eq0-10.true)
  | in-1212501072 w ↦ rw (w.asked-is, w.in-1212501072.is, eq-eqb _ _ w.if-at-eq0-11.true)
  | in-81 w ↦ rw (w.asked-is, w.in-81.is, eq-eqb _ _ w.if-at-eq0-12.true)
  | in-0 w ↦ rw (w.asked-is, w.in-0.is)
  | in_default-2 w ↦ rw (w.asked-is, w.in-353350403412.is, ne_eqb _ _ w.if-at-eq0.false)
  | in_default-3 w ↦ rw (w.asked-is, w.in-79.is, ne_eqb _ _ w.if-at-eq0-2.false)
  | in_default-4 w ↦ rw (w.asked-is, w.in-73.is, ne_eqb _ _ w.if-at-eq0-3.false)
  | in_default-5 w ↦ rw (w.asked-is, w.in-80.is, ne_eqb _ _ w.if-at-eq0-4.false)
  | in_default-6 w ↦ rw (w.asked-is, w.in-77.is, ne_eqb _ _ w.if-at-eq0-5.false)
  | in_default-7 w ↦ rw (w.asked-is, w.in-82.is, ne_eqb _ _ w.if-at-eq0-6.false)
  | in_default-8 w ↦ rw (w.asked-is, w.in-87.is, ne_eqb _ _ w.if-at-eq0-7.false)
  | in_default-9 w ↦ rw (w.asked-is, w.in-84.is, ne_eqb _ _ w.if-at-eq0-8.false)
  | in_default-10 w ↦ rw (w.asked-is, w.in-68.is, ne_eqb _ _ w.if-at-eq0-9.false)
  | in_default-11 w ↦ rw (w.asked-is, w.in-63.is, ne_eqb _ _ w.if-at-eq0-10.false)
  | in_default-12 w ↦ rw (w.asked-is, w.in-1212501072.is, ne_eqb _ _ w.if-at-eq0-11.false)
  | in_default-13 w ↦ rw (w.asked-is, w.in-81.is, ne_eqb _ _ w.if-at-eq0-12.false)
  | in_default w ↦
      let (((((((((((((_, k1), k2), k3), k4), k5), k6), k7), k8), k9), k10), k11), k12), k13) = w.in_default.in_default-own.rest in
      rw w.asked-is (simp ne_eqb)
])
