-- `raster::raster_byte` meets its contract: its text is the eight terms, with the code's bits as bytes. Assumes nothing.
use borrow.Author.Rules.{rules}
use Rattle.blit_raster.specs.AppendixE.{value, inputs}
use Rattle.blit_raster.proofs.Terms.{named-raster}
use Rattle.blit_raster.proofs.raster_byte.Goals as goal

pub returns : goal.returns
unfolding value inputs
returns c =
    let a = c.args in
    named-raster a.code a.p a.s a.d (search rules) (search rules) (search rules) (search rules)
    c.chosen.ensures
    c.chosen-2.ensures
    c.chosen-3.ensures
    c.spread.ensures
    c.spread-2.ensures
    c.spread-3.ensures
    c.spread-4.ensures
    c.chosen-4.ensures
