-- Row 0, and after it the rows below it, are all of the picture.
use native.Mathlib.Omega.{arith}
use Rattle.picture.proofs.Filling.{shape_of, top_inside, picture_whole}
use mathlib.Core.Path.{sym}
use lib.Seq.{length-take-le}
use Rattle.picture.proofs.picture.write_picture.Goals as goal

pub put_rows-known-requires : goal.put_rows-known-requires
put_rows-known-requires c = let s = shape_of _ _ c.requires.0 in (omega (arith, s.wide), omega (arith, s.high), c.requires.1)

pub slice_bounds-put_top-end : goal.slice_bounds-put_top-end
slice_bounds-put_top-end c = let s = shape_of _ _ c.requires.0 in top_inside _ _ c.args.session.now _ (omega (arith, s.high)) c.requires.1 c.put_rows-known.ensures.picture_after

pub slice_bounds-put_top-end-2 : goal.slice_bounds-put_top-end-2
slice_bounds-put_top-end-2 c = let s = shape_of _ _ c.requires.0 in sym (length-take-le _ _ (top_inside _ _ c.args.session.now _ (omega (arith, s.high)) c.requires.1 c.put_rows-known.ensures.picture_after))

pub put_top-requires : goal.put_top-requires
put_top-requires c = let s = shape_of c.args.session.now.columns c.args.session.now.lines c.requires.0 in (omega (arith, s.wide), length-take-le _ _ (top_inside _ _ c.args.session.now _ (omega (arith, s.high)) c.requires.1 c.put_rows-known.ensures.picture_after), omega (arith, s.high), c.put_rows-known.ensures.cursor_value)

pub returns : goal.returns
returns c = let s = shape_of _ _ c.requires.0 in picture_whole _ _ c.args.session.now _ (omega (arith, s.high)) c.requires.1 c.put_rows-known.ensures.picture_after (omega (arith, s.wide)) c.put_top.ensures
