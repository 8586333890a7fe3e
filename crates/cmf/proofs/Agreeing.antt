-- The readers and the grammar agree, for every image.
use Prim.Native.Nat.{ℕ}
use mathlib.Core.List.{List}
use Rattle.cmf.proofs.Agreement.{Agree}
use Rattle.cmf.proofs.Titles as titles
use Rattle.cmf.proofs.Heads as heads
use Rattle.cmf.proofs.Codes as codes
use Rattle.cmf.proofs.Aligning as aligning

-- titles, heads, components and padding
pub agree : (im : List ℕ) → Agree im
agree im = record {
  component_is = codes.component_is im;
  component_reads = codes.component_reads im;
  head_is = heads.head_is im;
  head_reads = heads.head_reads im;
  title_is = titles.title_is;
  title_reads = titles.title_reads im;
  odd_is = aligning.odd_is;
  even_is = aligning.even_is;
  odd_aligned = aligning.odd_aligned im;
  even_aligned = aligning.even_aligned im;
}
