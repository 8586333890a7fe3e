-- Fields whose bytes lie apart: what is written for one stays out of the other, and is read back where the sheet has room for it.
use Prim.Native.Nat.{ℕ, ◌+◌, ◌≤◌}
use mathlib.Core.Path.{◌≡◌}
use mathlib.Core.Logic.{◌⊎◌, inl, inr}
use mathlib.Core.List.{List}
use lib.ListN.{length}
use Rattle.laws.specs.Parts.{put_at}
use Rattle.laws.proofs.Frame.{put_beside, put_read}
use Rattle.field.specs.Values.{bytes_of}
use Rattle.field.specs.Cells.{finished}
use Rattle.field.specs.Sheet.{size_of, own_bytes, default_written, finished_in}
use Rattle.field.specs.declared.record.Field.{Field}
use Rattle.field.specs.declared.work.Work.{Work}
use Rattle.field.proofs.Trip.{finished_length}

-- one field's bytes end before the other's start
abbrev pub LieApart : Field → Field → Type 0
LieApart f g = (f.sheet.0 + size_of f ≤ g.sheet.0) ⊎ (g.sheet.0 + size_of g ≤ f.sheet.0)

beside : (f g : Field) (b s : List ℕ) → length b ≡ size_of f → LieApart f g → own_bytes g (put_at f.sheet.0 b s) ≡ own_bytes g s
beside f g b s e (inl h) = put_beside f.sheet.0 b s g.sheet.0 (size_of g) (inr (rw e h))
beside f g b s e (inr h) = put_beside f.sheet.0 b s g.sheet.0 (size_of g) (inl h)

read : (f : Field) (b s : List ℕ) → length b ≡ size_of f → f.sheet.0 + size_of f ≤ length s → own_bytes f (put_at f.sheet.0 b s) ≡ b
read f b s e h = rw (← e) (put_read f.sheet.0 b s (rw e h))

-- a finished visit leaves the bytes of a field apart as they were
pub finished_beside : (f g : Field) (w : Work) (s : List ℕ) → LieApart f g → own_bytes g (finished_in f w s) ≡ own_bytes g s
unfolding finished_in
finished_beside f g w s h = beside f g _ s (finished_length f.kind w) h

-- and so does a default
pub default_beside : (f g : Field) (s : List ℕ) → length (bytes_of f.default) ≡ size_of f → LieApart f g → own_bytes g (default_written f s) ≡ own_bytes g s
unfolding default_written
default_beside f g s e h = beside f g _ s e h

-- the bytes of a finished visit are read back
pub finished_read : (f : Field) (w : Work) (s : List ℕ) → f.sheet.0 + size_of f ≤ length s → own_bytes f (finished_in f w s) ≡ bytes_of (finished f.kind w)
unfolding finished_in
finished_read f w s h = read f _ s (finished_length f.kind w) h

-- and so are those of a default
pub default_read : (f : Field) (s : List ℕ) → length (bytes_of f.default) ≡ size_of f → f.sheet.0 + size_of f ≤ length s
    → own_bytes f (default_written f s) ≡ bytes_of f.default
unfolding default_written
default_read f s e h = read f _ s e h
