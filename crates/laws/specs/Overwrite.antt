-- Overwriting, where what does not fit is dropped, and cutting or padding to a length.
use Rattle.std.specs.Prelude.{ℕ, zero, suc, List, [], ◌∷◌}

-- d with s written over it from a place
unfoldable pub over : List ℕ → ℕ → List ℕ → List ℕ
over [] at s = []
over (x ∷ d) zero [] = x ∷ d
over (x ∷ d) zero (y ∷ s) = y ∷ over d zero s
over (x ∷ d) (suc at) s = x ∷ over d at s

-- s cut, or padded with b, to n elements
unfoldable pub fit : ℕ → ℕ → List ℕ → List ℕ
fit b zero s = []
fit b (suc n) [] = b ∷ fit b n []
fit b (suc n) (x ∷ s) = x ∷ fit b n s
