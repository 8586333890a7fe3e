-- Numbers as digits to a base, highest first, and as bytes, lowest first, and back.
use Rattle.std.specs.Prelude.{ℕ, zero, suc, ◌+◌, ◌*◌, ◌/◌, ◌%◌, List, [], ◌∷◌, ◌++◌, reverse}

-- the n lowest digits of x to the base b
unfoldable pub digits_of : ℕ → ℕ → ℕ → List ℕ
digits_of b zero x = []
digits_of b (suc n) x = digits_of b n (x / b) ++ (x % b ∷ [])

-- the number that starts with a and goes on with the digits ds
unfoldable pub number_from : ℕ → ℕ → List ℕ → ℕ
number_from b a [] = a
number_from b a (d ∷ ds) = number_from b (a * b + d) ds

-- the n lowest bytes of x, the lowest first, and the number of bytes in that order
unfoldable pub low_first : ℕ → ℕ → List ℕ
low_first n x = reverse (digits_of 256 n x)

unfoldable pub from_low : List ℕ → ℕ
from_low bs = number_from 256 0 (reverse bs)

-- the character of the digit 0, in ASCII
abbrev pub digit0 : ℕ
digit0 = 0x30
