-- 02, No. 2: numbers in groups of seven bits. What it is for bytes to be a number, how a number is written,
-- and how numbers are read.
use Rattle.std.specs.Prelude.{ℕ, zero, suc, ◌+◌, ◌-◌, ◌*◌, ◌/◌, ◌%◌, ◌≤◌, ◌<◌, ◌≡◌, List, [], ◌∷◌, ◌++◌}
use Rattle.std.specs.Prelude.{length, get_or}
use Rattle.std.specs.Prelude.{Option, Some, None}
use Rattle.laws.specs.Choice.{when◌then◌else◌, ◌=?◌, ◌<?◌, ◌≤?◌}
use Rattle.laws.specs.Bytes.{byte_at}
use Rattle.laws.specs.Digits.{number_from}

-- ---- the rule

-- the largest number
abbrev pub most_number : ℕ
most_number = 65535

-- the top bit of a byte, and so the base of groups of seven bits
abbrev pub top_bit : ℕ
top_bit = 128

-- each group has seven bits
abbrev pub SevenBits : List ℕ → Type 0
SevenBits [] = Unit {0}
SevenBits (g ∷ gs) = (g < top_bit) × SevenBits gs

-- groups as bytes: each but the last has the top bit, by which the reader goes on
unfoldable pub topped : List ℕ → List ℕ
topped [] = []
topped (g ∷ []) = g ∷ []
topped (g ∷ h ∷ gs) = (top_bit + g) ∷ topped (h ∷ gs)

-- the bytes b are the number n
pub record Written (n : ℕ) (b : List ℕ) : Type 0 where
  -- b comes from groups of seven bits
  pub groups : List ℕ
  pub bits : SevenBits groups
  -- which are the number's digits to the base 128, the highest first
  pub value : number_from top_bit 0 groups ≡ n
  -- each is a byte, whose top bit says that more come
  pub bytes : b ≡ topped groups
  -- there is one at least, and the first of several is not zero
  pub some : 1 ≤ length groups
  pub leading : 1 < length groups → 0 < get_or groups 0 0
  -- neither is too large; that the groups are few follows from the rest, but the paper says both
  pub few : length groups ≤ 3
  pub small : n ≤ most_number

-- ---- writing

-- the bytes of a number up to 65,535: the only ones that are that number (`Promises`)
unfoldable pub encoded : ℕ → List ℕ
encoded n =
    when n <? 128 then n ∷ []
    else when n <? 16384 then (128 + n / 128) ∷ (n % 128) ∷ []
    else (128 + n / 16384) ∷ (128 + n / 128 % 128) ∷ (n % 128) ∷ []

-- numbers one after the other
unfoldable pub sequence_of : List ℕ → List ℕ
sequence_of [] = []
sequence_of (n ∷ ns) = encoded n ++ sequence_of ns

-- the place after b where b fits at a place of s; else that place
unfoldable pub behind : ℕ → List ℕ → List ℕ → ℕ
behind at b s = when (at + length b) ≤? length s then at + length b else at

-- ---- reading

-- the third group, where the two before it have the top bit; a first group over 3 is a number over 65,535
abbrev pub third_at : List ℕ → ℕ → Option (ℕ × ℕ)
third_at s at =
    when length s ≤? (at + 2) then None
    else when 128 ≤? byte_at s (at + 2) then None
    else when 131 <? byte_at s at then None
    else Some ((byte_at s at - 128) * 16384 + (byte_at s (at + 1) - 128) * 128 + byte_at s (at + 2), at + 3)

-- the second group, where the first has the top bit and is not 0
abbrev pub second_at : List ℕ → ℕ → Option (ℕ × ℕ)
second_at s at =
    when length s ≤? (at + 1) then None
    else when byte_at s (at + 1) <? 128 then Some ((byte_at s at - 128) * 128 + byte_at s (at + 1), at + 2)
    else third_at s at

-- R44: the number at a place with the place after it, or that the rules are broken there
unfoldable pub number_at : List ℕ → ℕ → Option (ℕ × ℕ)
number_at s at =
    when length s ≤? at then None
    else when byte_at s at <? 128 then Some (byte_at s at, at + 1)
    else when byte_at s at =? 128 then None
    else second_at s at

-- what goes on from a number that was read, with the place after it
unfoldable pub on_read : {A : Type 0} → A → (ℕ → ℕ → A) → Option (ℕ × ℕ) → A
on_read broken f None = broken
on_read broken f (Some (n, next)) = f n next

-- up to n numbers from a place on, as far as they keep the rules
unfoldable pub numbers_at : ℕ → List ℕ → ℕ → List ℕ
numbers_at zero s at = []
numbers_at (suc n) s at = on_read [] (λ x next. x ∷ numbers_at n s next) (number_at s at)

-- and the place after them
unfoldable pub end_after : ℕ → List ℕ → ℕ → ℕ
end_after zero s at = at
end_after (suc n) s at = on_read at (λ x next. end_after n s next) (number_at s at)
