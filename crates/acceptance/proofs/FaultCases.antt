-- 01's starred cases of refusals by the definition alone, with no check: nine bytes are 2, a prolog and nothing after it 6, the other byte order 5.
-- Every fact about the bytes is a computation.
use Prim.Native.Nat.{ℕ, ◌≤◌}
use mathlib.Core.Path.{refl}
use mathlib.Core.List.{List, [], ◌∷◌}
use lib.Dec.{lit≤}
use native.Mathlib.Omega.{arith}
use Rattle.cmf.specs.Grammar.{Prolog, Every, Apart}
use Rattle.cmf.specs.Forms.{Cut}
use Rattle.acceptance.specs.Faults.{Structure, TitleFault, Applies, InTableOver, InTable, PrologFault, Refused}

abbrev nine : List ℕ
nine = 0x43 ∷ 0x4d ∷ 0x46 ∷ 0 ∷ 4 ∷ 0 ∷ 0 ∷ 0 ∷ 0xff ∷ []

abbrev ten : List ℕ
ten = 0x43 ∷ 0x4d ∷ 0x46 ∷ 0 ∷ 4 ∷ 0 ∷ 0 ∷ 0 ∷ 0xff ∷ 0xfe ∷ []

abbrev turned : List ℕ
turned = 0x43 ∷ 0x4d ∷ 0x46 ∷ 0 ∷ 4 ∷ 0 ∷ 0 ∷ 0 ∷ 0xfe ∷ 0xff ∷ []

-- no row of the prolog is below 2
from_two : (im : List ℕ) (j : ℕ) → PrologFault im j → 2 ≤ j
from_two im j (PrologFault.short x) = lit≤ tt
from_two im j (PrologFault.long x) = lit≤ tt
from_two im j (PrologFault.id_c x) = lit≤ tt
from_two im j (PrologFault.id_m x) = lit≤ tt
from_two im j (PrologFault.id_f x) = lit≤ tt
from_two im j (PrologFault.major x) = lit≤ tt
from_two im j (PrologFault.minor x) = lit≤ tt
from_two im j (PrologFault.mark_low x) = lit≤ tt
from_two im j (PrologFault.mark_high x) = lit≤ tt

pub nine_bytes : (extent : ℕ) → Refused nine extent 2
nine_bytes extent = Refused.prolog (record { applies = PrologFault.short (lit≤ tt); least = from_two nine })

-- of the other byte order only row 5 applies
from_five : (j : ℕ) → PrologFault turned j → 5 ≤ j
from_five j (PrologFault.short x) = absurd (omega arith)
from_five j (PrologFault.long x) = absurd (omega arith)
from_five j (PrologFault.id_c x) = absurd (x refl)
from_five j (PrologFault.id_m x) = absurd (x refl)
from_five j (PrologFault.id_f x) = absurd (x refl)
from_five j (PrologFault.major x) = absurd (x refl)
from_five j (PrologFault.minor x) = absurd (x refl)
from_five j (PrologFault.mark_low x) = lit≤ tt
from_five j (PrologFault.mark_high x) = lit≤ tt

pub other_order : (extent : ℕ) → Refused turned extent 5
other_order extent = Refused.prolog (record { applies = PrologFault.mark_low (λ e. omega arith); least = from_five })

-- after a good prolog the first structure is the top table's title, and its length byte is needed
prolog : Prolog ten
prolog = record {
  least = lit≤ tt;
  most = lit≤ tt;
  id_c = refl;
  id_m = refl;
  id_f = refl;
  major = refl;
  minor = refl;
  mark_low = refl;
  mark_high = refl;
}

from_six : (j : ℕ) → TitleFault ten 8 10 j → 6 ≤ j
from_six j (TitleFault.cut c) = lit≤ tt
from_six j (TitleFault.deep e) = lit≤ tt

pub nothing_after : (extent : ℕ) → Refused ten extent 6
unfolding InTable Applies
nothing_after extent =
    Refused.structure (Structure.title 8 10) [] 0 prolog InTableOver.first
    (record { few_lines = omega arith; few_fields = lit≤ tt; inside = Every.none; apart = Apart.none })
    (record { applies = TitleFault.cut (Cut.here (lit≤ tt)); least = from_six })
