-- 01, Keys, password: a protected line opens its submenu only after its own digits. Which digits these were
-- is told from the events and their answers alone, and which line it was from the level that was shown
-- meanwhile. That a delay ends an entry is not said here: it is a rule of the steps.
use Rattle.std.specs.Prelude.{ℕ, ◌+◌, ◌≤◌, ◌<◌, ◌≡◌, Bool, true, false, List, [], ◌∷◌, ◌++◌, map, get_or}
use Rattle.laws.specs.Choice.{when◌then◌else◌, ◌=?◌, ◌≤?◌}
use Rattle.cmf.specs.Readers.{text_bytes}
use Rattle.session.specs.Answers.{is_flash}
use Rattle.session.specs.Session.{no_level}
use Rattle.session.specs.Events.{last_digit_key, right}
use Rattle.session.specs.Fits.{cursor_head}
use Rattle.laws.specs.Digits.{digit0}
use Rattle.session.specs.declared.session.Level.{Level}
use Rattle.session.specs.declared.session.Mode.{Mode}
use Rattle.session.specs.declared.session.Mode.TheVariants as mode
use Rattle.session.specs.declared.session.Session.{Session}
use Rattle.session.specs.declared.answer.Answer.TheVariants as answer
use Rattle.journal.specs.Journal.{Answered, ignored}
use Rattle.journal.specs.Sitting.{Sitting, next, answer_to, played, answered_in}

-- ---- the keys of a password entry: none, or a RIGHT and the digits taken since

-- a digit more; without the RIGHT of an entry it is left out
abbrev pub digit_more : List ℕ → ℕ → List ℕ
digit_more [] d = []
digit_more (k ∷ ks) d = k ∷ (ks ++ (d ∷ []))

-- an event more: seconds and refused events are left out; a digit that flashed ends the entry; of the other
-- keys those that flashed are left out, RIGHT begins anew, and any other ends the entry
unfoldable pub entry_more : List ℕ → Answered → List ℕ
entry_more ks x =
    when ignored x then ks
    else when x.event ≤? last_digit_key then (when is_flash x.answer then [] else digit_more ks x.event)
    else when is_flash x.answer then ks
    else when x.event =? right then right ∷ []
    else []

-- events one after another, oldest first; ks were the keys before them
unfoldable pub entry_from : List ℕ → List Answered → List ℕ
entry_from ks [] = ks
entry_from ks (x ∷ xs) = entry_from (entry_more ks x) xs

-- the keys of the entry that some events lead to
abbrev pub entry_keys : List Answered → List ℕ
entry_keys xs = entry_from [] xs

-- digit keys as characters
abbrev pub as_digits : List ℕ → List ℕ
as_digits ds = map (λ (d : ℕ). digit0 + d) ds

-- ---- an entry on a line

-- a password entry is open
abbrev pub entry_open : Mode → Bool
entry_open mode.Browsing = false
entry_open (mode.Visit p) = false
entry_open (mode.Password n) = true

-- it is open on the cursor line of level l, with k levels above
pub record InEntry (k : ℕ) (l : Level) (s : Session) : Type 0 where
  pub here : s.here ≡ l
  pub outer : s.outer ≡ k
  pub mode : entry_open s.mode ≡ true

-- from t on, before each of the events es, it is open so
abbrev pub StaysInEntry : List ℕ → ℕ → Level → Sitting → List ℕ → Type 0
StaysInEntry im k l t [] = Unit {0}
StaysInEntry im k l t (e ∷ es) = InEntry k l t.session × StaysInEntry im k l (next im t e) es

-- the events es, which follow on t, end with an entry on the cursor line of level l, with k levels above: a
-- RIGHT on that line, and events that came while the entry was open; by their answers its keys are a RIGHT
-- and the digits ds
pub record EndsWithEntry (im : List ℕ) (t : Sitting) (es : List ℕ) (k : ℕ) (l : Level)
    (ds : List ℕ) : Type 0 where
  pub earlier : List ℕ
  pub keys : List ℕ
  pub all : es ≡ earlier ++ (right ∷ keys)
  pub line : (played im t earlier).session.here ≡ l
  pub depth : (played im t earlier).session.outer ≡ k
  pub stays : StaysInEntry im k l (next im (played im t earlier) right) keys
  pub typed : entry_keys (answered_in im (played im t earlier) (right ∷ keys)) ≡ right ∷ ds

-- ---- what is promised

-- after the events es, which follow on t, the event e opened l's cursor line by its digits: they were typed
-- in an entry on that line, and e was the last of them; it showed the line's submenu, and level l went above
-- as level k
pub record OpenedByDigits (im : List ℕ) (t : Sitting) (es : List ℕ) (e k : ℕ) (l : Level) : Type 0 where
  pub digits : List ℕ
  pub entry : EndsWithEntry im t (es ++ (e ∷ [])) k l digits
  pub password : as_digits digits ≡ text_bytes im (cursor_head im l).password.0
  pub last : e ≤ last_digit_key
  pub taken : answer_to im (played im t es) e ≡ answer.Taken
  pub shown : (next im (played im t es) e).session.here.table.0 ≡ (cursor_head im l).table.0
  pub deep : (next im (played im t es) e).session.outer ≡ k + 1
  pub level : get_or (next im (played im t es) e).session.above k no_level ≡ l

-- from t on, through the events es, more than k tables are open above the shown one
abbrev pub StaysBelow : List ℕ → ℕ → Sitting → List ℕ → Type 0
StaysBelow im k t [] = k < t.session.outer
StaysBelow im k t (e ∷ es) = (k < t.session.outer) × StaysBelow im k (next im t e) es

-- one of the events es, which follow on t, opened l's cursor line by its digits, after those before it;
-- through the rest the session stayed below level k
pub record Unlocked (im : List ℕ) (t : Sitting) (es : List ℕ) (k : ℕ) (l : Level) : Type 0 where
  pub before : List ℕ
  pub opener : ℕ
  pub rest : List ℕ
  pub all : es ≡ before ++ (opener ∷ rest)
  pub opened : OpenedByDigits im t before opener k l
  pub stays : StaysBelow im k (next im (played im t before) opener) rest
