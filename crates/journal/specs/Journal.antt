-- 01, The book of visits: the journal of a sitting. It is fed the image, by its visit rules, and the events
-- with the answers that they got; it sees nothing of a session.
use Rattle.std.specs.Prelude.{ℕ, zero, suc, ◌≡◌, Bool, true, false, List, [], ◌∷◌, ◌++◌, reverse}
use Rattle.laws.specs.Choice.{when◌then◌else◌, ◌=?◌}
use Rattle.session.specs.Events.{enter, second}
use Rattle.session.specs.Answers.{is_flash, is_refused}
use Rattle.session.specs.declared.answer.Answer.{Answer}
use Rattle.session.specs.declared.answer.Answer.TheVariants as answer

-- ---- what it is fed

-- an event with its answer
pub record Answered : Type 0 where
  pub event : ℕ
  pub answer : Answer

abbrev pub answered : ℕ → Answer → Answered
answered e a = record { event = e; answer = a }

-- what a key makes of an open visit: it goes on with a working copy, or its last ENTER stores bytes
pub data Out (W : Type 0) : Type 0 where
  on : W → Out W
  stored : List ℕ → Out W

-- the visit rules of an image's fields, each field by its image place: its default bytes; how a visit starts
-- from the field's bytes; what a key makes of the visit; and which ENTER opened a visit, counted back from
-- the one that finished it, that one first and none that flashed
pub record Rules (W : Type 0) : Type 0 where
  pub default : ℕ → List ℕ
  pub start : ℕ → List ℕ → W
  pub press : ℕ → W → ℕ → Out W
  pub opener : ℕ → ℕ

-- ---- events with their answers

-- an ENTER that did not flash
abbrev pub counts : Answered → Bool
counts x = when x.event =? enter then (when is_flash x.answer then false else true) else false

-- 01: what is left out: seconds, and events that were refused
abbrev pub ignored : Answered → Bool
ignored x = when x.event =? second then true else is_refused x.answer

-- ---- the trace (01's tape), newest first

-- the ENTER that is counted last opened the visit: it is left out, and all before it
abbrev pub keep : ℕ → Answered → List Answered → List Answered
keep zero x r = []
keep (suc n) x r = x ∷ r

-- the trace after the n-th ENTER that did not flash, counted back; all of it where there are fewer
abbrev pub after : ℕ → List Answered → List Answered
after zero t = []
after (suc n) [] = []
after (suc n) (x ∷ t) = when counts x then keep n x (after n t) else x ∷ after (suc n) t

-- its keys
abbrev pub keys_of : List Answered → List ℕ
keys_of [] = []
keys_of (x ∷ t) = x.event ∷ keys_of t

-- ---- a finished visit: its keys, oldest first, and nothing more; 01 tells visits apart by them alone

module _ {W : Type 0} (R : Rules W) (p : ℕ) where
  -- a key more; what is stored stays
  abbrev pub onward : Out W → ℕ → Out W
  onward (on w) k = R.press p w k
  onward (stored v) k = stored v

  -- the keys of a visit one after another
  abbrev pub presses : Out W → List ℕ → Out W
  presses o [] = o
  presses o (k ∷ ks) = presses (onward o k) ks

  -- the bytes that a visit leaves; b are those from before. A finished visit has stored, with its last key
  -- (`Finishes`)
  abbrev pub leaves : List ℕ → Out W → List ℕ
  leaves b (on w) = b
  leaves b (stored v) = v

  -- 01: a visit turns the field's bytes into those that its last ENTER stores
  abbrev pub visited : List ℕ → List ℕ → List ℕ
  visited b keys = leaves b (presses (on (R.start p b)) keys)

  -- finished visits one after another
  abbrev pub all_visited : List ℕ → List (List ℕ) → List ℕ
  all_visited b [] = b
  all_visited b (v ∷ vs) = all_visited (visited b v) vs

  -- a visit that starts from the bytes b is finished: its last key is an ENTER that stores, and no key before
  -- it does
  pub record Finishes (b keys : List ℕ) : Type 0 where
    pub before : List ℕ
    pub last : ℕ
    pub copy : W
    pub all : keys ≡ before ++ (last ∷ [])
    pub key : last ≡ enter
    pub goes : presses (on (R.start p b)) before ≡ on copy
    pub stores : R.press p copy last ≡ stored (visited b keys)

  -- and so are visits one after another
  abbrev pub AllFinish : List ℕ → List (List ℕ) → Type 0
  AllFinish b [] = Unit {0}
  AllFinish b (v ∷ vs) = Finishes b v × AllFinish (visited b v) vs

-- ---- the journal

-- the trace; each field's finished visits, oldest first; each field's bytes. Fields are named by their image
-- places
pub record Journal : Type 0 where
  pub trace : List Answered
  pub visits : ℕ → List (List ℕ)
  pub bytes : ℕ → List ℕ

-- f with another value at p
abbrev pub update : {A : Type 0} → (ℕ → A) → ℕ → A → ℕ → A
update f p a q = when q =? p then a else f q

-- an event goes on the trace, with its answer
abbrev pub noted : Answered → Journal → Journal
noted x j = record { trace = x ∷ j.trace; visits = j.visits; bytes = j.bytes }

module _ {W : Type 0} (R : Rules W) where
  -- 01: a finished visit is the trace after the ENTER that opened it, with the ENTER that finished it
  abbrev pub finished_keys : ℕ → Journal → List ℕ
  finished_keys p j = reverse (keys_of (after (R.opener p) j.trace))

  abbrev pub with_visit : ℕ → List ℕ → Journal → Journal
  with_visit p keys j = record {
    trace = j.trace;
    visits = update j.visits p (j.visits p ++ (keys ∷ []));
    bytes = update j.bytes p (visited R p (j.bytes p) keys);
  }

  -- an answer is dealt with; it is on the trace. 01: on finished, the field at its place gets a finished
  -- visit
  abbrev pub settled : Answer → Journal → Journal
  settled answer.Taken j = j
  settled answer.Flash j = j
  settled (answer.Finished p) j = with_visit p.0 (finished_keys p.0 j) j
  settled (answer.Fired p) j = j
  settled (answer.Refused n) j = j

  -- one event more
  abbrev pub fed : Journal → Answered → Journal
  fed j x = when ignored x then j else settled x.answer (noted x j)

  -- events one after another
  abbrev pub all_fed : Journal → List Answered → Journal
  all_fed j [] = j
  all_fed j (x ∷ xs) = all_fed (fed j x) xs

  -- 01: at first nothing is on the trace, and each field has its default
  abbrev pub empty : Journal
  empty = record { trace = []; visits = λ p. []; bytes = R.default }

  -- the journal of a list of events with their answers, oldest first
  abbrev pub journal_of : List Answered → Journal
  journal_of xs = all_fed empty xs
