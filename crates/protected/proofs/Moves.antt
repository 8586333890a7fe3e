-- Each event is one of six moves: three that type nothing more and show no deeper table, one digit more, or a table shown below a line, which
-- either is not protected or is opened by the last of its digits. By the definitions of the steps, choice by choice.
use Prim.Native.Nat.{ℕ, suc, ◌+◌, ◌≤◌, ◌<◌}
use mathlib.Core.Path.{◌≡◌, refl, ap, ◌∙◌}
use mathlib.Core.Bool.{Bool, true, false}
use mathlib.Core.List.{List, [], ◌∷◌}
use native.Mathlib.Omega.{arith}
use native.Mathlib.Numerals.{add-one}
use lib.ListN.{length, set, take, length-set}
use borrow.Author.Tests.{eqb-true, leb-true, ltb-true, ltb-false}
use Rattle.laws.specs.Choice.{when◌then◌else◌, ◌=?◌, ◌≤?◌}
use Rattle.laws.specs.Bytes.{byte_at}
use Rattle.laws.proofs.Cases.{if_ind, if_true, if_false, if_eq, if_ne, if_le, if_gt, and_l, and_r}
use Rattle.field.specs.declared.kind.ImagePlace.{ImagePlace}
use Rattle.field.specs.declared.record.Field.{Field}
use Rattle.field.specs.declared.work.Work.{Work}
use Rattle.keys.specs.declared.press.Outcome.{Outcome}
use Rattle.keys.specs.declared.press.Outcome.TheVariants as outcome
use Rattle.cmf.specs.Readers.{text_bytes, head_at}
use Rattle.std.specs.Prelude.{Option}
use Rattle.std.specs.Prelude.{Some, None}
use Rattle.acceptance.proofs.Acceptance.{accepted_exactly_when_well_formed}
use Rattle.session.specs.Events.{last_digit_key, right, second}
use Rattle.session.specs.Answers.{with_idle}
use Rattle.session.specs.Fits.{cursor_line, cursor_head, mode_fits, entry_fits, session_fits}
use Rattle.session.specs.Seconds.{browse_second, entry_second}
use Rattle.session.specs.Browsing.{up_step, down_step, left_step, descended, right_step, enter_at, enter_step, browse_step}
use Rattle.session.specs.Passwords.{right_to, entry_over, last_digit, digit_step, entry_step}
use Rattle.session.specs.Visits.{moved_to, moved_on, followed, visit_step}
use Rattle.session.specs.Step.{step_in}
use Rattle.session.specs.declared.session.Mode.{Mode}
use Rattle.session.specs.declared.session.Mode.TheVariants as mode
use Rattle.session.specs.declared.session.Session.{Session}
use Rattle.session.specs.declared.answer.Answer.{Answer}
use Rattle.session.specs.declared.answer.Answer.TheVariants as answer
use Rattle.session.specs.declared.answer.Stepped.{Stepped}
use Rattle.handset.specs.Event.{event_refusal, event_step}
use Rattle.handset.proofs.Stepping.{EventGranted, event_granted}
use Rattle.journal.specs.Journal.{answered, ignored}
use Rattle.protected.specs.Protected.{digit_more, entry_more, entry_open, as_digits}
use Rattle.journal.proofs.Reached.{cursor_line_in}
use Rattle.protected.proofs.Passwords.{PasswordThere, head_guarded, typed_right}

-- ---- the keys of an entry, an event more

module _ (ks : List ℕ) (e : ℕ) where
  -- a flash of another key, a refused event and a second are left out
  unheard_flash : e ≤? last_digit_key ≡ false → entry_more ks (answered e answer.Flash) ≡ ks
  unfolding entry_more
  unheard_flash h =
      if_ind (λ (l : List ℕ). l ≡ ks) (ignored (answered e answer.Flash)) (λ _. refl) (λ _. if_false _ _ h ∙ if_true _ _ refl)

  unheard_refused : (k : ℕ) → entry_more ks (answered e (answer.Refused k)) ≡ ks
  unfolding entry_more
  unheard_refused k = if_true _ _ (if_ind (λ (b : Bool). b ≡ true) (e =? second) (λ _. refl) (λ _. refl))

  unheard_second : (a : Answer) → e =? second ≡ true → entry_more ks (answered e a) ≡ ks
  unfolding entry_more
  unheard_second a h = if_true _ _ (if_true _ _ h)

  -- RIGHT begins anew
  pub right_begins : e ≡ right → entry_more ks (answered e answer.Taken) ≡ right ∷ []
  unfolding entry_more
  right_begins h =
      if_false _ _ (if_ne e second _ _ (λ q. omega arith)) ∙ if_gt e last_digit_key _ _ (omega arith) ∙ if_false _ _ refl ∙ if_eq e right _ _ h

  -- a digit is one more
  pub digit_typed : e ≤ last_digit_key → entry_more ks (answered e answer.Taken) ≡ digit_more ks e
  unfolding entry_more
  digit_typed h = if_false _ _ (if_ne e second _ _ (λ q. omega arith)) ∙ if_le e last_digit_key _ _ h ∙ if_false _ _ refl

-- ---- moves

-- the levels above the shown one stay, or the last of them go
pub record Kept (s z : Session) : Type 0 where
  pub above : z.above ≡ s.above
  pub outer : z.outer ≤ s.outer
  pub typed : length z.typed ≡ length s.typed

-- the same level is shown, and those above it stay
pub record Same (s z : Session) : Type 0 where
  pub here : z.here ≡ s.here
  pub outer : z.outer ≡ s.outer
  pub kept : Kept s z

-- the level shown goes above
pub record Deeper (s z : Session) : Type 0 where
  pub above : z.above ≡ set s.above s.outer s.here
  pub outer : z.outer ≡ s.outer + 1
  pub room : s.outer < 7
  pub typed : length z.typed ≡ length s.typed

-- in an entry of n digits another is taken
pub record Digit (s : Session) (e : ℕ) (r : Stepped) (n : ℕ) : Type 0 where
  pub mode : s.mode ≡ mode.Password n
  pub few : n < 8
  pub key : e ≤ 9
  pub taken : r.answer ≡ answer.Taken
  pub typed : r.session.typed ≡ set s.typed n e

-- the six moves from a session by an event with result r
pub data Move (im : List ℕ) (s : Session) (e : ℕ) (r : Stepped) : Type 0 where
  -- no entry is open after it
  rests : entry_open r.session.mode ≡ false → Kept s r.session → Move im s e r
  -- an entry begins
  begins : e ≡ right → r.answer ≡ answer.Taken → r.session.mode ≡ mode.Password 0 → Same s r.session → Move im s e r
  -- nothing is typed, and an open entry is as it was
  passes : ((ks : List ℕ) → entry_more ks (answered e r.answer) ≡ ks) → r.session.mode ≡ s.mode → r.session.typed ≡ s.typed
      → Same s r.session → Move im s e r
  -- a digit that is not the last
  types : (n : ℕ) → Digit s e r n → r.session.mode ≡ mode.Password (suc n) → Same s r.session → Move im s e r
  -- below a line that is not protected
  enters : (cursor_head im s.here).protected ≡ false → entry_open r.session.mode ≡ false → Deeper s r.session → Move im s e r
  -- below a protected line, by the last of its digits
  unlocks : (n : ℕ) → Digit s e r n → entry_open r.session.mode ≡ false → Deeper s r.session
      → as_digits (take (suc n) (set s.typed n e)) ≡ text_bytes im (cursor_head im s.here).password.0
      → r.session.here.table.0 ≡ (cursor_head im s.here).table.0 → Move im s e r

module _ (im : List ℕ) (s : Session) (e : ℕ) where
  -- a choice of two results
  by_move : (t : Bool) {x y : Stepped} → (t ≡ true → Move im s e x) → (t ≡ false → Move im s e y) → Move im s e (when t then x else y)
  by_move t f g = if_ind (Move im s e) t f g

  -- a session with the same levels, or fewer
  still : {r : Stepped} → entry_open r.session.mode ≡ false → r.session.above ≡ s.above → r.session.outer ≤ s.outer → r.session.typed ≡ s.typed
      → Move im s e r
  still m a o t = Move.rests m (record { above = a; outer = o; typed = ap length t })

  -- a session that shows the same level
  same : {z : Session} → z.here ≡ s.here → z.outer ≡ s.outer → z.above ≡ s.above → length z.typed ≡ length s.typed → Same s z
  same h o a t = record { here = h; outer = o; kept = record { above = a; outer = omega (arith, o); typed = t } }

  -- ---- browsing, and visits
  module _ (b : entry_open s.mode ≡ false) where
    -- the same mode, with the same levels, or fewer
    stays : {r : Stepped} → r.session.mode ≡ s.mode → r.session.above ≡ s.above → r.session.outer ≤ s.outer → r.session.typed ≡ s.typed
        → Move im s e r
    stays m a o t = still (ap entry_open m ∙ b) a o t

    -- the cursor keys move the cursor, or show the table above
    up_moves : Move im s e (up_step (with_idle s 0))
    unfolding up_step
    up_moves = by_move _ (λ _. stays refl refl (omega arith) refl) (λ _. stays refl refl (omega arith) refl)

    down_moves : Move im s e (down_step im (with_idle s 0))
    unfolding down_step
    down_moves = by_move _ (λ _. stays refl refl (omega arith) refl) (λ _. stays refl refl (omega arith) refl)

    left_moves : Move im s e (left_step (with_idle s 0))
    unfolding left_step
    left_moves = by_move _ (λ _. stays refl refl (omega arith) refl) (λ _. stays refl refl (omega arith) refl)

    -- ENTER opens a visit
    entered_moves : (sheet : List ℕ) (f : Option ImagePlace) → Move im s e (enter_at im sheet (with_idle s 0) f)
    unfolding enter_at
    entered_moves sheet (Some p) = still refl refl (omega arith) refl
    entered_moves sheet None = stays refl refl (omega arith) refl

    enter_moves : (sheet : List ℕ) → Move im s e (enter_step im sheet (with_idle s 0))
    unfolding enter_step
    enter_moves sheet = entered_moves sheet _

    -- a second shows the top, or counts
    second_moves : Move im s e (browse_second im s)
    unfolding browse_second
    second_moves = by_move _ (λ _. stays refl refl (omega arith) refl) (λ _. stays refl refl (omega arith) refl)

    -- below a line that is not protected
    below_moves : (t : ℕ) → (cursor_head im s.here).protected ≡ false → Move im s e (descended (with_idle s 0) t)
    unfolding descended
    below_moves t h =
        by_move _ (λ l. Move.enters h b (record { above = refl; outer = refl; room = omega (arith, ltb-true (s.outer + 1) 8 l); typed = refl }))
        (λ _. stays refl refl (omega arith) refl)

    -- RIGHT begins an entry on a protected line, and goes below another
    right_moves : e ≡ right → Move im s e (right_step im (with_idle s 0))
    unfolding right_step
    right_moves q =
        by_move _
        (λ _. by_move _ (λ _. Move.begins q refl refl (same refl refl refl refl)) (λ h. below_moves _ h))
        (λ _. stays refl refl (omega arith) refl)

    -- every event of browsing
    browse_moves : (sheet : List ℕ) → Move im s e (browse_step im sheet s e)
    unfolding browse_step
    browse_moves sheet =
        by_move _ (λ _. up_moves)
        (λ _. by_move _ (λ _. down_moves)
        (λ _. by_move _ (λ _. left_moves)
        (λ _. by_move _ (λ q. right_moves (eqb-true e right q))
        (λ _. by_move _ (λ _. enter_moves sheet)
        (λ _. by_move _ (λ _. second_moves)
        (λ _. stays refl refl (omega arith) refl))))))

    -- a visit that is over leads to another, or to browsing
    moved_to_lem : (sheet : List ℕ) (f : Option ImagePlace) (a : Answer) → Move im s e (record { session = moved_to im sheet (with_idle s 0) f; answer = a })
    unfolding moved_to
    moved_to_lem sheet (Some p) a = still refl refl (omega arith) refl
    moved_to_lem sheet None a = still refl refl (omega arith) refl

    moved_on_lem : (sheet : List ℕ) (p : ℕ) (a : Answer) → Move im s e (record { session = moved_on im sheet (with_idle s 0) p; answer = a })
    unfolding moved_on
    moved_on_lem sheet p a = moved_to_lem sheet _ a

    -- by the outcome of a key
    followed_moves : (sheet : List ℕ) (p : ImagePlace) (f : Field) (w : Work) (o : Outcome) → Move im s e (followed im sheet (with_idle s 0) p f w o)
    unfolding followed
    followed_moves sheet p f w outcome.Taken = still refl refl (omega arith) refl
    followed_moves sheet p f w outcome.Flash = stays refl refl (omega arith) refl
    followed_moves sheet p f w outcome.NextPart = still refl refl (omega arith) refl
    followed_moves sheet p f w outcome.Done = moved_on_lem _ p.0 _
    followed_moves sheet p f w outcome.Fired = stays refl refl (omega arith) refl
    followed_moves sheet p f w outcome.Passed = moved_on_lem sheet p.0 _

    -- every event of a visit
    visit_moves : (sheet : List ℕ) (p : ImagePlace) → Move im s e (visit_step im sheet s p e)
    unfolding visit_step
    visit_moves sheet p = by_move _ (λ _. stays refl refl (omega arith) refl) (λ _. followed_moves sheet p _ _ _)

  -- ---- an entry of n digits, fewer than the password of the line has
  module _ (z : length s.typed ≡ 8) (n : ℕ) (m : s.mode ≡ mode.Password n) (w : PasswordThere im (cursor_head im s.here).password.0)
      (few : n < byte_at im (cursor_head im s.here).password.0) where
    -- a second ends it, or counts
    wait_moves : e =? second ≡ true → Move im s e (entry_second im s)
    unfolding entry_second
    wait_moves h =
        by_move _ (λ _. still refl refl (omega arith) refl) (λ _. Move.passes (λ ks. unheard_second ks e answer.Taken h) refl refl (same refl refl refl refl))

    module _ (k : e ≤ 9) where
      abbrev typed : List ℕ
      typed = set s.typed n e

      -- wrong digits, or a table too deep: the entry is over
      over : {r : Stepped} → entry_open r.session.mode ≡ false → r.session.above ≡ s.above → r.session.outer ≤ s.outer → r.session.typed ≡ typed
          → Move im s e r
      over q a o t = Move.rests q (record { above = a; outer = o; typed = ap length t ∙ length-set s.typed n e })

      -- the last digit, and all are right
      unlock_moves : byte_at im (cursor_head im s.here).password.0 ≡ suc n → right_to im ((cursor_head im s.here).password.0 + 1) typed (suc n) ≡ true
          → Move im s e (descended (entry_over (with_idle s 0) typed) (cursor_head im s.here).table.0)
      unfolding descended
      unlock_moves q h =
          by_move _
          (λ l. Move.unlocks n (record { mode = m; few = omega arith; key = k; taken = refl; typed = refl }) refl
          (record { above = refl; outer = refl; room = omega (arith, ltb-true (s.outer + 1) 8 l); typed = length-set s.typed n e })
          (typed_right im _ typed n w q (length-set s.typed n e ∙ z) h) refl)
          (λ _. over refl refl (omega arith) refl)

      -- the last digit
      last_moves : byte_at im (cursor_head im s.here).password.0 ≡ suc n → Move im s e (last_digit im (with_idle s 0) (cursor_head im s.here) typed (n + 1))
      unfolding last_digit
      last_moves q = rw (add-one n) (by_move _ (λ h. unlock_moves q h) (λ _. over refl refl (omega arith) refl))

      -- a digit, the last or another
      digit_moves : Move im s e (digit_step im (with_idle s 0) (cursor_head im s.here) n e)
      unfolding digit_step
      digit_moves =
          by_move _
          (λ _. Move.types n (record { mode = m; few = omega arith; key = k; taken = refl; typed = refl }) (rw add-one)
          (same refl refl refl (length-set s.typed n e)))
          (λ h. last_moves (omega (arith, ltb-false (n + 1) (byte_at im (cursor_head im s.here).password.0) h)))

    -- every event of an entry
    entry_moves : Move im s e (entry_step im s n e)
    unfolding entry_step
    entry_moves =
        by_move _ (λ h. wait_moves h)
        (λ _. by_move _ (λ _. still refl refl (omega arith) refl)
        (λ _. by_move _ (λ h. digit_moves (leb-true e 9 h))
        (λ h. Move.passes (λ ks. unheard_flash ks e h) refl refl (same refl refl refl refl))))

-- ---- every event

-- the password of an entry that fits
record Asks (im : List ℕ) (s : Session) (n : ℕ) : Type 0 where
  there : PasswordThere im (cursor_head im s.here).password.0
  few : n < byte_at im (cursor_head im s.here).password.0

module _ (im sheet : List ℕ) (s : Session) (e : ℕ) (z : length s.typed ≡ 8) where
  -- an event that is not refused finds such a password, since image and session were tested
  asked : (n : ℕ) → s.mode ≡ mode.Password n → EventGranted im (length sheet) s e → Asks im s n
  unfolding session_fits mode_fits entry_fits cursor_head
  asked n m g =
      let fits = g.granted.fits in
      let entry : mode_fits im s (mode.Password n) ≡ true = rw m at (and_r _ _ (and_r _ _ fits)) in
      let w = (accepted_exactly_when_well_formed im (length sheet)).0 g.granted.accepted in
      record {
        there = (head_guarded im (cursor_line im s.here)).guarded (and_l _ _ entry) (cursor_line_in im (length sheet) w s fits).line.good;
        few = ltb-true n (byte_at im (head_at im (cursor_line im s.here)).password.0) (and_l _ _ (and_r _ _ entry));
      }

  -- by the mode
  mode_moves : (m : Mode) → s.mode ≡ m → EventGranted im (length sheet) s e → Move im s e (step_in im sheet s e m)
  unfolding step_in
  mode_moves mode.Browsing q g = browse_moves im s e (ap entry_open q) sheet
  mode_moves (mode.Visit p) q g = visit_moves im s e (ap entry_open q) sheet p
  mode_moves (mode.Password n) q g = let a = asked n q g in entry_moves im s e z n q a.there a.few

  -- every event; a refused one leaves all as it was
  pub event_moves : Move im s e (event_step im sheet s e)
  unfolding event_step
  event_moves =
      by_move im s e _
      (λ h. mode_moves s.mode refl (event_granted im (length sheet) s e (eqb-true (event_refusal im (length sheet) s e) 0 h)))
      (λ _. Move.passes (λ ks. unheard_refused ks e (event_refusal im (length sheet) s e)) refl refl (same im s e refl refl refl refl))
