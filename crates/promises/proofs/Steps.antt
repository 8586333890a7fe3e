-- What every Event keeps: the steps are gone through key by key, and each result is a flash of the session that the key has woken, or no flash.
use Prim.Native.Nat.{ℕ, zero, suc, ◌+◌, ◌≤◌, ◌<◌}
use mathlib.Core.Path.{◌≡◌, refl, sym, ap, ◌∙◌}
use mathlib.Core.Logic.{inl, inr}
use mathlib.Core.Bool.{Bool, true, false, false≢true}
use mathlib.Core.List.{List, [], ◌∷◌}
use native.Mathlib.Omega.{arith}
use lib.ListN.{length, set, take, length-take}
use borrow.Author.Tests.{eqb-true, leb-true, ltb-true, ltb-false}
use Rattle.laws.specs.Choice.{when◌then◌else◌, ◌=?◌}
use Rattle.laws.specs.Bytes.{byte_at}
use Rattle.laws.proofs.Cases.{if_ind, if_true, if_false, if_eq, by_test, and_l, and_r}
use Rattle.field.specs.declared.kind.ImagePlace.{ImagePlace}
use Rattle.field.specs.declared.record.Field.{Field}
use Rattle.field.specs.declared.work.Work.{Work}
use Rattle.keys.specs.declared.press.Outcome.{Outcome}
use Rattle.keys.specs.declared.press.Outcome.TheVariants as outcome
use Rattle.cmf.specs.Limits.{prolog_bytes, deepest_table}
use Rattle.cmf.specs.Readers.{head_at}
use Rattle.acceptance.proofs.Acceptance.{accepted_exactly_when_well_formed}
use Rattle.acceptance.proofs.Reach.{Reached, no_levels, top_reached}
use Rattle.session.specs.Events.{last_digit_key, second}
use Rattle.session.specs.Answers.{answer_number, taken, flash, is_flash, with_idle}
use Rattle.session.specs.Fits.{cursor_line, cursor_head, levels_fit, tables_fit, mode_fits, entry_fits, session_fits}
use Rattle.session.specs.Seconds.{browse_second, entry_second}
use Rattle.cmf.specs.Places.{next_editable}
use Rattle.std.specs.Prelude.{Option}
use Rattle.std.specs.Prelude.{Some, None}
use Rattle.session.specs.Browsing.{up_step, down_step, left_step, descended, right_step, enter_at, enter_step, browse_step}
use Rattle.session.specs.Passwords.{right_to, entry_over, last_digit, digit_step, entry_step}
use Rattle.session.specs.Visits.{moved_to, moved_on, followed, followed_sheet, visit_step, visit_sheet}
use Rattle.session.specs.Step.{step_in, sheet_in, step_of}
use Rattle.session.specs.declared.session.Level.{Level}
use Rattle.session.specs.declared.session.Mode.{Mode}
use Rattle.session.specs.declared.session.Mode.TheVariants as mode
use Rattle.session.specs.declared.session.Session.{Session}
use Rattle.session.specs.declared.answer.Answer.{Answer}
use Rattle.session.specs.declared.answer.Answer.TheVariants as answer
use Rattle.session.specs.declared.answer.Stepped.{Stepped}
use Rattle.handset.specs.Event.{event_refusal, event_step, event_answer, event_sheet}
use Rattle.handset.proofs.Stepping.{stepped, EventGranted, event_granted}
use Rattle.journal.proofs.Reached.{level_in}
use Rattle.protected.proofs.Passwords.{head_guarded}
use Rattle.promises.specs.Steps.{Unchanged, EventPromises}
use Rattle.handset.proofs.Answering.{by_refusal}
use Rattle.promises.proofs.Unrefused.{sheet_stays_long}

-- ---- tables end at the eighth

module _ (im : List ℕ) (fields : List Field) (lines : ℕ) where
  -- a submenu of the shown table's cursor line has a level left below the tables that are open
  level_left : (ls : List Level) (left t : ℕ) (here : Level) → Reached im fields left t → levels_fit im lines t ls here ≡ true
      → (cursor_head im here).submenu ≡ true → length ls + 1 < left
  unfolding levels_fit cursor_head
  level_left ls zero t here r h m = no_levels im fields t r
  level_left [] (suc left) t here r h m = go left ((level_in im fields lines left t here r h).below m)
    where
      go : (k : ℕ) → Reached im fields k (cursor_head im here).table.0 → 0 + 1 < suc k
      go zero q = no_levels im fields (cursor_head im here).table.0 q
      go (suc k) q = omega arith
  level_left (l ∷ ls) (suc left) t here r h m =
      omega (arith, level_left ls left (cursor_head im l).table.0 here below (and_r _ _ (and_r _ _ h)) m)
    where
      below : Reached im fields left (cursor_head im l).table.0
      below = (level_in im fields lines left t l r (and_l _ _ h)).below (and_l _ _ (and_r _ _ h))

-- ---- results

module _ (im : List ℕ) (s : Session) (e : ℕ) where
  -- what is promised of a step with result r
  record Kept (r : Stepped) : Type 0 where
    idle : (e ≡ second → ⊥) → r.session.idle ≡ 0
    flash : is_flash r.answer ≡ true → Unchanged im s e r.session

  -- a choice of two results
  by_kept : (t : Bool) {x y : Stepped} → (t ≡ true → Kept x) → (t ≡ false → Kept y) → Kept (when t then x else y)
  by_kept t f g = if_ind Kept t f g

  -- a woken session with another answer than a flash
  heeds : {r : Stepped} → is_flash r.answer ≡ false → r.session.idle ≡ 0 → Kept r
  heeds a i = record { idle = λ _. i; flash = λ h. absurd (false≢true (sym a ∙ h)) }

  -- a second never flashes
  counts : {r : Stepped} → e ≡ second → is_flash r.answer ≡ false → Kept r
  counts q a = record { idle = λ n. absurd (n q); flash = λ h. absurd (false≢true (sym a ∙ h)) }

  -- a flash of the woken session
  flashes : Kept (flash (with_idle s 0))
  flashes = record { idle = λ _. refl; flash = λ _. inl refl }

  -- ---- browsing

  up_kept : Kept (up_step (with_idle s 0))
  unfolding up_step
  up_kept = by_kept _ (λ _. flashes) (λ _. heeds refl refl)

  down_kept : Kept (down_step im (with_idle s 0))
  unfolding down_step
  down_kept = by_kept _ (λ _. heeds refl refl) (λ _. flashes)

  left_kept : Kept (left_step (with_idle s 0))
  unfolding left_step
  left_kept = by_kept _ (λ _. flashes) (λ _. heeds refl refl)

  right_kept : Kept (right_step im (with_idle s 0))
  unfolding right_step descended
  right_kept =
      by_kept _ (λ _. by_kept _ (λ _. heeds refl refl) (λ _. by_kept _ (λ _. heeds refl refl) (λ _. flashes)))
      (λ _. flashes)

  -- ENTER, whatever is found
  found_kept : (sheet : List ℕ) (f : Option ImagePlace) → Kept (enter_at im sheet (with_idle s 0) f)
  unfolding enter_at
  found_kept sheet (Some p) = heeds refl refl
  found_kept sheet None = flashes

  enter_kept : (sheet : List ℕ) → Kept (enter_step im sheet (with_idle s 0))
  unfolding enter_step
  enter_kept sheet = found_kept sheet _

  second_kept : e ≡ second → Kept (browse_second im s)
  unfolding browse_second
  second_kept q = by_kept _ (λ _. counts q refl) (λ _. counts q refl)

  browse_kept : (sheet : List ℕ) → Kept (browse_step im sheet s e)
  unfolding browse_step
  browse_kept sheet =
      by_kept _ (λ _. up_kept)
      (λ _. by_kept _ (λ _. down_kept)
      (λ _. by_kept _ (λ _. left_kept)
      (λ _. by_kept _ (λ _. right_kept)
      (λ _. by_kept _ (λ _. enter_kept sheet)
      (λ _. by_kept _ (λ q. second_kept (eqb-true e second q)) (λ _. flashes))))))

  -- ---- a visit

  -- the next visit, or browsing
  moved_to_lem : (sheet : List ℕ) (f : Option ImagePlace) → (moved_to im sheet (with_idle s 0) f).idle ≡ 0
  unfolding moved_to
  moved_to_lem sheet (Some p) = refl
  moved_to_lem sheet None = refl

  moved_on_lem : (sheet : List ℕ) (p : ℕ) → (moved_on im sheet (with_idle s 0) p).idle ≡ 0
  unfolding moved_on
  moved_on_lem sheet p = moved_to_lem sheet (next_editable im p)

  followed_kept : (sheet : List ℕ) (p : ImagePlace) (f : Field) (w : Work) (o : Outcome)
      → Kept (followed im sheet (with_idle s 0) p f w o)
  unfolding followed
  followed_kept sheet p f w outcome.Taken = heeds refl refl
  followed_kept sheet p f w outcome.Flash = flashes
  followed_kept sheet p f w outcome.NextPart = heeds refl refl
  followed_kept sheet p f w outcome.Done = heeds refl (moved_on_lem _ p.0)
  followed_kept sheet p f w outcome.Fired = heeds refl refl
  followed_kept sheet p f w outcome.Passed = heeds refl (moved_on_lem sheet p.0)

  visit_kept : (sheet : List ℕ) (p : ImagePlace) → Kept (visit_step im sheet s p e)
  unfolding visit_step
  visit_kept sheet p = by_kept _ (λ q. counts (eqb-true e second q) refl) (λ _. followed_kept sheet p _ _ _)

  -- ---- an entry of n digits, fewer than the password of the line has, in a session whose line may have a submenu

  module _ (n : ℕ) (m : s.mode ≡ mode.Password n) (few : n < byte_at im (cursor_head im s.here).password.0)
      (room : length s.above ≡ 7 → s.outer + 1 < deepest_table) where
    module _ (d : e ≤ last_digit_key) (l : n + 1 ≡ byte_at im (cursor_head im s.here).password.0) where
      abbrev typed : List ℕ
      typed = set s.typed n e

      -- the entry fails
      fails : (length s.above ≡ 7 → right_to im ((cursor_head im s.here).password.0 + 1) typed (n + 1) ≡ false)
          → Kept (flash (entry_over (with_idle s 0) typed))
      fails w = record {
        idle = λ _. refl;
        flash = λ _. inr (record { before = n; entry = m; digit = d; last = l; wrong = w; after = refl });
      }

      -- the last digit; where all are right the submenu opens, since a table is left below
      last_kept : Kept (last_digit im (with_idle s 0) (cursor_head im s.here) typed (n + 1))
      unfolding last_digit descended
      last_kept =
          by_kept _
          (λ _. by_kept _ (λ _. heeds refl refl)
          (λ deep. fails (λ z. absurd (omega (arith, room z, ltb-false (s.outer + 1) deepest_table deep)))))
          (λ w. fails (λ _. w))

    digit_kept : e ≤ last_digit_key → Kept (digit_step im (with_idle s 0) (cursor_head im s.here) n e)
    unfolding digit_step
    digit_kept d =
        by_kept _ (λ _. heeds refl refl)
        (λ l. last_kept d (omega (arith, ltb-false (n + 1) (byte_at im (cursor_head im s.here).password.0) l)))

    wait_kept : e ≡ second → Kept (entry_second im s)
    unfolding entry_second
    wait_kept q = by_kept _ (λ _. counts q refl) (λ _. counts q refl)

    entry_kept : Kept (entry_step im s n e)
    unfolding entry_step
    entry_kept =
        by_kept _ (λ q. wait_kept (eqb-true e second q))
        (λ _. by_kept _ (λ _. heeds refl refl)
        (λ _. by_kept _ (λ d. digit_kept (leb-true e 9 d)) (λ _. flashes)))

-- ---- every event

-- the password of an entry that fits, and that a table may be opened below its line
record Asks (im : List ℕ) (s : Session) (n : ℕ) : Type 0 where
  few : n < byte_at im (cursor_head im s.here).password.0
  room : length s.above ≡ 7 → s.outer + 1 < deepest_table

module _ (im sheet : List ℕ) (s : Session) (e : ℕ) (g : EventGranted im (length sheet) s e) where
  -- an event that is not refused finds so, since image and session were tested
  asked : (n : ℕ) → s.mode ≡ mode.Password n → Asks im s n
  unfolding session_fits tables_fit mode_fits entry_fits cursor_head
  asked n m =
      let fits = g.granted.fits in
      let entry : mode_fits im s (mode.Password n) ≡ true = rw m at (and_r _ _ (and_r _ _ fits)) in
      let w = (accepted_exactly_when_well_formed im (length sheet)).0 g.granted.accepted in
      let tables = and_l _ _ (and_r _ _ fits) in
      record {
        few = ltb-true n (byte_at im (head_at im (cursor_line im s.here)).password.0) (and_l _ _ (and_r _ _ entry));
        room = λ z.
            let o = ltb-true s.outer deepest_table (and_l _ _ tables) in
            let d =
            level_left im w.fields s.lines (take s.outer s.above) deepest_table prolog_bytes s.here
            (top_reached im (length sheet) w) (and_r _ _ tables)
            ((head_guarded im (cursor_line im s.here)).submenu (and_l _ _ entry)) in
            omega (arith, length-take s.outer s.above);
      }

  -- by the mode
  mode_kept : (m : Mode) → s.mode ≡ m → Kept im s e (step_in im sheet s e m)
  unfolding step_in
  mode_kept mode.Browsing q = browse_kept im s e sheet
  mode_kept (mode.Visit p) q = visit_kept im s e sheet p
  mode_kept (mode.Password n) q = let a = asked n q in entry_kept im s e n q a.few a.room

-- ---- the sheet

-- only a finished visit changes it
followed_writes : (im sheet : List ℕ) (s : Session) (p : ImagePlace) (f : Field) (w : Work) (o : Outcome)
    → ((q : ImagePlace) → (followed im sheet s p f w o).answer ≡ answer.Finished q → ⊥) → followed_sheet sheet f w o ≡ sheet
unfolding followed followed_sheet
followed_writes im sheet s p f w outcome.Taken n = refl
followed_writes im sheet s p f w outcome.Flash n = refl
followed_writes im sheet s p f w outcome.NextPart n = refl
followed_writes im sheet s p f w outcome.Done n = absurd (n p refl)
followed_writes im sheet s p f w outcome.Fired n = refl
followed_writes im sheet s p f w outcome.Passed n = refl

visit_writes : (im sheet : List ℕ) (s : Session) (p : ImagePlace) (e : ℕ)
    → ((q : ImagePlace) → (visit_step im sheet s p e).answer ≡ answer.Finished q → ⊥) → visit_sheet im sheet s p e ≡ sheet
unfolding visit_step visit_sheet
visit_writes im sheet s p e n =
    by_test (e =? second) (λ h. if_true _ _ h)
    (λ h. if_false _ _ h
    ∙ followed_writes im sheet (with_idle s 0) p _ _ _
    (λ q a. n q (ap (λ (r : Stepped). r.answer) (if_false _ _ h) ∙ a)))

mode_writes : (im sheet : List ℕ) (s : Session) (e : ℕ) (m : Mode)
    → ((q : ImagePlace) → (step_in im sheet s e m).answer ≡ answer.Finished q → ⊥) → sheet_in im sheet s e m ≡ sheet
unfolding step_in sheet_in
mode_writes im sheet s e mode.Browsing n = refl
mode_writes im sheet s e (mode.Visit p) n = visit_writes im sheet s p e n
mode_writes im sheet s e (mode.Password k) n = refl

-- ---- numbers of answers

-- 1 is the number of a flash alone
told_flash : (a : Answer) → answer_number a ≡ answer_number answer.Flash → is_flash a ≡ true
unfolding answer_number
told_flash answer.Taken h = absurd (omega arith)
told_flash answer.Flash h = refl
told_flash (answer.Finished p) h = absurd (omega arith)
told_flash (answer.Fired p) h = absurd (omega arith)
told_flash (answer.Refused k) h = absurd (omega arith)

-- ---- Event

module _ (im sheet : List ℕ) (s : Session) (e : ℕ) where
  -- what a step that is not refused keeps
  step_kept : event_refusal im (length sheet) s e ≡ 0 → Kept im s e (step_of im sheet s e)
  step_kept h = mode_kept im sheet s e (event_granted im (length sheet) s e h) s.mode refl

  event_flash : is_flash (event_step im sheet s e).answer ≡ true → Unchanged im s e (event_step im sheet s e).session
  event_flash =
      by_refusal im sheet s e (λ (r : Stepped) (x : List ℕ). is_flash r.answer ≡ true → Unchanged im s e r.session)
      (λ h. (step_kept h).flash) (λ _ h. absurd (false≢true h))

  event_writes : ((p : ImagePlace) → (event_step im sheet s e).answer ≡ answer.Finished p → ⊥) → event_sheet im sheet s e ≡ sheet
  event_writes =
      by_refusal im sheet s e (λ (r : Stepped) (x : List ℕ). ((p : ImagePlace) → r.answer ≡ answer.Finished p → ⊥) → x ≡ sheet)
      (λ _. mode_writes im sheet s e s.mode) (λ _ _. refl)

  visit_waits : (m : Mode) (p : ImagePlace) → m ≡ mode.Visit p → e ≡ second → step_in im sheet s e m ≡ taken s
  unfolding step_in visit_step
  visit_waits m p q h = rw q (if_eq e second _ _ h)

  -- no second writes
  second_writes : (m : Mode) → e ≡ second → sheet_in im sheet s e m ≡ sheet
  unfolding sheet_in visit_sheet
  second_writes mode.Browsing q = refl
  second_writes (mode.Visit p) q = if_eq e second _ _ q
  second_writes (mode.Password n) q = refl

  pub event_promises : EventPromises im sheet s e
  unfolding event_answer
  event_promises = record {
    flash = λ h. event_flash (told_flash _ h);
    writes = λ n. event_writes (λ p a. n p (ap answer_number a));
    flash_sheet = λ h. event_writes (λ p a. absurd (false≢true (sym (ap is_flash a) ∙ told_flash _ h)));
    sheet_length =
        by_refusal im sheet s e (λ (r : Stepped) (x : List ℕ). length x ≡ length sheet) (λ _. sheet_stays_long im sheet s e) (λ _. refl);
    wakes = λ h n. rw (← stepped im sheet s e _ refl h) ((step_kept h).idle n);
    visit_second = λ h q p m. sym (stepped im sheet s e _ refl h) ∙ visit_waits s.mode p m q;
    second_sheet = λ q. by_refusal im sheet s e (λ (r : Stepped) (x : List ℕ). x ≡ sheet) (λ _. second_writes s.mode q) (λ _. refl);
  }
