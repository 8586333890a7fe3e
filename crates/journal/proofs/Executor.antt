-- The executor's steps are lawful: each event is one of the six cases. An event that is not refused has tested that the image is accepted and
-- that the session fits, and these facts are enough: nothing is carried from event to event.
use Prim.Native.Nat.{ℕ, suc}
use mathlib.Core.Path.{◌≡◌, refl, sym, ap, ◌∙◌}
use mathlib.Core.Logic.{◌≢◌, ◌⊎◌, inl, inr}
use mathlib.Core.Bool.{Bool, true, false}
use mathlib.Core.List.{List, Memᴰ}
use native.Mathlib.Omega.{arith}
use lib.ListN.{length}
use borrow.Author.Tests.{eqb-true, eqb-false, ltb-true, ne_eqb}
use Rattle.laws.specs.Choice.{when◌then◌else◌, ◌=?◌, ◌≤?◌}
use Rattle.laws.proofs.Cases.{if_ind, if_true, if_false, by_test, and_l, and_r}
use Rattle.field.specs.Profiles.{profile_of}
use Rattle.field.specs.Values.{bytes_of}
use Rattle.field.specs.Cells.{finished}
use Rattle.field.specs.Sheet.{own_bytes, begun, finished_in}
use Rattle.field.specs.declared.kind.Kind.{Kind}
use Rattle.field.specs.declared.kind.Kind.TheVariants as kinds
use Rattle.field.specs.declared.kind.ImagePlace.{ImagePlace}
use Rattle.field.specs.declared.record.Field.{Field}
use Rattle.field.specs.declared.work.Work.{Work}
use Rattle.keys.specs.declared.press.Pressed.{Pressed}
use Rattle.keys.specs.declared.press.Outcome.{Outcome}
use Rattle.keys.specs.declared.press.Outcome.TheVariants as outcome
use Rattle.field.proofs.Legal.{Legal, legal_true}
use Rattle.keys.proofs.Outcomes.{passed_in, parts_in, Facts, Says, up_says, down_says, left_says, right_says, digit_says, enter_says, passed_start, passed_below}
use Rattle.field.proofs.Apart.{LieApart, finished_beside, finished_read}
use Rattle.cmf.specs.Grammar.{WellFormed}
use Rattle.cmf.specs.Readers.{component_at}
use Rattle.cmf.specs.Places.{components_of, next_editable}
use Rattle.cmf.specs.declared.head.Head.{Head}
use Rattle.std.specs.Prelude.{Option}
use Rattle.acceptance.proofs.Acceptance.{accepted_exactly_when_well_formed, same_fields}
use Rattle.acceptance.proofs.Fields.{others_apart, field_inside}
use Rattle.acceptance.proofs.Reach.{part_of}
use Rattle.session.specs.Events.{up, down, left, right, enter, second, last_digit_key}
use Rattle.session.specs.Fits.{cursor_line, work_fits, visit_fits, mode_fits, session_fits}
use Rattle.session.specs.Answers.{taken, flash, with_idle, is_flash, is_refused}
use Rattle.session.specs.Seconds.{browse_second, entry_second}
use Rattle.session.specs.Browsing.{up_step, down_step, left_step, descended, right_step, visit_at, enter_at, enter_step, browse_step}
use Rattle.session.specs.Passwords.{last_digit, digit_step, entry_step}
use Rattle.session.specs.Visits.{pressed, moved_to, moved_on, followed, followed_sheet, visit_step, visit_sheet}
use Rattle.session.specs.Step.{step_in, sheet_in}
use Rattle.session.specs.declared.session.Mode.{Mode}
use Rattle.session.specs.declared.session.Mode.TheVariants as mode
use Rattle.session.specs.declared.session.Session.{Session}
use Rattle.session.specs.declared.answer.Answer.{Answer}
use Rattle.session.specs.declared.answer.Answer.TheVariants as answer
use Rattle.session.specs.declared.answer.Stepped.{Stepped}
use Rattle.handset.specs.Event.{event_refusal, refused_with, event_step, event_sheet}
use Rattle.handset.proofs.Stepping.{refused_step, refused_sheet, stepped, stepped_sheet, EventGranted, event_granted}
use Rattle.journal.specs.Journal.{answered, ignored, counts}
use Rattle.journal.specs.Rules.{field_at, opener_of, out_of, pressed_out, rules_of, IsField}
use Rattle.journal.specs.Sitting.{Sitting, sitting, next, answer_to}
use Rattle.journal.proofs.Components.{own_place, editable_holds, in_member, EditableIn, by_found, first_editable_in, next_editable_in}
use Rattle.journal.proofs.Reached.{cursor_line_in}
use Rattle.journal.proofs.Steps.{View, away, at, System, Fresh, none, Step, skips, quiet, opens, goes, passes, ends, Lawful}
use Rattle.journal.proofs.Steps as steps

-- ---- keys in a visit

-- a fact of keys that are not ENTER, whatever the test is called
not_enter : {k : Kind} {w : Work} {r : Pressed} (t : Bool) → t ≡ false → Says false k w r → Says t k w r
not_enter t h s = rw h s

is_enter : {k : Kind} {w : Work} {r : Pressed} (t : Bool) → t ≡ true → Says true k w r → Says t k w r
is_enter t h s = rw h s

-- another key's number
other : (e n : ℕ) → e =? n ≡ true → (n ≡ enter → ⊥) → e =? enter ≡ false
other e n h d = ne_eqb e enter (λ q. d (sym (eqb-true e n h) ∙ q))

-- what the outcome of any key says
pub pressed_says : (k : Kind) (w : Work) (e : ℕ) → Says (e =? enter) k w (pressed k w e)
unfolding pressed
pressed_says k w e =
    if_ind P (e =? up) (λ h. not_enter _ (other e up h (λ z. omega arith)) (up_says k w _))
    (λ _. if_ind P (e =? down) (λ h. not_enter _ (other e down h (λ z. omega arith)) (down_says k w _))
    (λ _. if_ind P (e =? left) (λ h. not_enter _ (other e left h (λ z. omega arith)) (left_says k w _))
    (λ _. if_ind P (e =? right) (λ h. not_enter _ (other e right h (λ z. omega arith)) (right_says k w _))
    (λ _. if_ind P (e =? enter) (λ h. is_enter _ h (enter_says k w))
    (λ h. if_ind P (e ≤? last_digit_key) (λ _. not_enter _ h (digit_says k w e)) (λ _. record { facts = refl }))))))
  where
    P : Pressed → Type 0
    P r = Says (e =? enter) k w r

-- 01's count of ENTERs is one more than the parts of the visit
opener_parts : (k : Kind) → opener_of k ≡ suc (parts_in (profile_of k))
unfolding opener_of parts_in profile_of when◌then◌else◌
opener_parts (kinds.Integer f) = refl
opener_parts (kinds.Counter s) = refl
opener_parts (kinds.Time true) = refl
opener_parts (kinds.Time false) = refl
opener_parts (kinds.Date long) = refl
opener_parts (kinds.Switch n) = refl
opener_parts (kinds.Option n w) = refl
opener_parts kinds.Trigger = refl

-- the working copy of a visit that fits is legal, but for a trigger's
pub work_legal : (k : Kind) (w : Work) → work_fits k w ≡ true → (profile_of k).fires ≡ false → Legal k w
unfolding work_fits
work_legal k w h f =
    record { at = ltb-true w.at (profile_of k).cells (and_l _ _ h); cells = legal_true k w (sym (if_false _ _ f) ∙ and_r _ _ h) }

-- ---- the system

module _ (im : List ℕ) where
  abbrev fires : ℕ → Bool
  fires p = (profile_of (field_at im p).kind).fires

  -- the open visit of a field; that of a trigger is none
  abbrev pub view_in : Work → Mode → View Work
  view_in w mode.Browsing = away
  view_in w (mode.Visit p) = when fires p.0 then away else at p.0 w
  view_in w (mode.Password n) = away

  abbrev pub view_of : Session → View Work
  view_of s = view_in s.work s.mode

  abbrev pub executor : System Work Sitting
  executor = record {
    next = next im;
    answer = answer_to im;
    view = λ t. view_of t.session;
    read = λ t q. own_bytes (field_at im q) t.sheet;
    Field = IsField im;
    passed = λ p w. passed_in (profile_of (field_at im p).kind) w;
  }

  -- a step with this result is lawful
  record Right (t : Sitting) (e : ℕ) (r : Stepped) (sheet : List ℕ) : Type 0 where
    right : Step (rules_of im) executor t e (sitting r.session sheet) r.answer

  by_if : {t : Sitting} {e : ℕ} {sheet : List ℕ} (b : Bool) {x y : Stepped} → (b ≡ true → Right t e x sheet) → (b ≡ false → Right t e y sheet)
      → Right t e (when b then x else y) sheet
  by_if {t} {e} {sheet} b f g = if_ind (λ (r : Stepped). Right t e r sheet) b f g

  view_visit : (w : Work) (p : ImagePlace) → fires p.0 ≡ false → view_in w (mode.Visit p) ≡ at p.0 w
  unfolding when◌then◌else◌
  view_visit w p f = rw f

  view_trigger : (w : Work) (p : ImagePlace) → fires p.0 ≡ true → view_in w (mode.Visit p) ≡ away
  unfolding when◌then◌else◌
  view_trigger w p f = rw f

  -- a visit that is opened has just begun
  fresh_at : (s : Session) (sheet : List ℕ) (p : ImagePlace) → IsField im p.0 → Fresh (rules_of im) executor (sitting (visit_at im sheet s p) sheet)
  unfolding begun
  fresh_at s sheet p f = by_test (fires p.0) (λ h. none (view_trigger _ p h)) (λ h. steps.begun p.0 f (view_visit _ p h))

  -- ---- refusals and seconds

  refused_right : (t : Sitting) (e k : ℕ) → Right t e (refused_with t.session k) t.sheet
  refused_right t e k =
      record { right = skips (if_ind (λ (b : Bool). b ≡ true) (e =? second) (λ _. refl) (λ _. refl)) refl (λ q f. refl) }

  -- a second that leaves the visit as it is
  second_right : (t : Sitting) (e : ℕ) (s : Session) → e =? second ≡ true → view_of s ≡ view_of t.session → Right t e (taken s) t.sheet
  second_right t e s h v = record { right = skips (if_true _ _ h) v (λ q f. refl) }

  -- ---- keys

  module _ (t : Sitting) (e : ℕ) (key : e =? second ≡ false) where
    -- a key with an answer that is no refusal goes on the trace
    heard : (a : Answer) → is_refused a ≡ false → ignored (answered e a) ≡ false
    heard a h = if_false _ _ key ∙ h

    -- no visit is open afterwards, and the sheet is as it was
    quiet_taken : (s : Session) → view_of s ≡ away → Right t e (taken s) t.sheet
    quiet_taken s v = record { right = quiet (heard answer.Taken refl) refl v (λ q f. refl) }

    quiet_flash : (s : Session) → view_of s ≡ away → Right t e (flash s) t.sheet
    quiet_flash s v = record { right = quiet (heard answer.Flash refl) refl v (λ q f. refl) }

    -- an ENTER that did not flash counts, and nothing else does
    counts_enter : (a : Answer) → is_flash a ≡ false → e =? enter ≡ true → counts (answered e a) ≡ true
    unfolding when◌then◌else◌
    counts_enter a f h = rw (h, f)

    counts_other : (a : Answer) → e =? enter ≡ false → counts (answered e a) ≡ false
    counts_other a h = if_false _ _ h

    counts_flash : counts (answered e answer.Flash) ≡ false
    unfolding when◌then◌else◌
    counts_flash = by_test (e =? enter) (λ h. rw h) (λ h. rw h)

    -- ---- browsing

    module _ (s : Session) (b : s.mode ≡ mode.Browsing) where
      still : (w : Work) → view_in w s.mode ≡ away
      still w = rw b

      up_right : Right t e (up_step s) t.sheet
      unfolding up_step
      up_right = by_if _ (λ _. quiet_flash _ (still _)) (λ _. quiet_taken _ (still _))

      down_right : Right t e (down_step im s) t.sheet
      unfolding down_step
      down_right = by_if _ (λ _. quiet_taken _ (still _)) (λ _. quiet_flash _ (still _))

      left_right : Right t e (left_step s) t.sheet
      unfolding left_step
      left_right = by_if _ (λ _. quiet_flash _ (still _)) (λ _. quiet_taken _ (still _))

      descended_right : (p : ℕ) → Right t e (descended s p) t.sheet
      unfolding descended
      descended_right p = by_if _ (λ _. quiet_taken _ (still _)) (λ _. quiet_flash _ (still _))

      right_right : Right t e (right_step im s) t.sheet
      unfolding right_step
      right_right = by_if _ (λ _. by_if _ (λ _. quiet_taken _ refl) (λ _. descended_right _)) (λ _. quiet_flash _ (still _))

    -- ---- a password entry: no visit is open before or after

    last_right : (s : Session) (h : Head) (ds : List ℕ) (n : ℕ) → view_of s ≡ away → Right t e (last_digit im s h ds n) t.sheet
    unfolding last_digit
    last_right s h ds n v = by_if _ (λ _. descended_right _ refl _) (λ _. quiet_flash _ refl)

    digit_right : (s : Session) (h : Head) (n d : ℕ) → view_of s ≡ away → Right t e (digit_step im s h n d) t.sheet
    unfolding digit_step
    digit_right s h n d v = by_if _ (λ _. quiet_taken _ refl) (λ _. last_right s h _ _ v)

  -- ---- the step of each mode, for a session that fits an accepted image

  module _ (t : Sitting) (e : ℕ) (g : EventGranted im (length t.sheet) t.session e) where
    abbrev s : Session
    s = t.session

    w : WellFormed im (length t.sheet)
    w = (accepted_exactly_when_well_formed im (length t.sheet)).0 g.granted.accepted

    -- an editable component of the cursor line is a field
    line_known : (q : ℕ) → Memᴰ q (components_of im (cursor_line im s.here)) → (component_at im q).editable ≡ true → Memᴰ (field_at im q) w.fields
    line_known q m h = (part_of (cursor_line_in im (length t.sheet) w s g.granted.fits).line.parts q m).known (editable_holds im q h)

    on_line : (q : ℕ) → Memᴰ q (components_of im (cursor_line im s.here)) → (component_at im q).editable ≡ true → IsField im q
    on_line q m h = record { extent = length t.sheet; formed = w; known = line_known q m h }

    -- ENTER while browsing
    enter_right : e =? enter ≡ true → e =? second ≡ false → s.mode ≡ mode.Browsing → Right t e (enter_step im t.sheet (with_idle s 0)) t.sheet
    unfolding enter_step enter_at
    enter_right h key b =
        by_found (λ (f : Option ImagePlace). Right t e (enter_at im t.sheet (with_idle s 0) f) t.sheet) (first_editable_in im (components_of im (cursor_line im s.here)))
        (λ p m o. record { right = opens (heard t e key answer.Taken refl) refl (counts_enter t e key answer.Taken refl h) (fresh_at (with_idle s 0) t.sheet p (on_line p.0 m o)) (λ q k. refl) })
        (quiet_flash t e key _ (still t e key s b _))

    browse_right : s.mode ≡ mode.Browsing → Right t e (browse_step im t.sheet s e) t.sheet
    unfolding browse_step browse_second
    browse_right b =
        by_if _ (λ h. up_right t e (key_not h (λ z. omega arith)) _ b)
        (λ _. by_if _ (λ h. down_right t e (key_not h (λ z. omega arith)) _ b)
        (λ _. by_if _ (λ h. left_right t e (key_not h (λ z. omega arith)) _ b)
        (λ _. by_if _ (λ h. right_right t e (key_not h (λ z. omega arith)) _ b)
        (λ _. by_if _ (λ h. enter_right h (key_not h (λ z. omega arith)) b)
        (λ _. by_if _ (λ h. seconds h)
        (λ h. quiet_flash t e h _ (still t e h s b _)))))))
      where
        key_not : {n : ℕ} → e =? n ≡ true → (n ≡ second → ⊥) → e =? second ≡ false
        key_not {n} h d = ne_eqb e second (λ q. d (sym (eqb-true e n h) ∙ q))

        still_none : (v : Work) → view_in v s.mode ≡ view_of s
        still_none v = rw b

        seconds : e =? second ≡ true → Right t e (browse_second im s) t.sheet
        seconds h = by_if _ (λ _. second_right t e _ h (still_none _)) (λ _. second_right t e _ h (still_none _))

    -- a password entry
    entry_right : (n : ℕ) → s.mode ≡ mode.Password n → Right t e (entry_step im s n e) t.sheet
    unfolding entry_step entry_second
    entry_right n b =
        by_if _ (λ h. by_if _ (λ _. second_right t e _ h (sym none_open)) (λ _. second_right t e _ h refl))
        (λ h. by_if _ (λ _. quiet_taken t e h _ refl)
        (λ _. by_if _ (λ _. digit_right t e h _ _ n e none_open) (λ _. quiet_flash t e h _ none_open)))
      where
        none_open : view_of s ≡ away
        none_open = rw b

    -- ---- a visit

    mode_fits_lem : (m : Mode) → s.mode ≡ m → mode_fits im s m ≡ true
    unfolding session_fits
    mode_fits_lem m h = rw (← h) (and_r _ _ (and_r _ _ g.granted.fits))

    module _ (p : ImagePlace) (m : s.mode ≡ mode.Visit p) where
      abbrev f : Field
      f = field_at im p.0

      here : visit_fits im (cursor_line im s.here) s.work p.0 ≡ true
      unfolding mode_fits
      here = mode_fits_lem (mode.Visit p) m

      on_this_line : Memᴰ p.0 (components_of im (cursor_line im s.here))
      unfolding visit_fits
      on_this_line = in_member p.0 _ (and_l _ _ here)

      editable : (component_at im p.0).editable ≡ true
      unfolding visit_fits
      editable = and_l _ _ (and_r _ _ (and_r _ _ here))

      work_fits_lem : work_fits f.kind s.work ≡ true
      unfolding visit_fits
      work_fits_lem = and_r _ _ (and_r _ _ (and_r _ _ here))

      known : Memᴰ f w.fields
      known = line_known p.0 on_this_line editable

      pub visited_field : IsField im p.0
      visited_field = on_line p.0 on_this_line editable

      -- the view, as the visit goes on with a working copy
      seen : fires p.0 ≡ false → view_of s ≡ at p.0 s.work
      seen h = rw m (view_visit s.work p h)

      -- the next editable component is on the line too
      next_in : EditableIn im (components_of im (cursor_line im s.here)) (next_editable im p.0)
      unfolding components_of
      next_in = next_editable_in im _ p.0 on_this_line

      -- the next visit has just begun
      moved_fresh : (sheet : List ℕ) → Fresh (rules_of im) executor (sitting (moved_on im sheet (with_idle s 0) p.0) sheet)
      unfolding moved_on moved_to
      moved_fresh sheet =
          by_found (λ (x : Option ImagePlace). Fresh (rules_of im) executor (sitting (moved_to im sheet (with_idle s 0) x) sheet)) next_in
          (λ q i o. fresh_at (with_idle s 0) sheet q (on_line q.0 i o)) (none refl)

      -- another field lies apart
      others : (q : ℕ) → IsField im q → q ≢ p.0 → LieApart f (field_at im q)
      others q k d = go (others_apart im (length t.sheet) w f (field_at im q) known (rw (same_fields im _ _ k.formed w) at k.known))
        where
          go : (f ≡ field_at im q) ⊎ LieApart f (field_at im q) → LieApart f (field_at im q)
          go (inl e) = absurd (d (sym (own_place im q) ∙ ap (λ (x : Field). x.image.0) (sym e) ∙ own_place im p.0))
          go (inr a) = a

      module _ (key : e =? second ≡ false) where
        -- by what the key came to, with the working copy v
        followed_right : (v : Work) (o : Outcome) → pressed_out f.kind s.work e ≡ out_of f.kind s.work v o → Facts (e =? enter) f.kind s.work v o
            → Right t e (followed im t.sheet (with_idle s 0) p f v o) (followed_sheet t.sheet f v o)
        unfolding followed followed_sheet out_of
        followed_right v outcome.Taken h x =
            record {
              right = goes (heard t e key answer.Taken refl) refl (counts_other t e key answer.Taken x.0) p.0 s.work v (seen x.1) (view_visit v p x.1) h x.2 (λ q k. refl);
            }
        followed_right v outcome.Flash h x =
            by_test (fires p.0) (λ z. quiet_flash t e key _ (rw m (view_trigger s.work p z)))
            (λ z. record {
              right = goes (heard t e key answer.Flash refl) refl (counts_flash t e key) p.0 s.work s.work (seen z) (rw m (view_visit s.work p z)) h refl (λ q k. refl);
            })
        followed_right v outcome.NextPart h x =
            record {
              right = passes (heard t e key answer.Taken refl) refl (counts_enter t e key answer.Taken refl x.0) p.0 s.work v (seen x.1) (view_visit v p x.1) h x.2 (λ q k. refl);
            }
        followed_right v outcome.Done h x =
            record {
              right =
                  ends (heard t e key (answer.Finished p) refl) (counts_enter t e key (answer.Finished p) refl x.0) p.0 s.work (bytes_of (finished f.kind v)) refl (seen x.1) h
                  (omega (arith, opener_parts f.kind, x.3, passed_below f.kind s.work (work_legal f.kind s.work work_fits_lem x.1)))
                  (finished_read f v t.sheet (field_inside im (length t.sheet) w f known))
                  (λ q k d. finished_beside f (field_at im q) v t.sheet (others q k d))
                  (moved_fresh (finished_in f v t.sheet));
            }
        followed_right v outcome.Fired h x =
            record { right = quiet (heard t e key (answer.Fired p) refl) refl (rw m (view_trigger s.work p x.1)) (λ q k. refl) }
        followed_right v outcome.Passed h x =
            record { right = opens (heard t e key answer.Taken refl) refl (counts_enter t e key answer.Taken refl x.0) (moved_fresh t.sheet) (λ q k. refl) }

      visit_right : Right t e (visit_step im t.sheet s p e) (visit_sheet im t.sheet s p e)
      unfolding visit_step visit_sheet
      visit_right =
          by_test (e =? second)
          (λ h. rw (if_true {t = e =? second} (taken s) _ h, if_true {t = e =? second} t.sheet _ h) (second_right t e s h refl))
          (λ h. rw (if_false {t = e =? second} (taken s) _ h, if_false {t = e =? second} t.sheet _ h)
          (followed_right h (pressed f.kind s.work e).work (pressed f.kind s.work e).outcome refl (pressed_says f.kind s.work e).facts))

    mode_right : (m : Mode) → s.mode ≡ m → Right t e (step_in im t.sheet s e m) (sheet_in im t.sheet s e m)
    unfolding step_in sheet_in
    mode_right mode.Browsing h = browse_right h
    mode_right (mode.Visit p) h = visit_right p h
    mode_right (mode.Password n) h = entry_right n h

  -- every event
  event_right : (t : Sitting) (e : ℕ) → Right t e (event_step im t.sheet t.session e) (event_sheet im t.sheet t.session e)
  event_right t e =
      let k = event_refusal im (length t.sheet) t.session e in
      by_test (k =? 0)
      (λ z. let h = eqb-true k 0 z in
      rw (← stepped im t.sheet t.session e k refl h, ← stepped_sheet im t.sheet t.session e k refl h)
      (mode_right t e (event_granted im (length t.sheet) t.session e h) t.session.mode refl))
      (λ z. let h = eqb-false k 0 z in
      rw (← refused_step im t.sheet t.session e k refl h, ← refused_sheet im t.sheet t.session e k refl h) (refused_right t e k))

  pub executor_lawful : Lawful (rules_of im) executor
  unfolding next answer_to
  executor_lawful = record { passed_start = λ p b. passed_start (field_at im p).kind _ _; step = λ t e. (event_right t e).right }
