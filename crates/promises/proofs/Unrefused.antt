-- Nothing is refused in a sitting: Open's session fits, each event keeps it so and leaves the sheet as long as it was, and the check of an image
-- looks at no more of the sheet than its length.
use Prim.Native.Nat.{ℕ, ◌*◌, ◌≤◌}
use mathlib.Core.Path.{◌≡◌, refl, sym, ap, ◌∙◌}
use mathlib.Core.Bool.{true, false}
use mathlib.Core.List.{List, [], ◌∷◌}
use native.Mathlib.Omega.{arith}
use lib.ListN.{length}
use borrow.Author.Tests.{eq-eqb, le-leb, lt-leb}
use Rattle.laws.specs.Choice.{◌=?◌}
use Rattle.laws.proofs.Cases.{if_ind, if_eq, and_l}
use Rattle.laws.proofs.Frame.{length_put}
use Rattle.field.specs.Values.{bytes_of}
use Rattle.field.specs.Cells.{finished}
use Rattle.field.specs.Sheet.{default_written, finished_in}
use Rattle.field.specs.declared.record.Field.{Field}
use Rattle.field.specs.declared.work.Work.{Work}
use Rattle.keys.specs.declared.press.Outcome.{Outcome}
use Rattle.keys.specs.declared.press.Outcome.TheVariants as outcome
use Rattle.cmf.specs.Grammar.{WellFormed}
use Rattle.cmf.specs.Places.{fields_of}
use Rattle.acceptance.specs.Check.{refusal_of}
use Rattle.acceptance.proofs.Acceptance.{accepted_exactly_when_well_formed}
use Rattle.session.specs.Session.{opened}
use Rattle.session.specs.Events.{second}
use Rattle.session.specs.Fits.{shape_fits, session_fits}
use Rattle.session.specs.Answers.{with_idle, is_refused}
use Rattle.session.specs.Browsing.{browse_step}
use Rattle.session.specs.Visits.{followed_sheet, visit_sheet}
use Rattle.session.specs.Step.{step_in, sheet_in, step_of, sheet_of}
use Rattle.session.specs.declared.session.Mode.{Mode}
use Rattle.session.specs.declared.session.Mode.TheVariants as mode
use Rattle.session.specs.declared.session.Session.{Session}
use Rattle.session.specs.declared.answer.Stepped.{Stepped}
use Rattle.handset.specs.Refusals.{session_refusal}
use Rattle.handset.specs.Open.{open_refusal, open_answer, open_sheet, defaults_written}
use Rattle.handset.specs.Event.{event_refusal, event_step, event_sheet}
use Rattle.handset.specs.Draw.{draw_refusal}
use Rattle.handset.proofs.Ordering.{next_given, holding, failing, none_before, none_unless}
use Rattle.handset.proofs.Stepping.{stepped}
use Rattle.handset.proofs.AfterOpen.{opened_fits}
use Rattle.journal.specs.Sitting.{Sitting, begun_with, next, answer_to, played}
use Rattle.promises.specs.Unrefused.{NothingRefused}
use Rattle.promises.proofs.Fitting.{Sized, Good, good_of, fits_of, Keeps, by_keeps, idle_good, up_keeps, down_keeps, left_keeps, second_keeps}
use Rattle.promises.proofs.FittingEntries.{right_keeps, entry_keeps}
use Rattle.promises.proofs.FittingVisits.{enter_keeps, visit_keeps}
use Rattle.handset.proofs.Answering.{mode_plain}

-- what a step keeps: the session fits, for the same display
pub record StillFits (im : List ℕ) (s z : Session) : Type 0 where
  pub fits : session_fits im z ≡ true
  pub sized : Sized z
  pub columns : z.columns ≡ s.columns
  pub lines : z.lines ≡ s.lines

-- ---- the session after an event

module _ (im : List ℕ) (c l : ℕ) (shape : shape_fits c l ≡ true) (n : ℕ) (w : WellFormed im n) (s : Session) (g : Good im c l s) (sheet : List ℕ) (e : ℕ) where
  -- browsing
  browse_keeps : s.mode ≡ mode.Browsing → Keeps im c l (browse_step im sheet s e)
  unfolding browse_step
  browse_keeps b =
      let z = idle_good im c l s g 0 in
      by_keeps im c l _ (λ _. up_keeps im c l (with_idle s 0) z b shape)
      (λ _. by_keeps im c l _ (λ _. down_keeps im c l (with_idle s 0) z b shape)
      (λ _. by_keeps im c l _ (λ _. left_keeps im c l (with_idle s 0) z b)
      (λ _. by_keeps im c l _ (λ _. right_keeps im c l shape n w (with_idle s 0) z b)
      (λ _. by_keeps im c l _ (λ _. enter_keeps im c l shape n w (with_idle s 0) z sheet)
      (λ _. by_keeps im c l _ (λ _. second_keeps im c l s g b shape) (λ _. record { good = z }))))))

  -- by the mode
  mode_keeps : (m : Mode) → s.mode ≡ m → Keeps im c l (step_in im sheet s e m)
  unfolding step_in
  mode_keeps mode.Browsing h = browse_keeps h
  mode_keeps (mode.Visit p) h = visit_keeps im c l shape n w s g sheet p e h
  mode_keeps (mode.Password k) h = entry_keeps im c l shape n w s g k e h

-- the display of a session that fits
shape_of : (im : List ℕ) (s : Session) → session_fits im s ≡ true → shape_fits s.columns s.lines ≡ true
unfolding session_fits
shape_of im s h = and_l _ _ h

-- 01, A session fits: every event keeps a session that fits an accepted image fitting, whatever the sheet holds and whatever the event's number is
pub step_fits : (im sheet : List ℕ) (s : Session) (e : ℕ) → refusal_of im (length sheet) ≡ 0 → session_fits im s ≡ true → Sized s
    → StillFits im s (step_of im sheet s e).session
step_fits im sheet s e a h z =
    let shape = shape_of im s h in
    let w = (accepted_exactly_when_well_formed im (length sheet)).0 a in
    let g = (mode_keeps im s.columns s.lines shape (length sheet) w s (good_of im s z h) sheet e s.mode refl).good in
    record { fits = fits_of im _ _ _ shape g; sized = g.sized; columns = g.columns; lines = g.lines }

-- ---- the sheet after an event

-- a finished visit leaves the sheet's length
finished_long : (f : Field) (v : Work) (sheet : List ℕ) → length (finished_in f v sheet) ≡ length sheet
unfolding finished_in
finished_long f v sheet = length_put f.sheet.0 (bytes_of (finished f.kind v)) sheet

-- and so does a key in a visit, whatever its outcome
followed_long : (sheet : List ℕ) (f : Field) (v : Work) (o : Outcome) → length (followed_sheet sheet f v o) ≡ length sheet
unfolding followed_sheet
followed_long sheet f v outcome.Taken = refl
followed_long sheet f v outcome.Flash = refl
followed_long sheet f v outcome.NextPart = refl
followed_long sheet f v outcome.Done = finished_long f v sheet
followed_long sheet f v outcome.Fired = refl
followed_long sheet f v outcome.Passed = refl

-- the sheet of every mode
mode_long : (im sheet : List ℕ) (s : Session) (e : ℕ) (m : Mode) → length (sheet_in im sheet s e m) ≡ length sheet
unfolding sheet_in visit_sheet
mode_long im sheet s e mode.Browsing = refl
mode_long im sheet s e (mode.Visit p) =
    if_ind (λ (x : List ℕ). length x ≡ length sheet) (e =? second) (λ _. refl) (λ _. followed_long sheet _ _ _)
mode_long im sheet s e (mode.Password k) = refl

-- no event changes the length of the sheet
pub sheet_stays_long : (im sheet : List ℕ) (s : Session) (e : ℕ) → length (sheet_of im sheet s e) ≡ length sheet
sheet_stays_long im sheet s e = mode_long im sheet s e s.mode

-- so an accepted image stays accepted
pub stays_accepted : (im sheet : List ℕ) (s : Session) (e : ℕ) → refusal_of im (length sheet) ≡ 0 → refusal_of im (length (sheet_of im sheet s e)) ≡ 0
stays_accepted im sheet s e a = rw (sheet_stays_long im sheet s e) a

-- ---- sittings

-- what holds after Open and every event
record Holds (im : List ℕ) (c l n : ℕ) (t : Sitting) : Type 0 where
  good : Good im c l t.session
  long : length t.sheet ≡ n

module _ (im : List ℕ) (c l : ℕ) (shape : shape_fits c l ≡ true) (n : ℕ) (a : refusal_of im n ≡ 0) where
  -- an event more; a refused one leaves all as it was
  next_holds : (t : Sitting) (e : ℕ) → Holds im c l n t → Holds im c l n (next im t e)
  unfolding next event_step event_sheet
  next_holds t e h = record {
    good =
        if_ind (λ (r : Stepped). Good im c l r.session) _
        (λ _. (mode_keeps im c l shape n ((accepted_exactly_when_well_formed im n).0 a) t.session h.good t.sheet e t.session.mode refl).good) (λ _. h.good);
    long = if_ind (λ (x : List ℕ). length x ≡ n) _ (λ _. sheet_stays_long im t.sheet t.session e ∙ h.long) (λ _. h.long);
  }

  -- and so a list of events
  played_holds : (es : List ℕ) (t : Sitting) → Holds im c l n t → Holds im c l n (played im t es)
  unfolding played
  played_holds [] t h = h
  played_holds (e ∷ es) t h = played_holds es (next im t e) (next_holds t e h)

  -- ---- where it holds nothing is refused

  module _ (t : Sitting) (h : Holds im c l n t) where
    -- the session fits
    fits : session_fits im t.session ≡ true
    fits = fits_of im c l t.session shape h.good

    -- neither image nor session is refused
    session_passes : session_refusal im (length t.sheet) t.session ≡ 0
    unfolding session_refusal
    session_passes = next_given _ _ (rw h.long a) ∙ holding 12 _ fits

    -- no event is refused
    event_passes : (e : ℕ) → e ≤ second → event_refusal im (length t.sheet) t.session e ≡ 0
    unfolding event_refusal
    event_passes e k = next_given _ _ session_passes ∙ holding 13 _ (le-leb e second k)

    -- and its answer, that of the step, is no refusal
    event_answers : (e : ℕ) → e ≤ second → is_refused (answer_to im t e) ≡ false
    unfolding answer_to
    event_answers e k =
        ap (λ (r : Stepped). is_refused r.answer) (sym (stepped im t.sheet t.session e _ refl (event_passes e k)))
        ∙ (mode_plain im t.sheet t.session e t.session.mode).given

    -- all together
    nothing_refused : NothingRefused im c l t
    unfolding event_refusal draw_refusal
    nothing_refused = record {
      fits = fits;
      columns = h.good.columns;
      lines = h.good.lines;
      events = event_passes;
      answers = event_answers;
      no_event = λ e k. next_given _ _ session_passes ∙ failing 13 _ (lt-leb e second k);
      draw = next_given _ _ session_passes ∙ holding 1 _ (eq-eqb (c * l) (t.session.columns * t.session.lines) (rw (h.good.columns, h.good.lines)));
    }

-- ---- Open

-- defaults leave the sheet's length
defaults_long : (fs : List Field) (s : List ℕ) → length (defaults_written fs s) ≡ length s
unfolding defaults_written default_written
defaults_long [] s = refl
defaults_long (f ∷ fs) s = defaults_long fs (default_written f s) ∙ length_put f.sheet.0 (bytes_of f.default) s

-- Open's session
opened_good : (im : List ℕ) (c l : ℕ) → shape_fits c l ≡ true → Good im c l (opened c l)
unfolding opened
opened_good im c l h = good_of im (opened c l) (record { above = refl; typed = refl; cells = refl }) (opened_fits im c l h)

module _ (im sheet : List ℕ) (columns lines : ℕ) (accepted : open_refusal im (length sheet) columns lines ≡ 0) where
  -- what Open has tested
  shape : shape_fits columns lines ≡ true
  unfolding open_refusal
  shape = none_unless 1 _ (λ z. omega arith) (none_before _ _ accepted).0

  image_accepted : refusal_of im (length sheet) ≡ 0
  unfolding open_refusal
  image_accepted = (none_before _ _ accepted).1

  -- what holds after it
  begun_holds : Holds im columns lines (length sheet) (begun_with im sheet columns lines)
  unfolding begun_with open_answer open_sheet
  begun_holds = record {
    good = rw (if_eq (open_refusal im (length sheet) columns lines) 0 _ _ accepted) (opened_good im columns lines shape);
    long = rw (if_eq (open_refusal im (length sheet) columns lines) 0 _ _ accepted) (defaults_long (fields_of im) sheet);
  }

  -- after a successful Open nothing is refused, whatever the events are: the session fits, every event from 0 to 16 is answered, and so is every
  -- Draw with a picture of the display's size
  pub never_refused : (es : List ℕ) → NothingRefused im columns lines (played im (begun_with im sheet columns lines) es)
  never_refused es =
      nothing_refused im columns lines shape (length sheet) image_accepted _
      (played_holds im columns lines shape (length sheet) image_accepted es (begun_with im sheet columns lines) begun_holds)

  -- and the sheet keeps its length, from Open on
  pub opened_long : length (open_sheet im sheet columns lines) ≡ length sheet
  unfolding begun_with
  opened_long = begun_holds.long

  pub played_long : (es : List ℕ) → length (played im (begun_with im sheet columns lines) es).sheet ≡ length sheet
  played_long es =
      (played_holds im columns lines shape (length sheet) image_accepted es (begun_with im sheet columns lines) begun_holds).long
