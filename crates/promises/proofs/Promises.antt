-- The three demands: each part is a theorem of another file, or an equation of a call's definition.
use Prim.Native.Nat.{ℕ, ◌+◌, ◌*◌, ◌≤◌, ◌<◌}
use mathlib.Core.Path.{◌≡◌, refl, sym, ap, ◌∙◌}
use mathlib.Core.Logic.{◌⊎◌, inl, inr}
use mathlib.Core.Bool.{Bool, true, false, false≢true}
use mathlib.Core.List.Memᴰ
use mathlib.Core.List.{List, [], ◌∷◌, map, Memᴰ}
use native.Mathlib.Omega.{arith}
use Rattle.std.specs.Prelude.{Option, None, Some}
use lib.ListN.{length}
use borrow.Author.Tests.{eqb-true, eqb-false, lt-ltb, ltb-true}
use Rattle.laws.specs.Choice.{when◌then◌else◌, ◌and◌, ◌=?◌, ◌<?◌, ◌≤?◌}
use Rattle.laws.specs.Parts.{part_at}
use Rattle.laws.proofs.Cases.{by_test, if_true, if_false, if_eq, if_ne, and_i, and_l, and_r}
use Rattle.field.specs.Values.{bytes_of}
use Rattle.field.specs.Sheet.{size_of}
use Rattle.field.specs.declared.record.Field.{Field}
use Rattle.field.proofs.Apart.{LieApart}
use Rattle.cmf.specs.Grammar.{Holds, WellFormed}
use Rattle.cmf.specs.Places.{field_places, is_in}
use Rattle.acceptance.specs.Check.{refusal_of}
use Rattle.acceptance.proofs.Acceptance.{accepted_exactly_when_well_formed, fields_are}
use Rattle.acceptance.proofs.Faulty.{refused_exactly_when}
use Rattle.acceptance.proofs.Fields.{every_in, all_in_image, others_apart}
use Rattle.session.specs.Events.{second}
use Rattle.session.specs.Answers.{answer_number}
use Rattle.session.specs.Fits.{shape_fits, session_fits}
use Rattle.session.specs.declared.session.Session.{Session}
use Rattle.session.specs.declared.answer.Stepped.{Stepped}
use Rattle.session.proofs.Closed.{closed_never_fits}
use Rattle.picture.specs.Cursor as cursor
use Rattle.picture.specs.declared.cursor.EditCursor.{EditCursor}
use Rattle.handset.specs.Refusals.{◌before◌, ◌unless◌, session_refusal}
use Rattle.handset.specs.Event.{event_refusal, event_answer}
use Rattle.handset.specs.Open.{open_refusal, open_answer, open_sheet}
use Rattle.handset.specs.OptionText.{items_in, text_refusal}
use Rattle.handset.specs.Draw.{draw_refusal, draw_cursor, drawn_picture}
use Rattle.handset.proofs.Ordering.{first_given, next_given, holding, failing, none_before, none_unless}
use Rattle.handset.proofs.Drawing.{refused_cursor, refused_picture, drawn_cursor, drawn_picture_lem}
use Rattle.handset.proofs.Stepping.{refused_step, refused_sheet, stepped, stepped_sheet}
use Rattle.handset.proofs.AfterOpen.{others_stay}
use Rattle.handset.proofs.Finding.{text_none, place_none, place_some}
use Rattle.handset.proofs.Items.{item_is, first_item, items_in_turn}
use Rattle.journal.specs.Journal.{all_visited}
use Rattle.journal.specs.Rules.{field_at, rules_of, IsField, Beside}
use Rattle.journal.specs.Sitting.{begun_with}
use Rattle.promises.specs.Promises.{Promises}
use Rattle.promises.specs.Demand1.{Demand1}
use Rattle.promises.specs.Demand2.{FieldPromises, Demand2}
use Rattle.promises.specs.Demand3.{Demand3, Candidate, start, visits_at, bytes_at}
use Rattle.journal.proofs.Sittings.{formed, at_default, sheet_holds_journal, default_changed_by_own_visits, own_visits_finish}
use Rattle.journal.proofs.Beside.{played_apart}
use Rattle.protected.proofs.Protected.{only_after_its_digits, every_protected_line_was_opened_by_its_digits}
use Rattle.promises.proofs.InRange.{ends_in_range, ends_real}
use Rattle.promises.proofs.Unrefused.{never_refused, opened_long, played_long}
use Rattle.handset.proofs.Answering.{event_told, told_apart}
use Rattle.promises.proofs.Lines.{cursors_agree}
use Rattle.promises.proofs.Steps.{event_promises}
use Rattle.promises.proofs.Pictures.{draw_promises}
use Rattle.promises.proofs.Starred.{starred_as_listed}

-- ---- the order of refusals, as choices

-- a test after a number
one_test : (r a : ℕ) (t : Bool) → r before (a unless t) ≡ (when r =? 0 then (when t then 0 else a) else r)
unfolding ◌before◌ ◌unless◌
one_test r a t = refl

-- and another after both
two_tests : (r a b : ℕ) (t u : Bool) → (a ≡ 0 → ⊥) → (r before (a unless t)) before (b unless u) ≡ (when r =? 0 then (when t then (when u then 0 else b) else a) else r)
unfolding ◌unless◌
two_tests r a b t u h =
    by_test (r =? 0)
    (λ z. let e = eqb-true r 0 z in
    rw (if_true {t = r =? 0} (when t then (when u then 0 else b) else a) r z, next_given r (when t then 0 else a) e)
    (by_test t (λ y. rw (if_true {t = t} (when u then 0 else b) a y, if_true {t = t} 0 a y) (next_given 0 _ refl))
    (λ y. rw (if_false {t = t} (when u then 0 else b) a y, if_false {t = t} 0 a y) (first_given a _ h))))
    (λ z. let e = eqb-false r 0 z in
    rw (if_false {t = r =? 0} (when t then (when u then 0 else b) else a) r z, first_given r (when t then 0 else a) e) (first_given r _ e))

open_order : (im : List ℕ) (extent columns lines : ℕ) → open_refusal im extent columns lines ≡ (when shape_fits columns lines then refusal_of im extent else 1)
unfolding open_refusal
open_order im extent columns lines =
    by_test (shape_fits columns lines)
    (λ z. rw (if_true {t = shape_fits columns lines} (refusal_of im extent) 1 z, holding 1 (shape_fits columns lines) z) (next_given 0 _ refl))
    (λ z. rw (if_false {t = shape_fits columns lines} (refusal_of im extent) 1 z, failing 1 (shape_fits columns lines) z) (first_given 1 _ (λ e. omega arith)))

event_order : (im : List ℕ) (extent : ℕ) (s : Session) (e : ℕ)
    → event_refusal im extent s e
    ≡ (when refusal_of im extent =? 0 then (when session_fits im s then (when e ≤? second then 0 else 13) else 12) else refusal_of im extent)
unfolding event_refusal session_refusal
event_order im extent s e = two_tests (refusal_of im extent) 12 13 (session_fits im s) (e ≤? second) (λ z. omega arith)

draw_order : (im : List ℕ) (extent : ℕ) (s : Session) (n : ℕ)
    → draw_refusal im extent s n
    ≡ (when refusal_of im extent =? 0 then (when session_fits im s then (when n =? s.columns * s.lines then 0 else 1) else 12) else refusal_of im extent)
unfolding draw_refusal session_refusal
draw_order im extent s n = two_tests (refusal_of im extent) 12 1 (session_fits im s) (n =? s.columns * s.lines) (λ z. omega arith)

text_order : (im : List ℕ) (extent place item : ℕ)
    → text_refusal im extent place item
    ≡ (when refusal_of im extent =? 0
    then (when is_in place (field_places im) and (item <? items_in (field_at im place).kind) then 0 else 14)
    else refusal_of im extent)
unfolding text_refusal
text_order im extent place item = one_test (refusal_of im extent) 14 _

-- ---- demand 1

pub demand_1 : (im : List ℕ) → Demand1 im
unfolding open_answer open_sheet event_answer draw_cursor drawn_picture cursor.cursor_place
demand_1 im = record {
  numbers = record {
    of_image = refused_exactly_when im;
    of_open = open_order im;
    of_event = event_order im;
    of_draw = draw_order im;
    of_text = text_order im;
  };
  never_fits = closed_never_fits im;
  refused_open = λ sheet columns lines h. record {
    tells = refl;
    closes = if_ne (open_refusal im (length sheet) columns lines) 0 _ _ h;
    keeps = if_ne (open_refusal im (length sheet) columns lines) 0 _ _ h;
  };
  refused_event = λ sheet s e h. record {
    returns = sym (refused_step im sheet s e _ refl h);
    tells = ap (λ (r : Stepped). answer_number r.answer) (sym (refused_step im sheet s e _ refl h));
    keeps = sym (refused_sheet im sheet s e _ refl h);
  };
  refused_draw = λ sheet s picture h. record {
    nowhere = sym (refused_cursor im sheet s picture _ refl h);
    keeps = sym (refused_picture im sheet s picture _ refl h);
  };
  refused_text = text_none im;
  refused_place = place_none im;
}

-- every field of the derivation is read at its place, so that `IsField` misses none
pub field_read : (im : List ℕ) (n : ℕ) (w : WellFormed im n) (g : Field) → Memᴰ g w.fields → (field_at im g.image.0 ≡ g) × IsField im g.image.0
field_read im n w g m =
    let e = (every_in (all_in_image im n w) g m).reads in
    (e, record { extent = n; formed = w; known = rw e m })

-- what lies apart from every place of a field lies apart from every field
apart_from_fields : (im : List ℕ) (n : ℕ) (w : WellFormed im n) (from k : ℕ)
    → Beside im from k → (g : Field) → Memᴰ g w.fields → (from + k ≤ g.sheet.0) ⊎ (g.sheet.0 + size_of g ≤ from)
apart_from_fields im n w from k h g m = let f = field_read im n w g m in rw f.0 at (h.beside g.image.0 f.1)

sheet_beside : (im sheet : List ℕ) (columns lines : ℕ) (h : open_refusal im (length sheet) columns lines ≡ 0) (from n : ℕ) → Beside im from n
    → part_at from n (begun_with im sheet columns lines).sheet ≡ part_at from n sheet
unfolding begun_with open_sheet
sheet_beside im sheet columns lines h from n b =
    ap (part_at from n) (if_eq (open_refusal im (length sheet) columns lines) 0 _ _ h)
    ∙ others_stay im sheet (formed im sheet columns lines h) from n (apart_from_fields im (length sheet) (formed im sheet columns lines h) from n b)

-- Open accepts exactly the well-formed images, on a display of a shape that is allowed
open_well : (im : List ℕ) (extent columns lines : ℕ)
    → (open_refusal im extent columns lines ≡ 0 → (shape_fits columns lines ≡ true) × WellFormed im extent)
    × ((shape_fits columns lines ≡ true) × WellFormed im extent → open_refusal im extent columns lines ≡ 0)
unfolding open_refusal
open_well im extent columns lines =
    let a = accepted_exactly_when_well_formed im extent in (
      λ z. let n = none_before _ _ z in (none_unless 1 (shape_fits columns lines) (λ e. omega arith) n.0, a.0 n.1),
      λ h. next_given _ _ (holding 1 (shape_fits columns lines) h.0) ∙ a.1 h.1,
    )

-- a field of a list that is at a place
record Placed (p : ℕ) (fs : List Field) : Type 0 where
  field : Field
  known : Memᴰ field fs
  place : field.image.0 ≡ p

-- a field of the image is reached at its place
field_reached : (f : Field) (fs : List Field) → Memᴰ f fs → is_in f.image.0 (map (λ (g : Field). g.image.0) fs) ≡ true
unfolding is_in
field_reached f [] m = absurd (Memᴰ.not-nil m)
field_reached f (g ∷ fs) m =
    by_test (g.image.0 =? f.image.0) (λ z. if_true _ _ z)
    (λ z. if_false _ _ z ∙ field_reached f fs (elsewhere z (Memᴰ.cases_cons m)))
  where
    elsewhere : g.image.0 =? f.image.0 ≡ false → (f ≡ g) ⊎ Memᴰ f fs → Memᴰ f fs
    elsewhere z (inl e) = absurd (eqb-false _ _ z (ap (λ (x : Field). x.image.0) (sym e)))
    elsewhere z (inr k) = k

given_text : (im : List ℕ) (extent : ℕ) (w : WellFormed im extent) (f : Field) → Memᴰ f w.fields → (item : ℕ) → item < items_in f.kind
    → text_refusal im extent f.image.0 item ≡ 0
unfolding text_refusal
given_text im extent w f m item h =
    next_given _ _ ((accepted_exactly_when_well_formed im extent).1 w)
    ∙ holding 14 _
    (and_i (rw (← fields_are im extent w) (field_reached f w.fields m))
    (rw (field_read im extent w f m).0 (lt-ltb item (items_in f.kind) h)))

-- and nothing else is reached
reached_field : (p : ℕ) (fs : List Field) → is_in p (map (λ (g : Field). g.image.0) fs) ≡ true → Placed p fs
unfolding is_in
reached_field p [] h = absurd (false≢true h)
reached_field p (g ∷ fs) h =
    by_test (g.image.0 =? p) (λ z. record { field = g; known = Memᴰ.head refl; place = eqb-true _ _ z })
    (λ z. let r = reached_field p fs (sym (if_false _ _ z) ∙ h) in record { field = r.field; known = Memᴰ.tail r.known; place = r.place })

only_text : (im : List ℕ) (extent place item : ℕ) → text_refusal im extent place item ≡ 0 → IsField im place × (item < items_in (field_at im place).kind)
unfolding text_refusal
only_text im extent place item h =
    let n = none_before _ _ h in
    let w = (accepted_exactly_when_well_formed im extent).0 n.0 in
    let b = none_unless 14 _ (λ e. omega arith) n.1 in
    let r = reached_field place w.fields (rw (← fields_are im extent w) at (and_l _ _ b)) in
    (rw r.place at (field_read im extent w r.field r.known).1, ltb-true item _ (and_r _ _ b))

abbrev cursor_at : ℕ → ℕ → Option EditCursor
cursor_at r k = Some (record { row = r; column = k })

-- a cursor is found again from its numbers
cursor_once : (a b : Option EditCursor) → cursor.cursor_place a ≡ cursor.cursor_place b → a ≡ b
unfolding cursor.cursor_place
cursor_once None None h = refl
cursor_once None (Some c) h = let z : ◌≡◌ {A = ℕ} 0 1 = cc in absurd (omega arith)
cursor_once (Some c) None h = let z : ◌≡◌ {A = ℕ} 0 1 = cc in absurd (omega arith)
cursor_once (Some c) (Some d) h =
    let a : c.row ≡ d.row = cc in
    let b : c.column ≡ d.column = cc in
    ap (λ (r : ℕ). cursor_at r c.column) a ∙ ap (λ (k : ℕ). cursor_at d.row k) b

-- what a field of the derivation has
field_promises : (im : List ℕ) (n : ℕ) (w : WellFormed im n) (f : Field) → Memᴰ f w.fields → FieldPromises im n w f
field_promises im n w f m = record {
  named = field_read im n w f m;
  inside = every_in w.inside f m;
  alone = λ g k x a b. not_apart g (others_apart im n w f g m k) a b;
  sized = (every_in (all_in_image im n w) f m).sized;
}
  where
    not_apart : (g : Field) {x : ℕ} → (f ≡ g) ⊎ LieApart f g → Holds f x → Holds g x → f ≡ g
    not_apart g (inl e) a b = e
    not_apart g (inr (inl h)) a b = absurd (omega (arith, a.from, a.to, b.from, b.to))
    not_apart g (inr (inr h)) a b = absurd (omega (arith, a.from, a.to, b.from, b.to))

pub demand_2 : (im : List ℕ) → Demand2 im
unfolding begun_with open_answer event_answer
demand_2 im = record {
  accepts = record { accepted = accepted_exactly_when_well_formed im; open_accepts = open_well im; listed = fields_are im; every_field = field_promises im };
  reads = cursors_agree im;
  opens = λ sheet columns lines h. record {
    tells = h;
    shows = if_eq (open_refusal im (length sheet) columns lines) 0 _ _ h;
    defaults = at_default im sheet columns lines h;
    nothing_else = sheet_beside im sheet columns lines h;
    sheet_length = opened_long im sheet columns lines h;
  };
  steps = λ sheet s e h. record {
    steps = sym (stepped im sheet s e _ refl h);
    tells = ap (λ (r : Stepped). answer_number r.answer) (sym (stepped im sheet s e _ refl h));
    stores = sym (stepped_sheet im sheet s e _ refl h);
  };
  draws = λ sheet s picture h. record {
    draws = sym (drawn_picture_lem im sheet s picture _ refl h);
    points = sym (drawn_cursor im sheet s picture _ refl h);
  };
  texts = record {
    given = given_text im;
    only = only_text im;
    first_item = first_item im;
    next_item = λ extent place item h. items_in_turn im place item (item_is im extent place item h).inside;
    place = place_some im;
    own = item_is im;
  };
  told_apart = record { events = told_apart; whole = event_told; cursors = cursor_once };
  every_event = event_promises im;
  every_draw = draw_promises im;
  protected = λ sheet columns lines es. record {
    only_by_digits = only_after_its_digits im sheet columns lines es;
    each_above = every_protected_line_was_opened_by_its_digits im sheet columns lines es;
  };
}

-- C: two candidates with the same finished visits at a field, in whatever order they went from field to field
two_candidates : (im : List ℕ) (a b : Candidate im) (q : ℕ) → IsField im q → visits_at a q ≡ visits_at b q → bytes_at a q ≡ bytes_at b q
two_candidates im a b q f h =
    default_changed_by_own_visits im a.sheet a.columns a.lines a.accepted a.events q f
    ∙ ap (all_visited (rules_of im) q (bytes_of (field_at im q).default)) h
    ∙ sym (default_changed_by_own_visits im b.sheet b.columns b.lines b.accepted b.events q f)

pub demand_3 : (im : List ℕ) → Demand3 im
demand_3 im = record {
  journal = λ c. sheet_holds_journal im c.sheet c.columns c.lines c.accepted c.events;
  visits = λ c q f. default_changed_by_own_visits im c.sheet c.columns c.lines c.accepted c.events q f;
  finishes = λ c q. own_visits_finish im c.sheet c.columns c.lines c.accepted c.events q;
  dates = ends_real im;
  is_in_range = λ h c q f. ends_in_range im c q f h;
  candidates = λ a b q f h. two_candidates im a b q f h;
  beside = λ c from n b.
      played_apart im from n b c.events (start c)
      ∙ sheet_beside im c.sheet c.columns c.lines c.accepted from n b;
  sheet_length = λ c. played_long im c.sheet c.columns c.lines c.accepted c.events;
  never_refused = λ c. never_refused im c.sheet c.columns c.lines c.accepted c.events;
}

-- all that is promised
pub promises : Promises
promises = record { refusals = demand_1; rules = demand_2; sittings = demand_3; starred = starred_as_listed }
