-- The calls over bytes, one case at a time, over variables: what the call of `handset` answered, and what its contract then says.
use Prim.Native.Nat.{ℕ, ◌+◌, ◌*◌, ◌≤◌, ◌<◌}
use mathlib.Core.Path.{◌≡◌, refl, sym, ap, ◌∙◌}
use mathlib.Core.Bool.{true, false, false≢true}
use mathlib.Core.List.{List}
use native.Mathlib.Omega.{arith}
use native.Mathlib.Decide.{ℕ_discrete}
use lib.ListN.{length}
use borrow.Author.Tests.{eq-eqb, ne_eqb, eqb-true, eqb-false}
use Rattle.laws.specs.Choice.{◌=?◌}
use Rattle.laws.proofs.Cases.{if_ind, by_test, if_eq, if_ne}
use Rattle.acceptance.specs.Check.{refusal_of}
use Rattle.session.specs.Session.{closed}
use Rattle.session.specs.Fits.{shape_fits, session_fits}
use Rattle.session.specs.Answers.{told_number}
use Rattle.session.specs.declared.session.Session.{Session}
use Rattle.session.specs.declared.answer.Stepped.{Stepped}
use Rattle.session_bytes.specs.Layout.{session_bytes, session_written, session_in, session_from}
use Rattle.session_bytes.proofs.Layouts.{written}
use Rattle.session.proofs.Closed.{closed_never_fits}
use Rattle.handset.specs.Refusals.{◌before◌, ◌unless◌, session_refusal}
use Rattle.handset.specs.Open.{open_refusal, open_answer, open_sheet}
use Rattle.handset.specs.Event.{event_refusal, event_step, event_sheet, refused_with}
use Rattle.handset.specs.Draw.{draw_refusal, draw_cursor, drawn_picture}
use Rattle.handset.specs.OptionText.{TextPlace, text_refusal, text_place}
use Rattle.handset.specs.declared.open.Opened.{Opened}
use Rattle.handset.proofs.Items.{shown_inside, shown_refusal}
use Rattle.handset.proofs.Ordering.{first_given, next_given, holding, failing, none_before, Granted, session_granted}
use Rattle.handset.proofs.Stepping.{event_granted, refused_step}
use Rattle.handset.proofs.Answering.{event_told, event_below}
use Rattle.binding.specs.Answers.{refused_by, cursor_number}
use Rattle.binding.specs.Calls.{open_number, opened_sheet, opened_bytes, opened_session, event_number, event_bytes, draw_number, text_number}
use Rattle.binding.proofs.Cursors.{short, cursor_plain}

-- ---- Open

pub before_none : (a : ℕ) → a before 0 ≡ a
unfolding ◌before◌
before_none a = if_ind (λ (k : ℕ). k ≡ a) (a =? 0) (λ e. sym (eqb-true a 0 e)) (λ _. refl)

module _ (im : List ℕ) (extent columns lines : ℕ) where
  -- a buffer of another length: 1 first
  pub unsized_shape : shape_fits columns lines ≡ false → 1 ≡ open_refusal im extent columns lines before 12
  unfolding open_refusal
  unsized_shape h =
      sym (rw (failing 1 (shape_fits columns lines) h, first_given 1 (refusal_of im extent) (λ z. omega arith)) (first_given 1 12 (λ z. omega arith)))

  -- then 2 to 11, then 12: the closed session never fits
  pub unsized_image : (k : ℕ) → shape_fits columns lines ≡ true → k ≡ session_refusal im extent closed → k ≡ open_refusal im extent columns lines before 12
  unfolding open_refusal session_refusal
  unsized_image k h e =
      let f : 12 unless session_fits im closed ≡ 12 = failing 12 _ (closed_never_fits im) in
      e ∙ rw (f, holding 1 (shape_fits columns lines) h, next_given 0 (refusal_of im extent) refl)

  pub open_unsized : (n k : ℕ) → (n ≡ 230 → ⊥) → k ≡ open_refusal im extent columns lines before 12 → 16777216 + k ≡ open_number im extent columns lines n
  unfolding open_number refused_by
  open_unsized n k h e =
      let f : 12 unless (n =? 230) ≡ 12 = failing 12 _ (ne_eqb n 230 h) in
      let z : k ≡ 0 → ⊥ = λ z. omega (arith, (none_before (open_refusal im extent columns lines) 12 (sym e ∙ z)).1) in
      sym (rw (f, ← e) (if_ne k 0 _ _ z))

  pub open_sized : (n k r : ℕ) → n ≡ 230 → k ≡ open_refusal im extent columns lines → r ≡ refused_by k → r ≡ open_number im extent columns lines n
  unfolding open_number
  open_sized n k r h e f =
      let g : 12 unless (n =? 230) ≡ 0 = holding 12 _ (eq-eqb n 230 h) in
      f ∙ rw (g, before_none (open_refusal im extent columns lines), e)

  pub refusal_of_lem : (o : Opened) → o ≡ open_answer im extent columns lines → o.refusal ≡ open_refusal im extent columns lines
  unfolding open_answer
  refusal_of_lem o e = ap (λ (x : Opened). x.refusal) e

  pub bytes_kept : (bs : List ℕ) → (length bs ≡ 230 → ⊥) → bs ≡ opened_bytes im extent columns lines bs
  unfolding opened_bytes session_written
  bytes_kept bs h = sym (if_ne _ 230 _ _ h)

  pub bytes_opened : (bs t : List ℕ) (o : Opened) → o ≡ open_answer im extent columns lines → t ≡ session_written o.session bs
      → t ≡ opened_bytes im extent columns lines bs
  unfolding opened_bytes
  bytes_opened bs t o e f = f ∙ ap (λ (x : Opened). session_written x.session bs) e

  pub session_closed : (bs : List ℕ) → (length bs ≡ 230 → ⊥) → session_from bs ≡ opened_session im extent columns lines (length bs)
  unfolding session_from opened_session
  session_closed bs h = if_ne _ 230 _ _ h ∙ sym (if_ne _ 230 _ _ h)

  pub session_opened : (bs t : List ℕ) (o : Opened) → length bs ≡ 230 → o ≡ open_answer im extent columns lines → t ≡ session_written o.session bs
      → session_from (session_bytes o.session) ≡ o.session → session_from t ≡ opened_session im extent columns lines (length bs)
  unfolding opened_session
  session_opened bs t o h e f b =
      ap (λ (l : List ℕ). session_from l) (written o.session bs t h f) ∙ b ∙ ap (λ (x : Opened). x.session) e ∙ sym (if_eq _ 230 _ _ h)

module _ (im sheet : List ℕ) (columns lines n : ℕ) where
  pub sheet_kept : (n ≡ 230 → ⊥) → sheet ≡ opened_sheet im sheet columns lines n
  unfolding opened_sheet
  sheet_kept h = sym (if_ne n 230 _ _ h)

  pub sheet_opened : (t : List ℕ) → n ≡ 230 → t ≡ open_sheet im sheet columns lines → t ≡ opened_sheet im sheet columns lines n
  unfolding opened_sheet
  sheet_opened t h e = e ∙ sym (if_eq n 230 _ _ h)

-- ---- Event

-- a buffer of another length is a session that never fits
sized : (im bs : List ℕ) (extent : ℕ) → Granted im extent (session_from bs) → length bs ≡ 230
unfolding session_from
sized im bs extent g = go (ℕ_discrete (length bs) 230)
  where
    go : Dec (length bs ≡ 230) → length bs ≡ 230
    go (yes z) = z
    go (no h) =
        absurd (false≢true (sym (closed_never_fits im) ∙ ap (λ (s : Session). session_fits im s) (sym (if_ne (length bs) 230 (session_in bs) closed h)) ∙ g.fits))

module _ (im sheet bs : List ℕ) (e : ℕ) {s : Session} (p : s ≡ session_from bs) {r : Stepped} (f : r ≡ event_step im sheet s e) where
  next : r ≡ event_step im sheet (session_from bs) e
  next = rw p at f

  refusal : ℕ
  refusal = event_refusal im (length sheet) (session_from bs) e

  refused : (refusal ≡ 0 → ⊥) → refused_with (session_from bs) refusal ≡ r
  unfolding refusal
  refused h = refused_step im sheet (session_from bs) e _ refl h ∙ sym next

  granted : refusal ≡ 0 → Granted im (length sheet) (session_from bs)
  unfolding refusal
  granted z = (event_granted im (length sheet) (session_from bs) e z).granted

  -- the answer's number, which is not cut
  pub number_told : (n : ℕ) → n ≡ told_number r.answer → n ≡ event_number im sheet bs e
  unfolding event_number
  number_told n h = h ∙ ap (λ (x : Stepped). told_number x.answer) next ∙ event_told im sheet (session_from bs) e

  pub sheet_told : (t : List ℕ) → t ≡ event_sheet im sheet s e → t ≡ event_sheet im sheet (session_from bs) e
  sheet_told t h = rw p at h

  -- a refusal's number leaves the bytes
  module _ (n : ℕ) (m : n ≡ told_number r.answer) (h : 16777216 ≤ n) where
    is_refused_lem : refusal ≡ 0 → ⊥
    unfolding refusal event_number
    is_refused_lem z = omega (arith, number_told n m, event_below im sheet (session_from bs) e z)

    pub bytes_refused : bs ≡ event_bytes im sheet bs e
    unfolding event_bytes refusal
    bytes_refused = sym (if_ne _ 0 _ _ is_refused_lem)

    pub session_kept : session_from bs ≡ (event_step im sheet (session_from bs) e).session
    session_kept = ap (λ (x : Stepped). x.session) (refused is_refused_lem ∙ next)

  -- with any other they are those of the stepped session, for which there is room
  module _ (n : ℕ) (m : n ≡ told_number r.answer) (h : n < 16777216) where
    not_refused : refusal ≡ 0
    unfolding told_number
    not_refused =
        by_test (refusal =? 0) (λ t. eqb-true refusal 0 t)
        (λ t. let q = ap (λ (x : Stepped). told_number x.answer) (refused (eqb-false refusal 0 t)) in absurd (omega arith))

    module _ (t : List ℕ) (w : t ≡ session_written r.session bs) where
      all : t ≡ session_bytes r.session
      all = written r.session bs t (sized im bs (length sheet) (granted not_refused)) w

      pub bytes_stepped : t ≡ event_bytes im sheet bs e
      unfolding event_bytes refusal
      bytes_stepped = all ∙ ap (λ (x : Stepped). session_bytes x.session) next ∙ sym (if_eq _ 0 _ _ not_refused)

      pub session_next : session_from (session_bytes r.session) ≡ r.session → session_from t ≡ (event_step im sheet (session_from bs) e).session
      session_next b = ap (λ (l : List ℕ). session_from l) all ∙ b ∙ ap (λ (x : Stepped). x.session) next

-- ---- Draw

module _ (im bs : List ℕ) (extent n k : ℕ) (q : k ≡ draw_refusal im extent (session_from bs) n) where
  pub draw_refused : (r : ℕ) → (k ≡ 0 → ⊥) → r ≡ refused_by k → r ≡ draw_number im extent bs n
  unfolding draw_number
  draw_refused r h f = f ∙ sym (rw (← q) (if_ne k 0 _ _ h))

  pub draw_given : (r : ℕ) (c : List ℕ) → k ≡ 0 → r ≡ cursor_number c → c ≡ draw_cursor im extent (session_from bs) n → r ≡ draw_number im extent bs n
  unfolding draw_number
  draw_given r c z f g = f ∙ rw g (sym (rw (← q) (if_eq k 0 _ _ z)))

  pub cursor_fits : (c : List ℕ) → k ≡ 0 → c ≡ draw_cursor im extent (session_from bs) n → cursor_number c < 131072
  unfolding draw_cursor draw_refusal
  cursor_fits c z g =
      rw (g, if_eq _ 0 _ _ (sym q ∙ z))
      (cursor_plain im extent (session_from bs) (session_granted im extent (session_from bs) (none_before _ _ (sym q ∙ z)).0))

-- ---- Option text

text_accepted : (im : List ℕ) (extent place item : ℕ) → text_refusal im extent place item ≡ 0 → refusal_of im extent ≡ 0
unfolding text_refusal
text_accepted im extent place item h = (none_before _ _ h).0

module _ (im : List ℕ) (extent place item : ℕ) {t : TextPlace} (e : t ≡ text_place im extent place item) where
  refusal_is : t.refusal ≡ text_refusal im extent place item
  refusal_is = shown_refusal im extent place item e

  -- all of a text that is given is in the image, which is short
  pub text_near : t.refusal ≡ 0 → t.start.0 + t.length ≤ 32768
  text_near z =
      let s : length im ≤ 32768 = short im extent (text_accepted im extent place item (sym refusal_is ∙ z)) in
      omega (arith, shown_inside im extent place item e)

  pub text_refused : (t.refusal ≡ 0 → ⊥) → 4294967296 + t.refusal ≡ text_number im extent place item
  unfolding text_number
  text_refused h = sym (rw (← refusal_is) (if_ne t.refusal 0 _ _ h))

  pub text_given : t.refusal ≡ 0 → 65536 * t.start.0 + t.length ≡ text_number im extent place item
  unfolding text_number
  text_given z = rw e (sym (if_eq _ 0 _ _ (sym refusal_is ∙ z)))

-- ---- what a call ensures of a session that was taken from bytes

module _ (im : List ℕ) (extent n : ℕ) where
  pub refusal_from : {s : Session} (k : ℕ) (u : Session) → s ≡ u → k ≡ draw_refusal im extent s n → k ≡ draw_refusal im extent u n
  refusal_from k u q h = rw q at h

  pub cursor_from_lem : {s : Session} (c : List ℕ) (u : Session) → s ≡ u → c ≡ draw_cursor im extent s n → c ≡ draw_cursor im extent u n
  cursor_from_lem c u q h = rw q at h

pub picture_from : (im sheet picture : List ℕ) {s : Session} (t : List ℕ) (u : Session) → s ≡ u → t ≡ drawn_picture im sheet s picture → t ≡ drawn_picture im sheet u picture
picture_from im sheet picture t u q h = rw q at h
