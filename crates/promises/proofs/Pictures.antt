-- What every Draw keeps. The cursor line of a session that fits is within the rows shown, and a data cell is cut at the last one. A row reads the
-- sheet only where one of its components shows a field, and there only the field's own bytes.
use Prim.Native.Nat.{ℕ, zero, suc, ◌+◌, ◌-◌, ◌≤◌, ◌<◌}
use mathlib.Core.Path.{◌≡◌, refl, sym, subst, ◌∙◌}
use mathlib.Core.Bool.{Bool, true, false}
use mathlib.Core.List.{List, [], ◌∷◌, Memᴰ}
use native.Mathlib.Omega.{arith}
use lib.ListN.{length, take}
use borrow.Author.Tests.{eqb-true, ltb-true}
use Rattle.laws.specs.Choice.{when◌then◌else◌, ◌=?◌, ◌<?◌}
use Rattle.laws.proofs.Cases.{if_ind, and_l, and_r}
use Rattle.field.specs.Sheet.{own_bytes}
use Rattle.field.specs.declared.kind.ImagePlace.{ImagePlace}
use Rattle.field.specs.declared.record.Field.{Field}
use Rattle.cmf.specs.Limits.{prolog_bytes}
use Rattle.cmf.specs.Readers.{head_at, component_at}
use Rattle.cmf.specs.Places.{components_of, line_at, line_count}
use Rattle.session.specs.Fits.{cursor_head, levels_fit, tables_fit, session_fits}
use Rattle.session.specs.declared.session.Level.{Level}
use Rattle.session.specs.declared.session.Mode.{Mode}
use Rattle.session.specs.declared.session.Mode.TheVariants as mode
use Rattle.session.specs.declared.session.Session.{Session}
use Rattle.texts.specs.Texts.{field_text}
use Rattle.picture.specs.Rows.{visiting, component_text, data_text, line_row, row_at, rows_from, rows_below, picture_of}
use Rattle.picture.specs.Cursor.{cursor_place, data_cell, cursor_in, edit_cursor}
use Rattle.picture.proofs.Knowing.{line_next}
use Rattle.picture.proofs.Filling.{shape_of, length_picture}
use Rattle.handset.specs.Draw.{draw_refusal, draw_cursor, drawn_picture}
use Rattle.handset.proofs.Drawing.{Granted, granted, shape_fits_lem, drawn_cursor}
use Rattle.promises.proofs.Fitting.{Shows, level_true}
use Rattle.promises.specs.Pictures.{OnShownLine, AgreeWhereShown, DataCell, DrawPromises}

-- ---- the edit cursor

-- the cursor line of the shown table is among the rows
here_shown : (im : List ℕ) (lines : ℕ) (ls : List Level) (t : ℕ) (here : Level) → levels_fit im lines t ls here ≡ true
    → Shows im (lines - 1) here.table.0 here
unfolding levels_fit
here_shown im lines [] t here h =
    let x = level_true im lines t here h in subst (λ (u : ℕ). Shows im (lines - 1) u here) (sym x.table) x
here_shown im lines (l ∷ ls) t here h = here_shown im lines ls (cursor_head im l).table.0 here (and_r _ _ (and_r _ _ h))

session_shown : (im : List ℕ) (s : Session) → session_fits im s ≡ true → Shows im (s.lines - 1) s.here.table.0 s.here
unfolding session_fits tables_fit
session_shown im s h =
    here_shown im s.lines (take s.outer s.above) prolog_bytes s.here (and_r _ _ (and_l _ _ (and_r _ _ h)))

-- a data cell is not past the last one
cell_below : (im : List ℕ) (s : Session) (p : ℕ) → data_cell im s p ≤ s.columns - 3
unfolding data_cell
cell_below im s p = omega arith

-- the numbers of a cursor are those that the definition gives
module _ (im : List ℕ) (s : Session) (fits : session_fits im s ≡ true) where
  inside : (m : Mode) (row column : ℕ) → cursor_in im s m ≡ row ∷ column ∷ [] → DataCell s row column
  unfolding cursor_in
  inside mode.Browsing row column h = let z : ◌≡◌ {A = ℕ} 0 1 = cc in absurd (omega arith)
  inside (mode.Visit p) row column h =
      let r : 1 + s.here.cursor - s.here.first ≡ row = cc in
      let c : 1 + data_cell im s p.0 ≡ column = cc in
      let w = session_shown im s fits in
      let z = shape_of s.columns s.lines (shape_fits_lem im s fits) in
      let b = cell_below im s p.0 in
      record {
        below_title = omega (arith, w.low);
        last_row = omega (arith, w.low, w.high, z.high);
        right_of_mark = omega arith;
        left_of_mark = omega (arith, z.wide);
      }
  inside (mode.Password n) row column h = let z : ◌≡◌ {A = ℕ} 0 1 = cc in absurd (omega arith)

-- a visit has one
there : (im : List ℕ) (s : Session) (m : Mode) (p : ImagePlace) → m ≡ mode.Visit p → cursor_in im s m ≡ [] → ⊥
unfolding cursor_in
there im s m p e h = let z : ◌≡◌ {A = ℕ} 0 1 = (let q = rw e at h in cc) in omega arith

-- and nothing else has
nowhere : (im : List ℕ) (s : Session) (m : Mode) → ((p : ImagePlace) → m ≡ mode.Visit p → ⊥) → cursor_in im s m ≡ []
unfolding cursor_in
nowhere im s mode.Browsing n = refl
nowhere im s (mode.Visit p) n = absurd (n p refl)
nowhere im s (mode.Password k) n = refl

-- ---- what a picture reads

-- two choices by one test
by_both : {A : Type 0} (t : Bool) {x y z w : A} → (t ≡ true → x ≡ z) → (t ≡ false → y ≡ w) → (when t then x else y) ≡ (when t then z else w)
unfolding when◌then◌else◌
by_both true f g = f refl
by_both false f g = g refl

-- a field's text is that of its own bytes
field_shows : (im a b : List ℕ) (p : ℕ) (f : Field) → own_bytes f a ≡ own_bytes f b → field_text im a p f ≡ field_text im b p f
unfolding field_text
field_shows im a b p f h = rw h

module _ (im : List ℕ) (s : Session) (a b : List ℕ) (h : AgreeWhereShown im s a b) where
  component_shows : (p : ℕ) → OnShownLine im s p → component_text im a s p (component_at im p) ≡ component_text im b s p (component_at im p)
  unfolding component_text
  component_shows p o =
      by_both (component_at im p).fielded
      (λ t. by_both (visiting s.mode p) (λ _. refl) (λ v. field_shows im a b p _ (h.bytes p o t v)))
      (λ _. refl)

  -- components of line k, which is shown
  module _ (k : ℕ) (from : s.here.first ≤ k) (to : k < s.here.first + (s.lines - 1)) (exists : k < line_count im s.here.table.0) where
    data_shows : (ps : List ℕ) → ((p : ℕ) → Memᴰ p ps → Memᴰ p (components_of im (line_at im s.here.table.0 k)))
        → data_text im a s ps ≡ data_text im b s ps
    unfolding data_text
    data_shows [] m = refl
    data_shows (p ∷ ps) m =
        rw (
          component_shows p (record { line = k; from = from; to = to; exists = exists; on = m p (Memᴰ.head refl) }),
          data_shows ps (λ q i. m q (Memᴰ.tail i)),
        )

    line_shows : (p : ℕ) → p ≡ line_at im s.here.table.0 k → line_row im a s k p ≡ line_row im b s k p
    unfolding line_row
    line_shows p e = rw (data_shows (components_of im p) (λ q i. rw e at i))

  -- n rows from line k on, of those that are shown
  rows_show : (n k p : ℕ) → s.here.first ≤ k → k + n ≤ s.here.first + (s.lines - 1) → p ≡ line_at im s.here.table.0 k
      → rows_from im a s (line_count im s.here.table.0) n k p ≡ rows_from im b s (line_count im s.here.table.0) n k p
  unfolding rows_from row_at
  rows_show zero k p from to e = refl
  rows_show (suc n) k p from to e =
      let rest = rows_show n (k + 1) (head_at im p).next.0 (omega arith) (omega arith) (line_next im s.here.table.0 k p (head_at im p) e refl) in
      let row : row_at im a s (line_count im s.here.table.0) k p ≡ row_at im b s (line_count im s.here.table.0) k p =
      by_both (k <? line_count im s.here.table.0)
      (λ t. line_shows k from (omega arith) (ltb-true k (line_count im s.here.table.0) t) p e) (λ _. refl) in
      cc

  picture_shows : picture_of im a s ≡ picture_of im b s
  unfolding picture_of rows_below
  picture_shows = rw (rows_show (s.lines - 1) s.here.first (line_at im s.here.table.0 s.here.first) (omega arith) (omega arith) refl)

-- ---- Draw

module _ (im sheet : List ℕ) (s : Session) (picture : List ℕ) where
  abbrev refusal : ℕ
  refusal = draw_refusal im (length sheet) s (length picture)

  -- the cursor of its session, or a refusal
  by_refusal : (P : List ℕ → Type 0) → (Granted im (length sheet) s (length picture) → P (edit_cursor im s)) → P []
      → P (draw_cursor im (length sheet) s (length picture))
  unfolding draw_cursor
  by_refusal P f g = if_ind P (refusal =? 0) (λ h. f (granted im (length sheet) s (length picture) (eqb-true refusal 0 h))) (λ _. g)

  draw_shows : (other : List ℕ) → AgreeWhereShown im s sheet other → drawn_picture im sheet s picture ≡ drawn_picture im other s picture
  unfolding drawn_picture
  draw_shows other h = rw (← h.same_length) (by_both (refusal =? 0) (λ _. picture_shows im s sheet other h) (λ _. refl))

  draw_length : length (drawn_picture im sheet s picture) ≡ length picture
  unfolding drawn_picture
  draw_length =
      if_ind (λ (d : List ℕ). length d ≡ length picture) (refusal =? 0)
      (λ h. let g = granted im (length sheet) s (length picture) (eqb-true refusal 0 h) in
      let z = shape_of s.columns s.lines (shape_fits_lem im s g.fits) in
      length_picture im sheet s (omega (arith, z.wide)) (omega (arith, z.high)) ∙ sym g.size)
      (λ _. refl)

  pub draw_promises : DrawPromises im sheet s picture
  unfolding cursor_place
  draw_promises = record {
    cursor_inside = λ row column.
        by_refusal (λ (l : List ℕ). l ≡ row ∷ column ∷ [] → DataCell s row column) (λ g. inside im s g.fits s.mode row column)
        (λ h. let z : ◌≡◌ {A = ℕ} 0 1 = cc in absurd (omega arith));
    cursor_there = λ h p m. rw (← drawn_cursor im sheet s picture _ refl h) (there im s s.mode p m);
    cursor_only = λ n. by_refusal (λ (l : List ℕ). l ≡ []) (λ _. nowhere im s s.mode n) refl;
    shows = draw_shows;
    picture_length = draw_length;
  }
