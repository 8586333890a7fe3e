-- The rows of a picture, each written where the one before it ends.
use Prim.Native.Nat.{ℕ, zero, suc, ◌+◌, ◌-◌, ◌*◌, ◌≤◌}
use mathlib.Core.Path.{◌≡◌, refl, sym, ap, ◌∙◌}
use mathlib.Core.Bool.{true, false}
use mathlib.Core.List.{List, [], ◌∷◌, ◌++◌}
use native.Mathlib.Omega.{arith}
use native.Mathlib.Nat.{mul-le-mul}
use lib.ListN.{length, take, drop, length-append, length-take, length-drop}
use borrow.Author.Tests.{leb-true}
use Rattle.laws.specs.Choice.{◌<?◌}
use Rattle.laws.specs.Overwrite.{fit, over}
use Rattle.laws.proofs.Overwriting.{length_over, length_fit, over_next, over_nil, over_all, over_back}
use Rattle.laws.proofs.Cases.{if_ind, if_true, if_false, if_eq, if_ne, and_l, and_r, by_test}
use Rattle.cmf.specs.Readers.{text_bytes, head_at}
use Rattle.cmf.specs.Places.{components_of, line_at, line_count}
use Rattle.cmf.specs.declared.head.Head.{Head}
use Rattle.session.specs.Fits.{least_columns, least_display_lines, shape_fits}
use Rattle.session.specs.declared.session.Session.{Session}
use Rattle.session.specs.declared.session.Mode.{Mode}
use Rattle.session.specs.declared.session.Mode.TheVariants as mode
use Rattle.texts.specs.Texts.{blank}
use Rattle.picture.specs.Rows.{line_number, title_row, password_row, top_row_in, top_row, data_text, submenu_mark, line_row, row_at, rows_from, rows_below, picture_of, filled}

-- what a legal shape says
pub record Shape (columns lines : ℕ) : Type 0 where
  pub wide : 14 ≤ columns
  pub high : 2 ≤ lines

pub shape_of : (columns lines : ℕ) → shape_fits columns lines ≡ true → Shape columns lines
unfolding shape_fits
shape_of columns lines h =
    let a = and_l _ _ h in
    let b = and_r _ _ h in
    record {
      wide = leb-true least_columns columns (and_l _ _ a);
      high = leb-true least_display_lines lines (and_l _ _ b);
    }

-- ---- every row has as many cells as the display has columns

module _ (im sheet : List ℕ) (s : Session) where
  pub length_row_at : (count k p : ℕ) → 2 ≤ s.columns → length (row_at im sheet s count k p) ≡ s.columns
  unfolding row_at line_row
  length_row_at count k p h =
      if_ind (λ (r : List ℕ). length r ≡ s.columns) (k <? count)
      (λ _. let d = fit blank (s.columns - 2) (data_text im sheet s (components_of im p)) in
      omega (arith, length-append d (submenu_mark (head_at im p) ∷ []), length_fit blank (s.columns - 2) (data_text im sheet s (components_of im p))))
      (λ _. length_fit blank s.columns [])

  pub length_rows : (count n k p : ℕ) → 2 ≤ s.columns → length (rows_from im sheet s count n k p) ≡ n * s.columns
  unfolding rows_from
  length_rows count zero k p h = omega arith
  length_rows count (suc n) k p h =
      length-append (row_at im sheet s count k p) (rows_from im sheet s count n (k + 1) (head_at im p).next.0)
      ∙ rw (length_row_at count k p h, length_rows count n (k + 1) (head_at im p).next.0 h) (omega arith)

  -- one row of those that are left
  rows_one : (count n k p at : ℕ) (row d e : List ℕ) (h : Head) → 2 ≤ s.columns → h ≡ head_at im p → row ≡ row_at im sheet s count k p → e ≡ over d at row
      → over e (at + s.columns) (rows_from im sheet s count n (k + 1) h.next.0) ≡ over d at (rows_from im sheet s count (suc n) k p)
  unfolding rows_from
  rows_one count n k p at row d e h w q r f =
      let l : at + length row ≡ at + s.columns = ap (λ (i : ℕ). at + i) (rw r (length_row_at count k p w)) in
      let rest = rows_from im sheet s count n (k + 1) (head_at im p).next.0 in
      rw (f, q) (ap (λ (i : ℕ). over (over d at row) i rest) (sym l) ∙ over_next d at row rest ∙ rw r)

  pub rows_turn : (count n m k p at : ℕ) (row d e : List ℕ) (h : Head) → 2 ≤ s.columns → n ≡ suc m → h ≡ head_at im p → row ≡ row_at im sheet s count k p → e ≡ over d at row
      → over e (at + s.columns) (rows_from im sheet s count m (k + 1) h.next.0) ≡ over d at (rows_from im sheet s count n k p)
  rows_turn count n m k p at row d e h w z q r f = rw z (rows_one count m k p at row d e h w q r f)

  pub rows_done : (count n k p at : ℕ) (d : List ℕ) → n ≡ 0 → over d at (rows_from im sheet s count n k p) ≡ d
  unfolding rows_from
  rows_done count n k p at d z = rw z (over_nil d at)

-- the row's part of the picture, which comes back written
pub lent_row : (d s : List ℕ) (at w : ℕ) → length s ≡ w → at + w ≤ length d → take at d ++ (s ++ drop (at + w - at) (drop at d)) ≡ over d at s
lent_row d s at w e h = let z : at + w - at ≡ w = omega arith in rw z (over_back d at w s e h)

pub lent_length : (d : List ℕ) (at w : ℕ) → at + w ≤ length d → length (take (at + w - at) (drop at d)) ≡ w
lent_length d at w h = omega (arith, length-take (at + w - at) (drop at d), length-drop at d)

-- ---- the whole

length_title : (im : List ℕ) (s : Session) → 4 ≤ s.columns → length (title_row im s) ≡ s.columns
unfolding title_row line_number
length_title im s h =
    length-append (fit blank (s.columns - 4) (text_bytes im s.here.table.0)) _
    ∙ omega (arith, length_fit blank (s.columns - 4) (text_bytes im s.here.table.0))

length_top : (im : List ℕ) (s : Session) (m : Mode) → 4 ≤ s.columns → length (top_row_in im s m) ≡ s.columns
unfolding top_row_in password_row
length_top im s mode.Browsing h = length_title im s h
length_top im s (mode.Visit p) h = length_title im s h
length_top im s (mode.Password n) h = length_fit blank s.columns _

-- the first row, and those below it
pub rows_sum : (c n : ℕ) → 1 ≤ n → c + (n - 1) * c ≡ c * n
rows_sum c zero q = absurd (omega arith)
rows_sum c (suc n) q = let z : suc n - 1 ≡ n = omega arith in rw z (omega arith)

-- one row less
pub rows_less : (c n m at total : ℕ) → n ≡ suc m → at + n * c ≡ total → at + c + m * c ≡ total
rows_less c n m at total z e = let o : at + suc m * c ≡ total = rw z at e in omega arith

-- a picture has columns x lines cells
pub length_picture : (im sheet : List ℕ) (s : Session) → 4 ≤ s.columns → 1 ≤ s.lines → length (picture_of im sheet s) ≡ s.columns * s.lines
unfolding picture_of rows_below
length_picture im sheet s h l =
    length-append (top_row im s) _
    ∙ rw (length_top im s s.mode h, length_rows im sheet s _ (s.lines - 1) _ _ (omega arith)) (rows_sum s.columns s.lines l)

-- what is written after a place, from there on
drop_over : (d : List ℕ) (at : ℕ) (s : List ℕ) → drop at (over d at s) ≡ over (drop at d) 0 s
unfolding over
drop_over [] zero s = refl
drop_over [] (suc at) s = refl
drop_over (x ∷ d) zero s = refl
drop_over (x ∷ d) (suc at) s = drop_over d at s

module _ (im sheet : List ℕ) (s : Session) (d : List ℕ) {e : List ℕ} (l : 1 ≤ s.lines) (n : length d ≡ s.columns * s.lines)
    (b : e ≡ over d s.columns (rows_below im sheet s)) where
  -- row 0 is a part of the picture
  pub top_inside : s.columns ≤ length e
  top_inside = omega (arith, ap length b, length_over d s.columns (rows_below im sheet s), rows_sum s.columns s.lines l)

  below : 2 ≤ s.columns → length (rows_below im sheet s) ≡ length (drop s.columns d)
  unfolding rows_below
  below h =
      omega
      (arith, length-drop s.columns d, rows_sum s.columns s.lines l, length_rows im sheet s (line_count im s.here.table.0) (s.lines - 1) s.here.first (line_at im s.here.table.0 s.here.first) h)

  -- row 0, and after it the rows below it
  pub picture_whole : {row : List ℕ} → 2 ≤ s.columns → row ≡ top_row im s → row ++ drop s.columns e ≡ picture_of im sheet s
  unfolding picture_of
  picture_whole h a =
      rw (b, a, drop_over d s.columns (rows_below im sheet s)) (ap (λ (r : List ℕ). top_row im s ++ r) (over_all (drop s.columns d) (rows_below im sheet s) (below h)))

-- the picture of a display of at most 255 columns and lines
pub area : (a b : ℕ) → a ≤ 255 → b ≤ 255 → a * b ≤ 65025
area a b h k = mul-le-mul h k

-- ---- where it is written, and where not

module _ (im sheet : List ℕ) (s : Session) (d : List ℕ) where
  pub no_shape : shape_fits s.columns s.lines ≡ false → d ≡ filled im sheet s d
  unfolding filled
  no_shape h = sym (if_false _ _ h)

  pub no_size : (length d ≡ s.columns * s.lines → ⊥) → d ≡ filled im sheet s d
  unfolding filled
  no_size n =
      by_test (shape_fits s.columns s.lines)
      (λ h. sym (if_true _ _ h ∙ if_ne (length d) (s.columns * s.lines) _ _ n))
      no_shape

  pub is_filled : shape_fits s.columns s.lines ≡ true → length d ≡ s.columns * s.lines → picture_of im sheet s ≡ filled im sheet s d
  unfolding filled
  is_filled h n = sym (if_true _ _ h ∙ if_eq (length d) (s.columns * s.lines) _ _ n)
