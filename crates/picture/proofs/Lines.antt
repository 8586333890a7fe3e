-- Rows put together from their parts, and one turn of each loop over a line's components.
use Prim.Native.Nat.{ℕ, zero, suc, ◌+◌, ◌-◌, ◌≤◌, ◌<◌}
use mathlib.Core.Path.{◌≡◌, refl, sym, ap, ◌∙◌}
use mathlib.Core.Bool.{Bool, true, false}
use mathlib.Core.List.{List, [], ◌∷◌, ◌++◌}
use Rattle.std.specs.Prelude.{Option, None, Some}
use native.Mathlib.Omega.{arith}
use lib.ListN.{length, take, drop, set, replicate, length-take, length-drop}
use Rattle.laws.specs.Choice.{when◌then◌else◌, ◌=?◌}
use Rattle.laws.specs.Bytes.{byte_at}
use Rattle.laws.specs.Overwrite.{fit, over}
use Rattle.laws.proofs.Overwriting.{length_fit}
use borrow.Author.Tests.{eqb-true}
use Rattle.laws.proofs.Cases.{if_ind, if_true, if_false, by_test}
use Rattle.field.specs.declared.kind.ImagePlace.{ImagePlace}
use Rattle.cmf.specs.Readers.{text_bytes, head_at, component_at}
use Rattle.cmf.specs.Places.{components_from, components_of, line_at, line_count, rest_of_line, first_editable}
use Rattle.cmf.specs.declared.head.Head.{Head}
use Rattle.cmf.specs.declared.component.Component.{Component}
use Rattle.session.specs.Fits.{cursor_line, cursor_head}
use Rattle.cmf.proofs.Finding.{editable_here, editable_last, editable_next}
use Rattle.session.specs.declared.session.Level.{Level}
use Rattle.session.specs.declared.session.Session.{Session}
use Rattle.texts.specs.Row.{Put}
use Rattle.texts.specs.Texts.{blank, star, colon, cells_text, field_text}
use Rattle.picture.specs.Rows.{greater, mark_of, edit_mark, line_number, more_mark, title_row, dot, prompt, password_row, visiting, component_text, data_text, submenu_mark, line_row}
use Rattle.picture.specs.Marks.{Tells, mark_by}
use Rattle.texts.proofs.Writing.{Rest, put_then, same, rest_step, rest_end, padded, over_tail}

-- ---- what one component shows

module _ {x z : List ℕ} {at r : ℕ} (im sheet : List ℕ) (s : Session) (p : ℕ) (c : Component) where
  pub shown_visit : (t : Bool) → c.fielded ≡ true → t ≡ visiting s.mode p → t ≡ true
      → Put x at (cells_text im p c.field.kind s.work.cells) z r → Put x at (component_text im sheet s p c) z r
  unfolding component_text
  shown_visit t h e b k = same (sym (if_true _ _ h ∙ if_true _ _ (sym e ∙ b))) k

  pub shown_field : (t : Bool) → c.fielded ≡ true → t ≡ visiting s.mode p → t ≡ false
      → Put x at (field_text im sheet p c.field) z r → Put x at (component_text im sheet s p c) z r
  unfolding component_text
  shown_field t h e b k = same (sym (if_true _ _ h ∙ if_false _ _ (sym e ∙ b))) k

  pub shown_string : (t : List ℕ) → c.fielded ≡ false → t ≡ text_bytes im (p + 1) → Put x at t z r → Put x at (component_text im sheet s p c) z r
  unfolding component_text
  shown_string t h e k = same (e ∙ sym (if_false _ _ h)) k

-- ---- the components of a line

module _ {d e f all : List ℕ} {start m k : ℕ} (im sheet : List ℕ) (s : Session) where
  data_turn : (left p : ℕ) (c : Component) → 0 < left → c ≡ component_at im p → Rest d start all e m (data_text im sheet s (components_from im left p))
      → Put e m (component_text im sheet s p c) f k
      → Rest d start all f k (data_text im sheet s (when c.last then [] else components_from im (left - 1) c.next.0))
  unfolding data_text components_from
  data_turn zero p c h q r a = absurd (omega arith)
  data_turn (suc n) p c h q r a = let z : suc n - 1 ≡ n = omega arith in rw z (rest_step (rw (← q) at r) a)

  -- the last component ends the loop; after another there is the next
  pub data_last : (left p : ℕ) (c : Component) → 0 < left → c ≡ component_at im p → Rest d start all e m (data_text im sheet s (components_from im left p))
      → Put e m (component_text im sheet s p c) f k → c.last ≡ true → Put d start all f k
  unfolding data_text
  data_last left p c h q r a t =
      let o : Rest d start all f k [] = rw (if_true _ _ t) at (data_turn left p c h q r a) in
      rest_end o (λ _. refl) (omega (arith, a.ends, o.size, r.size))

  pub data_next : (left p : ℕ) (c : Component) → 0 < left → c ≡ component_at im p → Rest d start all e m (data_text im sheet s (components_from im left p))
      → Put e m (component_text im sheet s p c) f k → c.last ≡ false → Rest d start all f k (data_text im sheet s (components_from im (left - 1) c.next.0))
  data_next left p c h q r a t = rw (if_false _ _ t) at (data_turn left p c h q r a)

pub data_done : (im sheet : List ℕ) (s : Session) (left p : ℕ) → left ≤ 0 → length (data_text im sheet s (components_from im left p)) ≡ 0
unfolding data_text components_from
data_done im sheet s left p h = let z : left ≡ 0 = omega arith in rw z

-- ---- rows, from what the callees ensure

-- the last cell of a row
last_cell : (a r : List ℕ) (n e : ℕ) → length a ≡ n → length r ≡ 1 → set (a ++ r) n e ≡ a ++ (e ∷ [])
last_cell [] [] n e p q = absurd (omega arith)
last_cell [] (x ∷ []) zero e p q = refl
last_cell [] (x ∷ []) (suc n) e p q = absurd (omega arith)
last_cell [] (x ∷ y ∷ r) n e p q = absurd (omega arith)
last_cell (x ∷ a) r zero e p q = absurd (omega arith)
last_cell (x ∷ a) r (suc n) e p q = ap (λ (z : List ℕ). x ∷ z) (last_cell a r n e (omega arith) q)

pub line_row_is : {a : List ℕ} {e : ℕ} (im sheet : List ℕ) (s : Session) (k p : ℕ) (h : Head) (row : List ℕ) → 2 ≤ s.columns → length row ≡ s.columns → h ≡ head_at im p
    → a ≡ fit blank (length (take (s.columns - 1) row)) ((when k =? s.here.cursor then greater else blank) ∷ data_text im sheet s (components_from im (length im + 1) h.component.0))
    → e ≡ submenu_mark h → set (a ++ drop (s.columns - 1) row) (s.columns - 1) e ≡ line_row im sheet s k p
unfolding line_row components_of fit
line_row_is {a = a} {e = e} im sheet s k p h row w l q f g =
    let n : length (take (s.columns - 1) row) ≡ suc (s.columns - 2) = omega (arith, length-take (s.columns - 1) row) in
    let m : length (drop (s.columns - 1) row) ≡ 1 = omega (arith, length-drop (s.columns - 1) row) in
    let o : a ≡ (when k =? s.here.cursor then greater else blank) ∷ fit blank (s.columns - 2) (data_text im sheet s (components_from im (length im + 1) h.component.0)) = f ∙ rw n in
    let i : length a ≡ s.columns - 1 = rw o (omega (arith, length_fit blank (s.columns - 2) (data_text im sheet s (components_from im (length im + 1) h.component.0)))) in
    last_cell a (drop (s.columns - 1) row) (s.columns - 1) e i m ∙ rw (o, g, q)

pub title_row_is : {x y u z t : List ℕ} {e m a : ℕ} (im : List ℕ) (s : Session) (count : ℕ) → 4 ≤ s.columns → length x ≡ s.columns
    → more_mark count (s.lines - 1) s.here.cursor ≡ more_mark (line_count im s.here.table.0) (s.lines - 1) s.here.cursor → t ≡ text_bytes im s.here.table.0
    → Put x 0 t y a → u ≡ over y a (replicate (length y - a) blank)
    → e ≡ edit_mark im s.here → m ≡ more_mark count (s.lines - 1) s.here.cursor → z ≡ over u (s.columns - 4) (e ∷ (line_number (s.here.cursor + 1) ++ (m ∷ [])))
    → z ≡ title_row im s
unfolding title_row line_number
title_row_is {t = t} {e = e} {m = m} im s count a b n f g h i j o =
    o
    ∙ rw (padded blank g h, b) (over_tail blank s.columns (s.columns - 4) t (e ∷ (line_number (s.here.cursor + 1) ++ (m ∷ []))) (omega arith) ∙ rw (i, j, n, f))

pub password_row_is : {x y u v z : List ℕ} {d k a b c : ℕ} (im : List ℕ) (s : Session) (h : Head) (n : ℕ) → length x ≡ s.columns → h ≡ cursor_head im s.here
    → d ≡ byte_at im h.password.0 → k ≡ d - n → Put x 0 prompt y a → Put y a (replicate n star) u b → Put u b (replicate k dot) v c
    → z ≡ over v c (replicate (length v - c) blank) → z ≡ password_row im s n
unfolding password_row
password_row_is im s h n l q e g a b c p = padded blank (put_then a (put_then b c)) p ∙ rw (l, g, e, q)

module _ (im : List ℕ) (l : Level) (h : Head) (f : Option ImagePlace) (e : h ≡ cursor_head im l) (g : f ≡ first_editable im (rest_of_line im h.component.0)) where
  first_is : f ≡ first_editable im (components_of im (cursor_line im l))
  unfolding components_of cursor_head
  first_is = g ∙ ap (λ (k : Head). first_editable im (rest_of_line im k.component.0)) e

  pub mark_is : {r : ℕ} → r ≡ mark_of f → r ≡ edit_mark im l
  unfolding edit_mark
  mark_is t = t ∙ ap mark_of first_is

-- ---- the mark of a line in row 0, as its row tells it

module _ (im : List ℕ) (left p : ℕ) (c : Component) (all : ℕ) (l : 0 < left) (e : c ≡ component_at im p) where
  module _ (before : mark_of (first_editable im (components_from im left p)) ≡ all) where
    here_told : Tells (mark_by None c.editable c.last) all
    here_told =
        if_ind (λ (o : Option ℕ). Tells o all) c.editable
        (λ a. sym (ap mark_of (editable_here im left p c l e a)) ∙ before)
        (λ a. if_ind (λ (o : Option ℕ). Tells o all) c.last
        (λ b. sym (ap mark_of (editable_last im left p c l e a b)) ∙ before)
        (λ b. tt))

    here_next : c.last ≡ false → mark_by None c.editable c.last ≡ None → mark_of (first_editable im (components_from im (left - 1) c.next.0)) ≡ all
    here_next b =
        by_test c.editable
        (λ a y. let o : Some colon ≡ None = sym (if_true _ _ a) ∙ y in cc)
        (λ a y. ap mark_of (editable_next im left p c l e a b) ∙ before)

  pub mark_told : (mark : Option ℕ) → (mark ≡ None → mark_of (first_editable im (components_from im left p)) ≡ all) → Tells mark all
      → Tells (mark_by mark c.editable c.last) all
  mark_told None before told = here_told (before refl)
  mark_told (Some m) before told = told

  pub mark_next : (mark : Option ℕ) → (mark ≡ None → mark_of (first_editable im (components_from im left p)) ≡ all) → c.last ≡ false
      → mark_by mark c.editable c.last ≡ None → mark_of (first_editable im (components_from im (left - 1) c.next.0)) ≡ all
  mark_next None before b y = here_next (before refl) b y
  mark_next (Some m) before b y = cc

-- of the line that the cursor is on
pub mark_turn : (im : List ℕ) (l : Level) (k p : ℕ) (mark other : Option ℕ) → p ≡ line_at im l.table.0 k
    → Tells mark (mark_of (first_editable im (components_of im p))) → Tells other (edit_mark im l) → Tells (when k =? l.cursor then mark else other) (edit_mark im l)
unfolding edit_mark
mark_turn im l k p mark other e f g =
    if_ind (λ (o : Option ℕ). Tells o (mark_of (first_editable im (components_of im (cursor_line im l))))) (k =? l.cursor)
    (λ h. let z : p ≡ cursor_line im l = e ∙ ap (λ (i : ℕ). line_at im l.table.0 i) (eqb-true k l.cursor h) in rw z at f)
    (λ h. g)

pub line_marked : (im : List ℕ) (p : ℕ) (mark : Option ℕ) (h : Head) → h ≡ head_at im p
    → Tells mark (mark_of (first_editable im (components_from im (length im + 1) h.component.0)))
    → Tells mark (mark_of (first_editable im (components_of im p)))
unfolding components_of
line_marked im p mark h e f = rw e at f
