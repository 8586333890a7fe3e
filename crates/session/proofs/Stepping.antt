-- One turn of each loop of `fits`, over variables, so that a loop's proof cites one line.
use Prim.Native.Nat.{ℕ, zero, suc, ◌+◌, ◌-◌, ◌≤◌, ◌<◌}
use mathlib.Core.Path.{◌≡◌, refl, sym, ap, ◌∙◌}
use mathlib.Core.Bool.{Bool, true, false}
use mathlib.Core.List.{List, ◌∷◌}
use native.Mathlib.Omega.{arith}
use lib.ListN.{length, get_or, take, drop, length-take, drop_of_length-le}
use lib.Seq.{drop-cons, get_or-take}
use borrow.Author.Tests.{le-leb, lt-leb, lt-ltb, le-ltb, eq-eqb, ne_eqb}
use native.Mathlib.Decide.{ℕ_discrete}
use Rattle.laws.specs.Choice.{◌and◌, ◌≤?◌, ◌<?◌}
use Rattle.laws.proofs.Cases.{and_true, and_false, and_i, and_second}
use Rattle.cmf.specs.Readers.{head_at}
use Rattle.cmf.specs.Places.{line_count, found_if, line_found}
use Rattle.cmf.specs.declared.head.Head.{Head}
use Rattle.session.specs.Session.{no_level}
use Rattle.session.specs.Fits.{shape_fits, level_fits, levels_fit, tables_fit, cursor_line, cursor_head, digits_to, mode_fits, session_fits}
use Rattle.session.specs.declared.session.Level.{Level}
use Rattle.session.specs.declared.session.Session.{Session}

pub and_none : (t : Bool) → t and false ≡ false
unfolding ◌and◌
and_none true = refl
and_none false = refl

-- a conjunction of four whose third or fourth part fails
third_none : (a b : Bool) {c : Bool} (d : Bool) → c ≡ false → a and (b and (c and d)) ≡ false
third_none a b d e = rw (and_false d e, and_none b) (and_none a)

fourth_none : (a b c : Bool) {d : Bool} → d ≡ false → a and (b and (c and d)) ≡ false
fourth_none a b c e = rw (e, and_none c, and_none b) (and_none a)

-- ---- levels

module _ (im : List ℕ) (lines t : ℕ) (l : Level) where
  pub level_other : (l.table.0 ≡ t → ⊥) → level_fits im lines t l ≡ false
  unfolding level_fits
  level_other h = and_false _ (ne_eqb l.table.0 t h)

  pub level_above : l.cursor < l.first → level_fits im lines t l ≡ false
  unfolding level_fits
  level_above h = third_none _ _ _ (lt-leb l.first l.cursor h)

  module _ (shown : ℕ) (e : shown ≡ lines - 1) where
    pub level_below : l.first + shown ≤ l.cursor → level_fits im lines t l ≡ false
    unfolding level_fits
    level_below h = fourth_none _ _ _ (le-ltb l.cursor (l.first + (lines - 1)) (omega arith))

    -- where the table is right and the cursor is among the lines shown, the cursor line decides
    level_reached : l.table.0 ≡ t → l.first ≤ l.cursor → l.cursor < l.first + shown → (l.cursor <? line_count im t) ≡ level_fits im lines t l
    unfolding level_fits
    level_reached q f h =
        let b : (l.cursor <? l.first + (lines - 1)) ≡ true = lt-ltb l.cursor (l.first + (lines - 1)) (omega arith) in
        sym (and_true _ (eq-eqb l.table.0 t q) ∙ and_second (l.cursor <? line_count im t) (and_i (le-leb l.first l.cursor f) b))

    pub level_found : l.table.0 ≡ t → l.first ≤ l.cursor → l.cursor < l.first + shown
        → line_found im t l.cursor ≡ found_if (level_fits im lines t l) (cursor_line im l)
    level_found q f h = rw (level_reached q f h, q)

module _ (im : List ℕ) (lines t : ℕ) (ls : List Level) (i n : ℕ) (here : Level) where
  abbrev rest : Bool
  rest = levels_fit im lines t (drop i (take n ls)) here

  next : i < n → n ≤ length ls → drop i (take n ls) ≡ get_or ls i no_level ∷ drop (suc i) (take n ls)
  next h l =
      drop-cons (take n ls) i no_level (omega (arith, length-take n ls))
      ∙ ap (λ (x : Level). x ∷ drop (suc i) (take n ls)) (get_or-take n ls i no_level h)

  pub level_bad : i < n → n ≤ length ls → level_fits im lines t (get_or ls i no_level) ≡ false → rest ≡ false
  unfolding levels_fit
  level_bad h l b = rw (next h l) (and_false _ b)

  pub level_plain : (k : Head) → i < n → n ≤ length ls → level_fits im lines t (get_or ls i no_level) ≡ true → k ≡ cursor_head im (get_or ls i no_level)
      → k.submenu ≡ false → rest ≡ false
  unfolding levels_fit
  level_plain k h l b e s = rw (next h l) (and_true _ b ∙ and_false _ (ap (λ (j : Head). j.submenu) (sym e) ∙ s))

  pub level_next : (k : Head) → i < n → n ≤ length ls → level_fits im lines t (get_or ls i no_level) ≡ true → k ≡ cursor_head im (get_or ls i no_level)
      → k.submenu ≡ true → levels_fit im lines k.table.0 (drop (i + 1) (take n ls)) here ≡ rest
  unfolding levels_fit
  level_next k h l b e s =
      let z : i + 1 ≡ suc i = omega arith in
      rw (next h l, z, e) (sym (and_true _ b ∙ and_true _ (ap (λ (j : Head). j.submenu) (sym e) ∙ s)))

  pub level_last : n ≤ i → rest ≡ level_fits im lines t here
  unfolding levels_fit
  level_last h = rw (drop_of_length-le (take n ls) {i = i} (omega (arith, length-take n ls)))

-- ---- digits typed

module _ (ds : List ℕ) where
  pub digits_next : (i : ℕ) → digits_to ds i ≡ true → get_or ds i 0 ≤ 9 → digits_to ds (i + 1) ≡ true
  unfolding digits_to
  digits_next i h d = let z : i + 1 ≡ suc i = omega arith in rw z (and_i h (le-leb (get_or ds i 0) 9 d))

  pub digits_bad : (i n : ℕ) → i < n → 9 < get_or ds i 0 → digits_to ds n ≡ false
  unfolding digits_to
  digits_bad i zero h d = absurd (omega arith)
  digits_bad i (suc n) h d = go (ℕ_discrete i n) (λ l. digits_bad i n l d)
    where
      go : Dec (i ≡ n) → (i < n → digits_to ds n ≡ false) → digits_to ds n and (get_or ds n 0 ≤? 9) ≡ false
      go (yes q) below = rw (lt-leb (get_or ds n 0) 9 (rw q at d)) (and_none (digits_to ds n))
      go (no q) below = and_false _ (below (omega arith))

-- the head of a level's cursor line, read where that line is
pub head_there : (im : List ℕ) (l m : Level) (p : ℕ) (h : Head) → m ≡ l → p ≡ cursor_line im m → h ≡ head_at im p → h ≡ cursor_head im l
unfolding cursor_head
head_there im l m p h e f g = g ∙ rw (f, e)

-- ---- the clauses together

module _ (im : List ℕ) (s : Session) where
  pub fits_shape : shape_fits s.columns s.lines ≡ false → false ≡ session_fits im s
  unfolding session_fits
  fits_shape h = sym (and_false _ h)

  pub fits_tables : shape_fits s.columns s.lines ≡ true → tables_fit im s ≡ false → false ≡ session_fits im s
  unfolding session_fits
  fits_tables h t = sym (and_true _ h ∙ and_false _ t)

  pub fits_mode : {r : Bool} → shape_fits s.columns s.lines ≡ true → tables_fit im s ≡ true → r ≡ mode_fits im s s.mode → r ≡ session_fits im s
  unfolding session_fits
  fits_mode h t e = e ∙ sym (and_true _ h ∙ and_true _ t)
