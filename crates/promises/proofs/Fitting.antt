-- A session that fits, clause by clause, and what keeps it so: another idle count, another cursor line, a table more or less, another mode.
-- Browsing and password entries make no other change.
use Prim.Native.Nat.{ℕ, suc, ◌+◌, ◌-◌, ◌≤◌, ◌<◌}
use mathlib.Core.Path.{◌≡◌, refl, ◌∙◌}
use mathlib.Core.Bool.{Bool, true, false}
use mathlib.Core.List.{List, [], ◌∷◌, ◌++◌}
use native.Mathlib.Omega.{arith}
use native.Mathlib.Numerals.{add-one}
use lib.ListN.{length, set, take, length-set}
use lib.Seq.{take-suc, take-suc-set}
use borrow.Author.Tests.{eqb-true, eqb-false, ltb-true, ltb-false, leb-true, eq-eqb, lt-ltb, le-leb}
use Rattle.laws.specs.Choice.{when◌then◌else◌, ◌<?◌}
use Rattle.laws.proofs.Cases.{if_ind, and_i, and_l, and_r}
use Rattle.field.specs.declared.work.Work.{Work}
use Rattle.cmf.specs.Limits.{prolog_bytes, deepest_table}
use Rattle.cmf.specs.Places.{line_count}
use Rattle.acceptance.proofs.Reach.{some_line}
use Rattle.session.specs.Session.{level, no_level}
use Rattle.session.specs.Fits.{shape_fits, cursor_head, level_fits, levels_fit, tables_fit, mode_fits, session_fits}
use Rattle.session.specs.Answers.{taken, flash, with_idle, showing, in_mode}
use Rattle.session.specs.Seconds.{later, waited, at_top, browse_second}
use Rattle.session.specs.Browsing.{first_for, cursor_on, up_step, down_step, left_step, descended}
use Rattle.session.specs.declared.session.Level.{Level}
use Rattle.session.specs.declared.session.Mode.{Mode}
use Rattle.session.specs.declared.session.Mode.TheVariants as mode
use Rattle.session.specs.declared.session.Session.{Session}
use Rattle.session.specs.declared.answer.Stepped.{Stepped}

-- the arrays of a session have the lengths that their types say; as lists they could have any
pub record Sized (s : Session) : Type 0 where
  pub above : length s.above ≡ 7
  pub typed : length s.typed ≡ 8
  pub cells : length s.work.cells ≡ 32

-- ---- one level

-- a level shows the table at t, with its cursor line among the rows shown
pub record Shows (im : List ℕ) (rows t : ℕ) (l : Level) : Type 0 where
  pub table : l.table.0 ≡ t
  pub line : l.cursor < line_count im t
  pub low : l.first ≤ l.cursor
  pub high : l.cursor < l.first + rows

module _ (im : List ℕ) (lines t : ℕ) (l : Level) where
  -- a level that passes the test
  pub level_true : level_fits im lines t l ≡ true → Shows im (lines - 1) t l
  unfolding level_fits
  level_true h = record {
    table = eqb-true l.table.0 t (and_l _ _ h);
    line = ltb-true l.cursor (line_count im t) (and_l _ _ (and_r _ _ h));
    low = leb-true l.first l.cursor (and_l _ _ (and_r _ _ (and_r _ _ h)));
    high = ltb-true l.cursor (l.first + (lines - 1)) (and_r _ _ (and_r _ _ (and_r _ _ h)));
  }

  -- and the other way
  level_bool : Shows im (lines - 1) t l → level_fits im lines t l ≡ true
  unfolding level_fits
  level_bool h =
      and_i (eq-eqb l.table.0 t h.table)
      (and_i (lt-ltb l.cursor (line_count im t) h.line)
      (and_i (le-leb l.first l.cursor h.low) (lt-ltb l.cursor (l.first + (lines - 1)) h.high)))

-- a first shown line with the cursor among the rows
record Around (rows cursor first : ℕ) : Type 0 where
  low : first ≤ cursor
  high : cursor < first + rows

-- the definition finds one
first_around : (rows cursor first : ℕ) → 1 ≤ rows → Around rows cursor (first_for rows cursor first)
unfolding first_for
first_around rows cursor first h =
    if_ind (Around rows cursor) (cursor <? first) (λ _. record { low = omega arith; high = omega arith })
    (λ a. if_ind (Around rows cursor) (cursor <? first + rows)
    (λ b. record { low = omega (arith, ltb-false cursor first a); high = ltb-true cursor (first + rows) b })
    (λ b. let k = ltb-false cursor (first + rows) b in record { low = omega arith; high = omega arith }))

-- ---- levels one below another

module _ (im : List ℕ) (lines : ℕ) where
  -- the last level but one is shown again
  levels_less : (ls : List Level) (t : ℕ) (x here : Level) → levels_fit im lines t (ls ++ (x ∷ [])) here ≡ true → levels_fit im lines t ls x ≡ true
  unfolding levels_fit
  levels_less [] t x here h = and_l _ _ h
  levels_less (l ∷ ls) t x here h =
      and_i (and_l _ _ h) (and_i (and_l _ _ (and_r _ _ h)) (levels_less ls (cursor_head im l).table.0 x here (and_r _ _ (and_r _ _ h))))

  -- a level more, below the cursor line of the one shown
  levels_more : (ls : List Level) (t : ℕ) (x here : Level) → levels_fit im lines t ls x ≡ true → (cursor_head im x).submenu ≡ true
      → level_fits im lines (cursor_head im x).table.0 here ≡ true → levels_fit im lines t (ls ++ (x ∷ [])) here ≡ true
  unfolding levels_fit
  levels_more [] t x here h m b = and_i h (and_i m b)
  levels_more (l ∷ ls) t x here h m b =
      and_i (and_l _ _ h) (and_i (and_l _ _ (and_r _ _ h)) (levels_more ls (cursor_head im l).table.0 x here (and_r _ _ (and_r _ _ h)) m b))

  -- another cursor line of the table shown
  levels_moved : (ls : List Level) (t : ℕ) (x y : Level) → ((u : ℕ) → level_fits im lines u x ≡ true → level_fits im lines u y ≡ true)
      → levels_fit im lines t ls x ≡ true → levels_fit im lines t ls y ≡ true
  unfolding levels_fit
  levels_moved [] t x y f h = f t h
  levels_moved (l ∷ ls) t x y f h =
      and_i (and_l _ _ h) (and_i (and_l _ _ (and_r _ _ h)) (levels_moved ls (cursor_head im l).table.0 x y f (and_r _ _ (and_r _ _ h))))

-- a table at its first line fits, were it any
at_first : (im : List ℕ) (lines t : ℕ) → 2 ≤ lines → level_fits im lines t (level t 0 0) ≡ true
at_first im lines t h = level_bool im lines t (level t 0 0) (record { table = refl; line = some_line im t; low = omega arith; high = omega arith })

-- ---- a session

-- it fits on a display of c columns and l lines, and its arrays have their lengths
pub record Good (im : List ℕ) (c l : ℕ) (s : Session) : Type 0 where
  pub columns : s.columns ≡ c
  pub lines : s.lines ≡ l
  pub sized : Sized s
  pub outer : s.outer < deepest_table
  pub levels : levels_fit im l prolog_bytes (take s.outer s.above) s.here ≡ true
  pub mode : mode_fits im s s.mode ≡ true

-- the clauses of a session that fits
pub good_of : (im : List ℕ) (s : Session) → Sized s → session_fits im s ≡ true → Good im s.columns s.lines s
unfolding session_fits tables_fit
good_of im s z h = record {
  columns = refl;
  lines = refl;
  sized = z;
  outer = ltb-true s.outer deepest_table (and_l _ _ (and_l _ _ (and_r _ _ h)));
  levels = and_r _ _ (and_l _ _ (and_r _ _ h));
  mode = and_r _ _ (and_r _ _ h);
}

-- and back
pub fits_of : (im : List ℕ) (c l : ℕ) (s : Session) → shape_fits c l ≡ true → Good im c l s → session_fits im s ≡ true
unfolding session_fits tables_fit
fits_of im c l s h g =
    let a : shape_fits s.columns s.lines ≡ true = rw (g.columns, g.lines) h in
    let b : levels_fit im s.lines prolog_bytes (take s.outer s.above) s.here ≡ true = rw g.lines g.levels in
    and_i a (and_i (and_i (lt-ltb s.outer deepest_table g.outer) b) g.mode)

-- a display has two lines at least
pub two_lines : (c l : ℕ) → shape_fits c l ≡ true → 2 ≤ l
unfolding shape_fits
two_lines c l h = leb-true 2 l (and_l _ _ (and_r _ _ h))

-- a step that leads to such a session
pub record Keeps (im : List ℕ) (c l : ℕ) (r : Stepped) : Type 0 where
  pub good : Good im c l r.session

-- what a mode asks is asked of the level shown, the working copy and the digits typed
mode_same : (im : List ℕ) (s z : Session) (m : Mode) → z.here ≡ s.here → z.work ≡ s.work → z.typed ≡ s.typed → mode_fits im s m ≡ true → mode_fits im z m ≡ true
unfolding mode_fits
mode_same im s z mode.Browsing a b d h = refl
mode_same im s z (mode.Visit p) a b d h = rw (a, b) h
mode_same im s z (mode.Password n) a b d h = rw (a, d) h

module _ (im : List ℕ) (c l : ℕ) where
  -- a choice of two steps
  pub by_keeps : (t : Bool) {x y : Stepped} → (t ≡ true → Keeps im c l x) → (t ≡ false → Keeps im c l y) → Keeps im c l (when t then x else y)
  by_keeps t f g = if_ind (Keeps im c l) t f g

  module _ (s : Session) (g : Good im c l s) where
    -- another idle count
    pub idle_good : (i : ℕ) → Good im c l (with_idle s i)
    idle_good i = record {
      columns = g.columns;
      lines = g.lines;
      sized = record { above = g.sized.above; typed = g.sized.typed; cells = g.sized.cells };
      outer = g.outer;
      levels = g.levels;
      mode = mode_same im s (with_idle s i) s.mode refl refl refl g.mode;
    }

    -- another mode, whose clause holds
    pub doing_good : (m : Mode) (w : Work) (ds : List ℕ) → length w.cells ≡ 32 → length ds ≡ 8 → mode_fits im (in_mode s m w ds) m ≡ true
        → Good im c l (in_mode s m w ds)
    doing_good m w ds a b h = record {
      columns = g.columns;
      lines = g.lines;
      sized = record { above = g.sized.above; typed = b; cells = a };
      outer = g.outer;
      levels = g.levels;
      mode = h;
    }

    -- browsing asks nothing more
    pub browsing_good : (ds : List ℕ) → length ds ≡ 8 → Good im c l (in_mode s mode.Browsing s.work ds)
    unfolding mode_fits
    browsing_good ds h = doing_good mode.Browsing s.work ds g.sized.cells h refl

    -- ---- browsing

    module _ (b : s.mode ≡ mode.Browsing) where
      -- other tables above, and another level shown
      shown_good : (n : ℕ) (ls : List Level) (x : Level) → length ls ≡ 7 → n < deepest_table → levels_fit im l prolog_bytes (take n ls) x ≡ true
          → Good im c l (showing s n ls x)
      unfolding mode_fits
      shown_good n ls x a o h = record {
        columns = g.columns;
        lines = g.lines;
        sized = record { above = a; typed = g.sized.typed; cells = g.sized.cells };
        outer = o;
        levels = h;
        mode = rw b refl;
      }

      -- a flash changes nothing
      flash_keeps : Keeps im c l (flash s)
      flash_keeps = record { good = g }

      -- LEFT
      pub left_keeps : Keeps im c l (left_step s)
      unfolding left_step
      left_keeps =
          by_keeps _ (λ _. flash_keeps)
          (λ h.
          let some = eqb-false s.outer 0 h in
          let k : ℕ = s.outer - 1 in
          let more : suc k ≡ s.outer = omega (arith, some) in
          let room : k < length s.above = omega (arith, g.sized.above, g.outer) in
          record {
            good = shown_good k s.above _ g.sized.above (omega (arith, g.outer))
                (levels_less im l (take k s.above) prolog_bytes _ s.here (rw (← take-suc s.above k no_level room, more) g.levels));
          })

      module _ (shape : shape_fits c l ≡ true) where
        -- the cursor on another line of the table
        cursor_keeps : (n : ℕ) → ((u : ℕ) → Shows im (l - 1) u s.here → n < line_count im u) → Keeps im c l (taken (cursor_on s n))
        cursor_keeps n h = record {
          good =
              shown_good s.outer s.above _ g.sized.above g.outer
              (levels_moved im l (take s.outer s.above) prolog_bytes s.here _ (λ u f. moved u (level_true im l u s.here f)) g.levels);
        }
          where
            moved : (u : ℕ) → Shows im (l - 1) u s.here → level_fits im l u (cursor_on s n).here ≡ true
            moved u f =
                let a = first_around (s.lines - 1) n s.here.first (omega (arith, g.lines, two_lines c l shape)) in
                level_bool im l u (cursor_on s n).here
                (record { table = f.table; line = h u f; low = a.low; high = omega (arith, a.high, g.lines) })

        -- UP
        pub up_keeps : Keeps im c l (up_step s)
        unfolding up_step
        up_keeps = by_keeps _ (λ _. flash_keeps) (λ _. cursor_keeps (s.here.cursor - 1) (λ u f. omega (arith, f.line)))

        -- DOWN
        pub down_keeps : Keeps im c l (down_step im s)
        unfolding down_step
        down_keeps =
            by_keeps _
            (λ h. cursor_keeps (s.here.cursor + 1)
            (λ u f. rw (← f.table) (ltb-true (s.here.cursor + 1) (line_count im s.here.table.0) h)))
            (λ _. flash_keeps)

        -- a submenu of the cursor line, at its first line
        pub descended_keeps : (cursor_head im s.here).submenu ≡ true → Keeps im c l (descended s (cursor_head im s.here).table.0)
        unfolding descended
        descended_keeps m =
            by_keeps _
            (λ h.
            let few = ltb-true (s.outer + 1) deepest_table h in
            let room : s.outer < length s.above = omega (arith, g.sized.above, few) in
            record {
              good =
                  shown_good (s.outer + 1) (set s.above s.outer s.here) _ (length-set s.above s.outer s.here ∙ g.sized.above) few
                  (rw (add-one, take-suc-set s.above s.outer s.here room)
                  (levels_more im l (take s.outer s.above) prolog_bytes s.here _ g.levels m (at_first im l _ (two_lines c l shape))));
            })
            (λ _. flash_keeps)

        -- the top table, at its first line
        pub top_good : Good im c l (at_top s)
        unfolding levels_fit
        top_good = shown_good 0 s.above _ g.sized.above (omega arith) (at_first im l prolog_bytes (two_lines c l shape))

  -- a second while browsing
  pub second_keeps : (s : Session) → Good im c l s → s.mode ≡ mode.Browsing → shape_fits c l ≡ true → Keeps im c l (browse_second im s)
  unfolding browse_second
  second_keeps s g b h =
      let w = idle_good s g (later s.idle) in
      by_keeps _ (λ _. record { good = top_good (waited s) w b h }) (λ _. record { good = w })
