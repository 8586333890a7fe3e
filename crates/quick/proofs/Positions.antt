-- From position to position of a table: a component more, the end of a line, the head of the next; and a whole line with its submenu.
use Prim.Native.Nat.{ℕ, ◌+◌, ◌/◌, ◌%◌, ◌≤◌, ◌<◌}
use mathlib.Core.Path.{◌≡◌, refl}
use mathlib.Core.Bool.{Bool, true, false}
use mathlib.Core.List.{List}
use native.Mathlib.Omega.{arith}
use lib.ListN.{length}
use borrow.Author.Tests.{eqb-false}
use Rattle.laws.specs.Choice.{◌=?◌}
use Rattle.cmf.specs.Refusals.{refusal_number}
use Rattle.cmf.specs.Readers.{even_from, head_at}
use Rattle.cmf.specs.Places.{lines_from}
use Rattle.cmf.specs.Layouts.{Aligned, last_bit}
use Rattle.cmf.specs.Limits.{most_lines_of_table}
use Rattle.cmf.specs.Grammar.{Head, password_at, is_last, has_submenu, next_line, submenu_table}
use Rattle.cmf.proofs.Agreeing.{agree}
use Rattle.quick.specs.declared.tally.Tally.{Tally}
use Rattle.quick.specs.declared.position.Position.{Position}
use Rattle.quick.specs.Accept.{Placed, Passes, Reaches, past, headed, AmongLines, Along, Moves, Next, Leaves}
use Rattle.acceptance.proofs.CameTo.{clash}
use Rattle.quick.proofs.Accepting as parts
use Rattle.quick.proofs.AcceptingTables as tables

-- a tag whose highest bit is not found set
pub unmarked : (x : ℕ) → (x / 128 % 2 =? 1) ≡ false → x / 128 % 2 ≡ 0
unmarked x e = let q = eqb-false (x / 128 % 2) 1 e in omega arith

abbrev spot : Tally → ℕ → ℕ → Bool → Position
spot w n line done = record { tally = w; n = n; line = record { 0 = line }; done = done }

module _ (im : List ℕ) (extent : ℕ) where
  -- a head ends after its line's place
  head_onward : {n before p end : ℕ} → Head im n before p end → p < end
  head_onward {p = p} h = rw ((agree im).head_is h).ends at ((agree im).head_reads p ((agree im).head_is h).refusal).after

  pub head_fits : {n before p end : ℕ} → Head im n before p end → end ≤ length im
  head_fits {p = p} h = rw ((agree im).head_is h).ends at ((agree im).head_reads p ((agree im).head_is h).refusal).inside

  pub moves_none : (s : Position) (m : List ℕ) → password_at im s.line.0 ≤ length im → s.tally.at ≤ length im → Moves im extent s s m m
  moves_none s m i f = record { inside = i; counted = omega arith; onward = omega arith; fits = f; carry = λ _ _ _ _ a. a }

  pub moves_then : {s r t : Position} {old mid new : List ℕ} → Moves im extent s r old mid → Moves im extent r t mid new → Moves im extent s t old new
  moves_then a b = record {
    inside = b.inside;
    counted = omega (arith, a.counted, b.counted);
    onward = omega (arith, a.onward, b.onward);
    fits = b.fits;
    carry = λ below first u m o. b.carry below first u m (a.carry below first u m o);
  }

  -- ---- a component

  module _
      (s : Position) {w : Tally} {old new : List ℕ} (d : s.done ≡ false) (i : password_at im s.line.0 ≤ length im)
      (a : Aligned im 0 s.tally.at (even_from s.tally.at)) (q : Passes im extent (even_from s.tally.at) s.tally w old new) where
    pub part_onward : s.tally.at < w.at
    part_onward = parts.onward im a q

    -- the line is done where it was the last
    pub part_moves :
        (b : Bool) → (b ≡ false → last_bit im (even_from s.tally.at) ≡ 0) → (b ≡ true → last_bit im (even_from s.tally.at) ≡ 1) →
        Moves im extent s (spot w s.n s.line.0 b) old new
    part_moves b more last = record {
      inside = i;
      counted = omega arith;
      onward = omega (arith, part_onward);
      fits = parts.part_fits im a q;
      carry = λ below first u m o. record {
        before = o.before;
        end = o.end;
        from = o.from;
        marks = o.marks;
        few = o.few;
        lines = o.lines;
        head = o.head;
        within = λ e. parts.going_more im a q (more e) (o.within d);
        through = λ e. parts.going_last im a q (last e) (o.within d);
      };
    }

  -- ---- the next line

  pub next_moves : {n line : ℕ} {w : Tally} {r : Position} (m : List ℕ) → r.done ≡ false → Next im n line w r → Moves im extent (spot w n line true) r m m
  next_moves {n} {line} {w} {r} m d k = record {
    inside = k.head.head.inside;
    counted = omega (arith, k.counted);
    onward = omega (arith, k.head.aligned.after, head_onward k.head.head);
    fits = head_fits k.head.head;
    carry = λ below first u began o. record {
      before = line;
      end = r.tally.at;
      from = w;
      marks = m;
      few = k.few;
      lines =
          rw (k.counted, k.there)
          (tables.going_more im extent below first o.few (tables.reads im extent o.few o.head (o.through refl))
          (tables.plain_line im extent o.few o.head (o.through refl) below k.plain) o.lines k.more);
      head = k.head;
      within = λ _. rw k.tally (parts.going_start im extent (headed w r.tally.at) m);
      through = λ e. clash e d;
    };
  }

  -- ---- a line by its head, and with its submenu

  pub along_head :
      {below first n before p end : ℕ} {u v : Tally} {s : Position} {old m : List ℕ} → s ≡ spot (headed v end) n p false → n < most_lines_of_table → Placed im n before p v end →
      AmongLines im extent below first u old n before p v m → Along im extent below first u old s m
  along_head {before = before} {end = end} {v = v} {m = m} e few q g =
      rw e
      (record {
        before = before;
        end = end;
        from = v;
        marks = m;
        few = few;
        lines = g;
        head = q;
        within = λ _. parts.going_start im extent (headed v end) m;
        through = λ e. clash e refl;
      })

  pub leaves_plain : {below line : ℕ} {w : Tally} {m : List ℕ} → has_submenu im line ≡ 0 → Leaves im extent below line w w m m
  leaves_plain {below} z = record { leave = λ few q c. tables.plain_line im extent few q c below z }

  pub leaves_deep :
      {below line : ℕ} {w t : Tally} {mid new : List ℕ} → has_submenu im line ≡ 1 → Reaches extent (tables.table im extent below (submenu_table im line)) w t mid new →
      Leaves im extent below line w (past t w.at) mid new
  leaves_deep {below} z d = record { leave = λ few q c. tables.deep_line im extent few q c below z d }

  -- a line that is done, with its submenu: the lines after it, or the table
  module _
      {below first : ℕ} {u w : Tally} {old mid new : List ℕ} {s : Position} (d : s.done ≡ true) (o : Along im extent below first u old s mid)
      (l : Leaves im extent below s.line.0 s.tally w mid new) where
    read : refusal_number (head_at im s.line.0).refusal ≡ 0
    read = tables.reads im extent o.few o.head (o.through d)

    pub lines_more : is_last im s.line.0 ≡ 0 → AmongLines im extent below first u old (s.n + 1) s.line.0 (next_line im s.line.0) w new
    lines_more z = tables.going_more im extent below first o.few read (l.leave o.few o.head (o.through d)) o.lines z

    pub lines_last : is_last im s.line.0 ≡ 1 → Reaches extent (tables.lines im extent below first 0 0 (lines_from im (most_lines_of_table + 1) first)) u w old new
    lines_last z = tables.going_last im extent below first o.few read (l.leave o.few o.head (o.through d)) o.lines z
