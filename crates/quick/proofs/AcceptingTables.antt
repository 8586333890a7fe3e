-- Where the quick walk has no doubt the check's walk comes as far: over heads, lines and tables, and from the top table to the answer.
use Prim.Native.Nat.{ℕ, suc, ◌+◌, ◌-◌, ◌≤◌, ◌<◌}
use mathlib.Core.Path.{◌≡◌, refl, sym, ap, ◌∙◌}
use mathlib.Core.Bool.{true, false≢true}
use mathlib.Core.List.{List}
use native.Mathlib.Omega.{arith}
use lib.ListN.{length}
use Rattle.std.proofs.Common.{Option, Some, None}
use Rattle.std.specs.Option.{is_some, IfSome}
use Rattle.laws.specs.Choice.{when◌then◌else◌}
use Rattle.laws.proofs.Cases.{if_true, if_false, if_eq}
use Rattle.cmf.specs.Refusals.{refusal_number}
use Rattle.cmf.specs.Limits.{most_fields, most_lines_of_table, longest_sheet, deepest_table, prolog_bytes}
use Rattle.cmf.specs.Readers.{even_from, title_at, head_at}
use Rattle.cmf.specs.Places.{lines_from, lines_of, components_from, components_of}
use Rattle.cmf.specs.Grammar.{is_last, has_submenu, next_line, submenu_table}
use Rattle.cmf.specs.declared.title.Title as read-title
use Rattle.cmf.proofs.Agreement.{Agree, HeadReads}
use Rattle.cmf.proofs.Agreeing.{agree}
use Rattle.quick.specs.declared.tally.Tally.{Tally}
use Rattle.acceptance.specs.Check.{State, on_components, on_head, on_title, on_submenu, on_body, on_line, on_lines, on_table, start, walked, prolog_refusal, checked, refusal_of}
use Rattle.quick.specs.Accept.{Placed, Covers, AsFar, Reaches, past, headed, AmongLines}
use Rattle.acceptance.proofs.Steps.{title_goes, head_goes}
use Rattle.acceptance.proofs.Line.{last_marked, more_marked, submenu_marked, plain_marked}
use Rattle.acceptance.proofs.Tables.{lines_last, lines_more}
use Rattle.quick.proofs.Accepting.{far_then, far_at}

module _ (im : List ℕ) (extent : ℕ) where
  abbrev A : Agree im
  A = agree im

  abbrev pub parts : ℕ → State → State
  parts first = on_components im extent most_fields (components_from im (length im + 1) first)

  abbrev pub table : ℕ → ℕ → State → State
  table left t = on_table im extent most_fields left t

  abbrev pub line : ℕ → ℕ → ℕ → ℕ → State → State
  line below n before p = on_line im extent most_fields (on_table im extent most_fields below) n before p

  -- ---- a line

  module _ {n before p end : ℕ} {w b : Tally} {old mid : List ℕ} (few : n < most_lines_of_table) (q : Placed im n before p w end) (c : Reaches extent (parts (even_from end)) (headed w end) b old mid) where
    pub reads : refusal_number (head_at im p).refusal ≡ 0
    reads = (A.head_is q.head).refusal

    known : HeadReads im p
    known = A.head_reads p reads

    first_component : (head_at im p).component.0 ≡ even_from end
    first_component = known.component ∙ ap even_from (A.head_is q.head).ends

    module _ (s : State) (h : extent ≤ longest_sheet) (t : AsFar w old s) (submenu : ℕ → State → State) where
      abbrev x : State
      x = on_head im extent most_fields n before p s

      abbrev y : State
      y = on_components im extent most_fields (components_of im p) x

      head_far : AsFar (headed w end) old x
      head_far =
          far_at x end (w.lines + 1) s.fields
          (ap (on_head im extent most_fields n before p) t.is ∙ head_goes im A extent most_fields n before p end w.at w.lines s.fields q.head q.aligned few q.room)
          refl refl t.count t.covers

      body_far : AsFar b mid y
      unfolding components_of
      body_far = rw first_component (c.reach x h head_far)

      -- what is left is the submenu
      line_is : on_line im extent most_fields submenu n before p s ≡ on_submenu im extent most_fields submenu (head_at im p) y
      unfolding on_line on_body
      line_is = far_then _ head_far ∙ far_then _ body_far

    pub plain_line : (below : ℕ) → has_submenu im p ≡ 0 → Reaches extent (line below n before p) w b old mid
    unfolding on_submenu
    plain_line below z = record {
      reach = λ s h t.
          rw (line_is s h t (on_table im extent most_fields below) ∙ if_false _ _ (plain_marked im A known z)) (body_far s h t (on_table im extent most_fields below));
    }

    pub deep_line :
        (below : ℕ) {r : Tally} {new : List ℕ} → has_submenu im p ≡ 1 → Reaches extent (table below (submenu_table im p)) b r mid new → Reaches extent (line below n before p) w (past r b.at) old new
    unfolding on_submenu when◌then◌else◌
    deep_line below {r} {new} z d = record {
      reach = λ s h t.
          let u = body_far s h t (on_table im extent most_fields below) in
          let v = d.reach (y s h t (on_table im extent most_fields below)) h u in
          far_at _ b.at r.lines (on_table im extent most_fields below (submenu_table im p) (y s h t (on_table im extent most_fields below))).fields
          (line_is s h t (on_table im extent most_fields below) ∙ if_true _ _ (submenu_marked im A known z)
          ∙ rw (known.table, ap (λ (o : State). o.progress) v.is, ap (λ (o : State). o.progress.at) u.is) refl)
          refl refl v.count v.covers;
    }

  -- ---- the lines of a table: those that are left, done to a state that has come as far, are the whole

  module _ (below first : ℕ) where
    abbrev pub lines : ℕ → ℕ → List ℕ → State → State
    lines n before ps = on_lines im extent most_fields (on_table im extent most_fields below) n before ps

    pub going_start : (u : Tally) (m : List ℕ) → AmongLines im extent below first u m 0 0 first u m
    going_start u m = record { go = λ s h t. record { here = s; far = t; rest = refl } }

    module _ {u : Tally} {old : List ℕ} {n before p : ℕ} {v w : Tally} {mid new : List ℕ} (few : n < most_lines_of_table) (z : refusal_number (head_at im p).refusal ≡ 0) (c : Reaches extent (line below n before p) v w mid new) (g : AmongLines im extent below first u old n before p v mid) where
      one_more : most_lines_of_table + 1 - n ≡ suc (most_lines_of_table - n)
      one_more = omega arith

      rest_of : most_lines_of_table + 1 - (n + 1) ≡ most_lines_of_table - n
      rest_of = omega arith

      pub going_more : is_last im p ≡ 0 → AmongLines im extent below first u old (n + 1) p (next_line im p) w new
      unfolding on_lines
      going_more b = record {
        go = λ s h t.
            let o = g.go s h t in
            let k = c.reach o.here h o.far in
            record {
              here = line below n before p o.here;
              far = k;
              rest =
                  o.rest
                  ∙ rw (one_more, rest_of, lines_more im (most_lines_of_table - n) p (more_marked im A (A.head_reads p z) b), (A.head_reads p z).next) (far_then _ k);
            };
      }

      pub going_last : is_last im p ≡ 1 → Reaches extent (lines 0 0 (lines_from im (most_lines_of_table + 1) first)) u w old new
      unfolding on_lines
      going_last b = record {
        reach = λ s h t.
            let o = g.go s h t in
            let k = c.reach o.here h o.far in
            rw (o.rest, one_more, lines_last im (most_lines_of_table - n) p (last_marked im A (A.head_reads p z) b), far_then (line below n before p o.here) k) k;
      }

  -- ---- a table

  pub table_reaches :
      (t : ℕ) {left below : ℕ} {title : read-title.Title} {v w r : Tally} {old new : List ℕ} → left ≡ suc below → title ≡ title_at im t → refusal_number title.refusal ≡ 0 →
      v ≡ past w title.end → Reaches extent (lines below title.line.0 0 0 (lines_from im (most_lines_of_table + 1) title.line.0)) v r old new →
      Reaches extent (table left t) w r old new
  unfolding on_table lines_of
  table_reaches t {left} {below} {title} {w = w} e f z b c = record {
    reach = λ s h k.
        let q : refusal_number (title_at im t).refusal ≡ 0 = rw f at z in
        let o =
        far_at (on_title im extent most_fields t s) (title_at im t).end w.lines s.fields
        (ap (on_title im extent most_fields t) k.is ∙ title_goes im A extent most_fields t w.at w.lines s.fields q) (ap (λ (x : read-title.Title). x.end) (sym f)) refl
        k.count k.covers in
        rw (e, ← f, far_then (on_lines im extent most_fields (on_table im extent most_fields below) 0 0 (lines_from im (most_lines_of_table + 1) title.line.0) (on_title im extent most_fields t s)) o)
        ((rw b at c).reach (on_title im extent most_fields t s) h o);
  }

  -- ---- the whole image

  pub nothing_refused :
      (m new : List ℕ) (r : Option Tally) → is_some r ≡ true → extent ≤ longest_sheet → refusal_number (prolog_refusal im) ≡ 0 →
      IfSome r (λ t. Reaches extent (table deepest_table prolog_bytes) (record { at = 0; lines = 0; fields = 0 }) t m new) → refusal_of im extent ≡ 0
  unfolding refusal_of checked walked
  nothing_refused m new None e h p c = absurd (false≢true e)
  nothing_refused m new (Some r) e h p c =
      let t = c.reach start h (record { is = refl; count = refl; covers = Covers.none }) in
      ap (λ (s : State). refusal_number s.progress.refusal) (if_eq (refusal_number (prolog_refusal im)) 0 _ _ p ∙ t.is)
