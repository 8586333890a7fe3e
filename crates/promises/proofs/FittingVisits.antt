-- Visits keep a session that fits fitting: one begins on an editable component of the cursor line, its working copy stays legal, and the next one is
-- of a component of the same line.
use Prim.Native.Nat.{ℕ}
use mathlib.Core.Path.{◌≡◌, ◌∙◌}
use mathlib.Core.Bool.{Bool, true, false}
use mathlib.Core.List.{List, Memᴰ}
use lib.ListN.{length}
use Rattle.laws.specs.Choice.{◌=?◌}
use Rattle.laws.proofs.Cases.{and_i, and_l, and_r}
use Rattle.field.specs.Profiles.{profile_of}
use Rattle.field.specs.Sheet.{finished_in}
use Rattle.field.specs.declared.kind.Kind.{Kind}
use Rattle.field.specs.declared.kind.ImagePlace.{ImagePlace}
use Rattle.field.specs.declared.record.Field.{Field}
use Rattle.field.specs.declared.work.Work.{Work}
use Rattle.keys.specs.declared.press.Outcome.{Outcome}
use Rattle.keys.specs.declared.press.Outcome.TheVariants as outcome
use Rattle.field.proofs.Legal.{Legal}
use Rattle.keys.proofs.Outcomes.{Facts}
use Rattle.cmf.specs.Grammar.{WellFormed}
use Rattle.cmf.specs.Readers.{component_at}
use Rattle.cmf.specs.Places.{components_of, next_editable}
use Rattle.std.specs.Prelude.{Option}
use Rattle.acceptance.proofs.Reach.{part_of}
use Rattle.session.specs.Events.{enter}
use Rattle.session.specs.Fits.{shape_fits, cursor_line, visit_fits, mode_fits}
use Rattle.session.specs.Answers.{with_idle, in_visit}
use Rattle.session.specs.Browsing.{visit_at, enter_at, enter_step}
use Rattle.session.specs.Visits.{moved_to, moved_on, followed, visit_step}
use Rattle.session.specs.declared.session.Mode.TheVariants as mode
use Rattle.session.specs.declared.session.Session.{Session}
use Rattle.journal.proofs.Components.{editable_holds, in_member, member_in, EditableIn, by_found, first_editable_in, next_editable_in}
use Rattle.journal.proofs.Reached.{cursor_line_in}
use Rattle.journal.proofs.Executor.{pressed_says, work_legal}
use Rattle.promises.proofs.Fitting.{Good, fits_of, Keeps, by_keeps, idle_good, doing_good, browsing_good}
use Rattle.promises.proofs.WorkingCopies.{Ready, component_ready, legal_fits, begun_legal, begun_cells, pressed_legal, pressed_long}

-- ---- the steps, for a session that fits an image which is well formed

module _ (im : List ℕ) (c l : ℕ) (shape : shape_fits c l ≡ true) (n : ℕ) (w : WellFormed im n) where
  -- the components of a session's cursor line
  abbrev line_of : Session → List ℕ
  line_of s = components_of im (cursor_line im s.here)

  -- each can be visited
  line_ready : (s : Session) → Good im c l s → (q : ℕ) → Memᴰ q (line_of s) → Ready (component_at im q).field
  line_ready s g q m = component_ready im q (part_of (cursor_line_in im n w s (fits_of im c l s shape g)).line.parts q m).refusal

  module _ (s : Session) (g : Good im c l s) where
    -- a visit of an editable component of the line, with a legal working copy
    visit_good : (q : ImagePlace) (v : Work) → Memᴰ q.0 (line_of s) → (component_at im q.0).editable ≡ true
        → Legal (component_at im q.0).field.kind v → length v.cells ≡ 32 → Good im c l (in_visit s q v)
    unfolding mode_fits visit_fits
    visit_good q v m e h z =
        doing_good im c l s g (mode.Visit q) v s.typed z g.sized.typed
        (and_i (member_in q.0 _ m) (and_i (editable_holds im q.0 e) (and_i e (legal_fits _ v h))))

    -- a visit that begins
    begun_good : (sheet : List ℕ) (q : ImagePlace) → Memᴰ q.0 (line_of s) → (component_at im q.0).editable ≡ true → Good im c l (visit_at im sheet s q)
    begun_good sheet q m e = visit_good q _ m e (begun_legal _ sheet (line_ready s g q.0 m)) (begun_cells (component_at im q.0).field sheet)

    -- ENTER while browsing
    pub enter_keeps : (sheet : List ℕ) → Keeps im c l (enter_step im sheet s)
    unfolding enter_step enter_at
    enter_keeps sheet =
        by_found (λ (f : Option ImagePlace). Keeps im c l (enter_at im sheet s f)) (first_editable_in im (line_of s))
        (λ q m o. record { good = begun_good sheet q m o }) (record { good = g })

    module _ (p : ImagePlace) (m : Memᴰ p.0 (line_of s)) where
      -- the next editable component is on the line too
      next_in : EditableIn im (line_of s) (next_editable im p.0)
      unfolding components_of
      next_in = next_editable_in im _ p.0 m

      -- a visit that is over leads to the next one of the line, or to browsing
      moved_good : (sheet : List ℕ) → Good im c l (moved_on im sheet s p.0)
      unfolding moved_on moved_to
      moved_good sheet =
          by_found (λ (f : Option ImagePlace). Good im c l (moved_to im sheet s f)) next_in (λ q i o. begun_good sheet q i o)
          (browsing_good im c l s g s.typed g.sized.typed)

      -- by the outcome of a key, with the working copy v that it gave
      followed_keeps : (sheet : List ℕ) (f : Field) (k : Kind) (t : Bool) (u v : Work) (o : Outcome) → Facts t k u v o → (component_at im p.0).editable ≡ true
          → ((profile_of k).fires ≡ false → Legal (component_at im p.0).field.kind v) → length v.cells ≡ 32 → Keeps im c l (followed im sheet s p f v o)
      unfolding followed
      followed_keeps sheet f k t u v outcome.Taken x e h z = record { good = visit_good p v m e (h x.1) z }
      followed_keeps sheet f k t u v outcome.Flash x e h z = record { good = g }
      followed_keeps sheet f k t u v outcome.NextPart x e h z = record { good = visit_good p v m e (h x.1) z }
      followed_keeps sheet f k t u v outcome.Done x e h z = record { good = moved_good (finished_in f v sheet) }
      followed_keeps sheet f k t u v outcome.Fired x e h z = record { good = g }
      followed_keeps sheet f k t u v outcome.Passed x e h z = record { good = moved_good sheet }

  -- what the mode asks of the session
  visited : (s : Session) → Good im c l s → (p : ImagePlace) → s.mode ≡ mode.Visit p → visit_fits im (cursor_line im s.here) s.work p.0 ≡ true
  unfolding mode_fits
  visited s g p m = rw m at g.mode

  -- every event of a visit
  pub visit_keeps : (s : Session) → Good im c l s → (sheet : List ℕ) (p : ImagePlace) (e : ℕ) → s.mode ≡ mode.Visit p → Keeps im c l (visit_step im sheet s p e)
  unfolding visit_step visit_fits
  visit_keeps s g sheet p e m =
      let here = visited s g p m in
      let k = (component_at im p.0).field.kind in
      by_keeps im c l _ (λ _. record { good = g })
      (λ _. followed_keeps (with_idle s 0) (idle_good im c l s g 0) p (in_member p.0 _ (and_l _ _ here)) sheet _ k (e =? enter) s.work _ _
      (pressed_says k s.work e).facts (and_l _ _ (and_r _ _ (and_r _ _ here)))
      (λ f. pressed_legal k s.work e (work_legal k s.work (and_r _ _ (and_r _ _ (and_r _ _ here))) f)) ((pressed_long k s.work e).long ∙ g.sized.cells))
