-- A visit's keys and what follows from them, from what the callees ensure; over variables, so that a proof cites one line.
use Prim.Native.Nat.{ℕ, ◌≤◌, ◌<◌}
use mathlib.Core.Path.{◌≡◌, sym, ap, ◌∙◌}
use mathlib.Core.List.{List}
use Rattle.laws.proofs.Cases.{if_eq, if_ne, if_le, if_gt}
use Rattle.field.specs.Profiles.{profile_of, cell_of}
use Rattle.keys.specs.Keys.{digit_key, flash}
use Rattle.field.specs.declared.kind.Kind.{Kind}
use Rattle.field.specs.declared.kind.ImagePlace.{ImagePlace}
use Rattle.field.specs.declared.work.Work.{Work}
use Rattle.keys.specs.declared.press.Pressed.{Pressed}
use Rattle.cmf.specs.Readers.{component_at}
use Rattle.cmf.specs.Places.{next_editable}
use Rattle.std.specs.Prelude.{Option}
use Rattle.cmf.specs.declared.component.Component.{Component}
use Rattle.session.specs.Answers.{taken, with_idle}
use Rattle.session.specs.Visits.{pressed, moved_to, moved_on, followed, followed_sheet, visit_step, visit_sheet}
use Rattle.session.specs.Step.{step_in, sheet_in, step_of, sheet_of}
use Rattle.session.specs.declared.session.Mode.{Mode}
use Rattle.session.specs.declared.session.Mode.TheVariants as mode
use Rattle.session.specs.declared.session.Session.{Session}
use Rattle.session.specs.declared.answer.Stepped.{Stepped}

-- ---- keys that are no cursor key and no ENTER

module _ (k : Kind) (w : Work) (e : ℕ) (a : e ≡ 11 → ⊥) (b : e ≡ 12 → ⊥) (c : e ≡ 13 → ⊥) (d : e ≡ 14 → ⊥) (f : e ≡ 15 → ⊥) where
  pub press_digit : e ≤ 9 → digit_key (profile_of k) (cell_of k w.cells w.at) w e ≡ pressed k w e
  unfolding pressed
  press_digit h = sym (if_ne e 11 _ _ a ∙ if_ne e 12 _ _ b ∙ if_ne e 13 _ _ c ∙ if_ne e 14 _ _ d ∙ if_ne e 15 _ _ f ∙ if_le e 9 _ _ h)

  pub press_other : 9 < e → flash w ≡ pressed k w e
  unfolding pressed
  press_other h = sym (if_ne e 11 _ _ a ∙ if_ne e 12 _ _ b ∙ if_ne e 13 _ _ c ∙ if_ne e 14 _ _ d ∙ if_ne e 15 _ _ f ∙ if_gt e 9 _ _ h)

-- ---- the next component

pub moved_is : (im sheet : List ℕ) (s r : Session) (p : ℕ) (f : Option ImagePlace) → f ≡ next_editable im p → r ≡ moved_to im sheet s f → r ≡ moved_on im sheet s p
unfolding moved_on
moved_is im sheet s r p f e g = g ∙ ap (moved_to im sheet s) e

-- ---- a step

module _ (im sheet : List ℕ) (s : Session) (p : ImagePlace) (e : ℕ) where
  pub second_step : (r : Stepped) → e ≡ 16 → r ≡ taken s → r ≡ visit_step im sheet s p e
  unfolding visit_step
  second_step r h g = g ∙ sym (if_eq e 16 _ _ h)

  pub second_sheet : e ≡ 16 → sheet ≡ visit_sheet im sheet s p e
  unfolding visit_sheet
  second_sheet h = sym (if_eq e 16 _ _ h)

  module _ (c : Component) (k : Pressed) (h : e ≡ 16 → ⊥) (a : c ≡ component_at im p.0) (b : k ≡ pressed c.field.kind s.work e) where
    pressed_is : k ≡ pressed (component_at im p.0).field.kind s.work e
    pressed_is = b ∙ ap (λ (x : Component). pressed x.field.kind s.work e) a

    pub key_step : (awake : Session) (r : Stepped) → awake ≡ with_idle s 0 → r ≡ followed im sheet awake p c.field k.work k.outcome
        → r ≡ visit_step im sheet s p e
    unfolding visit_step
    key_step awake r f g = g ∙ rw (f, a) (sym (rw (← pressed_is) (if_ne e 16 _ _ h)))

    pub key_sheet : (d : List ℕ) → d ≡ followed_sheet sheet c.field k.work k.outcome → d ≡ visit_sheet im sheet s p e
    unfolding visit_sheet
    key_sheet d g = g ∙ rw a (sym (rw (← pressed_is) (if_ne e 16 _ _ h)))

-- ---- a session that is in a visit steps by it

module _ (im sheet : List ℕ) (s : Session) (e : ℕ) (p : ImagePlace) (h : s.mode ≡ mode.Visit p) where
  pub in_visit_lem : visit_step im sheet s p e ≡ step_of im sheet s e
  unfolding step_in
  in_visit_lem = sym (ap (λ (m : Mode). step_in im sheet s e m) h)

  pub in_visit_sheet : visit_sheet im sheet s p e ≡ sheet_of im sheet s e
  unfolding sheet_in
  in_visit_sheet = sym (ap (λ (m : Mode). sheet_in im sheet s e m) h)
