-- The keys of browsing, from what the callees ensure; over variables, so that a proof cites one line.
use Prim.Native.Nat.{ℕ, ◌+◌}
use mathlib.Core.Path.{◌≡◌, sym, ◌∙◌}
use mathlib.Core.Bool.{true, false}
use mathlib.Core.List.{List}
use Rattle.laws.specs.Choice.{◌<?◌}
use Rattle.laws.proofs.Cases.{if_true, if_false}
use Rattle.cmf.specs.Places.{components_of, line_count, rest_of_line, first_editable}
use Rattle.cmf.specs.declared.head.Head.{Head}
use Rattle.field.specs.declared.kind.ImagePlace.{ImagePlace}
use Rattle.std.specs.Prelude.{Option}
use Rattle.session.specs.Fits.{cursor_head}
use Rattle.session.specs.Answers.{taken, flash, in_entry}
use Rattle.session.specs.Browsing.{cursor_on, down_step, descended, right_step, enter_at, enter_step}
use Rattle.session.specs.declared.session.Session.{Session}
use Rattle.session.specs.declared.answer.Stepped.{Stepped}

-- ---- the keys

module _ (im : List ℕ) (s : Session) where
  pub down_goes : (r : Stepped) → (s.here.cursor + 1 <? line_count im s.here.table.0) ≡ true → r ≡ taken (cursor_on s (s.here.cursor + 1)) → r ≡ down_step im s
  unfolding down_step
  down_goes r h f = f ∙ sym (if_true _ _ h)

  pub down_stops : (r : Stepped) → (s.here.cursor + 1 <? line_count im s.here.table.0) ≡ false → r ≡ flash s → r ≡ down_step im s
  unfolding down_step
  down_stops r h f = f ∙ sym (if_false _ _ h)

  module _ (h : Head) (e : h ≡ cursor_head im s.here) (r : Stepped) where
    pub right_asks : h.submenu ≡ true → h.protected ≡ true → r ≡ taken (in_entry s 0 s.typed) → r ≡ right_step im s
    unfolding right_step
    right_asks a b f = f ∙ sym (rw (← e) (if_true _ _ a ∙ if_true _ _ b))

    pub right_opens : h.submenu ≡ true → h.protected ≡ false → r ≡ descended s h.table.0 → r ≡ right_step im s
    unfolding right_step
    right_opens a b f = f ∙ sym (rw (← e) (if_true _ _ a ∙ if_false _ _ b))

    pub right_none : h.submenu ≡ false → r ≡ flash s → r ≡ right_step im s
    unfolding right_step
    right_none a f = f ∙ sym (rw (← e) (if_false _ _ a))

-- ---- visits, by what is found on the cursor line
pub enter_is : (im sheet : List ℕ) (s : Session) (h : Head) (f : Option ImagePlace) (r : Stepped) → h ≡ cursor_head im s.here
    → f ≡ first_editable im (rest_of_line im h.component.0) → r ≡ enter_at im sheet s f → r ≡ enter_step im sheet s
unfolding enter_step components_of cursor_head
enter_is im sheet s h f r e g k = k ∙ rw (g, e)
