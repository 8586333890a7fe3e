-- Draw, one case at a time, over variables.
use Prim.Native.Nat.{ℕ, ◌*◌}
use mathlib.Core.Path.{◌≡◌, sym, ◌∙◌}
use mathlib.Core.Bool.{true}
use mathlib.Core.List.{List, []}
use native.Mathlib.Omega.{arith}
use lib.ListN.{length}
use borrow.Author.Tests.{eqb-true}
use Rattle.laws.specs.Choice.{◌=?◌}
use Rattle.laws.proofs.Cases.{if_eq, if_ne, and_l}
use Rattle.acceptance.specs.Check.{refusal_of}
use Rattle.session.specs.Fits.{shape_fits, session_fits}
use Rattle.session.specs.declared.session.Session.{Session}
use Rattle.picture.specs.Rows.{picture_of, filled}
use Rattle.picture.proofs.Filling.{is_filled}
use Rattle.picture.specs.Cursor.{edit_cursor}
use Rattle.handset.proofs.Ordering.{none_before, none_unless, session_granted}
use Rattle.handset.specs.Refusals.{◌before◌, ◌unless◌, session_refusal}
use Rattle.handset.specs.Draw.{draw_refusal, draw_cursor, drawn_picture}

-- what a Draw that is not refused has tested
pub record Granted (im : List ℕ) (extent : ℕ) (s : Session) (n : ℕ) : Type 0 where
  pub accepted : refusal_of im extent ≡ 0
  pub fits : session_fits im s ≡ true
  pub size : n ≡ s.columns * s.lines

pub granted : (im : List ℕ) (extent : ℕ) (s : Session) (n : ℕ) → draw_refusal im extent s n ≡ 0 → Granted im extent s n
unfolding draw_refusal
granted im extent s n h =
    let a = none_before _ _ h in
    let b = session_granted im extent s a.0 in
    record {
      accepted = b.accepted;
      fits = b.fits;
      size = eqb-true n (s.columns * s.lines) (none_unless 1 _ (λ z. omega arith) a.1);
    }

-- the refusal of a Draw, from that of image, sheet and session
pub refusal_from : (im : List ℕ) (extent : ℕ) (s : Session) (n u k : ℕ) → u ≡ session_refusal im extent s → k ≡ (u before (1 unless (n =? s.columns * s.lines)))
    → k ≡ draw_refusal im extent s n
unfolding draw_refusal
refusal_from im extent s n u k p q = rw p at q

pub shape_fits_lem : (im : List ℕ) (s : Session) → session_fits im s ≡ true → shape_fits s.columns s.lines ≡ true
unfolding session_fits
shape_fits_lem im s h = and_l _ _ h

-- a refused Draw has no cursor and leaves the picture; another has both
module _ (im sheet : List ℕ) (s : Session) (d : List ℕ) (k : ℕ) (e : k ≡ draw_refusal im (length sheet) s (length d)) where
  pub refused_cursor : (k ≡ 0 → ⊥) → [] ≡ draw_cursor im (length sheet) s (length d)
  unfolding draw_cursor
  refused_cursor h = sym (rw (← e) (if_ne k 0 _ _ h))

  pub refused_picture : (k ≡ 0 → ⊥) → d ≡ drawn_picture im sheet s d
  unfolding drawn_picture
  refused_picture h = sym (rw (← e) (if_ne k 0 _ _ h))

  pub drawn_cursor : k ≡ 0 → edit_cursor im s ≡ draw_cursor im (length sheet) s (length d)
  unfolding draw_cursor
  drawn_cursor h = sym (rw (← e) (if_eq k 0 _ _ h))

  pub drawn_picture_lem : k ≡ 0 → picture_of im sheet s ≡ drawn_picture im sheet s d
  unfolding drawn_picture
  drawn_picture_lem h = sym (rw (← e) (if_eq k 0 _ _ h))

  -- what is not refused has the shape and the size that the picture asks for
  pub drawn_filled : k ≡ 0 → filled im sheet s d ≡ drawn_picture im sheet s d
  drawn_filled h =
      let g = granted im (length sheet) s (length d) (sym e ∙ h) in
      sym (is_filled im sheet s d (shape_fits_lem im s g.fits) g.size) ∙ drawn_picture_lem h
