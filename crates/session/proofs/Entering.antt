-- Password entries and seconds, from what the callees ensure; one turn of the loop that compares digits.
use Prim.Native.Nat.{ℕ, zero, suc, ◌+◌, ◌≤◌, ◌<◌}
use mathlib.Core.Path.{◌≡◌, sym, ◌∙◌}
use mathlib.Core.Bool.{Bool, true, false}
use mathlib.Core.List.{List}
use native.Mathlib.Omega.{arith}
use native.Mathlib.Decide.{ℕ_discrete}
use lib.ListN.{length, get_or, set}
use borrow.Author.Tests.{eq-eqb, ne_eqb}
use Rattle.laws.specs.Choice.{◌and◌, ◌=?◌}
use Rattle.laws.specs.Bytes.{byte_at}
use Rattle.laws.proofs.Lists.{byte_past}
use Rattle.laws.proofs.Cases.{if_true, if_false, if_lt, if_ge, and_i, and_false}
use Rattle.cmf.specs.Readers.{image_of}
use Rattle.cmf.specs.declared.head.Head.{Head}
use Rattle.cmf.specs.declared.image.Image.{Image}
use Rattle.session.specs.Fits.{cursor_head}
use Rattle.session.specs.Answers.{taken, flash, browsing, in_entry}
use Rattle.session.specs.Browsing.{descended}
use Rattle.session.specs.Seconds.{later, delay_over, waited, at_top, browse_second, entry_second}
use Rattle.session.specs.Passwords.{right_to, entry_over, last_digit, digit_step}
use Rattle.session.specs.declared.session.Session.{Session}
use Rattle.session.specs.declared.answer.Stepped.{Stepped}
use Rattle.session.proofs.Stepping.{and_none}

-- ---- digits

module _ (im ds : List ℕ) (at : ℕ) where
  pub right_next : (i : ℕ) → right_to im at ds i ≡ true → byte_at im (at + i) ≡ 0x30 + get_or ds i 0 → right_to im at ds (i + 1) ≡ true
  unfolding right_to
  right_next i h d = let z : i + 1 ≡ suc i = omega arith in rw z (and_i h (eq-eqb (byte_at im (at + i)) (0x30 + get_or ds i 0) d))

  pub right_bad : (i n : ℕ) → i < n → (byte_at im (at + i) ≡ 0x30 + get_or ds i 0 → ⊥) → right_to im at ds n ≡ false
  unfolding right_to
  right_bad i zero h d = absurd (omega arith)
  right_bad i (suc n) h d = go (ℕ_discrete i n) (λ l. right_bad i n l d)
    where
      go : Dec (i ≡ n) → (i < n → right_to im at ds n ≡ false) → right_to im at ds n and (byte_at im (at + n) =? 0x30 + get_or ds n 0) ≡ false
      go (yes q) below = rw (ne_eqb (byte_at im (at + n)) (0x30 + get_or ds n 0) (rw q at d)) (and_none (right_to im at ds n))
      go (no q) below = and_false _ (below (omega arith))

  -- past the image there is no digit
  pub right_out : (i n : ℕ) → i < n → length im ≤ at + i → right_to im at ds n ≡ false
  right_out i n h l = right_bad i n h (λ e. omega (arith, e, byte_past im (at + i) l))

-- ---- entries

module _ (im : List ℕ) (s : Session) (h : Head) where
  pub last_right : (ds : List ℕ) (n : ℕ) (t : Bool) (next : Session) (r : Stepped) → t ≡ right_to im (h.password.0 + 1) ds n → t ≡ true → next ≡ entry_over s ds
      → r ≡ descended next h.table.0 → r ≡ last_digit im s h ds n
  unfolding last_digit
  last_right ds n t next r e b f g = g ∙ rw f (sym (if_true _ _ (sym e ∙ b)))

  pub last_wrong : (ds : List ℕ) (n : ℕ) (t : Bool) (next : Session) (r : Stepped) → t ≡ right_to im (h.password.0 + 1) ds n → t ≡ false → next ≡ entry_over s ds
      → r ≡ flash next → r ≡ last_digit im s h ds n
  unfolding last_digit
  last_wrong ds n t next r e b f g = g ∙ rw f (sym (if_false _ _ (sym e ∙ b)))

module _ (im : List ℕ) (s : Session) (h : Head) (e : h ≡ cursor_head im s.here) (n d b : ℕ) (ds : List ℕ) (k : b ≡ byte_at im h.password.0)
    (q : ds ≡ set s.typed n d) (r : Stepped) where
  pub digit_more_lem : n + 1 < b → r ≡ taken (in_entry s (n + 1) ds) → r ≡ digit_step im s (cursor_head im s.here) n d
  unfolding digit_step
  digit_more_lem l f = f ∙ rw (← e, q) (sym (if_lt (n + 1) (byte_at im h.password.0) _ _ (omega (arith, k))))

  pub digit_last : b ≤ n + 1 → r ≡ last_digit im s h ds (n + 1) → r ≡ digit_step im s (cursor_head im s.here) n d
  unfolding digit_step
  digit_last l f = f ∙ rw (← e, q) (sym (if_ge (n + 1) (byte_at im h.password.0) _ _ (omega (arith, k))))

-- ---- seconds

module _ (im : List ℕ) (s : Session) (i : Image) (e : i ≡ image_of im) (n : ℕ) (l : n ≡ later s.idle) (t : Bool) (r : Stepped) where
  pub top_shown : t ≡ delay_over i.delays.top n → t ≡ true → r ≡ taken (at_top (waited s)) → r ≡ browse_second im s
  unfolding browse_second
  top_shown a b f = f ∙ sym (if_true _ _ (rw (← e, ← l) (sym a ∙ b)))

  pub still_here : t ≡ delay_over i.delays.top n → t ≡ false → r ≡ taken (waited s) → r ≡ browse_second im s
  unfolding browse_second
  still_here a b f = f ∙ sym (if_false _ _ (rw (← e, ← l) (sym a ∙ b)))

  pub entry_ended : t ≡ delay_over i.delays.password n → t ≡ true → r ≡ taken (browsing (waited s)) → r ≡ entry_second im s
  unfolding entry_second
  entry_ended a b f = f ∙ sym (if_true _ _ (rw (← e, ← l) (sym a ∙ b)))

  pub entry_goes_on : t ≡ delay_over i.delays.password n → t ≡ false → r ≡ taken (waited s) → r ≡ entry_second im s
  unfolding entry_second
  entry_goes_on a b f = f ∙ sym (if_false _ _ (rw (← e, ← l) (sym a ∙ b)))
