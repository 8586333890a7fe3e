-- Passwords: those of lines that read well have 1 to 8 digits, all of them in the image; and digits typed that are right are the password's bytes.
use Prim.Native.Nat.{ℕ, zero, suc, ◌+◌, ◌≤◌, ◌<◌}
use mathlib.Core.Path.{◌≡◌, refl, sym, ◌∙◌}
use mathlib.Core.Bool.{Bool, true, false, false≢true}
use mathlib.Core.List.{List, map-append}
use native.Mathlib.Omega.{arith}
use lib.ListN.{length, get_or, take, drop, length-drop}
use lib.Seq.{take-suc, get_or-drop}
use borrow.Author.Tests.{eqb-true, eqb-false, leb-true}
use Rattle.laws.specs.Choice.{when◌then◌else◌, ◌=?◌}
use Rattle.laws.specs.Bytes.{byte_at, room}
use Rattle.laws.specs.Parts.{part_at}
use Rattle.laws.proofs.Cases.{if_ind, if_true, if_eq, by_test, and_l, and_r}
use Rattle.laws.proofs.Rooms.{room_le, le_room}
use Rattle.cmf.specs.Limits.{longest_password}
use Rattle.cmf.specs.declared.refusal.Refusal.{Refusal}
use Rattle.cmf.specs.Readers.{tag_bit, texts_from, password_fits, text_bytes, options_end, passwords, head_refused, head_read, head_by, head_at}
use Rattle.cmf.specs.declared.head.Head.{Head}
use Rattle.cmf.specs.declared.text.Run.{Run}
use Rattle.session.specs.Passwords.{right_to}
use Rattle.protected.specs.Protected.{as_digits}

-- ---- the password of a line

-- the password at a place has 1 to 8 digits, and they are all in the image
pub record PasswordThere (im : List ℕ) (at : ℕ) : Type 0 where
  pub some : 1 ≤ byte_at im at
  pub few : byte_at im at ≤ 8
  pub inside : at + 1 + byte_at im at ≤ length im

-- the password of a line that is protected by a good one; a protected line has a submenu
pub record Guarded (im : List ℕ) (h : Head) : Type 0 where
  pub guarded : h.protected ≡ true → h.typeable ≡ true → PasswordThere im h.password.0
  pub submenu : h.protected ≡ true → h.submenu ≡ true

module _ (im : List ℕ) where
  -- a text that is read is in the image
  text_inside : (at : ℕ) → (texts_from im 1 at 0).fits ≡ true → at + 1 + byte_at im at ≤ length im
  unfolding texts_from
  text_inside at =
      if_ind Inside (room (length im) at 1)
      (λ a. if_ind Inside (room (length im) (at + 1) (byte_at im at)) (λ b f. room_le (length im) (at + 1) (byte_at im at) b) (λ b f. absurd (false≢true f)))
      (λ a f. absurd (false≢true f))
    where
      Inside : Run → Type 0
      Inside t = t.fits ≡ true → at + 1 + byte_at im at ≤ length im

  -- a password that passes the test has a digit, and is short
  some_digit : (at : ℕ) → password_fits im at ≡ true → 1 ≤ byte_at im at
  unfolding password_fits
  some_digit at h = leb-true 1 (byte_at im at) (and_l _ _ h)

  few_digits : (at : ℕ) → password_fits im at ≡ true → byte_at im at ≤ 8
  unfolding password_fits
  few_digits at h = leb-true (byte_at im at) longest_password (and_l _ _ (and_r _ _ h))

  module _ (p : ℕ) where
    -- a head that is refused has no password, and of one that is read both are tested
    refused_guarded : (r : Refusal) → Guarded im (head_refused p r)
    refused_guarded r = record { guarded = λ e g. absurd (false≢true e); submenu = λ e. absurd (false≢true e) }

    read_guarded : (tag end : ℕ) → (texts_from im (passwords tag) (options_end p tag) 0).fits ≡ true → Guarded im (head_read im p tag end)
    read_guarded tag end f = record {
      guarded = λ e g.
          let one = eqb-true (passwords tag) 1 e in
          let fits = rw (if_eq (passwords tag) 1 (password_fits im (options_end p tag)) true one) at g in
          record { some = some_digit (options_end p tag) fits; few = few_digits (options_end p tag) fits; inside = text_inside (options_end p tag) (rw one at f) };
      submenu = λ e. both (eqb-true (passwords tag) 1 e);
    }
      where
        -- a product of two bits
        both : passwords tag ≡ 1 → tag_bit 8 tag =? 1 ≡ true
        both e =
            by_test (tag_bit 8 tag =? 1) (λ h. h)
            (λ h. let z : tag_bit 8 tag ≡ 0 = omega (arith, eqb-false (tag_bit 8 tag) 1 h) in absurd (omega (arith, rw z at e)))

    by_guarded : (t : Bool) {x y : Head} → (t ≡ true → Guarded im x) → (t ≡ false → Guarded im y) → Guarded im (when t then x else y)
    by_guarded t f g = if_ind (Guarded im) t f g

    -- so it is at every place
    pub head_guarded : Guarded im (head_at im p)
    unfolding head_at head_by
    head_guarded = search (by_guarded, refused_guarded, read_guarded) depth 12

  -- ---- digits

  -- digits that are right are the password's bytes
  right_digits : (ds : List ℕ) (at n : ℕ) → n ≤ length ds → at + n ≤ length im → right_to im at ds n ≡ true → as_digits (take n ds) ≡ part_at at n im
  unfolding right_to
  right_digits ds at zero l r h = refl
  right_digits ds at (suc n) l r h =
      let e = eqb-true (byte_at im (at + n)) (0x30 + get_or ds n 0) (and_r _ _ h) in
      let here : n < length (drop at im) = omega (arith, length-drop at im) in
      rw (take-suc ds n 0 l, map-append, right_digits ds at n (omega arith) (omega arith) (and_l _ _ h), take-suc (drop at im) n 0 here, get_or-drop, e)

  -- which are its text
  text_is : (at : ℕ) → PasswordThere im at → text_bytes im at ≡ part_at (at + 1) (byte_at im at) im
  unfolding text_bytes
  text_is at w = if_true _ _ (le_room (length im) at (1 + byte_at im at) (omega arith))

  -- a whole password's worth of right digits
  pub typed_right : (at : ℕ) (ds : List ℕ) (n : ℕ) → PasswordThere im at → byte_at im at ≡ suc n → length ds ≡ 8 → right_to im (at + 1) ds (suc n) ≡ true
      → as_digits (take (suc n) ds) ≡ text_bytes im at
  typed_right at ds n w e l h = right_digits ds (at + 1) (suc n) (omega arith) (omega arith) h ∙ sym (text_is at w ∙ rw e)
