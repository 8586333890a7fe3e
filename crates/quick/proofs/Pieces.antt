-- Pieces of an image recognised by a few tests: constant strings, options and switches, and heads by their tags.
use Prim.Native.Nat.{ℕ, suc, ◌+◌, ◌-◌, ◌*◌, ◌%◌, ◌^◌, ◌≤◌, ◌<◌, max}
use mathlib.Core.Path.{◌≡◌, refl, sym, ◌∙◌}
use mathlib.Core.Bool.{true}
use mathlib.Core.List.{List, [], ◌∷◌}
use native.Mathlib.Omega.{arith}
use native.Mathlib.Nat.{add_assoc}
use lib.ListN.{length}
use borrow.Author.Tests.{lt-ltb}
use Rattle.laws.specs.Bytes.{byte_at, word_at}
use Rattle.field.specs.Profiles.{profile_of}
use Rattle.field.specs.Values.{number_of, value_at}
use Rattle.field.specs.Settings.{settings_fit}
use Rattle.field.specs.declared.kind.Kind.TheVariants.{Option}
use Rattle.cmf.specs.Limits.{prolog_bytes}
use Rattle.cmf.specs.Layouts.{bit, Text, Texts, Component, switch_at, option_at}
use Rattle.cmf.specs.Grammar.{Head, Password, Digits, is_first, is_last, is_dynamic, has_submenu, previous_at, submenu_at, password_at, submenu_table}
use Rattle.field.proofs.Fitting.{four_bytes, switch_fits}
use Rattle.cmf.proofs.Shortcuts.{one_byte, option_good}
use Rattle.quick.specs.Accept.{Linked}

-- the bits of a tag that is 0 or 2
record Plain (t : ℕ) : Type 0 where
  first : bit 0 t ≡ 0
  last : 2 * bit 1 t ≡ t
  dynamic : bit 2 t ≡ 0
  submenu : bit 3 t ≡ 0
  password : bit 4 t ≡ 0

plain_bits : (t : ℕ) → t ≤ 2 → t % 2 ≡ 0 → Plain t
plain_bits t few even = record { first = omega arith; last = omega arith; dynamic = omega arith; submenu = omega arith; password = omega arith }

-- where the pointer back is, and the end
plain_places :
    (p t end first last dynamic submenu : ℕ) → t ≤ 2 → first ≡ 0 → 2 * last ≡ t → dynamic ≡ 0 → submenu ≡ 0 → end ≡ p + 5 - t →
    (p + 1 + 2 * (1 - last) ≡ end - 2) × (p + 1 + 2 * (1 - last) + 2 * (1 - first) + 2 * dynamic + 2 * submenu ≡ end)
plain_places p t end first last dynamic submenu few f l d s e = (omega arith, omega arith)

module _ (im : List ℕ) where
  -- ---- a constant string

  pub string_is : (at end : ℕ) → byte_at im at % 64 ≡ 0x15 → end ≡ at + 2 + byte_at im (at + 1) → end ≤ length im → Component im at end []
  string_is at end t e h = Component.constant (omega arith) (omega arith) (record { ends = omega arith; inside = h })

  -- ---- texts that fill the bytes up to an end: what is left of them makes the whole

  pub record Filling (from end count at seen most : ℕ) : Type 0 where
    pub fill : at ≤ end → seen ≤ count → (longest : ℕ) → Texts im (count - seen) at end longest → Texts im count from end (max most longest)

  filling_start : (from end count : ℕ) → Filling from end count from 0 0
  filling_start from end count = record { fill = λ _ _ l t. let z : max 0 l ≡ l = omega arith in let n : count - 0 ≡ count = omega arith in rw z (rw n at t) }

  pub filling_next :
      (from end count at seen most next mid : ℕ) → mid ≡ at + 1 + byte_at im at → end ≤ length im → next ≡ max (byte_at im at) most → Filling from end count at seen most →
      Filling from end count mid (seen + 1) next
  filling_next from end count at seen most next mid u i e f = record {
    fill = λ a s l t.
        let z : count - seen ≡ suc (count - (seen + 1)) = omega arith in
        let m : max next l ≡ max most (max (byte_at im at) l) = omega arith in
        rw m (f.fill (omega arith) (omega arith) (max (byte_at im at) l)
        (rw z (Texts.more mid (record { ends = u; inside = omega arith }) t)));
  }

  -- the first of them
  pub filling_first : (from end count : ℕ) → end ≤ length im → Filling from end count (from + 1 + byte_at im from) 1 (byte_at im from)
  filling_first from end count i = filling_next from end count from 0 0 (byte_at im from) (from + 1 + byte_at im from) refl i (omega arith) (filling_start from end count)

  pub filled : (from end count at seen most longest : ℕ) → at ≡ end → seen ≡ count → most ≡ longest → Filling from end count at seen most → Texts im count from end longest
  filled from end count at seen most longest a z m f =
      let q : longest ≡ max most 0 = omega arith in
      let n : count - seen ≡ 0 = omega arith in
      rw q (f.fill (omega arith) (omega arith) 0 (rw (n, a) Texts.none))

  -- ---- an option

  -- a default below the count of items is in range
  option_fits : (n w at : ℕ) → byte_at im at < n → settings_fit (Option n w) (value_at at 1 im) ≡ true
  option_fits n w at h = sym (option_good n w (value_at at 1 im)) ∙ lt-ltb (number_of (value_at at 1 im)) n (rw (one_byte at im) h)

  pub option_is :
      (at end : ℕ) → byte_at im at % 32 ≡ 0x14 → at + 10 ≤ length im → byte_at im (at + 9) < byte_at im (at + 7) → end ≡ at + byte_at im (at + 6) →
      Texts im (byte_at im (at + 7)) (at + 10) end (byte_at im (at + 8)) → Component im at end (option_at im at ∷ [])
  unfolding profile_of
  option_is at end t i d e ts =
      Component.option (omega arith) (record { inside = i; items = ts; counted = e })
      (record { good = option_fits (byte_at im (at + 7)) (byte_at im (at + 8)) (at + 9) d })

  -- ---- a switch

  -- a default below the power of two has no bit that the switch does not state
  pub switch_good :
      (at x : ℕ) → 1 ≤ byte_at im (at + 7) → byte_at im (at + 7) ≤ 32 → x ≡ word_at im (at + 10) + 65536 * word_at im (at + 12) → x < 2 ^ byte_at im (at + 7) →
      settings_fit (switch_at im at).kind (switch_at im at).default ≡ true
  unfolding profile_of word_at
  switch_good at x a b e h =
      let n = simp add_assoc at (four_bytes (at + 10) im) in
      let z = simp add_assoc at e in
      let q : number_of (value_at (at + 10) 4 im) ≡ x = omega arith in
      switch_fits (byte_at im (at + 7)) (value_at (at + 10) 4 im) a b (rw q h)

  pub switch_is :
      (at end longest : ℕ) → byte_at im at % 32 ≡ 0x13 → at + 14 ≤ length im → settings_fit (switch_at im at).kind (switch_at im at).default ≡ true →
      end ≡ at + byte_at im (at + 6) → Texts im (byte_at im (at + 7)) (at + 14) end longest → Component im at end (switch_at im at ∷ [])
  switch_is at end longest t i g e ts = Component.switch (omega arith) (record { inside = i; longest = longest; texts = ts; counted = e }) (record { good = g })

  -- ---- the head of a later line that has no mark but that of the last

  pub plain_is :
      (n before p end : ℕ) → 0 < n → byte_at im p ≤ 2 → byte_at im p % 2 ≡ 0 → end ≡ p + 5 - byte_at im p → end ≤ length im → before ≤ p →
      word_at im (end - 2) ≡ p - before → Head im n before p end
  plain_is n before p end z few even e i b w =
      let t = plain_bits (byte_at im p) few even in
      let q = plain_places p (byte_at im p) end (is_first im p) (is_last im p) (is_dynamic im p) (has_submenu im p) few t.first t.last t.dynamic t.submenu e in
      let v : before + word_at im (end - 2) ≡ p = omega arith in
      record {
        inside = rw q.1 i;
        password = Password.none t.password (sym q.1);
        tag = omega arith;
        protects = rw (t.password, t.submenu) (omega arith);
        first = λ f. absurd (omega arith);
        later = λ _. t.first;
        previous = λ _. rw q.0 v;
      }

  -- where a submenu's table is: its pointer is the last of the options
  pub submenu_is : (p : ℕ) → has_submenu im p ≡ 1 → prolog_bytes + word_at im (password_at im p - 2) ≡ submenu_table im p
  submenu_is p e = let z : password_at im p - 2 ≡ submenu_at im p = omega arith in rw z refl

  -- ---- a head by its tag

  -- the first mark and the pointer back, told by the tag
  pub linked_first : (before p : ℕ) → byte_at im p % 2 ≡ 1 → Linked im 0 before p
  linked_first before p e = record { first = λ _. omega arith; later = λ l. absurd (omega arith); previous = λ l. absurd (omega arith) }

  pub linked_later :
      (n before p : ℕ) → (n ≡ 0 → ⊥) → (byte_at im p % 2 ≡ 1 → ⊥) → before ≤ p → word_at im (previous_at im p) ≡ p - before → Linked im n before p
  linked_later n before p z e b w = record { first = λ f. absurd (z f); later = λ _. omega arith; previous = λ _. omega arith }

  -- a head without a password, and one with it
  low_tag : (t : ℕ) → t < 16 → bit 4 t ≡ 0
  low_tag t h = omega arith

  high_tag : (t : ℕ) → 16 ≤ t → t < 32 → bit 4 t ≡ 1
  high_tag t a b = omega arith

  pub open_head : (n before p : ℕ) → password_at im p ≤ length im → byte_at im p < 16 → Linked im n before p → Head im n before p (password_at im p)
  open_head n before p i t k =
      let z = low_tag (byte_at im p) t in
      record {
        inside = i;
        password = Password.none z refl;
        tag = omega arith;
        protects = rw z (omega arith);
        first = k.first;
        later = k.later;
        previous = k.previous;
      }

  pub locked_head :
      (n before p end : ℕ) → password_at im p ≤ length im → 16 ≤ byte_at im p → byte_at im p < 32 → has_submenu im p ≡ 1 → Linked im n before p →
      Text im (password_at im p) end → Digits im (password_at im p) → Head im n before p end
  locked_head n before p end i a b s k t d =
      let z = high_tag (byte_at im p) a b in
      record {
        inside = i;
        password = Password.some z t d;
        tag = b;
        protects = rw (z, s) (omega arith);
        first = k.first;
        later = k.later;
        previous = k.previous;
      }
