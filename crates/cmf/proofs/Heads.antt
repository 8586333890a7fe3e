-- A line's head: tag, options and password are read exactly where the grammar has a head, but for the password's digits and the line's place in
-- its table, which the reader tells and does not refuse.
use Prim.Native.Nat.{ℕ, zero, suc, ◌+◌, ◌*◌, ◌≤◌, ◌<◌}
use mathlib.Core.Path.{◌≡◌, refl, ◌∙◌}
use mathlib.Core.Bool.{true}
use mathlib.Core.List.{List}
use lib.ListN.{length}
use native.Mathlib.Omega.{arith}
use borrow.Author.Tests.{ltb-true, leb-true, le-leb, eqb-true, eqb-false, eq-eqb}
use Rattle.laws.specs.Choice.{◌=?◌, ◌<?◌, ◌≤?◌}
use Rattle.laws.specs.Bytes.{byte_at}
use Rattle.laws.proofs.Cases.{if_ind, if_true, if_lt, if_le, if_eq, if_ne, by_test, and_i, and_l, and_r}
use Rattle.cmf.specs.Refusals.{refusal_number}
use Rattle.cmf.specs.Limits.{longest_password}
use Rattle.cmf.specs.Layouts.{Texts}
use Rattle.cmf.specs.Grammar.{is_first, is_last, has_submenu, has_password, password_at, Digits, Password, Head}
use Rattle.cmf.specs.Readers.{texts_from, tag_bit, all_digits, password_fits, options_end, passwords, head_read, head_by, head_at}
use Rattle.cmf.specs.declared.head.Head as read
use Rattle.cmf.proofs.Agreement.{HeadIs, HeadReads}
use Rattle.cmf.proofs.Runs.{none_ends, text_texts, texts_text, texts_after, texts_inside, texts_run, texts_reads}

-- ---- digits

module _ (im : List ℕ) where
  -- an ASCII digit
  record Digit (x : ℕ) : Type 0 where
    least : 0x30 ≤ byte_at im x
    most : byte_at im x ≤ 0x39

  -- bytes that are digits pass the test
  digits_pass : (n at : ℕ) → ((x : ℕ) → at ≤ x → x < at + n → Digit x) → all_digits im n at ≡ true
  unfolding all_digits
  digits_pass zero at d = refl
  digits_pass (suc n) at d =
      let h : Digit at = d at (omega arith) (omega arith) in
      and_i (and_i (le-leb 0x30 _ h.least) (le-leb _ 0x39 h.most)) (digits_pass n (at + 1) (λ x l u. d x (omega arith) (omega arith)))

  -- and bytes that pass are digits
  pass_digits : (n at : ℕ) → all_digits im n at ≡ true → (x : ℕ) → at ≤ x → x < at + n → Digit x
  unfolding all_digits
  pass_digits zero at e x l u = absurd (omega arith)
  pass_digits (suc n) at e x l u =
      let h = and_l _ _ e in
      let here : Digit at = record { least = leb-true 0x30 (byte_at im at) (and_l _ _ h); most = leb-true (byte_at im at) 0x39 (and_r _ _ h) } in
      by_test (at =? x) (λ s. rw (eqb-true at x s) at here)
      (λ s. pass_digits n (at + 1) (and_r _ _ e) x (omega (arith, eqb-false at x s)) (omega arith))

  -- a password of the grammar passes the test, and one that passes is of the grammar
  pub digits_fit : (at : ℕ) → Digits im at → password_fits im at ≡ true
  unfolding password_fits
  digits_fit at d =
      and_i (le-leb 1 _ d.some)
      (and_i (le-leb _ longest_password d.few)
      (digits_pass (byte_at im at) (at + 1) (λ x l u. record { least = d.least x (omega arith) (omega arith); most = d.most x (omega arith) (omega arith) })))

  pub fit_digits : (at : ℕ) → password_fits im at ≡ true → Digits im at
  unfolding password_fits
  fit_digits at e =
      let f = and_r _ _ e in
      let digit : (x : ℕ) → at < x → x ≤ at + byte_at im at → Digit x =
      λ x l u. pass_digits (byte_at im at) (at + 1) (and_r _ _ f) x (omega arith) (omega arith) in
      record {
        some = leb-true 1 (byte_at im at) (and_l _ _ e);
        few = leb-true (byte_at im at) longest_password (and_l _ _ f);
        least = λ x l u. (digit x l u).least;
        most = λ x l u. (digit x l u).most;
      }

-- ---- the head as it is laid out

-- where a password needs a submenu the two bits are as good as the second
both_bits : (a b : ℕ) → a ≤ 1 → b ≤ a → a * b ≡ b
both_bits zero b h l = omega arith
both_bits (suc zero) b h l = omega arith
both_bits (suc (suc a)) b h l = absurd (omega arith)

module _ (im : List ℕ) where
  -- a password if there is one, as texts
  record OneText (p end : ℕ) : Type 0 where
    longest : ℕ
    texts : Texts im (has_password im p) (password_at im p) end longest

  -- what the reader asks of a head that ends there
  record Laid (p end : ℕ) : Type 0 where
    inside : p < length im
    tag : byte_at im p < 32
    options : password_at im p ≤ length im
    protects : has_password im p ≤ has_submenu im p
    word : OneText p end

  -- how many passwords a tag has
  pub one_password : (p : ℕ) → has_password im p ≤ has_submenu im p → passwords (byte_at im p) ≡ has_password im p
  one_password p l = both_bits (has_submenu im p) (has_password im p) (omega arith) l

  -- a head laid out so is read
  laid_read : {p end : ℕ} → Laid p end → head_at im p ≡ head_read im p (byte_at im p) end
  unfolding head_at head_by
  laid_read {p} {end} h =
      let t = rw (← one_password p h.protects) at (texts_run im h.word.texts) in
      if_lt p (length im) _ _ h.inside ∙ if_lt (byte_at im p) 32 _ _ h.tag
      ∙ rw t (if_le (password_at im p) (length im) _ _ h.options ∙ if_true _ _ refl ∙ if_le (has_password im p) (has_submenu im p) _ _ h.protects)

  -- such a head, with its end
  record Found (p : ℕ) : Type 0 where
    end : ℕ
    laid : Laid p end

  -- a head that is read is laid out so: its options, and then the whole
  options_laid :
      (p : ℕ) → p < length im → byte_at im p < 32 →
      refusal_number (head_by im p (byte_at im p) (texts_from im (passwords (byte_at im p)) (options_end p (byte_at im p)) 0)).refusal ≡ 0 → Found p
  unfolding head_by
  options_laid p i b =
      if_ind Sound (options_end p (byte_at im p) ≤? length im)
      (λ o. if_ind Sound (texts_from im (passwords (byte_at im p)) (options_end p (byte_at im p)) 0).fits
      (λ f. if_ind Sound (tag_bit 16 (byte_at im p) ≤? tag_bit 8 (byte_at im p))
      (λ l c. let protects : has_password im p ≤ has_submenu im p = leb-true _ _ l in
      let t = texts_reads im (has_password im p) (password_at im p) 0 (rw (one_password p protects) at f) in
      record {
        end = t.end;
        laid = record {
          inside = i;
          tag = b;
          options = leb-true _ _ o;
          protects = protects;
          word = record { longest = t.longest; texts = t.texts };
        };
      })
      (λ l c. absurd (omega arith)))
      (λ f c. absurd (omega arith)))
      (λ o c. absurd (omega arith))
    where
      Sound : read.Head → Type 0
      Sound h = refusal_number h.refusal ≡ 0 → Found p

  read_laid : (p : ℕ) → refusal_number (head_at im p).refusal ≡ 0 → Found p
  unfolding head_at
  read_laid p =
      if_ind Sound (p <? length im)
      (λ i. if_ind Sound (byte_at im p <? 32) (λ b. options_laid p (ltb-true _ _ i) (ltb-true _ _ b)) (λ b c. absurd (omega arith)))
      (λ i c. absurd (omega arith))
    where
      Sound : read.Head → Type 0
      Sound h = refusal_number h.refusal ≡ 0 → Found p

  -- the password of a head laid out so, if it is a good one
  laid_password : {p end : ℕ} → Laid p end → (head_read im p (byte_at im p) end).typeable ≡ true → Password im p end
  laid_password {p} {end} h good =
      by_test (has_password im p =? 1)
      (λ b. let one : has_password im p ≡ 1 = eqb-true _ 1 b in
      Password.some one (texts_text (rw one at h.word.texts))
      (fit_digits im (password_at im p) (rw (if_eq (passwords (byte_at im p)) 1 _ _ (one_password p h.protects ∙ one)) at good)))
      (λ b. let no : has_password im p ≡ 0 = omega (arith, eqb-false (has_password im p) 1 b) in
      Password.none no (none_ends (rw no at h.word.texts)))

  -- what is known of a head that reads with code 0
  pub head_reads : (p : ℕ) → refusal_number (head_at im p).refusal ≡ 0 → HeadReads im p
  head_reads p c =
      let f = read_laid p c in
      let h = f.laid in
      let e = laid_read h in
      record {
        head = rw e (λ g n before a l d. record {
          inside = h.options;
          password = laid_password h g;
          tag = h.tag;
          protects = h.protects;
          first = λ z. eqb-true _ 1 (a z);
          later = λ z. omega (arith, eqb-false (is_first im p) 1 (l z));
          previous = d;
        });
        last = rw e (λ t. eqb-true _ 1 t);
        more = rw e (λ t. omega (arith, eqb-false (is_last im p) 1 t));
        submenu = rw e (λ t. eqb-true _ 1 t);
        plain = rw e (λ t. omega (arith, eqb-false (has_submenu im p) 1 t));
        next = rw e;
        table = rw e;
        protected = rw (e, one_password p h.protects);
        place = rw e;
        password = rw e (λ g. laid_password h g);
        component = rw e;
        after = rw e (omega (arith, texts_after h.word.texts));
        inside = rw e (texts_inside h.word.texts h.options);
      }

  -- a password of the grammar is laid out as the reader asks, and so is the head
  one_text : {p end : ℕ} → Password im p end → OneText p end
  one_text (Password.none b e) = record { longest = 0; texts = rw (b, e) Texts.none }
  one_text {p} (Password.some b t d) = record { longest = byte_at im (password_at im p); texts = rw b (text_texts t) }

  head_laid : {n before p end : ℕ} → Head im n before p end → Laid p end
  head_laid h = record {
    inside = omega (arith, h.inside);
    tag = h.tag;
    options = h.inside;
    protects = h.protects;
    word = one_text h.password;
  }

  -- a password of the grammar is a good one
  good : {p end : ℕ} → has_password im p ≤ has_submenu im p → Password im p end → (head_read im p (byte_at im p) end).typeable ≡ true
  good {p} l (Password.none b e) = if_ne (passwords (byte_at im p)) 1 _ _ (λ q. omega (arith, one_password p l))
  good {p} l (Password.some b t d) = if_eq (passwords (byte_at im p)) 1 _ _ (one_password p l ∙ b) ∙ digits_fit im (password_at im p) d

  -- what a head of the grammar reads as
  pub head_is : {n before p end : ℕ} → Head im n before p end → HeadIs im n before p end
  head_is h =
      let e = laid_read (head_laid h) in
      record {
        refusal = rw e;
        good = rw e (good h.protects h.password);
        ends = rw e;
        first = λ z. eq-eqb _ 1 (h.first z);
        later = λ z. rw (h.later z);
        back = h.previous;
      }
