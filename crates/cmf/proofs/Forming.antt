-- What a reader answers where something is at fault: it reads 6 exactly where a byte is needed beyond the image, else 7 exactly where section 7
-- does not give what is there. Each reading is told with what holds and what does not, so that both ways follow.
use Prim.Native.Nat.{ℕ, zero, suc, ◌+◌, ◌*◌, ◌≤◌, ◌<◌, max}
use mathlib.Core.Path.{◌≡◌, refl, sym, ap, ◌∙◌}
use mathlib.Core.Bool.{Bool, true, false, true≢false}
use mathlib.Core.List.{List}
use lib.ListN.{length}
use native.Mathlib.Omega.{arith}
use native.Mathlib.Nat.{zero-mul}
use borrow.Author.Tests.{ltb-true, ltb-false, leb-true, leb-false, eqb-true, eqb-false}
use Rattle.laws.specs.Choice.{◌=?◌, ◌<?◌, ◌≤?◌}
use Rattle.laws.specs.Bytes.{byte_at, room}
use Rattle.laws.proofs.Cases.{if_ind, if_true, if_eq, if_ne, by_test}
use Rattle.laws.proofs.Rooms.{room_le, le_room}
use Rattle.cmf.specs.Refusals.{refusal_number}
use Rattle.cmf.specs.declared.refusal.Refusal.TheVariants as fault
use Rattle.cmf.specs.Grammar.{has_submenu, has_password, password_at, Digits}
use Rattle.cmf.specs.Forms.{Cut, HeadCut, HeadWrong}
use Rattle.cmf.specs.Readers.{texts_from, title_by, title_at, tag_bit, options_end, passwords, head_refused, head_read, head_by, head_at}
use Rattle.cmf.specs.declared.text.Run.{Run}
use Rattle.cmf.specs.declared.title.Title.{Title}
use Rattle.cmf.specs.declared.head.Head as head
use Rattle.cmf.proofs.Heads.{digits_fit, fit_digits, one_password}

-- what cannot be
pub clash : {A : Type 0} {b : Bool} → b ≡ true → b ≡ false → A
clash p q = absurd (true≢false (sym p ∙ q))

pub room_gt : (len at n : ℕ) → room len at n ≡ false → len < at + n
room_gt len at n e = by_test (len <? (at + n)) (λ h. ltb-true len (at + n) h) (λ h. clash (le_room len at n (ltb-false len (at + n) h)) e)

-- ---- texts

module _ (im : List ℕ) where
  -- texts one of which is cut do not fit
  pub cut_run : {n at : ℕ} → Cut im n at → (m : ℕ) → (texts_from im n at m).fits ≡ false
  unfolding texts_from
  cut_run {at = at} (Cut.here h) m =
      if_ind (λ (r : Run). r.fits ≡ false) (room (length im) at 1)
      (λ _. if_ind (λ (r : Run). r.fits ≡ false) (room (length im) (at + 1) (byte_at im at))
      (λ e. absurd (omega (arith, room_le (length im) (at + 1) (byte_at im at) e))) (λ _. refl)) (λ _. refl)
  cut_run {at = at} (Cut.later mid t c) m =
      let h : at + 1 + byte_at im at ≤ length im = omega (arith, t.ends, t.inside) in
      ap (λ (r : Run). r.fits)
      (if_true _ _ (le_room (length im) at 1 (omega arith)) ∙ if_true _ _ (le_room (length im) (at + 1) (byte_at im at) h))
      ∙ rw (← t.ends) (cut_run c (max m (byte_at im at)))

  -- and texts that do not fit are cut
  pub run_cut : (n at m : ℕ) → (texts_from im n at m).fits ≡ false → Cut im n at
  unfolding texts_from
  run_cut zero at m = λ e. absurd (true≢false e)
  run_cut (suc n) at m =
      if_ind P (room (length im) at 1)
      (λ a. if_ind P (room (length im) (at + 1) (byte_at im at))
      (λ b e. Cut.later (at + 1 + byte_at im at) (record { ends = refl; inside = room_le (length im) (at + 1) (byte_at im at) b })
      (run_cut n (at + 1 + byte_at im at) (max m (byte_at im at)) e))
      (λ b _. Cut.here (room_gt (length im) (at + 1) (byte_at im at) b)))
      (λ a _. let g = room_gt (length im) at 1 a in Cut.here (omega arith))
    where
      P : Run → Type 0
      P r = r.fits ≡ false → Cut im (suc n) at

  -- none of no texts is
  pub no_cut : {n at : ℕ} → Cut im n at → n ≡ 0 → ⊥
  no_cut (Cut.here h) e = omega arith
  no_cut (Cut.later mid t c) e = omega arith

  -- ---- a title

  -- a title reads with 6 exactly where its text is cut, else with 0
  pub data TitleView (t : ℕ) : Title → Type 0 where
    cut : {x : Title} → Cut im 1 t → refusal_number x.refusal ≡ 6 → TitleView t x
    whole : {x : Title} → (Cut im 1 t → ⊥) → refusal_number x.refusal ≡ 0 → TitleView t x

  pub title_view : (t : ℕ) → TitleView t (title_at im t)
  unfolding title_at title_by
  title_view t =
      if_ind (TitleView t) (texts_from im 1 t 0).fits (λ f. TitleView.whole (λ c. clash f (cut_run c 0)) refl) (λ f. TitleView.cut (run_cut 1 t 0 f) refl)

-- ---- a line's head

module _ (im : List ℕ) where
  -- two bits, both of which are set where a text is cut that there is only then
  both : (a b at : ℕ) → a ≤ 1 → b ≤ 1 → Cut im (a * b) at → (a ≡ 1) × ((b ≡ 1) × Cut im 1 at)
  both zero b at h k c = absurd (no_cut im c (zero-mul b))
  both (suc zero) zero at h k c = absurd (no_cut im c refl)
  both (suc zero) (suc zero) at h k c = (refl, (refl, c))
  both (suc zero) (suc (suc b)) at h k c = absurd (omega arith)
  both (suc (suc a)) b at h k c = absurd (omega arith)

  -- a head is cut, or wrong, or read
  pub data HeadView (p : ℕ) : head.Head → Type 0 where
    cut : HeadCut im p → HeadView p (head_refused p fault.Cut)
    wrong : (HeadCut im p → ⊥) → HeadWrong im p → HeadView p (head_refused p fault.Form)
    whole : (HeadCut im p → ⊥) → (HeadWrong im p → ⊥) → (end : ℕ) → HeadView p (head_read im p (byte_at im p) end)

  module _ (p : ℕ) where
    abbrev T : Run
    T = texts_from im (passwords (byte_at im p)) (options_end p (byte_at im p)) 0

    uncut : p < length im → password_at im p ≤ length im → T.fits ≡ true → HeadCut im p → ⊥
    uncut i o f (HeadCut.tag h) = omega arith
    uncut i o f (HeadCut.options b h) = omega arith
    uncut i o f (HeadCut.password b s w c) =
        let e : passwords (byte_at im p) ≡ 1 = rw (s, w) in
        clash f (rw e (cut_run im c 0))

    tagged : p < length im → 32 ≤ byte_at im p → HeadCut im p → ⊥
    tagged i b (HeadCut.tag h) = omega arith
    tagged i b (HeadCut.options l h) = omega arith
    tagged i b (HeadCut.password l s w c) = omega arith

    right : byte_at im p < 32 → has_password im p ≤ has_submenu im p → HeadWrong im p → ⊥
    right b l (HeadWrong.tag h) = omega arith
    right b l (HeadWrong.protects h) = omega arith

    by_view : p < length im → byte_at im p < 32 → HeadView p (head_by im p (byte_at im p) T)
    unfolding head_by
    by_view i b =
        if_ind (HeadView p) (options_end p (byte_at im p) ≤? length im)
        (λ o. if_ind (HeadView p) T.fits
        (λ f. let u = uncut i (leb-true _ _ o) f in
        if_ind (HeadView p) (tag_bit 16 (byte_at im p) ≤? tag_bit 8 (byte_at im p))
        (λ l. HeadView.whole u (right b (leb-true _ _ l)) T.end)
        (λ l. HeadView.wrong u (HeadWrong.protects (leb-false (tag_bit 16 (byte_at im p)) (tag_bit 8 (byte_at im p)) l))))
        (λ f. let c = both (has_submenu im p) (has_password im p) (password_at im p) (omega arith) (omega arith)
        (run_cut im (passwords (byte_at im p)) (options_end p (byte_at im p)) 0 f) in
        HeadView.cut (HeadCut.password b c.0 c.1.0 c.1.1)))
        (λ o. HeadView.cut (HeadCut.options b (leb-false (options_end p (byte_at im p)) (length im) o)))

    pub head_view : HeadView p (head_at im p)
    unfolding head_at
    head_view =
        if_ind (HeadView p) (p <? length im)
        (λ i. if_ind (HeadView p) (byte_at im p <? 32) (λ b. by_view (ltb-true _ _ i) (ltb-true _ _ b))
        (λ b. let h = ltb-false (byte_at im p) 32 b in HeadView.wrong (tagged (ltb-true _ _ i) h) (HeadWrong.tag h)))
        (λ i. HeadView.cut (HeadCut.tag (ltb-false p (length im) i)))

    -- a password that is no good
    pub bad_password : (end : ℕ) → (HeadWrong im p → ⊥) → (head_read im p (byte_at im p) end).typeable ≡ false → (has_password im p ≡ 1) × (Digits im (password_at im p) → ⊥)
    bad_password end r g =
        let l : has_password im p ≤ has_submenu im p =
        by_test (has_password im p ≤? has_submenu im p) (λ e. leb-true _ _ e) (λ e. absurd (r (HeadWrong.protects (leb-false (has_password im p) (has_submenu im p) e)))) in
        by_test (passwords (byte_at im p) =? 1)
        (λ e. (sym (one_password im p l) ∙ eqb-true _ 1 e, λ d. clash (if_true _ _ e ∙ digits_fit im (password_at im p) d) g))
        (λ e. clash (if_ne (passwords (byte_at im p)) 1 _ _ (eqb-false _ 1 e)) g)

    -- and one that is good
    pub good_password : (end : ℕ) → (HeadWrong im p → ⊥) → (head_read im p (byte_at im p) end).typeable ≡ true → has_password im p ≡ 1 → Digits im (password_at im p)
    good_password end r g w =
        let l : has_password im p ≤ has_submenu im p =
        by_test (has_password im p ≤? has_submenu im p) (λ e. leb-true _ _ e) (λ e. absurd (r (HeadWrong.protects (leb-false (has_password im p) (has_submenu im p) e)))) in
        fit_digits im (password_at im p) (rw (if_eq (passwords (byte_at im p)) 1 _ _ (one_password im p l ∙ w)) at g)
