-- A component reads with 6 exactly where it needs a byte beyond the image, else with 7 exactly where it is wrong. Each row of the forms has its
-- code's bytes and texts, and each code has its row.
use Prim.Native.Nat.{ℕ, ◌+◌, ◌≤◌, ◌<◌}
use mathlib.Core.Path.{◌≡◌, refl, sym, ap, ◌∙◌}
use mathlib.Core.Bool.{true, false, true≢false}
use mathlib.Core.List.{List, [], ◌∷◌}
use lib.ListN.{length}
use lib.Dec.{lit≤}
use native.Mathlib.Omega.{arith}
use borrow.Author.Tests.{ltb-true, ltb-false, leb-true, leb-false, eqb-true, eqb-false, eq-eqb}
use Rattle.laws.specs.Choice.{when◌then◌else◌, ◌and◌, ◌=?◌, ◌<?◌, ◌≤?◌}
use Rattle.laws.specs.Bytes.{byte_at, room}
use Rattle.laws.proofs.Cases.{if_ind, if_true, if_false, if_lt, if_le, if_gt, if_ne, by_test, and_i, and_l, and_r}
use Rattle.laws.proofs.Rooms.{room_le}
use Rattle.field.specs.Profiles.{profile_of, cell_of}
use Rattle.field.specs.Cells.{in_range, in_span, all_within, cells_of, within}
use Rattle.field.specs.Settings.{settings_fit, kind_fits}
use Rattle.field.specs.declared.record.Field.{Field}
use Rattle.std.specs.Prelude.{Option, Some, None}
use Rattle.cmf.specs.Refusals.{refusal_number}
use Rattle.cmf.specs.declared.refusal.Refusal.{Refusal}
use Rattle.cmf.specs.declared.refusal.Refusal.TheVariants as fault
use Rattle.cmf.specs.Layouts.{code, edit_bit, GoodSettings}
use Rattle.cmf.specs.Forms.{Form, NotCovered, Beyond, ComponentCut, ComponentWrong}
use Rattle.cmf.specs.Readers.{texts_from, fixed_bytes, text_count, given, kind_at, default_place, sheet_place_at, field_by, component_read, laid_out, component_by, component_at}
use Rattle.cmf.specs.declared.text.Run.{Run}
use Rattle.cmf.specs.declared.component.Component as read
use Rattle.cmf.proofs.Runs.{texts_run, texts_reads}
use Rattle.cmf.proofs.Parts.{some_byte}
use Rattle.cmf.proofs.Codes.{integer_bytes, fields_by, integer_field}
use Rattle.cmf.proofs.Forming.{clash, room_gt, cut_run, run_cut, no_cut}

-- good settings read with 0, bad ones with 9
pub data Settings (f : Field) : Option Refusal → Type 0 where
  good : GoodSettings f → Settings f None
  bad : (GoodSettings f → ⊥) → Settings f (Some fault.Setting)

settings : (f : Field) → Settings f (when settings_fit f.kind f.default then None else Some fault.Setting)
settings f =
    if_ind (Settings f) (settings_fit f.kind f.default) (λ y. Settings.good (record { good = y })) (λ y. Settings.bad (λ g. clash g.good y))

module _ (im : List ℕ) (at : ℕ) where
  abbrev c : ℕ
  c = code im at

  abbrev e : ℕ
  e = edit_bit im at

  -- ---- the rows by their codes

  -- bytes, texts and field of a row that 01 covers are those of its code
  pub record FormIs (k d b t : ℕ) (gs : List Field) : Type 0 where
    pub known : k < 0x18
    pub fixed : fixed_bytes k d ≡ b
    pub texts : text_count im at k ≡ t
    pub fields : fields_by im at k ≡ gs

  pub form_is : {b t : ℕ} {gs : List Field} → Form im at b t gs → FormIs c e b t gs
  unfolding fixed_bytes text_count kind_at default_place sheet_place_at profile_of when◌then◌else◌
  form_is (Form.integer k) = record {
    known = omega arith;
    fixed = integer_bytes c e k;
    texts = if_lt c 0x13 _ _ (omega arith);
    fields = if_true _ _ (if_ne c 0x15 _ _ (λ q. omega arith)) ∙ ap (λ (f : Field). f ∷ []) (integer_field im at c k);
  }
  form_is (Form.counter k) = rw k (record { known = lit≤ tt; fixed = refl; texts = refl; fields = refl })
  form_is (Form.time_long k) = rw k (record { known = lit≤ tt; fixed = refl; texts = refl; fields = refl })
  form_is (Form.time_short k) = rw k (record { known = lit≤ tt; fixed = refl; texts = refl; fields = refl })
  form_is (Form.date_long k) = rw k (record { known = lit≤ tt; fixed = refl; texts = refl; fields = refl })
  form_is (Form.date_short k) = rw k (record { known = lit≤ tt; fixed = refl; texts = refl; fields = refl })
  form_is (Form.switch k) = rw k (record { known = lit≤ tt; fixed = refl; texts = refl; fields = refl })
  form_is (Form.option k) = rw k (record { known = lit≤ tt; fixed = refl; texts = refl; fields = refl })
  form_is (Form.constant k b) = rw (k, b) (record { known = lit≤ tt; fixed = refl; texts = refl; fields = refl })
  form_is (Form.trigger k) = rw k (record { known = lit≤ tt; fixed = refl; texts = refl; fields = refl })

  -- a form left for later has its code's bytes and texts too, and is not given; a code without meaning has its tag
  data LaterIs (b t : ℕ) : Type 0 where
    known : c < 0x18 → fixed_bytes c e ≡ b → text_count im at c ≡ t → ((r : Run) → given im at c e r ≡ false) → LaterIs b t
    unknown : 0x18 ≤ c → b ≡ 1 → t ≡ 0 → LaterIs b t

  later_is : {b t : ℕ} → NotCovered im at b t → LaterIs b t
  unfolding fixed_bytes text_count given when◌then◌else◌
  later_is (NotCovered.float l u) =
      LaterIs.known (omega arith)
      (if_gt c 0x04 _ _ (omega arith) ∙ if_gt c 0x0a _ _ (omega arith) ∙ if_le c 0x0c _ _ u)
      (if_lt c 0x13 _ _ (omega arith))
      (λ r. if_gt c 0x0a _ _ (omega arith) ∙ if_ne c 0x0d _ _ (λ q. omega arith) ∙ if_lt c 0x0f _ _ (omega arith))
  later_is (NotCovered.fcounter k) = LaterIs.known (omega arith) (rw k) (rw k) (λ r. rw k)
  later_is (NotCovered.variable k b) = LaterIs.known (omega arith) (rw (k, b)) (rw k) (λ r. rw (k, b))
  later_is (NotCovered.password k) = LaterIs.known (omega arith) (rw k) (rw k) (λ r. rw k)
  later_is (NotCovered.no_code k) = LaterIs.unknown k refl refl

  -- each code has a row
  data Row : Type 0 where
    form : {b t : ℕ} {gs : List Field} → Form im at b t gs → Row
    later : {b t : ℕ} → NotCovered im at b t → Row

  -- a code is a number or above it
  next : (n : ℕ) → n ≤ c → (c ≡ n → Row) → (n + 1 ≤ c → Row) → Row
  next n l is on = by_test (c =? n) (λ q. is (eqb-true c n q)) (λ q. on (omega (arith, eqb-false c n q)))

  string : c ≡ 0x15 → Row
  string k =
      by_test (e =? 0) (λ z. Row.form (Form.constant k (eqb-true e 0 z))) (λ z. Row.later (NotCovered.variable k (omega (arith, eqb-false e 0 z))))

  row : Row
  row =
      by_test (c ≤? 0x0a) (λ q. Row.form (Form.integer (leb-true c 0x0a q)))
      (λ a. by_test (c ≤? 0x0c) (λ q. Row.later (NotCovered.float (leb-false c 0x0a a) (leb-true c 0x0c q)))
      (λ b. next 0x0d (leb-false c 0x0c b) (λ k. Row.form (Form.counter k))
      (λ l. next 0x0e l (λ k. Row.later (NotCovered.fcounter k))
      (λ l. next 0x0f l (λ k. Row.form (Form.time_long k))
      (λ l. next 0x10 l (λ k. Row.form (Form.time_short k))
      (λ l. next 0x11 l (λ k. Row.form (Form.date_long k))
      (λ l. next 0x12 l (λ k. Row.form (Form.date_short k))
      (λ l. next 0x13 l (λ k. Row.form (Form.switch k))
      (λ l. next 0x14 l (λ k. Row.form (Form.option k))
      (λ l. next 0x15 l string
      (λ l. next 0x16 l (λ k. Row.later (NotCovered.password k))
      (λ l. next 0x17 l (λ k. Row.form (Form.trigger k)) (λ l. Row.later (NotCovered.no_code l))))))))))))))

  -- ---- the texts after the fixed bytes

  abbrev T : Run
  T = texts_from im (text_count im at c) (at + fixed_bytes c e) 0

  -- a component that is out of the image, or one of a known code that is not all in it, is cut
  out_cut : length im ≤ at → ComponentCut im at
  out_cut o = go row
    where
      some : 0 < fixed_bytes c e
      some = some_byte im c e

      go : Row → ComponentCut im at
      go (Row.form x) = ComponentCut.form x (Beyond.fixed (omega (arith, (form_is x).fixed, some)))
      go (Row.later x) = ComponentCut.not_covered x (Beyond.fixed (last (later_is x)))
        where
          last : {b t : ℕ} → LaterIs b t → length im < at + b
          last (LaterIs.known k f t g) = omega (arith, some)
          last (LaterIs.unknown k b t) = omega arith

  known_cut : c < 0x18 → Beyond im at (fixed_bytes c e) (text_count im at c) → ComponentCut im at
  known_cut l b = go row
    where
      go : Row → ComponentCut im at
      go (Row.form x) = let i = form_is x in ComponentCut.form x (rw (i.fixed, i.texts) at b)
      go (Row.later x) = ComponentCut.not_covered x (last (later_is x))
        where
          last : {n t : ℕ} → LaterIs n t → Beyond im at n t
          last (LaterIs.known k f t g) = rw (f, t) at b
          last (LaterIs.unknown k f t) = absurd (omega arith)

  -- one that is all in the image is not
  all_in : at + fixed_bytes c e ≤ length im → T.fits ≡ true → Beyond im at (fixed_bytes c e) (text_count im at c) → ⊥
  all_in i f (Beyond.fixed h) = omega arith
  all_in i f (Beyond.text x) = clash f (cut_run im x 0)

  uncut : c < 0x18 → at + fixed_bytes c e ≤ length im → T.fits ≡ true → ComponentCut im at → ⊥
  uncut k i f (ComponentCut.form x b) = let s = form_is x in all_in i f (rw (s.fixed, s.texts) b)
  uncut k i f (ComponentCut.not_covered x b) = go (later_is x) b
    where
      go : {n t : ℕ} → LaterIs n t → Beyond im at n t → ⊥
      go (LaterIs.known _ u v g) y = all_in i f (rw (u, v) y)
      go (LaterIs.unknown l u v) y = omega arith

  -- nor is a tag in the image that has no meaning
  tagged : at < length im → 0x18 ≤ c → ComponentCut im at → ⊥
  tagged i l (ComponentCut.form x b) = omega (arith, (form_is x).known)
  tagged i l (ComponentCut.not_covered x b) = go (later_is x) b
    where
      go : {n t : ℕ} → LaterIs n t → Beyond im at n t → ⊥
      go (LaterIs.known k u v g) y = omega arith
      go (LaterIs.unknown k u v) (Beyond.fixed h) = omega arith
      go (LaterIs.unknown k u v) (Beyond.text h) = no_cut im h v

  -- ---- what is given is not wrong, and what is not given is

  right : c < 0x18 → given im at c e T ≡ true → ComponentWrong im at → ⊥
  unfolding fixed_bytes text_count given ◌and◌ when◌then◌else◌
  right l g (ComponentWrong.not_covered x) = go (later_is x)
    where
      go : {n t : ℕ} → LaterIs n t → ⊥
      go (LaterIs.known k u v n) = clash g (n T)
      go (LaterIs.unknown k u v) = omega arith
  right l g (ComponentWrong.switch_length {end} {longest} k t n) = n (sym (eqb-true (at + byte_at im (at + 6)) end (rw (k, texts_run im t) at g)))
  right l g (ComponentWrong.option_length {end} {longest} k t n) =
      n (sym (eqb-true (at + byte_at im (at + 6)) end (and_l _ _ (rw (k, texts_run im t) at g))))
  right l g (ComponentWrong.option_width {end} {longest} k t n) =
      n (sym (eqb-true (byte_at im (at + 8)) longest (and_r (at + byte_at im (at + 6) =? end) _ (rw (k, texts_run im t) at g))))

  miss : {b t : ℕ} {gs : List Field} → Form im at b t gs → T.fits ≡ true → given im at c e T ≡ false → ComponentWrong im at
  unfolding fixed_bytes text_count given ◌and◌ when◌then◌else◌
  miss (Form.integer k) f g = clash (if_le c 0x0a _ _ k) g
  miss (Form.counter k) f g = absurd (true≢false (rw k at g))
  miss (Form.time_long k) f g = absurd (true≢false (rw k at g))
  miss (Form.time_short k) f g = absurd (true≢false (rw k at g))
  miss (Form.date_long k) f g = absurd (true≢false (rw k at g))
  miss (Form.date_short k) f g = absurd (true≢false (rw k at g))
  miss (Form.switch k) f g =
      let t = texts_reads im (byte_at im (at + 7)) (at + 14) 0 (rw k at f) in
      ComponentWrong.switch_length k t.texts (λ q. clash (eq-eqb (at + byte_at im (at + 6)) t.end (sym q)) (rw (k, texts_run im t.texts) at g))
  miss (Form.option k) f g =
      let t = texts_reads im (byte_at im (at + 7)) (at + 10) 0 (rw k at f) in
      by_test (at + byte_at im (at + 6) =? t.end)
      (λ y. ComponentWrong.option_width k t.texts
      (λ q. clash (and_i y (eq-eqb (byte_at im (at + 8)) t.longest (sym q))) (rw (k, texts_run im t.texts) at g)))
      (λ y. ComponentWrong.option_length k t.texts (λ q. clash (eq-eqb (at + byte_at im (at + 6)) t.end (sym q)) y))
  miss (Form.constant k b) f g = clash (eq-eqb e 0 b) (rw k at g)
  miss (Form.trigger k) f g = absurd (true≢false (rw k at g))

  amiss : T.fits ≡ true → given im at c e T ≡ false → ComponentWrong im at
  amiss f g = go row
    where
      go : Row → ComponentWrong im at
      go (Row.later x) = ComponentWrong.not_covered x
      go (Row.form x) = miss x f g

  -- ---- the reader

  -- a place has the field of one form only, or none
  pub same_field : {b t d u : ℕ} {f g : Field} → Form im at b t (f ∷ []) → Form im at d u (g ∷ []) → f ≡ g
  same_field x y = let h = (form_is x).fields in let k = (form_is y).fields in cc

  pub no_field : {b t d u : ℕ} {g : Field} → Form im at b t [] → Form im at d u (g ∷ []) → ⊥
  no_field x y = let h = (form_is x).fields in let k = (form_is y).fields in let z : ◌≡◌ {A = ℕ} 0 1 = cc in omega arith

  -- a component is cut, or wrong, or read
  pub data View : read.Component → Type 0 where
    cut : {x : read.Component} → ComponentCut im at → refusal_number x.refusal ≡ 6 → View x
    wrong : {x : read.Component} → (ComponentCut im at → ⊥) → ComponentWrong im at → refusal_number x.refusal ≡ 7 → x.fielded ≡ false → View x
    plain :
        {x : read.Component} {b t : ℕ} → (ComponentCut im at → ⊥) → (ComponentWrong im at → ⊥) → Form im at b t [] →
        refusal_number x.refusal ≡ 0 → x.fielded ≡ false → View x
    field :
        {x : read.Component} {b t : ℕ} {f : Field} → (ComponentCut im at → ⊥) → (ComponentWrong im at → ⊥) → Form im at b t (f ∷ []) →
        x.field ≡ f → x.fielded ≡ true → Settings f x.refusal → View x

  -- the field of a form is the reader's
  held : (end : ℕ) {b t : ℕ} {f : Field} → (ComponentCut im at → ⊥) → (ComponentWrong im at → ⊥) → Form im at b t (f ∷ []) → View (component_read im at c (byte_at im at) end)
  held end {f = f} u r x =
      by_test (c =? 0x15)
      (λ q. let h : ◌≡◌ {A = List Field} [] (f ∷ []) = sym (if_false _ _ (if_true _ _ q)) ∙ (form_is x).fields in let z : ◌≡◌ {A = ℕ} 0 1 = cc in absurd (omega arith))
      (λ q. let t : (when c =? 0x15 then false else true) ≡ true = if_false _ _ q in
      let h : field_by im at c ∷ [] ≡ f ∷ [] = sym (if_true _ _ t) ∙ (form_is x).fields in
      let k : field_by im at c ≡ f = cc in
      View.field u r x k t (rw k at (settings (field_by im at c))))

  -- one that is not wrong has a form
  formed : (end : ℕ) {b t : ℕ} {gs : List Field} → (ComponentCut im at → ⊥) → (ComponentWrong im at → ⊥) → Form im at b t gs → View (component_read im at c (byte_at im at) end)
  unfolding kind_at default_place profile_of settings_fit kind_fits in_range in_span all_within cells_of within cell_of ◌and◌ when◌then◌else◌
  formed end u r (Form.integer k) = held end u r (Form.integer k)
  formed end u r (Form.counter k) = held end u r (Form.counter k)
  formed end u r (Form.time_long k) = held end u r (Form.time_long k)
  formed end u r (Form.time_short k) = held end u r (Form.time_short k)
  formed end u r (Form.date_long k) = held end u r (Form.date_long k)
  formed end u r (Form.date_short k) = held end u r (Form.date_short k)
  formed end u r (Form.switch k) = held end u r (Form.switch k)
  formed end u r (Form.option k) = held end u r (Form.option k)
  formed end u r (Form.constant k b) = View.plain {x = component_read im at c (byte_at im at) end} u r (Form.constant k b) (rw k) (rw k)
  formed end u r (Form.trigger k) = held end u r (Form.trigger k)

  read_view : (ComponentCut im at → ⊥) → (ComponentWrong im at → ⊥) → (end : ℕ) → View (component_read im at c (byte_at im at) end)
  read_view u r end = go row
    where
      go : Row → View (component_read im at c (byte_at im at) end)
      go (Row.form x) = formed end u r x
      go (Row.later x) = absurd (r (ComponentWrong.not_covered x))

  laid_view : at < length im → c < 0x18 → View (laid_out im at c (byte_at im at) T)
  unfolding laid_out
  laid_view i k =
      if_ind View (room (length im) at (fixed_bytes c e))
      (λ r. if_ind View T.fits
      (λ f. let u = uncut k (room_le (length im) at (fixed_bytes c e) r) f in
      if_ind View (given im at c e T) (λ g. read_view u (right k g) T.end) (λ g. View.wrong u (amiss f g) refl refl))
      (λ f. View.cut (known_cut k (Beyond.text (run_cut im (text_count im at c) (at + fixed_bytes c e) 0 f))) refl))
      (λ r. View.cut (known_cut k (Beyond.fixed (room_gt (length im) at (fixed_bytes c e) r))) refl)

  pub view : View (component_at im at)
  unfolding component_at component_by
  view =
      if_ind View (at <? length im)
      (λ i. let h = ltb-true at (length im) i in
      if_ind View (c <? 0x18) (λ k. laid_view h (ltb-true c 0x18 k))
      (λ k. let l = ltb-false c 0x18 k in View.wrong (tagged h l) (ComponentWrong.not_covered (NotCovered.no_code l)) refl refl))
      (λ i. View.cut (out_cut (ltb-false at (length im) i)) refl)
