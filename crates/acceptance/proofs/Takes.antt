-- Fields that the walk takes one after the other with no refusal, and 01's limits on the fields of a whole image: the same.
use Prim.Native.Nat.{ℕ, ◌+◌, ◌-◌, ◌≤◌, ◌<◌}
use mathlib.Core.Path.{◌≡◌, refl, ◌∙◌}
use mathlib.Core.Bool.{Bool, true}
use mathlib.Core.List.{List, [], ◌∷◌, ◌++◌, append-nil}
use native.Mathlib.Omega.{arith}
use lib.ListN.{length, length-append}
use borrow.Author.Tests.{leb-true, leb-false, le-leb, eqb-true, eqb-false}
use Rattle.laws.specs.Choice.{◌=?◌, ◌≤?◌}
use Rattle.laws.specs.Bytes.{room}
use Rattle.laws.proofs.Cases.{if_ind, by_test, and_i, and_l, and_r, if_le}
use Rattle.field.specs.Sheet.{size_of}
use Rattle.field.specs.declared.record.Field.{Field}
use Rattle.cmf.specs.Limits.{longest_sheet}
use Rattle.cmf.specs.Grammar.{Every, InSheet, Disjoint, Apart}
use Rattle.acceptance.specs.declared.index.Entry.{Entry}
use Rattle.acceptance.specs.Check.{entry_of, in_sheet, apart, apart_from}
use Rattle.acceptance.proofs.CameTo.{clash, put, put_put}

abbrev one : Entry → List Entry
one e = e ∷ []

-- ---- taking

module _ (extent most : ℕ) where
  -- with the entries es before them, fs are taken
  pub data Takes : List Entry → List Field → Type 0 where
    none : {es : List Entry} → Takes es []
    add :
        {es : List Entry} {f : Field} {fs : List Field} →
        length es < most → in_sheet extent (entry_of f) ≡ true → apart_from (entry_of f) es ≡ true → Takes (put es (f ∷ [])) fs →
        Takes es (f ∷ fs)

  -- a list is taken where its two parts are
  pub takes_join : {es : List Entry} {fs gs : List Field} → Takes es fs → Takes (put es fs) gs → Takes es (fs ++ gs)
  takes_join {es} {gs = gs} Takes.none u = rw append-nil at u
  takes_join {es} {gs = gs} (Takes.add {f = f} {fs = fs} a b c t) u = Takes.add a b c (takes_join {gs = gs} t (rw (put_put es (f ∷ []) fs) u))

  pub takes_split : {es : List Entry} (fs : List Field) {gs : List Field} → Takes es (fs ++ gs) → Takes es fs × Takes (put es fs) gs
  takes_split {es} [] t = (Takes.none, rw append-nil t)
  takes_split {es} (f ∷ fs) {gs = gs} (Takes.add a b c t) =
      let r = takes_split {es = put es (f ∷ [])} fs {gs = gs} t in (Takes.add a b c r.0, rw (← put_put es (f ∷ []) fs) r.1)

-- ---- every field of a list

-- what follows of each follows of all
pub every_map : {P Q : Field → Type 0} {fs : List Field} → ((f : Field) → P f → Q f) → Every P fs → Every Q fs
every_map h Every.none = Every.none
every_map h (Every.add {f = f} p e) = Every.add (h f p) (every_map h e)

pub every_zip : {P Q R : Field → Type 0} {fs : List Field} → ((f : Field) → P f → Q f → R f) → Every P fs → Every Q fs → Every R fs
every_zip h Every.none Every.none = Every.none
every_zip h (Every.add {f = f} p e) (Every.add q d) = Every.add (h f p q) (every_zip h e d)

-- ---- one field and another

-- the bytes of a field lie in the sheet
room_le : (len at n : ℕ) → room len at n ≡ true → at + n ≤ len
unfolding room
room_le len at n =
    if_ind (λ (c : Bool). c ≡ true → at + n ≤ len) (at ≤? len)
    (λ e h. let a = leb-true at len e in let d = leb-true n (len - at) h in omega arith)
    (λ e h. clash h refl)

le_room : (len at n : ℕ) → at + n ≤ len → room len at n ≡ true
unfolding room
le_room len at n h = if_le at len _ _ (omega arith) ∙ le-leb n (len - at) (omega arith)

pub sheet_is : (extent : ℕ) (f : Field) → InSheet extent f → in_sheet extent (entry_of f) ≡ true
unfolding in_sheet
sheet_is extent f i = and_i (le-leb extent longest_sheet i.short) (le_room extent f.sheet.0 (size_of f) i.inside)

pub sheet_reads : (extent : ℕ) (f : Field) → in_sheet extent (entry_of f) ≡ true → InSheet extent f
unfolding in_sheet
sheet_reads extent f e = record {
  short = leb-true extent longest_sheet (and_l _ _ e);
  inside = room_le extent f.sheet.0 (size_of f) (and_r _ _ e);
}

-- fields that have bytes and share none: one begins after the other's end
pub no_shared :
    (f g : Field) → Disjoint f g → (size_of f ≡ 0 → ⊥) → (size_of g ≡ 0 → ⊥) → g.sheet.0 < f.sheet.0 + size_of f → f.sheet.0 < g.sheet.0 + size_of g → ⊥
no_shared f g d nf ng a b =
    by_test (f.sheet.0 ≤? g.sheet.0)
    (λ o. let l = leb-true f.sheet.0 g.sheet.0 o in
    d.disjoint g.sheet.0 (record { from = omega arith; to = omega arith }) (record { from = omega arith; to = omega arith }))
    (λ o. let l = leb-false f.sheet.0 g.sheet.0 o in
    d.disjoint f.sheet.0 (record { from = omega arith; to = omega arith }) (record { from = omega arith; to = omega arith }))

-- fields that share no byte
pub apart_is : (f g : Field) → Disjoint f g → apart (entry_of g) (entry_of f) ≡ true
unfolding apart
apart_is f g d =
    if_ind P (size_of g =? 0) (λ _. refl)
    (λ a. if_ind P (size_of f =? 0) (λ _. refl)
    (λ b. if_ind P ((g.sheet.0 + size_of g) ≤? f.sheet.0) (λ _. refl)
    (λ c. by_test ((f.sheet.0 + size_of f) ≤? g.sheet.0) (λ e. e)
    (λ e. absurd (no_shared f g d (eqb-false (size_of f) 0 b) (eqb-false (size_of g) 0 a) (leb-false (f.sheet.0 + size_of f) g.sheet.0 e)
    (leb-false (g.sheet.0 + size_of g) f.sheet.0 c))))))
  where
    P : Bool → Type 0
    P t = t ≡ true

-- and back
pub apart_reads : (f g : Field) → apart (entry_of g) (entry_of f) ≡ true → Disjoint f g
unfolding apart
apart_reads f g =
    if_ind P (size_of g =? 0) (λ a h. let za = eqb-true (size_of g) 0 a in record { disjoint = λ x hf hg. omega arith })
    (λ _. if_ind P (size_of f =? 0) (λ b h. let zb = eqb-true (size_of f) 0 b in record { disjoint = λ x hf hg. omega arith })
    (λ _. if_ind P ((g.sheet.0 + size_of g) ≤? f.sheet.0)
    (λ c h. let lc = leb-true (g.sheet.0 + size_of g) f.sheet.0 c in record { disjoint = λ x hf hg. omega arith })
    (λ _ h. let le = leb-true (f.sheet.0 + size_of f) g.sheet.0 h in record { disjoint = λ x hf hg. omega arith })))
  where
    P : Bool → Type 0
    P t = t ≡ true → Disjoint f g

-- apart from a list and from one more
from_add : (e f : Entry) (es : List Entry) → apart_from e es ≡ true → apart e f ≡ true → apart_from e (es ++ one f) ≡ true
unfolding apart_from
from_add e f [] h a = and_i a refl
from_add e f (g ∷ es) h a = and_i (and_l _ _ h) (from_add e f es (and_r _ _ h) a)

from_front : (e f : Entry) (es : List Entry) → apart_from e (es ++ one f) ≡ true → apart_from e es ≡ true
unfolding apart_from
from_front e f [] h = refl
from_front e f (g ∷ es) h = and_i (and_l _ _ h) (from_front e f es (and_r _ _ h))

from_last : (e f : Entry) (es : List Entry) → apart_from e (es ++ one f) ≡ true → apart e f ≡ true
unfolding apart_from
from_last e f [] h = and_l _ _ h
from_last e f (g ∷ es) h = from_last e f es (and_r _ _ h)

-- with nothing before them, all are
pub beside_none : (fs : List Field) → Every (λ (f : Field). apart_from (entry_of f) [] ≡ true) fs
unfolding apart_from
beside_none [] = Every.none
beside_none (f ∷ fs) = Every.add refl (beside_none fs)

-- ---- the limits

module _ (extent most : ℕ) where
  -- 01's limits on fields that have the entries es before them
  pub record Fits (es : List Entry) (fs : List Field) : Type 0 where
    pub few : length es + length fs ≤ most
    pub inside : Every (InSheet extent) fs
    pub beside : Every (λ (f : Field). apart_from (entry_of f) es ≡ true) fs
    pub apart : Apart fs

  -- what keeps the limits is taken
  pub fits_takes :
      (es : List Entry) {fs : List Field} → length es + length fs ≤ most → Every (InSheet extent) fs → Every (λ (f : Field). apart_from (entry_of f) es ≡ true) fs → Apart fs →
      Takes extent most es fs
  fits_takes es h Every.none Every.none Apart.none = Takes.none
  fits_takes es h (Every.add {f = f} i is) (Every.add b bs) (Apart.add d ds) =
      Takes.add {es = es} (omega arith) (sheet_is extent f i) b
      (fits_takes (put es (f ∷ [])) (omega (arith, length-append es (one (entry_of f)))) is
      (every_zip (λ g k l. from_add (entry_of g) (entry_of f) es k (apart_is f g l)) bs d) ds)

  -- what is taken keeps the limits
  pub takes_fits : {es : List Entry} {fs : List Field} → length es ≤ most → Takes extent most es fs → Fits es fs
  takes_fits h Takes.none = record { few = omega arith; inside = Every.none; beside = Every.none; apart = Apart.none }
  takes_fits {es} h (Takes.add {f = f} {fs = fs} a b c t) =
      let n = length-append es (one (entry_of f)) in
      let l = takes_fits (omega (arith, n)) t in
      record {
        few = omega (arith, n, l.few);
        inside = Every.add (sheet_reads extent f b) l.inside;
        beside = Every.add c (every_map (λ g k. from_front (entry_of g) (entry_of f) es k) l.beside);
        apart = Apart.add (every_map (λ g k. apart_reads f g (from_last (entry_of g) (entry_of f) es k)) l.beside) l.apart;
      }
