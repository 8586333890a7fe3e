-- What the readers say of the grammar: each reads at a place exactly what section 7 has there.
use Prim.Native.Nat.{ℕ, ◌+◌, ◌≤◌, ◌<◌}
use mathlib.Core.Path.{◌≡◌}
use mathlib.Core.Bool.{true, false}
use mathlib.Core.List.{List}
use lib.ListN.{length}
use Rattle.laws.specs.Bytes.{byte_at}
use Rattle.laws.specs.Choice.{when◌then◌else◌, ◌=?◌}
use Rattle.field.specs.declared.record.Field.{Field}
use Rattle.cmf.specs.Refusals.{refusal_number}
use Rattle.cmf.specs.Layouts.{Text, Aligned, Component, code, edit_bit, last_bit}
use Rattle.cmf.specs.Grammar.{Head, Password, is_last, has_submenu, has_password, next_line, submenu_table, password_at}
use Rattle.cmf.specs.Readers.{odd_from, even_from, title_at, first_at, back_at, head_at, component_at}
use Rattle.cmf.specs.Places.{held_by}

-- what a component of the grammar reads as
pub record ComponentIs (im : List ℕ) (at end : ℕ) (fs : List Field) : Type 0 where
  pub refusal : refusal_number (component_at im at).refusal ≡ 0
  pub ends : (component_at im at).end ≡ end
  pub fields : held_by (component_at im at) ≡ fs

-- what is known of a component that reads with code 0
pub record ComponentReads (im : List ℕ) (at : ℕ) : Type 0 where
  pub component : Component im at (component_at im at).end (held_by (component_at im at))
  pub last : (component_at im at).last ≡ true → last_bit im at ≡ 1
  pub more : (component_at im at).last ≡ false → last_bit im at ≡ 0
  pub editable : (component_at im at).editable ≡ (when code im at =? 0x17 then true else edit_bit im at =? 1)
  pub next : (component_at im at).next.0 ≡ even_from (component_at im at).end
  pub after : at < (component_at im at).end
  pub inside : (component_at im at).end ≤ length im

-- what a head of the grammar reads as
pub record HeadIs (im : List ℕ) (n before p end : ℕ) : Type 0 where
  pub refusal : refusal_number (head_at im p).refusal ≡ 0
  pub good : (head_at im p).typeable ≡ true
  pub ends : (head_at im p).end ≡ end
  pub first : n ≡ 0 → first_at im p ≡ true
  pub later : 0 < n → first_at im p ≡ false
  pub back : 0 < n → before + back_at im p ≡ p

-- what is known of a head that reads with code 0
pub record HeadReads (im : List ℕ) (p : ℕ) : Type 0 where
  -- with a good password and a first mark and distance that agree it is a head of the grammar
  pub head :
      (head_at im p).typeable ≡ true → (n before : ℕ) → (n ≡ 0 → first_at im p ≡ true) → (0 < n → first_at im p ≡ false) →
      (0 < n → before + back_at im p ≡ p) → Head im n before p (head_at im p).end
  pub last : (head_at im p).last ≡ true → is_last im p ≡ 1
  pub more : (head_at im p).last ≡ false → is_last im p ≡ 0
  pub submenu : (head_at im p).submenu ≡ true → has_submenu im p ≡ 1
  pub plain : (head_at im p).submenu ≡ false → has_submenu im p ≡ 0
  pub next : (head_at im p).next.0 ≡ next_line im p
  pub table : (head_at im p).table.0 ≡ submenu_table im p
  pub protected : (head_at im p).protected ≡ (has_password im p =? 1)
  pub place : (head_at im p).password.0 ≡ password_at im p
  pub password : (head_at im p).typeable ≡ true → Password im p (head_at im p).end
  pub component : (head_at im p).component.0 ≡ even_from (head_at im p).end
  pub after : p < (head_at im p).end
  pub inside : (head_at im p).end ≤ length im

-- what is known of a title that reads with code 0
pub record TitleReads (im : List ℕ) (at : ℕ) : Type 0 where
  pub text : Text im at (title_at im at).end
  pub line : (title_at im at).line.0 ≡ odd_from (title_at im at).end

-- what a text of the grammar reads as, where a title is expected
pub record TitleIs (im : List ℕ) (at end : ℕ) : Type 0 where
  pub refusal : refusal_number (title_at im at).refusal ≡ 0
  pub ends : (title_at im at).end ≡ end

-- a place that is aligned after another
pub record PlaceIs (im : List ℕ) (at place from : ℕ) : Type 0 where
  pub is : place ≡ from
  pub zeroed : (at ≡ place → ⊥) → byte_at im at ≡ 0

-- the readers and the grammar agree
pub record Agree (im : List ℕ) : Type 0 where
  pub component_is : {at end : ℕ} {fs : List Field} → Component im at end fs → ComponentIs im at end fs
  pub component_reads : (at : ℕ) → refusal_number (component_at im at).refusal ≡ 0 → ComponentReads im at
  pub head_is : {n before p end : ℕ} → Head im n before p end → HeadIs im n before p end
  pub head_reads : (p : ℕ) → refusal_number (head_at im p).refusal ≡ 0 → HeadReads im p
  pub title_is : {at end : ℕ} → Text im at end → TitleIs im at end
  pub title_reads : (at : ℕ) → refusal_number (title_at im at).refusal ≡ 0 → TitleReads im at
  pub odd_is : {at place : ℕ} → Aligned im 1 at place → PlaceIs im at place (odd_from at)
  pub even_is : {at place : ℕ} → Aligned im 0 at place → PlaceIs im at place (even_from at)
  pub odd_aligned : (at place : ℕ) → PlaceIs im at place (odd_from at) → place < length im → Aligned im 1 at place
  pub even_aligned : (at place : ℕ) → PlaceIs im at place (even_from at) → place < length im → Aligned im 0 at place
