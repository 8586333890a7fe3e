-- The grammar holds of an image that is written here by hand, and no longer with one padding byte changed. For the first each relation is
-- given its places, and every fact about them is a computation; for the second the places are followed up to the byte that must be zero.
use Prim.Native.Nat.{ℕ, ◌+◌, ◌%◌, ◌<◌}
use mathlib.Core.Path.{◌≡◌, refl}
use mathlib.Core.List.{List, [], ◌∷◌}
use lib.Dec.{lit≤}
use lib.ListN.{length, set}
use native.Mathlib.Omega.{arith}
use Rattle.laws.specs.Choice.{when◌then◌else◌, ◌and◌}
use Rattle.laws.specs.Bytes.{byte_at, word_at}
use Rattle.laws.specs.Digits.{from_low, number_from}
use Rattle.laws.specs.Overwrite.{fit}
use Rattle.field.specs.Profiles.{profile_of, cell_of}
use Rattle.field.specs.Values.{number_of}
use Rattle.field.specs.Cells.{in_range, in_span, all_within, cells_of, within}
use Rattle.field.specs.Settings.{settings_fit, kind_fits}
use Rattle.field.specs.declared.record.Field.{Field}
use Rattle.cmf.specs.Example.{image}
use Rattle.cmf.specs.Layouts.{Texts, Aligned, Component, Components, OptionLayout, GoodSettings, option_at}
use Rattle.cmf.specs.Grammar.{WellFormed, Prolog, Password, Head, Line, Lines, TableOver, Table, Every, Apart}

-- a structure that needs no padding, and one after a zero byte
here : (im : List ℕ) (parity at : ℕ) → at % 2 ≡ parity → Aligned im parity at at
here im parity at e = record { agrees = e; after = omega arith; first = omega arith; inside = λ h. omega arith; zeroed = λ h. omega arith }

padded : (im : List ℕ) (parity at : ℕ) → (at + 1) % 2 ≡ parity → at < length im → byte_at im at ≡ 0 → Aligned im parity at (at + 1)
padded im parity at e l z = record { agrees = e; after = omega arith; first = omega arith; inside = λ h. l; zeroed = λ h. z }

prolog : Prolog image
prolog = record {
  least = lit≤ tt;
  most = lit≤ tt;
  id_c = refl;
  id_m = refl;
  id_f = refl;
  major = refl;
  minor = refl;
  mark_low = refl;
  mark_high = refl;
}

-- ---- the submenu

logs_line : Components image 58 62 []
logs_line = Components.last 58 (here image 0 58 refl) (Component.constant refl refl (record { ends = refl; inside = lit≤ tt })) refl

logs_head : Head image 0 0 57 58
logs_head = record {
  inside = lit≤ tt;
  password = Password.none refl refl;
  tag = lit≤ tt;
  protects = lit≤ tt;
  first = λ e. refl;
  later = λ l. omega arith;
  previous = λ l. omega arith;
}

logs : TableOver image (Table image 6) 51 [] 1
logs = record {
  title_end = 56;
  first_line = 57;
  title = record { ends = refl; inside = lit≤ tt };
  aligned = padded image 1 56 refl (lit≤ tt) refl;
  lines = Lines.last 62 (lit≤ tt) (Line.plain 58 logs_head logs_line refl) refl;
}

-- ---- the top table

-- the default of the option is one of its items
good : GoodSettings (option_at image 24)
unfolding settings_fit kind_fits in_range in_span all_within cells_of within cell_of profile_of number_of from_low number_from fit ◌and◌ when◌then◌else◌
good = record { good = refl }

items : Texts image 2 34 41 3
items = Texts.more 37 (record { ends = refl; inside = lit≤ tt }) (Texts.more 41 (record { ends = refl; inside = lit≤ tt }) Texts.none)

option : OptionLayout image 24 41
option = record { inside = lit≤ tt; items = items; counted = refl }

option_line : Components image 18 41 (option_at image 24 ∷ [])
option_line =
    Components.more
    18
    23
    (here image 0 18 refl)
    (Component.constant refl refl (record { ends = refl; inside = lit≤ tt }))
    refl
    (Components.last 24 (padded image 0 23 refl (lit≤ tt) refl) (Component.option refl option good) refl)

option_head : Head image 0 0 15 18
option_head = record {
  inside = lit≤ tt;
  password = Password.none refl refl;
  tag = lit≤ tt;
  protects = lit≤ tt;
  first = λ e. refl;
  later = λ l. omega arith;
  previous = λ l. omega arith;
}

log_line : Components image 46 51 []
log_line = Components.last 46 (here image 0 46 refl) (Component.constant refl refl (record { ends = refl; inside = lit≤ tt })) refl

log_head : Head image 1 15 41 46
unfolding word_at
log_head = record {
  inside = lit≤ tt;
  password = Password.none refl refl;
  tag = lit≤ tt;
  protects = lit≤ tt;
  first = λ e. omega arith;
  later = λ l. refl;
  previous = λ l. refl;
}

top : Table image 8 10 (option_at image 24 ∷ []) 3
unfolding Table word_at
top = record {
  title_end = 15;
  first_line = 15;
  title = record { ends = refl; inside = lit≤ tt };
  aligned = here image 1 15 refl;
  lines =
      Lines.more
      41
      (lit≤ tt)
      (Line.plain 18 option_head option_line refl)
      refl
      (here image 1 41 refl)
      (Lines.last 51 (lit≤ tt) (Line.submenu 46 log_head log_line refl logs) refl);
}

-- ---- the whole

-- with a sheet of one byte the image is well formed
pub example : WellFormed image 1
unfolding word_at profile_of
example = record {
  fields = option_at image 24 ∷ [];
  lines = 3;
  prolog = prolog;
  table = top;
  few_lines = lit≤ tt;
  few_fields = lit≤ tt;
  inside = Every.add (record { short = lit≤ tt; inside = lit≤ tt }) Every.none;
  apart = Apart.add Every.none Apart.none;
}

-- ---- a padding byte that is not zero

-- the same image but for the padding before the option, byte 23
abbrev pub wrong_padding : List ℕ
wrong_padding = set image 23 1

-- no component can come after that byte
skipped : (at p : ℕ) → at ≡ 23 → Aligned wrong_padding 0 at p → ⊥
skipped at p e a =
    let z : byte_at wrong_padding at ≡ 0 = a.zeroed (omega arith) in
    let o : byte_at wrong_padding at ≡ 1 = rw e in
    omega arith

no_second : {at end : ℕ} {fs : List Field} → at ≡ 23 → Components wrong_padding at end fs → ⊥
no_second e (Components.last p a c l) = skipped _ p e a
no_second e (Components.more p mid a c l cs) = skipped _ p e a

-- the component at 18 is the text, which ends at 23
text_end : {p end : ℕ} {fs : List Field} → byte_at wrong_padding p ≡ 0x15 → p ≡ 18 → Component wrong_padding p end fs → end ≡ 23
text_end t e (Component.integer c f g) = omega arith
text_end t e (Component.counter c f g) = omega arith
text_end t e (Component.time_long c f g) = omega arith
text_end t e (Component.time_short c f g) = omega arith
text_end t e (Component.date_long c f g) = omega arith
text_end t e (Component.date_short c f g) = omega arith
text_end t e (Component.switch c f g) = omega arith
text_end t e (Component.option c f g) = omega arith
text_end {p} t e (Component.constant c b x) = let l : byte_at wrong_padding (p + 1) ≡ 3 = rw e in omega arith
text_end t e (Component.trigger c f) = omega arith

-- so the line has no components
no_components : {at end : ℕ} {fs : List Field} → at ≡ 18 → Components wrong_padding at end fs → ⊥
no_components e (Components.last p a c l) =
    let p18 : p ≡ 18 = omega arith in
    let t : byte_at wrong_padding p ≡ 0x15 = rw p18 in
    omega arith
no_components e (Components.more p mid a c l cs) =
    let p18 : p ≡ 18 = omega arith in
    let t : byte_at wrong_padding p ≡ 0x15 = rw p18 in
    no_second (text_end t p18 c) cs

-- the head at 15 ends at 18
head_end : {n before p mid : ℕ} → p ≡ 15 → Head wrong_padding n before p mid → mid ≡ 18
head_end {p} e h = go h.password
  where
    t : byte_at wrong_padding p ≡ 0x01
    t = rw e

    go : {mid : ℕ} → Password wrong_padding p mid → mid ≡ 18
    go (Password.none b d) = rw e at d
    go (Password.some b x d) = omega (arith, t)

-- and the table no lines
module _ {Submenu : ℕ → List Field → ℕ → Type 0} where
  no_line : {n before p end k : ℕ} {fs : List Field} → p ≡ 15 → Line wrong_padding Submenu n before p end fs k → ⊥
  no_line e (Line.plain mid h cs b) = no_components (head_end e h) cs
  no_line e (Line.submenu mid h cs b s) = no_components (head_end e h) cs

  no_lines : {n before p k : ℕ} {fs : List Field} → p ≡ 15 → Lines wrong_padding Submenu n before p fs k → ⊥
  no_lines e (Lines.last end f l b) = no_line e l
  no_lines e (Lines.more end f l b a ls) = no_line e l

-- the image is not well formed, whatever the sheet
pub not_well_formed : (extent : ℕ) → WellFormed wrong_padding extent → ⊥
unfolding Table
not_well_formed extent w =
    let t = w.table in
    no_lines (omega arith) t.lines
