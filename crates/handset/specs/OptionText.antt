-- 01, The four calls: the option text. It takes image and sheet and no session.
use Rattle.std.specs.Prelude.{ℕ, ◌+◌, ◌≤◌, ◌≡◌, List, [], length, Result, Ok, Err}
use Rattle.std.specs.Borrow.{Bor}
use Rattle.laws.specs.Choice.{when◌then◌else◌, ◌and◌, ◌=?◌, ◌<?◌}
use Rattle.laws.specs.Bytes.{byte_at}
use Rattle.laws.specs.Parts.{part_at}
use Rattle.field.specs.declared.kind.ImagePlace.{ImagePlace}
use Rattle.field.specs.declared.kind.Kind.{Kind}
use Rattle.field.specs.declared.kind.Kind.TheVariants.{Integer, Counter, Time, Date, Switch, Option, Trigger}
use Rattle.cmf.specs.Refusals.{number}
use Rattle.cmf.specs.declared.refusal.Refusal.{Refusal}
use Rattle.cmf.specs.Readers.{item_place, component_at}
use Rattle.cmf.specs.Places.{field_places, is_in}
use Rattle.acceptance.specs.Check.{refusal_of}
use Rattle.handset.specs.Refusals.{◌before◌, ◌unless◌}
use Rattle.handset.specs.declared.option.TextSpan.{TextSpan}

-- how many items a field has: only an option has any
unfoldable pub items_in : Kind → ℕ
items_in (Integer f) = 0
items_in (Counter s) = 0
items_in (Time long) = 0
items_in (Date long) = 0
items_in (Switch n) = 0
items_in (Option n w) = n
items_in Trigger = 0

-- 01, row 14: the place is not that of a reached option field, or there is no such item; 2 to 11 come first
unfoldable pub text_refusal : List ℕ → ℕ → ℕ → ℕ → ℕ
text_refusal im extent place item =
    refusal_of im extent
    before (14 unless (is_in place (field_places im)
    and (item <? items_in (component_at im place).field.kind)))

-- a refusal, or the place of a text's first byte and how many there are
pub record TextPlace : Type 0 where
  pub refusal : ℕ
  pub start : ImagePlace
  pub length : ℕ

abbrev pub text_span : ℕ → ℕ → ℕ → TextPlace
text_span k start n = record { refusal = k; start = record { 0 = start }; length = n }

-- where the item's own bytes are: after its length byte, as many as that says; a refusal has neither place
-- nor length
unfoldable pub text_place : List ℕ → ℕ → ℕ → ℕ → TextPlace
text_place im extent place item =
    when text_refusal im extent place item =? 0
    then text_span 0 (item_place im place item + 1) (byte_at im (item_place im place item))
    else text_span (text_refusal im extent place item) 0 0

-- the item's own bytes are that part of the image; a refusal gives an empty part
unfoldable pub option_text : List ℕ → ℕ → ℕ → ℕ → List ℕ
option_text im extent place item =
    part_at (text_place im extent place item).start.0 (text_place im extent place item).length im

-- the place that a call answers; a refusal answers its number
abbrev pub place_in : Result TextSpan Refusal → TextPlace
place_in (Ok t) = text_span 0 t.start.0 t.length
place_in (Err r) = text_span (number r) 0 0

-- the text that a call answers; a refusal answers an empty one
abbrev pub text_in : Result (Bor (List ℕ)) Refusal → List ℕ
text_in (Ok t) = t.now
text_in (Err r) = []

-- a text is the item's: all of the item is in the image, and the text is the bytes after its length byte, as
-- many as that says
pub record ItemIs (im : List ℕ) (place item : ℕ) (text : List ℕ) : Type 0 where
  pub inside : item_place im place item + 1 + byte_at im (item_place im place item) ≤ length im
  pub bytes : text ≡ part_at (item_place im place item + 1) (byte_at im (item_place im place item)) im
