-- What a reader finds at a place, whatever the bytes: section 7's layouts in the order in which they are
-- read. A refusal of 6 says that not all of the thing is in the image, 7 that section 7 does not give it or
-- 01 leaves it for later, 9 (of a component) that its settings are bad. Whether a head's
-- password is a good one is told apart, by `typeable`. What is refused with 6 or 7 reads as the last of its
-- list and leads nowhere.
use Rattle.std.specs.Prelude.{ℕ, zero, suc, ◌+◌, ◌-◌, ◌*◌, ◌/◌, ◌%◌, max, Bool, true, false, List, [], length, Some, None}
use Rattle.laws.specs.Choice.{when◌then◌else◌, ◌and◌, ◌=?◌, ◌<?◌, ◌≤?◌}
use Rattle.laws.specs.Bytes.{byte_at, word_at, room}
use Rattle.laws.specs.Parts.{part_at}
use Rattle.field.specs.Formats.{format_of}
use Rattle.field.specs.Profiles.{profile_of}
use Rattle.field.specs.Values.{value_at}
use Rattle.field.specs.Cells.{biased}
use Rattle.field.specs.Settings.{settings_fit}
use Rattle.field.specs.declared.kind.Kind.{Kind}
use Rattle.field.specs.declared.kind.Kind.TheVariants.{Integer, Counter, Time, Date, Switch, Option, Trigger}
use Rattle.field.specs.declared.kind.CounterSettings.{CounterSettings}
use Rattle.field.specs.declared.record.Field.{Field}
use Rattle.cmf.specs.Limits.{prolog_bytes, longest_password}
use Rattle.cmf.specs.declared.refusal.Refusal.{Refusal}
use Rattle.cmf.specs.declared.refusal.Refusal.TheVariants as fault
use Rattle.cmf.specs.declared.image.Image.{Image}
use Rattle.cmf.specs.declared.text.Run.{Run}
use Rattle.cmf.specs.declared.title.Title.{Title}
use Rattle.cmf.specs.declared.head.Head.{Head}
use Rattle.cmf.specs.declared.component.Component.{Component}

-- 7.3: delay-to-top and delay-password in the prolog
unfoldable pub image_of : List ℕ → Image
image_of im = record { delays = record { top = byte_at im 5; password = byte_at im 7 } }

-- R6: the first odd place at or after a place, and the first even one
abbrev pub odd_from : ℕ → ℕ
odd_from x = x + (1 - x % 2)

abbrev pub even_from : ℕ → ℕ
even_from x = x + x % 2

-- the bit of a tag that has this weight
abbrev pub tag_bit : ℕ → ℕ → ℕ
tag_bit weight tag = tag / weight % 2

-- ---- texts

abbrev pub run_of : Bool → ℕ → ℕ → Run
run_of ok e m = record { fits = ok; end = e; longest = m }

-- 7.1: so many texts from a place on, each a length byte and its bytes; m is the longest so far
unfoldable pub texts_from : List ℕ → ℕ → ℕ → ℕ → Run
texts_from im zero at m = run_of true at m
texts_from im (suc n) at m =
    when room (length im) at 1 then
    (when room (length im) (at + 1) (byte_at im at)
    then texts_from im n (at + 1 + byte_at im at) (max m (byte_at im at)) else run_of false at m)
    else run_of false at m

-- the n bytes from a place on are ASCII digits
unfoldable pub all_digits : List ℕ → ℕ → ℕ → Bool
all_digits im zero at = true
all_digits im (suc n) at = ((0x30 ≤? byte_at im at) and (byte_at im at ≤? 0x39)) and all_digits im n (at + 1)

-- 01, row 9: a password has 1 to 8 digits
unfoldable pub password_fits : List ℕ → ℕ → Bool
password_fits im at =
    (1 ≤? byte_at im at) and ((byte_at im at ≤? longest_password) and all_digits im (byte_at im at) (at + 1))

-- the place of the k-th of the texts from a place on
unfoldable pub item_from : List ℕ → ℕ → ℕ → ℕ
item_from im zero at = at
item_from im (suc k) at = when at <? length im then item_from im k (at + 1 + byte_at im at) else at

-- where the text of an option's item is: its texts begin after ten bytes (7.5.21 with R1's var-addr)
abbrev pub item_place : List ℕ → ℕ → ℕ → ℕ
item_place im place item = item_from im item (place + 10)

-- the bytes of the text at a place, without its length byte; none where it is not all in the image
unfoldable pub text_bytes : List ℕ → ℕ → List ℕ
text_bytes im at =
    when room (length im) at (1 + byte_at im at) then part_at (at + 1) (byte_at im at) im else []

-- ---- 7.2: a table's title

abbrev pub title_refused : ℕ → Title
title_refused at = record { refusal = Some fault.Cut; end = at; line = record { 0 = at } }

-- where it ends, and where the first line is
unfoldable pub title_by : ℕ → Run → Title
title_by at t = when t.fits then record { refusal = None; end = t.end; line = record { 0 = odd_from t.end } }
    else title_refused at

unfoldable pub title_at : List ℕ → ℕ → Title
title_at im at = title_by at (texts_from im 1 at 0)

-- ---- 7.4: a line's head

abbrev pub head_refused : ℕ → Refusal → Head
head_refused p r = record {
  refusal = Some r;
  typeable = true;
  last = true;
  submenu = false;
  protected = false;
  next = record { 0 = p };
  table = record { 0 = p };
  password = record { 0 = p };
  end = p;
  component = record { 0 = p };
}

-- figure 3: after the tag next-line-ofs unless last (2), prev-line-ofs unless first (1), an enable address if
-- dynamic (4), smenu-abs-ofs if there is a submenu (8)
abbrev pub back_place : ℕ → ℕ → ℕ
back_place p tag = p + 1 + 2 * (1 - tag_bit 2 tag)

-- whether the line at p has the mark of the first of its table (1), and its prev-line-ofs, which the first
-- has not: no parts of the head, since only the check asks for them
abbrev pub first_at : List ℕ → ℕ → Bool
first_at im p = tag_bit 1 (byte_at im p) =? 1

abbrev pub back_at : List ℕ → ℕ → ℕ
back_at im p = word_at im (back_place p (byte_at im p))

abbrev pub submenu_place : ℕ → ℕ → ℕ
submenu_place p tag = back_place p tag + 2 * (1 - tag_bit 1 tag) + 2 * tag_bit 4 tag

abbrev pub options_end : ℕ → ℕ → ℕ
options_end p tag = submenu_place p tag + 2 * tag_bit 8 tag

-- how many passwords (16), one or none: one only where there is a submenu
abbrev pub passwords : ℕ → ℕ
passwords tag = tag_bit 8 tag * tag_bit 16 tag

-- all options are in the image; the head ends at `end`. What an absent option would say has no meaning
abbrev pub head_read : List ℕ → ℕ → ℕ → ℕ → Head
head_read im p tag end = record {
  refusal = None;
  typeable = when passwords tag =? 1 then password_fits im (options_end p tag) else true;
  last = tag_bit 2 tag =? 1;
  submenu = tag_bit 8 tag =? 1;
  protected = passwords tag =? 1;
  next = record { 0 = p + word_at im (p + 1) };
  table = record { 0 = prolog_bytes + word_at im (submenu_place p tag) };
  password = record { 0 = options_end p tag };
  end = end;
  component = record { 0 = even_from end };
}

-- R9: a password bit without a submenu is 7, once all options are there
unfoldable pub head_by : List ℕ → ℕ → ℕ → Run → Head
head_by im p tag t =
    when options_end p tag ≤? length im then
    (when t.fits then
    (when tag_bit 16 tag ≤? tag_bit 8 tag then head_read im p tag t.end else head_refused p fault.Form)
    else head_refused p fault.Cut)
    else head_refused p fault.Cut

-- R9: a tag with a bit above 4 is 7 at once
unfoldable pub head_at : List ℕ → ℕ → Head
head_at im p =
    when p <? length im then
    (when byte_at im p <? 32 then head_by im p (byte_at im p)
    (texts_from im (passwords (byte_at im p)) (options_end p (byte_at im p)) 0) else head_refused p fault.Form)
    else head_refused p fault.Cut

-- ---- 7.5: a component

-- bytes before a component's texts, its tag among them, by code; a string that is editable has an address
unfoldable pub fixed_bytes : ℕ → ℕ → ℕ
fixed_bytes code edit =
    when code ≤? 0x04 then 7  -- 7.5.1 to 7.5.5: update:1 call-addr:2 var-addr:2 default:1
    else when code ≤? 0x0a then 8  -- 7.5.6 to 7.5.11: default:2
    else when code ≤? 0x0c then 10  -- 7.5.12, 7.5.13: default:4
    else when code =? 0x0d then 15  -- 7.5.14: min:2 max:2 step:2 default:2 field-width:1
    else when code =? 0x0e then 23  -- 7.5.15: min:4 max:4 step:4 default:4 field-width:1
    else when code =? 0x0f then 9  -- 7.5.16: hours:1 minutes:1 seconds:1
    else when code =? 0x10 then 8  -- 7.5.17: hours:1 minutes:1
    else when code =? 0x11 then 10  -- 7.5.18: day:1 month:1 year:2
    else when code =? 0x12 then 9  -- 7.5.19: day:1 month:1 year:1
    else when code =? 0x13 then 14  -- 7.5.20: length:1 nswitch:1 on-char:1 off-char:1 default:4
    else when code =? 0x14 then 10  -- 7.5.21, R1: length:1 nopts:1 field-width:1 default:1
    -- 7.5.22: update:1 call-addr:2 var-addr:2, or nothing
    else when code =? 0x15 then (when edit =? 1 then 6 else 1)
    else 4  -- 7.5.23, 7.5.24: update:1 call-addr:2

-- R17: a switch has nswitch texts, an option nopts; a string and a password have one
unfoldable pub text_count : List ℕ → ℕ → ℕ → ℕ
text_count im at code =
    when code <? 0x13 then 0
    else when code ≤? 0x14 then byte_at im (at + 7)
    else when code ≤? 0x16 then 1
    else 0

-- whether section 7 gives the component that is there and 01 does not leave it for later; R16: length and
-- field-width agree with the texts
unfoldable pub given : List ℕ → ℕ → ℕ → ℕ → Run → Bool
given im at code edit t =
    when code ≤? 0x0a then true
    else when code =? 0x0d then true
    else when code <? 0x0f then false
    else when code ≤? 0x12 then true
    else when code =? 0x13 then at + byte_at im (at + 6) =? t.end
    else when code =? 0x14 then (at + byte_at im (at + 6) =? t.end) and (byte_at im (at + 8) =? t.longest)
    else when code =? 0x15 then edit =? 0
    else code =? 0x17

-- 7.5.14, R2: min, max and step are signed; min and max are kept with 32,768 added
abbrev pub counter_of : List ℕ → ℕ → CounterSettings
counter_of im at = record {
  min = biased (word_at im (at + 6));
  max = biased (word_at im (at + 8));
  step = word_at im (at + 10);
  width = byte_at im (at + 14);
}

-- the kind that a code gives; what is no field of ours counts as a trigger here
unfoldable pub kind_at : List ℕ → ℕ → ℕ → Kind
kind_at im at code =
    when code ≤? 0x0a then Integer (format_of code)
    else when code =? 0x0d then Counter (counter_of im at)
    else when code =? 0x0f then Time true
    else when code =? 0x10 then Time false
    else when code =? 0x11 then Date true
    else when code =? 0x12 then Date false
    else when code =? 0x13 then Switch (byte_at im (at + 7))
    else when code =? 0x14 then Option (byte_at im (at + 7)) (byte_at im (at + 8))
    else Trigger

-- where the default is
unfoldable pub default_place : ℕ → ℕ → ℕ
default_place at code =
    when code =? 0x0d then at + 12
    else when code =? 0x13 then at + 10
    else when code =? 0x14 then at + 9
    else at + 6

-- 7.5: var-addr comes after update and call-addr; R18: a trigger has none
unfoldable pub sheet_place_at : List ℕ → ℕ → ℕ → ℕ
sheet_place_at im at code = when code <? 0x15 then word_at im (at + 4) else 0

abbrev pub field_by : List ℕ → ℕ → ℕ → Field
field_by im at code = record {
  image = record { 0 = at };
  sheet = record { 0 = sheet_place_at im at code };
  kind = kind_at im at code;
  default = value_at (default_place at code) (profile_of (kind_at im at code)).bytes im;
}

abbrev pub component_refused : List ℕ → ℕ → Refusal → Component
component_refused im at r = record {
  refusal = Some r;
  last = true;
  editable = false;
  fielded = false;
  field = field_by im at 0x17;
  end = at;
  next = record { 0 = at };
}

-- the component that ends at `end`; 01, Fields: a trigger is editable whatever its edit bit
abbrev pub component_read : List ℕ → ℕ → ℕ → ℕ → ℕ → Component
component_read im at code tag end = record {
  refusal = when settings_fit (kind_at im at code) (field_by im at code).default then None else Some fault.Setting;
  last = tag_bit 128 tag =? 1;
  editable = when code =? 0x17 then true else tag_bit 32 tag =? 1;
  fielded = when code =? 0x15 then false else true;
  field = field_by im at code;
  end = end;
  next = record { 0 = even_from end };
}

unfoldable pub laid_out : List ℕ → ℕ → ℕ → ℕ → Run → Component
laid_out im at code tag t =
    when room (length im) at (fixed_bytes code (tag_bit 32 tag)) then
    (when t.fits then (when given im at code (tag_bit 32 tag) t then component_read im at code tag t.end
    else component_refused im at fault.Form) else component_refused im at fault.Cut)
    else component_refused im at fault.Cut

-- R14: a form left for later is 6 if section 7's layout of it is not all there, else 7; a code that is not
-- given is 7 at its tag
unfoldable pub component_by : List ℕ → ℕ → ℕ → ℕ → Component
component_by im at code tag =
    when code <? 0x18 then laid_out im at code tag
    (texts_from im (text_count im at code) (at + fixed_bytes code (tag_bit 32 tag)) 0)
    else component_refused im at fault.Form

unfoldable pub component_at : List ℕ → ℕ → Component
component_at im at =
    when at <? length im then component_by im at (byte_at im at % 32) (byte_at im at)
    else component_refused im at fault.Cut
