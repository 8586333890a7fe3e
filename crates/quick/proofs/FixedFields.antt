-- Fields without texts, recognised by a few tests on their bytes.
use Prim.Native.Nat.{ℕ, ◌+◌, ◌*◌, ◌/◌, ◌%◌, ◌≤◌, ◌<◌}
use mathlib.Core.Path.{◌≡◌, refl, sym, ◌∙◌}
use mathlib.Core.Bool.{true, false}
use mathlib.Core.List.{List, [], ◌∷◌}
use mathlib.Core.Logic.{◌⊎◌, inl, inr}
use native.Mathlib.Omega.{arith}
use native.Mathlib.Nat.{add_assoc}
use lib.ListN.{length}
use Rattle.laws.specs.Choice.{when◌then◌else◌}
use Rattle.laws.specs.Bytes.{byte_at, word_at}
use Rattle.field.specs.Formats.{format_of, numeral_of}
use Rattle.field.specs.Calendar.{month_end}
use Rattle.field.specs.Profiles.{profile_of}
use Rattle.field.specs.Cells.{spans, in_range}
use Rattle.field.specs.Settings.{step_fits, width_fits, settings_fit}
use Rattle.field.specs.Sheet.{size_of}
use Rattle.field.specs.Values.{number_of, value_at}
use Rattle.field.specs.declared.kind.Kind.TheVariants.{Integer, Counter}
use Rattle.field.specs.declared.record.Field.{Field}
use Rattle.field.specs.declared.kind.CounterSettings.{CounterSettings}
use Rattle.field.proofs.Calendars.{end_most}
use Rattle.field.proofs.Fitting.{two_bytes, three_bytes, four_bytes, integer_fits, counter_fits, time_fits, date_fits}
use Rattle.cmf.specs.Limits.{most_fields}
use Rattle.cmf.specs.Layouts.{Component, integer_at, counter_settings_at, time_long_at, time_short_at, date_long_at, date_short_at, trigger_at}
use Rattle.cmf.proofs.Shortcuts.{one_byte, short_bytes, long_bytes}
use Rattle.quick.specs.declared.tally.Tally.{Tally}
use Rattle.quick.specs.Accept.{Claimed, Claims, Held, Passes, fielded}
use Rattle.quick.proofs.Marks.{claimed_none}

-- a field with its place and its bytes in the sheet
pub held : (im : List ℕ) {at end size : ℕ} {f : Field} → at + 6 ≤ length im → Component im at end (f ∷ []) → f.sheet.0 ≡ word_at im (at + 4) → size_of f ≡ size → Held im at end size
held im {f = f} i g p b = record { inside = i; field = f; component = g; place = p; bytes = b }

module _ (im : List ℕ) (at end : ℕ) (inside : end ≤ length im) where
  -- ---- integers

  byte_is :
      (c : ℕ) → byte_at im at % 32 ≡ c → c ≤ 0x04 → end ≡ at + 7 → spans (numeral_of (format_of c)) (byte_at im (at + 6)) ≡ true →
      Component im at end (integer_at im at ∷ [])
  byte_is c k h e s =
      let b = short_bytes c h in
      let g : settings_fit (Integer (format_of c)) (value_at (at + 6) 1 im) ≡ true = integer_fits (format_of c) (value_at (at + 6) 1 im) (rw (one_byte (at + 6) im) s) in
      Component.integer (omega arith) (record { ends = rw (k, b) e; inside = inside }) (record { good = rw (k, b) g })

  word_is :
      (c : ℕ) → byte_at im at % 32 ≡ c → 0x04 < c → c ≤ 0x0a → end ≡ at + 8 → spans (numeral_of (format_of c)) (word_at im (at + 6)) ≡ true →
      Component im at end (integer_at im at ∷ [])
  word_is c k l h e s =
      let b = long_bytes c l h in
      let g : settings_fit (Integer (format_of c)) (value_at (at + 6) 2 im) ≡ true = integer_fits (format_of c) (value_at (at + 6) 2 im) (rw (two_bytes (at + 6) im) s) in
      Component.integer (omega arith) (record { ends = rw (k, b) e; inside = inside }) (record { good = rw (k, b) g })

  pub integer_is :
      (c x : ℕ) {size : ℕ} → byte_at im at % 32 ≡ c → ((size ≡ 1) × (c ≤ 0x04)) ⊎ ((size ≡ 2) × (0x04 < c) × (c ≤ 0x0a)) → end ≡ at + 6 + size →
      (size ≡ 1 → x ≡ byte_at im (at + 6)) → (size ≡ 2 → x ≡ word_at im (at + 6)) → spans (numeral_of (format_of c)) x ≡ true → Held im at end size
  integer_is c x k (inl z) e b w s = held im (omega arith) (byte_is c k z.1 (omega arith) (rw (b z.0) at s)) refl (short_bytes _ (omega arith) ∙ sym z.0)
  integer_is c x k (inr z) e b w s = held im (omega arith) (word_is c k z.1 z.2 (omega arith) (rw (w z.0) at s)) refl (long_bytes _ (omega arith) (omega arith) ∙ sym z.0)

  -- ---- counters

  pub counter_is :
      (s : CounterSettings) → byte_at im at % 32 ≡ 0x0d → end ≡ at + 15 → s ≡ counter_settings_at im at → in_range (Counter s) (word_at im (at + 12)) ≡ true →
      step_fits s ≡ true → width_fits s ≡ true → Held im at end 2
  unfolding profile_of
  counter_is s k e f r c d =
      let g : settings_fit (Counter s) (value_at (at + 12) 2 im) ≡ true = counter_fits s (value_at (at + 12) 2 im) c d (rw (two_bytes (at + 12) im) r) in
      held im (omega arith) (Component.counter k (record { ends = e; inside = inside }) (record { good = rw f at g })) refl refl

  -- ---- times and dates

  time_long_is :
      byte_at im at % 32 ≡ 0x0f → end ≡ at + 9 → byte_at im (at + 6) ≤ 23 → byte_at im (at + 7) ≤ 59 → byte_at im (at + 8) ≤ 59 →
      Component im at end (time_long_at im at ∷ [])
  unfolding profile_of when◌then◌else◌
  time_long_is k e h m s =
      let n = simp add_assoc at (three_bytes (at + 6) im) in
      Component.time_long k (record { ends = e; inside = inside })
      (record { good = time_fits true (value_at (at + 6) 3 im) (omega arith) (omega arith) (omega arith) })

  time_short_is :
      byte_at im at % 32 ≡ 0x10 → end ≡ at + 8 → byte_at im (at + 6) ≤ 23 → byte_at im (at + 7) ≤ 59 → Component im at end (time_short_at im at ∷ [])
  unfolding profile_of when◌then◌else◌ word_at
  time_short_is k e h m =
      let n = simp add_assoc at (two_bytes (at + 6) im) in
      Component.time_short k (record { ends = e; inside = inside })
      (record { good = time_fits false (value_at (at + 6) 2 im) (omega arith) (omega arith) (omega arith) })

  date_long_is :
      byte_at im at % 32 ≡ 0x11 → end ≡ at + 10 → 1 ≤ byte_at im (at + 7) → byte_at im (at + 7) ≤ 12 → 1 ≤ byte_at im (at + 6) →
      byte_at im (at + 6) ≤ month_end (word_at im (at + 8)) (byte_at im (at + 7)) → word_at im (at + 8) ≤ 9999 → Component im at end (date_long_at im at ∷ [])
  unfolding profile_of when◌then◌else◌ word_at
  date_long_is k e c d a b y =
      let v = number_of (value_at (at + 6) 4 im) in
      let n = simp add_assoc at (four_bytes (at + 6) im) in
      let z = simp add_assoc at y in
      let u = simp add_assoc at b in
      let most = end_most (byte_at im (at + 8) + 256 * byte_at im (at + 9)) (byte_at im (at + 7)) in
      let year : v / 65536 ≡ byte_at im (at + 8) + 256 * byte_at im (at + 9) = omega arith in
      let month : v / 256 % 256 ≡ byte_at im (at + 7) = omega arith in
      let day : v % 256 ≡ byte_at im (at + 6) = omega arith in
      Component.date_long k (record { ends = e; inside = inside })
      (record { good = date_fits true (value_at (at + 6) 4 im) (omega arith) (omega arith) (omega arith) (omega arith) (rw (day, year, month) u) })

  date_short_is :
      byte_at im at % 32 ≡ 0x12 → end ≡ at + 9 → 1 ≤ byte_at im (at + 7) → byte_at im (at + 7) ≤ 12 → 1 ≤ byte_at im (at + 6) →
      byte_at im (at + 6) ≤ month_end (byte_at im (at + 8)) (byte_at im (at + 7)) → byte_at im (at + 8) ≤ 99 → Component im at end (date_short_at im at ∷ [])
  unfolding profile_of when◌then◌else◌
  date_short_is k e c d a b y =
      let v = number_of (value_at (at + 6) 3 im) in
      let n = simp add_assoc at (three_bytes (at + 6) im) in
      let most = end_most (byte_at im (at + 8)) (byte_at im (at + 7)) in
      let year : v / 65536 ≡ byte_at im (at + 8) = omega arith in
      let month : v / 256 % 256 ≡ byte_at im (at + 7) = omega arith in
      let day : v % 256 ≡ byte_at im (at + 6) = omega arith in
      Component.date_short k (record { ends = e; inside = inside })
      (record { good = date_fits false (value_at (at + 6) 3 im) (omega arith) (omega arith) (omega arith) (omega arith) (rw (day, year, month) b) })

  pub time_is :
      {size : ℕ} → ((size ≡ 3) × (byte_at im at % 32 ≡ 0x0f)) ⊎ ((size ≡ 2) × (byte_at im at % 32 ≡ 0x10)) → end ≡ at + 6 + size →
      byte_at im (at + 6) ≤ 23 → byte_at im (at + 7) ≤ 59 → (size ≡ 3 → byte_at im (at + 8) ≤ 59) → Held im at end size
  unfolding profile_of when◌then◌else◌
  time_is (inl z) e h m s = held im (omega arith) (time_long_is z.1 (omega arith) h m (s z.0)) refl (sym z.0)
  time_is (inr z) e h m s = held im (omega arith) (time_short_is z.1 (omega arith) h m) refl (sym z.0)

  pub date_is :
      {size year : ℕ} → ((size ≡ 4) × (byte_at im at % 32 ≡ 0x11)) ⊎ ((size ≡ 3) × (byte_at im at % 32 ≡ 0x12)) → end ≡ at + 6 + size →
      (size ≡ 4 → (year ≡ word_at im (at + 8)) × (year ≤ 9999)) → (size ≡ 3 → (year ≡ byte_at im (at + 8)) × (year ≤ 99)) →
      ((1 ≤ byte_at im (at + 7)) × (byte_at im (at + 7) ≤ 12)) × ((1 ≤ byte_at im (at + 6)) × (byte_at im (at + 6) ≤ month_end year (byte_at im (at + 7)))) →
      Held im at end size
  unfolding profile_of when◌then◌else◌
  date_is (inl z) e a b g = let y = a z.0 in held im (omega arith) (date_long_is z.1 (omega arith) g.0.0 g.0.1 g.1.0 (rw y.0 at g.1.1) (rw y.0 at y.1)) refl (sym z.0)
  date_is (inr z) e a b g = let y = b z.0 in held im (omega arith) (date_short_is z.1 (omega arith) g.0.0 g.0.1 g.1.0 (rw y.0 at g.1.1) (rw y.0 at y.1)) refl (sym z.0)

  -- ---- triggers

  pub trigger_is : byte_at im at % 32 ≡ 0x17 → end ≡ at + 4 → Component im at end (trigger_at im at ∷ [])
  trigger_is k e = Component.trigger k (record { ends = e; inside = inside })

-- ---- in the walk

module _ (im : List ℕ) {extent p end : ℕ} {v : Tally} (room : v.fields < most_fields) where
  -- a field whose bytes are claimed, and a trigger, which has none
  pub fixed_passes : {from size : ℕ} {old new : List ℕ} → Held im p end size → from ≡ word_at im (p + 4) → Claimed extent old new from size → Passes im extent p v (fielded v end) old new
  fixed_passes h e k = record {
    fields = h.field ∷ [];
    component = h.component;
    lines = refl;
    claims = Claims.one {f = h.field} room refl (rw (h.place, h.bytes, ← e) k);
  }

  pub trigger_passes : (marks : List ℕ) → Component im p end (trigger_at im p ∷ []) → Passes im extent p v (fielded v end) marks marks
  unfolding profile_of
  trigger_passes marks c = record {
    fields = trigger_at im p ∷ [];
    component = c;
    lines = refl;
    claims = Claims.one room refl (claimed_none extent marks 0 (omega arith));
  }
