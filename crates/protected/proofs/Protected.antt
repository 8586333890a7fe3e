-- A protected line opens its submenu only after its own digits. Over a list of events: while an entry is open the events end with it, on the line shown,
-- with the digits that the session keeps, and each protected line left above was opened by its digits; each of the six moves keeps both.
use Prim.Native.Nat.{ℕ, suc, ◌<◌}
use mathlib.Core.Path.{◌≡◌, refl, sym, ap, ◌∙◌}
use mathlib.Core.Bool.{true, false, false≢true}
use mathlib.Core.List.{List, [], ◌∷◌, ◌++◌, append_assoc, append-nil}
use native.Mathlib.Omega.{arith}
use native.Mathlib.Decide.{ℕ_discrete}
use lib.ListN.{length, get_or, set, take, length-set}
use lib.Seq.{take-suc-set, get_or-set_same, get_or-set_other}
use Rattle.laws.specs.Choice.{◌=?◌}
use Rattle.laws.proofs.Cases.{if_ind}
use Rattle.cmf.specs.Readers.{text_bytes}
use Rattle.session.specs.Session.{no_level, opened, closed}
use Rattle.session.specs.Events.{right}
use Rattle.session.specs.Fits.{cursor_head}
use Rattle.session.specs.declared.session.Level.{Level}
use Rattle.session.specs.declared.session.Mode.TheVariants as mode
use Rattle.session.specs.declared.session.Session.{Session}
use Rattle.session.specs.declared.answer.Answer.TheVariants as answer
use Rattle.session.specs.declared.answer.Stepped.{Stepped}
use Rattle.handset.specs.Open.{open_refusal, open_answer}
use Rattle.handset.specs.Event.{event_step}
use Rattle.journal.specs.Journal.{answered}
use Rattle.journal.specs.Sitting.{Sitting, begun_with, next, answer_to, played, answered_in}
use Rattle.protected.specs.Protected.{entry_more, entry_from, as_digits, entry_open, InEntry, StaysInEntry, EndsWithEntry, OpenedByDigits, StaysBelow, Unlocked}
use Rattle.protected.proofs.Moves.{right_begins, digit_typed, Kept, Deeper, Digit, Move, event_moves}

-- ---- lists of events

module _ (im : List ℕ) where
  -- an event more at the end
  played_more : (t : Sitting) (es : List ℕ) (e : ℕ) → played im t (es ++ (e ∷ [])) ≡ next im (played im t es) e
  unfolding played
  played_more t [] e = refl
  played_more t (d ∷ es) e = played_more (next im t d) es e

  -- and the keys of the entry with it
  keys_more : (ks : List ℕ) (t : Sitting) (es : List ℕ) (e : ℕ)
      → entry_from ks (answered_in im t (es ++ (e ∷ []))) ≡ entry_more (entry_from ks (answered_in im t es)) (answered e (answer_to im (played im t es) e))
  unfolding played answered_in entry_from
  keys_more ks t [] e = refl
  keys_more ks t (d ∷ es) e = keys_more (entry_more ks (answered d (answer_to im t d))) (next im t d) es e

  -- two lists, one after the other
  played_join : (t : Sitting) (es ds : List ℕ) → played im t (es ++ ds) ≡ played im (played im t es) ds
  unfolding played
  played_join t [] ds = refl
  played_join t (e ∷ es) ds = played_join (next im t e) es ds

  -- below level k still
  stays_more : (k : ℕ) (t : Sitting) (es : List ℕ) (e : ℕ) → StaysBelow im k t es → k < (played im t (es ++ (e ∷ []))).session.outer
      → StaysBelow im k t (es ++ (e ∷ []))
  unfolding played
  stays_more k t [] e h l = (h, l)
  stays_more k t (d ∷ es) e h l = (h.0, stays_more k (next im t d) es e h.1 l)

  -- what was unlocked stays so
  unlocked_more : {t : Sitting} {es : List ℕ} {k : ℕ} {l : Level} (e : ℕ) → k < (played im t (es ++ (e ∷ []))).session.outer → Unlocked im t es k l
      → Unlocked im t (es ++ (e ∷ [])) k l
  unfolding played
  unlocked_more {t} {es} {k} e h u = record {
    before = u.before;
    opener = u.opener;
    rest = u.rest ++ (e ∷ []);
    all = longer;
    opened = u.opened;
    stays =
        stays_more k (next im (played im t u.before) u.opener) u.rest e u.stays
        (rw (← played_join t u.before (u.opener ∷ (u.rest ++ (e ∷ []))), ← longer) h);
  }
    where
      longer : es ++ (e ∷ []) ≡ u.before ++ (u.opener ∷ (u.rest ++ (e ∷ [])))
      longer = ap (λ (x : List ℕ). x ++ (e ∷ [])) u.all ∙ append_assoc u.before (u.opener ∷ u.rest) (e ∷ [])

  -- in the entry still
  entry_stays : {k : ℕ} {l : Level} (t : Sitting) (es : List ℕ) (e : ℕ) → StaysInEntry im k l t es → InEntry k l (played im t es).session
      → StaysInEntry im k l t (es ++ (e ∷ []))
  unfolding played
  entry_stays t [] e h i = (i, tt)
  entry_stays t (d ∷ es) e h i = (h.0, entry_stays (next im t d) es e h.1 i)

  -- RIGHT begins an entry on the line shown
  entry_begins : (t : Sitting) (es : List ℕ) (e : ℕ) → e ≡ right → answer_to im (played im t es) e ≡ answer.Taken
      → EndsWithEntry im t (es ++ (e ∷ [])) (played im t es).session.outer (played im t es).session.here []
  unfolding answered_in entry_from
  entry_begins t es e f a = record {
    earlier = es;
    keys = [];
    all = rw f;
    line = refl;
    depth = refl;
    stays = tt;
    typed = let b : answer_to im (played im t es) right ≡ answer.Taken = rw f at a in rw b (right_begins [] right refl);
  }

  -- an event in an open entry
  entry_goes_on : {t : Sitting} {es : List ℕ} {k : ℕ} {l : Level} {ds : List ℕ} (e : ℕ) (later : List ℕ) → EndsWithEntry im t es k l ds
      → InEntry k l (played im t es).session → entry_more (right ∷ ds) (answered e (answer_to im (played im t es) e)) ≡ right ∷ later
      → EndsWithEntry im t (es ++ (e ∷ [])) k l later
  unfolding played
  entry_goes_on {t} {es} e later u i q = record {
    earlier = u.earlier;
    keys = u.keys ++ (e ∷ []);
    all = ap (λ (x : List ℕ). x ++ (e ∷ [])) u.all ∙ append_assoc u.earlier (right ∷ u.keys) (e ∷ []);
    line = u.line;
    depth = u.depth;
    stays = entry_stays (next im (played im t u.earlier) right) u.keys e u.stays (rw now i);
    typed = keys_more [] (played im t u.earlier) (right ∷ u.keys) e ∙ rw (u.typed, now) q;
  }
    where
      now : played im (played im t u.earlier) (right ∷ u.keys) ≡ played im t es
      now = sym (played_join t u.earlier (right ∷ u.keys)) ∙ ap (played im t) (sym u.all)

-- what holds after the events es, which led from t to the session s
record Holds (im : List ℕ) (t : Sitting) (es : List ℕ) (s : Session) : Type 0 where
  typed : length s.typed ≡ 8
  above : length s.above ≡ 7
  -- while an entry is open the events end with it, with the digits that the session keeps
  entry : (n : ℕ) → s.mode ≡ mode.Password n → EndsWithEntry im t es s.outer s.here (take n s.typed)
  -- each protected line that is left above was opened by its digits
  chain : (k : ℕ) → k < s.outer → (cursor_head im (get_or s.above k no_level)).protected ≡ true → Unlocked im t es k (get_or s.above k no_level)

module _ (im : List ℕ) (t : Sitting) (es : List ℕ) (h : Holds im t es (played im t es).session) (e : ℕ) where
  abbrev s : Session
  s = (played im t es).session

  abbrev r : Stepped
  r = event_step im (played im t es).sheet s e

  abbrev all : List ℕ
  all = es ++ (e ∷ [])

  -- the session after the event
  stepped : (played im t all).session ≡ r.session
  unfolding next
  stepped = ap (λ (z : Sitting). z.session) (played_more im t es e)

  -- an entry is open
  in_entry : (n : ℕ) → s.mode ≡ mode.Password n → InEntry s.outer s.here s
  in_entry n m = record { here = refl; outer = refl; mode = ap entry_open m }

  -- what is left out leaves the entry as it is
  passed : ((ks : List ℕ) → entry_more ks (answered e r.answer) ≡ ks) → (n : ℕ) → s.mode ≡ mode.Password n
      → EndsWithEntry im t all s.outer s.here (take n s.typed)
  unfolding answer_to
  passed u n m = entry_goes_on im e _ (h.entry n m) (in_entry n m) (u (right ∷ take n s.typed))

  -- a digit more is typed as the session keeps it
  digit_kept : (n : ℕ) → Digit s e r n → EndsWithEntry im t all s.outer s.here (take (suc n) (set s.typed n e))
  unfolding answer_to
  digit_kept n d =
      let few : n < length s.typed = omega (arith, h.typed, d.few) in
      entry_goes_on im e _ (h.entry n d.mode) (in_entry n d.mode)
      (rw (d.taken, take-suc-set s.typed n e few) (digit_typed (right ∷ take n s.typed) e d.key))

  -- the line that was opened by the event, and the level that went above
  opened_by : (n : ℕ) → Digit s e r n → as_digits (take (suc n) (set s.typed n e)) ≡ text_bytes im (cursor_head im s.here).password.0
      → r.session.here.table.0 ≡ (cursor_head im s.here).table.0 → Deeper s r.session → OpenedByDigits im t es e s.outer s.here
  unfolding next answer_to
  opened_by n d ds b c = record {
    digits = take (suc n) (set s.typed n e);
    entry = digit_kept n d;
    password = ds;
    last = d.key;
    taken = d.taken;
    shown = b;
    deep = c.outer;
    level =
        let room : s.outer < length s.above = omega (arith, h.above, c.room) in
        rw c.above (get_or-set_same s.above s.outer s.here no_level room);
  }

  unlocked_now : OpenedByDigits im t es e s.outer s.here → Unlocked im t all s.outer s.here
  unlocked_now o = record { before = es; opener = e; rest = []; all = refl; opened = o; stays = omega (arith, o.deep) }

  -- no entry is open, so nothing is asked of the keys
  no_entry : entry_open r.session.mode ≡ false → (n : ℕ) → r.session.mode ≡ mode.Password n
      → EndsWithEntry im t all r.session.outer r.session.here (take n r.session.typed)
  no_entry q n m = absurd (false≢true (sym q ∙ ap entry_open m))

  -- an entry has one number of digits
  same_count : (n m : ℕ) → r.session.mode ≡ mode.Password n → r.session.mode ≡ mode.Password m → m ≡ n
  same_count n m p q = cc

  -- the lines above, where none is added
  chain_kept : Kept s r.session → (k : ℕ) → k < r.session.outer → (cursor_head im (get_or r.session.above k no_level)).protected ≡ true
      → Unlocked im t all k (get_or r.session.above k no_level)
  chain_kept c k l p = rw c.above (unlocked_more im e (rw stepped l) (h.chain k (omega (arith, c.outer)) (rw c.above at p)))

  -- and where the shown one is
  chain_deeper : Deeper s r.session → ((cursor_head im s.here).protected ≡ true → OpenedByDigits im t es e s.outer s.here) → (k : ℕ)
      → k < r.session.outer → (cursor_head im (get_or r.session.above k no_level)).protected ≡ true
      → Unlocked im t all k (get_or r.session.above k no_level)
  chain_deeper d u k l p = go (ℕ_discrete k s.outer)
    where
      go : Dec (k ≡ s.outer) → Unlocked im t all k (get_or r.session.above k no_level)
      go (yes q) =
          let room : s.outer < length s.above = omega (arith, h.above, d.room) in
          let f : get_or r.session.above k no_level ≡ s.here = rw (d.above, q) (get_or-set_same s.above s.outer s.here no_level room) in
          rw (f, q) (unlocked_now (u (rw f at p)))
      go (no q) =
          let f : get_or r.session.above k no_level ≡ get_or s.above k no_level = rw d.above (get_or-set_other s.above s.outer k s.here no_level q) in
          rw f (unlocked_more im e (rw stepped l) (h.chain k (omega (arith, d.outer)) (rw f at p)))

  -- each move keeps what holds
  step : Move im s e r → Holds im t all r.session
  unfolding answer_to
  step (Move.rests m c) = record { typed = c.typed ∙ h.typed; above = ap length c.above ∙ h.above; entry = no_entry m; chain = chain_kept c }
  step (Move.begins f a m c) = record {
    typed = c.kept.typed ∙ h.typed;
    above = ap length c.kept.above ∙ h.above;
    entry = λ n j. rw (same_count 0 n m j, c.here, c.outer) (entry_begins im t es e f a);
    chain = chain_kept c.kept;
  }
  step (Move.passes u m f c) = record {
    typed = c.kept.typed ∙ h.typed;
    above = ap length c.kept.above ∙ h.above;
    entry = λ n j. rw (f, c.here, c.outer) (passed u n (sym m ∙ j));
    chain = chain_kept c.kept;
  }
  step (Move.types n d m c) = record {
    typed = c.kept.typed ∙ h.typed;
    above = ap length c.kept.above ∙ h.above;
    entry = λ k j. rw (same_count (suc n) k m j, d.typed, c.here, c.outer) (digit_kept n d);
    chain = chain_kept c.kept;
  }
  step (Move.enters f m c) = record {
    typed = c.typed ∙ h.typed;
    above = ap length c.above ∙ length-set s.above s.outer s.here ∙ h.above;
    entry = no_entry m;
    chain = chain_deeper c (λ g. absurd (false≢true (sym f ∙ g)));
  }
  step (Move.unlocks n d m c ds b) = record {
    typed = c.typed ∙ h.typed;
    above = ap length c.above ∙ length-set s.above s.outer s.here ∙ h.above;
    entry = no_entry m;
    chain = chain_deeper c (λ g. opened_by n d ds b c);
  }

  -- a step that goes down on a protected line is the last digit of its password
  down_by_digits : Move im s e r → (cursor_head im s.here).protected ≡ true → s.outer < r.session.outer
      → OpenedByDigits im t es e s.outer s.here
  down_by_digits (Move.rests m c) g l = absurd (omega (arith, c.outer))
  down_by_digits (Move.begins f a m c) g l = absurd (omega (arith, c.outer))
  down_by_digits (Move.passes u m f c) g l = absurd (omega (arith, c.outer))
  down_by_digits (Move.types n d m c) g l = absurd (omega (arith, c.outer))
  down_by_digits (Move.enters f m c) g l = absurd (false≢true (sym f ∙ g))
  down_by_digits (Move.unlocks n d m c ds b) g l = opened_by n d ds b c

-- ---- whole sittings

module _ (im sheet : List ℕ) (columns lines : ℕ) where
  abbrev start : Sitting
  start = begun_with im sheet columns lines

  abbrev after : List ℕ → Sitting
  after es = played im start es

  abbrev HoldsAfter : List ℕ → Type 0
  HoldsAfter es = Holds im start es (after es).session

  -- Open's session has no entry open and no level above, and so has a closed one
  opened_holds : (c l : ℕ) → Holds im start [] (opened c l)
  unfolding opened
  opened_holds c l = record {
    typed = refl;
    above = refl;
    entry = λ n m. absurd (false≢true (ap entry_open m));
    chain = λ k h p. absurd (omega arith);
  }

  start_holds : HoldsAfter []
  unfolding begun_with open_answer played closed
  start_holds =
      if_ind (λ (s : Session). Holds im start [] s) (open_refusal im (length sheet) columns lines =? 0) (λ _. opened_holds columns lines)
      (λ _. opened_holds 0 0)

  -- an event more
  module _ (es : List ℕ) (e : ℕ) (h : HoldsAfter es) where
    move : Move im (after es).session e (event_step im (after es).sheet (after es).session e)
    move = event_moves im (after es).sheet (after es).session e h.typed

    holds_more : HoldsAfter (es ++ (e ∷ []))
    holds_more = rw (stepped im start es h e) (step im start es h e move)

    goes_down : (cursor_head im (after es).session.here).protected ≡ true → (after es).session.outer < (next im (after es) e).session.outer
        → OpenedByDigits im start es e (after es).session.outer (after es).session.here
    unfolding next
    goes_down g l = down_by_digits im start es h e move g l

  -- and so a list of events more
  holds_from : (es ds : List ℕ) → HoldsAfter es → HoldsAfter (es ++ ds)
  holds_from es [] h = rw append-nil h
  holds_from es (d ∷ ds) h = rw append_assoc at (holds_from (es ++ (d ∷ [])) ds (holds_more es d h))

  holds : (es : List ℕ) → HoldsAfter es
  holds es = holds_from [] es start_holds

  -- 01, Keys, password: a protected line opens its submenu only after its own digits
  pub only_after_its_digits : (es : List ℕ) (e : ℕ) → (cursor_head im (after es).session.here).protected ≡ true
      → (after es).session.outer < (next im (after es) e).session.outer
      → OpenedByDigits im start es e (after es).session.outer (after es).session.here
  only_after_its_digits es e g l = goes_down es e (holds es) g l

  -- so each protected line above the shown table was opened by its digits: none of what is below it is shown without them
  pub every_protected_line_was_opened_by_its_digits : (es : List ℕ) (k : ℕ) → k < (after es).session.outer
      → (cursor_head im (get_or (after es).session.above k no_level)).protected ≡ true → Unlocked im start es k (get_or (after es).session.above k no_level)
  every_protected_line_was_opened_by_its_digits es k l g = (holds es).chain k l g
