-- A place is found in an index at the first entry that has it, and not where no entry has it.
use Prim.Native.Nat.{ℕ, zero, suc, ◌+◌, ◌<◌}
use mathlib.Core.Path.{◌≡◌, refl, sym, ap}
use mathlib.Core.Bool.{Bool, true, false, true≢false}
use mathlib.Core.List.{List, [], ◌∷◌, ◌++◌, map-append}
use native.Mathlib.Omega.{arith}
use native.Mathlib.Decide.{ℕ_discrete}
use lib.ListN.{length, get_or}
use Rattle.std.proofs.Common.{◌≢◌, ◌∙◌, MatchBool, HoldsAt}
use Rattle.std.specs.List.{AllWithin, range_with_len}
use Rattle.std.proofs.lemmas.List.FromFn.{length-range_with_len, get_or-range_with_len}
use borrow.Author.Tests.{eqb-true}
use Rattle.laws.specs.Bytes.{byte_at}
use Rattle.laws.specs.Choice.{when◌then◌else◌, ◌and◌, ◌=?◌, ◌<?◌}
use Rattle.laws.proofs.Cases.{if_ind, if_eq, if_ne}
use Rattle.cmf.specs.Refusals.{refusal_number}
use Rattle.cmf.specs.Readers.{item_place, component_at}
use Rattle.cmf.specs.Places.{is_in}
use Rattle.acceptance.specs.Check.{checked, refusal_of}
use Rattle.acceptance.specs.Index.{entry_at, listed, places_in, index_of}
use Rattle.acceptance.specs.declared.index.Entry.{Entry}
use Rattle.acceptance.specs.declared.progress.Progress.{Progress}
use Rattle.acceptance.proofs.Acceptance.{checked_places, index_read}
use Rattle.handset.proofs.Ordering.{first_given, next_given}
use Rattle.handset.specs.Refusals.{◌unless◌}
use Rattle.handset.specs.OptionText.{TextPlace, items_in, text_refusal, text_span, text_place, option_text}

found_left : (p : ℕ) (qs bs : List ℕ) → is_in p qs ≡ true → is_in p (qs ++ bs) ≡ true
unfolding is_in when◌then◌else◌
found_left p [] bs h = absurd (true≢false (sym h))
found_left p (q ∷ qs) bs h = go (q =? p) h (found_left p qs bs)
  where
    go : (t : Bool) → (when t then true else is_in p qs) ≡ true → (is_in p qs ≡ true → is_in p (qs ++ bs) ≡ true) → (when t then true else is_in p (qs ++ bs)) ≡ true
    go true g next = refl
    go false g next = next g

found_last : (p : ℕ) (qs : List ℕ) (q : ℕ) → q ≡ p → is_in p (qs ++ (q ∷ [])) ≡ true
unfolding is_in
found_last p [] q h = if_eq q p _ _ h
found_last p (r ∷ qs) q h = if_ind (λ (t : Bool). t ≡ true) (r =? p) (λ _. refl) (λ _. found_last p qs q h)

not_yet : (p : ℕ) (qs : List ℕ) (q : ℕ) → is_in p qs ≡ false → (q ≡ p → ⊥) → is_in p (qs ++ (q ∷ [])) ≡ false
unfolding is_in when◌then◌else◌
not_yet p [] q h n = if_ne q p _ _ n
not_yet p (r ∷ qs) q h n = go (r =? p) h (λ g. not_yet p qs q g n)
  where
    go : (t : Bool) → (when t then true else is_in p qs) ≡ false → (is_in p qs ≡ false → is_in p (qs ++ (q ∷ [])) ≡ false)
        → (when t then true else is_in p (qs ++ (q ∷ []))) ≡ false
    go true g next = absurd (true≢false g)
    go false g next = next g

-- one entry more
places_more : (xs : List ℕ) (k : ℕ) → places_in xs (suc k) ≡ places_in xs k ++ ((entry_at xs k).place.0 ∷ [])
unfolding listed
places_more xs k = map-append (λ (e : Entry). e.place.0) (listed xs k) (entry_at xs k ∷ [])

-- an entry below k that is at the place
pub found : (p : ℕ) (xs : List ℕ) (i k : ℕ) → i < k → (entry_at xs i).place.0 ≡ p → is_in p (places_in xs k) ≡ true
found p xs i zero h e = absurd (omega arith)
found p xs i (suc k) h e = rw (places_more xs k) (go (ℕ_discrete i k) (λ l. found p xs i k l e))
  where
    go : Dec (i ≡ k) → (i < k → is_in p (places_in xs k) ≡ true) → is_in p (places_in xs k ++ ((entry_at xs k).place.0 ∷ [])) ≡ true
    go (yes q) below = found_last p (places_in xs k) (entry_at xs k).place.0 (rw q at e)
    go (no q) below = found_left p (places_in xs k) ((entry_at xs k).place.0 ∷ []) (below (omega arith))

-- none of the first k is at a place
none_found : (p : ℕ) (xs : List ℕ) (k : ℕ) → ((i : ℕ) → i < k → (entry_at xs i).place.0 ≢ p) → is_in p (places_in xs k) ≡ false
unfolding is_in listed
none_found p xs zero h = refl
none_found p xs (suc k) h = rw (places_more xs k) (not_yet p (places_in xs k) (entry_at xs k).place.0 (none_found p xs k (λ i l. h i (omega arith))) (h k (omega arith)))

-- what a search of the first k answers
pub searched : (p : ℕ) (xs : List ℕ) (k : ℕ) (r : Bool) → let ks = range_with_len 0 k in
    MatchBool r ((j : ℕ) × (j < length ks) × HoldsAt (λ i. (entry_at xs i).place.0 ≡ p) ks j) (AllWithin (λ i. (entry_at xs i).place.0 ≢ p) ks 0 (length ks))
    → r ≡ is_in p (places_in xs k)
searched p xs k true h =
    let l : h.0 < k = omega (arith, h.1, length-range_with_len 0 k) in
    let e : get_or (range_with_len 0 k) h.0 0 ≡ h.0 = get_or-range_with_len 0 k h.0 0 l ∙ omega arith in
    sym (found p xs h.0 k l (rw e at (h.2 0)))
searched p xs k false h = sym (none_found p xs k (λ i l.
    let e : get_or (range_with_len 0 k) i 0 ≡ i = get_or-range_with_len 0 k i 0 l ∙ omega arith in
    rw e at (h i 0 (omega arith) (omega (arith, length-range_with_len 0 k)))))

-- the refusal by what the check came to, where it refuses nothing
pub refusal_good : (im : List ℕ) (extent place item : ℕ) (w : Progress) (xs : List ℕ) → w ≡ (checked im extent).progress → xs ≡ index_of (checked im extent).fields → refusal_number w.refusal ≡ 0
    → text_refusal im extent place item ≡ 14 unless (is_in place (places_in xs w.fields) and (item <? items_in (component_at im place).field.kind))
unfolding text_refusal refusal_of
refusal_good im extent place item w xs e f z =
    let q = index_read im extent w xs e f z in
    let p = checked_places im extent (ap (λ (u : Progress). refusal_number u.refusal) (sym e) ∙ z) in
    next_given _ _ (ap (λ (u : Progress). refusal_number u.refusal) (sym e) ∙ z) ∙ rw (sym p, ← q)

-- a bad image
pub refusal_bad : (im : List ℕ) (extent place item : ℕ) (w : Progress) → w ≡ (checked im extent).progress → (refusal_number w.refusal ≡ 0 → ⊥) → refusal_number w.refusal ≡ text_refusal im extent place item
unfolding text_refusal refusal_of
refusal_bad im extent place item w e h = rw e (sym (first_given _ _ (rw e at h)))

-- where the text of a call that is refused is, and of one that is not
pub place_none : (im : List ℕ) (extent place item : ℕ) → (text_refusal im extent place item ≡ 0 → ⊥)
    → text_place im extent place item ≡ text_span (text_refusal im extent place item) 0 0
unfolding text_place
place_none im extent place item h = if_ne _ 0 _ _ h

pub place_some : (im : List ℕ) (extent place item : ℕ) → text_refusal im extent place item ≡ 0
    → text_place im extent place item ≡ text_span 0 (item_place im place item + 1) (byte_at im (item_place im place item))
unfolding text_place
place_some im extent place item h = if_eq _ 0 _ _ h

-- its refusal is the call's
pub place_refusal : (im : List ℕ) (extent place item : ℕ) → (text_place im extent place item).refusal ≡ text_refusal im extent place item
unfolding text_place
place_refusal im extent place item =
    let k = text_refusal im extent place item in
    if_ind (λ (t : TextPlace). t.refusal ≡ k) (k =? 0) (λ e. sym (eqb-true k 0 e)) (λ _. refl)

-- a refused call returns an empty part
pub text_none : (im : List ℕ) (extent place item : ℕ) → (text_refusal im extent place item ≡ 0 → ⊥) → option_text im extent place item ≡ []
unfolding option_text
text_none im extent place item h = rw (place_none im extent place item h)
