-- Every key keeps a legal working copy legal: it sets the chosen cell within its ends, or chooses a cell that exists.
use Prim.Native.Nat.{ℕ, ◌+◌, ◌-◌, ◌<◌}
use mathlib.Core.Path.{◌≡◌}
use mathlib.Core.Bool.{Bool, true, false}
use native.Mathlib.Omega.{arith}
use borrow.Author.Tests.{ltb-true, leb-true}
use Rattle.laws.specs.Choice.{when◌then◌else◌, ◌<?◌, ◌≤?◌}
use Rattle.laws.proofs.Cases.{if_ind, and_l, and_r}
use Rattle.field.specs.Profiles.{profile_of, cell_of}
use Rattle.keys.specs.Keys.{taken, next_part, with_chosen, choosing, chosen, raised, lowered, up_key, down_key, left_key, right_key, on_right, digit_key, part_after, capped, enter_key}
use Rattle.field.specs.declared.kind.Kind.{Kind}
use Rattle.field.specs.declared.profile.Cell.{Cell}
use Rattle.field.specs.declared.work.Work.{Work}
use Rattle.keys.specs.declared.press.Pressed.{Pressed}
use Rattle.keys.specs.declared.press.Outcome.{Outcome}
use Rattle.field.proofs.Legal.{Within, LegalCells, Legal, sane, Inside, own_row}
use Rattle.field.proofs.Rows.{held_chosen, set_legal, choose_legal, next_legal}
use Rattle.keys.proofs.Parts.{moves_apart, typed_apart}

-- a result with a legal working copy
record Keeps (kind : Kind) (r : Pressed) : Type 0 where
  legal : Legal kind r.work

-- a choice of results
by_if : {kind : Kind} (t : Bool) {x y : Pressed} → (t ≡ true → Keeps kind x) → (t ≡ false → Keeps kind y) → Keeps kind (when t then x else y)
by_if {kind} t p q = if_ind (λ (r : Pressed). Keeps kind r) t p q

module _ (kind : Kind) (w : Work) (h : Legal kind w) where
  -- nothing changes
  same : {o : Outcome} → Keeps kind (record { work = w; outcome = o })
  same = record { legal = h }

  -- another cell is chosen, of a kind without parts
  chosen_keeps : {o : Outcome} (i : ℕ) → (profile_of kind).parts ≡ false → i < (profile_of kind).cells → Keeps kind (record { work = choosing w i; outcome = o })
  chosen_keeps i p hi = record { legal = record { at = hi; cells = choose_legal kind w i p h.cells } }

  -- the chosen cell is set
  set_keeps : (x : ℕ) → Within (cell_of kind w.cells w.at) x → Keeps kind (taken (with_chosen w x))
  set_keeps x hx = record { legal = record { at = h.at; cells = set_legal kind w x h.cells h.at hx } }

  -- the chosen cell is within its ends
  here : Within (cell_of kind w.cells w.at) (chosen w)
  here = rw (held_chosen kind w) at (h.cells.within w.at h.at)

  -- the cell on the left exists, or the first
  before : w.at - 1 < (profile_of kind).cells
  before = omega (arith, h.at)

  -- the cell on the right exists
  next : (w.at + 1) <? (profile_of kind).cells ≡ true → w.at + 1 < (profile_of kind).cells
  next e = ltb-true (w.at + 1) (profile_of kind).cells e

  -- the cell that a digit key goes to exists
  right_exists : on_right (profile_of kind) w < (profile_of kind).cells
  unfolding on_right
  right_exists = if_ind (λ (i : ℕ). i < (profile_of kind).cells) _ next (λ e. h.at)

  module _ (c : Cell) (n : Inside (cell_of kind w.cells w.at) c) where
    -- a step up
    raised_keeps : Keeps kind (raised c w)
    unfolding raised
    raised_keeps = by_if _ set (λ e. by_if _ step (λ q. same))
      where
        set : c.sets ≡ true → Keeps kind (taken (with_chosen w c.high))
        set e = set_keeps c.high (record { low = omega (arith, n.low, n.sets e); high = n.high })

        step : (chosen w + c.step) ≤? c.high ≡ true → Keeps kind (taken (with_chosen w (chosen w + c.step)))
        step e =
            let l = leb-true (chosen w + c.step) c.high e in
            set_keeps (chosen w + c.step) (record { low = omega (arith, here.low); high = omega (arith, n.high) })

    -- a step down
    lowered_keeps : Keeps kind (lowered c w)
    unfolding lowered
    lowered_keeps = by_if _ set (λ e. by_if _ step (λ q. same))
      where
        set : c.sets ≡ true → Keeps kind (taken (with_chosen w c.low))
        set e = set_keeps c.low (record { low = n.low; high = omega (arith, n.high, n.sets e) })

        step : (c.low + c.step) ≤? chosen w ≡ true → Keeps kind (taken (with_chosen w (chosen w - c.step)))
        step e =
            let l = leb-true (c.low + c.step) (chosen w) e in
            set_keeps (chosen w - c.step) (record { low = omega (arith, n.low); high = omega (arith, here.high) })

    -- a step up by any row inside the table's
    pub raised_legal : Legal kind (raised c w).work
    raised_legal = raised_keeps.legal

    -- a step down
    pub lowered_legal : Legal kind (lowered c w).work
    lowered_legal = lowered_keeps.legal

  -- UP
  pub up_legal : Legal kind (up_key (profile_of kind) (cell_of kind w.cells w.at) w).work
  unfolding up_key
  up_legal = (by_if _ (λ e. same) (λ e. by_if _ (λ e. same) (λ e. raised_keeps _ (own_row kind w.cells w.at)))).legal

  -- DOWN
  pub down_legal : Legal kind (down_key (profile_of kind) (cell_of kind w.cells w.at) w).work
  unfolding down_key
  down_legal = (by_if _ (λ e. same) (λ e. by_if _ (λ e. same) (λ e. lowered_keeps _ (own_row kind w.cells w.at)))).legal

  -- LEFT
  pub left_legal : Legal kind (left_key (profile_of kind) (cell_of kind w.cells w.at) w).work
  unfolding left_key
  left_legal =
      (by_if _ (λ e. same)
      (λ e. by_if _ (λ m. by_if _ (λ e. chosen_keeps (w.at - 1) (moves_apart kind m) before) (λ e. same))
      (λ m. by_if _ (λ e. lowered_keeps _ (own_row kind w.cells w.at)) (λ e. same)))).legal

  -- RIGHT
  pub right_legal : Legal kind (right_key (profile_of kind) (cell_of kind w.cells w.at) w).work
  unfolding right_key
  right_legal =
      (by_if _ (λ e. same)
      (λ e. by_if _ (λ m. by_if _ (λ e. chosen_keeps (w.at + 1) (moves_apart kind m) (next e)) (λ e. same))
      (λ m. by_if _ (λ e. raised_keeps _ (own_row kind w.cells w.at)) (λ e. same)))).legal

  -- a digit key
  pub digit_legal : (d : ℕ) → d < 10 → Legal kind (digit_key (profile_of kind) (cell_of kind w.cells w.at) w d).work
  unfolding digit_key
  digit_legal d hd = (by_if _ typed (λ t. same)).legal
    where
      typed : (cell_of kind w.cells w.at).typed ≡ true → Keeps kind (taken (choosing (with_chosen w d) (on_right (profile_of kind) w)))
      typed t =
          let s = (sane kind w.cells w.at).typed t in
          let d : LegalCells kind (with_chosen w d) =
          set_legal kind w d h.cells h.at (record { low = omega (arith, s.0); high = omega (arith, s.1) }) in
          record { legal = record { at = right_exists; cells = choose_legal kind (with_chosen w _) _ (typed_apart kind w.cells w.at t).1 d } }

  -- ENTER to the next part
  next_keeps : part_after (profile_of kind) w ≡ true → Keeps kind (next_part (capped kind (choosing w (w.at + 1))))
  unfolding part_after capped
  next_keeps p =
      let l = next (and_r _ _ p) in
      record { legal = record { at = l; cells = next_legal kind w h.cells (and_l _ _ p) l } }

  -- ENTER
  pub enter_legal : Legal kind (enter_key kind w).work
  unfolding enter_key
  enter_legal = (by_if _ (λ e. same) (λ e. by_if _ next_keeps (λ p. by_if _ (λ q. same) (λ q. same)))).legal
