-- The edit cursor: cells counted up to where no display reaches, and one turn of the loop over a line's components.
use Prim.Native.Nat.{ℕ, zero, suc, ◌+◌, ◌-◌, ◌≤◌, ◌<◌, min}
use mathlib.Core.Path.{◌≡◌, ap, ◌∙◌}
use mathlib.Core.Bool.{Bool, true, false}
use mathlib.Core.List.{List, []}
use native.Mathlib.Omega.{arith}
use Rattle.laws.specs.Choice.{when◌then◌else◌, ◌=?◌}
use Rattle.laws.proofs.Cases.{if_true, if_false, if_eq, if_ne, if_max}
use Rattle.cmf.specs.Readers.{component_at}
use Rattle.cmf.specs.Places.{components_from, components_of}
use Rattle.cmf.specs.declared.component.Component.{Component}
use Rattle.session.specs.Fits.{cursor_line}
use Rattle.session.specs.declared.session.Session.{Session}
use Rattle.texts.specs.Texts.{year_cells}
use Rattle.picture.specs.Cursor.{date_part, cell_within, width_at, cells_before, data_cell}

module _ (im : List ℕ) (place : ℕ) where
  pub before_here : (left p sum : ℕ) → 0 < left → p ≡ place → sum ≤ 255 → sum ≡ min 255 (sum + cells_before im place (components_from im left p))
  unfolding cells_before components_from
  before_here zero p sum h e l = absurd (omega arith)
  before_here (suc n) p sum h e l = rw (if_eq p place 0 (width_at im p (component_at im p) + cells_before im place (when (component_at im p).last then [] else components_from im n (component_at im p).next.0)) e) (omega arith)

  before_one : (left p : ℕ) (c : Component) → 0 < left → (p ≡ place → ⊥) → c ≡ component_at im p
      → cells_before im place (components_from im left p)
      ≡ width_at im p c + cells_before im place (when c.last then [] else components_from im (left - 1) c.next.0)
  unfolding cells_before components_from
  before_one zero p c h n e = absurd (omega arith)
  before_one (suc k) p c h n e = let z : suc k - 1 ≡ k = omega arith in if_ne p place _ _ n ∙ rw (z, e)

  pub before_last : (left p sum w r : ℕ) (c : Component) → 0 < left → (p ≡ place → ⊥) → c ≡ component_at im p → w ≡ width_at im p c → r ≡ min 255 (sum + w)
      → c.last ≡ true → r ≡ min 255 (sum + cells_before im place (components_from im left p))
  unfolding cells_before
  before_last left p sum w r c h n e f g l =
      let o = before_one left p c h n e ∙ ap (λ (ps : List ℕ). width_at im p c + cells_before im place ps) (if_true _ _ l) in
      omega arith

  pub before_next : (left p sum w r : ℕ) (c : Component) → 0 < left → (p ≡ place → ⊥) → c ≡ component_at im p → w ≡ width_at im p c → r ≡ min 255 (sum + w)
      → c.last ≡ false → min 255 (r + cells_before im place (components_from im (left - 1) c.next.0)) ≡ min 255 (sum + cells_before im place (components_from im left p))
  before_next left p sum w r c h n e f g l =
      let o = before_one left p c h n e ∙ ap (λ (ps : List ℕ). width_at im p c + cells_before im place ps) (if_false _ _ l) in
      omega arith

  pub before_done : (left p sum : ℕ) → left ≤ 0 → sum ≤ 255 → sum ≡ min 255 (sum + cells_before im place (components_from im left p))
  unfolding cells_before components_from
  before_done left p sum h l = let z : left ≡ 0 = omega arith in rw z (omega arith)

-- ---- the data cell

pub year_short : (long : Bool) → year_cells long ≤ 4
unfolding year_cells
year_short long = if_max long (omega arith) (omega arith)

pub part_near : (year i : ℕ) → year ≤ 4 → i < 256 → date_part year i ≤ 1023
unfolding date_part
part_near year i h k = if_max (i =? 0) (omega arith) (omega arith)

-- what is counted is enough: the last data cell lies before the end of counting
pub data_near : (im : List ℕ) (s : Session) (p : ℕ) (c : Component) (line before cell last r : ℕ) → s.columns ≤ 255 → line ≡ cursor_line im s.here
    → before ≡ min 255 (cells_before im p (components_of im line)) → c ≡ component_at im p → cell ≡ cell_within c.field.kind s.work.at → last ≡ s.columns - 3
    → r ≡ min (before + cell) last → r ≡ data_cell im s p
unfolding data_cell
data_near im s p c line before cell last r w a b e f g h =
    let o : before ≡ min 255 (cells_before im p (components_of im (cursor_line im s.here))) = b ∙ rw a in
    let i : cell ≡ cell_within (component_at im p).field.kind s.work.at = f ∙ rw e in
    omega arith
