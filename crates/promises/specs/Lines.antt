-- What the rules read of a line is what the grammar has there. The rules ask the readers of `cmf`
-- (`Readers`), and the grammar has offsets and bits of its own (`Grammar`, `Layouts`): on the cursor lines of
-- a session that fits, in a well-formed image, they say the same. Every clause is a theorem.
use Rattle.std.specs.Prelude.{ℕ, ◌≡◌, true, take}
use mathlib.Core.List.{List, [], ◌∷◌, ◌++◌, Memᴰ}
use Rattle.laws.specs.Choice.{when◌then◌else◌, ◌=?◌}
use Rattle.cmf.specs.Layouts.{Component, code, edit_bit, last_bit}
use Rattle.cmf.specs.Grammar.{is_last, has_submenu, has_password, next_line, submenu_table, password_at}
use Rattle.cmf.specs.Grammar.{Password}
use Rattle.cmf.specs.Readers.{even_from, head_at, component_at}
use Rattle.cmf.specs.Places.{components_of, held_by}
use Rattle.session.specs.Fits.{cursor_line}
use Rattle.session.specs.declared.session.Level.{Level}
use Rattle.session.specs.declared.session.Session.{Session}

-- the head of the line at p
pub record HeadAgrees (im : List ℕ) (p : ℕ) : Type 0 where
  -- 7.4: whether it is the last of its table, and where the next one is
  pub last : (head_at im p).last ≡ (is_last im p =? 1)
  pub next : (head_at im p).next.0 ≡ next_line im p
  -- 7.4: whether it has a submenu, and which table that is
  pub submenu : (head_at im p).submenu ≡ (has_submenu im p =? 1)
  pub table : (head_at im p).table.0 ≡ submenu_table im p
  -- 7.4: whether that is protected, and where its digits are, which are good ones
  pub protected : (head_at im p).protected ≡ (has_password im p =? 1)
  pub password : (head_at im p).password.0 ≡ password_at im p
  pub good : Password im p (head_at im p).end
  -- 7.2: the first component is at the first even place from the head's end on
  pub component : (head_at im p).component.0 ≡ even_from (head_at im p).end

-- the component at c
pub record ComponentAgrees (im : List ℕ) (c : ℕ) : Type 0 where
  -- 7.5: it is one, and which field it is, if any
  pub is : Component im c (component_at im c).end (held_by (component_at im c))
  -- 7.2: the next one is at the first even place from its end on
  pub next : (component_at im c).next.0 ≡ even_from (component_at im c).end
  -- 7.5: whether it is the last of its line
  pub last : (component_at im c).last ≡ (last_bit im c =? 1)
  -- 7.5, 01, Fields: whether it is editable: by its bit, and a trigger always
  pub editable : (component_at im c).editable ≡ (when code im c =? 0x17 then true else edit_bit im c =? 1)

-- a line: its head, and each of its components
pub record LineAgrees (im : List ℕ) (p : ℕ) : Type 0 where
  pub head : HeadAgrees im p
  pub components : (c : ℕ) → Memᴰ c (components_of im p) → ComponentAgrees im c

-- the cursor line of each open table, those above the shown one and that one
pub record CursorsAgree (im : List ℕ) (s : Session) : Type 0 where
  pub lines : (l : Level) → Memᴰ l (take s.outer s.above ++ (s.here ∷ []))
      → LineAgrees im (cursor_line im l)
