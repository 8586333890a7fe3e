-- The picture that 01 prints, by computation: the image written out for it, as Open leaves sheet and session.
use Prim.Native.Nat.{ℕ}
use mathlib.Core.Path.{◌≡◌, refl}
use mathlib.Core.List.{List, [], ◌∷◌}
use Rattle.laws.specs.Choice.{when◌then◌else◌, ◌and◌}
use Rattle.laws.specs.Bytes.{word_at, room}
use Rattle.laws.specs.Overwrite.{fit}
use Rattle.laws.specs.Digits.{from_low, number_from}
use Rattle.field.specs.Profiles.{profile_of, cell_of}
use Rattle.field.specs.Values.{number_of}
use Rattle.field.specs.Cells.{cells_of, in_span, within, all_within, in_range, work_of}
use Rattle.field.specs.Settings.{kind_fits, settings_fit}
use Rattle.cmf.specs.Readers.{texts_from, item_from, text_bytes, title_by, title_at, head_by, head_at, fixed_bytes, text_count, given, kind_at, default_place, sheet_place_at, laid_out, component_by, component_at}
use Rattle.cmf.specs.Places.{lines_from, lines_of, components_from, components_of, line_from, line_at, line_count, first_editable}
use Rattle.cmf.specs.Example.{image}
use Rattle.session.specs.Session.{opened}
use Rattle.session.specs.Fits.{cursor_head}
use Rattle.texts.specs.Texts.{cells_text, field_text}
use Rattle.picture.specs.Rows.{visiting, component_text, edit_mark, line_number, more_mark, title_row, top_row_in, data_text, submenu_mark, line_row, row_at, rows_from, rows_below, picture_of}

-- a row of sixteen cells
abbrev pub printed : List ℕ
printed =
    0x54 ∷ 0x45 ∷ 0x53 ∷ 0x54 ∷ 0x20 ∷ 0x20 ∷ 0x20 ∷ 0x20 ∷ 0x20 ∷ 0x20 ∷ 0x20 ∷ 0x20 ∷ 0x3a ∷ 0x20 ∷ 0x31 ∷ 0x20 ∷  -- |TEST        : 1 |
    0x3e ∷ 0x50 ∷ 0x31 ∷ 0x20 ∷ 0x6e ∷ 0x6f ∷ 0x20 ∷ 0x20 ∷ 0x20 ∷ 0x20 ∷ 0x20 ∷ 0x20 ∷ 0x20 ∷ 0x20 ∷ 0x20 ∷ 0x20 ∷  -- |>P1 no          |
    0x20 ∷ 0x4c ∷ 0x6f ∷ 0x67 ∷ 0x20 ∷ 0x20 ∷ 0x20 ∷ 0x20 ∷ 0x20 ∷ 0x20 ∷ 0x20 ∷ 0x20 ∷ 0x20 ∷ 0x20 ∷ 0x20 ∷ 0x3e ∷  -- | Log           >|
    0x20 ∷ 0x20 ∷ 0x20 ∷ 0x20 ∷ 0x20 ∷ 0x20 ∷ 0x20 ∷ 0x20 ∷ 0x20 ∷ 0x20 ∷ 0x20 ∷ 0x20 ∷ 0x20 ∷ 0x20 ∷ 0x20 ∷ 0x20 ∷ []

pub picture_printed : picture_of image (0 ∷ []) (opened 16 4) ≡ printed
unfolding when◌then◌else◌ ◌and◌ word_at room fit from_low number_from profile_of cell_of number_of cells_of in_span within all_within in_range work_of kind_fits settings_fit texts_from item_from text_bytes title_by title_at head_by head_at fixed_bytes text_count given kind_at default_place sheet_place_at laid_out component_by component_at lines_from lines_of components_from components_of line_from line_at line_count opened cursor_head cells_text field_text visiting component_text first_editable edit_mark line_number more_mark title_row top_row_in data_text submenu_mark line_row row_at rows_from rows_below picture_of
picture_printed = refl
