-- The picture that 01 prints comes out of the calls: Open on any sheet of one byte, then Draw on any picture of 64.
use Prim.Native.Nat.{ℕ}
use mathlib.Core.Path.{◌≡◌, refl, sym, ◌∙◌}
use mathlib.Core.List.{List, [], ◌∷◌}
use lib.ListN.{length}
use Rattle.laws.specs.Choice.{when◌then◌else◌, ◌and◌}
use Rattle.laws.specs.Bytes.{word_at, room}
use Rattle.laws.specs.Parts.{put_at}
use Rattle.laws.specs.Overwrite.{fit}
use Rattle.laws.specs.Digits.{from_low, number_from}
use Rattle.field.specs.Profiles.{profile_of, cell_of}
use Rattle.field.specs.Values.{number_of}
use Rattle.field.specs.Cells.{cells_of, in_span, within, all_within, in_range}
use Rattle.field.specs.Settings.{kind_fits, settings_fit}
use Rattle.field.specs.Sheet.{default_written}
use Rattle.cmf.specs.Readers.{texts_from, title_by, title_at, head_by, head_at, fixed_bytes, text_count, given, kind_at, default_place, sheet_place_at, laid_out, component_by, component_at}
use Rattle.cmf.specs.Places.{lines_from, lines_of, components_from, components_of, line_from, line_at, line_count, line_reach, lines_reach, table_reach, component_places, fields_among, fields_of}
use Rattle.cmf.specs.Example.{image}
use Rattle.acceptance.specs.Check.{fine, and_then, padded, take_title, agrees, line_placed, count_line, take_line, in_sheet, apart, apart_from, take_field, take_component, on_component, on_components, on_head, on_title, on_submenu, on_body, on_line, on_lines, on_table, walked, prolog_refusal, checked, refusal_of}
use Rattle.session.specs.Session.{opened}
use Rattle.session.specs.Fits.{shape_fits, cursor_head, level_fits, levels_fit, tables_fit, mode_fits, session_fits}
use Rattle.picture.proofs.Printed.{printed, picture_printed}
use Rattle.handset.specs.Refusals.{◌before◌, ◌unless◌, session_refusal}
use Rattle.handset.specs.Open.{open_refusal, open_answer, defaults_written, open_sheet}
use Rattle.handset.specs.Draw.{draw_refusal, drawn_picture}
use Rattle.handset.proofs.Drawing.{drawn_picture_lem}

-- Open takes the image and writes the option's default
opens : open_answer image 1 16 4 ≡ record { refusal = 0; session = opened 16 4 }
unfolding open_answer open_refusal ◌before◌ ◌unless◌ when◌then◌else◌ ◌and◌ word_at room fit from_low number_from profile_of cell_of number_of cells_of in_span within all_within in_range kind_fits settings_fit texts_from title_by title_at head_by head_at fixed_bytes text_count given kind_at default_place sheet_place_at laid_out component_by component_at lines_from lines_of components_from components_of fine and_then padded take_title agrees line_placed count_line take_line in_sheet apart apart_from take_field take_component on_component on_components on_head on_title on_submenu on_body on_line on_lines on_table walked prolog_refusal checked refusal_of shape_fits
opens = refl

defaults : (b : ℕ) → open_sheet image (b ∷ []) 16 4 ≡ 0 ∷ []
unfolding open_sheet defaults_written line_reach lines_reach table_reach component_places fields_among fields_of default_written put_at open_refusal ◌before◌ ◌unless◌ when◌then◌else◌ ◌and◌ word_at room fit from_low number_from profile_of cell_of number_of cells_of in_span within all_within in_range kind_fits settings_fit texts_from title_by title_at head_by head_at fixed_bytes text_count given kind_at default_place sheet_place_at laid_out component_by component_at lines_from lines_of components_from components_of fine and_then padded take_title agrees line_placed count_line take_line in_sheet apart apart_from take_field take_component on_component on_components on_head on_title on_submenu on_body on_line on_lines on_table walked prolog_refusal checked refusal_of shape_fits
defaults b = refl

draws : draw_refusal image 1 (opened 16 4) 64 ≡ 0
unfolding draw_refusal session_refusal ◌before◌ ◌unless◌ when◌then◌else◌ ◌and◌ word_at room fit from_low number_from profile_of cell_of number_of cells_of in_span within all_within in_range kind_fits settings_fit texts_from title_by title_at head_by head_at fixed_bytes text_count given kind_at default_place sheet_place_at laid_out component_by component_at lines_from lines_of components_from components_of line_from line_at line_count fine and_then padded take_title agrees line_placed count_line take_line in_sheet apart apart_from take_field take_component on_component on_components on_head on_title on_submenu on_body on_line on_lines on_table walked prolog_refusal checked refusal_of opened shape_fits cursor_head level_fits levels_fit tables_fit mode_fits session_fits
draws = refl

pub printed_by_the_calls : (b : ℕ) (d : List ℕ) → length d ≡ 64
    → drawn_picture image (open_sheet image (b ∷ []) 16 4) (open_answer image 1 16 4).session d ≡ printed
printed_by_the_calls b d h =
    rw (defaults b, opens) (sym (drawn_picture_lem image (0 ∷ []) (opened 16 4) d 0 (rw h (sym draws)) refl) ∙ picture_printed)
