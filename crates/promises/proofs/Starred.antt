-- 01's starred cases come out as listed, by computation; and so do some that it does not star.
use mathlib.Core.Path.{refl}
use mathlib.Core.List.{List, [], ◌∷◌}
use Rattle.laws.specs.Choice.{when◌then◌else◌, ◌and◌}
use Rattle.laws.specs.Bytes.{word_at, room}
use Rattle.laws.specs.Parts.{put_at}
use Rattle.laws.specs.Overwrite.{fit}
use Rattle.laws.specs.Digits.{digits_of, number_from, low_first, from_low}
use Rattle.field.specs.Formats.{format_of, signs_of, digits_in, base_of, limit_of, half_of, top_of}
use Rattle.field.specs.Profiles.{profile_of, cell_of, open_day, held_to}
use Rattle.field.specs.Values.{number_of, value_from}
use Rattle.field.specs.Cells.{spans, distance, in_digits, shown_by, minus, storable, of_digits, cells_of, stored_in, in_span, stores, within, all_within, legal, in_range, work_of, started, finished}
use Rattle.field.specs.Settings.{digit_count, counted_cells, step_fits, width_fits, kind_fits, settings_fit}
use Rattle.field.specs.Sheet.{default_written, begun, finished_in}
use Rattle.keys.specs.Keys as key
use Rattle.cmf.specs.Readers.{image_of, texts_from, all_digits, password_fits, title_by, title_at, head_by, head_at, fixed_bytes, text_count, given, kind_at, default_place, sheet_place_at, laid_out, component_by, component_at}
use Rattle.cmf.specs.Places.{lines_from, lines_of, components_from, components_of, line_from, line_at, line_count, first_editable, next_editable, line_reach, lines_reach, table_reach, component_places, fields_among, fields_of, is_in}
use Rattle.acceptance.specs.Check.{fine, and_then, padded, take_title, agrees, line_placed, count_line, take_line, in_sheet, apart_from, take_field, take_component, on_component, on_components, on_head, on_title, on_submenu, on_body, on_line, on_lines, on_table, walked, prolog_refusal, checked, refusal_of}
use Rattle.session.specs.Session.{opened, closed}
use Rattle.session.specs.Fits.{shape_fits, cursor_head, level_fits, levels_fit, tables_fit, work_fits, visit_fits, digits_to, entry_fits, mode_fits, session_fits}
use Rattle.session.specs.Events.{up, down, left, right, second}
use Rattle.session.specs.Answers.{answer_number}
use Rattle.session.specs.Seconds.{later, delay_over, browse_second}
use Rattle.session.specs.Browsing.{first_for, up_step, down_step, left_step, descended, right_step, enter_at, enter_step, browse_step}
use Rattle.session.specs.Passwords.{right_to, last_digit, digit_step, entry_step}
use Rattle.session.specs.Visits.{pressed, moved_to, moved_on, followed, followed_sheet, visit_step, visit_sheet}
use Rattle.session.specs.Step.{step_in, sheet_in}
use Rattle.handset.specs.Refusals.{◌before◌, ◌unless◌, session_refusal}
use Rattle.handset.specs.Open.{open_refusal, open_answer, defaults_written, open_sheet}
use Rattle.handset.specs.Event.{event_refusal, event_step, event_sheet}
use Rattle.journal.specs.Sitting.{begun_with, next, answer_to, played, answered_in}
use Rattle.promises.specs.Examples.{pictured, returning, protecting}
use Rattle.promises.specs.Starred.{Seen, Case, AsListed, taken, flash, case, starred}

-- some that it does not star: a refusal 10, seconds, and a protected line
unfoldable further : List Case
further =
    -- the picture's image with a sheet that has no room for the option: 10
    case pictured [] [] (Seen.refused 10 closed [])
    -- a key between starts the count anew, though it flashes: no three seconds in a row, and then three
    ∷ case returning (7 ∷ []) (down ∷ right ∷ second ∷ second ∷ up ∷ second ∷ second ∷ [])
    (Seen.gives (taken ∷ taken ∷ taken ∷ taken ∷ flash ∷ taken ∷ taken ∷ []) (7 ∷ []) 27 0)
    ∷ case returning (7 ∷ []) (down ∷ right ∷ second ∷ second ∷ up ∷ second ∷ second ∷ second ∷ [])
    (Seen.gives (taken ∷ taken ∷ taken ∷ taken ∷ flash ∷ taken ∷ taken ∷ taken ∷ []) (7 ∷ []) 10 0)
    -- a submenu protected by 12: the right digits open it, at 23
    ∷ case protecting (7 ∷ []) (right ∷ 1 ∷ 2 ∷ []) (Seen.gives (taken ∷ taken ∷ taken ∷ []) (7 ∷ []) 23 0)
    -- with a wrong one the last digit flashes and the entry is over, so that the next digit flashes too
    ∷ case protecting (7 ∷ []) (right ∷ 2 ∷ 2 ∷ 1 ∷ []) (Seen.gives (taken ∷ taken ∷ flash ∷ flash ∷ []) (7 ∷ []) 10 0)
    -- LEFT gives up, so that the next digit flashes
    ∷ case protecting (7 ∷ []) (right ∷ 1 ∷ left ∷ 2 ∷ []) (Seen.gives (taken ∷ taken ∷ taken ∷ flash ∷ []) (7 ∷ []) 10 0)
    ∷ []

-- every starred case
pub starred_as_listed : AsListed starred
unfolding starred begun_with next answer_to played answered_in answer_number event_refusal event_step event_sheet session_refusal open_refusal open_answer defaults_written line_reach lines_reach table_reach component_places fields_among fields_of open_sheet ◌before◌ ◌unless◌ step_in sheet_in pressed next_editable moved_to moved_on followed followed_sheet visit_step visit_sheet right_to last_digit digit_step entry_step first_for up_step down_step left_step descended right_step first_editable enter_at enter_step browse_step later delay_over browse_second shape_fits cursor_head level_fits levels_fit tables_fit is_in work_fits visit_fits digits_to entry_fits mode_fits session_fits opened closed when◌then◌else◌ ◌and◌ word_at room put_at fit digits_of number_from low_first from_low format_of signs_of digits_in base_of limit_of half_of top_of profile_of cell_of open_day held_to number_of value_from spans distance in_digits shown_by minus storable of_digits cells_of stored_in in_span stores within all_within legal in_range work_of started finished digit_count counted_cells step_fits width_fits kind_fits settings_fit default_written begun finished_in key.raised key.lowered key.up_key key.down_key key.left_key key.right_key key.on_right key.digit_key key.part_after key.capped key.enter_key image_of texts_from all_digits password_fits title_by title_at head_by head_at fixed_bytes text_count given kind_at default_place sheet_place_at laid_out component_by component_at lines_from lines_of components_from components_of line_from line_at line_count fine and_then padded take_title agrees line_placed count_line take_line in_sheet apart_from take_field take_component on_component on_components on_head on_title on_submenu on_body on_line on_lines on_table walked prolog_refusal checked refusal_of
starred_as_listed = refl

-- and every other
further_as_listed : AsListed further
unfolding further begun_with next answer_to played answered_in answer_number event_refusal event_step event_sheet session_refusal open_refusal open_answer defaults_written line_reach lines_reach table_reach component_places fields_among fields_of open_sheet ◌before◌ ◌unless◌ step_in sheet_in pressed next_editable moved_to moved_on followed followed_sheet visit_step visit_sheet right_to last_digit digit_step entry_step first_for up_step down_step left_step descended right_step first_editable enter_at enter_step browse_step later delay_over browse_second shape_fits cursor_head level_fits levels_fit tables_fit is_in work_fits visit_fits digits_to entry_fits mode_fits session_fits opened closed when◌then◌else◌ ◌and◌ word_at room put_at fit digits_of number_from low_first from_low format_of signs_of digits_in base_of limit_of half_of top_of profile_of cell_of open_day held_to number_of value_from spans distance in_digits shown_by minus storable of_digits cells_of stored_in in_span stores within all_within legal in_range work_of started finished digit_count counted_cells step_fits width_fits kind_fits settings_fit default_written begun finished_in key.raised key.lowered key.up_key key.down_key key.left_key key.right_key key.on_right key.digit_key key.part_after key.capped key.enter_key image_of texts_from all_digits password_fits title_by title_at head_by head_at fixed_bytes text_count given kind_at default_place sheet_place_at laid_out component_by component_at lines_from lines_of components_from components_of line_from line_at line_count fine and_then padded take_title agrees line_placed count_line take_line in_sheet apart_from take_field take_component on_component on_components on_head on_title on_submenu on_body on_line on_lines on_table walked prolog_refusal checked refusal_of
further_as_listed = refl
