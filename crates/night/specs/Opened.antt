-- All rules opened: whoever unfolds `rules` computes with them.
use mathlib.Core.List.{flatten}
use Rattle.model.specs.Size.{size_up_to, cell_records, log_records, decisions_length, block_steps, round_steps}
use Rattle.model.specs.Form.{record_at, spare_at, stored}
use Rattle.model.specs.Record.{same_cue, same_value, same_cell}
use Rattle.model.specs.Table.{cell_index, log_start, length_from, decision_index}
use Rattle.model.specs.Kind.{block_at, place_at, kind_in, kind_of, lane_of, block_of, steps_in, firsts_read, seconds_read}
use Rattle.model.specs.Block.{equals_own, higher, greatest, second_cell, backs_own, sooner, first_committed, adopted_value, result_of, newer, newest, news}
use Rattle.model.specs.Settle.{append_missed, append_committed, own_cues, last_entry, own_next, next_held, settled_rack, lane_log, settle_lane, settle_lanes, too_long}
use Rattle.model.specs.Step.{offers_of, proposal, first_written, after_first_read, second_written, second_gathered, block_ended, after_second_read, is_last, answered, settled, second_read_taken, step_by, stepped, step}
use Rattle.model.specs.Sound.{sound_cue, sound_value, mark_fits, sound_cell, sound_record, sound_section, sound_cells, sound_decisions, sound_entries, sound_log, sound_logs, sound_clock, sound_first, sound_gathered, sound_choice, sound_read_back, sound_written, sound_outcome, sound_held, unused_lane, sound_lane, sound_rack, unused_rack, sound_state, sound_racks, sound_tables, sound}
use Rattle.model.specs.Turn.{fits, bad_record, finished, misnamed, not_offered, decided_else, overfull, refusal_of, refusal, turned, soundness}
use Rattle.model.specs.Fresh.{table, fresh_card, filled}
use Rattle.model.specs.Cues.{lists_length, lists_fit, list_start, code_at, bad_cue, listed, add_cue, code_in}
use Rattle.model.specs.Night.{after, replies, pieces}
use Rattle.model.specs.Sheet.{size_given, load_cues, bad_size_line, bad_cues_line, size_line, refused_line, refused_lines, taken_in, turns_line, log_line, entry_line, line_at, entry_lines, log_lines, lane_lines, rack_lines, night_text, sheet}
use Rattle.std.specs.Prelude.{Bool, true}

unfoldable pub rules : Bool
unfolding
    flatten size_up_to cell_records log_records decisions_length block_steps round_steps same_cue same_value same_cell record_at spare_at stored cell_index log_start length_from decision_index block_at place_at kind_in kind_of lane_of block_of steps_in firsts_read seconds_read equals_own higher greatest second_cell backs_own sooner first_committed adopted_value result_of newer newest news append_missed append_committed own_cues last_entry own_next next_held settled_rack lane_log settle_lane settle_lanes too_long offers_of proposal first_written after_first_read second_written second_gathered block_ended after_second_read is_last answered settled second_read_taken step_by stepped step sound_cue sound_value mark_fits sound_cell sound_record sound_section sound_cells sound_decisions sound_entries sound_log sound_logs sound_clock sound_first sound_gathered sound_choice sound_read_back sound_written sound_outcome sound_held unused_lane sound_lane sound_rack unused_rack sound_state sound_racks sound_tables sound fits bad_record finished misnamed not_offered decided_else overfull refusal_of refusal turned soundness table fresh_card filled lists_length lists_fit list_start code_at bad_cue listed add_cue code_in after replies pieces size_given load_cues bad_size_line bad_cues_line size_line refused_line refused_lines taken_in turns_line log_line entry_line line_at entry_lines log_lines lane_lines rack_lines night_text sheet
rules = true
