-- Every starred reading holds, and so do the logs and copies beside them: antt computes both sides.
-- Assumes nothing.
use mathlib.Core.Path.{◌≡◌, refl}
use mathlib.Core.List.{map}
use lib.Count.{ones, ones_in}
use Rattle.indexed.specs.List.{tabulate, tabulate_from, blocks, first_where, below, first_below, keep, total}
use Rattle.slices.specs.Turned.{turned_place}
use Rattle.register.specs.Bit.{bit, of_bits}
use Rattle.register.specs.Counts.{bit_count, bit_counts}
use Rattle.register.specs.Held.{held}
use Rattle.register.specs.Shift.{shift, shifts}
use Rattle.register.specs.Sum.{xor_sum}
use Rattle.answer.specs.Answer.{output_after}
use Rattle.group_code.specs.Code.{decoded, legal}
use Rattle.group_code.specs.Word.{legal_word, value_of, illegality, mirrored, reversed_word, forward_word}
use Rattle.rectangular.specs.Correction.{pointed_tracks, error_at, without, judged, changed_map}
use Rattle.rectangular.specs.Syndrome.{parity_syndrome, check_syndrome, weighed, erasure, second_error, first_accounting, one_error, two_errors, errors_of}
use Rattle.rectangular.specs.Relied.{one_pointer, relied_on}
use Rattle.rectangular.specs.Group.{information, check, character, column, track, group, information_of}
use Rattle.register.specs.Parity.{parity, parity_digits}
use Rattle.slices.specs.Above.{first_above}
use Rattle.record800.specs.Read as eightRead
use Rattle.record800.specs.Record as eight
use Rattle.record800.specs.Written as eightWritten
use Rattle.record6250.specs.Group.{illegal_map, pointed, relied, judged_group, is_corrected, right_values, reason_of, right_bytes, right_words}
use Rattle.record6250.specs.Picture.{group_lent, group_read, map_read, picture_maps, turned_numbers}
use Rattle.record6250.specs.Read.{lengths_suit, last_byte, padding_suits, unpadded, read_numbers, read_group, read_map, judgement, changed_tracks, stray_at, first_stray, first_unfit, read_body, read_data, changed_maps, changes, track_changes, judged_answer, answer_if, read_answer}
use Rattle.record6250.specs.Record.{padding, body, groups_for, group_bytes, group_words, first_groups, written_record}
use Rattle.record6250.specs.Tape.{numbers_at, stray_numbers, words_from, numbers_from, turned_group}
use Rattle.record6250.specs.Track.{recorded, word_on, value_on, words_of}
use Rattle.record6250.specs.Written.{write_answer}
use Rattle.copy800.specs.Copy.{copied_record, copy_answer}
use Rattle.sense_log.specs.Back.{group_bit, standing_bits, suiting_length, length_suits, spare_clear, stored_map, maps_suit, content_suits, map_back, maps_of, read_log_answer}
use Rattle.sense_log.specs.Log.{standing, bit_map_byte, bit_map, map_bytes, log_of, track_marks}
use Rattle.sense_log.specs.Written.{reading_log, log_answer}
use Rattle.terms.specs.Call.{answer_to, result_of}
use Rattle.terms.specs.Reading as Reading
use Rattle.terms.specs.Starred.{lent, answered, leaves, Row, row, made, written, group6250, characters800, readings, row_of, starred, log_rows, logs, copy_rows, copies, computed}

pub starred_hold : (map (λ (r : Row). answered r.asked) computed ≡ map (λ (r : Row). r.answer) computed)
    × (map (λ (r : Row). leaves r.asked) computed ≡ map (λ (r : Row). r.output) computed)
unfolding track_marks track_changes eightRead.track_changes bit_counts bit_count computed copies copy_rows copy_answer copied_record logs log_rows log_answer reading_log log_of bit_map bit_map_byte map_bytes standing read_log_answer length_suits suiting_length content_suits spare_clear maps_suit stored_map maps_of map_back standing_bits group_bit changed_maps starred written row made readings group6250 characters800 row_of lent answered leaves answer_to result_of Reading.turned Reading.written_record Reading.read_answer Reading.read_data turned_numbers turned_group picture_maps eightWritten.write_answer eight.written_record eight.with_check eight.longitudinal eight.check_character held eight.character_of eightRead.read_answer eightRead.answer_if eightRead.read_data eightRead.first_stray eightRead.length_suits eightRead.judged_data eightRead.judged_answer eightRead.one_of eightRead.holds eightRead.candidate eightRead.wrong_count eightRead.wrong_parity eightRead.longitudinal_read eightRead.error_pattern eightRead.check_read eightRead.wrong eightRead.expected_parity eightRead.picture first_above parity parity_digits output_after write_answer written_record first_groups group_words group_bytes groups_for body padding read_answer answer_if judged_answer changes read_data read_body first_unfit first_stray changed_tracks judgement read_map read_group unpadded padding_suits last_byte lengths_suit map_read group_read group_lent read_numbers words_from numbers_from numbers_at right_words words_of word_on value_on recorded right_bytes reason_of right_values is_corrected judged_group relied relied_on one_pointer pointed illegal_map stray_at stray_numbers changed_map judged without errors_of two_errors one_error first_accounting error_at second_error erasure weighed check_syndrome parity_syndrome pointed_tracks group track column character check information information_of forward_word reversed_word mirrored illegality value_of legal_word legal decoded xor_sum shift shifts bit of_bits tabulate tabulate_from blocks first_where below first_below keep turned_place total ones ones_in
starred_hold = (refl, refl)
