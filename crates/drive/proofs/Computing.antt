-- Names all that a computation of the calls and of the history unfolds.
use Rattle.geometry.specs.Geometry.{home_of}
use Rattle.lists.specs.Lists.{index_of, member_of, entry_ok, entries_ok}
use Rattle.table.specs.Tables.{lists_ok, sector_of, listed, killed_next, with_bad, removed, without_bad, causes_ok, causes_listed, causes_killed}
use Rattle.image.specs.Layouts.{wide, triple, triples, narrow, entry_at, entries_from, entries_fit}
use Rattle.image.specs.FormA.{list_part, framed_part, form_a, framed_a, formed_a}
use Rattle.image.specs.FormB.{two_bytes, head_b, quad, quads, listed_part, summed_part, form_b, two_at, causes_from, sum_fits, framed_b, fields_fit, formed_b}
use Rattle.image.specs.Images.{well_formed, fault_of, table_of, run_of, causes_of, converted}
use Rattle.buffer.specs.Runs.{over, same, all_are, sum}
use Rattle.drive.specs.Words.{data_of, with_data, kind_of, number_of, status_of}
use Rattle.drive.specs.Records.{retry_ok, trial_ok, state_ok, record_ok}
use Rattle.drive.specs.Results.{part_left, status_left, finish}
use Rattle.drive.specs.Handshake.{offer_for, raised, writes, no_number, health, overruns, acted, goes_on, lowered, fed_to, rested}
use Rattle.drive.specs.Retries.{failed, goes_on_reading, after_read}
use Rattle.drive.specs.Sparing.{next_spare, missed, stopped, verified, tried, last_after, judged, checked}
use Rattle.drive.specs.Access.{fitting, start_answered, store_answered, kept_part, lost, settled, reads, write_answered, verify_answered, follows, answered}
use Rattle.drive.specs.Calls.{raise_of, lower_of, feed_of, surface_of, reset_of, start_of, convert_of, step_of}
use Rattle.drive.specs.History.{padded, bit, learns, acts, underway, reports, good, moves, bytes_of, touches, touches_first, has_written, place_next, candidates_next, heard, next, interrupted, candidates_then, begun}

-- Returns what it is given. A proof that unfolds this one unfolds all that its line names.
unfoldable pub computed : {A : Type 0} → A → A
unfolding home_of index_of member_of entry_ok entries_ok lists_ok sector_of listed killed_next with_bad removed without_bad causes_ok causes_listed causes_killed wide triple triples narrow entry_at entries_from entries_fit list_part framed_part form_a framed_a formed_a two_bytes head_b quad quads listed_part summed_part form_b two_at causes_from sum_fits framed_b fields_fit formed_b well_formed fault_of table_of run_of causes_of converted over same all_are sum data_of with_data kind_of number_of status_of retry_ok trial_ok state_ok record_ok part_left status_left finish offer_for raised writes no_number health overruns acted goes_on lowered fed_to rested failed goes_on_reading after_read next_spare missed stopped verified tried last_after judged checked fitting start_answered store_answered kept_part lost settled reads write_answered verify_answered follows answered raise_of lower_of feed_of surface_of reset_of start_of convert_of step_of padded bit learns acts underway reports good moves bytes_of touches touches_first has_written place_next candidates_next heard next interrupted candidates_then begun
computed x = x
