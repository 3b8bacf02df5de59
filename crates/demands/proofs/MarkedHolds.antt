-- Every row of the marked table gives what it says. Assumes nothing.
use lib.Dec.{T}
use Rattle.leaves.specs.Choice.{when◌then◌else◌}
use Rattle.leaves.specs.Class.{blank, digit}
use Rattle.lines.specs.Line.{ends_line, cr_before}
use Rattle.leaves.specs.Number.{decimal_from, is_decimal, content_length}
use Rattle.leaves.specs.Octets.{has, before, all, same_list}
use Rattle.leaves.specs.Paste.{pasted}
use Rattle.leaves.specs.Sanitise.{dropped, spaced, scrubbed}
use Rattle.leaves.specs.Name.{lowered}
use Rattle.leaves.specs.Trim.{trim_end, trim_start, leading}
use Rattle.maps.specs.Places.{last_of}
use Rattle.maps.specs.Good.{good_fields, good, checked}
use Rattle.folds.specs.Rule.{ends_block, grown, regrown, folded, split, rule4}
use Rattle.line_reader.specs.Reading.{ruled, closed, put, step, fed, finished}
use Rattle.reader.specs.Calls.{fed_from, finished_from, feeding, finishing, clearing, checked_rooms, beginning}
use Rattle.edits.specs.Fields.{keeps, replaced}
use Rattle.edits.specs.Edits.{changing, setting, appending}
use Rattle.lookups.specs.Lookups.{named, shown_status}
use Rattle.maps.specs.Said.{saying}
use Rattle.writes.specs.Written.{pair_line, pair_lines, status_line, rebuilt, written, giving, writing}
use Rattle.codes.specs.Line.{is_http, behind_space, without_plus, small_number, status_code, reason_start}
use Rattle.codes.specs.Codes.{coding}
use Rattle.rebuilds.specs.Clean.{neat, clean_pair, clean_pairs, clean_status, clean, tidy_after, tidy}
use Rattle.readings.specs.Listening.{said}
use Rattle.tidy.specs.Calls.{cleaning, tidying}
use Rattle.demands.specs.Marked.{table, holds}

-- "M1 to M12 are shown of the definitions by a single table and one fact over it": every row gives what it says
pub marked : T (holds table)
unfolding table when◌then◌else◌ blank digit ends_line cr_before decimal_from is_decimal content_length has before all same_list trim_end trim_start leading last_of good_fields good checked ends_block grown regrown folded split rule4 ruled closed put step fed finished fed_from finished_from feeding finishing clearing checked_rooms beginning pasted dropped spaced scrubbed named lowered keeps replaced changing setting appending shown_status is_http behind_space without_plus small_number status_code reason_start coding neat clean_pair clean_pairs clean_status clean cleaning tidying tidy tidy_after said saying pair_line pair_lines status_line rebuilt written giving writing
marked = tt
