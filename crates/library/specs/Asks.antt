-- What each public function asks of its caller. `proofs/Contracts` inhabits it. Assumes nothing.
use Rattle.std.specs.Prelude.{◌≡◌, true, false, ◌+◌, ◌≤◌, ◌<◌, drop, length, take, Ok}
use Rattle.leaves.specs.Class.{Classified}
use Rattle.leaves.specs.Octets.{before}
use Rattle.leaves.specs.Sanitise.{sanitised}
use Rattle.maps.specs.Good.{Fit, checked_done}
use Rattle.maps.specs.Said.{status_at}
use Rattle.folds.specs.Asks.{FoldReady}
use Rattle.line_reader.specs.Lying.{Lying}
use Rattle.line_reader.specs.Handling.{Able}
use Rattle.writes.specs.Written.{pair_line, status_line}
use Rattle.lent.specs.Numbers.{sound_head, sound_map}
use Rattle.library.specs.Says.{Free, Asks, first, second, third, fourth, fifth, sixth, seventh, eighth, ninth, tenth}

-- the leaves
pub record LeavesAsk : Type 0 where
  pub table : Free Rattle.leaves.proofs.classes.table.Reads.Asked
  pub is_token_call : Asks Rattle.leaves.proofs.classes.is_token.Reads.Asked (λ κ a. Classified (first a).now)
  pub is_text : Asks Rattle.leaves.proofs.classes.is_text.Reads.Asked (λ κ a. Classified (first a).now)
  pub is_blank_class : Asks Rattle.leaves.proofs.classes.is_blank_class.Reads.Asked (λ κ a. Classified (first a).now)
  pub is_digit_class : Asks Rattle.leaves.proofs.classes.is_digit_class.Reads.Asked (λ κ a. Classified (first a).now)
  pub is_blank : Free Rattle.leaves.proofs.classes.is_blank.Reads.Asked
  pub is_digit : Free Rattle.leaves.proofs.classes.is_digit.Reads.Asked
  pub content_length_call : Free Rattle.leaves.proofs.lengths.content_length.Reads.Asked
  pub is_decimal_call : Free Rattle.leaves.proofs.lengths.is_decimal.Reads.Asked
  pub lower : Free Rattle.leaves.proofs.names.lower.Reads.Asked
  pub same_name_call : Free Rattle.leaves.proofs.names.same_name.Reads.Asked
  pub number : Free Rattle.leaves.proofs.refusals.number.Reads.Asked
  pub sanitise_into : Asks Rattle.leaves.proofs.sanitise.sanitise_into.Reads.Asked (λ κ a. (second a) + length (sanitised (fourth a) (third a).now) ≤ length (first a).now)
  pub sanitised_length : Free Rattle.leaves.proofs.sanitise.sanitised_length.Reads.Asked
  pub matches_sanitised : Free Rattle.leaves.proofs.sanitise.matches_sanitised.Reads.Asked
  pub trim_bounds : Free Rattle.leaves.proofs.trims.trim_bounds.Reads.Asked
  pub trim : Free Rattle.leaves.proofs.trims.trim.Reads.Asked
  pub find_octet : Asks Rattle.lines.proofs.find_octet.Reads.Asked (λ κ a. (second a) ≤ length (first a).now)
  pub before_within : Asks Rattle.lines.proofs.before_within.Reads.Asked (λ κ a. (second a) + (third a) ≤ length (first a).now)
  pub copy_in : Asks Rattle.lines.proofs.copy_in.Reads.Asked (λ κ a. length (second a).now ≤ length (first a).now)
  pub is_tight_call : Free Rattle.lines.proofs.is_tight.Reads.Asked
  pub take_line : Asks Rattle.lines.proofs.take_line.Reads.Asked (λ κ a. ((second a) ≤ length (first a).now) × ((fourth a) ≤ (fifth a)) × ((fifth a) ≤ length (third a).now))
  pub name_of_call : Free Rattle.standard.proofs.names.name_of.Reads.Asked
  pub is_named : Free Rattle.standard.proofs.names.is_named.Reads.Asked
  pub record_type : Free Rattle.standard.proofs.types.record_type.Reads.Asked

-- maps and rule 4
pub record MapsAsk : Type 0 where
  pub new : Free Rattle.maps.proofs.HeaderMap.new.Reads.Asked
  pub head : Free Rattle.maps.proofs.HeaderMap.head.Reads.Asked
  pub under_call : Free Rattle.maps.proofs.HeaderMap.under.Reads.Asked
  pub wide : Free Rattle.maps.proofs.wide.Reads.Asked
  pub in_block_call : Asks Rattle.maps.proofs.in_block.Reads.Asked (λ κ a. ((first a) ≤ 65536) × ((second a) ≤ 65536))
  pub in_store_call : Asks Rattle.maps.proofs.in_store.Reads.Asked (λ κ a. ((first a) ≤ 65536) × ((second a) ≤ 65536))
  pub part : Free Rattle.maps.proofs.part.Reads.Asked
  pub good_status_call : Free Rattle.maps.proofs.good_status.Reads.Asked
  pub good_field_call : Free Rattle.maps.proofs.good_field.Reads.Asked
  pub good_rooms_call : Free Rattle.maps.proofs.good_rooms.Reads.Asked
  pub good_counts_call : Free Rattle.maps.proofs.good_counts.Reads.Asked
  pub check : Free Rattle.maps.proofs.check.Reads.Asked
  pub is_reading_call : Free Rattle.maps.proofs.is_reading.Reads.Asked
  pub is_done_call : Free Rattle.maps.proofs.is_done.Reads.Asked
  pub check_done : Free Rattle.maps.proofs.check_done.Reads.Asked
  pub ends_block_call : Free Rattle.folds.proofs.ends_block.Reads.Asked
  pub rule_four : Asks Rattle.folds.proofs.rule_four.Reads.Asked (λ κ a. FoldReady (first a).now (second a).now (third a) (fourth a) (sixth a) (seventh a) (eighth a) (ninth a))
  pub line_change : Asks Rattle.folds.proofs.line_change.Reads.Asked (λ κ a. FoldReady (second a).now (third a).now (fourth a) (fifth a) (seventh a) (eighth a) (ninth a) (tenth a) × ((first a) ≡ before 58 (drop (fourth a) (take (fifth a) (second a).now))))

-- what a call over a map by value and the same over one in lent numbers are both made of
pub record SharedAsk : Type 0 where
  pub last_of : Free Rattle.line_reader.proofs.last_of.Reads.Asked
  pub colon_of : Asks Rattle.line_reader.proofs.colon_of.Reads.Asked (λ κ a. Lying (first a).now (second a) (third a) (fourth a).now (fifth a))
  pub handle_next : Asks Rattle.line_reader.proofs.handle_next.Reads.Asked (λ κ a. Able (first a) (second a) (third a).now (fourth a).now × ((sixth a) ≤ length (fifth a).now))
  pub handle_last : Asks Rattle.line_reader.proofs.handle_last.Reads.Asked (λ κ a. Able (first a) (second a) (third a).now (fourth a).now)
  pub empty_head_call : Free Rattle.reader.proofs.empty_head.Reads.Asked
  pub head_after_call : Free Rattle.reader.proofs.head_after.Reads.Asked
  pub check_rooms : Free Rattle.reader.proofs.check_rooms.Reads.Asked
  pub changed : Free Rattle.edits.proofs.changed.Reads.Asked
  pub plan_put : Asks Rattle.edits.proofs.plan_put.Reads.Asked (λ κ a. (second a ≤ third a) × (third a ≤ 65536))
  pub write_both : Asks Rattle.edits.proofs.write_both.Reads.Asked (λ κ a. (second a) + length (sanitised true (third a).now) + length (sanitised false (fourth a).now) ≤ length (first a).now)
  pub put_two : Asks Rattle.writes.proofs.put_two.Reads.Asked (λ κ a. (second a) + 2 ≤ length (first a).now)
  pub give : Free Rattle.writes.proofs.give.Reads.Asked
  pub put_pair : Asks Rattle.writes.proofs.put_pair.Reads.Asked (λ κ a. (second a) + length (pair_line (third a).now (fourth a).now) ≤ length (first a).now)
  pub pair_length : Asks Rattle.writes.proofs.pair_length.Reads.Asked (λ κ a. (length (first a).now ≤ 4294967295) × (length (second a).now ≤ 4294967295))
  pub status_length : Free Rattle.writes.proofs.status_length.Reads.Asked
  pub put_status : Asks Rattle.writes.proofs.put_status.Reads.Asked (λ κ a. length (status_line (status_at (third a).now (fourth a).now (second a))) ≤ length (first a).now)
  pub is_untouched : Free Rattle.writes.proofs.is_untouched.Reads.Asked
  pub status_text_call : Free Rattle.codes.proofs.status_text.Reads.Asked
  pub note : Free Rattle.openings.proofs.note.Reads.Asked
  pub open_spots : Free Rattle.openings.proofs.open_spots.Reads.Asked
  pub open_good : Asks Rattle.openings.proofs.open_good.Reads.Asked (λ κ a. Ok tt ≡ checked_done (first a) (second a).now (third a).now)
  pub ready_at_call : Free Rattle.walker.proofs.turns.ready_at.Reads.Asked
  pub kept_head_call : Free Rattle.walker.proofs.turns.kept_head.Reads.Asked
  pub turn : Free Rattle.walker.proofs.turns.turn.Reads.Asked
  pub behind_header : Free Rattle.walker.proofs.turns.behind_header.Reads.Asked
  pub end_trail : Free Rattle.walker.proofs.turns.end_trail.Reads.Asked

-- the calls that a user makes on a map, a walker or octets: nothing
pub record CallsAsk : Type 0 where
  pub feed : Free Rattle.reader.proofs.feed.Reads.Asked
  pub finish : Free Rattle.reader.proofs.finish.Reads.Asked
  pub clear : Free Rattle.reader.proofs.clear.Reads.Asked
  pub begin : Free Rattle.reader.proofs.begin.Reads.Asked
  pub find : Free Rattle.lookups.proofs.find.Reads.Asked
  pub sight : Free Rattle.lookups.proofs.sight.Reads.Asked
  pub value : Free Rattle.lookups.proofs.value.Reads.Asked
  pub key : Free Rattle.lookups.proofs.key.Reads.Asked
  pub status : Free Rattle.lookups.proofs.status.Reads.Asked
  pub remove : Free Rattle.edits.proofs.remove.Reads.Asked
  pub set : Free Rattle.edits.proofs.set.Reads.Asked
  pub append : Free Rattle.edits.proofs.append.Reads.Asked
  pub set_status : Free Rattle.edits.proofs.set_status.Reads.Asked
  pub rebuild : Free Rattle.writes.proofs.rebuild.Reads.Asked
  pub write : Free Rattle.writes.proofs.write.Reads.Asked
  pub same_octets : Free Rattle.equals.proofs.same_octets.Reads.Asked
  pub compare : Free Rattle.equals.proofs.compare.Reads.Asked
  pub status_code_call : Free Rattle.codes.proofs.status_code.Reads.Asked
  pub has_reason : Free Rattle.codes.proofs.has_reason.Reads.Asked
  pub reason : Free Rattle.codes.proofs.reason.Reads.Asked
  pub content_length_call : Free Rattle.codes.proofs.content_length.Reads.Asked
  pub record_type : Free Rattle.codes.proofs.record_type.Reads.Asked
  pub code_of : Free Rattle.codes.proofs.line.code_of.Reads.Asked
  pub reason_start_call : Free Rattle.codes.proofs.line.reason_start.Reads.Asked
  pub clean : Free Rattle.tidy.proofs.clean.Reads.Asked
  pub tidy : Free Rattle.tidy.proofs.tidy.Reads.Asked
  pub grammatical : Free Rattle.grammar.proofs.grammatical.Reads.Asked
  pub only_value_call : Free Rattle.singles.proofs.only_value.Reads.Asked
  pub open_record : Free Rattle.openings.proofs.open_record.Reads.Asked
  pub start : Free Rattle.walker.proofs.start.Reads.Asked
  pub walk : Free Rattle.walker.proofs.walk.Reads.Asked
  pub end : Free Rattle.walker.proofs.end.Reads.Asked
  pub resume : Free Rattle.resume.proofs.resume.Reads.Asked

-- a map and a trail in lent numbers: as many numbers as they have
pub record LentAsk : Type 0 where
  pub check : Asks Rattle.lent.proofs.check.Reads.Asked (λ κ a. length (second a).now ≡ 1024)
  pub check_done : Asks Rattle.lent.proofs.check_done.Reads.Asked (λ κ a. length (second a).now ≡ 1024)
  pub live_map : Asks Rattle.lent.proofs.live_map.Reads.Asked (λ κ a. length (second a).now ≡ 1024)
  pub is_sound : Free Rattle.lent.proofs.is_sound.Reads.Asked
  pub is_long : Free Rattle.lent.proofs.is_long.Reads.Asked
  pub live_at : Asks Rattle.lent.proofs.live_at.Reads.Asked (λ κ a. sound_map (first a).now (second a).now ≡ true)
  pub is_sound_head : Free Rattle.lent.proofs.heads.is_sound.Reads.Asked
  pub head_at : Asks Rattle.lent.proofs.heads.head_at.Reads.Asked (λ κ a. sound_head (first a).now ≡ true)
  pub put_head : Asks Rattle.lent.proofs.heads.put_head.Reads.Asked (λ κ a. length (first a).now ≡ 13)
  pub unmade : Free Rattle.lent.proofs.heads.unmade.Reads.Asked
  pub field_at_call : Asks Rattle.lent.proofs.tables.field_at.Reads.Asked (λ κ a. ((second a) < 256) × (length (first a).now ≡ 1024))
  pub put_field_call : Asks Rattle.lent.proofs.tables.put_field.Reads.Asked (λ κ a. ((second a) < 256) × (length (first a).now ≡ 1024) × Fit 65536 65536 (third a))
  pub good_fields_call : Asks Rattle.lent.proofs.tables.good_fields.Reads.Asked (λ κ a. ((second a) ≤ 256) × (length (first a).now ≡ 1024) × ((third a) ≤ 65536))
  pub find : Asks Rattle.lent.proofs.tables.find.Reads.Asked (λ κ a. ((second a) ≤ 256) × (length (first a).now ≡ 1024))
  pub feed : Asks Rattle.lent_reader.proofs.feed.Reads.Asked (λ κ a. length (second a).now ≡ 1024)
  pub finish : Asks Rattle.lent_reader.proofs.finish.Reads.Asked (λ κ a. length (second a).now ≡ 1024)
  pub begin : Free Rattle.lent_reader.proofs.begin.Reads.Asked
  pub clear : Asks Rattle.lent_reader.proofs.clear.Reads.Asked (λ κ a. length (second a).now ≡ 1024)
  pub remove : Asks Rattle.lent_edits.proofs.remove.Reads.Asked (λ κ a. length (second a).now ≡ 1024)
  pub set : Asks Rattle.lent_edits.proofs.set.Reads.Asked (λ κ a. length (second a).now ≡ 1024)
  pub append : Asks Rattle.lent_edits.proofs.append.Reads.Asked (λ κ a. length (second a).now ≡ 1024)
  pub set_status : Asks Rattle.lent_edits.proofs.set_status.Reads.Asked (λ κ a. length (second a).now ≡ 1024)
  pub rebuild : Asks Rattle.lent_writes.proofs.rebuild.Reads.Asked (λ κ a. length (second a).now ≡ 1024)
  pub write : Asks Rattle.lent_writes.proofs.write.Reads.Asked (λ κ a. length (second a).now ≡ 1024)
  pub status_code_call : Asks Rattle.lent_codes.proofs.status_code.Reads.Asked (λ κ a. length (second a).now ≡ 1024)
  pub content_length_call : Asks Rattle.lent_codes.proofs.content_length.Reads.Asked (λ κ a. length (second a).now ≡ 1024)
  pub record_type : Asks Rattle.lent_codes.proofs.record_type.Reads.Asked (λ κ a. length (second a).now ≡ 1024)
  pub is_sound_trail : Free Rattle.trails.proofs.is_sound.Reads.Asked
  pub trail_at : Asks Rattle.trails.proofs.trail_at.Reads.Asked (λ κ a. length (first a).now ≡ 4)
  pub put_trail : Asks Rattle.trails.proofs.put_trail.Reads.Asked (λ κ a. length (first a).now ≡ 4)
  pub start : Free Rattle.lent_walker.proofs.start.Reads.Asked
  pub walk : Asks Rattle.lent_walker.proofs.walk.Reads.Asked (λ κ a. length (third a).now ≡ 1024)
  pub end : Asks Rattle.lent_walker.proofs.end.Reads.Asked (λ κ a. length (third a).now ≡ 1024)

-- for C and Rust: the exported functions ask nothing
pub record ExportsAsk : Type 0 where
  pub set : Free Rattle.abi.proofs.editing.bisquecrow_set.Reads.Asked
  pub append : Free Rattle.abi.proofs.editing.bisquecrow_append.Reads.Asked
  pub remove : Free Rattle.abi.proofs.editing.bisquecrow_remove.Reads.Asked
  pub set_status : Free Rattle.abi.proofs.editing.bisquecrow_set_status.Reads.Asked
  pub fields : Free Rattle.abi.proofs.looking.bisquecrow_fields.Reads.Asked
  pub find : Free Rattle.abi.proofs.looking.bisquecrow_find.Reads.Asked
  pub value : Free Rattle.abi.proofs.looking.bisquecrow_value.Reads.Asked
  pub key : Free Rattle.abi.proofs.looking.bisquecrow_key.Reads.Asked
  pub status : Free Rattle.abi.proofs.looking.bisquecrow_status.Reads.Asked
  pub reason : Free Rattle.abi.proofs.looking.bisquecrow_reason.Reads.Asked
  pub begin : Free Rattle.abi.proofs.reading.bisquecrow_begin.Reads.Asked
  pub feed : Free Rattle.abi.proofs.reading.bisquecrow_feed.Reads.Asked
  pub finish : Free Rattle.abi.proofs.reading.bisquecrow_finish.Reads.Asked
  pub clear : Free Rattle.abi.proofs.reading.bisquecrow_clear.Reads.Asked
  pub status_code_call : Free Rattle.abi.proofs.telling.bisquecrow_status_code.Reads.Asked
  pub content_length_call : Free Rattle.abi.proofs.telling.bisquecrow_content_length.Reads.Asked
  pub record_type : Free Rattle.abi.proofs.telling.bisquecrow_record_type.Reads.Asked
  pub clean : Free Rattle.abi.proofs.telling.bisquecrow_clean.Reads.Asked
  pub tidy : Free Rattle.abi.proofs.telling.bisquecrow_tidy.Reads.Asked
  pub grammatical : Free Rattle.abi.proofs.telling.bisquecrow_grammatical.Reads.Asked
  pub equal : Free Rattle.abi.proofs.telling.bisquecrow_equal.Reads.Asked
  pub resume : Free Rattle.abi.proofs.telling.bisquecrow_resume.Reads.Asked
  pub walker : Free Rattle.abi.proofs.walking.bisquecrow_walker.Reads.Asked
  pub walk : Free Rattle.abi.proofs.walking.bisquecrow_walk.Reads.Asked
  pub end : Free Rattle.abi.proofs.walking.bisquecrow_end.Reads.Asked
  pub write : Free Rattle.abi.proofs.writing.bisquecrow_write.Reads.Asked
  pub rebuild : Free Rattle.abi.proofs.writing.bisquecrow_rebuild.Reads.Asked

pub record AsksOnly : Type 0 where
  pub leaves : LeavesAsk
  pub maps : MapsAsk
  pub shared : SharedAsk
  pub calls : CallsAsk
  pub lent : LentAsk
  pub exports : ExportsAsk
