-- Every contract says what the pages say. Assumes nothing.
use Rattle.library.specs.Asks.{AsksOnly}
use Rattle.library.specs.Leaves.{Leaves}
use Rattle.library.specs.Maps.{Maps}
use Rattle.library.specs.Shared.{Shared}
use Rattle.library.specs.Calls.{Calls}
use Rattle.library.specs.Lent.{Lent}
use Rattle.library.specs.Exports.{Exports}

pub leaves : Leaves
leaves =
    record {
      table = λ κ a r e h. h;
      is_token_call = λ κ a r e h. h;
      is_text = λ κ a r e h. h;
      is_blank_class = λ κ a r e h. h;
      is_digit_class = λ κ a r e h. h;
      is_blank = λ κ a r e h. h;
      is_digit = λ κ a r e h. h;
      content_length_call = λ κ a r e h. h;
      is_decimal_call = λ κ a r e h. h;
      lower = λ κ a r e h. h;
      same_name_call = λ κ a r e h. h;
      number = λ κ a r e h. h;
      sanitise_into = λ κ a r e h. h;
      sanitised_length = λ κ a r e h. h;
      matches_sanitised = λ κ a r e h. h;
      trim_bounds = λ κ a r e h. h;
      trim = λ κ a r e h. h;
      find_octet = λ κ a r e h. h;
      before_within = λ κ a r e h. h;
      copy_in = λ κ a r e h. h;
      is_tight_call = λ κ a r e h. h;
      take_line = λ κ a r e h. h;
      name_of_call = λ κ a r e h. h;
      is_named = λ κ a r e h. h;
      record_type = λ κ a r e h. h;
    }

pub maps : Maps
maps =
    record {
      new = λ κ a r e h. h;
      head = λ κ a r e h. h;
      under_call = λ κ a r e h. h;
      wide = λ κ a r e h. h;
      in_block_call = λ κ a r e h. h;
      in_store_call = λ κ a r e h. h;
      part = λ κ a r e h. h;
      good_status_call = λ κ a r e h. h;
      good_field_call = λ κ a r e h. h;
      good_rooms_call = λ κ a r e h. h;
      good_counts_call = λ κ a r e h. h;
      check = λ κ a r e h. h;
      is_reading_call = λ κ a r e h. h;
      is_done_call = λ κ a r e h. h;
      check_done = λ κ a r e h. h;
      ends_block_call = λ κ a r e h. h;
      rule_four = λ κ a r e h. h;
      line_change = λ κ a r e h. h;
    }

pub shared : Shared
shared =
    record {
      last_of = λ κ a r e h. h;
      colon_of = λ κ a r e h. h;
      handle_next = λ κ a r e h. h;
      handle_last = λ κ a r e h. h;
      empty_head_call = λ κ a r e h. h;
      head_after_call = λ κ a r e h. h;
      check_rooms = λ κ a r e h. h;
      changed = λ κ a r e h. h;
      plan_put = λ κ a r e h. h;
      write_both = λ κ a r e h. h;
      put_two = λ κ a r e h. h;
      give = λ κ a r e h. h;
      put_pair = λ κ a r e h. h;
      pair_length = λ κ a r e h. h;
      status_length = λ κ a r e h. h;
      put_status = λ κ a r e h. h;
      is_untouched = λ κ a r e h. h;
      status_text_call = λ κ a r e h. h;
      note = λ κ a r e h. h;
      open_spots = λ κ a r e h. h;
      open_good = λ κ a r e h. h;
      ready_at_call = λ κ a r e h. h;
      kept_head_call = λ κ a r e h. h;
      turn = λ κ a r e h. h;
      behind_header = λ κ a r e h. h;
      end_trail = λ κ a r e h. h;
    }

pub calls : Calls
calls =
    record {
      feed = λ κ a r e h. h;
      finish = λ κ a r e h. h;
      clear = λ κ a r e h. h;
      begin = λ κ a r e h. h;
      find = λ κ a r e h. h;
      sight = λ κ a r e h. h;
      value = λ κ a r e h. h;
      key = λ κ a r e h. h;
      status = λ κ a r e h. h;
      remove = λ κ a r e h. h;
      set = λ κ a r e h. h;
      append = λ κ a r e h. h;
      set_status = λ κ a r e h. h;
      rebuild = λ κ a r e h. h;
      write = λ κ a r e h. h;
      same_octets = λ κ a r e h. h;
      compare = λ κ a r e h. h;
      status_code_call = λ κ a r e h. h;
      has_reason = λ κ a r e h. h;
      reason = λ κ a r e h. h;
      content_length_call = λ κ a r e h. h;
      record_type = λ κ a r e h. h;
      code_of = λ κ a r e h. h;
      reason_start_call = λ κ a r e h. h;
      clean = λ κ a r e h. h;
      tidy = λ κ a r e h. h;
      grammatical = λ κ a r e h. h;
      only_value_call = λ κ a r e h. h;
      open_record = λ κ a r e h. h;
      start = λ κ a r e h. h;
      walk = λ κ a r e h. h;
      end = λ κ a r e h. h;
      resume = λ κ a r e h. h;
    }

pub lent : Lent
lent =
    record {
      check = λ κ a r e h. h;
      check_done = λ κ a r e h. h;
      live_map = λ κ a r e h. h;
      is_sound = λ κ a r e h. h;
      is_long = λ κ a r e h. h;
      live_at = λ κ a r e h. h;
      is_sound_head = λ κ a r e h. h;
      head_at = λ κ a r e h. h;
      put_head = λ κ a r e h. h;
      unmade = λ κ a r e h. h;
      field_at_call = λ κ a r e h. h;
      put_field_call = λ κ a r e h. h;
      good_fields_call = λ κ a r e h. h;
      find = λ κ a r e h. h;
      feed = λ κ a r e h. h;
      finish = λ κ a r e h. h;
      begin = λ κ a r e h. h;
      clear = λ κ a r e h. h;
      remove = λ κ a r e h. h;
      set = λ κ a r e h. h;
      append = λ κ a r e h. h;
      set_status = λ κ a r e h. h;
      rebuild = λ κ a r e h. h;
      write = λ κ a r e h. h;
      status_code_call = λ κ a r e h. h;
      content_length_call = λ κ a r e h. h;
      record_type = λ κ a r e h. h;
      is_sound_trail = λ κ a r e h. h;
      trail_at = λ κ a r e h. h;
      put_trail = λ κ a r e h. h;
      start = λ κ a r e h. h;
      walk = λ κ a r e h. h;
      end = λ κ a r e h. h;
    }

pub exports : Exports
exports =
    record {
      set = λ κ a r e h. h;
      append = λ κ a r e h. h;
      remove = λ κ a r e h. h;
      set_status = λ κ a r e h. h;
      fields = λ κ a r e h. h;
      find = λ κ a r e h. h;
      value = λ κ a r e h. h;
      key = λ κ a r e h. h;
      status = λ κ a r e h. h;
      reason = λ κ a r e h. h;
      begin = λ κ a r e h. h;
      feed = λ κ a r e h. h;
      finish = λ κ a r e h. h;
      clear = λ κ a r e h. h;
      status_code_call = λ κ a r e h. h;
      content_length_call = λ κ a r e h. h;
      record_type = λ κ a r e h. h;
      clean = λ κ a r e h. h;
      tidy = λ κ a r e h. h;
      grammatical = λ κ a r e h. h;
      equal = λ κ a r e h. h;
      resume = λ κ a r e h. h;
      walker = λ κ a r e h. h;
      walk = λ κ a r e h. h;
      end = λ κ a r e h. h;
      write = λ κ a r e h. h;
      rebuild = λ κ a r e h. h;
    }

pub asks : AsksOnly
asks =
    record {
      leaves =
          record {
            table = λ κ a. tt;
            is_token_call = λ κ a h. h;
            is_text = λ κ a h. h;
            is_blank_class = λ κ a h. h;
            is_digit_class = λ κ a h. h;
            is_blank = λ κ a. tt;
            is_digit = λ κ a. tt;
            content_length_call = λ κ a. tt;
            is_decimal_call = λ κ a. tt;
            lower = λ κ a. tt;
            same_name_call = λ κ a. tt;
            number = λ κ a. tt;
            sanitise_into = λ κ a h. h;
            sanitised_length = λ κ a. tt;
            matches_sanitised = λ κ a. tt;
            trim_bounds = λ κ a. tt;
            trim = λ κ a. tt;
            find_octet = λ κ a h. h;
            before_within = λ κ a h. h;
            copy_in = λ κ a h. h;
            is_tight_call = λ κ a. tt;
            take_line = λ κ a h. h;
            name_of_call = λ κ a. tt;
            is_named = λ κ a. tt;
            record_type = λ κ a. tt;
          };
      maps =
          record {
            new = λ κ a. tt;
            head = λ κ a. tt;
            under_call = λ κ a. tt;
            wide = λ κ a. tt;
            in_block_call = λ κ a h. h;
            in_store_call = λ κ a h. h;
            part = λ κ a. tt;
            good_status_call = λ κ a. tt;
            good_field_call = λ κ a. tt;
            good_rooms_call = λ κ a. tt;
            good_counts_call = λ κ a. tt;
            check = λ κ a. tt;
            is_reading_call = λ κ a. tt;
            is_done_call = λ κ a. tt;
            check_done = λ κ a. tt;
            ends_block_call = λ κ a. tt;
            rule_four = λ κ a h. h;
            line_change = λ κ a h. h;
          };
      shared =
          record {
            last_of = λ κ a. tt;
            colon_of = λ κ a h. h;
            handle_next = λ κ a h. h;
            handle_last = λ κ a h. h;
            empty_head_call = λ κ a. tt;
            head_after_call = λ κ a. tt;
            check_rooms = λ κ a. tt;
            changed = λ κ a. tt;
            plan_put = λ κ a h. h;
            write_both = λ κ a h. h;
            put_two = λ κ a h. h;
            give = λ κ a. tt;
            put_pair = λ κ a h. h;
            pair_length = λ κ a h. h;
            status_length = λ κ a. tt;
            put_status = λ κ a h. h;
            is_untouched = λ κ a. tt;
            status_text_call = λ κ a. tt;
            note = λ κ a. tt;
            open_spots = λ κ a. tt;
            open_good = λ κ a h. h;
            ready_at_call = λ κ a. tt;
            kept_head_call = λ κ a. tt;
            turn = λ κ a. tt;
            behind_header = λ κ a. tt;
            end_trail = λ κ a. tt;
          };
      calls =
          record {
            feed = λ κ a. tt;
            finish = λ κ a. tt;
            clear = λ κ a. tt;
            begin = λ κ a. tt;
            find = λ κ a. tt;
            sight = λ κ a. tt;
            value = λ κ a. tt;
            key = λ κ a. tt;
            status = λ κ a. tt;
            remove = λ κ a. tt;
            set = λ κ a. tt;
            append = λ κ a. tt;
            set_status = λ κ a. tt;
            rebuild = λ κ a. tt;
            write = λ κ a. tt;
            same_octets = λ κ a. tt;
            compare = λ κ a. tt;
            status_code_call = λ κ a. tt;
            has_reason = λ κ a. tt;
            reason = λ κ a. tt;
            content_length_call = λ κ a. tt;
            record_type = λ κ a. tt;
            code_of = λ κ a. tt;
            reason_start_call = λ κ a. tt;
            clean = λ κ a. tt;
            tidy = λ κ a. tt;
            grammatical = λ κ a. tt;
            only_value_call = λ κ a. tt;
            open_record = λ κ a. tt;
            start = λ κ a. tt;
            walk = λ κ a. tt;
            end = λ κ a. tt;
            resume = λ κ a. tt;
          };
      lent =
          record {
            check = λ κ a h. h;
            check_done = λ κ a h. h;
            live_map = λ κ a h. h;
            is_sound = λ κ a. tt;
            is_long = λ κ a. tt;
            live_at = λ κ a h. h;
            is_sound_head = λ κ a. tt;
            head_at = λ κ a h. h;
            put_head = λ κ a h. h;
            unmade = λ κ a. tt;
            field_at_call = λ κ a h. h;
            put_field_call = λ κ a h. h;
            good_fields_call = λ κ a h. h;
            find = λ κ a h. h;
            feed = λ κ a h. h;
            finish = λ κ a h. h;
            begin = λ κ a. tt;
            clear = λ κ a h. h;
            remove = λ κ a h. h;
            set = λ κ a h. h;
            append = λ κ a h. h;
            set_status = λ κ a h. h;
            rebuild = λ κ a h. h;
            write = λ κ a h. h;
            status_code_call = λ κ a h. h;
            content_length_call = λ κ a h. h;
            record_type = λ κ a h. h;
            is_sound_trail = λ κ a. tt;
            trail_at = λ κ a h. h;
            put_trail = λ κ a h. h;
            start = λ κ a. tt;
            walk = λ κ a h. h;
            end = λ κ a h. h;
          };
      exports =
          record {
            set = λ κ a. tt;
            append = λ κ a. tt;
            remove = λ κ a. tt;
            set_status = λ κ a. tt;
            fields = λ κ a. tt;
            find = λ κ a. tt;
            value = λ κ a. tt;
            key = λ κ a. tt;
            status = λ κ a. tt;
            reason = λ κ a. tt;
            begin = λ κ a. tt;
            feed = λ κ a. tt;
            finish = λ κ a. tt;
            clear = λ κ a. tt;
            status_code_call = λ κ a. tt;
            content_length_call = λ κ a. tt;
            record_type = λ κ a. tt;
            clean = λ κ a. tt;
            tidy = λ κ a. tt;
            grammatical = λ κ a. tt;
            equal = λ κ a. tt;
            resume = λ κ a. tt;
            walker = λ κ a. tt;
            walk = λ κ a. tt;
            end = λ κ a. tt;
            write = λ κ a. tt;
            rebuild = λ κ a. tt;
          };
    }
