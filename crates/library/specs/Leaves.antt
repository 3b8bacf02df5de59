-- The leaves: what octets are, lines, and what the standard names. Each public function with what its contract hands to a caller. `proofs/Contracts` inhabits it. Assumes nothing.
use Rattle.std.specs.Prelude.{true, ◌≡◌, ◌+◌, ◌-◌, drop, length, take}
use Rattle.leaves.specs.Class.{Classified, blank, digit, text, token}
use Rattle.leaves.specs.Name.{lowered, same_name}
use Rattle.leaves.specs.Number.{content_length, is_decimal}
use Rattle.leaves.specs.Octets.{before}
use Rattle.leaves.specs.Paste.{pasted}
use Rattle.leaves.specs.Refusals.{number as number_of}
use Rattle.leaves.specs.Sanitise.{sanitised}
use Rattle.leaves.specs.Trim.{Trimmed, Trimming}
use Rattle.lines.specs.Line.{Takes, cr_before, tight}
use Rattle.standard.specs.Names.{name_of}
use Rattle.standard.specs.Types.{type_code}
use Rattle.library.specs.Says.{Says, first, second, third, fourth, fifth, sixth, seventh}

pub record Leaves : Type 0 where
  -- leaves
  -- classes::table()
  pub table : Says Rattle.leaves.proofs.classes.table.Reads.Learnt (λ κ a r e. Classified r)
  -- classes::is_token(classes, x)
  pub is_token_call : Says Rattle.leaves.proofs.classes.is_token.Reads.Learnt (λ κ a r e. r ≡ token (second a))
  -- classes::is_text(classes, x)
  pub is_text : Says Rattle.leaves.proofs.classes.is_text.Reads.Learnt (λ κ a r e. r ≡ text (second a))
  -- classes::is_blank_class(classes, x)
  pub is_blank_class : Says Rattle.leaves.proofs.classes.is_blank_class.Reads.Learnt (λ κ a r e. r ≡ blank (second a))
  -- classes::is_digit_class(classes, x)
  pub is_digit_class : Says Rattle.leaves.proofs.classes.is_digit_class.Reads.Learnt (λ κ a r e. r ≡ digit (second a))
  -- classes::is_blank(x)
  pub is_blank : Says Rattle.leaves.proofs.classes.is_blank.Reads.Learnt (λ κ a r e. r ≡ blank (first a))
  -- classes::is_digit(x)
  pub is_digit : Says Rattle.leaves.proofs.classes.is_digit.Reads.Learnt (λ κ a r e. r ≡ digit (first a))
  -- lengths::content_length(value)
  pub content_length_call : Says Rattle.leaves.proofs.lengths.content_length.Reads.Learnt (λ κ a r e. r ≡ content_length (first a).now)
  -- lengths::is_decimal(value)
  pub is_decimal_call : Says Rattle.leaves.proofs.lengths.is_decimal.Reads.Learnt (λ κ a r e. r ≡ is_decimal (first a).now)
  -- names::lower(x)
  pub lower : Says Rattle.leaves.proofs.names.lower.Reads.Learnt (λ κ a r e. r ≡ lowered (first a))
  -- names::same_name(a, b)
  pub same_name_call : Says Rattle.leaves.proofs.names.same_name.Reads.Learnt (λ κ a r e. r ≡ same_name (first a).now (second a).now)
  -- refusals::number(refusal)
  pub number : Says Rattle.leaves.proofs.refusals.number.Reads.Learnt (λ κ a r e. r ≡ number_of (first a))
  -- sanitise::sanitise_into(store, at, text, key)
  pub sanitise_into : Says Rattle.leaves.proofs.sanitise.sanitise_into.Reads.Learnt (λ κ a r e. (r ≡ length (sanitised (fourth a) (third a).now)) × ((first e).now ≡ pasted (first a).now (second a) (sanitised (fourth a) (third a).now)))
  -- sanitise::sanitised_length(text, key)
  pub sanitised_length : Says Rattle.leaves.proofs.sanitise.sanitised_length.Reads.Learnt (λ κ a r e. r ≡ length (sanitised (second a) (first a).now))
  -- sanitise::matches_sanitised(name, raw)
  pub matches_sanitised : Says Rattle.leaves.proofs.sanitise.matches_sanitised.Reads.Learnt (λ κ a r e. r ≡ same_name (first a).now (sanitised true (second a).now))
  -- trims::trim_bounds(line)
  pub trim_bounds : Says Rattle.leaves.proofs.trims.trim_bounds.Reads.Learnt (λ κ a r e. Trimming (first a).now r)
  -- trims::trim(line)
  pub trim : Says Rattle.leaves.proofs.trims.trim.Reads.Learnt (λ κ a r e. Trimmed (first a).now (first a).ref_ptr r.now r.ref_ptr)
  -- lines
  -- find_octet(s, from, wanted)
  pub find_octet : Says Rattle.lines.proofs.find_octet.Reads.Learnt (λ κ a r e. r ≡ (second a) + before (third a) (drop (second a) (first a).now))
  -- before_within(s, at, n, wanted)
  pub before_within : Says Rattle.lines.proofs.before_within.Reads.Learnt (λ κ a r e. r ≡ before (fourth a) (take (third a) (drop (second a) (first a).now)))
  -- copy_in(out, text)
  pub copy_in : Says Rattle.lines.proofs.copy_in.Reads.Learnt (λ κ a r e. (first e).now ≡ pasted (first a).now 0 (second a).now)
  -- is_tight(line, c)
  pub is_tight_call : Says Rattle.lines.proofs.is_tight.Reads.Learnt (λ κ a r e. r ≡ tight (second a) (first a).now)
  -- take_line(piece, from, block, count, limit, line_start, quirks)
  pub take_line : Says Rattle.lines.proofs.take_line.Reads.Learnt (λ κ a r e. Takes (seventh a) (cr_before (third a).now (sixth a) (fourth a)) ((fifth a) - (fourth a)) (fourth a) (drop (second a) (first a).now) (third a).now (third e).now r)
  -- standard
  -- names::name_of(header)
  pub name_of_call : Says Rattle.standard.proofs.names.name_of.Reads.Learnt (λ κ a r e. r.now ≡ name_of (first a))
  -- names::is_named(text, header)
  pub is_named : Says Rattle.standard.proofs.names.is_named.Reads.Learnt (λ κ a r e. r ≡ same_name (first a).now (name_of (second a)))
  -- types::record_type(name)
  pub record_type : Says Rattle.standard.proofs.types.record_type.Reads.Learnt (λ κ a r e. r ≡ type_code (first a).now)
