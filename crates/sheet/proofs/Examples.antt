-- The worked examples, by computation.
use mathlib.Core.Path.{refl}
use Rattle.sheet.specs.Rfc4180.{textdata}
use Rattle.sheet.specs.Reading.{textual, quoted, field, same, kind_named, number, argument, arguments, ended, row, rows_from}
use Rattle.mtas.specs.Record.{encode_call}
use Rattle.sheet.specs.Converted.{records, converted}
use Rattle.sheet.specs.Examples.{Examples}

pub examples : Examples
unfolding textdata textual quoted field same kind_named number argument arguments ended row rows_from encode_call records converted
examples = record {
  all_words = refl;
  upper_case = refl;
  longer_word = refl;
  shorter_word = refl;
  no_word = refl;
  header = refl;
  two_rows = refl;
  bare_lf = refl;
  bare_cr = refl;
  lf_cr = refl;
  lf_at_the_end = refl;
  cr_at_the_end = refl;
  nul_at_the_end = refl;
  third_line = refl;
  without_crlf = refl;
  with_crlf = refl;
  last_without_crlf = refl;
  empty_file = refl;
  blank_line = refl;
  blank_first = refl;
  blank_between = refl;
  blank_last = refl;
  no_comma = refl;
  another_separator = refl;
  no_number = refl;
  comma_behind = refl;
  filled_up = refl;
  one_filled_up = refl;
  comma_before_crlf = refl;
  one_too_many = refl;
  one_too_few = refl;
  space_in_front = refl;
  space_before_number = refl;
  space_behind = refl;
  all_quoted = refl;
  word_quoted = refl;
  last_quoted = refl;
  quote_inside = refl;
  quote_behind = refl;
  unclosed = refl;
  unclosed_over_lines = refl;
  text_behind_a_quote = refl;
  space_behind_a_quote = refl;
  space_before_a_quote = refl;
  word_partly_quoted = refl;
  number_partly_quoted = refl;
  quotes_inside = refl;
  empty_word = refl;
  empty_number = refl;
  comma_in_quotes = refl;
  crlf_in_quotes = refl;
  row_in_quotes = refl;
  doubled_quote = refl;
  doubled_at_the_end = refl;
  three_quotes = refl;
  plain_field = refl;
  lowest_and_highest = refl;
  control = refl;
  no_field = refl;
  quoted_field = refl;
  one_quote_of_two = refl;
  a_quote_alone = refl;
  empty_quoted = refl;
  never_closed = refl;
  control_in_quotes = refl;
  lowest = refl;
  last_digit = refl;
  two_digits = refl;
  highest = refl;
  above = refl;
  far_above = refl;
  leading_zero = refl;
  two_zeros = refl;
  plus = refl;
  letter = refl;
  marks = refl;
  user_bytes = refl;
  role_bytes = refl;
  perm_bytes = refl;
  trust_bytes = refl;
  give_bytes = refl;
  grant_bytes = refl;
  attach_bytes = refl;
  two_left = refl;
  just_enough = refl;
  one_missing = refl;
  wrong_second = refl;
  caller_sixteen = refl;
}
