use Rattle.std.proofs.Common.{◌≡◌, ◌<◌, ◌^◌, ◌↔◌, length, drop}
use Rattle.std.specs.Str.Parse.{AllDigits, digits_value, digits_value_after}
use Rattle.int_text.proofs.decimal.read_u64.Given as goal

abbrev pub invariant-loop-byte : goal.invariant-loop-byte
invariant-loop-byte l = record {
  some : 0 < length l.text;
  small : l.number < 2 ^ 64;
  value : digits_value_after 10 l.number (drop l.byte-index l.text) ≡ digits_value 10 l.text;
  digits : AllDigits 10 l.text ↔ AllDigits 10 (drop l.byte-index l.text);
}
