use Rattle.std.proofs.Common.{◌≡◌, ◌≤◌, drop, take}
use Rattle.plain_world.proofs.Numerals.{read_on, AreDigits}
use Rattle.resp_frames.proofs.number.small_number.Given as goal

abbrev pub invariant-loop-b : goal.invariant-loop-b
invariant-loop-b l = record {
  value : read_on l.n (drop l.b-index l.text) ≡ read_on 0 l.text;
  digits : AreDigits (take l.b-index l.text);
  small : l.n ≤ l.most;
}
