use Rattle.std.proofs.Common.{◌∙◌, [], ◌++◌, length, sym, ap, subst, arith}
use Rattle.stream_object.specs.Parts.{entries_in}
use Rattle.stream_object.specs.Streams.{AreUpto}
use Rattle.stream_object.proofs.Parts.{blank, parts_are, its_own, refs_are}
use Rattle.stream_object.proofs.stream.Stream.new.Goals as goal

pub returns-clause-is_stream : goal.returns-clause-is_stream
returns-clause-is_stream c m =
    let h = blank m c.new.result (c.new.ensures.sound m) (c.new.ensures.entries m) (c.new.ensures.refs m) in
    let none = parts_are m c.new.result [] h in
    record {
      parts = its_own m c.new.result [] h;
      counted = sym (ap (λ ps. length (entries_in ps)) none);
      fits = record { ms = omega arith; seq = omega arith };
      upto = subst (AreUpto (record { ms = 0; seq = 0 })) (sym none) tt;
      kept = tt;
    }

pub returns-clause-empty : goal.returns-clause-empty
returns-clause-empty c m =
    let h = blank m c.new.result (c.new.ensures.sound m) (c.new.ensures.entries m) (c.new.ensures.refs m) in
    λ i. record { entries = ap entries_in (parts_are m c.new.result [] h) i; last = (0, 0); deleted = (0, 0); added = 0; groups = c.new-2.ensures i }

pub returns-clause-refs : goal.returns-clause-refs
returns-clause-refs c m =
    let h = blank m c.new.result (c.new.ensures.sound m) (c.new.ensures.entries m) (c.new.ensures.refs m) in
    refs_are m c.new.result [] h ∙ ap (λ rs. rs ++ []) (c.new.ensures.refs m)
