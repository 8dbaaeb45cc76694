use Rattle.std.proofs.Common.{List, ℕ, length, sym, ap, subst, arith, ◌≡◌}
use Rattle.std.specs.Prelude.{IfOk}
use Rattle.std.specs.List.{insert as inserted}
use Rattle.pack_pairs.specs.Pairs.{IsPairPack, FitsPair, pairs}
use Rattle.pack_pairs.proofs.edits.with_pair.Goals as goal

pub put_pair-requires-clause-pack : goal.put_pair-requires-clause-pack
put_pair-requires-clause-pack c = subst IsPairPack (sym c.in_ok-pack.ensures.items) c.requires.pack

pub put_pair-requires-clause-index : goal.put_pair-requires-clause-index
put_pair-requires-clause-index c = omega (arith, c.requires.index, ap (λ (bs : List ℕ). length (pairs bs)) c.in_ok-pack.ensures.items)

pub put_pair-requires-clause-fits : goal.put_pair-requires-clause-fits
put_pair-requires-clause-fits c = subst (λ (bs : List ℕ). FitsPair bs c.args.first.now c.args.second.now) (sym c.in_ok-pack.ensures.items) c.requires.fits

pub returns-clause-list : goal.returns-clause-list
returns-clause-list c =
    subst (λ (bs : List ℕ). IfOk c.put_pair.result (λ new. pairs new.items ≡ inserted (pairs bs) c.args.index (c.args.first.now, c.args.second.now))) c.in_ok-pack.ensures.items c.put_pair.ensures.list
