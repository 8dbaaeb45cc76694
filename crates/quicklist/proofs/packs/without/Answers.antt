use Rattle.std.proofs.Common.{sym, subst}
use Rattle.quicklist.specs.Nodes.{IsPacked}
use Rattle.quicklist.proofs.Written.{cut_is}
use Rattle.quicklist.proofs.packs.without.Goals as goal

pub returns-clause-packed : goal.returns-clause-packed
returns-clause-packed c =
    cut_is c.in_ok-pack.pack.items c.remove_range.new.pack.items c.args.from c.args.to _ c.requires.order (subst IsPacked (sym c.in_ok-pack.ensures.items) c.requires.packed)
    c.remove_range.ensures.entries c.remove_range.ensures.list
