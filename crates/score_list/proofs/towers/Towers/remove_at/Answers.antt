use Rattle.std.proofs.Common.{◌-◌, refl, arith}
use Rattle.score_list.specs.Linked.{order, without_at}
use Rattle.score_list.proofs.Threading.{all_kept}
use Rattle.score_list.proofs.Joins.{linked_is, left_as, left_items, has_entry}
use Rattle.score_list.proofs.Ranges.{path_stays}
use Rattle.score_list.proofs.towers.Towers.remove_at.Goals as goal

pub remove-requires : goal.remove-requires
remove-requires c = has_entry c.unthread.new.self (order c.args.self.now) c.args.rank c.args.key
    (all_kept c.args.self.now c.unthread.new.self (order c.args.self.now) c.unthread.ensures.keeps.heights c.requires.linked.based) c.requires.rank c.requires.key

pub returns-clause-linked : goal.returns-clause-linked
returns-clause-linked c =
    linked_is _ (without_at (order c.args.self.now) c.args.rank)
    (left_as c.args.self.now c.unthread.new.self (record c.unthread.new.self { slab = c.remove.new.self; len = c.unthread.new.self.len - 1 }) c.args.key c.args.rank c.requires.linked
    c.unthread.ensures c.requires.rank c.requires.key refl c.remove.ensures.updates.others (omega (arith, c.unthread.ensures.keeps.len, c.requires.linked.counted, c.requires.rank)))

pub returns-clause-items : goal.returns-clause-items
returns-clause-items c =
    left_items c.args.self.now c.unthread.new.self (record c.unthread.new.self { slab = c.remove.new.self; len = c.unthread.new.self.len - 1 }) c.args.key c.args.rank c.requires.linked
    c.unthread.ensures c.requires.rank c.requires.key refl c.remove.ensures.updates.others (omega (arith, c.unthread.ensures.keeps.len, c.requires.linked.counted, c.requires.rank))

pub returns-clause-path : goal.returns-clause-path
returns-clause-path c =
    path_stays c.args.self.now c.unthread.new.self (record c.unthread.new.self { slab = c.remove.new.self; len = c.unthread.new.self.len - 1 }) c.args.key c.args.rank c.requires.linked
    c.unthread.ensures c.requires.rank c.requires.key refl c.remove.ensures.updates.others (omega (arith, c.unthread.ensures.keeps.len, c.requires.linked.counted, c.requires.rank)) c.args.path.now
    c.requires.path
