use Rattle.std.proofs.Common.{sym, subst}
use Rattle.blocks.specs.Blocks.{no_step}
use Rattle.blocks.proofs.Serve.{served_once}
use Rattle.rehash_dict.specs.Tables.{IsSettled}
use Rattle.rehash_dict.specs.Keyed.{key_tables}
use Rattle.rehash_dict.proofs.Settled.{shrunk_settled}
use Rattle.set_object.proofs.Hashing.{taken_keyed, taken_hashed}
use Rattle.set_object.proofs.hashed.unhash_member.Goals as goal

pub returns-in_err-shrink-in-Some-clause-hashed : goal.returns-in_err-shrink-in-Some-clause-hashed
returns-in_err-shrink-in-Some-clause-hashed g c = λ _.
    let m = g.B.BlockStore.blocks c.args.store.now in
    let n = g.B.BlockStore.blocks c.give_back.new.self in
    let k = taken_keyed m n c.args.table.now c.remove.new.self c.shrink.new.self c.args.member.now c.in-Some.taken c.requires.keyed c.in-Some.ensures.removed c.in-Some.ensures.keyed
    c.give_back.ensures.ended in
    taken_hashed m n c.args.table.now c.remove.new.self c.shrink.new.self c.args.member.now c.in-Some.taken c.requires.keyed c.in-Some.ensures.removed c.in-Some.ensures.keyed c.give_back.ensures.ended
    c.remove.ensures.map c.remove.ensures.grown (c.shrink.ensures.keyed n k) c.shrink.ensures.items c.shrink.ensures.seed (c.shrink.ensures.map n) (c.shrink.ensures.grown n)

pub returns-in_err-shrink-in-Some-clause-served : goal.returns-in_err-shrink-in-Some-clause-served
returns-in_err-shrink-in-Some-clause-served g c = served_once _ _ c.give_back.ensures.step

pub returns-in_ok-shrink-in-Some-clause-hashed : goal.returns-in_ok-shrink-in-Some-clause-hashed
returns-in_ok-shrink-in-Some-clause-hashed g c = λ _.
    let m = g.B.BlockStore.blocks c.args.store.now in
    let n = g.B.BlockStore.blocks c.give_back.new.self in
    let k = taken_keyed m n c.args.table.now c.remove.new.self c.shrink.new.self c.args.member.now c.in-Some.taken c.requires.keyed c.in-Some.ensures.removed c.in-Some.ensures.keyed
    c.give_back.ensures.ended in
    taken_hashed m n c.args.table.now c.remove.new.self c.shrink.new.self c.args.member.now c.in-Some.taken c.requires.keyed c.in-Some.ensures.removed c.in-Some.ensures.keyed c.give_back.ensures.ended
    c.remove.ensures.map c.remove.ensures.grown (c.shrink.ensures.keyed n k) c.shrink.ensures.items c.shrink.ensures.seed (c.shrink.ensures.map n) (c.shrink.ensures.grown n)

pub returns-in_ok-shrink-in-Some-clause-served : goal.returns-in_ok-shrink-in-Some-clause-served
returns-in_ok-shrink-in-Some-clause-served g c = served_once _ _ c.give_back.ensures.step

pub returns-in_ok-shrink-in-Some-clause-settled : goal.returns-in_ok-shrink-in-Some-clause-settled
returns-in_ok-shrink-in-Some-clause-settled g c = λ _.
    let n = g.B.BlockStore.blocks c.give_back.new.self in
    subst IsSettled (sym (c.in_ok-shrink-in-Some.ensures.tables n)) (shrunk_settled (key_tables n c.remove.new.self))

pub returns-in-None-clause-served : goal.returns-in-None-clause-served
returns-in-None-clause-served g c = no_step
