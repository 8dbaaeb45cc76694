use Rattle.std.proofs.Common.{◌≡◌, List, ℕ, None, sym, ap, ◌∙◌, arith}
use Rattle.pack_pairs.specs.Pairs.{pairs, second_of}
use Rattle.hash_object.proofs.Placing.{pack_room}
use Rattle.hash_object.proofs.Whole.{put_more}
use Rattle.hash_object.proofs.taking.put_elements.Goals as goal

pub put_pair-requires-clause-fits : goal.put_pair-requires-clause-fits
put_pair-requires-clause-fits c =
    let both = c.may_follow.ensures.0 c.if-not-may_follow.false in
    pack_room c.args.limits.now c.args.count c.args.pack.items c.text-first.result.now c.text-second.result.now c.requires.range c.requires.pack (omega (arith, both.0, c.requires.range.hash_value))

pub returns-in-Ok-clause-pack : goal.returns-in-Ok-clause-pack
returns-in-Ok-clause-pack c =
    let k = c.text-first.result.now in
    let both = c.may_follow.ensures.0 c.if-not-may_follow.false in
    let out : second_of k (pairs c.args.pack.items) ≡ None = ap (λ (bs : List ℕ). second_of k (pairs bs)) (sym c.deref.ensures.value) ∙ both.1 in
    (put_more c.args.limits.now c.args.count c.args.pack.items c.in-Ok.new.items k c.text-second.result.now c.requires.pack c.requires.few both.0 out c.in-Ok.ensures.pack c.in-Ok.ensures.list).0
