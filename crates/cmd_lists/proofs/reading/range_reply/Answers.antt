use Rattle.std.proofs.Common.{◌≡◌, length, sym, ◌∙◌, subst, arith}
use Rattle.std.specs.Int.{w64}
use Rattle.std.proofs.lemmas.Int.{to_z-of_z}
use Rattle.quicklist.specs.Chain.{elements}
use Rattle.plain_world.specs.Parts.{IsReply}
use Rattle.plain_model.specs.ListSteps.{listed, list_range}
use Rattle.cmd_lists.proofs.Ranges.{range_listed, listed_is_reply}
use Rattle.cmd_lists.proofs.reading.range_reply.Goals as goal

listed_here : (g : _) (c : goal.In_ok-push_elements g) → c.push_elements.new.parts ≡ listed (list_range (elements (g.B.BlockStore.blocks c.args.store.now) c.args.list.now) c.args.a c.args.b)
listed_here g c =
    let list = elements (g.B.BlockStore.blocks c.args.store.now) c.args.list.now in
    let size : length list ≡ c.len.result = omega (arith, c.len.ensures, c.requires.quick.counted) in
    let range = c.reach_of-first.ensures.range list size in
    range_listed list c.args.a c.args.b c.reach_of-first.result.0 c.reach_of-first.result.1 _ c.push_elements.new.parts
    (omega (arith, c.reach_of-first.ensures.inside, size)) (rw (to_z-of_z w64 c.args.a c.ranges.a, to_z-of_z w64 c.args.b c.ranges.b) at range) c.in_ok-reply.ensures
    c.in_ok-push_elements.ensures

pub into_reply-requires : goal.into_reply-requires
into_reply-requires g c = subst IsReply (sym (listed_here g c)) (listed_is_reply (list_range (elements (g.B.BlockStore.blocks c.args.store.now) c.args.list.now) c.args.a c.args.b))

pub returns : goal.returns
returns g c = c.into_reply.ensures ∙ listed_here g c.before
