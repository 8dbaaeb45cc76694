use Rattle.std.proofs.Common.{◌≡◌, ◌++◌, map, take, sym, ap, subst, ◌∙◌}
use Rattle.std.specs.List.{filter}
use Rattle.stream_object.specs.Streams.{entries, pair_of}
use Rattle.stream_object.specs.Ranges.{taken}
use Rattle.plain_world.specs.Parts.{IsReply}
use Rattle.plain_model.specs.StreamSteps.{is_between, met, listed}
use Rattle.cmd_streams.proofs.Replies.{is_reply, listed_one}
use Rattle.cmd_streams.proofs.reading.range_reply.Goals as goal

listed_here : (g : _) (c : goal.In_ok-push_entries g) → c.push_entries.new.parts ≡ listed
    (take c.args.limit (met c.args.order (filter (is_between c.args.from c.args.to) (entries (g.B.BlockStore.blocks c.args.store.now) c.args.stream.now))))
listed_here g c =
    let all = entries (g.B.BlockStore.blocks c.args.store.now) c.args.stream.now in
    let to = pair_of c.id_of-2.result in
    c.in_ok-push_entries.ensures
    ∙ ap (λ l. l ++ listed (map taken c.as_slice.result.now)) c.new-parts.ensures
    ∙ ap (λ l. listed (map taken l)) c.as_slice.ensures.value
    ∙ ap listed (c.in_ok-found.ensures ∙ ap (take c.args.limit) (c.is_back.ensures (filter (is_between (pair_of c.id_of.result) to) all)))
    ∙ ap (λ id. listed (take c.args.limit (met c.args.order (filter (is_between id to) all)))) c.id_of.ensures
    ∙ ap (λ id. listed (take c.args.limit (met c.args.order (filter (is_between c.args.from id) all)))) c.id_of-2.ensures

pub into_reply-requires : goal.into_reply-requires
into_reply-requires g c =
    let all = entries (g.B.BlockStore.blocks c.args.store.now) c.args.stream.now in
    let list = take c.args.limit (met c.args.order (filter (is_between c.args.from c.args.to) all)) in
    subst IsReply (sym (listed_here g c)) (is_reply (listed list) (listed_one list))

pub returns : goal.returns
returns g c = c.into_reply.ensures ∙ listed_here g c.before.before
