use Rattle.std.proofs.Common.{subst, sym, ap, ◌∙◌, IsSome}
use Rattle.std.specs.Prelude.{◌++◌}
use Rattle.rehash_dict.specs.Table.{item}
use Rattle.plain_model.specs.Scans.{listed}
use Rattle.keyspace.proofs.PageParts.{listed_reply}
use Rattle.cmd_keys.proofs.Paging.{keys_told}
use Rattle.cmd_keys.proofs.keys.scanning.keys_like.Goals as goal

pub into_reply-requires : goal.into_reply-requires
into_reply-requires g c = listed_reply c.in_ok-names.names.items _ _ c.new-parts.ensures c.in_ok-push_names.ensures

pub returns : goal.returns
returns g c =
    keys_told c.args.keyspace.now.bases (g.B.BlockStore.blocks c.args.keyspace.now.store) c.args.at.now c.requires.ready.db c.requires.ready.sound c.args.pattern.now _ c.new.ensures c.top.result
    (λ i some. c.top.ensures.above i (subst (λ t. IsSome (item t i)) (sym c.table.ensures) some)) c.in_ok-names.names.items c.in_ok-names.ensures c.into_reply.result
    (c.into_reply.ensures ∙ c.in_ok-push_names.ensures ∙ ap (λ l. l ++ listed c.in_ok-names.names.items) c.new-parts.ensures)
