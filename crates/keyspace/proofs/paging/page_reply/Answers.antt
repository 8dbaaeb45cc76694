use Rattle.keyspace.proofs.PageParts.{paged_parts, paged_reply}
use Rattle.keyspace.proofs.paging.page_reply.Goals as goal

pub into_reply-requires : goal.into_reply-requires
into_reply-requires c = paged_reply c.args.next c.args.words.items _
    (paged_parts c.args.next _ c.args.words.items _ _ _ _ c.new-parts.ensures c.in_ok-push.ensures.ok c.in_ok-cursor_text.ensures.text c.in_ok-push-2.ensures.ok c.in_ok-push_names.ensures)
