use Rattle.std.proofs.Common.{refl, subst}
use Rattle.stream_node.specs.Node.{IsHead}
use Rattle.stream_node.specs.Rest.{rest_of}
use Rattle.stream_node.specs.Reading.{master_of}
use Rattle.listpack.specs.View.{list_of}
use Rattle.stream_node.proofs.Lists.{Texts}
use Rattle.stream_node.proofs.OneNode.{not_both}
use Rattle.stream_node.specs.Entries.{entries_of}
use Rattle.stream_node.proofs.node.check.Goals as goal

pub opened-requires : goal.opened-requires
opened-requires c =
    let head = c.in-Some.head in
    c.in-Ok.ensures.ok (list_of c.args.pack.now) (subst (λ (x : Texts). IsHead x head.live head.deleted (master_of head) (rest_of c.in-Some.first)) c.all.ensures c.in-Some.ensures.some)

pub returns-in-Ok-clause-ok : goal.returns-in-Ok-clause-ok
returns-in-Ok-clause-ok c =
    let head = c.in-Some.head in (
      λ _. c.in-Ok.ensures.ok (list_of c.args.pack.now) (subst (λ (x : Texts). IsHead x head.live head.deleted (master_of head) (rest_of c.in-Some.first)) c.all.ensures c.in-Some.ensures.some),
      λ _. refl,
    )

pub returns-in-Err-clause-fault : goal.returns-in-Err-clause-fault
returns-in-Err-clause-fault c =
    let head = c.in-Some.head in
    c.in-Err.ensures.fault (list_of c.args.pack.now) (subst (λ (x : Texts). IsHead x head.live head.deleted (master_of head) (rest_of c.in-Some.first)) c.all.ensures c.in-Some.ensures.some)

pub returns-in-Err-clause-ok : goal.returns-in-Err-clause-ok
returns-in-Err-clause-ok c = (
  λ f. let never : ⊥ = cc in absurd never,
  λ node. absurd (not_both c.args.key (list_of c.args.pack.now) (entries_of c.args.key (list_of c.args.pack.now)) c.in-Err.fault node (returns-in-Err-clause-fault c)),
)
