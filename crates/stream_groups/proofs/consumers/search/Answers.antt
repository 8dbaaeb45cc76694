use Rattle.std.proofs.Common.{rules, ◌≡◌}
use Rattle.std.proofs.lemmas.Fn.{answers_by}
use Rattle.stream_groups.specs.Groups.{name_cmp}
use Rattle.stream_groups.specs.Consumers.{Name, bytes_of}
use Rattle.stream_groups.proofs.Gaps.{searched}
use Rattle.stream_groups.proofs.consumers.search.Goals as goal

-- each call of the closure compares with this name
pub returns : goal.returns
returns c =
    let facts = c.binary_search_by.ensures in
    searched c.args.names.now c.args.name.now c.requires c.binary_search_by.result facts.bound
    (facts.position (λ (known : Name). name_cmp (bytes_of known) c.args.name.now)
    (answers_by _ _ (λ f. f.0.now ≡ c.args.name.now) (λ f a r g called same. (search rules, search rules)) _ (search rules)))
