use Rattle.std.proofs.Common.{◌≡◌, ◌<◌, ◌^◌, false, length, ap, subst, ◌∙◌, arith}
use Rattle.listpack.specs.Pack.{texts}
use Rattle.stream_node.specs.Entry.{flags}
use Rattle.stream_node.specs.Node.{IsHead}
use Rattle.stream_node.specs.Entries.{entries_of}
use Rattle.stream_node.specs.Rest.{rest_of}
use Rattle.stream_node.specs.Reading.{master_of}
use Rattle.stream_node.proofs.Lists.{Texts}
use Rattle.stream_node.proofs.Same.{few_flags}
use Rattle.stream_node.proofs.Sizes.{few_left}
use Rattle.stream_node.proofs.Markings.{node_behind, get_inside, found, marks_are, rest_inside}
use Rattle.stream_node.proofs.marking.marks_of.Goals as goal

pub unreachable-requires-in_default-skip_entries : goal.unreachable-requires-in_default-skip_entries
unreachable-requires-in_default-skip_entries c =
    let list = texts c.args.pack.now in
    let is : rest_of c.all-all.result ≡ list = c.all-all.ensures ∙ ap texts c.known.ensures in
    let short : length list < 2 ^ 32 = subst (λ (x : Texts). length x < 2 ^ 32) is (few_left c.all-all.result) in
    let live = c.in-Some.head.live in
    let deleted = c.in-Some.head.deleted in
    let master = master_of c.in-Some.head in
    let first = rest_of c.in-Some.first in
    let head = subst (λ (x : Texts). IsHead x live deleted master first) is c.in-Some.ensures.some in
    let key = c.requires.entry.0 in
    let can = c.requires.entry.1 in
    let es = entries_of key list in
    let n = node_behind key list es live deleted master first can.node head in
    let inside = get_inside es c.args.index can.entry can.there in
    c.in_default-skip_entries.ensures.none key es n.begins (omega (arith, inside))

pub overflow_sub-result : goal.overflow_sub-result
overflow_sub-result c =
    let list = texts c.args.pack.now in
    let is : rest_of c.all-all.result ≡ list = c.all-all.ensures ∙ ap texts c.known.ensures in
    let short : length list < 2 ^ 32 = subst (λ (x : Texts). length x < 2 ^ 32) is (few_left c.all-all.result) in
    let live = c.in-Some.head.live in
    let deleted = c.in-Some.head.deleted in
    let master = master_of c.in-Some.head in
    let first = rest_of c.in-Some.first in
    let head = subst (λ (x : Texts). IsHead x live deleted master first) is c.in-Some.ensures.some in
    let key = c.requires.entry.0 in
    let can = c.requires.entry.1 in
    let f = found key list c.args.index live deleted master first can head short in
    let few = rest_inside key list (rest_of c.in-Some-skip_entries.rest) c.args.index live deleted master first (entries_of key list) f c.in-Some-skip_entries.ensures.some in
    omega (arith, few, c.len-in-Some-split_count.ensures, c.len.ensures, ap length is)

pub overflow_sub-result-in-Some-split_count : goal.overflow_sub-result-in-Some-split_count
overflow_sub-result-in-Some-split_count c =
    let list = texts c.args.pack.now in
    let is : rest_of c.all-all.result ≡ list = c.all-all.ensures ∙ ap texts c.known.ensures in
    let short : length list < 2 ^ 32 = subst (λ (x : Texts). length x < 2 ^ 32) is (few_left c.all-all.result) in
    let live = c.in-Some.head.live in
    let deleted = c.in-Some.head.deleted in
    let master = master_of c.in-Some.head in
    let first = rest_of c.in-Some.first in
    let head = subst (λ (x : Texts). IsHead x live deleted master first) is c.in-Some.ensures.some in
    let key = c.requires.entry.0 in
    let can = c.requires.entry.1 in
    let f = found key list c.args.index live deleted master first can head short in
    f.some_live

pub unreachable-requires-in-None : goal.unreachable-requires-in-None
unreachable-requires-in-None c =
    let list = texts c.args.pack.now in
    let is : rest_of c.all-all.result ≡ list = c.all-all.ensures ∙ ap texts c.known.ensures in
    let short : length list < 2 ^ 32 = subst (λ (x : Texts). length x < 2 ^ 32) is (few_left c.all-all.result) in
    let live = c.in-Some.head.live in
    let deleted = c.in-Some.head.deleted in
    let master = master_of c.in-Some.head in
    let first = rest_of c.in-Some.first in
    let head = subst (λ (x : Texts). IsHead x live deleted master first) is c.in-Some.ensures.some in
    let key = c.requires.entry.0 in
    let can = c.requires.entry.1 in
    let f = found key list c.args.index live deleted master first can head short in
    c.in-None.ensures.none (flags false f.same) f.tail (few_flags false f.same) (c.in-Some-skip_entries.ensures.some ∙ f.place)

pub returns-clause-short : goal.returns-clause-short
returns-clause-short c =
    let list = texts c.args.pack.now in
    let is : rest_of c.all-all.result ≡ list = c.all-all.ensures ∙ ap texts c.known.ensures in
    let short : length list < 2 ^ 32 = subst (λ (x : Texts). length x < 2 ^ 32) is (few_left c.all-all.result) in
    short

pub returns-clause-marks : goal.returns-clause-marks
returns-clause-marks c =
    let list = texts c.args.pack.now in
    let is : rest_of c.all-all.result ≡ list = c.all-all.ensures ∙ ap texts c.known.ensures in
    let short : length list < 2 ^ 32 = subst (λ (x : Texts). length x < 2 ^ 32) is (few_left c.all-all.result) in
    let live = c.in-Some.head.live in
    let deleted = c.in-Some.head.deleted in
    let master = master_of c.in-Some.head in
    let first = rest_of c.in-Some.first in
    let head = subst (λ (x : Texts). IsHead x live deleted master first) is c.in-Some.ensures.some in
    let key = c.requires.entry.0 in
    let can = c.requires.entry.1 in
    let f = found key list c.args.index live deleted master first can head short in
    let rest = rest_of c.in-Some-skip_entries.rest in
    marks_are key list rest (rest_of c.in-Some-split_count.field-0-1) c.args.index live deleted c.in-Some-split_count.flags _ master first (entries_of key list) head f
    c.in-Some-skip_entries.ensures.some c.in-Some-split_count.ensures.some c.in-Some-split_count.ensures.small (omega (arith, c.len-in-Some-split_count.ensures, c.len.ensures, ap length is))
