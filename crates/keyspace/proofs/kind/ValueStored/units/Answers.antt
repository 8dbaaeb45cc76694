use Rattle.std.proofs.Common.{◌≡◌, ◌+◌, ◌≤◌, ℕ, length, ◌∙◌, arith, subst, sym, ap}
use Rattle.std.specs.Prelude.{min}
use Rattle.std.proofs.lemmas.Grind.{common_steps}
use Rattle.std.proofs.lemmas.List.FromFn.{length-range_with_len}
use Rattle.string_object.specs.Text.{text_refs}
use Rattle.quicklist.specs.Chain.{refs}
use Rattle.stream_object.specs.Streams as stream
use Rattle.keyspace.specs.Values.{value_marks, IsSound}
use Rattle.keyspace.proofs.Moving.{refs_few, text_marks}
use Rattle.keyspace.proofs.kind.ValueStored.units.Goals as goal

is_min : (n most : ℕ) → n ≤ most → n ≡ min n most
is_min n most few = grind (arith, common_steps, few)

alone : (n : ℕ) → n ≡ n + 0
alone n = omega arith

pub returns-in-Text : goal.returns-in-Text
returns-in-Text c limits seed m sound =
    let many = text_marks (text_refs c.in-Text.text) in
    let few = refs_few c.in-Text.text in
    subst (λ v. c.block_count.result ≡ min (length (value_marks m v).named + length (value_marks m v).vacant) 4294967295) (sym c.in-Text.is)
    (is_min c.block_count.result 4294967295 (omega (arith, c.block_count.ensures, few)) ∙ ap (λ n. min n 4294967295) (omega (arith, c.block_count.ensures, many)))

pub returns-in-List : goal.returns-in-List
returns-in-List c limits seed m sound =
    let many = length-range_with_len 0 (length (refs c.in-List.list.value)) in
    subst (λ v. c.min.result ≡ min (length (value_marks m v).named + length (value_marks m v).vacant) 4294967295) (sym c.in-List.is)
    (c.min.ensures ∙ ap (λ n. min n 4294967295) (omega (arith, c.nodes.ensures, many, ap (λ q. length (refs q)) c.deref.ensures)))

pub returns-in-Stream : goal.returns-in-Stream
returns-in-Stream c limits seed m sound =
    let log = c.in-Stream.log.value in
    let own = c.deref-in-Stream.result.now in
    let same : own ≡ log = (let e = c.deref-in-Stream.ensures in cc) in
    let is_stream : stream.IsStream m log = subst (IsSound limits seed m) c.in-Stream.is sound in
    let counted = c.units-in-Stream.ensures m (subst (stream.IsStream m) (sym same) is_stream) in
    subst (λ v. c.units-in-Stream.result ≡ min (length (value_marks m v).named + length (value_marks m v).vacant) 4294967295) (sym c.in-Stream.is)
    (counted ∙ ap (λ n. min n 4294967295) (ap (λ s. length (stream.marks m s)) same ∙ alone (length (stream.marks m log))))
