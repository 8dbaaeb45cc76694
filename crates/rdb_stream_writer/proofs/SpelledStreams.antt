-- A stream is spelled.
use Rattle.std.proofs.Common.{◌≡◌, ℕ, ◌<◌, ◌^◌, List, [], ◌++◌, refl, sym, subst, arith}
use Rattle.std.proofs.lemmas.List.{append-nil}
use Rattle.std.specs.Prelude.{Result, Ok, Err, OnOk}
use Rattle.std.specs.List.{AllByRecursion}
use Rattle.std.specs.FinMap.{entries, len}
use Rattle.blocks.specs.Blocks.{Blocks}
use Rattle.plain_world.specs.Streams.{Stream, StreamEntry}
use Rattle.plain_world.specs.Worlds.{StreamOf}
use Rattle.stream_object.specs.declared.stream.Stream.{Stream as Log}
use Rattle.stream_object.specs.Streams.{IsStream, nodes, stream_of}
use Rattle.fit_worlds.specs.Fit.{IsFitStream}
use Rattle.rdb_grammar.specs.declared.values.StreamType.TheVariants as types
use Rattle.rdb_grammar.specs.StreamParts.{no_nodes, with_node, counted, marks}
use Rattle.rdb_stream_writer.specs.Ids.{counted_by}
use Rattle.rdb_stream_writer.specs.Groups.{group_word, IsStoredGroup}
use Rattle.rdb_stream_writer.specs.Nodes.{node_word}
use Rattle.rdb_stream_writer.specs.Streams.{marks_word, stream_word, AreStoredMarks, SpellsStream}
use Rattle.rdb_stream_writer.proofs.SpelledParts.{counted_spelled}
use Rattle.rdb_stream_writer.proofs.SpelledGroups.{groups_spelled}
use Rattle.rdb_stream_writer.proofs.SpelledNodes.{Noded, nodes_spelled, few_nodes, upto_last, marks_of, marks_spelled}

pub stream_spelled : (m : Blocks) (s : Log) (moment : ℕ) → IsStream m s → IsFitStream (stream_of m s) → AreStoredMarks (stream_of m s) → len s.groups < 2 ^ 64 → AllByRecursion IsStoredGroup (entries s.groups)
    → SpellsStream (stream_of m s) (stream_word moment (nodes m s) (stream_of m s))
stream_spelled m s moment is fit stored few groups =
    let value : Stream = stream_of m s in
    let ps = nodes m s in
    let n : Noded m ps no_nodes = nodes_spelled m ps no_nodes is.parts.each is.parts.rising tt in
    let front = counted_by node_word ps in
    let back = counted_by (group_word moment) (entries s.groups) in
    let nodes_are : (counted with_node no_nodes).Spells n.final front = counted_spelled with_node node_word ps no_nodes n.final (omega (arith, few_nodes m ps is.parts.each, stored.count_fits)) n.spelled in
    let marks_are : (marks types.Third n.final.entries).Spells (marks_of value) (marks_word value) =
    subst (λ (es : List StreamEntry). (marks types.Third es).Spells (marks_of value) (marks_word value)) (sym n.entries)
    (marks_spelled value stored (upto_last m s.last is.fits ps is.parts.each is.upto)) in
    let groups_are = groups_spelled moment s.groups groups fit.groups few in
    let same : StreamOf value ≡ StreamOf (record { entries = n.final.entries; last = value.last; deleted = value.deleted; added = value.added; groups = s.groups }) =
    λ i. StreamOf (record { entries = sym n.entries i; last = value.last; deleted = value.deleted; added = value.added; groups = s.groups }) in
    (n.final, front, marks_word value ++ back, refl, nodes_are, (marks_of value, marks_word value, back, refl, marks_are, (s.groups, back, [], sym (append-nil back), groups_are, (same, refl))))

-- where all was written
pub spells_ok : {T E : Type 0} (m : Blocks) (s : Log) (moment : ℕ) (result : Result T E) → IsStream m s → IsFitStream (stream_of m s) → AreStoredMarks (stream_of m s) → len s.groups < 2 ^ 64
    → OnOk result (AllByRecursion IsStoredGroup (entries s.groups)) → OnOk result (SpellsStream (stream_of m s) (stream_word moment (nodes m s) (stream_of m s)))
spells_ok m s moment (Ok x) is fit stored few groups = stream_spelled m s moment is fit stored few groups
spells_ok m s moment (Err e) is fit stored few groups = tt
