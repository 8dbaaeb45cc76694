-- Streams are exact, part by part.
use Rattle.std.proofs.Common.{ℕ, Bool, true, false, List}
use Rattle.std.specs.Prelude.{is_none, not, length, ◌==◌}
use Rattle.std.specs.Int.{w64}
use Rattle.std.specs.FinMap.{get}
use Rattle.stream_node.specs.declared.id.Id.{Id as NodeId}
use Rattle.stream_groups.specs.Groups.{Id, Group, Groups, has_consumer}
use Rattle.plain_world.specs.Streams.{StreamEntry}
use Rattle.rdb_grammar.specs.declared.fault.LoadKind.TheVariants as kinds
use Rattle.rdb_grammar.specs.declared.values.StreamType.{StreamType}
use Rattle.rdb_grammar.specs.Format.{Format}
use Rattle.rdb_grammar.specs.Strings.{head, string}
use Rattle.rdb_grammar.specs.Lengths.{a_length}
use Rattle.rdb_grammar.specs.StreamParts.{two_lengths, sixteen_bytes, counted, unused, has_marks, has_active, Nodes, no_nodes, node_key, is_node_short, node_string, stored_in}
use Rattle.rdb_grammar.specs.StreamParts.{with_entries, node_on, with_node, entry_count, is_upto, last_id, marks_behind, marks_with, marks, Begun, group_name, group_last, begun, handed}
use Rattle.rdb_grammar.specs.StreamParts.{pending_id, with_unclaimed, claimed_id, with_claim, consumer_name, times, with_consumer, named_group, is_claimed, with_group, stream}
use Rattle.rdb_grammar.proofs.Exactly.{Exact, give_exact, some_bytes_exact, followed_exact, checked_exact}
use Rattle.rdb_grammar.proofs.PayloadsExact.{Decided, told_decided, refined_decided, inside_exact}
use Rattle.rdb_grammar.proofs.PackedExact.{texts_in_decided}
use Rattle.rdb_grammar.proofs.NodesDecided.{node_in_decided}
use Rattle.rdb_grammar.proofs.StringsExact.{number_exact, number_le_exact, a_length_exact, head_exact, body_exact, string_exact, in_turn_exact}

pub two_lengths_exact : Exact two_lengths
two_lengths_exact = followed_exact _ _ a_length_exact λ ms. followed_exact _ _ a_length_exact λ seq. give_exact _

pub sixteen_bytes_exact : Exact sixteen_bytes
sixteen_bytes_exact = followed_exact _ _ (number_exact w64) λ ms. followed_exact _ _ (number_exact w64) λ seq. give_exact _

pub counted_exact : {S : Type 0} (one : S → Format S) → ((made : S) → Exact (one made)) → (made : S) → Exact (counted one made)
counted_exact one e made = followed_exact _ _ a_length_exact λ n. in_turn_exact one e n made

pub unused_exact : {A : Type 0} (there : Bool) (one : Format A) → Exact one → Exact (unused there one)
unused_exact true one e = followed_exact _ _ e λ x. give_exact _
unused_exact false one e = give_exact _

-- ---- nodes

pub node_key_exact : Exact node_key
node_key_exact = followed_exact _ _ (checked_exact kinds.StreamShape 0 (λ text. length text == 16) string string_exact) λ text. give_exact _

pub node_string_exact : Exact node_string
node_string_exact = followed_exact _ _ (checked_exact kinds.TooLong 0 is_node_short head head_exact) body_exact

pub stored_in_decided : (key : NodeId) → Decided (stored_in key)
stored_in_decided key = refined_decided _ _ texts_in_decided (node_in_decided key)

pub node_on_decided : (key : NodeId) (made : Nodes) → Decided (node_on key made)
node_on_decided key made = refined_decided _ _ (stored_in_decided key) (told_decided (with_entries made))

pub with_node_exact : (made : Nodes) → Exact (with_node made)
with_node_exact made = followed_exact node_key _ node_key_exact λ key. inside_exact node_string _ node_string_exact (node_on_decided key made)

-- ---- marks

pub entry_count_exact : (live : ℕ) → Exact (entry_count live)
entry_count_exact live = checked_exact kinds.StreamShape 0 (λ n. n == live) a_length a_length_exact

pub last_id_exact : (test : Id → Bool) → Exact (last_id test)
last_id_exact test = checked_exact kinds.StreamShape 0 test two_lengths two_lengths_exact

pub marks_behind_exact : (there : Bool) (count : ℕ) (last : Id) → Exact (marks_behind there count last)
marks_behind_exact false count last = give_exact _
marks_behind_exact true count last =
    followed_exact _ _ two_lengths_exact λ first. followed_exact _ _ two_lengths_exact λ deleted. followed_exact _ _ a_length_exact λ added. give_exact _

pub marks_with_exact : (type : StreamType) (live : ℕ) (test : Id → Bool) → Exact (marks_with type live test)
marks_with_exact type live test =
    followed_exact _ _ (entry_count_exact live) λ count. followed_exact _ _ (last_id_exact test) λ last. marks_behind_exact (has_marks type) count last

pub marks_exact : (type : StreamType) (entries : List StreamEntry) → Exact (marks type entries)
marks_exact type entries = marks_with_exact type (length entries) (is_upto entries)

-- ---- groups

pub group_name_exact : (groups : Groups) → Exact (group_name groups)
group_name_exact groups = checked_exact kinds.Group 0 (λ name. is_none (get groups name)) string string_exact

pub group_last_exact : (type : StreamType) → Exact (group_last type)
group_last_exact type = followed_exact _ _ two_lengths_exact λ last. followed_exact _ _ (unused_exact (has_marks type) a_length a_length_exact) λ read. give_exact _

pub handed_exact : Exact handed
handed_exact = followed_exact _ _ (number_le_exact w64) λ moment. followed_exact _ _ a_length_exact λ count. give_exact _

pub pending_id_exact : (made : Begun) → Exact (pending_id made)
pending_id_exact made = checked_exact kinds.Group 0 (λ id. is_none (get made.unclaimed id)) sixteen_bytes sixteen_bytes_exact

pub with_unclaimed_exact : (made : Begun) → Exact (with_unclaimed made)
with_unclaimed_exact made = followed_exact _ _ (pending_id_exact made) λ id. followed_exact _ _ handed_exact λ how. give_exact _

pub claimed_id_exact : (made : Begun) → Exact (claimed_id made)
claimed_id_exact made = checked_exact kinds.Group 0 (λ id. not (is_none (get made.unclaimed id))) sixteen_bytes sixteen_bytes_exact

pub with_claim_exact : (consumer : List ℕ) (made : Begun) → Exact (with_claim consumer made)
with_claim_exact consumer made = followed_exact _ _ (claimed_id_exact made) λ id. give_exact _

pub consumer_name_exact : (group : Group) → Exact (consumer_name group)
consumer_name_exact group = checked_exact kinds.Group 0 (λ name. not (has_consumer name group)) string string_exact

pub times_exact : (type : StreamType) → Exact (times type)
times_exact type = followed_exact _ _ (some_bytes_exact 8) λ seen. unused_exact (has_active type) _ (some_bytes_exact 8)

pub with_consumer_exact : (type : StreamType) (made : Begun) → Exact (with_consumer type made)
with_consumer_exact type made =
    followed_exact _ _ (consumer_name_exact made.group) λ name. followed_exact _ _ (times_exact type) λ seen. counted_exact (with_claim name) (with_claim_exact name) _

pub named_group_exact : (type : StreamType) (groups : Groups) → Exact (named_group type groups)
named_group_exact type groups =
    followed_exact _ _ (group_name_exact groups) λ name. followed_exact _ _ (group_last_exact type) λ last.
    followed_exact _ _ (counted_exact with_unclaimed with_unclaimed_exact (begun last)) λ pending.
    followed_exact _ _ (counted_exact (with_consumer type) (with_consumer_exact type) pending) λ made. give_exact _

pub with_group_exact : (type : StreamType) (groups : Groups) → Exact (with_group type groups)
with_group_exact type groups = followed_exact _ _ (checked_exact kinds.Group 0 is_claimed (named_group type groups) (named_group_exact type groups)) λ g. give_exact _

-- ---- the stream

pub stream_exact : (type : StreamType) → Exact (stream type)
stream_exact type =
    followed_exact _ _ (counted_exact with_node with_node_exact no_nodes) λ nodes. followed_exact _ _ (marks_exact type nodes.entries) λ marks.
    followed_exact _ _ (counted_exact (with_group type) (with_group_exact type) _) λ groups. give_exact _
