-- The key and the string of a node, read, and what they say of the node.
use Rattle.std.proofs.Common.{◌≡◌, ℕ, suc, ◌≤◌, false, List, length, Ok, Err, sym, subst, ◌∙◌, eq-eqb}
use Rattle.std.specs.Prelude.{◌==◌}
use Rattle.blocks.specs.Blocks.{Blocks}
use Rattle.stream_node.specs.declared.id.Id.{Id}
use Rattle.stream_node.specs.Ids.{key_id}
use Rattle.stream_object.specs.declared.stream.Stream.{Stream as Log}
use Rattle.rdb_grammar.specs.declared.fault.ItemFault.{ItemFault}
use Rattle.rdb_grammar.specs.declared.fault.ItemFault.TheVariants as faults
use Rattle.rdb_grammar.specs.declared.fault.LoadKind.{LoadKind}
use Rattle.rdb_grammar.specs.declared.fault.LoadKind.TheVariants as kinds
use Rattle.rdb_grammar.specs.Format.{Format, checked, give, in_turn, inside}
use Rattle.rdb_grammar.specs.Lengths.{a_length}
use Rattle.rdb_grammar.specs.Places.{Stands, Fails}
use Rattle.rdb_grammar.specs.Strings.{string}
use Rattle.rdb_grammar.specs.StreamParts.{Nodes, counted, no_nodes, node_key, node_string, node_on, with_node}
use Rattle.rdb_grammar.proofs.Exactly.{Exact, give_exact, checked_exact}
use Rattle.rdb_grammar.proofs.PayloadsExact.{inside_exact}
use Rattle.rdb_grammar.proofs.StreamsExact.{node_key_exact, node_string_exact, node_on_decided, with_node_exact}
use Rattle.rdb_grammar.proofs.StringsExact.{a_length_exact, in_turn_exact, string_exact}
use Rattle.rdb_grammar.proofs.Steps.{nothing_stands, both_stand, first_fails, second_fails, passes, is_refused, part_fails, payload_stands, payload_fails, holder_fails}
use Rattle.rdb_grammar.proofs.Turns.{GoesOn, one_on, one_fails}
use Rattle.rdb_streams.specs.declared.nodes.Seen.{Seen}
use Rattle.rdb_streams.specs.Reading.{ReadsNodes, so_far}
use Rattle.rdb_streams.specs.Seeing.{PutsNode, ReadsOn}

-- ---- keys

abbrev long_key : Format (List ℕ)
long_key = checked kinds.StreamShape 0 (λ text. length text == 16) string

long_key_exact : Exact long_key
long_key_exact = checked_exact kinds.StreamShape 0 (λ text. length text == 16) string string_exact

module _ (bytes : List ℕ) (at : ℕ) where
  pub key_stands : (next : ℕ) (text : List ℕ) (id : Id) → Stands string text bytes at next → length text ≡ 16 → id ≡ key_id text → Stands node_key id bytes at next
  key_stands next text id s long is =
      subst (λ (k : Id). Stands node_key k bytes at next) (sym is)
      (both_stand long_key (λ t. give (key_id t)) long_key_exact (λ t. give_exact (key_id t)) bytes at next next text (key_id text)
      (passes kinds.StreamShape (λ t. length t == 16) string string_exact bytes at next text s (eq-eqb (length text) 16 long)) (nothing_stands (key_id text) bytes next s.inside))

  pub key_refused : (next : ℕ) (text : List ℕ) → at ≤ length bytes → Stands string text bytes at next → (length text == 16) ≡ false → Fails node_key bytes at kinds.StreamShape at
  key_refused next text le s short =
      first_fails long_key (λ t. give (key_id t)) long_key_exact (λ t. give_exact (key_id t)) bytes at kinds.StreamShape at le
      (is_refused kinds.StreamShape (λ t. length t == 16) string string_exact bytes at next text s short)

  pub key_fails : (which : LoadKind) (place : ℕ) → at ≤ length bytes → Fails string bytes at which place → Fails node_key bytes at which place
  key_fails which place le f =
      first_fails long_key (λ t. give (key_id t)) long_key_exact (λ t. give_exact (key_id t)) bytes at which place le
      (part_fails kinds.StreamShape (λ t. length t == 16) string string_exact bytes at which place le f)

-- ---- nodes

abbrev of_key : Nodes → Id → Format Nodes
of_key made key = inside node_string (node_on key made)

of_key_exact : (made : Nodes) (key : Id) → Exact (of_key made key)
of_key_exact made key = inside_exact node_string (node_on key made) node_string_exact (node_on_decided key made)

module _ (bytes : List ℕ) (at : ℕ) (made : Nodes) where
  pub no_key : (which : LoadKind) (place : ℕ) → at ≤ length bytes → Fails node_key bytes at which place → Fails (with_node made) bytes at which place
  no_key which place le f = first_fails node_key (of_key made) node_key_exact (of_key_exact made) bytes at which place le f

  module _ (mid : ℕ) (key : Id) (k : Stands node_key key bytes at mid) where
    pub no_string : (which : LoadKind) (place : ℕ) → Fails node_string bytes mid which place → Fails (with_node made) bytes at which place
    no_string which place f =
        second_fails node_key (of_key made) node_key_exact (of_key_exact made) bytes at mid key which place k
        (holder_fails node_string (node_on key made) node_string_exact (node_on_decided key made) bytes mid which place k.inside f)

    module _ (to : ℕ) (payload : List ℕ) (p : Stands node_string payload bytes mid to) where
      node_stands : (new : Nodes) → (node_on key made).found payload ≡ Ok new → Stands (with_node made) new bytes at to
      node_stands new found =
          both_stand node_key (of_key made) node_key_exact (of_key_exact made) bytes at mid to key new k
          (payload_stands node_string (node_on key made) node_string_exact (node_on_decided key made) bytes mid to payload new p found)

      node_fails : (which : LoadKind) → (node_on key made).found payload ≡ Err which → Fails (with_node made) bytes at which mid
      node_fails which found =
          second_fails node_key (of_key made) node_key_exact (of_key_exact made) bytes at mid key which mid k
          (payload_fails node_string (node_on key made) node_string_exact (node_on_decided key made) bytes mid to payload which p found)

      -- what became of the payload becomes of the node
      pub node_put : (m : Blocks) (s : Log) (more : Seen) → PutsNode ((node_on key made).found payload) mid m s (Ok more) → ReadsOn (with_node made) bytes at m s (Ok (to, more))
      node_put m s more h = (node_stands (so_far m s more.before) h.0, h.1)

      pub node_not_put : (m : Blocks) (s : Log) (fault : ItemFault) → PutsNode ((node_on key made).found payload) mid m s (Err fault) → ReadsOn (with_node made) bytes at m s (Err fault)
      node_not_put m s (faults.Refused what place) h = subst (λ (n : ℕ). Fails (with_node made) bytes at what n) (sym h.1) (node_fails what h.0)
      node_not_put m s faults.Memory h = tt

-- behind a node the others are read
pub nodes_on : (bytes : List ℕ) (from n : ℕ) (first : Nodes) (at rest : ℕ) (made : Nodes) (next : ℕ) (more : Nodes) → GoesOn with_node bytes from n first at (suc rest) made
    → Stands (with_node made) more bytes at next → GoesOn with_node bytes from n first next rest more
nodes_on bytes from n first at rest made next more h s = h ∙ one_on with_node with_node_exact bytes at rest made next more s

-- the fault of a node is that of all
pub nodes_fail : (bytes : List ℕ) (from n : ℕ) (first : Nodes) (at rest : ℕ) (made : Nodes) (m : Blocks) (s : Log) → from ≤ length bytes
    → GoesOn with_node bytes from n first at (suc rest) made → (fault : ItemFault) → ReadsOn (with_node made) bytes at m s (Err fault)
    → ReadsOn (in_turn with_node n first) bytes from m s (Err fault)
nodes_fail bytes from n first at rest made m s le h (faults.Refused what place) f = one_fails with_node with_node_exact bytes from n first at rest made what place le h f
nodes_fail bytes from n first at rest made m s le h faults.Memory f = tt

-- ---- all nodes, behind their number

all_exact : (n : ℕ) → Exact (in_turn with_node n no_nodes)
all_exact n = in_turn_exact with_node with_node_exact n no_nodes

module _ (bytes : List ℕ) (at next count : ℕ) (s : Stands a_length count bytes at next) where
  pub counted_stand : (to : ℕ) (made : Nodes) → Stands (in_turn with_node count no_nodes) made bytes next to → Stands (counted with_node no_nodes) made bytes at to
  counted_stand to made t = both_stand a_length (λ n. in_turn with_node n no_nodes) a_length_exact all_exact bytes at next to count made s t

  pub counted_fail : (m : Blocks) (log : Log) (fault : ItemFault) → ReadsOn (in_turn with_node count no_nodes) bytes next m log (Err fault) → ReadsNodes bytes at m log (Err fault)
  counted_fail m log (faults.Refused what place) f = second_fails a_length (λ n. in_turn with_node n no_nodes) a_length_exact all_exact bytes at next count what place s f
  counted_fail m log faults.Memory f = tt
