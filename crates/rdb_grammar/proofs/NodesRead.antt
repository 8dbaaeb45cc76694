-- What checking a payload as a stream's node finds.
use Rattle.std.proofs.Common.{◌≡◌, inl, inr, ℕ, Bool, cond, List, Result, Ok, Err, refl, sym, ap, subst, ◌∙◌}
use Rattle.std.specs.Prelude.{Option}
use Rattle.listpack.specs.declared.fault.PackFault.{PackFault}
use Rattle.listpack.specs.Pack.{IsPack, IsFault, texts}
use Rattle.listpack.proofs.Laws.{exactly_one}
use Rattle.stream_node.specs.declared.id.Id.{Id}
use Rattle.stream_node.specs.Entry.{Stored}
use Rattle.stream_node.specs.declared.fault.NodeFault.{NodeFault}
use Rattle.stream_node.specs.Node.{Node, IsFault as IsNodeFault}
use Rattle.stream_node.specs.Entries.{IsNode, entries_of}
use Rattle.stream_node.proofs.OneNode.{not_both}
use Rattle.rdb_grammar.specs.declared.fault.LoadKind.{LoadKind}
use Rattle.rdb_grammar.specs.declared.fault.LoadKind.TheVariants as kinds
use Rattle.rdb_grammar.specs.StreamParts.{Nodes, stored_in, is_above, more_entries, with_entries, node_on}
use Rattle.rdb_grammar.proofs.PayloadsExact.{next_is, next_fault}
use Rattle.rdb_grammar.proofs.StreamsExact.{stored_in_decided}

-- where the bytes are a listpack of a node, what is found are its entries
pub is_read : (key : Id) (bytes : List ℕ) (es : List Stored) → IsPack bytes → IsNode key (texts bytes) → es ≡ entries_of key (texts bytes) → (stored_in key).found bytes ≡ Ok es
is_read key bytes es pack node e =
    let law = exactly_one bytes in
    (stored_in_decided key).again bytes es (texts bytes, law.whole pack, subst (λ (x : List Stored). Node key (texts bytes) x) (sym e) node)

-- where they are no listpack, or one of no node, why
pub no_pack : (key : Id) (bytes : List ℕ) (fault : PackFault) → IsFault bytes fault → (stored_in key).found bytes ≡ Err kinds.Listpack
no_pack key bytes fault f = (stored_in_decided key).first bytes kinds.Listpack (inl ((fault, f), refl))

pub no_node : (key : Id) (bytes : List ℕ) (fault : NodeFault) → IsPack bytes → IsNodeFault key (texts bytes) fault → (stored_in key).found bytes ≡ Err kinds.StreamShape
no_node key bytes fault pack f =
    let law = exactly_one bytes in
    let none : ¬ (IsNode key (texts bytes)) = λ n. not_both key (texts bytes) (entries_of key (texts bytes)) fault n f in
    (stored_in_decided key).first bytes kinds.StreamShape (inr (texts bytes, law.whole pack, (none, refl)))

module _ (key : Id) (payload : List ℕ) (made : Nodes) where
  abbrev kept : List Stored → Result Nodes LoadKind
  kept es = Ok (more_entries made es)

  abbrev shape : Result Nodes LoadKind
  shape = Err kinds.StreamShape

  -- the node behind others, by the test of its first id
  pub node_behind : (es : List Stored) (before : Option Id) (test : Bool) → (stored_in key).found payload ≡ Ok es → made.last ≡ before → is_above before es ≡ test
      → (node_on key made).found payload ≡ cond test (kept es) shape
  node_behind es before test h last is =
      next_is ((stored_in key).found payload) es (with_entries made) h
      ∙ ap (λ (b : Bool). cond b (kept es) shape) (ap (λ (x : Option Id). is_above x es) last ∙ is)

  -- no node
  pub no_node_behind : (which : LoadKind) → (stored_in key).found payload ≡ Err which → (node_on key made).found payload ≡ Err which
  no_node_behind which h = next_fault ((stored_in key).found payload) which (with_entries made) h
