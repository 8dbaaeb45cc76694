-- The marks and groups of a stream, behind its nodes.
use Rattle.std.proofs.Common.{◌≡◌, inl, inr, ◌∙◌, ℕ, ◌≤◌, Bool, true, false, List, [], ◌∷◌, length, length-append, Result, Ok, Err, Some, None, refl, sym, ap, subst, arith}
use Rattle.std.specs.Prelude.{Option, IfSome, not}
use Rattle.std.specs.FinMap.{empty}
use Rattle.std.specs.List.{AllByRecursion}
use Rattle.std.specs.Ordering.{is_lt}
use Rattle.std.proofs.lemmas.Bool.{cases_lt}
use Rattle.blocks.specs.Blocks.{Blocks}
use Rattle.stream_groups.specs.Groups.{Id as Pair, Groups, id_cmp}
use Rattle.stream_node.specs.declared.id.Id.{Id}
use Rattle.stream_node.specs.Ids.{IsId, id_number}
use Rattle.stream_node.proofs.Ids.{id_laws}
use Rattle.plain_world.specs.Worlds.{Value, StreamOf}
use Rattle.stream_object.specs.declared.stream.Stream.{Stream as Log}
use Rattle.stream_object.specs.Parts.{Part, IsPart, live_in, entries_in}
use Rattle.stream_object.specs.Streams.{AreUpto, IsStream, entries, nodes, refs, stream_of}
use Rattle.stream_object.proofs.Loads.{upto_later}
use Rattle.rdb_grammar.specs.declared.fault.ItemFault.{ItemFault}
use Rattle.rdb_grammar.specs.declared.fault.ItemFault.TheVariants as faults
use Rattle.rdb_grammar.specs.declared.values.StreamType.{StreamType}
use Rattle.rdb_grammar.specs.Format.{Format, give, followed}
use Rattle.rdb_grammar.specs.Places.{Stands, Fails}
use Rattle.rdb_grammar.specs.StreamParts.{Nodes, Marks, counted, with_node, no_nodes, with_group, has_marks, is_from, marks, marks_with, marks_behind, stream}
use Rattle.rdb_grammar.specs.Views.{pair_of}
use Rattle.rdb_grammar.proofs.Exactly.{Exact, give_exact, followed_exact}
use Rattle.rdb_grammar.proofs.StreamsExact.{counted_exact, with_node_exact, marks_exact, with_group_exact}
use Rattle.rdb_streams.specs.Reading.{Reads, ReadsNodes, Covers, so_far}
use Rattle.rdb_streams.proofs.Ordered.{lt_below}
use Rattle.rdb_streams.proofs.Placed.{first_fails, then_reads, seen_as}

-- ---- the last id

marks_last : (more : Bool) (count : ℕ) (last : Pair) (x : Marks) (word : List ℕ) → (marks_behind more count last).Spells x word → x.last ≡ last
marks_last false count last x word s = ap (λ m. m.last) s.0
marks_last true count last x word s = ap (λ m. m.last) s.5.5.5.0

-- the last id of marks passes their test
pub last_passes : (type : StreamType) (live : ℕ) (test : Pair → Bool) (x : Marks) (bytes : List ℕ) (at next : ℕ) → Stands (marks_with type live test) x bytes at next → test x.last ≡ true
last_passes type live test x bytes at next s =
    let m = s.spelled.5 in
    ap test (marks_last (has_marks type) s.spelled.0 m.0 x m.2 m.5) ∙ m.4.1

-- an id that isn't below another one is a number from its on
from_number : (id last : Id) → IsId id → IsId last → not (is_lt (id_cmp (pair_of last) (pair_of id))) ≡ true → id_number id ≤ id_number last
from_number id last i l t = elim (cases_lt (id_number last) (id_number id)) [
  | inl less ↦ absurd (let e = lt_below last id ((id_laws.below last id l i).1 less) in let bad : not (is_lt (id_cmp (pair_of last) (pair_of id))) ≡ false = ap not e in cc)
  | inr upto ↦ omega (arith, upto)
]

-- what covers the nodes, and isn't above an id, shows that none of their entries is
pub covered_upto : (greatest : Option Id) (last : Id) (ps : List Part) → IsId last → IfSome greatest IsId → Covers greatest ps → is_from greatest (pair_of last) ≡ true → AreUpto last ps
covered_upto None last ps l ids c t = subst (AreUpto last) (sym c) tt
covered_upto (Some id) last ps l ids c t = upto_later last id ps (from_number id last ids l t) c

-- ---- the whole

-- what follows the marks, and what follows the nodes
abbrev groups_behind : StreamType → Nodes → Marks → Format Value
groups_behind type made m =
    followed (counted (with_group type) empty) λ groups.
    give (StreamOf (record { entries = made.entries; last = m.last; deleted = m.deleted; added = m.added; groups = groups }))

abbrev all_behind : StreamType → Nodes → Format Value
all_behind type made = followed (marks type made.entries) λ m. groups_behind type made m

groups_behind_exact : (type : StreamType) (made : Nodes) (m : Marks) → Exact (groups_behind type made m)
groups_behind_exact type made m = followed_exact _ _ (counted_exact (with_group type) (with_group_exact type) empty) λ groups. give_exact _

all_behind_exact : (type : StreamType) (made : Nodes) → Exact (all_behind type made)
all_behind_exact type made = followed_exact _ _ (marks_exact type made.entries) (groups_behind_exact type made)

-- the faults of nodes are those of the stream
pub nodes_fail : (type : StreamType) (bytes : List ℕ) (at : ℕ) (m : Blocks) (s : Log) (value : Value) (fault : ItemFault) → ReadsNodes bytes at m s (Err fault)
    → Reads (stream type) bytes at value (Err fault)
nodes_fail type bytes at m s value (faults.Refused which place) f = first_fails (counted with_node no_nodes) (all_behind type) bytes at which place f
nodes_fail type bytes at m s value faults.Memory f = f

module _ (type : StreamType) (bytes : List ℕ) (at mid : ℕ) (m : Blocks) (s : Log) (greatest : Option Id) (r : ReadsNodes bytes at m s (Ok (mid, greatest))) where
  abbrev made : Nodes
  made = so_far m s r.0

  same : marks_with type (length (entries m s)) (is_from greatest) ≡ marks type (entries m s)
  same = λ i. marks_with type (length (entries m s)) (λ last. sym (r.2.is_greatest last) i)

  -- so are those of the marks behind them
  pub marks_fail : (len : ℕ) → len ≡ length (entries m s) → (value : Value) (fault : ItemFault) (which : _) (place : ℕ) → fault ≡ faults.Refused which place
      → Fails (marks_with type len (is_from greatest)) bytes mid which place → Reads (stream type) bytes at value (Err fault)
  marks_fail len are value fault which place is f =
      let here : Fails (marks type (entries m s)) bytes mid which place =
      subst (λ (one : Format Marks). Fails one bytes mid which place) (ap (λ n. marks_with type n (is_from greatest)) are ∙ same) f in
      subst (λ x. Reads (stream type) bytes at value (Err x)) (sym is) (
      then_reads (counted with_node no_nodes) (all_behind type) bytes at (counted_exact with_node with_node_exact no_nodes) (all_behind_exact type) mid made r.1 value
      (Err (faults.Refused which place))
      (first_fails (marks type made.entries) (groups_behind type made) bytes mid which place here))

  -- and groups behind marks make it whole
  pub groups_read : (len : ℕ) → len ≡ length (entries m s) → (x : Marks) (next : ℕ) → Stands (marks_with type len (is_from greatest)) x bytes mid next → (groups : Groups) (value : Value)
      → value ≡ StreamOf (record { entries = entries m s; last = x.last; deleted = x.deleted; added = x.added; groups = groups })
      → (result : Result ℕ ItemFault) → Reads (counted (with_group type) empty) bytes next groups result → Reads (stream type) bytes at value result
  groups_read len are x next t groups value is result g =
      let here : Stands (marks type (entries m s)) x bytes mid next = subst (λ (one : Format Marks). Stands one x bytes mid next) (ap (λ n. marks_with type n (is_from greatest)) are ∙ same) t in
      let last = seen_as (counted (with_group type) empty) (counted_exact (with_group type) (with_group_exact type) empty)
      (λ gs. StreamOf (record { entries = made.entries; last = x.last; deleted = x.deleted; added = x.added; groups = gs })) groups bytes next result g in
      let behind = then_reads (marks type made.entries) (groups_behind type made) bytes mid (marks_exact type made.entries) (groups_behind_exact type made) next x here _ result last in
      subst (λ v. Reads (stream type) bytes at v result) (sym is)
      (then_reads (counted with_node no_nodes) (all_behind type) bytes at (counted_exact with_node with_node_exact no_nodes) (all_behind_exact type) mid made r.1 _ result behind)

-- ---- the stream with its marks and groups

-- what a stream is with other marks and groups
module _ (m : Blocks) (old new : Log) (last deleted : Id) (added : ℕ) (groups : Groups) (is : IsStream m old)
    (now : new ≡ record old { last = last; deleted = deleted; added = added; groups = groups }) where
  pub marked_sound : IsId last → AreUpto last (nodes m old) → IsStream m new
  marked_sound fits upto = subst (IsStream m) (sym now) (record { parts = is.parts; counted = is.counted; fits = fits; upto = upto; kept = is.kept })

  pub marked_refs : refs m new ≡ refs m old
  marked_refs = ap (refs m) now

  pub marked_value : stream_of m new ≡ record { entries = entries m old; last = pair_of last; deleted = pair_of deleted; added = added; groups = groups }
  marked_value = ap (stream_of m) now

-- nodes that hold no entry aren't there
empty_parts : (m : Blocks) (ps : List Part) → AllByRecursion (IsPart m) ps → entries_in ps ≡ [] → ps ≡ []
empty_parts m [] each none = refl
empty_parts m (p ∷ ps) each none = absurd (omega (arith, each.0.is_node.some, ap length none, length-append (live_in p) (entries_in ps)))

-- a sound stream without an entry has no node
pub none_at_all : (m : Blocks) (s : Log) → IsStream m s → entries m s ≡ [] → nodes m s ≡ []
none_at_all m s is none = empty_parts m (nodes m s) is.parts.each none
