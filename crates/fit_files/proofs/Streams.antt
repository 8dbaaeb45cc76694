-- The streams of a file hold short texts.
use Rattle.std.proofs.Common.{◌≡◌, ℕ, Bool, true, false, cond, not, List, [], ◌∷◌, map, Ok, Err, Option, Some, None, sym, subst}
use Rattle.std.specs.Prelude.{is_none, if◌then◌else◌}
use Rattle.std.specs.List.{AllByRecursion, filter, flat_map}
use Rattle.std.specs.FinMap as finite
use Rattle.std.specs.FinMap.{get, insert}
use Rattle.stream_groups.specs.Groups.{Id, Group, Groups, new_group, has_consumer, with_pending}
use Rattle.stream_groups.specs.Groups as groups
use Rattle.stream_node.specs.declared.id.Id.{Id as NodeId}
use Rattle.stream_node.specs.Entry.{Pair, Stored, number, body, size, IsBody, IsEntry}
use Rattle.stream_node.specs.Node.{Begins}
use Rattle.plain_world.specs.Worlds.{Value, StreamOf}
use Rattle.rdb_grammar.specs.declared.fault.LoadKind.TheVariants as kinds
use Rattle.rdb_grammar.specs.declared.values.StreamType.{StreamType}
use Rattle.rdb_grammar.specs.Format.{Format, give, followed, checked, told, inside}
use Rattle.rdb_grammar.specs.Strings.{string}
use Rattle.rdb_grammar.specs.Payloads.{texts_in}
use Rattle.rdb_grammar.specs.StreamNodes.{node_in}
use Rattle.rdb_grammar.specs.StreamParts.{counted, Nodes, no_nodes, node_key, node_string, stored_in, plain, live_of, is_above, more_entries, with_entries, node_on, with_node, Marks, marks}
use Rattle.rdb_grammar.specs.StreamParts.{Begun, group_name, group_last, begun, handed, pending_id, with_unclaimed, claimed, claimed_id, with_claim, consumer_name, times, with_consumer}
use Rattle.rdb_grammar.specs.StreamParts.{named_group, is_claimed, with_group, stream}
use Rattle.fit_worlds.specs.Fit.{IsShort, AreShort, IsShortPair, HasShortPairs, EachIs, IsFitGroup}
use Rattle.fit_worlds.proofs.Each.{each_append}
use Rattle.fit_worlds.proofs.Maps.{each_empty, each_insert}
use Rattle.fit_files.proofs.Spelled.{Says, MeansOnly, gives, follows, checks, anything, counts, lies_in, refines, found_is}
use Rattle.fit_files.proofs.Texts.{string_short, node_short, pack_short, each_split, ShortValue}

-- ---- entries of a node

abbrev ArePairs : List Pair → Type 0
ArePairs pairs = AllByRecursion IsShortPair pairs

-- short fields with short values
zipped : (pairs : List Pair) → AreShort (map (λ (p : Pair). p.0) pairs) → AreShort (map (λ (p : Pair). p.1) pairs) → ArePairs pairs
zipped [] fields values = tt
zipped (p ∷ pairs) fields values = ((fields.0, values.0), zipped pairs fields.1 values.1)

alternated : (pairs : List Pair) → AreShort (flat_map (λ (p : Pair). p.0 ∷ p.1 ∷ []) pairs) → ArePairs pairs
alternated [] short = tt
alternated (p ∷ pairs) short = ((short.0, short.1.0), alternated pairs short.1.1)

-- an entry's pairs, and what stands behind them
body_short : (same : Bool) (master list : List (List ℕ)) (pairs : List Pair) (rest : List (List ℕ)) → AreShort master → AreShort list → IsBody same master list pairs rest
    → ArePairs pairs × AreShort rest
body_short true master list pairs rest fields short b =
    let parts = each_split IsShort (body true pairs) (number (size (body true pairs)) ∷ rest) (subst AreShort b.elements short) in
    (zipped pairs (subst AreShort (sym b.fields) fields) parts.0, parts.1.1)
body_short false master list pairs rest fields short b =
    let parts = each_split IsShort (body false pairs) (number (size (body false pairs)) ∷ rest) (subst AreShort b.elements short) in
    (alternated pairs parts.0.1, parts.1.1)

entry_short : (key : NodeId) (master list : List (List ℕ)) (entry : Stored) (rest : List (List ℕ)) → AreShort master → AreShort list → IsEntry key master list entry rest
    → ArePairs entry.pairs × AreShort rest
entry_short key master list entry rest fields short e = body_short e.same master e.behind entry.pairs rest fields (subst AreShort e.start.elements short).1.1.1 e.pairs

abbrev AreStored : List Stored → Type 0
AreStored es = AllByRecursion (λ (e : Stored). ArePairs e.pairs) es

begins_short : (key : NodeId) (master : List (List ℕ)) (before : Option NodeId) (list : List (List ℕ)) (es : List Stored) (rest : List (List ℕ)) → AreShort master → AreShort list
    → Begins key master before list es rest → AreStored es
unfolding Begins
begins_short key master before list [] rest fields short b = tt
begins_short key master before list (e ∷ es) rest fields short b =
    let own = entry_short key master list e b.0 fields short b.1 in (own.0, begins_short key master (Some e.id) b.0 es rest fields own.1 b.3)

node_in_short : (key : NodeId) → MeansOnly AreShort (node_in key) AreStored
node_in_short key list short es n =
    let elements = (subst AreShort n.head.elements short).1.1.1 in
    let parts = each_split IsShort n.master (number 0 ∷ n.behind) elements in
    begins_short key n.master None n.behind es [] parts.0 parts.1.1 n.all_entries

stored_short : (key : NodeId) → MeansOnly IsShort (stored_in key) AreStored
stored_short key = refines IsShort AreShort AreStored texts_in (node_in key) pack_short (node_in_short key)

-- ---- nodes

-- those that aren't marked deleted
live_short : (es : List Stored) → AreStored es → AllByRecursion HasShortPairs (live_of es)
live_short [] short = tt
live_short (e ∷ es) short =
    elim (not e.deleted) as (λ b. AllByRecursion HasShortPairs (map plain (cond b (e ∷ filter (λ (e : Stored). not e.deleted) es) (filter (λ (e : Stored). not e.deleted) es)))) [
      | true ↦ (short.0, live_short es short.1)
      | false ↦ live_short es short.1
    ]

abbrev ShortNodes : Nodes → Type 0
ShortNodes nodes = AllByRecursion HasShortPairs nodes.entries

more_short : (made : Nodes) → ShortNodes made → (es : List Stored) → AreStored es → (nodes : Nodes) → with_entries made es ≡ Ok nodes → ShortNodes nodes
more_short made short es are nodes e =
    (elim (is_above made.last es) as (λ b. (if b then Ok (more_entries made es) else Err kinds.StreamShape) ≡ Ok nodes → ShortNodes nodes) [
      | true ↦ λ f. found_is ShortNodes (more_entries made es) nodes (each_append HasShortPairs made.entries (live_of es) short (live_short es are)) f
      | false ↦ λ f. cc
    ]) e

with_node_short : (made : Nodes) → ShortNodes made → Says (with_node made) ShortNodes
with_node_short made short =
    follows (λ key. Unit {0}) ShortNodes node_key (λ key. inside node_string (node_on key made)) (anything node_key) (λ key t.
    lies_in IsShort ShortNodes node_string (node_on key made) node_short
    (refines IsShort AreStored ShortNodes (stored_in key) (told (with_entries made)) (stored_short key) (λ es are nodes e. more_short made short es are nodes e)))

-- ---- groups

abbrev ShortBegun : Begun → Type 0
ShortBegun made = EachIs (λ consumer nothing. IsShort consumer) made.group.consumers

unclaimed_short : (made : Begun) → ShortBegun made → Says (with_unclaimed made) ShortBegun
unclaimed_short made short =
    follows (λ id. Unit {0}) ShortBegun (pending_id made) (λ id. followed handed λ how. give (record { group = made.group; unclaimed = insert made.unclaimed id how }))
    (anything (pending_id made)) (λ id t.
    follows (λ how. Unit {0}) ShortBegun handed (λ how. give (record { group = made.group; unclaimed = insert made.unclaimed id how })) (anything handed) (λ how t.
    gives ShortBegun (record { group = made.group; unclaimed = insert made.unclaimed id how }) short))

claim_short : (consumer : List ℕ) (made : Begun) → ShortBegun made → Says (with_claim consumer made) ShortBegun
claim_short consumer made short =
    follows (λ id. Unit {0}) ShortBegun (claimed_id made) (λ id. give (claimed consumer made id (get made.unclaimed id))) (anything (claimed_id made)) (λ id t.
    gives ShortBegun (claimed consumer made id (get made.unclaimed id)) (at id (get made.unclaimed id)))
  where
    at : (id : Id) (o : Option (ℕ × ℕ)) → ShortBegun (claimed consumer made id o)
    at id None = short
    at id (Some how) = short

consumer_short : (type : StreamType) (made : Begun) → ShortBegun made → Says (with_consumer type made) ShortBegun
consumer_short type made short =
    follows IsShort ShortBegun (consumer_name made.group)
    (λ name. followed (times type) λ seen. counted (with_claim name) (record { group = groups.with_consumer name made.group; unclaimed = made.unclaimed }))
    (checks IsShort kinds.Group 0 (λ name. not (has_consumer name made.group)) string string_short) (λ name is.
    follows (λ seen. Unit {0}) ShortBegun (times type) (λ seen. counted (with_claim name) (record { group = groups.with_consumer name made.group; unclaimed = made.unclaimed }))
    (anything (times type)) (λ seen t.
    counts ShortBegun (with_claim name) (claim_short name) (record { group = groups.with_consumer name made.group; unclaimed = made.unclaimed })
    (each_insert (λ consumer nothing. IsShort consumer) made.group.consumers name tt short is)))

-- a group that was read whole, with its name
abbrev ShortNamed : List ℕ × Begun → Type 0
ShortNamed g = IsShort g.0 × ShortBegun g.1

-- what stands behind the name of a group, behind its last id, and behind what is pending
abbrev behind_pending : StreamType → List ℕ → Begun → Format (List ℕ × Begun)
behind_pending type name pending = followed (counted (with_consumer type) pending) λ made. give (name, made)

abbrev behind_last : StreamType → List ℕ → Id → Format (List ℕ × Begun)
behind_last type name last = followed (counted with_unclaimed (begun last)) λ pending. behind_pending type name pending

abbrev behind_name : StreamType → List ℕ → Format (List ℕ × Begun)
behind_name type name = followed (group_last type) λ last. behind_last type name last

named_short : (type : StreamType) (others : Groups) → Says (named_group type others) ShortNamed
named_short type others =
    follows IsShort ShortNamed (group_name others) (behind_name type) (checks IsShort kinds.Group 0 (λ name. is_none (get others name)) string string_short) (λ name is.
    follows (λ last. Unit {0}) ShortNamed (group_last type) (behind_last type name) (anything (group_last type)) (λ last t.
    follows ShortBegun ShortNamed (counted with_unclaimed (begun last)) (behind_pending type name)
    (counts ShortBegun with_unclaimed unclaimed_short (begun last) (each_empty (λ consumer nothing. IsShort consumer))) (λ pending short.
    follows ShortBegun ShortNamed (counted (with_consumer type) pending) (λ made. give (name, made)) (counts ShortBegun (with_consumer type) (consumer_short type) pending short) (λ made so.
    gives ShortNamed (name, made) (is, so)))))

group_short : (type : StreamType) (others : Groups) → EachIs IsFitGroup others → Says (with_group type others) (EachIs IsFitGroup)
group_short type others short =
    follows ShortNamed (EachIs IsFitGroup) (checked kinds.Group 0 is_claimed (named_group type others)) (λ g. give (insert others g.0 g.1.group))
    (checks ShortNamed kinds.Group 0 is_claimed (named_group type others) (named_short type others)) (λ g is.
    gives (EachIs IsFitGroup) (insert others g.0 g.1.group) (each_insert IsFitGroup others g.0 g.1.group short (record { short = is.0; consumers = is.1 })))

-- ---- the stream

-- what stands behind the nodes, and behind the marks
abbrev behind_marks : StreamType → Nodes → Marks → Format Value
behind_marks type nodes m =
    followed (counted (with_group type) finite.empty) λ groups.
    give (StreamOf (record { entries = nodes.entries; last = m.last; deleted = m.deleted; added = m.added; groups = groups }))

abbrev behind_nodes : StreamType → Nodes → Format Value
behind_nodes type nodes = followed (marks type nodes.entries) λ m. behind_marks type nodes m

pub stream_short : (type : StreamType) → Says (stream type) ShortValue
stream_short type =
    follows ShortNodes ShortValue (counted with_node no_nodes) (behind_nodes type) (counts ShortNodes with_node with_node_short no_nodes tt) (λ nodes entries.
    follows (λ m. Unit {0}) ShortValue (marks type nodes.entries) (behind_marks type nodes) (anything (marks type nodes.entries)) (λ m t.
    follows (EachIs IsFitGroup) ShortValue (counted (with_group type) finite.empty)
    (λ groups. give (StreamOf (record { entries = nodes.entries; last = m.last; deleted = m.deleted; added = m.added; groups = groups })))
    (counts (EachIs IsFitGroup) (with_group type) (group_short type) finite.empty (each_empty IsFitGroup)) (λ groups are.
    gives ShortValue (StreamOf (record { entries = nodes.entries; last = m.last; deleted = m.deleted; added = m.added; groups = groups })) (record { entries = entries; groups = are }))))
