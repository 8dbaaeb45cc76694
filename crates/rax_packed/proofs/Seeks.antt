-- What a seek finds, by the way that its key goes on.
use Rattle.std.proofs.Common.{◌≡◌, ◌⊎◌, ◌∙◌, ℕ, suc, ◌+◌, ◌<◌, ◌≤◌, Bool, true, false, not, List, [], ◌∷◌, ◌++◌, length, take, drop, map, get_or, Option, Some, None, refl, sym, ap, subst}
use Rattle.std.proofs.Common.{inl, inr, arith, append_assoc, length-append}
use Rattle.std.proofs.lemmas.List.{take_at, drop_at, get_or_at, get_or-take, get_or-drop, drop-drop}
use Rattle.std.proofs.Math.Seq.{take-add}
use Rattle.std.specs.Prelude.{slice_index}
use Rattle.std.specs.Option.{option_map}
use Rattle.std.specs.Ordering.{is_lt, is_gt}
use Rattle.std.specs.declared.cmp.Ordering.TheVariants.{Less, Greater}
use Rattle.std.proofs.lemmas.Bool.{cond-true}
use Rattle.std.proofs.lemmas.List.Concat.{flat_map-append}
use Rattle.blocks.specs.declared.BlockRef.{BlockRef}
use Rattle.blocks.specs.Blocks.{Blocks}
use Rattle.rax_packed.specs.Nodes.{Link, Node, Leaf, Inner, node_of, IsNode, prefix_from}
use Rattle.rax_packed.specs.Trees.{Entry, under, node_at, entries_in, entries, entries_at, IsTreeAt}
use Rattle.rax_packed.specs.Ways.{prefix_in, links_in, aside, IsInnerBytes, IsByteAhead, PartsAt, Lacks, LeadsTo}
use Rattle.rax_packed.specs.Turns.{IsBehind}
use Rattle.rax_packed.specs.Packed.{order, or_else, first_of, last_of, end_of, nearest}
use Rattle.rax_packed.proofs.Keys.{order_same}
use Rattle.rax_packed.proofs.Choices.{prefix_told, prefix_len, parts_within}
use Rattle.rax_packed.proofs.Spellings.{count_most}
use Rattle.rax_packed.proofs.Entries.{All, below_links, links_less, links_greater, key_under}
use Rattle.rax_packed.proofs.Ends.{side_of, nearest_parts, nearest_under, nearest_less, nearest_greater, nearest_empty}
use Rattle.rax_packed.proofs.Frames.{inner_node, inner_entries, leaf_entries}
use Rattle.rax_packed.proofs.Looks.{Split, node_read, parts_side, link_below}
use Rattle.rax_packed.proofs.Steps.{split, below_is}

-- the byte at which a node's prefix parts from the key
pub own_byte : (rest : ℕ) (bytes key : List ℕ) (shared : ℕ) → IsNode rest bytes → (parts : PartsAt (node_of bytes) key shared) → (2 + shared < length bytes) ×
    (get_or bytes (2 + shared) 0 ≡ parts.node_byte)
own_byte rest bytes key shared node parts =
    let prefix : prefix_from bytes ≡ parts.begin ++ parts.node_byte ∷ parts.node_rest = sym (prefix_told rest bytes node) ∙ parts.prefix_is in
    let long : length (prefix_from bytes) ≡ shared + suc (length parts.node_rest) = ap length prefix ∙ length-append parts.begin (parts.node_byte ∷ parts.node_rest)
    ∙ ap (λ n. n + suc (length parts.node_rest)) parts.many in
    let room = parts_within rest bytes node in
    let told = prefix_len rest bytes node in (
      omega arith,
      sym (get_or-take (slice_index bytes 1) (drop 2 bytes) shared 0 (omega arith) ∙ get_or-drop 2 bytes shared 0) ∙ ap (λ p. get_or p shared 0) prefix
          ∙ get_or_at parts.begin parts.node_byte parts.node_rest 0 shared parts.many,
    )

-- the byte at which the key parts from a node's prefix stands in it behind those that they share
pub key_byte : (node : Node) (key : List ℕ) (shared : ℕ) → (parts : PartsAt node key shared) → (shared < length key) × (get_or key shared 0 ≡ parts.other)
key_byte node key shared parts = (
  omega (arith, ap length parts.key_is, length-append parts.begin (parts.other ∷ parts.other_rest), parts.many),
  ap (λ k. get_or k shared 0) parts.key_is
      ∙ get_or_at parts.begin parts.other parts.other_rest 0 shared parts.many,
)

-- the one entry is the nearest to its own key
one_nearest : (up : Bool) (key : List ℕ) (e : Entry) → e.key ≡ key → nearest up (e ∷ []) key ≡ Some e
unfolding nearest
one_nearest true key e is = ap first_of (cond-true _ _ _ (ap (λ o. not (is_lt o)) (ap (λ k. order k key) is ∙ order_same key)))
one_nearest false key e is = ap last_of (cond-true _ _ _ (ap (λ o. not (is_gt o)) (ap (λ k. order k key) is ∙ order_same key)))

-- what is found below a link is found at the node, whatever else stands beside the link
map_some : (front begin : List ℕ) (k : List ℕ) (o other : Option Entry) → Some k ≡ option_map (λ e. (front ++ begin) ++ e.key) o
    → Some k ≡ option_map (λ e. front ++ e.key) (or_else (option_map (under begin) o) other)
map_some front begin k None other h = cc
map_some front begin k (Some e) other h = h ∙ ap Some (append_assoc front begin e.key)

-- where nothing is found below a link, what is found at the node is what stands beside the link
map_none : (front begin : List ℕ) (o other : Option Entry) → None ≡ option_map (λ e. (front ++ begin) ++ e.key) o → or_else (option_map (under begin) o) other ≡ other
map_none front begin None other h = refl
map_none front begin (Some e) other h = cc

module _ (up : Bool) (b : Blocks) (at : BlockRef) (bytes rest front : List ℕ) (t : IsTreeAt (length rest) b at) (read : b at ≡ Some bytes) where
  -- the key of an entry, behind the bytes that lead to the tree
  named : (e : Entry) → List ℕ
  named e = front ++ e.key

  -- where the node read is a leaf of the key's rest, the key itself is the nearest
  pub sought_leaf : (value : BlockRef) → node_of bytes ≡ Leaf rest value → Some (front ++ rest) ≡ option_map (λ e. front ++ e.key) (nearest up (entries_at (length rest) b at) rest)
  sought_leaf value is =
      sym
      (ap (λ es. option_map (λ e. front ++ e.key) (nearest up es rest)) (leaf_entries (length rest) b at rest value (node_read b at bytes read ∙ is))
      ∙ ap (option_map (λ e. front ++ e.key)) (one_nearest up rest (record { key = rest; value = value }) refl))

  -- where the key leaves the prefix of the node read, it leaves that of the node that stands there
  parts_at : (shared : ℕ) → PartsAt (node_of bytes) rest shared → PartsAt (node_at b at) rest shared
  parts_at shared parts = subst (λ node. PartsAt node rest shared) (sym (node_read b at bytes read)) parts

  -- where the key leaves the prefix and its byte comes before the node's, the entry at the tree's end is nearest
  pub sought_all : (shared : ℕ) (parts : PartsAt (node_of bytes) rest shared) → IsByteAhead up parts.other parts.node_byte
      → nearest up (entries_at (length rest) b at) rest ≡ end_of up (entries_at (length rest) b at)
  sought_all shared parts ahead = by_side up (parts_side (length rest) b at rest shared whole) ahead
    where
      whole : PartsAt (node_at b at) rest shared
      whole = record {
        begin = parts.begin;
        node_byte = parts.node_byte;
        node_rest = parts.node_rest;
        other = parts.other;
        other_rest = parts.other_rest;
        prefix_is = ap prefix_in (node_read b at bytes read)
            ∙ parts.prefix_is;
        key_is = parts.key_is;
        apart = parts.apart;
        many = parts.many;
      }

      by_side : (u : Bool) → ((parts.node_byte < parts.other) × All Less rest (entries_at (length rest) b at)) ⊎ ((parts.other < parts.node_byte) × All Greater rest (entries_at (length rest) b at))
          → IsByteAhead u parts.other parts.node_byte → nearest u (entries_at (length rest) b at) rest ≡ end_of u (entries_at (length rest) b at)
      by_side true (inl low) ahead = absurd (omega (arith, low.0))
      by_side true (inr high) ahead = nearest_greater true rest (entries_at (length rest) b at) high.1
      by_side false (inl low) ahead = nearest_less false rest (entries_at (length rest) b at) low.1
      by_side false (inr high) ahead = absurd (omega (arith, high.0))

  -- where the key leaves the prefix and its byte doesn't come before the node's, no entry of the tree is nearest
  pub sought_none : (shared : ℕ) (parts : PartsAt (node_of bytes) rest shared) → (IsByteAhead up parts.other parts.node_byte → ⊥) → nearest up (entries_at (length rest) b at) rest ≡ None
  sought_none shared parts not_ahead = by_side up (parts_side (length rest) b at rest shared whole) not_ahead
    where
      whole : PartsAt (node_at b at) rest shared
      whole = record {
        begin = parts.begin;
        node_byte = parts.node_byte;
        node_rest = parts.node_rest;
        other = parts.other;
        other_rest = parts.other_rest;
        prefix_is = ap prefix_in (node_read b at bytes read)
            ∙ parts.prefix_is;
        key_is = parts.key_is;
        apart = parts.apart;
        many = parts.many;
      }

      by_side : (u : Bool) → ((parts.node_byte < parts.other) × All Less rest (entries_at (length rest) b at)) ⊎ ((parts.other < parts.node_byte) × All Greater rest (entries_at (length rest) b at))
          → (IsByteAhead u parts.other parts.node_byte → ⊥) → nearest u (entries_at (length rest) b at) rest ≡ None
      by_side true (inl low) h = nearest_less true rest (entries_at (length rest) b at) low.1
      by_side true (inr high) h = absurd (h high.0)
      by_side false (inl low) h = absurd (h low.0)
      by_side false (inr high) h = nearest_greater false rest (entries_at (length rest) b at) high.1

  -- where no link has the key's byte, the entry at the end of those on one side of its place is nearest
  pub sought_beside : (place from : ℕ) (lacks : Lacks (node_of bytes) rest place from)
      → nearest up (entries_at (length rest) b at) rest ≡ end_of up (entries_in (entries (length rest) b) (aside up place (node_at b at)))
  sought_beside place from lacks =
      let n = length rest in
      let es = entries n b in
      let links = lacks.before ++ lacks.after in
      let node : node_at b at ≡ Inner lacks.prefix links = node_read b at bytes read ∙ lacks.node_is in
      let f : Link → List Entry = λ l. map (under (lacks.prefix ++ l.edge ∷ [])) (es l.to) in
      ap (λ xs. nearest up xs rest) (inner_entries n b at lacks.prefix links node ∙ flat_map-append f lacks.before lacks.after)
      ∙ ap (nearest up (below_links lacks.prefix es lacks.before ++ ([] ++ below_links lacks.prefix es lacks.after))) lacks.key_is
      ∙ nearest_parts up (lacks.prefix ++ lacks.edge ∷ lacks.below) (below_links lacks.prefix es lacks.before) [] (below_links lacks.prefix es lacks.after)
      (links_less lacks.prefix lacks.below lacks.edge es lacks.before lacks.less) (links_greater lacks.prefix lacks.below lacks.edge es lacks.after lacks.more)
      ∙ ap (λ o. or_else o (end_of up (side_of up (below_links lacks.prefix es lacks.before) (below_links lacks.prefix es lacks.after)))) (nearest_empty up (lacks.prefix ++ lacks.edge ∷ lacks.below))
      ∙ by_side up node
    where
      by_side : (u : Bool) → node_at b at ≡ Inner lacks.prefix (lacks.before ++ lacks.after)
          → end_of u (side_of u (below_links lacks.prefix (entries (length rest) b) lacks.before) (below_links lacks.prefix (entries (length rest) b) lacks.after)) ≡ end_of u
          (entries_in (entries (length rest) b) (aside u place (node_at b at)))
      by_side true node = sym
          (ap (λ m. first_of (entries_in (entries (length rest) b) (aside true place m))) node
          ∙ ap (λ ls. first_of (below_links lacks.prefix (entries (length rest) b) ls)) (drop_at lacks.before lacks.after place lacks.many))
      by_side false node = sym
          (ap (λ m. last_of (entries_in (entries (length rest) b) (aside false place m))) node
          ∙ ap (λ ls. last_of (below_links lacks.prefix (entries (length rest) b) ls)) (take_at lacks.before lacks.after place lacks.many))

  -- the key goes on by a link
  module _ (place from : ℕ) (to : BlockRef) (leads : LeadsTo (node_of bytes) rest place from to) where
    -- the parts of the node and of the key at the link
    abbrev s : Split b at rest place from to (length rest) (length rest)
    s = split b at to bytes rest place from t read leads

    -- the entries of the tree that the link names
    abbrev below : List Entry
    below = entries_at (length (drop from rest)) b to

    -- the nearest entry is the nearest one below the link, or else that at the end of those beyond the link
    parted : nearest up (entries_at (length rest) b at) rest ≡ or_else (option_map (under (s.prefix ++ s.edge ∷ [])) (nearest up below (drop from rest)))
        (end_of up (side_of up (below_links s.prefix (entries (length rest) b) s.before) (below_links s.prefix (entries (length rest) b) s.after)))
    parted =
        let n = length rest in
        let es = entries n b in
        let link : Link = record { edge = s.edge; to = to } in
        let f : Link → List Entry = λ l. map (under (s.prefix ++ l.edge ∷ [])) (es l.to) in
        let begin = s.prefix ++ s.edge ∷ [] in
        let child = link_below b at bytes rest t read place from to leads in
        ap (λ xs. nearest up xs rest) (inner_entries n b at s.prefix (s.before ++ link ∷ s.after) (inner_is s) ∙ flat_map-append f s.before (link ∷ s.after))
        ∙ ap (nearest up (below_links s.prefix es s.before ++ (map (under begin) (es to) ++ below_links s.prefix es s.after))) s.key_is
        ∙ nearest_parts up (s.prefix ++ s.edge ∷ s.below) (below_links s.prefix es s.before) (map (under begin) (es to)) (below_links s.prefix es s.after)
        (links_less s.prefix s.below s.edge es s.before s.less) (links_greater s.prefix s.below s.edge es s.after s.more)
        ∙ ap (λ o. or_else o (end_of up (side_of up (below_links s.prefix es s.before) (below_links s.prefix es s.after))))
        (ap (nearest up (map (under begin) (es to))) (key_under s.prefix s.below s.edge) ∙ nearest_under up begin s.below (es to)
        ∙ ap (λ xs. option_map (under begin) (nearest up xs s.below)) (sym child.entries_are)
        ∙ ap (λ k. option_map (under begin) (nearest up (entries_at (length (drop from rest)) b to) k)) (sym (below_is b at to bytes rest place from t read leads)))
      where
        inner_is : (x : Split b at rest place from to (length rest) (length rest)) → node_at b at ≡ Inner x.prefix (x.before ++ (record { edge = x.edge; to = to }) ∷ x.after)
        inner_is x = inner_node (length rest) (length rest) b at x.prefix (x.before ++ (record { edge = x.edge; to = to }) ∷ x.after) x.node

    -- the key up to its rest is the node's prefix and the link's edge
    pub begin_is : take from rest ≡ s.prefix ++ s.edge ∷ []
    begin_is =
        let is : rest ≡ (s.prefix ++ s.edge ∷ []) ++ s.below = s.key_is ∙ key_under s.prefix s.below s.edge in
        ap (take from) is ∙ take_at (s.prefix ++ s.edge ∷ []) s.below from (length-append s.prefix (s.edge ∷ []) ∙ omega (arith, s.begins))

    -- a key that is found as the nearest below the link is the nearest at the node
    pub sought_below : (k : List ℕ) → Some k ≡ option_map (λ e. (front ++ take from rest) ++ e.key) (nearest up (entries_at (length (drop from rest)) b to) (drop from rest))
        → Some k ≡ option_map (λ e. front ++ e.key) (nearest up (entries_at (length rest) b at) rest)
    sought_below k found =
        map_some front (s.prefix ++ s.edge ∷ []) k (nearest up (entries_at (length (drop from rest)) b to) (drop from rest))
        (end_of up (side_of up (below_links s.prefix (entries (length rest) b) s.before) (below_links s.prefix (entries (length rest) b) s.after)))
        (found ∙ ap (λ p. option_map (λ e. (front ++ p) ++ e.key) (nearest up (entries_at (length (drop from rest)) b to) (drop from rest))) begin_is)
        ∙ ap (option_map (λ e. front ++ e.key)) (sym parted)

    -- where none is found below the link, the nearest is the entry at the end of those beyond it
    pub sought_past : (next : ℕ) → IsBehind up place next → None ≡ option_map (λ e. (front ++ take from rest) ++ e.key)
        (nearest up (entries_at (length (drop from rest)) b to) (drop from rest))
        → nearest up (entries_at (length rest) b at) rest ≡ end_of up (entries_in (entries (length rest) b) (aside up next (node_at b at)))
    sought_past next behind missed =
        parted ∙ map_none front (s.prefix ++ s.edge ∷ []) (nearest up (entries_at (length (drop from rest)) b to) (drop from rest))
        (end_of up (side_of up (below_links s.prefix (entries (length rest) b) s.before) (below_links s.prefix (entries (length rest) b) s.after)))
        (missed ∙ ap (λ p. option_map (λ e. (front ++ p) ++ e.key) (nearest up (entries_at (length (drop from rest)) b to) (drop from rest))) begin_is)
        ∙ by_side up behind
      where
        node : node_at b at ≡ Inner s.prefix (s.before ++ (record { edge = s.edge; to = to }) ∷ s.after)
        node = inner_node (length rest) (length rest) b at s.prefix (s.before ++ (record { edge = s.edge; to = to }) ∷ s.after) s.node

        tail : drop (suc place) (s.before ++ (record { edge = s.edge; to = to }) ∷ s.after) ≡ s.after
        tail = ap (drop (suc place)) (sym (append_assoc s.before ((record { edge = s.edge; to = to }) ∷ []) s.after))
            ∙ drop_at (s.before ++ (record { edge = s.edge; to = to }) ∷ []) s.after (suc place) (length-append s.before ((record { edge = s.edge; to = to }) ∷ []) ∙ omega (arith, s.many))

        by_side : (u : Bool) → IsBehind u place next → end_of u
            (side_of u (below_links s.prefix (entries (length rest) b) s.before) (below_links s.prefix (entries (length rest) b) s.after)) ≡ end_of u
            (entries_in (entries (length rest) b) (aside u next (node_at b at)))
        by_side true h = sym
            (ap (λ m. first_of (entries_in (entries (length rest) b) (aside true next m))) node
            ∙ ap (λ ls. first_of (below_links s.prefix (entries (length rest) b) ls)) (ap (λ m. drop m (s.before ++ (record { edge = s.edge; to = to }) ∷ s.after)) h ∙ tail))
        by_side false h = sym
            (ap (λ m. last_of (entries_in (entries (length rest) b) (aside false next m))) node
            ∙ ap (λ ls. last_of (below_links s.prefix (entries (length rest) b) ls))
            (ap (λ m. take m (s.before ++ (record { edge = s.edge; to = to }) ∷ s.after)) h ∙ take_at s.before ((record { edge = s.edge; to = to }) ∷ s.after) place s.many))

    -- the link's place is less than the number of the node's links, which is 256 at most
    pub past_within : (place < length (links_in (node_of bytes))) × (length (links_in (node_of bytes)) ≤ 256)
    past_within =
        let node : node_of bytes ≡ Inner s.prefix (s.before ++ (record { edge = s.edge; to = to }) ∷ s.after) = sym (node_read b at bytes read)
        ∙ inner_node (length rest) (length rest) b at s.prefix (s.before ++ (record { edge = s.edge; to = to }) ∷ s.after) s.node in
        let most = count_most (s.before ++ (record { edge = s.edge; to = to }) ∷ s.after) s.node.inner.rising s.node.inner.edges in
        (omega (arith, ap (λ m. length (links_in m)) node, length-append s.before ((record { edge = s.edge; to = to }) ∷ s.after), s.many), omega (arith, ap (λ m. length (links_in m)) node))

-- the bytes before a key's rest, in two steps
pub take_two : (key : List ℕ) (depth from : ℕ) → take depth key ++ take from (drop depth key) ≡ take (depth + from) key
take_two key depth from = sym (take-add depth from key)

-- the bytes of a node are an inner one's where a key goes on by a link of it
pub lead_bytes : (few : ℕ) (bytes key : List ℕ) (place from : ℕ) (to : BlockRef) → IsNode few bytes → few ≤ 16 → LeadsTo (node_of bytes) key place from to → IsInnerBytes bytes
lead_bytes few bytes key place from to node short leads = record
    { rest = few; few = short; node = node; prefix = leads.prefix; links = leads.before ++ (record { edge = leads.edge; to = to }) ∷ leads.after; is = leads.node_is }

-- the bytes of a node that lacks a link for a key's byte are an inner one's, with no fewer links than its place
pub lack_bytes : (few : ℕ) (bytes key : List ℕ) (place from : ℕ) → IsNode few bytes → few ≤ 16 → Lacks (node_of bytes) key place from → IsInnerBytes bytes × (place ≤ length (links_in (node_of bytes)))
lack_bytes few bytes key place from node short lacks = (
  record { rest = few; few = short; node = node; prefix = lacks.prefix; links = lacks.before ++ lacks.after; is = lacks.node_is },
  omega
      (arith, ap (λ m. length (links_in m)) lacks.node_is, length-append lacks.before lacks.after, lacks.many),
)

-- what is nearest below a link by the whole key is so by the part of it that is left at the node
pub child_form : (up : Bool) (b : Blocks) (to : BlockRef) (key part : List ℕ) (depth from m : ℕ) (x : Option (List ℕ)) → part ≡ drop depth key → m ≡ length (drop from part)
    → x ≡ option_map (λ e. take (depth + from) key ++ e.key) (nearest up (entries_at m b to) (drop (depth + from) key))
    → x ≡ option_map (λ e. (take depth key ++ take from part) ++ e.key) (nearest up (entries_at (length (drop from part)) b to) (drop from part))
child_form up b to key part depth from m x is level found =
    let front : take (depth + from) key ≡ take depth key ++ take from part = sym (ap (λ p. take depth key ++ take from p) is ∙ take_two key depth from) in
    let rest : drop (depth + from) key ≡ drop from part = sym (ap (drop from) is ∙ drop-drop from depth key) in
    found ∙ ap (λ f. option_map (λ e. f ++ e.key) (nearest up (entries_at m b to) (drop (depth + from) key))) front
    ∙ ap (λ k. option_map (λ e. (take depth key ++ take from part) ++ e.key) (nearest up (entries_at m b to) k)) rest
    ∙ ap (λ n. option_map (λ e. (take depth key ++ take from part) ++ e.key) (nearest up (entries_at n b to) (drop from part))) level

-- the nearest to a part of the key is the nearest to the key's bytes from that depth on
pub parent_form : (up : Bool) (b : Blocks) (at : BlockRef) (key part front : List ℕ) (depth n : ℕ) (x : Option (List ℕ)) → part ≡ drop depth key → length part ≡ n
    → x ≡ option_map (λ e. front ++ e.key) (nearest up (entries_at (length part) b at) part) → x ≡ option_map (λ e. front ++ e.key) (nearest up (entries_at n b at) (drop depth key))
parent_form up b at key part front depth n x is level found =
    found ∙ ap (λ m. option_map (λ e. front ++ e.key) (nearest up (entries_at m b at) part)) level ∙ ap (λ k. option_map (λ e. front ++ e.key) (nearest up (entries_at n b at) k)) is

-- where the nearest entry is the one at the tree's end, what is found at that end is the nearest
pub end_form : (up : Bool) (b : Blocks) (at : BlockRef) (part front : List ℕ) (n : ℕ) (x : Option (List ℕ)) → length part ≡ n
    → nearest up (entries_at (length part) b at) part ≡ end_of up (entries_at (length part) b at)
    → x ≡ option_map (λ e. front ++ e.key) (end_of up (entries_at n b at)) → x ≡ option_map (λ e. front ++ e.key) (nearest up (entries_at (length part) b at) part)
end_form up b at part front n x level is found = found ∙ ap (λ m. option_map (λ e. front ++ e.key) (end_of up (entries_at m b at))) (sym level) ∙ ap (option_map (λ e. front ++ e.key)) (sym is)

-- where the nearest entry is an end of those on one side of a place, what is found at that end is the nearest
pub side_form : (up : Bool) (b : Blocks) (at : BlockRef) (part front : List ℕ) (n place : ℕ) (x : Option (List ℕ)) → length part ≡ n
    → nearest up (entries_at (length part) b at) part ≡ end_of up (entries_in (entries (length part) b) (aside up place (node_at b at)))
    → x ≡ option_map (λ e. front ++ e.key) (end_of up (entries_in (entries n b) (aside up place (node_at b at))))
    → x ≡ option_map (λ e. front ++ e.key) (nearest up (entries_at (length part) b at) part)
side_form up b at part front n place x level is found = found ∙ ap (λ m. option_map (λ e. front ++ e.key) (end_of up (entries_in (entries m b) (aside up place (node_at b at)))))
    (sym level) ∙ ap (option_map (λ e. front ++ e.key)) (sym is)

-- the place beyond one of so many links is no greater than their number
pub behind_within : (up : Bool) (place next count : ℕ) → IsBehind up place next → place < count → next ≤ count
behind_within true place next count is within = omega (arith, is)
behind_within false place next count is within = omega (arith, is)

-- where one byte comes before another, so do bytes that equal them
pub told_ahead : (up : Bool) (x y a c : ℕ) → x ≡ a → y ≡ c → IsByteAhead up x y → IsByteAhead up a c
told_ahead up x y a c p q h = subst (λ z. IsByteAhead up z c) p (subst (IsByteAhead up x) q h)
