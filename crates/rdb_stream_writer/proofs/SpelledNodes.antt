-- Nodes of a stream are spelled, and the marks.
use Rattle.std.proofs.Common.{◌≡◌, ℕ, ◌<◌, ◌≤◌, Bool, true, not, List, [], ◌∷◌, ◌++◌, length, Option, Some, None, Ok, refl, sym, ap, subst, ◌∙◌, append_assoc, length-append, arith}
use Rattle.std.specs.Prelude.{flat_map, ◌&&◌}
use Rattle.std.specs.List.{AllByRecursion, list_all}
use Rattle.std.specs.Ordering.{is_lt}
use Rattle.std.proofs.lemmas.Bool.{cond-true, le-leb, eq-eqb}
use Rattle.std.proofs.lemmas.List.{append-nil}
use Rattle.std.proofs.lemmas.List.Folds.{list_all-append}
use Rattle.blocks.specs.Blocks.{Blocks}
use Rattle.listpack.specs.Pack.{texts}
use Rattle.listpack.proofs.Laws.{exactly_one}
use Rattle.stream_groups.specs.Groups.{id_cmp}
use Rattle.stream_node.specs.declared.id.Id.{Id}
use Rattle.stream_node.specs.Entry.{Stored}
use Rattle.stream_node.specs.Ids.{IsId, id_number, id_key}
use Rattle.stream_node.proofs.Ids.{id_laws, cmp_less}
use Rattle.plain_world.specs.Streams.{Stream, StreamEntry}
use Rattle.stream_object.specs.Parts.{Part, stored_in, live_of, live_in, entries_in, IsPart, EndsBefore, Rising}
use Rattle.stream_object.specs.Streams.{AreUpto, pair_of}
use Rattle.stream_object.proofs.Losing.{pair_cmp}
use Rattle.stream_object.proofs.Walks.{all_live, part_ids, upto_test}
use Rattle.rdb_grammar.specs.declared.values.StreamType.TheVariants as types
use Rattle.rdb_grammar.specs.Format.{in_turn}
use Rattle.rdb_grammar.specs.Strings.{Head, Len, Num, body, string}
use Rattle.rdb_grammar.specs.StreamParts.{Nodes, node_key, longest_node, is_node_short, node_string, last_of, is_above, more_entries, with_entries, with_node, is_upto, Marks, marks}
use Rattle.rdb_parts.specs.Words.{length_word, string_word}
use Rattle.rdb_parts.proofs.Spelled.{length_spelled, string_spelled}
use Rattle.rdb_stream_writer.specs.Ids.{lengths_word}
use Rattle.rdb_stream_writer.specs.Nodes.{node_word}
use Rattle.rdb_stream_writer.specs.Streams.{first_of, marks_word, AreStoredMarks}
use Rattle.rdb_stream_writer.proofs.SpelledParts.{lengths_spelled, turns_none, turns_more}

-- ---- the strings of a node

key_spelled : (key : Id) → IsId key → node_key.Spells key (string_word (id_key key))
key_spelled key fits =
    let word = string_word (id_key key) in
    (id_key key, word, [], sym (append-nil word), (string_spelled (id_key key) (omega arith), refl), (sym (id_laws.back key fits), refl))

short_by : (h : Head) (text back : List ℕ) → length text ≤ longest_node → (body h).Spells text back → is_node_short h ≡ true
short_by (Len n) text back short s = le-leb n longest_node (omega (arith, short, s.1))
short_by (Num w) text back short s = refl

bytes_spelled : (bytes : List ℕ) → length bytes ≤ longest_node → node_string.Spells bytes (string_word bytes)
bytes_spelled bytes short =
    let s : string.Spells bytes (string_word bytes) = string_spelled bytes (omega (arith, short)) in
    (s.0, s.1, s.2, s.3, (s.4.0, short_by (s.0) bytes (s.2) short (s.5)), s.5)

-- ---- entries behind those of the nodes before

-- the last of some entries, where there is one
last_among : (P : Id → Type 0) (id : Id) (es : List Stored) → P id → AllByRecursion (λ e. P e.id) es → (l : Id) × (last_of (Some id) es ≡ Some l) × P l
last_among P id [] p h = (id, refl, p)
last_among P id (e ∷ es) p h = last_among P e.id es h.0 h.1

last_there : (P : Id → Type 0) (before : Option Id) (es : List Stored) → 0 < length es → AllByRecursion (λ e. P e.id) es → (l : Id) × (last_of before es ≡ Some l) × P l
last_there P before [] some h = absurd (omega (arith, some))
last_there P before (e ∷ es) some h = last_among P e.id es h.0 h.1

some_stored : (es : List Stored) → 0 < length (live_of es) → 0 < length es
some_stored [] some = absurd (omega (arith, some))
some_stored (e ∷ es) some = omega arith

-- an id is below all entries of these nodes
abbrev IsUnder : List Part → Id → Type 0
IsUnder ps id = IsId id × AllByRecursion (λ p. id_number id < id_number p.key) ps

abbrev AreBehind : Option Id → List Part → Type 0
AreBehind None ps = Unit {0}
AreBehind (Some id) ps = IsUnder ps id

under_more : (ps : List Part) (q : Part) (es : List Stored) → AllByRecursion (λ e. id_number e.id < id_number q.key) es → AllByRecursion (λ e. IsUnder ps e.id) es → AllByRecursion (λ e. IsUnder (q ∷ ps) e.id) es
under_more ps q [] h k = tt
under_more ps q (e ∷ es) h k = ((k.0.0, (h.0, k.0.1)), under_more ps q es h.1 k.1)

under_none : (es : List Stored) → AllByRecursion (λ e. IsId e.id) es → AllByRecursion (λ e. IsUnder [] e.id) es
under_none [] h = tt
under_none (e ∷ es) h = ((h.0, tt), under_none es h.1)

ends_under : (p : Part) (ps : List Part) → AllByRecursion (λ e. IsId e.id) (stored_in p) → AllByRecursion (EndsBefore p) ps → AllByRecursion (λ e. IsUnder ps e.id) (stored_in p)
ends_under p [] ids h = under_none (stored_in p) ids
ends_under p (q ∷ ps) ids h = under_more ps q (stored_in p) h.0 (ends_under p ps ids h.1)

above_by : (before : Option Id) (p : Part) (ps : List Part) (es : List Stored) → AreBehind before (p ∷ ps) → AllByRecursion (λ e. IsId e.id) es → AllByRecursion (λ e. id_number p.key ≤ id_number e.id) es → 0 < length es
    → is_above before es ≡ true
above_by None p ps es behind ids from some = refl
above_by (Some l) p ps [] behind ids from some = absurd (omega (arith, some))
above_by (Some l) p ps (e ∷ es) behind ids from some =
    ap is_lt (pair_cmp l e.id behind.0 ids.0 ∙ cmp_less (id_number l) (id_number e.id) (omega (arith, behind.1.0, from.0)))

module _ (m : Blocks) where
  -- a node, behind those before it
  node_spelled : (p : Part) (ps : List Part) (made : Nodes) → IsPart m p → AreBehind made.last (p ∷ ps) → (with_node made).Spells (more_entries made (stored_in p)) (node_word p)
  node_spelled p ps made is behind =
      let es = stored_in p in
      let n = is.is_node in
      let above : is_above made.last es ≡ true = above_by made.last p ps es behind (part_ids m p is) n.from (some_stored es n.some) in
      let keeps : with_entries made es ≡ Ok (more_entries made es) = cond-true _ _ _ above in
      let packs = (exactly_one p.bytes).whole n.pack in
      (p.key, string_word (id_key p.key), string_word p.bytes, refl, key_spelled p.key is.id, (p.bytes, bytes_spelled p.bytes n.short, (es, (texts p.bytes, packs, n.node), keeps)))

  -- All nodes are spelled, and have their entries.
  pub record Noded (ps : List Part) (made : Nodes) : Type 0 where
    pub final : Nodes
    pub spelled : (in_turn with_node (length ps) made).Spells final (flat_map node_word ps)
    pub entries : final.entries ≡ made.entries ++ entries_in ps

  pub nodes_spelled : (ps : List Part) (made : Nodes) → AllByRecursion (IsPart m) ps → Rising ps → AreBehind made.last ps → Noded ps made
  nodes_spelled [] made each rising behind = record { final = made; spelled = turns_none with_node made; entries = sym (append-nil made.entries) }
  nodes_spelled (p ∷ ps) made each rising behind =
      let es = stored_in p in
      let more : Nodes = more_entries made es in
      let l = last_there (IsUnder ps) made.last es (some_stored es each.0.is_node.some) (ends_under p ps (part_ids m p each.0) rising.0) in
      let rest : Noded ps more = nodes_spelled ps more each.1 rising.1 (subst (λ (o : Option Id). AreBehind o ps) (sym (l.1)) (l.2)) in
      record {
        final = rest.final;
        spelled = turns_more with_node (length ps) made more rest.final (node_word p) (flat_map node_word ps) (node_spelled p ps made each.0 behind) rest.spelled;
        entries = rest.entries ∙ append_assoc made.entries (live_in p) (entries_in ps);
      }

  -- no more nodes than entries
  pub few_nodes : (ps : List Part) → AllByRecursion (IsPart m) ps → length ps ≤ length (entries_in ps)
  few_nodes [] each = omega arith
  few_nodes (p ∷ ps) each = omega (arith, few_nodes ps each.1, each.0.is_node.some, length-append (live_in p) (entries_in ps))

  -- ---- the marks

  upto_all : (last : Id) → IsId last → (es : List Stored) → AllByRecursion (λ e. IsId e.id) es → AllByRecursion (λ e. id_number e.id ≤ id_number last) es
      → AllByRecursion (λ e. not (is_lt (id_cmp (pair_of last) (pair_of e.id))) ≡ true) es
  upto_all last fits [] ids h = tt
  upto_all last fits (e ∷ es) ids h =
      (ap (λ o. not (is_lt o)) (pair_cmp last e.id fits ids.0) ∙ upto_test (id_number e.id) (id_number last) h.0, upto_all last fits es ids.1 h.1)

  all_tested : (test : StreamEntry → Bool) (es : List StreamEntry) → AllByRecursion (λ e. test e ≡ true) es → list_all test es ≡ true
  all_tested test [] h = refl
  all_tested test (e ∷ es) h = ap (λ b. b && list_all test es) h.0 ∙ all_tested test es h.1

  -- no entry is above the last id
  pub upto_last : (last : Id) → IsId last → (ps : List Part) → AllByRecursion (IsPart m) ps → AreUpto last ps → is_upto (entries_in ps) (pair_of last) ≡ true
  upto_last last fits [] each h = refl
  upto_last last fits (p ∷ ps) each h =
      let test : StreamEntry → Bool = λ e. not (is_lt (id_cmp (pair_of last) e.id)) in
      let here : list_all test (live_in p) ≡ true = all_tested test (live_in p) (all_live (λ e. test e ≡ true) (stored_in p) (upto_all last fits (stored_in p) (part_ids m p each.0) h.0)) in
      list_all-append test (live_in p) (entries_in ps) ∙ ap (λ b. b && list_all test (entries_in ps)) here ∙ upto_last last fits ps each.1 h.1

-- the marks that are read
abbrev pub marks_of : Stream → Marks
marks_of s = record { last = s.last; deleted = s.deleted; added = s.added }

pub marks_spelled : (s : Stream) → AreStoredMarks s → is_upto s.entries s.last ≡ true → (marks types.Third s.entries).Spells (marks_of s) (marks_word s)
marks_spelled s fits upto =
    let first = lengths_word (first_of s.entries) in
    let deleted = lengths_word s.deleted in
    let added = length_word s.added in (
      length s.entries,
      length_word (length s.entries),
      lengths_word s.last ++ (first ++ (deleted ++ added)),
      refl,
      (length_spelled (length s.entries) fits.count_fits, eq-eqb (length s.entries) (length s.entries) refl),
      (
        s.last,
        lengths_word s.last,
        first ++ (deleted ++ added),
        refl,
        (lengths_spelled s.last fits.last_fits, upto),
        (
          first_of s.entries,
          first,
          deleted ++ added,
          refl,
          lengths_spelled (first_of s.entries) fits.first_fits,
          (s.deleted, deleted, added, refl, lengths_spelled s.deleted fits.deleted_fits, (s.added, added, [], sym (append-nil added), length_spelled s.added fits.added_fits, (refl, refl))),
        ),
      ),
    )
