-- Ids of a node's entries, beside those of the nodes before it.
use Rattle.std.proofs.Common.{◌≡◌, ◌⊎◌, inl, inr, ◌∙◌, ℕ, ◌<◌, Bool, true, false, List, [], ◌∷◌, map, Result, Ok, Err, refl, sym, ap, subst, cond, arith}
use Rattle.std.specs.Prelude.{Option, Some, None, not, ◌&&◌}
use Rattle.std.specs.List.{AllByRecursion, filter, list_all}
use Rattle.std.specs.Ordering.{is_lt}
use Rattle.std.proofs.lemmas.Bool.{cases_lt, cases_eq, cond-true, cond-false}
use Rattle.std.proofs.lemmas.List.Folds.{list_all-append}
use Rattle.listpack.specs.Pack.{IsPack, texts}
use Rattle.stream_groups.specs.Groups.{id_cmp}
use Rattle.stream_node.specs.declared.id.Id.{Id}
use Rattle.stream_node.specs.Entry.{Stored, IsBelow}
use Rattle.stream_node.specs.Entries.{IsNode, entries_of}
use Rattle.stream_node.specs.Ids.{IsId, id_number}
use Rattle.stream_node.proofs.Ids.{id_laws}
use Rattle.plain_world.specs.Streams.{StreamEntry}
use Rattle.stream_object.specs.Loading.{AreAbove}
use Rattle.stream_object.specs.Parts.{Part, stored_in, is_live, plain, live_of, live_in, entries_in}
use Rattle.stream_object.specs.Streams.{AreBelow, AreUpto}
use Rattle.stream_object.proofs.Grows.{all_below}
use Rattle.stream_object.proofs.Loads.{all_above}
use Rattle.stream_object.proofs.Marking.{node_ids}
use Rattle.stream_object.proofs.Picks.{below_is}
use Rattle.rdb_grammar.specs.declared.fault.LoadKind.{LoadKind}
use Rattle.rdb_grammar.specs.declared.fault.LoadKind.TheVariants as kinds
use Rattle.rdb_grammar.specs.StreamParts.{Nodes, is_above, more_entries, node_on}
use Rattle.rdb_grammar.specs.Views.{pair_of}
use Rattle.rdb_grammar.proofs.NodesRead.{is_read, node_behind}
use Rattle.rdb_streams.specs.Reading.{Covers, IsGreatest}
use Rattle.rdb_streams.specs.Seeing.{IsAnId}

-- ---- two ids

pub below_or_not : (a b : Id) → IsBelow a b ⊎ (IsBelow a b → ⊥)
below_or_not a b =
    elim (cases_lt a.ms b.ms) [
      | inl less ↦ inl (inl less)
      | inr not_less ↦ elim (cases_eq a.ms b.ms) [
        | inl same ↦ elim (cases_lt a.seq b.seq) [
          | inl below ↦ inl (inr (same, below))
          | inr not_below ↦ inr (λ is. elim is [ inl l ↦ omega (arith, l, not_less) | inr s ↦ omega (arith, s.1, not_below) ])
        ]
        | inr differ ↦ inr (λ is. elim is [ inl l ↦ omega (arith, l, not_less) | inr s ↦ differ s.0 ])
      ]
    ]

pub lt_below : (a b : Id) → IsBelow a b → is_lt (id_cmp (pair_of a) (pair_of b)) ≡ true
lt_below a b is = below_is a b true (λ h. is) (λ h. refl)

pub lt_upto : (a b : Id) → (IsBelow a b → ⊥) → is_lt (id_cmp (pair_of a) (pair_of b)) ≡ false
lt_upto a b none = below_is a b false (λ h. absurd (let bad : false ≡ true = h in cc)) (λ h. absurd (none h))

says_below : (a b : Id) → is_lt (id_cmp (pair_of a) (pair_of b)) ≡ true → IsBelow a b
says_below a b h = elim (below_or_not a b) [
  | inl is ↦ is
  | inr none ↦ absurd (let bad : true ≡ false = sym h ∙ lt_upto a b none in cc)
]

-- an id that isn't below a lesser one isn't above that
not_above : (id : Id) → IsId id → (a : Id) → id_number a < id_number id → not (is_lt (id_cmp (pair_of id) (pair_of a))) ≡ true
not_above id fits a less =
    let seq : id.seq < 18446744073709551616 = omega (arith, fits.seq) in
    ap not (lt_upto id a (λ is. elim is [ inl l ↦ omega (arith, l, less, seq) | inr s ↦ omega (arith, s.0, s.1, less) ]))

-- ---- entries that are live

pub live_kept : (e : Stored) (es : List Stored) → e.deleted ≡ false → live_of (e ∷ es) ≡ plain e ∷ live_of es
live_kept e es h = ap (map plain) (cond-true (is_live e) (e ∷ filter is_live es) (filter is_live es) (ap not h))

pub live_left : (e : Stored) (es : List Stored) → e.deleted ≡ true → live_of (e ∷ es) ≡ live_of es
live_left e es h = ap (map plain) (cond-false (is_live e) (e ∷ filter is_live es) (filter is_live es) (ap not h))

-- ---- an id above all entries of some nodes

module _ (id : Id) (fits : IsId id) where
  abbrev test : StreamEntry → Bool
  test e = not (is_lt (id_cmp (pair_of id) e.id))

  live_upto : (es : List Stored) → AllByRecursion (λ e. id_number e.id < id_number id) es → list_all test (live_of es) ≡ true
  live_upto [] h = refl
  live_upto (e ∷ es) h = by_case e.deleted refl (live_upto es h.1)
    where
      by_case : (b : Bool) → e.deleted ≡ b → list_all test (live_of es) ≡ true → list_all test (live_of (e ∷ es)) ≡ true
      by_case true is rest = ap (list_all test) (live_left e es is) ∙ rest
      by_case false is rest = ap (list_all test) (live_kept e es is) ∙ ap (λ (b : Bool). b && list_all test (live_of es)) (not_above id fits e.id h.0) ∙ rest

  parts_upto : (ps : List Part) → AreBelow id ps → list_all test (entries_in ps) ≡ true
  parts_upto [] h = refl
  parts_upto (p ∷ ps) h =
      list_all-append test (live_in p) (entries_in ps) ∙ ap (λ (b : Bool). b && list_all test (entries_in ps)) (live_upto (stored_in p) h.0) ∙ parts_upto ps h.1

-- an id isn't below the greatest one, where there is one
abbrev pub From : Option Id → Id → Type 0
From None id = Unit {0}
From (Some greatest) id = IsBelow id greatest → ⊥

from_greatest : (ps : List Part) (greatest : Option Id) (id : Id) → IsId id → IsGreatest (entries_in ps) greatest → AreBelow id ps → From greatest id
from_greatest ps None id fits h below = tt
from_greatest ps (Some g) id fits h below =
    λ is. (let bad : true ≡ false = sym (parts_upto id fits ps below) ∙ h (pair_of id) ∙ ap not (lt_below id g is) in cc)

pub all_from : (ps : List Part) (greatest : Option Id) (es : List Stored) → IsGreatest (entries_in ps) greatest → AllByRecursion (λ e. IsId e.id) es → AreAbove ps es
    → AllByRecursion (λ e. From greatest e.id) es
all_from ps greatest [] h ids above = tt
all_from ps greatest (e ∷ es) h ids above = (from_greatest ps greatest e.id ids.0 h above.0, all_from ps greatest es h ids.1 above.1)

-- ---- a node above others

above_none : (es : List Stored) (ps : List Part) → ps ≡ [] → AreAbove ps es
above_none [] ps none = tt
above_none (e ∷ es) ps none = (subst (AreBelow e.id) (sym none) tt, above_none es ps none)

above_id : (last : Id) (ps : List Part) (es : List Stored) → IsId last → AllByRecursion (λ e. IsId e.id) es → AllByRecursion (λ e. IsBelow last e.id) es → AreUpto last ps → AreAbove ps es
above_id last ps [] fits ids low upto = tt
above_id last ps (e ∷ es) fits ids low upto = (all_below last e.id ((id_laws.below last e.id fits ids.0).0 low.0) ps upto, above_id last ps es fits ids.1 low.1 upto)

-- by its first id
node_above : (before : Option Id) (key : Id) (list : List (List ℕ)) (ps : List Part) (es : List Stored) → IsNode key list → entries_of key list ≡ es → is_above before es ≡ true
    → IsAnId before → Covers before ps → AreAbove ps (entries_of key list)
node_above None key list ps es node is above fits cover = above_none (entries_of key list) ps cover
node_above (Some last) key list ps [] node is above fits cover = subst (AreAbove ps) (sym is) tt
node_above (Some last) key list ps (e ∷ es) node is above fits cover =
    above_id last ps (entries_of key list) fits (node_ids key list node) ((all_above key list last e es node is).0 (says_below last e.id above)) cover

abbrev told_by : Bool → Nodes → Result Nodes LoadKind
told_by test x = cond test (Ok x) (Err kinds.StreamShape)

is_kept : (test : Bool) (x y : Nodes) → told_by test x ≡ Ok y → test ≡ true
is_kept true x y h = refl
is_kept false x y h = absurd (let bad : told_by false x ≡ Ok y = h in cc)

-- where it was found behind them
pub found_above : (made : Nodes) (key : Id) (payload : List ℕ) (ps : List Part) (y : Nodes) → IsPack payload → IsNode key (texts payload) → (node_on key made).found payload ≡ Ok y
    → IsAnId made.last → Covers made.last ps → AreAbove ps (entries_of key (texts payload))
found_above made key payload ps y pack node found fits cover =
    let es = entries_of key (texts payload) in
    let told = node_behind key payload made es made.last (is_above made.last es) (is_read key payload es pack node refl) refl refl in
    node_above made.last key (texts payload) ps es node refl (is_kept (is_above made.last es) (more_entries made es) y (sym told ∙ found)) fits cover
