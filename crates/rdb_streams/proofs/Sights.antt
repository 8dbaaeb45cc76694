-- What is seen of a stream's nodes, where one more was put behind them.
use Rattle.std.proofs.Common.{◌≡◌, ◌⊎◌, inl, inr, ◌∙◌, ℕ, ◌<◌, ◌≤◌, Bool, true, false, List, [], ◌∷◌, ◌++◌, length, Result, Ok, refl, sym, ap, subst, arith, length-append}
use Rattle.std.specs.Prelude.{Option, Some, None}
use Rattle.std.specs.List.{AllByRecursion}
use Rattle.std.proofs.lemmas.Bool.{cond-true, cond-false}
use Rattle.blocks.specs.Blocks.{Blocks, Changes}
use Rattle.blocks.proofs.Change.{changes_same}
use Rattle.stream_node.specs.declared.id.Id.{Id}
use Rattle.stream_node.specs.Entry.{Stored}
use Rattle.stream_node.specs.Entries.{IsNode, entries_of}
use Rattle.stream_node.specs.Ids.{IsId, id_number}
use Rattle.plain_world.specs.Streams.{StreamEntry}
use Rattle.stream_object.specs.declared.stream.Stream.{Stream as Log}
use Rattle.stream_object.specs.Loading.{AreAbove, AreLiveUpto, loaded}
use Rattle.stream_object.specs.Parts.{Part, stored_in, live_of, live_in, entries_in, HasParts}
use Rattle.stream_object.specs.Streams.{AreBelow, AreUpto, IsStream, IsChanged, entries, nodes, refs, stream_of}
use Rattle.stream_object.proofs.Losing.{Sorted, node_sorted}
use Rattle.stream_object.proofs.Marking.{node_ids}
use Rattle.stream_object.proofs.Parts.{refs_are}
use Rattle.rdb_grammar.specs.declared.fault.LoadKind.{LoadKind}
use Rattle.rdb_grammar.specs.StreamParts.{Nodes, is_upto, last_of, more_entries, no_nodes}
use Rattle.rdb_streams.specs.declared.nodes.Seen.{Seen}
use Rattle.rdb_streams.specs.Reading.{Covers, so_far}
use Rattle.rdb_streams.specs.Seeing.{seen_more, seen_behind, IsAnId, Sees}
use Rattle.rdb_streams.proofs.Newest.{more_greatest}
use Rattle.rdb_streams.proofs.Ordered.{all_from, live_left}

both : {X : Type 0} (P Q : X → Type 0) (xs : List X) → AllByRecursion P xs → AllByRecursion Q xs → AllByRecursion (λ x. P x × Q x) xs
both P Q [] p q = tt
both P Q (x ∷ xs) p q = ((p.0, q.0), both P Q xs p.1 q.1)

-- ---- the last entry of some

-- there is none, or the one that is seen has this, and no id is above its
abbrev Last : (Stored → Type 0) → Seen → List Stored → Type 0
Last P seen es = ((es ≡ []) × ((seen_behind seen es).before ≡ seen.before))
    ⊎ ((e : Stored) × ((seen_behind seen es).before ≡ Some e.id) × P e × AllByRecursion (λ f. id_number f.id ≤ id_number e.id) es)

last_case : (P : Stored → Type 0) (seen : Seen) (es : List Stored) → Sorted es → AllByRecursion P es → Last P seen es
last_case P seen [] sorted each = inl (refl, refl)
last_case P seen (e ∷ es) sorted each =
    elim (last_case (λ f. P f × (id_number e.id < id_number f.id)) (seen_more seen e) es sorted.1 (both P (λ f. id_number e.id < id_number f.id) es each.1 sorted.0)) [
      | inl h ↦ inr (e, h.1, each.0, (omega arith, subst (AllByRecursion (λ f. id_number f.id ≤ id_number e.id)) (sym h.0) tt))
      | inr f ↦ inr (f.0, f.1, f.2.0, (omega (arith, f.2.1), f.3))
    ]

-- ---- the last live one

abbrev AreDeleted : List Stored → Type 0
AreDeleted es = AllByRecursion (λ e. e.deleted ≡ true) es

abbrev Latest : (Stored → Type 0) → Seen → List Stored → Type 0
Latest P seen es = (((seen_behind seen es).greatest ≡ seen.greatest) × AreDeleted es)
    ⊎ ((e : Stored) × ((seen_behind seen es).greatest ≡ Some e.id) × P e × AreLiveUpto e.id es)

deleted_upto : (id : Id) (es : List Stored) → AreDeleted es → AreLiveUpto id es
deleted_upto id [] h = tt
deleted_upto id (e ∷ es) h = ((λ live. absurd (let bad : true ≡ false = sym h.0 ∙ live in cc)), deleted_upto id es h.1)

deleted_none : (es : List Stored) → AreDeleted es → live_of es ≡ []
deleted_none [] h = refl
deleted_none (e ∷ es) h = live_left e es h.0 ∙ deleted_none es h.1

latest_one : (P : Stored → Type 0) (seen : Seen) (e : Stored) (es : List Stored) (b : Bool) → e.deleted ≡ b → P e
    → Latest (λ f. P f × (id_number e.id < id_number f.id)) (seen_more seen e) es → Latest P seen (e ∷ es)
latest_one P seen e es true is p (inl h) = inl (h.0 ∙ cond-true e.deleted seen.greatest (Some e.id) is, (is, h.1))
latest_one P seen e es false is p (inl h) = inr (e, h.0 ∙ cond-false e.deleted seen.greatest (Some e.id) is, p, ((λ live. omega arith), deleted_upto e.id es h.1))
latest_one P seen e es b is p (inr f) = inr (f.0, f.1, f.2.0, ((λ live. omega (arith, f.2.1)), f.3))

latest_case : (P : Stored → Type 0) (seen : Seen) (es : List Stored) → Sorted es → AllByRecursion P es → Latest P seen es
latest_case P seen [] sorted each = inl (refl, tt)
latest_case P seen (e ∷ es) sorted each =
    latest_one P seen e es e.deleted refl each.0
    (latest_case (λ f. P f × (id_number e.id < id_number f.id)) (seen_more seen e) es sorted.1 (both P (λ f. id_number e.id < id_number f.id) es each.1 sorted.0))

-- what stands before is by the same entries
before_is : (seen : Seen) (es : List Stored) → (seen_behind seen es).before ≡ last_of seen.before es
before_is seen [] = refl
before_is seen (e ∷ es) = before_is (seen_more seen e) es

-- ---- nodes that were up to some id

upto_weaker : (id : Id) (es : List Stored) → AllByRecursion (λ e. id_number e.id < id_number id) es → AllByRecursion (λ e. id_number e.id ≤ id_number id) es
upto_weaker id [] h = tt
upto_weaker id (e ∷ es) h = (omega (arith, h.0), upto_weaker id es h.1)

below_upto : (id : Id) (ps : List Part) → AreBelow id ps → AreUpto id ps
below_upto id [] h = tt
below_upto id (p ∷ ps) h = (upto_weaker id (stored_in p) h.0, below_upto id ps h.1)

all_live : (id : Id) (es : List Stored) → AllByRecursion (λ e. id_number e.id ≤ id_number id) es → AreLiveUpto id es
all_live id [] h = tt
all_live id (e ∷ es) h = ((λ live. h.0), all_live id es h.1)

module _ (old new : List Part) (es : List Stored) (up : (id : Id) → AreUpto id old → AreLiveUpto id es → AreUpto id new) (none : old ≡ [] → live_of es ≡ [] → new ≡ []) where
  -- without a live entry what covered them covers them
  kept_cover : (o : Option Id) → Covers o old → AreDeleted es → Covers o new
  kept_cover None cover gone = none cover (deleted_none es gone)
  kept_cover (Some id) cover gone = up id cover (deleted_upto id es gone)

  before_covers : (seen : Seen) → Covers seen.before old → Sorted es → AreAbove old es → Covers (seen_behind seen es).before new
  before_covers seen cover sorted above = elim (last_case (λ e. AreBelow e.id old) seen es sorted above) [
    | inl h ↦ subst (λ (o : Option Id). Covers o new) (sym h.1) (kept_cover seen.before cover (subst AreDeleted (sym h.0) tt))
    | inr f ↦ subst (λ (o : Option Id). Covers o new) (sym f.1) (up f.0.id (below_upto f.0.id old f.2) (all_live f.0.id es f.3))
  ]

  greatest_covers : (seen : Seen) → Covers seen.greatest old → Sorted es → AreAbove old es → Covers (seen_behind seen es).greatest new
  greatest_covers seen cover sorted above = elim (latest_case (λ e. AreBelow e.id old) seen es sorted above) [
    | inl h ↦ subst (λ (o : Option Id). Covers o new) (sym h.0) (kept_cover seen.greatest cover h.1)
    | inr f ↦ subst (λ (o : Option Id). Covers o new) (sym f.1) (up f.0.id (below_upto f.0.id old f.2) f.3)
  ]

before_fits : (seen : Seen) (es : List Stored) → IsAnId seen.before → Sorted es → AllByRecursion (λ e. IsId e.id) es → IsAnId (seen_behind seen es).before
before_fits seen es fits sorted ids = elim (last_case (λ e. IsId e.id) seen es sorted ids) [
  | inl h ↦ subst IsAnId (sym h.1) fits
  | inr f ↦ subst IsAnId (sym f.1) f.2
]

-- nodes without a live entry are none
no_parts : (m : Blocks) (s : Log) (ps : List Part) → HasParts m s.tree ps → entries_in ps ≡ [] → ps ≡ []
no_parts m s [] h none = refl
no_parts m s (p ∷ ps) h none =
    let some : 0 < length (live_in p) = h.each.0.is_node.some in
    let all : length (live_in p ++ entries_in ps) ≡ 0 = ap length none in
    absurd (omega (arith, some, all, length-append (live_in p) (entries_in ps)))

-- ---- one node more

module _ (m after : Blocks) (s new : Log) (key : Id) (list : List (List ℕ)) (seen : Seen) (h : Sees m s seen) (node : IsNode key list) (above : AreAbove (nodes m s) (entries_of key list))
    (changed : IsChanged m after s new (loaded (stream_of m s) (entries_of key list))) where
  now_entries : entries after new ≡ entries m s ++ live_of (entries_of key list)
  now_entries = ap (λ v. v.entries) changed.value_is

  no_node : nodes m s ≡ [] → live_of (entries_of key list) ≡ [] → nodes after new ≡ []
  no_node none gone =
      no_parts after new (nodes after new) changed.is_stream.parts
      (now_entries ∙ ap (λ (xs : List StreamEntry). entries m s ++ xs) gone ∙ ap (λ (ps : List Part). entries_in ps ++ []) none)

  pub now_sees : ((id : Id) → AreUpto id (nodes m s) → AreLiveUpto id (entries_of key list) → AreUpto id (nodes after new)) → Sees after new (seen_behind seen (entries_of key list))
  now_sees up =
      let es = entries_of key list in
      let sorted = node_sorted key list node in
      let ids = node_ids key list node in
      let has = h.has in
      record {
        has = record {
          is_stream = changed.is_stream;
          behind = before_covers (nodes m s) (nodes after new) es up no_node seen has.behind sorted above;
          covered = greatest_covers (nodes m s) (nodes after new) es up no_node seen has.covered sorted above;
          is_greatest = λ last. ap (λ (xs : List StreamEntry). is_upto xs last) now_entries
              ∙ more_greatest es sorted ids (entries m s) seen has.is_greatest (all_from (nodes m s) seen.greatest es has.is_greatest ids above) last;
        };
        fits = before_fits seen es h.fits sorted ids;
      }

  pub now_far : more_entries (so_far m s seen.before) (entries_of key list) ≡ so_far after new (seen_behind seen (entries_of key list)).before
  now_far = λ i. record { entries = sym now_entries i; last = sym (before_is seen (entries_of key list)) i }

-- nothing was put
pub still_owned : (m : Blocks) (s : Log) → IsStream m s → Changes m m (refs m s) (refs m s)
still_owned m s is = subst (λ rs. Changes m m rs rs) (sym (refs_are m s.tree (nodes m s) is.parts)) (changes_same m _ is.parts.owned)

-- a stream without a node
pub none_far : (m : Blocks) (s : Log) → nodes m s ≡ [] → so_far m s None ≡ no_nodes
none_far m s none = ap (λ (ps : List Part). record { entries = entries_in ps; last = None }) none

pub none_seen : (m : Blocks) (s : Log) → IsStream m s → nodes m s ≡ [] → Sees m s (record { before = None; greatest = None })
none_seen m s is none = record {
  has = record { is_stream = is; behind = none; covered = none; is_greatest = λ last. ap (λ (ps : List Part). is_upto (entries_in ps) last) none };
  fits = tt;
}

-- what a payload's node says behind others
pub told_far : (told : Result Nodes LoadKind) (made : Nodes) (es fs : List Stored) (new : Nodes) → told ≡ Ok (more_entries made es) → es ≡ fs → more_entries made fs ≡ new → told ≡ Ok new
told_far told made es fs new is same far = is ∙ ap (λ (xs : List Stored). Ok (more_entries made xs)) same ∙ ap (λ (n : Nodes). Ok n) far
