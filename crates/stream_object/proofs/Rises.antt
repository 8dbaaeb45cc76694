-- Entries by rising ids.
use Rattle.std.proofs.Common.{◌≡◌, ◌∙◌, ℕ, zero, suc, ◌+◌, ◌-◌, ◌<◌, ◌≤◌, Bool, true, false, List, [], ◌∷◌, ◌++◌, length, map, drop, refl, sym, ap, subst, inl, inr, arith, length-append, length-drop}
use Rattle.std.specs.Prelude.{not, ◌&&◌, if◌then◌else◌}
use Rattle.std.specs.List.{AllByRecursion, filter}
use Rattle.std.specs.Ordering.{is_lt}
use Rattle.std.proofs.lemmas.Bool.{cases_lt, cond-true, cond-false}
use Rattle.std.proofs.lemmas.List.{map-append, drop_at}
use Rattle.std.proofs.lemmas.List.Elements.{filter-append}
use Rattle.blocks.specs.Blocks.{Blocks}
use Rattle.listpack.specs.Pack.{texts}
use Rattle.stream_node.specs.declared.id.Id.{Id}
use Rattle.stream_node.specs.declared.entry.Entry.{Entry}
use Rattle.stream_node.specs.Entry.{Stored}
use Rattle.stream_node.specs.Ids.{IsId, id_number}
use Rattle.stream_node.specs.View.{stored}
use Rattle.stream_node.proofs.Ids.{cmp_less, cmp_equal, cmp_greater}
use Rattle.rax_packed.proofs.Entries.{all-append, all_weaker}
use Rattle.plain_world.specs.Streams.{StreamEntry}
use Rattle.stream_object.specs.declared.stream.Stream.{Stream as Log}
use Rattle.stream_object.specs.Parts.{Part, stored_in, plain, is_live, live_of, live_in, entries_in, IsPart, Rising}
use Rattle.stream_object.specs.Streams.{nodes, entries, IsStream, IsChanged, stream_of, dropping}
use Rattle.stream_object.specs.Ranges.{seen}
use Rattle.stream_object.specs.Below.{is_low, count_low, from_id}
use Rattle.stream_object.proofs.Losing.{pair_cmp, Sorted, node_sorted}
use Rattle.stream_object.proofs.Marking.{live_append, live_one_in_marking, live_none_in_marking}
use Rattle.stream_object.proofs.Walks.{all_live, part_ids, filter_none}

-- the id of an entry
abbrev pub id_of : StreamEntry → Id
id_of e = record { ms = e.id.0; seq = e.id.1 }

abbrev pub Fit : List StreamEntry → Type 0
Fit es = AllByRecursion (λ e. IsId (id_of e)) es

abbrev pub AllAbove : Id → List StreamEntry → Type 0
AllAbove id es = AllByRecursion (λ f. id_number id < id_number (id_of f)) es

abbrev pub Rises : List StreamEntry → Type 0
Rises [] = Unit {0}
Rises (e ∷ es) = AllAbove (id_of e) es × Rises es

live_rises : (es : List Stored) → Sorted es → Rises (live_of es)
live_rises [] s = tt
live_rises (e ∷ es) s = by_mark (live_rises es s.1) e.deleted refl
  where
    by_mark : Rises (live_of es) → (b : Bool) → e.deleted ≡ b → Rises (live_of (e ∷ es))
    by_mark rest true is = subst Rises (sym (ap (map plain) (cond-false _ (e ∷ filter is_live es) (filter is_live es) (ap not is)))) rest
    by_mark rest false is = subst Rises (sym (ap (map plain) (cond-true _ (e ∷ filter is_live es) (filter is_live es) (ap not is)))) (all_live (λ f. id_number e.id < id_number (id_of f)) es s.0, rest)

rises_append : (xs ys : List StreamEntry) → Rises xs → Rises ys → AllByRecursion (λ x. AllAbove (id_of x) ys) xs → Rises (xs ++ ys)
rises_append [] ys a b h = b
rises_append (x ∷ xs) ys a b h = (all-append (λ f. id_number (id_of x) < id_number (id_of f)) xs ys a.0 h.0, rises_append xs ys a.1 b h.1)

module _ (m : Blocks) where
  -- all entries of later nodes are above a number that is not above their keys
  above_keys : (id : Id) (ps : List Part) → AllByRecursion (IsPart m) ps → AllByRecursion (λ q. id_number id < id_number q.key) ps → AllAbove id (entries_in ps)
  above_keys id [] each h = tt
  above_keys id (q ∷ ps) each h =
      all-append (λ f. id_number id < id_number (id_of f)) (live_in q) (entries_in ps)
      (all_live (λ f. id_number id < id_number (id_of f)) (stored_in q)
      (all_weaker (λ (e : Stored). id_number q.key ≤ id_number e.id) (λ e. id_number id < id_number e.id) (stored_in q) (λ e upto. omega (arith, upto, h.0)) each.0.is_node.from))
      (above_keys id ps each.1 h.1)

  across : (es : List Stored) (ps : List Part) → AllByRecursion (IsPart m) ps → AllByRecursion (λ q. AllByRecursion (λ e. id_number e.id < id_number q.key) es) ps
      → AllByRecursion (λ x. AllAbove (id_of x) (entries_in ps)) (live_of es)
  across es ps each ends = all_live (λ x. AllAbove (id_of x) (entries_in ps)) es (one es ends)
    where
      first : (e : Stored) (rest : List Stored) (qs : List Part) → AllByRecursion (λ q. AllByRecursion (λ f. id_number f.id < id_number q.key) (e ∷ rest)) qs
          → AllByRecursion (λ q. id_number e.id < id_number q.key) qs
      first e rest [] h = tt
      first e rest (q ∷ qs) h = (h.0.0, first e rest qs h.1)

      others : (e : Stored) (rest : List Stored) (qs : List Part) → AllByRecursion (λ q. AllByRecursion (λ f. id_number f.id < id_number q.key) (e ∷ rest)) qs
          → AllByRecursion (λ q. AllByRecursion (λ f. id_number f.id < id_number q.key) rest) qs
      others e rest [] h = tt
      others e rest (q ∷ qs) h = (h.0.1, others e rest qs h.1)

      one : (xs : List Stored) → AllByRecursion (λ q. AllByRecursion (λ e. id_number e.id < id_number q.key) xs) ps → AllByRecursion (λ e. AllAbove e.id (entries_in ps)) xs
      one [] h = tt
      one (e ∷ xs) h = (above_keys e.id ps each (first e xs ps h), one xs (others e xs ps h))

  pub parts_rise : (ps : List Part) → AllByRecursion (IsPart m) ps → Rising ps → Rises (entries_in ps)
  parts_rise [] each r = tt
  parts_rise (p ∷ ps) each r =
      rises_append (live_in p) (entries_in ps) (live_rises (stored_in p) (node_sorted p.key (texts p.bytes) each.0.is_node.node)) (parts_rise ps each.1 r.1) (across (stored_in p) ps each.1 r.0)

  pub parts_fit : (ps : List Part) → AllByRecursion (IsPart m) ps → Fit (entries_in ps)
  parts_fit [] each = tt
  parts_fit (p ∷ ps) each = all-append (λ e. IsId (id_of e)) (live_in p) (entries_in ps) (all_live (λ e. IsId (id_of e)) (stored_in p) (part_ids m p each.0)) (parts_fit ps each.1)

pub stream_rises : (m : Blocks) (s : Log) → IsStream m s → Rises (entries m s)
stream_rises m s is = parts_rise m (nodes m s) is.parts.each is.parts.rising

pub stream_fits : (m : Blocks) (s : Log) → IsStream m s → Fit (entries m s)
stream_fits m s is = parts_fit m (nodes m s) is.parts.each

-- entries below an id, and the others
module _ (least : Id) (fits : IsId least) where
  abbrev low : StreamEntry → Bool
  low e = is_low least e

  low_yes : (e : StreamEntry) → IsId (id_of e) → id_number (id_of e) < id_number least → low e ≡ true
  low_yes e x less = ap is_lt (pair_cmp (id_of e) least x fits ∙ cmp_less (id_number (id_of e)) (id_number least) less)

  low_no : (e : StreamEntry) → IsId (id_of e) → id_number least ≤ id_number (id_of e) → low e ≡ false
  low_no e x upto = elim (cases_lt (id_number least) (id_number (id_of e))) [
    | inl more ↦ ap is_lt (pair_cmp (id_of e) least x fits ∙ cmp_greater (id_number (id_of e)) (id_number least) more)
    | inr also ↦ ap is_lt (pair_cmp (id_of e) least x fits ∙ cmp_equal (id_number (id_of e)) (id_number least) (omega arith))
  ]

  others_no : (e : StreamEntry) (es : List StreamEntry) → id_number least ≤ id_number (id_of e) → Fit es → AllAbove (id_of e) es → AllByRecursion (λ f. low f ≡ false) es
  others_no e [] upto fit above = tt
  others_no e (f ∷ es) upto fit above = (low_no f fit.0 (omega (arith, upto, above.0)), others_no e es upto fit.1 above.1)

  pub none_low : (e : StreamEntry) (es : List StreamEntry) → id_number least ≤ id_number (id_of e) → Fit (e ∷ es) → Rises (e ∷ es) → filter low (e ∷ es) ≡ []
  none_low e es upto fit rise = filter_none low (e ∷ es) (low_no e fit.0 upto, others_no e es upto fit.1 rise.0)

  kept : (es : List StreamEntry) → AllByRecursion (λ f. low f ≡ false) es → filter (λ e. not (low e)) es ≡ es
  kept [] h = refl
  kept (e ∷ es) h = cond-true _ _ _ (ap not h.0) ∙ ap (λ xs. e ∷ xs) (kept es h.1)

  -- those below stand first
  pub split_low : (es : List StreamEntry) → Fit es → Rises es → es ≡ filter low es ++ filter (λ e. not (low e)) es
  split_low [] fit rise = refl
  split_low (e ∷ es) fit rise = elim (cases_lt (id_number (id_of e)) (id_number least)) [
    | inl less ↦
        ap (λ xs. e ∷ xs) (split_low es fit.1 rise.1)
        ∙ sym (λ i. cond-true (low e) (e ∷ filter low es) (filter low es) (low_yes e fit.0 less) i
        ++ cond-false (not (low e)) (e ∷ filter (λ x. not (low x)) es) (filter (λ x. not (low x)) es) (ap not (low_yes e fit.0 less)) i)
    | inr upto ↦ sym (λ i. none_low e es upto fit rise i ++ kept (e ∷ es) (low_no e fit.0 upto, others_no e es upto fit.1 rise.0) i)
  ]

  -- what is left of them when some of the first are out
  pub low_left : (n : ℕ) (es : List StreamEntry) → Fit es → Rises es → n ≤ count_low least es → count_low least (drop n es) + n ≡ count_low least es
  low_left zero es fit rise h = omega arith
  low_left (suc n) [] fit rise h = absurd (omega arith)
  low_left (suc n) (e ∷ es) fit rise h = elim (cases_lt (id_number (id_of e)) (id_number least)) [
    | inl less ↦ (let is = ap length (cond-true (low e) (e ∷ filter low es) (filter low es) (low_yes e fit.0 less)) in
        omega (arith, is, low_left n es fit.1 rise.1 (omega (arith, is, h))))
    | inr upto ↦ absurd (omega (arith, h, ap length (none_low e es upto fit rise)))
  ]

  -- with all of them out, the others are left
  pub others_left : (es : List StreamEntry) → Fit es → Rises es → drop (count_low least es) es ≡ filter (λ e. not (low e)) es
  others_left es fit rise =
      ap (drop (count_low least es)) (split_low es fit rise) ∙ drop_at (filter low es) (filter (λ e. not (low e)) es) (count_low least es) refl

-- how many entries of those that a walk has passed are below
abbrev pub low_of : Id → List Entry → List StreamEntry
low_of least xs = filter (is_low least) (live_of (map stored xs))

one_low : (least : Id) (e : Stored) (b : Bool) → b ≡ (is_live e && is_low least (plain e)) → filter (is_low least) (live_of (e ∷ [])) ≡ (if b then plain e ∷ [] else [])
one_low least e b is = by_mark e.deleted refl
  where
    by_mark : (d : Bool) → e.deleted ≡ d → filter (is_low least) (live_of (e ∷ [])) ≡ (if b then plain e ∷ [] else [])
    by_mark true gone =
        ap (filter (is_low least)) (live_none_in_marking e gone) ∙ sym (cond-false b (plain e ∷ []) [] (is ∙ ap (λ d. not d && is_low least (plain e)) gone))
    by_mark false live =
        ap (filter (is_low least)) (live_one_in_marking e live) ∙ ap (λ t. if t then plain e ∷ [] else []) (sym (is ∙ ap (λ d. not d && is_low least (plain e)) live))

pub low_more : (least : Id) (xs : List Entry) (x : Entry) (b : Bool) → b ≡ (is_live (stored x) && is_low least (seen x)) → low_of least (xs ++ x ∷ []) ≡ low_of least xs
    ++ (if b then seen x ∷ [] else [])
low_more least xs x b is =
    ap (λ es. filter (is_low least) (live_of es)) (map-append stored xs (x ∷ []))
    ∙ ap (filter (is_low least)) (live_append (map stored xs) (stored x ∷ []))
    ∙ filter-append (is_low least) (live_of (map stored xs)) (live_of (stored x ∷ []))
    ∙ ap (λ es. low_of least xs ++ es) (one_low least (stored x) b is)

pub length_kept : {X : Type 0} (f : X → Bool) (xs : List X) → length (filter f xs) ≤ length xs
length_kept f [] = omega arith
length_kept f (x ∷ xs) = by_test (length_kept f xs) (f x) refl
  where
    by_test : length (filter f xs) ≤ length xs → (b : Bool) → f x ≡ b → length (filter f (x ∷ xs)) ≤ length (x ∷ xs)
    by_test less true is = omega (arith, ap length (cond-true (f x) (x ∷ filter f xs) (filter f xs) is), less)
    by_test less false is = omega (arith, ap length (cond-false (f x) (x ∷ filter f xs) (filter f xs) is), less)

pub count-append : (least : Id) (xs ys : List StreamEntry) → count_low least (xs ++ ys) ≡ count_low least xs + count_low least ys
count-append least xs ys = ap length (filter-append (is_low least) xs ys) ∙ length-append (filter (is_low least) xs) (filter (is_low least) ys)

-- where the first ones aren't below, none is
pub none_then : (least : Id) → IsId least → (xs ys : List StreamEntry) → 0 < length xs → count_low least xs ≡ 0 → Fit (xs ++ ys) → Rises (xs ++ ys) → count_low least (xs ++ ys) ≡ 0
none_then least fits [] ys some none fit rise = absurd (omega arith)
none_then least fits (x ∷ xs) ys some none fit rise = elim (cases_lt (id_number (id_of x)) (id_number least)) [
  | inl less ↦ absurd (omega (arith, none, ap length (cond-true (is_low least x) (x ∷ filter (is_low least) xs) (filter (is_low least) xs) (low_yes least fits x fit.0 less))))
  | inr upto ↦ ap length (none_low least fits x (xs ++ ys) upto fit rise)
]

-- the stream with some of the first entries out
module _ (a b : Blocks) (old new : Log) (n : ℕ) (is : IsStream a old) (x : IsChanged a b old new (dropping (stream_of a old) n)) where
  pub entries_left : entries b new ≡ drop n (entries a old)
  entries_left = ap (λ s. s.entries) x.value_is

  pub len_left : new.len ≡ old.len - n
  len_left = omega (arith, x.is_stream.counted, ap length entries_left, length-drop n (entries a old), is.counted)

  module _ (least : Id) (fits : IsId least) where
    pub low_after : n ≤ count_low least (entries a old) → count_low least (entries b new) + n ≡ count_low least (entries a old)
    low_after few = ap (λ es. count_low least es + n) entries_left ∙ low_left least fits n (entries a old) (stream_fits a old is) (stream_rises a old is) few

    pub low_out : n ≡ count_low least (entries a old) → IsChanged a b old new (from_id (stream_of a old) least)
    low_out all = record {
      is_stream = x.is_stream;
      value_is = x.value_is ∙ ap (λ es. record (stream_of a old) { entries = es })
          (ap (λ k. drop k (entries a old)) all ∙ others_left least fits (entries a old) (stream_fits a old is) (stream_rises a old is));
      changes = x.changes;
    }
