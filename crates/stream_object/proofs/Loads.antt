-- Entries of a file's node, put behind all others.
use Rattle.std.proofs.Common.{◌≡◌, ◌∙◌, ℕ, ◌<◌, ◌≤◌, true, false, List, [], ◌∷◌, ◌++◌, length, map, take, refl, sym, ap, subst, inl, inr, arith, length-append, append_assoc}
use Rattle.std.specs.Prelude.{◌↔◌, Bool, IsTrue, Some, None, Result, Ok, Err, OnOk}
use Rattle.std.specs.List.{AllByRecursion}
use Rattle.std.proofs.lemmas.List.{append-nil, take_at}
use Rattle.blocks.specs.Blocks.{Blocks, Changes}
use Rattle.blocks.proofs.Change.{changes_same, changes_then}
use Rattle.stream_node.specs.declared.id.Id.{Id}
use Rattle.stream_node.specs.declared.entry.Entry.{Entry}
use Rattle.stream_node.specs.Entries.{IsNode, entries_of}
use Rattle.stream_node.specs.Entry.{IsBelow, Pair, Stored}
use Rattle.stream_node.specs.Ids.{IsId, id_number}
use Rattle.stream_node.specs.Node.{Begins}
use Rattle.stream_node.specs.View.{stored}
use Rattle.stream_node.proofs.Ids.{id_laws}
use Rattle.stream_node.proofs.Same.{same_id}
use Rattle.rax_packed.proofs.Entries.{all_back, all_weaker}
use Rattle.plain_world.specs.Streams.{Stream}
use Rattle.stream_object.specs.declared.stream.Stream.{Stream as Log}
use Rattle.stream_object.specs.Loading.{AreAbove, last_of, loaded}
use Rattle.stream_object.specs.Node.{put}
use Rattle.stream_object.specs.Parts.{Part, stored_in, plain, live_of}
use Rattle.stream_object.specs.Streams.{AreBelow, AreUpto, IsStream, IsChanged, appended, entries, nodes, pair_of, refs, stream_of}
use Rattle.stream_object.proofs.Grows.{all_below}
use Rattle.stream_object.proofs.Losing.{Sorted, sorted_split}
use Rattle.stream_object.proofs.Marking.{live_append, live_one_in_marking, live_none_in_marking, node_ids}
use Rattle.stream_object.proofs.Parts.{refs_are}

pub last-append : (last : ℕ × ℕ) (es : List Stored) (e : Stored) → last_of last (es ++ e ∷ []) ≡ pair_of e.id
last-append last [] e = refl
last-append last (x ∷ es) e = last-append (pair_of x.id) es e

pub on_ok : {A E P Q : Type 0} (r : Result A E) → (P → Q) → OnOk r P → OnOk r Q
on_ok (Ok x) f p = f p
on_ok (Err e) f p = tt

-- one entry more
loaded_more : (s : Stream) (es : List Stored) (e : Stored) → loaded (loaded s es) (e ∷ []) ≡ loaded s (es ++ e ∷ [])
loaded_more s es e =
    let seen : (s.entries ++ live_of es) ++ live_of (e ∷ []) ≡ s.entries ++ live_of (es ++ e ∷ []) =
    append_assoc s.entries (live_of es) (live_of (e ∷ [])) ∙ ap (λ xs. s.entries ++ xs) (sym (live_append es (e ∷ []))) in
    λ i. record s { entries = seen i; last = sym (last-append s.last es e) i }

loaded_no : (s : Stream) → loaded s [] ≡ s
loaded_no s = λ i. record s { entries = append-nil s.entries i; last = s.last }

-- a stream that stays
pub loaded_none : (m : Blocks) (s : Log) → IsStream m s → IsChanged m m s s (loaded (stream_of m s) [])
loaded_none m s is = record {
  is_stream = is;
  value_is = sym (loaded_no (stream_of m s));
  changes = subst (λ rs. Changes m m rs rs) (sym (refs_are m s.tree (nodes m s) is.parts)) (changes_same m _ is.parts.owned);
}

pub loaded_then : (a b c : Blocks) (old mid new : Log) (es : List Stored) (e : Stored) → IsChanged a b old mid (loaded (stream_of a old) es)
    → IsChanged b c mid new (loaded (stream_of b mid) (e ∷ [])) → IsChanged a c old new (loaded (stream_of a old) (es ++ e ∷ []))
loaded_then a b c old mid new es e x y = record {
  is_stream = y.is_stream;
  value_is = y.value_is ∙ ap (λ s. loaded s (e ∷ [])) x.value_is ∙ loaded_more (stream_of a old) es e;
  changes = changes_then a b c (refs a old) (refs b mid) (refs c new) x.changes y.changes;
}

-- an entry that is marked deleted
pub marked_loaded : (m : Blocks) (old new : Log) (e : Stored) → IsStream m old → IsId e.id → AreBelow e.id (nodes m old) → e.deleted ≡ true → new ≡ record old { last = e.id }
    → IsChanged m m old new (loaded (stream_of m old) (e ∷ []))
marked_loaded m old new e is fits below gone now =
    subst (λ s. IsChanged m m old s (loaded (stream_of m old) (e ∷ []))) (sym now) (record {
      is_stream = record { parts = is.parts; counted = is.counted; fits = fits; upto = upto (nodes m old) below; kept = is.kept };
      value_is = λ i. record (stream_of m old) { entries = seen i; last = pair_of e.id };
      changes = subst (λ rs. Changes m m rs rs) (sym (refs_are m old.tree (nodes m old) is.parts)) (changes_same m _ is.parts.owned);
    })
  where
    seen : entries m old ≡ entries m old ++ live_of (e ∷ [])
    seen = sym (append-nil (entries m old)) ∙ ap (λ xs. entries m old ++ xs) (sym (live_none_in_marking e gone))

    upto : (ps : List Part) → AreBelow e.id ps → AreUpto e.id ps
    upto [] h = tt
    upto (p ∷ ps) h = (all_weaker (λ (x : Stored). id_number x.id < id_number e.id) (λ x. id_number x.id ≤ id_number e.id) (stored_in p) (λ x less. omega (arith, less)) h.0, upto ps h.1)

-- an entry that is live
pub live_loaded : (m after : Blocks) (old new : Log) (e : Stored) (id : Id) (pairs : List Pair) → e.deleted ≡ false → id ≡ e.id → pairs ≡ e.pairs
    → IsChanged m after old new (appended (stream_of m old) id pairs) → IsChanged m after old new (loaded (stream_of m old) (e ∷ []))
live_loaded m after old new e id pairs live same are c =
    let one : plain (put id pairs) ∷ [] ≡ live_of (e ∷ []) = (λ i. plain (put (same i) (are i)) ∷ []) ∙ sym (live_one_in_marking e live) in
    record {
      is_stream = c.is_stream;
      value_is = c.value_is ∙ (λ i. record (stream_of m old) { entries = entries m old ++ one i; last = pair_of (same i) });
      changes = c.changes;
    }

pub last_is : (m after : Blocks) (old new : Log) (id : Id) (pairs : List Pair) → IsChanged m after old new (appended (stream_of m old) id pairs) → new.last ≡ id
last_is m after old new id pairs c =
    let last = ap (λ s. s.last) c.value_is in
    same_id new.last id (ap (λ p. p.0) last) (ap (λ p. p.1) last)

-- those that follow are above what is there then
pub above_more : (m : Blocks) (s : Log) (id : Id) → IsStream m s → s.last ≡ id → (es : List Stored) → AllByRecursion (λ e. id_number id < id_number e.id) es → AreAbove (nodes m s) es
above_more m s id is last [] h = tt
above_more m s id is last (e ∷ es) h = (all_below s.last e.id (omega (arith, h.0, ap id_number last)) (nodes m s) is.upto, above_more m s id is last es h.1)

-- of the entries of a node, those behind one of them
pub behind_one : (P : Stored → Type 0) (xs : List Entry) (x : Entry) (left rest all : List Stored) → map stored xs ++ left ≡ all → left ≡ stored x ∷ rest → AllByRecursion P all → P (stored x)
behind_one P xs x left rest all is next each = (all_back P (map stored xs) (stored x ∷ rest) (subst (AllByRecursion P) (sym is ∙ ap (λ ys. map stored xs ++ ys) next) each)).0

pub behind_above : (xs : List Entry) (x : Entry) (left rest all : List Stored) → map stored xs ++ left ≡ all → left ≡ stored x ∷ rest → Sorted all
    → AllByRecursion (λ e. id_number (stored x).id < id_number e.id) rest
behind_above xs x left rest all is next sorted = (sorted_split (map stored xs) rest (stored x) (subst Sorted (sym is ∙ ap (λ ys. map stored xs ++ ys) next) sorted)).1

-- those that were put in are the first of them
pub first_ones : (xs : List Entry) (left all : List Stored) → map stored xs ++ left ≡ all → (length (map stored xs) ≤ length all) × (take (length (map stored xs)) all ≡ map stored xs)
first_ones xs left all is =
    (omega (arith, ap length is, length-append (map stored xs) left), ap (take (length (map stored xs))) (sym is) ∙ take_at (map stored xs) left (length (map stored xs)) refl)

-- an id below another one, and that below a third
below_then : (a b c : Id) → IsBelow a b → IsBelow b c → IsBelow a c
below_then a b c (inl x) (inl y) = inl (omega (arith, x, y))
below_then a b c (inl x) (inr y) = inl (omega (arith, x, y.0))
below_then a b c (inr x) (inl y) = inl (omega (arith, x.0, y))
below_then a b c (inr x) (inr y) = inr (x.0 ∙ y.0, omega (arith, x.1, y.1))

-- ids that rise from one on are above what it is above
rise_above : (key : Id) (master list : List (List ℕ)) (last id : Id) (es : List Stored) (rest : List (List ℕ)) → Begins key master (Some id) list es rest → IsBelow last id
    → AllByRecursion (λ e. IsBelow last e.id) es
unfolding Begins
rise_above key master list last id [] rest b low = tt
rise_above key master list last id (e ∷ es) rest b low = let here = below_then last id e.id low b.2 in (here, rise_above key master b.0 last e.id es rest b.3 here)

first_above : (key : Id) (master list : List (List ℕ)) (last : Id) (e : Stored) (es : List Stored) (rest : List (List ℕ)) → Begins key master None list (e ∷ es) rest → IsBelow last e.id
    → AllByRecursion (λ f. IsBelow last f.id) es
unfolding Begins
first_above key master list last e es rest b low = rise_above key master b.0 last e.id es rest b.3 low

-- the ids of a node are above another where its first one is
pub all_above : (key : Id) (list : List (List ℕ)) (last : Id) (e : Stored) (es : List Stored) → IsNode key list → entries_of key list ≡ e ∷ es → IsBelow last e.id
    ↔ AllByRecursion (λ f. IsBelow last f.id) (entries_of key list)
all_above key list last e es n is =
    let P : List Stored → Type 0 = AllByRecursion (λ f. IsBelow last f.id) in
    let begins = subst (λ xs. Begins key n.master None n.behind xs []) is n.all_entries in
    (λ low. subst P (sym is) (low, first_above key n.master n.behind last e es [] begins low), λ all. (subst P is all).0)

-- what is above the last id is above all entries
above_last : (m : Blocks) (s : Log) (es : List Stored) → IsStream m s → AllByRecursion (λ e. IsId e.id) es → AllByRecursion (λ e. IsBelow s.last e.id) es → AreAbove (nodes m s) es
above_last m s [] is ids low = tt
above_last m s (e ∷ es) is ids low = (all_below s.last e.id ((id_laws.below s.last e.id is.fits ids.0).0 low.0) (nodes m s) is.upto, above_last m s es is ids.1 low.1)

pub enough : (m : Blocks) (s : Log) (key : Id) (list : List (List ℕ)) → IsNode key list → AllByRecursion (λ e. IsBelow s.last e.id) (entries_of key list) → IsStream m s
    → AreAbove (nodes m s) (entries_of key list)
enough m s key list n low is = above_last m s (entries_of key list) is (node_ids key list n) low

pub none_above : (key : Id) (list : List (List ℕ)) (last : Id) → entries_of key list ≡ [] → AllByRecursion (λ e. IsBelow last e.id) (entries_of key list)
none_above key list last is = subst (AllByRecursion (λ e. IsBelow last e.id)) (sym is) tt

-- where a call leaves all, what was so is still so
pub stopped : (a b c : Blocks) (old mid new : Log) (es : List Stored) → IsChanged a b old mid (loaded (stream_of a old) es) → new ≡ mid → c ≡ b → IsChanged a c old new (loaded (stream_of a old) es)
stopped a b c old mid new es h same still = subst (λ n. IsChanged a c old n (loaded (stream_of a old) es)) (sym same) (subst (λ x. IsChanged a x old mid (loaded (stream_of a old) es)) (sym still) h)

-- what a test of the first id tells of all
pub followed : (key : Id) (list : List (List ℕ)) (last : Id) (e : Stored) (es : List Stored) (id : Id) (b : Bool) → IsNode key list → entries_of key list ≡ e ∷ es → id ≡ e.id
    → (IsTrue b ↔ IsBelow last id) → IsTrue b ↔ AllByRecursion (λ f. IsBelow last f.id) (entries_of key list)
followed key list last e es id b n is same test =
    let all = all_above key list last e es n is in
    (λ first. all.0 (subst (IsBelow last) same (test.0 first)), λ every. test.1 (subst (IsBelow last) (sym same) (all.1 every)))

-- what is up to an id is up to a later one
pub upto_later : (id last : Id) (ps : List Part) → id_number last ≤ id_number id → AreUpto last ps → AreUpto id ps
upto_later id last [] less h = tt
upto_later id last (p ∷ ps) less h = (
  all_weaker (λ (e : Stored). id_number e.id ≤ id_number last) (λ e. id_number e.id ≤ id_number id) (stored_in p) (λ e upto. omega (arith, upto, less)) h.0,
  upto_later id last ps less
      h.1,
)
