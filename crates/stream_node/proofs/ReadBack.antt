-- The entries of a node are those that reading gives.
use Rattle.std.proofs.Common.{◌≡◌, Bool, true, false, ℕ, suc, ◌+◌, ◌*◌, ◌<◌, ◌^◌, List, [], ◌∷◌, ◌++◌, length, take, drop, refl, sym, ap, subst, ◌∙◌, arith, pos}
use Rattle.std.specs.Prelude.{ℤ, Option, Some, None, FitsSigned, unwrap_or}
use Rattle.std.specs.Int.{w64}
use Rattle.std.specs.List.{zip}
use lib.Signed.{mag}
use Rattle.std.proofs.lemmas.List.{take_at, drop_at, drop-drop, length-map}
use Rattle.int_text.specs.Decimal.{canonical}
use Rattle.int_text.proofs.NumberOf.{number_back}
use Rattle.stream_node.specs.declared.id.Id.{Id}
use Rattle.stream_node.specs.Entry.{Pair, Stored, number, flags, moved, size, body, fields_of, IsBody, IsEntry}
use Rattle.stream_node.specs.Pairs.{alternating}
use Rattle.stream_node.specs.Node.{Begins, IsHead, Node}
use Rattle.stream_node.specs.Entries.{integer, count, is_marked, has_same, pairs_in, pairs_long, entry_at, behind_entry, entries_from, field_count, entry_count, entries_of, IsNode}
use Rattle.stream_node.proofs.Lists.{Texts}
use Rattle.stream_node.proofs.Same.{fits_count, few_flags, same_id, same_stored, values_of, flat, length_flat_in_same}

integer_back : (n : ℤ) → FitsSigned w64 n → integer (canonical n) ≡ n
integer_back n fits = ap (λ (o : Option ℤ). unwrap_or o (pos 0)) (number_back n fits)

pub count_back : (n : ℕ) → n < 2 ^ 63 → count (number n) ≡ n
count_back n fits = ap mag (integer_back (pos n) (fits_count n fits))

marked_back : (deleted same : Bool) → is_marked (flags deleted same) ≡ deleted
marked_back true true = refl
marked_back true false = refl
marked_back false true = refl
marked_back false false = refl

same_back : (deleted same : Bool) → has_same (flags deleted same) ≡ same
same_back true true = refl
same_back true false = refl
same_back false true = refl
same_back false false = refl

zip_pairs : (pairs : List Pair) → zip (fields_of pairs) (values_of pairs) ≡ pairs
zip_pairs [] = refl
zip_pairs (p ∷ pairs) = ap (λ (x : List Pair). p ∷ x) (zip_pairs pairs)

alternating_flat : (pairs : List Pair) (rest : Texts) → alternating (length pairs) (flat pairs ++ rest) ≡ pairs
unfolding alternating
alternating_flat [] rest = refl
alternating_flat (p ∷ pairs) rest = ap (λ (x : List Pair). p ∷ x) (alternating_flat pairs rest)

-- what a body is read as
reads_pairs : (same : Bool) (master list : Texts) (pairs : List Pair) (rest : Texts) → IsBody same master list pairs rest
    → (pairs_in same master list ≡ pairs) × (drop (1 + pairs_long same master list) list ≡ rest)
reads_pairs true master list pairs rest b =
    let end : Texts = number (size (values_of pairs)) ∷ rest in
    let many : length (values_of pairs) ≡ length master = omega (arith, length-map pairs (λ (p : Pair). p.1), length-map pairs (λ (p : Pair). p.0), ap length b.fields) in
    let front : take (length master) list ≡ values_of pairs = ap (take (length master)) b.elements ∙ take_at (values_of pairs) end (length master) many in (
      ap (λ (x : Texts). zip master x) front ∙ ap (λ (x : Texts). zip x (values_of pairs)) (sym b.fields) ∙ zip_pairs pairs,
      ap (λ (k : ℕ). drop k list) (omega arith) ∙ sym (drop-drop 1 (length master) list) ∙ ap (drop 1) (ap (drop (length master)) b.elements ∙ drop_at (values_of pairs) end (length master) many),
    )
reads_pairs false master list pairs rest b =
    let n : ℕ = length pairs in
    let end : Texts = number (size (body false pairs)) ∷ rest in
    let at : (x : Texts) → x ≡ number n ∷ (flat pairs ++ end) → count (Rattle.stream_node.specs.Entries.element x 0) ≡ n =
    λ x e. ap (λ (y : Texts). count (Rattle.stream_node.specs.Entries.element y 0)) e ∙ count_back n b.fields.1 in
    let is : count (Rattle.stream_node.specs.Entries.element list 0) ≡ n = at list b.elements in
    let many : length (flat pairs) ≡ 2 * n = length_flat_in_same pairs in
    let behind : drop 1 list ≡ flat pairs ++ end = ap (drop 1) b.elements in (
      ap (λ (k : ℕ). alternating k (drop 1 list)) is ∙ ap (alternating n) behind ∙ alternating_flat pairs end,
      ap (λ (k : ℕ). drop (1 + (1 + 2 * k)) list) is
          ∙ ap (λ (k : ℕ). drop k list) (omega arith)
          ∙ sym (drop-drop 1 (1 + 2 * n) list)
          ∙ ap (drop 1) (sym (drop-drop (2 * n) 1 list) ∙ ap (drop (2 * n)) behind ∙ drop_at (flat pairs) end (2 * n) many),
    )

-- what an entry is read as
pub reads_entry : (key : Id) (master list : Texts) (e : Stored) (rest : Texts) → IsEntry key master list e rest → (entry_at key master list ≡ e) × (behind_entry master list ≡ rest)
reads_entry key master list e rest is =
    let s = is.start in
    let flag : count (Rattle.stream_node.specs.Entries.element list 0) ≡ flags e.deleted is.same = ap (λ (x : Texts). count (Rattle.stream_node.specs.Entries.element x 0)) s.elements
    ∙ count_back (flags e.deleted is.same) (few_flags e.deleted is.same) in
    let ms : integer (Rattle.stream_node.specs.Entries.element list 1) ≡ s.ms = ap (λ (x : Texts). integer (Rattle.stream_node.specs.Entries.element x 1)) s.elements ∙ integer_back s.ms s.ms_fits in
    let seq : integer (Rattle.stream_node.specs.Entries.element list 2) ≡ s.seq = ap (λ (x : Texts). integer (Rattle.stream_node.specs.Entries.element x 2)) s.elements
    ∙ integer_back s.seq s.seq_fits in
    let same : has_same (count (Rattle.stream_node.specs.Entries.element list 0)) ≡ is.same = ap has_same flag ∙ same_back e.deleted is.same in
    let back : drop 3 list ≡ is.behind = ap (drop 3) s.elements in
    let pairs = reads_pairs is.same master is.behind e.pairs rest is.pairs in (
      same_stored (entry_at key master list) e
          (same_id (entry_at key master list).id e.id (ap (moved key.ms) ms ∙ sym s.ms_is) (ap (moved key.seq) seq ∙ sym s.seq_is))
          (ap is_marked flag ∙ marked_back e.deleted is.same)
          (ap (λ (b : Bool). pairs_in b master (drop 3 list)) same ∙ ap (pairs_in is.same master) back ∙ pairs.0),
      ap (λ (b : Bool). drop (4 + pairs_long b master (drop 3 list)) list) same
          ∙ ap (λ (x : Texts). drop (4 + pairs_long is.same master x) list) back
          ∙ ap (λ (k : ℕ). drop k list) (omega arith)
          ∙ sym (drop-drop (1 + pairs_long is.same master is.behind) 3 list)
          ∙ ap (drop (1 + pairs_long is.same master is.behind)) back
          ∙ pairs.1,
    )

-- one entry, and those behind it
pub reads_first : (key : Id) (master list : Texts) (n : ℕ) (e : Stored) (rest : Texts) → IsEntry key master list e rest → entries_from key master (suc n) list ≡ e ∷ entries_from key master n rest
unfolding entries_from
reads_first key master list n e rest is =
    let r = reads_entry key master list e rest is in
    ap (λ (x : Stored). x ∷ entries_from key master n (behind_entry master list)) r.0 ∙ ap (λ (x : Texts). e ∷ entries_from key master n x) r.1

pub reads_entries : (key : Id) (master list : Texts) (before : Option Id) (es : List Stored) (rest : Texts) → Begins key master before list es rest → entries_from key master (length es) list ≡ es
unfolding entries_from Begins
reads_entries key master list before [] rest b = refl
reads_entries key master list before (e ∷ es) rest b =
    reads_first key master list (length es) e b.0 b.1 ∙ ap (λ (x : List Stored). e ∷ x) (reads_entries key master b.0 (Some e.id) es rest b.3)

-- what a head is read as
pub record HeadRead (list : Texts) (live : ℕ) (deleted : ℕ) (master : Texts) (rest : Texts) : Type 0 where
  pub live_read : count (Rattle.stream_node.specs.Entries.element list 0) ≡ live
  pub deleted_read : count (Rattle.stream_node.specs.Entries.element list 1) ≡ deleted
  pub many : field_count list ≡ length master
  pub fields : take (field_count list) (drop 3 list) ≡ master
  pub behind : drop (4 + field_count list) list ≡ rest

pub read_head : (list : Texts) (live deleted : ℕ) (master rest : Texts) → IsHead list live deleted master rest → HeadRead list live deleted master rest
read_head list live deleted master rest h =
    let end : Texts = number 0 ∷ rest in
    let n : ℕ = length master in
    let three : field_count list ≡ n = ap (λ (x : Texts). count (Rattle.stream_node.specs.Entries.element x 2)) h.elements ∙ count_back n h.fields_fit in
    let fields : drop 3 list ≡ master ++ end = ap (drop 3) h.elements in
    record {
      live_read = ap (λ (x : Texts). count (Rattle.stream_node.specs.Entries.element x 0)) h.elements ∙ count_back live h.live_fits;
      deleted_read = ap (λ (x : Texts). count (Rattle.stream_node.specs.Entries.element x 1)) h.elements ∙ count_back deleted h.deleted_fits;
      many = three;
      fields = ap (λ (k : ℕ). take k (drop 3 list)) three ∙ ap (take n) fields ∙ take_at master end n refl;
      behind =
          ap (λ (k : ℕ). drop (4 + k) list) three
          ∙ ap (λ (k : ℕ). drop k list) (omega arith)
          ∙ sym (drop-drop 1 (3 + n) list)
          ∙ ap (drop 1) (sym (drop-drop n 3 list) ∙ ap (drop n) fields ∙ drop_at master end n refl);
    }

pub reads_head : (key : Id) (list : Texts) (live deleted : ℕ) (master rest : Texts) → IsHead list live deleted master rest → entries_of key list ≡ entries_from key master (live + deleted) rest
unfolding entries_of
reads_head key list live deleted master rest h =
    let r = read_head list live deleted master rest h in
    let total : entry_count list ≡ live + deleted = omega (arith, r.live_read, r.deleted_read) in
    ap (λ (x : Texts). entries_from key x (entry_count list) (drop (4 + field_count list) list)) r.fields
    ∙ ap (λ (k : ℕ). entries_from key master k (drop (4 + field_count list) list)) total
    ∙ ap (entries_from key master (live + deleted)) r.behind

pub reads_node : (key : Id) (list : Texts) (es : List Stored) → Node key list es → entries_of key list ≡ es
reads_node key list es n =
    reads_head key list n.live n.deleted n.master n.behind n.head
    ∙ ap (λ (k : ℕ). entries_from key n.master k n.behind) (sym n.count)
    ∙ reads_entries key n.master n.behind None es [] n.all_entries

pub is_node : (key : Id) (list : Texts) (es : List Stored) → Node key list es → IsNode key list
is_node key list es n = subst (Node key list) (sym (reads_node key list es n)) n
