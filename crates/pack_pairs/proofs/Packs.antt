-- Listpacks of pairs: what stands where, how long they are, and what an edit makes of them.
use Rattle.std.proofs.Common.{◌≡◌, ℕ, suc, ◌+◌, ◌*◌, ◌/◌, ◌%◌, ◌<◌, ◌≤◌, ◌^◌, Bool, true, false, cond, List, [], ◌∷◌, ◌++◌, length, map, take, drop, set, get_or, Option, Some, None}
use Rattle.std.proofs.Common.{flat_map, max, refl, sym, ap, ◌∙◌, subst, arith, inl, inr, length-append}
use Rattle.std.specs.Prelude.{ℤ, nat_lt, MatchOption}
use Rattle.std.specs.List.{insert as inserted, remove as removed, remove_range as range_removed}
use Rattle.std.proofs.lemmas.Bool.Decides.{nat_tests}
use Rattle.std.proofs.lemmas.List.{length-take-le}
use Rattle.listpack.specs.Entry.{back_length}
use Rattle.listpack.specs.Pack.{IsAt, IsPack, texts, spellings_of}
use Rattle.listpack.specs.Writing.{spelling, spelling_by, number_spelling, text_head, entry, Fits}
use Rattle.listpack.specs.Edits.{IsEdited}
use Rattle.listpack.proofs.Writings.{number_cases, spelling_as}
use Rattle.quicklist.specs.Nodes.{pack_len}
use Rattle.quicklist.proofs.Written.{written_len, insert_map, remove_range_map, set_map, pack_len_insert}
use Rattle.pack_pairs.specs.Pairs.{Pair, IsPairPack, IsPairAt, FitsPair, flat, paired, pairs, seconded, longest}
use Rattle.pack_pairs.proofs.Lists.{no_pair, paired_flat, length_flat, first_is, second_is, flat_inserted, flat_removed, flat_seconded}

pub texts_len : (bytes : List ℕ) → IsPairPack bytes → length (texts bytes) ≡ 2 * length (pairs bytes)
texts_len bytes p = ap length p.whole ∙ length_flat (pairs bytes)

pub pair_inside : (bytes : List ℕ) (i at : ℕ) → IsPairPack bytes → IsPairAt bytes i at → i < length (pairs bytes)
pair_inside bytes i at p here = omega (arith, here.0, texts_len bytes p)

pub first_text : (bytes : List ℕ) (i : ℕ) → IsPairPack bytes → get_or (texts bytes) (2 * i) [] ≡ (get_or (pairs bytes) i no_pair).0
first_text bytes i p = ap (λ xs. get_or xs (2 * i) []) p.whole ∙ first_is (pairs bytes) i

pub second_text : (bytes : List ℕ) (i : ℕ) → IsPairPack bytes → get_or (texts bytes) (2 * i + 1) [] ≡ (get_or (pairs bytes) i no_pair).1
second_text bytes i p = ap (λ xs. get_or xs (2 * i + 1) []) p.whole ∙ second_is (pairs bytes) i

-- the offset behind a pair's second element is that of the next pair
pub next_pair : (bytes seen : List ℕ) (place : Option ℕ) (i : ℕ) → seen ≡ bytes → IsPairPack bytes → MatchOption place (2 * i + 1 + 1 ≡ length (texts seen)) (λ to. IsAt seen (2 * i + 1 + 1) to)
    → MatchOption place (i + 1 ≡ length (pairs bytes)) (λ to. IsPairAt bytes (i + 1) to)
next_pair bytes seen None i same p last = omega (arith, last, ap (λ bs. length (texts bs)) same, texts_len bytes p)
next_pair bytes seen (Some to) i same p at = subst (λ n. IsAt bytes n to) (omega arith) (subst (λ bs. IsAt bs (2 * i + 1 + 1) to) same at)

-- ---- lengths

back_len : (n : ℕ) → (1 ≤ length (back_length n)) × (length (back_length n) ≤ 5)
unfolding back_length
back_len n = grind (arith, nat_tests)

number_len : (n : ℤ) → length (number_spelling n) ≤ 9
unfolding number_spelling
number_len n = grind (arith, nat_tests)

head_len : (n : ℕ) → length (text_head n) ≤ 5
unfolding text_head
head_len n = grind (arith, nat_tests)

-- an entry has few bytes more than its text, and one at least
entry_len : (text : List ℕ) → (1 ≤ length (entry text)) × (length (entry text) ≤ length text + 14)
entry_len text =
    let whole = length-append (spelling text) (back_length (length (spelling text))) in
    let back = back_len (length (spelling text)) in
    (omega (arith, whole, back.0), omega (arith, whole, back.1, by_text))
  where
    by_text : length (spelling text) ≤ length text + 9
    by_text = elim (number_cases text) [
      | inl none ↦ omega (arith, ap length (spelling_as text None none), length-append (text_head (length text)) text, head_len (length text))
      | inr some ↦ omega (arith, ap length (spelling_as text (Some some.0) some.1), number_len some.0)
    ]

pub pack_is_long : (bytes : List ℕ) → IsPairPack bytes → length (texts bytes) ≤ length bytes
pack_is_long bytes p = omega (arith, written_len bytes p.pack p.written, each_some (texts bytes))
  where
    each_some : (list : List (List ℕ)) → length list ≤ length (flat_map entry list)
    each_some [] = omega arith
    each_some (x ∷ list) = omega (arith, each_some list, length-append (entry x) (flat_map entry list), (entry_len x).0)

pairs_len : (list : List Pair) → longest list ≤ 4096 → length (flat_map entry (flat list)) ≤ length list * 8220
pairs_len [] short = omega arith
pairs_len (p ∷ rest) short =
    omega (
      arith,
      length-append (entry p.0) (flat_map entry (p.1 ∷ flat rest)),
      length-append (entry p.1) (flat_map entry (flat rest)),
      (entry_len p.0).1,
      (entry_len p.1).1,
      pairs_len rest
          (omega (arith, short)),
      short,
    )

-- a pair of short texts has room beside few pairs of short texts
pub pair_fits : (bytes first second : List ℕ) → IsPairPack bytes → longest (pairs bytes) ≤ 4096 → length (pairs bytes) ≤ 65536 → length first ≤ 4096 → length second ≤ 4096
    → FitsPair bytes first second
pair_fits bytes first second p short few one two =
    omega (arith, written_len bytes p.pack p.written, ap (λ xs. length (flat_map entry xs)) p.whole, pairs_len (pairs bytes) short, (entry_len first).1, (entry_len second).1, few, one, two)

-- ---- edits

-- the listpack that the writer makes of the elements of these pairs
pub pack_of : (list : List Pair) (bytes : List ℕ) → IsPack bytes → spellings_of bytes ≡ map spelling (texts bytes) → texts bytes ≡ flat list → IsPairPack bytes × (pairs bytes ≡ list)
pack_of list bytes p written is =
    let same : pairs bytes ≡ list = ap paired is ∙ paired_flat list in
    (record { pack = p; written = written; whole = is ∙ ap flat (sym same) }, same)

module _ (old new : List ℕ) (written : spellings_of old ≡ map spelling (texts old)) (i : ℕ) (text : List ℕ) (count : ℕ)
    (e : IsEdited new (inserted (spellings_of old) i (spelling text)) count) (is : texts new ≡ inserted (texts old) i text) where
  pub put_written : spellings_of new ≡ map spelling (texts new)
  put_written = e.entries ∙ ap (λ ss. inserted ss i (spelling text)) written ∙ insert_map (texts old) i text ∙ ap (map spelling) (sym is)

  pub put_len : IsPack old → length new ≡ length old + length (entry text)
  put_len p = omega (arith, written_len new e.pack put_written, ap pack_len is, pack_len_insert (texts old) i text, written_len old p written)

pub put_index : (old new : List ℕ) (i : ℕ) (text : List ℕ) → texts new ≡ inserted (texts old) i text → i ≤ length (texts old) → i ≤ length (texts new)
put_index old new i text is h = omega (arith, ap length is, length-append (take i (texts old)) (text ∷ drop i (texts old)), length-take-le i (texts old) h)

pub pair_put : (old mid new : List ℕ) (i : ℕ) (first second : List ℕ) (a b : ℕ) → IsPairPack old → i ≤ length (pairs old)
    → IsEdited mid (inserted (spellings_of old) (2 * i) (spelling second)) a → texts mid ≡ inserted (texts old) (2 * i) second
    → IsEdited new (inserted (spellings_of mid) (2 * i) (spelling first)) b → texts new ≡ inserted (texts mid) (2 * i) first
    → IsPairPack new × (pairs new ≡ inserted (pairs old) i (first, second))
pair_put old mid new i first second a b p h e one f two =
    pack_of (inserted (pairs old) i (first, second)) new f.pack
    (put_written mid new (put_written old mid p.written (2 * i) second a e one) (2 * i) first b f two)
    (two ∙ ap (λ xs. inserted xs (2 * i) first) one ∙ ap (λ xs. inserted (inserted xs (2 * i) second) (2 * i) first) p.whole ∙ flat_inserted (pairs old) i (first, second) h)

pub pair_set : (old new : List ℕ) (i : ℕ) (second : List ℕ) (a : ℕ) → IsPairPack old → IsEdited new (set (spellings_of old) (2 * i + 1) (spelling second)) a
    → texts new ≡ set (texts old) (2 * i + 1) second
    → IsPairPack new × (pairs new ≡ seconded (pairs old) i second)
pair_set old new i second a p e is =
    pack_of (seconded (pairs old) i second) new e.pack
    (e.entries ∙ ap (λ ss. set ss (2 * i + 1) (spelling second)) p.written ∙ set_map (texts old) (2 * i + 1) second ∙ ap (map spelling) (sym is))
    (is ∙ ap (λ xs. set xs (2 * i + 1) second) p.whole ∙ flat_seconded (pairs old) i second)

pub pair_out : (old new : List ℕ) (i a : ℕ) → IsPairPack old → IsEdited new (range_removed (spellings_of old) (2 * i) (2 * i + 2)) a → texts new ≡ range_removed (texts old) (2 * i) (2 * i + 2)
    → IsPairPack new × (pairs new ≡ removed (pairs old) i)
pair_out old new i a p e is =
    pack_of (removed (pairs old) i) new e.pack
    (e.entries ∙ ap (λ ss. range_removed ss (2 * i) (2 * i + 2)) p.written ∙ remove_range_map (texts old) (2 * i) (2 * i + 2) ∙ ap (map spelling) (sym is))
    (is ∙ ap (λ xs. range_removed xs (2 * i) (2 * i + 2)) p.whole ∙ flat_removed (pairs old) i)
