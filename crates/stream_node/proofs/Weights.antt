-- A mark leaves the number of bytes, where the numbers that it changes are small and spelled as the writer spells them.
use Rattle.std.proofs.Common.{◌≡◌, ◌∙◌, ℕ, zero, suc, ◌+◌, ◌-◌, ◌<◌, ◌≤◌, ◌^◌, List, [], ◌∷◌, ◌++◌, length, map, refl, sym, ap, arith, length-append, pos}
use Rattle.std.specs.Prelude.{Bool, true, false, Some, slice_set}
use Rattle.stream_node.proofs.Sizes.{few_texts}
use Rattle.std.specs.List.{AllByRecursion}
use Rattle.listpack.specs.Entry.{text_of, back_length, entry_of}
use Rattle.listpack.specs.Pack.{IsPack, entries, spellings_of, texts}
use Rattle.listpack.specs.Writing.{spelling, entry}
use Rattle.std.proofs.lemmas.Int.{ints}
use Rattle.listpack.proofs.Backs.{back_one}
use Rattle.listpack.proofs.ReadBack.{spelled}
use Rattle.listpack.proofs.Writings.{number_small, spelling_as, element_short}
use Rattle.int_text.proofs.NumberOf.{number_back}
use Rattle.stream_node.specs.declared.id.Id.{Id}
use Rattle.stream_node.specs.Entry.{number, flags}
use Rattle.stream_node.specs.Entries.{element, count, entries_of}
use Rattle.stream_node.specs.Appended.{appended, added, more_live, pack_len}
use Rattle.stream_node.specs.Marked.{CanMark, flags_at, less_live, more_deleted, marked_flags, exchanged, marked_spellings}
use Rattle.stream_node.specs.Entry.{Pair}
use Rattle.stream_node.specs.Room.{IsWritten}
use Rattle.stream_node.proofs.Lists.{Texts, first, behind}
use Rattle.stream_node.proofs.Same.{fits_count, few_flags}
use Rattle.stream_node.proofs.ReadBack.{count_back}
use Rattle.stream_node.proofs.Markings.{found, place_is, element_at}
use Rattle.stream_node.proofs.Written.{length_pack}

-- a small number takes two bytes
small_entry : (n : ℕ) → n < 128 → length (entry (number n)) ≡ 2
small_entry n small =
    let one : spelling (number n) ≡ n ∷ [] = spelling_as (number n) (Some (pos n)) (number_back (pos n) (fits_count n (omega arith))) ∙ number_small (pos n) (omega (arith, ints)) small in
    ap (λ s. length (entry_of s)) one ∙ ap (λ b. suc (length b)) (back_one 1 (omega arith))

-- a spelling of the writer's is that of its own text
own_text : (s : List ℕ) → IsWritten s → length s < 2 ^ 32 → s ≡ spelling (text_of s)
own_text s w few =
    let short : length w.0 < 2 ^ 32 = element_short w.0 (omega (arith, few, ap length w.1)) in
    w.1 ∙ ap spelling (sym (ap text_of w.1 ∙ (spelled w.0 short).1))

small_here : (s : List ℕ) (n : ℕ) → IsWritten s → length s < 2 ^ 32 → text_of s ≡ number n → n < 128 → length (entry_of s) ≡ 2
small_here s n w few is small = ap (λ x. length (entry_of x)) (own_text s w few ∙ ap spelling is) ∙ small_entry n small

-- no spelling is longer than all entries
no_longer : (s : List ℕ) (ss : Texts) → length s ≤ length (entries (s ∷ ss))
no_longer s ss = omega (arith, length-append (entry_of s) (entries ss), length-append s (back_length (length s)))

-- an element of two bytes in the place of one of two bytes
set_small : (ss : Texts) (k n : ℕ) (s : List ℕ) → AllByRecursion IsWritten ss → length (entries ss) < 2 ^ 32 → k < length ss → element (map text_of ss) k ≡ number n → n < 128 → length (entry_of s) ≡ 2
    → length (entries (slice_set ss k s)) ≡ length (entries ss)
set_small [] k n s w few inside is small two = absurd (omega arith)
set_small (x ∷ ss) zero n s w few inside is small two =
    omega (arith, two, small_here x n w.0 (omega (arith, few, no_longer x ss)) is small, length-append (entry_of s) (entries ss), length-append (entry_of x) (entries ss))
set_small (x ∷ ss) (suc k) n s w few inside is small two =
    let joined = length-append (entry_of x) (entries ss) in
    omega (arith, set_small ss k n s w.1 (omega (arith, few, joined)) (omega arith) is small two, length-append (entry_of x) (entries (slice_set ss k s)), joined)

-- the two counts and the flags, each small, exchanged for others that are small
weights : (ss : Texts) (live deleted flag k a b f : ℕ) (second tail : Texts) → AllByRecursion IsWritten ss → length (entries ss) < 2 ^ 32
    → map text_of ss ≡ (number live ∷ number deleted ∷ second) ++ number flag ∷ tail → k ≡ length second → live < 128 → deleted < 128 → flag < 128 → a < 128 → b < 128 → f < 128
    → length (entries (exchanged ss (suc (suc k)) (spelling (number a)) (spelling (number b)) (spelling (number f)))) ≡ length (entries ss)
weights [] live deleted flag k a b f second tail w few is at p q r x y z = absurd (omega (arith, ap length is))
weights (u ∷ []) live deleted flag k a b f second tail w few is at p q r x y z = absurd (omega (arith, ap length is))
weights (u ∷ v ∷ ss) live deleted flag k a b f second tail w few is at p q r x y z =
    let rest : map text_of ss ≡ second ++ number flag ∷ tail = ap (λ (l : Texts). behind (behind l)) is in
    let all = length-append (entry_of u) (entries (v ∷ ss)) in
    let more = length-append (entry_of v) (entries ss) in
    let now : Texts = slice_set ss k (spelling (number f)) in
    let there : element (map text_of ss) k ≡ number flag = ap (λ n. element (map text_of ss) n) at ∙ ap (λ (l : Texts). element l (length second)) rest ∙ element_at second tail (number flag) in
    let inside : k < length ss = omega (arith, at, ap length rest, length-append second (number flag ∷ tail), length_texts ss) in
    omega (
      arith,
      all,
      more,
      length-append (entry (number a)) (entries (spelling (number b) ∷ now)),
      length-append (entry (number b)) (entries now),
      small_here u live w.0 (omega (arith, few, no_longer u (v ∷ ss))) (ap first is) p,
      small_here v deleted w.1.0 (omega (arith, few, all, no_longer v ss)) (ap (λ (l : Texts). first (behind l)) is) q,
      small_entry a x,
      small_entry b y,
      set_small ss k flag (spelling (number f)) w.1.1 (omega (arith, few, all, more)) inside there r (small_entry f z),
    )
  where
    length_texts : (l : Texts) → length (map text_of l) ≡ length l
    length_texts [] = refl
    length_texts (s ∷ l) = ap suc (length_texts l)

flags_small : (deleted same : Bool) → flags deleted same < 4
flags_small true true = omega arith
flags_small true false = omega arith
flags_small false true = omega arith
flags_small false false = omega arith

pub mark_weight : (key : Id) (pack : List ℕ) (index : ℕ) → IsPack pack → AllByRecursion IsWritten (spellings_of pack) → CanMark key (texts pack) index
    → length (entries_of key (texts pack)) ≤ 100 → length pack < 2 ^ 32
    → pack_len (marked_spellings pack index) ≡ length pack
mark_weight key pack index p w can few short =
    let list = texts pack in
    let ss = spellings_of pack in
    let n = can.node in
    let f = found key list index n.live n.deleted n.master n.behind can n.head (omega (arith, few_texts pack p short)) in
    let whole : texts pack ≡ (number n.live ∷ number n.deleted ∷ f.second) ++ number (flags false f.same) ∷ f.tail = f.list_is in
    let live : count (element list 0) ≡ n.live = ap (λ (l : Texts). count (element l 0)) whole ∙ count_back n.live n.head.live_fits in
    let deleted : count (element list 1) ≡ n.deleted = ap (λ (l : Texts). count (element l 1)) whole ∙ count_back n.deleted n.head.deleted_fits in
    let at = place_is key list index n.live n.deleted n.master n.behind (entries_of key list) n.head f in
    let flag : count (element list (flags_at list index)) ≡ flags false f.same =
    ap (λ k. count (element list k)) at ∙ ap (λ (l : Texts). count (element l (suc (suc (length f.second))))) whole
    ∙ ap count (element_at (number n.live ∷ number n.deleted ∷ f.second) f.tail (number (flags false f.same))) ∙ count_back (flags false f.same) (few_flags false f.same) in
    let all = length_pack pack p in
    let same : length (entries (exchanged ss (suc (suc (length f.second))) (spelling (less_live list)) (spelling (more_deleted list)) (spelling (marked_flags list (flags_at list index)))))
    ≡ length (entries ss) =
    weights ss n.live n.deleted (flags false f.same) (length f.second) (count (element list 0) - 1) (count (element list 1) + 1) (count (element list (flags_at list index)) + 1) f.second
    f.tail w (omega (arith, all, short)) whole refl
    (omega (arith, few, n.count)) (omega (arith, few, n.count)) (omega (arith, flags_small false f.same)) (omega (arith, live, few, n.count)) (omega (arith, deleted, few, n.count))
    (omega (arith, flag, flags_small false f.same)) in
    ap (λ k. pack_len (exchanged ss k (spelling (less_live list)) (spelling (more_deleted list)) (spelling (marked_flags list (flags_at list index))))) at ∙ ap (λ n. 7 + n) same ∙ sym all

-- the writer's spellings stay the writer's
set_written : (ss : Texts) (i : ℕ) (text : List ℕ) → AllByRecursion IsWritten ss → AllByRecursion IsWritten (slice_set ss i (spelling text))
set_written [] i text w = tt
set_written (s ∷ ss) zero text w = ((text, refl), w.1)
set_written (s ∷ ss) (suc i) text w = (w.0, set_written ss i text w.1)

all_written : (ss xs : Texts) → AllByRecursion IsWritten ss → AllByRecursion IsWritten (ss ++ map spelling xs)
all_written [] [] w = tt
all_written [] (x ∷ xs) w = ((x, refl), all_written [] xs tt)
all_written (s ∷ ss) xs w = (w.0, all_written ss xs w.1)

pub mark_written : (pack : List ℕ) (index : ℕ) → AllByRecursion IsWritten (spellings_of pack) → AllByRecursion IsWritten (marked_spellings pack index)
mark_written pack index w =
    let list = texts pack in
    let at = flags_at list index in
    let one = slice_set (spellings_of pack) 0 (spelling (less_live list)) in
    set_written (slice_set one 1 (spelling (more_deleted list))) at (marked_flags list at) (set_written one 1 (more_deleted list) (set_written (spellings_of pack) 0 (less_live list) w))

pub append_written : (key id : Id) (pack : List ℕ) (pairs : List Pair) → AllByRecursion IsWritten (spellings_of pack) → AllByRecursion IsWritten (appended key pack id pairs)
append_written key id pack pairs w =
    all_written (slice_set (spellings_of pack) 0 (spelling (more_live (texts pack)))) (added key (texts pack) id pairs) (set_written (spellings_of pack) 0 (more_live (texts pack)) w)
