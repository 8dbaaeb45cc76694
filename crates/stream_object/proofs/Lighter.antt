-- A mark makes a node of few entries no longer, whoever spelled its elements.
use Rattle.std.proofs.Common.{◌≡◌, ◌∙◌, ℕ, zero, suc, ◌+◌, ◌-◌, ◌<◌, ◌≤◌, ◌^◌, List, [], ◌∷◌, ◌++◌, length, ap, arith, length-append, pos}
use Rattle.std.specs.Prelude.{Bool, true, false, Some, slice_set}
use Rattle.std.specs.List.{All, AllByRecursion}
use Rattle.std.proofs.lemmas.Bool.Decides.{nat_tests}
use Rattle.std.proofs.lemmas.Int.{ints}
use Rattle.std.proofs.lemmas.List.Elements.{All-head, All-tail}
use Rattle.int_text.proofs.NumberOf.{number_back}
use Rattle.listpack.specs.Entry.{IsSpelling, back_length, entry_of}
use Rattle.listpack.specs.Pack.{IsPack, entries, spellings_of, texts}
use Rattle.listpack.specs.Writing.{entry, spelling}
use Rattle.listpack.proofs.Backs.{back_one}
use Rattle.listpack.proofs.Writings.{number_small, spelling_as}
use Rattle.stream_node.specs.declared.id.Id.{Id}
use Rattle.stream_node.specs.Appended.{pack_len}
use Rattle.stream_node.specs.Entries.{element, count, entries_of}
use Rattle.stream_node.specs.Entry.{number, flags}
use Rattle.stream_node.specs.Marked.{CanMark, flags_at, marked_spellings}
use Rattle.stream_node.proofs.Lists.{Texts}
use Rattle.stream_node.proofs.Markings.{found, place_is, element_at}
use Rattle.stream_node.proofs.ReadBack.{count_back}
use Rattle.stream_node.proofs.Same.{fits_count, few_flags}
use Rattle.stream_node.proofs.Sizes.{few_texts}
use Rattle.stream_node.proofs.Written.{length_pack}
use Rattle.stream_object.proofs.Shortest.{no_bytes}

pub some_back : (n : ℕ) → 1 ≤ length (back_length n)
unfolding back_length
some_back n = grind (arith, nat_tests)

-- a small number takes two bytes as the writer spells it, and no element takes fewer
pub entry_two : (n : ℕ) → n < 128 → length (entry (number n)) ≡ 2
entry_two n small =
    let one : spelling (number n) ≡ n ∷ [] = spelling_as (number n) (Some (pos n)) (number_back (pos n) (fits_count n (omega (arith, small)))) ∙ number_small (pos n) (omega (arith, ints)) small in
    ap (λ s. length (entry_of s)) one ∙ ap (λ b. suc (length b)) (back_one 1 (omega arith))

abbrev Heavy : List ℕ → Type 0
Heavy s = 2 ≤ length (entry_of s)

heavy : (s : List ℕ) → IsSpelling s → Heavy s
heavy [] own = absurd (no_bytes own)
heavy (b ∷ more) own = omega (arith, some_back (length (b ∷ more)), length-append (b ∷ more) (back_length (length (b ∷ more))))

all_heavy : (ss : Texts) → All IsSpelling ss → AllByRecursion Heavy ss
all_heavy [] own = tt
all_heavy (s ∷ ss) own = (heavy s (All-head IsSpelling s ss own), all_heavy ss (All-tail IsSpelling s ss own))

-- an element of two bytes in the place of another
set_heavy : (ss : Texts) (k : ℕ) (s : List ℕ) → length (entry_of s) ≡ 2 → AllByRecursion Heavy ss → AllByRecursion Heavy (slice_set ss k s)
set_heavy [] k s two h = tt
set_heavy (x ∷ ss) zero s two h = (omega (arith, two), h.1)
set_heavy (x ∷ ss) (suc k) s two h = (h.0, set_heavy ss k s two h.1)

set_lighter : (ss : Texts) (k : ℕ) (s : List ℕ) → length (entry_of s) ≡ 2 → AllByRecursion Heavy ss → length (entries (slice_set ss k s)) ≤ length (entries ss)
set_lighter [] k s two h = omega arith
set_lighter (x ∷ ss) zero s two h = omega (arith, two, h.0, length-append (entry_of s) (entries ss), length-append (entry_of x) (entries ss))
set_lighter (x ∷ ss) (suc k) s two h = omega (arith, set_lighter ss k s two h.1, length-append (entry_of x) (entries (slice_set ss k s)), length-append (entry_of x) (entries ss))

flags_small : (same : Bool) → flags false same < 4
flags_small true = omega arith
flags_small false = omega arith

pub mark_lighter : (key : Id) (pack : List ℕ) (index : ℕ) → IsPack pack → CanMark key (texts pack) index → length (entries_of key (texts pack)) ≤ 100 → length pack < 2 ^ 32
    → pack_len (marked_spellings pack index) ≤ length pack
mark_lighter key pack index p can few short =
    let list = texts pack in
    let ss = spellings_of pack in
    let n = can.node in
    let f = found key list index n.live n.deleted n.master n.behind can n.head (omega (arith, few_texts pack p short)) in
    let whole : texts pack ≡ (number n.live ∷ number n.deleted ∷ f.second) ++ number (flags false f.same) ∷ f.tail = f.list_is in
    let live : count (element list 0) ≡ n.live = ap (λ (l : Texts). count (element l 0)) whole ∙ count_back n.live n.head.live_fits in
    let deleted : count (element list 1) ≡ n.deleted = ap (λ (l : Texts). count (element l 1)) whole ∙ count_back n.deleted n.head.deleted_fits in
    let at = place_is key list index n.live n.deleted n.master n.behind (entries_of key list) n.head f in
    let flag : count (element list (flags_at list index)) ≡ flags false f.same =
    ap (λ k. count (element list k)) at ∙ ap (λ (l : Texts). count (element l (suc (suc (length f.second))))) whole
    ∙ ap count (element_at (number n.live ∷ number n.deleted ∷ f.second) f.tail (number (flags false f.same))) ∙ count_back (flags false f.same) (few_flags false f.same) in
    let a : ℕ = count (element list 0) - 1 in
    let b : ℕ = count (element list 1) + 1 in
    let c : ℕ = count (element list (flags_at list index)) + 1 in
    let one = entry_two a (omega (arith, live, few, n.count)) in
    let two = entry_two b (omega (arith, deleted, few, n.count)) in
    let three = entry_two c (omega (arith, flag, flags_small f.same)) in
    let first : Texts = slice_set ss 0 (spelling (number a)) in
    let second : Texts = slice_set first 1 (spelling (number b)) in
    let h = all_heavy ss p.each in
    let i = set_heavy ss 0 (spelling (number a)) one h in
    let j = set_heavy first 1 (spelling (number b)) two i in
    omega (
      arith,
      length_pack pack p,
      set_lighter ss 0 (spelling (number a)) one h,
      set_lighter first 1 (spelling (number b)) two i,
      set_lighter second (flags_at list index)
          (spelling (number c)) three j,
    )
