-- What stands at the offsets of a listpack's entries.
use Rattle.std.proofs.Common.{◌≡◌, Bool, true, false, ℕ, zero, suc, ◌+◌, ◌-◌, ◌<◌, ◌≤◌, List, [], ◌∷◌, ◌++◌, length, take, drop, get_or, refl, sym, ap, ◌∙◌, inl, inr, arith}
use Rattle.std.proofs.lemmas.Bool.{cases_lt}
use Rattle.std.proofs.lemmas.Grind.{common_steps}
use Rattle.std.proofs.lemmas.List.{append_assoc, append-nil, take_at, drop_at, take-append-drop, length-append, length-take-le, length-map, drop_more, drop_all, take_more, get_or-drop}
use Rattle.std.proofs.lemmas.List.{get_or_append_left}
use Rattle.std.proofs.lemmas.List.Concat.{flat_map-append}
use Rattle.std.proofs.lemmas.List.Edits.{split_between}
use Rattle.std.proofs.lemmas.List.Elements.{All-get_or}
use Rattle.listpack.specs.declared.fault.PackFault.{PackFault}
use Rattle.listpack.specs.Entry.{needed, IsSpelling, back_length, entry_of, text_of}
use Rattle.listpack.specs.Pack.{entries, region, Begins, IsRegionFault, IsPack, spellings_of, texts, offset_of}
use Rattle.listpack.proofs.Spellings.{spelling_pos, needed_append}
use Rattle.listpack.proofs.Regions.{length_entry, one_stop, at_end, at_fault, fault_there}

-- bytes have as many texts as spellings
pub length_texts : (bytes : List ℕ) → length (texts bytes) ≡ length (spellings_of bytes)
length_texts bytes = length-map (spellings_of bytes) text_of

-- header, entries and last byte
pub whole : (bytes : List ℕ) → IsPack bytes → bytes ≡ take 6 bytes ++ (entries (spellings_of bytes) ++ 0xFF ∷ [])
whole bytes p =
    let n : ℕ = length bytes - 1 in
    let header : 7 ≤ length bytes = p.header in
    let past : drop (n + 1) bytes ≡ [] = drop_all (n + 1) bytes (omega arith) in
    let last : drop n bytes ≡ 0xFF ∷ [] = drop_more bytes n 0 (omega arith) ∙ ap (λ (x : List ℕ). get_or bytes n 0 ∷ x) past ∙ ap (λ (x : ℕ). x ∷ []) p.ended in
    split_between bytes 6 n (omega arith)
    ∙ ap (λ (x : List ℕ). take 6 bytes ++ (x ++ drop n bytes)) p.all_entries
    ∙ ap (λ (x : List ℕ). take 6 bytes ++ (entries (spellings_of bytes) ++ x)) last

-- the entries of spellings are those of the first i, then those of the others
pub entries_split : (i : ℕ) (ss : List (List ℕ)) → entries ss ≡ entries (take i ss) ++ entries (drop i ss)
entries_split i ss = ap entries (sym (take-append-drop i ss)) ∙ flat_map-append entry_of (take i ss) (drop i ss)

-- the bytes, cut at the offset of an entry
pub cut_at : (bytes : List ℕ) (i : ℕ) → IsPack bytes
    → bytes ≡ (take 6 bytes ++ entries (take i (spellings_of bytes))) ++ (entries (drop i (spellings_of bytes)) ++ 0xFF ∷ [])
cut_at bytes i p =
    let ss = spellings_of bytes in
    let a = entries (take i ss) in
    let b = entries (drop i ss) in
    let end : List ℕ = 0xFF ∷ [] in
    whole bytes p
    ∙ ap (λ (x : List ℕ). take 6 bytes ++ (x ++ end)) (entries_split i ss)
    ∙ ap (λ (x : List ℕ). take 6 bytes ++ x) (append_assoc a b end)
    ∙ sym (append_assoc (take 6 bytes) a (b ++ end))

-- the header and the entries before entry i are as long as its offset says
pub length_front : (bytes : List ℕ) (i : ℕ) → IsPack bytes → length (take 6 bytes ++ entries (take i (spellings_of bytes))) ≡ offset_of bytes i
length_front bytes i p =
    let header : 7 ≤ length bytes = p.header in
    let six = length-take-le 6 bytes (omega arith) in
    omega (arith, six, length-append (take 6 bytes) (entries (take i (spellings_of bytes))))

-- the bytes before the offset of an entry are the header and the entries before it
pub take_offset : (bytes : List ℕ) (i : ℕ) → IsPack bytes → take (offset_of bytes i) bytes ≡ take 6 bytes ++ entries (take i (spellings_of bytes))
take_offset bytes i p =
    ap (take (offset_of bytes i)) (cut_at bytes i p)
    ∙ take_at (take 6 bytes ++ entries (take i (spellings_of bytes))) (entries (drop i (spellings_of bytes)) ++ 0xFF ∷ []) (offset_of bytes i) (length_front bytes i p)

-- the bytes from the offset of an entry on are the entries from it on and the last byte
pub drop_offset : (bytes : List ℕ) (i : ℕ) → IsPack bytes → drop (offset_of bytes i) bytes ≡ entries (drop i (spellings_of bytes)) ++ 0xFF ∷ []
drop_offset bytes i p =
    ap (drop (offset_of bytes i)) (cut_at bytes i p)
    ∙ drop_at (take 6 bytes ++ entries (take i (spellings_of bytes))) (entries (drop i (spellings_of bytes)) ++ 0xFF ∷ []) (offset_of bytes i) (length_front bytes i p)

-- the bytes from an entry on to the last byte
pub length_offset : (bytes : List ℕ) (i : ℕ) → IsPack bytes → length bytes ≡ offset_of bytes i + length (entries (drop i (spellings_of bytes))) + 1
length_offset bytes i p =
    omega (
      arith,
      ap length (cut_at bytes i p),
      length_front bytes i p,
      length-append (take 6 bytes ++ entries (take i (spellings_of bytes))) (entries (drop i (spellings_of bytes)) ++ 0xFF ∷ []),
      length-append (entries (drop i (spellings_of bytes))) (0xFF ∷ []),
    )

-- the entries from one on are that entry, then those behind it
pub entries_from : (i : ℕ) (ss : List (List ℕ)) → i < length ss → entries (drop i ss) ≡ entry_of (get_or ss i []) ++ entries (drop (i + 1) ss)
entries_from i ss h = ap entries (drop_more ss i [] h)

-- the entries up to one, with it, are those before it, then that entry
pub entries_upto : (i : ℕ) (ss : List (List ℕ)) → i < length ss → entries (take (i + 1) ss) ≡ entries (take i ss) ++ entry_of (get_or ss i [])
entries_upto i ss h =
    ap entries (take_more ss i [] h)
    ∙ flat_map-append entry_of (take i ss) (get_or ss i [] ∷ [])
    ∙ ap (λ (x : List ℕ). entries (take i ss) ++ x) (append-nil (entry_of (get_or ss i [])))

-- what is read for an entry of a listpack is a spelling, the whole of its encoding and content
pub spelled : (bytes : List ℕ) (i : ℕ) → IsPack bytes → i < length (spellings_of bytes) → IsSpelling (get_or (spellings_of bytes) i [])
spelled bytes i p h = All-get_or IsSpelling (spellings_of bytes) i [] h p.each

-- the next entry's offset is this one's plus the lengths of its spelling and its back length
pub offset_next : (bytes : List ℕ) (i : ℕ) → i < length (spellings_of bytes)
    → offset_of bytes (i + 1) ≡ offset_of bytes i + (length (get_or (spellings_of bytes) i []) + length (back_length (length (get_or (spellings_of bytes) i []))))
offset_next bytes i h =
    let s = get_or (spellings_of bytes) i [] in
    omega (arith, ap length (entries_upto i (spellings_of bytes) h), length-append (entries (take i (spellings_of bytes))) (entry_of s), length-append s (back_length (length s)))

-- a later entry has no smaller offset
pub offset_rises : (bytes : List ℕ) (i j : ℕ) → i ≤ j → offset_of bytes i ≤ offset_of bytes j
offset_rises bytes i j h =
    let ss = spellings_of bytes in
    let both = entries_split i (take j ss) in
    let front : take i (take j ss) ≡ take i ss = grind (arith, common_steps) in
    omega (arith, ap length both, length-append (entries (take i (take j ss))) (entries (drop i (take j ss))), ap (λ (x : List (List ℕ)). length (entries x)) front)

-- each entry of a listpack begins before the last byte
pub offset_inside : (bytes : List ℕ) (i : ℕ) → IsPack bytes → i < length (spellings_of bytes) → offset_of bytes i + 1 < length bytes
offset_inside bytes i p h =
    let longer = length_entry (get_or (spellings_of bytes) i []) (entries (drop (i + 1) (spellings_of bytes))) (spelled bytes i p h) in
    omega (arith, length_offset bytes i p, ap length (entries_from i (spellings_of bytes) h), longer)

-- the offset behind the last entry is that of the last byte
pub offset_end : (bytes : List ℕ) (i : ℕ) → IsPack bytes → length (spellings_of bytes) ≤ i → offset_of bytes i + 1 ≡ length bytes
offset_end bytes i p h =
    let none = ap entries (drop_all i (spellings_of bytes) h) in
    omega (arith, length_offset bytes i p, ap length none)

-- the bytes of the entries from one on, as a part of all bytes
pub part_from : (bytes : List ℕ) (i : ℕ) → IsPack bytes → take (length bytes - 1 - offset_of bytes i) (drop (offset_of bytes i) bytes) ≡ entries (drop i (spellings_of bytes))
part_from bytes i p =
    let k : ℕ = length bytes - 1 - offset_of bytes i in
    ap (take k) (drop_offset bytes i p)
    ∙ take_at (entries (drop i (spellings_of bytes))) (0xFF ∷ []) k (omega (arith, length_offset bytes i p))

-- two spellings at the front of the same bytes
pub front_same : (s t more rest : List ℕ) → IsSpelling s → IsSpelling t → s ++ more ≡ t ++ rest → s ≡ t
front_same s t more rest own other e =
    let k : length s ≡ length t = sym (needed_append s more own) ∙ ap needed e ∙ needed_append t rest other in
    sym (take_at s more (length t) k) ∙ ap (take (length t)) e ∙ take_at t rest (length t) refl

-- what is found where an entry is split off
pub found_at : (bytes s more : List ℕ) (i at : ℕ) → IsPack bytes → i < length (texts bytes) → at ≡ offset_of bytes i
    → take (length bytes - 1 - at) (drop at bytes) ≡ s ++ more → IsSpelling s → s ≡ get_or (spellings_of bytes) i []
found_at bytes s more i at p h e found own =
    let inside : i < length (spellings_of bytes) = omega (arith, length_texts bytes) in
    let t = get_or (spellings_of bytes) i [] in
    let there : s ++ more ≡ t ++ (back_length (length t) ++ entries (drop (i + 1) (spellings_of bytes))) =
    sym found
    ∙ ap (λ (x : ℕ). take (length bytes - 1 - x) (drop x bytes)) e
    ∙ part_from bytes i p
    ∙ entries_from i (spellings_of bytes) inside
    ∙ append_assoc t (back_length (length t)) (entries (drop (i + 1) (spellings_of bytes))) in
    front_same s t more (back_length (length t) ++ entries (drop (i + 1) (spellings_of bytes))) own (spelled bytes i p inside) there

-- from the offset of an entry on there are as many bytes before the last one as its spelling needs
pub not_missing : (bytes : List ℕ) (i at : ℕ) → IsPack bytes → i < length (texts bytes) → at ≡ offset_of bytes i
    → length (take (length bytes - 1 - at) (drop at bytes)) < needed (take (length bytes - 1 - at) (drop at bytes)) → ⊥
not_missing bytes i at p h e short =
    let inside : i < length (spellings_of bytes) = omega (arith, length_texts bytes) in
    let t = get_or (spellings_of bytes) i [] in
    let more = back_length (length t) ++ entries (drop (i + 1) (spellings_of bytes)) in
    let shape : take (length bytes - 1 - at) (drop at bytes) ≡ t ++ more =
    ap (λ (x : ℕ). take (length bytes - 1 - x) (drop x bytes)) e
    ∙ part_from bytes i p
    ∙ entries_from i (spellings_of bytes) inside
    ∙ append_assoc t (back_length (length t)) (entries (drop (i + 1) (spellings_of bytes))) in
    omega (arith, short, ap length shape, ap needed shape ∙ needed_append t more (spelled bytes i p inside), length-append t more)

-- the bytes before the end of the entry i end with its back length
pub ends_with : (bytes : List ℕ) (i : ℕ) → IsPack bytes → i < length (spellings_of bytes)
    → take (offset_of bytes (i + 1)) bytes ≡ (take 6 bytes ++ (entries (take i (spellings_of bytes)) ++ get_or (spellings_of bytes) i [])) ++ back_length (length (get_or (spellings_of bytes) i []))
ends_with bytes i p h =
    let a = entries (take i (spellings_of bytes)) in
    let s = get_or (spellings_of bytes) i [] in
    let b = back_length (length s) in
    take_offset bytes (i + 1) p
    ∙ ap (λ (x : List ℕ). take 6 bytes ++ x) (entries_upto i (spellings_of bytes) h ∙ sym (append_assoc a s b))
    ∙ sym (append_assoc (take 6 bytes) (a ++ s) b)

-- the first byte of an entry
pub first_byte : (bytes : List ℕ) (i : ℕ) → IsPack bytes → i < length (spellings_of bytes) → get_or bytes (offset_of bytes i) 0 ≡ get_or (get_or (spellings_of bytes) i []) 0 0
first_byte bytes i p h =
    let s = get_or (spellings_of bytes) i [] in
    let at = offset_of bytes i in
    let more = entries (drop (i + 1) (spellings_of bytes)) in
    let own = spelled bytes i p h in
    let some = spelling_pos s own in
    let place : at ≡ at + 0 = omega arith in
    let shape : drop at bytes ≡ s ++ ((back_length (length s) ++ more) ++ 0xFF ∷ []) =
    drop_offset bytes i p
    ∙ ap (λ (x : List ℕ). x ++ 0xFF ∷ []) (entries_from i (spellings_of bytes) h ∙ append_assoc s (back_length (length s)) more)
    ∙ append_assoc s (back_length (length s) ++ more) (0xFF ∷ []) in
    ap (λ (x : ℕ). get_or bytes x 0) place ∙ sym (get_or-drop at bytes 0 0) ∙ ap (λ (x : List ℕ). get_or x 0 0) shape
    ∙ get_or_append_left s ((back_length (length s) ++ more) ++ 0xFF ∷ []) 0 0 (omega arith)

-- what a count of the entries gives
pub counted : (bytes : List ℕ) (spellings : List (List ℕ)) → IsPack bytes → Begins (region bytes) spellings [] → length spellings ≡ length (texts bytes)
counted bytes spellings p b =
    let same = one_stop spellings (spellings_of bytes) (region bytes) [] [] b (p.all_entries ∙ sym (append-nil (entries (spellings_of bytes))), p.each) (at_end refl) (at_end refl) in
    ap length same.0 ∙ sym (length_texts bytes)

-- no entry of a listpack has a fault
pub no_region_fault : (bytes : List ℕ) (fault : PackFault) → IsPack bytes → IsRegionFault (region bytes) fault → ⊥
no_region_fault bytes fault p f =
    let same = one_stop (spellings_of bytes) f.0 (region bytes) [] f.1 (p.all_entries ∙ sym (append-nil (entries (spellings_of bytes))), p.each) f.2 (at_end refl) (at_fault fault f.3) in
    let there = fault_there fault f.1 f.3 in
    omega (arith, there, ap length same.1)

-- how far the next entry is
pub step_at : (bytes s : List ℕ) (i at : ℕ) → IsPack bytes → i < length (texts bytes) → at ≡ offset_of bytes i → s ≡ get_or (spellings_of bytes) i []
    → (offset_of bytes (i + 1) ≡ at + length s + length (back_length (length s))) × (offset_of bytes (i + 1) + 1 ≤ length bytes)
step_at bytes s i at p h e same =
    let inside : i < length (spellings_of bytes) = omega (arith, length_texts bytes) in
    let far = offset_next bytes i inside in
    (omega (arith, far, e, ap length same, ap (λ (x : List ℕ). length (back_length (length x))) same), omega (arith, length_offset bytes (i + 1) p))

-- the offset of each entry but the first, and that of the last byte behind entries, is above 6
pub offset_above : (bytes : List ℕ) (i : ℕ) → IsPack bytes → 0 < i → i ≤ length (texts bytes) → 6 < offset_of bytes i
offset_above bytes i p some h =
    let j : ℕ = i - 1 in
    let inside : j < length (spellings_of bytes) = omega (arith, length_texts bytes) in
    let back : i ≡ j + 1 = omega arith in
    omega (arith, ap (offset_of bytes) back, offset_next bytes j inside, spelling_pos (get_or (spellings_of bytes) j []) (spelled bytes j p inside))

-- a listpack has seven bytes exactly where it has no element
pub empty : (bytes : List ℕ) → IsPack bytes → (length bytes ≡ 7 → length (texts bytes) ≡ 0) × (length (texts bytes) ≡ 0 → length bytes ≡ 7)
empty bytes p = (
  λ seven. elim (cases_lt 0 (length (spellings_of bytes))) [
    | inl some ↦ let far = offset_inside bytes 0 p some in absurd (omega (arith, far))
    | inr none ↦ omega (arith, length_texts bytes)
  ],
  λ none. let far = offset_end bytes 0 p (omega (arith, length_texts bytes)) in omega (arith, far),
)

-- a number that fails a test which holds for zero is above zero
pub is_some : (b : Bool) (n : ℕ) → (n ≡ 0 → b ≡ true) → b ≡ false → 0 < n
is_some b zero says no_more = let t = says refl in cc
is_some b (suc n) says no_more = omega arith
