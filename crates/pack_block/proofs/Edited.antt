-- Listpacks in blocks after edits.
use Rattle.std.proofs.Common.{◌≡◌, ℕ, ◌+◌, ◌-◌, ◌<◌, ◌≤◌, ◌^◌, List, [], ◌∷◌, ◌++◌, Some, IsSome, Result, Ok, Err, unwrap_or, length, take, drop, refl, sym, ap, ◌∙◌, subst, arith}
use Rattle.std.specs.Prelude.{IfOk, Option}
use Rattle.std.specs.List.{insert, remove_range}
use Rattle.std.proofs.lemmas.List.{append_assoc, length-append, length-take-le, length-drop, nil_from_length, take_at, drop_at}
use Rattle.byteorder.specs.Endian.{little_bytes}
use Rattle.byteorder.specs.Numbers.{length-bytes_low_first}
use Rattle.blocks.specs.declared.BlockRef.{BlockRef}
use Rattle.blocks.specs.Blocks.{Blocks, with_block, bytes_at, overwritten, Changes}
use Rattle.blocks.proofs.Change.{changes_then}
use Rattle.listpack.specs.Pack.{IsPack, offset_of, spellings_of, texts, told}
use Rattle.listpack.specs.Writing.{entry, spelling}
use Rattle.listpack.specs.Edits.{IsEdited, fewer, one_more}
use Rattle.listpack.proofs.Offsets.{offset_rises, length_offset}
use Rattle.listpack.proofs.Repacking.{inserted, taken_out, element_fits, length-put, length_put_is, length-cut}
use Rattle.pack_block.specs.Gap.{headed, spliced, HasGap}
use Rattle.pack_block.proofs.Blocks.{written_changes, written_twice, holds_written}
use Rattle.pack_block.proofs.Shapes.{overwritten_next}

pub if_ok : {A E : Type 0} {P Q : A → Type 0} → ((x : A) → P x → Q x) → (r : Result A E) → IfOk r P → IfOk r Q
if_ok f (Ok x) p = f x p
if_ok f (Err e) p = p

pub seen_is : (m : Blocks) (at : BlockRef) (seen : List ℕ) → m at ≡ Some seen → bytes_at m at ≡ seen
seen_is m at seen was = ap (λ o. unwrap_or o []) was

pub some_is : (o : Option (List ℕ)) (x : List ℕ) → o ≡ Some x → IsSome o
some_is o x e = subst (λ (q : Option (List ℕ)). IsSome q) (sym e) refl

-- the header over the bytes
pub headed_over : (bytes : List ℕ) (total count : ℕ) → overwritten bytes 0 (little_bytes 4 total ++ little_bytes 2 count) ≡ little_bytes 4 total ++ (little_bytes 2 count ++ drop 6 bytes)
headed_over bytes total count =
    let a = little_bytes 4 total in
    let b = little_bytes 2 count in
    let six : 0 + length (a ++ b) ≡ 6 = omega (arith, length-bytes_low_first 0 4 total, length-bytes_low_first 0 2 count, length-append a b) in
    ap (λ (k : ℕ). (a ++ b) ++ drop k bytes) six ∙ append_assoc a b (drop 6 bytes)

-- bytes with a gap are as many more as that is wider
pub length_gap : (m : Blocks) (at : BlockRef) (bytes : List ℕ) (from size room : ℕ) → HasGap m at bytes from size room → from + size ≤ length bytes
    → length (bytes_at m at) + size ≡ length bytes + room
length_gap m at bytes from size room h inside =
    omega (
      arith,
      inside,
      h.wide,
      ap (λ o. length (unwrap_or o [])) h.holds,
      length-append (take from bytes) (h.gap ++ drop (from + size) bytes),
      length-append h.gap (drop (from + size) bytes),
      length-take-le from bytes (omega (arith, inside)),
      length-drop (from + size) bytes,
    )

pub live_gap : (m : Blocks) (at : BlockRef) (bytes : List ℕ) (from size room : ℕ) → HasGap m at bytes from size room → IsSome (m at)
live_gap m at bytes from size room h = some_is (m at) _ h.holds

-- the bytes and a header over them
pub headed_block : (mid n : Blocks) (at : BlockRef) (count : ℕ) (xs : List ℕ) → bytes_at mid at ≡ xs → n ≡ with_block mid at (Some (headed count (bytes_at mid at)))
    → bytes_at n at ≡ headed count xs
headed_block mid n at count xs same is = seen_is n at _ (holds_written mid n at _ is) ∙ ap (headed count) same

-- bytes taken out
pub cut_bytes : (mid n : Blocks) (at : BlockRef) (bytes : List ℕ) (from size count : ℕ) → HasGap mid at bytes from size 0 → n ≡ with_block mid at (Some (headed count (bytes_at mid at)))
    → bytes_at n at ≡ headed count (take from bytes ++ drop (from + size) bytes)
cut_bytes mid n at bytes from size count h is =
    let none : h.gap ≡ [] = nil_from_length h.gap h.wide in
    headed_block mid n at count (take from bytes ++ drop (from + size) bytes)
    (seen_is mid at _ h.holds ∙ ap (λ (xs : List ℕ). take from bytes ++ (xs ++ drop (from + size) bytes)) none) is

-- a change, and then a header over one block
pub headed_changes : (m mid n : Blocks) (at new : BlockRef) (count : ℕ) → Changes m mid (at ∷ []) (new ∷ []) → IsSome (mid new) → n ≡ with_block mid new (Some (headed count (bytes_at mid new)))
    → Changes m n (at ∷ []) (new ∷ [])
headed_changes m mid n at new count first live is = changes_then m mid n (at ∷ []) (new ∷ []) (new ∷ []) first (written_changes mid n new _ live is)

-- the entries from i to below j taken out
pub block_taken_out : (old new seen : List ℕ) (i j start end count told' : ℕ) → old ≡ seen → IsPack old → length old < 2 ^ 32 → i ≤ j → j ≤ length (texts old)
    → start ≡ offset_of seen i → end ≡ offset_of seen j → told' ≡ told seen → count ≡ fewer told' (j - i) → count < 65536
    → new ≡ headed count (take start old ++ drop (start + (end - start)) old)
    → IsEdited new (remove_range (spellings_of old) i j) (fewer (told old) (j - i))
block_taken_out old new seen i j start end count told' same p short order inside start_is end_is told_is count_is few is =
    let at : start ≡ offset_of old i = start_is ∙ ap (λ (b : List ℕ). offset_of b i) (sym same) in
    let to : end ≡ offset_of old j = end_is ∙ ap (λ (b : List ℕ). offset_of b j) (sym same) in
    let rises = offset_rises old i j order in
    let next : start + (end - start) ≡ offset_of old j = omega (arith, rises, at, to) in
    let inner : List ℕ = take start old ++ drop (start + (end - start)) old in
    let cut_as : inner ≡ take (offset_of old i) old ++ drop (offset_of old j) old =
    ap (λ (k : ℕ). take k old ++ drop (start + (end - start)) old) at ∙ ap (λ (k : ℕ). take (offset_of old i) old ++ drop k old) next in
    let within : start + (end - start) ≤ length old = omega (arith, next, length_offset old j p) in
    let small : length inner < 2 ^ 32 = length-cut old inner start (end - start) refl within short in
    taken_out old inner new i j count p order inside cut_as is small few (count_is ∙ ap (λ (k : ℕ). fewer k (j - i)) (told_is ∙ ap told (sym same)))

-- a piece over a gap as wide as it
pub filled_gap : (bytes gap part : List ℕ) (from : ℕ) → from ≤ length bytes → length gap ≡ length part
    → overwritten (spliced bytes from 0 gap) from part ≡ take from bytes ++ (part ++ drop from bytes)
filled_gap bytes gap part from inside wide =
    let front : List ℕ = take from bytes in
    let back : List ℕ = drop (from + 0) bytes in
    let long : length front ≡ from = length-take-le from bytes inside in
    let same : from + 0 ≡ from = omega arith in
    let both : length (front ++ gap) ≡ from + length part = omega (arith, long, wide, length-append front gap) in
    let behind : drop (from + length part) (front ++ (gap ++ back)) ≡ back =
    ap (drop (from + length part)) (sym (append_assoc front gap back)) ∙ drop_at (front ++ gap) back (from + length part) both in
    ap (λ (xs : List ℕ). (xs ++ part) ++ drop (from + length part) (front ++ (gap ++ back))) (take_at front (gap ++ back) from long)
    ∙ ap (λ (xs : List ℕ). (front ++ part) ++ xs) behind
    ∙ append_assoc front part back
    ∙ ap (λ (k : ℕ). front ++ (part ++ drop k bytes)) same

-- so it is in a block
pub put_bytes : (mid filled : Blocks) (at : BlockRef) (bytes part : List ℕ) (from room : ℕ) → HasGap mid at bytes from 0 room → room ≡ length part → from ≤ length bytes
    → filled ≡ with_block mid at (Some (overwritten (bytes_at mid at) from part)) → bytes_at filled at ≡ take from bytes ++ (part ++ drop from bytes)
put_bytes mid filled at bytes part from room h wide inside is =
    seen_is filled at _ (holds_written mid filled at _ is)
    ∙ ap (λ (xs : List ℕ). overwritten xs from part) (seen_is mid at _ h.holds)
    ∙ filled_gap bytes h.gap part from inside (h.wide ∙ wide)

-- and stays live
pub put_live : (mid filled : Blocks) (at : BlockRef) (bytes : List ℕ) → filled ≡ with_block mid at (Some bytes) → IsSome (filled at)
put_live mid filled at bytes is = some_is (filled at) bytes (holds_written mid filled at bytes is)

-- a change, a piece in one block, and a header over it
pub put_changes : (m mid filled n : Blocks) (at new : BlockRef) (bytes : List ℕ) (count : ℕ) → Changes m mid (at ∷ []) (new ∷ []) → IsSome (mid new) → filled ≡ with_block mid new (Some bytes)
    → n ≡ with_block filled new (Some (headed count (bytes_at filled new))) → Changes m n (at ∷ []) (new ∷ [])
put_changes m mid filled n at new bytes count first live put is =
    headed_changes m filled n at new count (changes_then m mid filled (at ∷ []) (new ∷ []) (new ∷ []) first (written_changes mid filled new bytes live put)) (put_live mid filled new bytes put) is

-- an entry put in before the entry i
pub block_put_in : (old new seen text : List ℕ) (i start told' count : ℕ) → old ≡ seen → IsPack old → i ≤ length (texts old) → start ≡ offset_of seen i → told' ≡ told seen
    → count ≡ one_more told' → length old + length (entry text) < 2 ^ 32
    → new ≡ headed count (take start old ++ (entry text ++ drop start old))
    → IsEdited new (insert (spellings_of old) i (spelling text)) (one_more (told old))
block_put_in old new seen text i start told' count same p inside start_is told_is count_is fits is =
    let at : start ≡ offset_of old i = start_is ∙ ap (λ (b : List ℕ). offset_of b i) (sym same) in
    let inner : List ℕ = take start old ++ (entry text ++ drop start old) in
    inserted old inner new text i count p inside (element_fits old text fits) (ap (λ (k : ℕ). take k old ++ (entry text ++ drop k old)) at) is (length-put old inner text start refl fits)
    (count_is ∙ ap one_more (told_is ∙ ap told (sym same)))

-- three pieces written one behind the other
pub pieces_written : (m one two n : Blocks) (at : BlockRef) (from : ℕ) (a b c : List ℕ) → from ≤ length (bytes_at m at) → one ≡ with_block m at (Some (overwritten (bytes_at m at) from a))
    → two ≡ with_block one at (Some (overwritten (bytes_at one at) (from + length a) b))
    → n ≡ with_block two at (Some (overwritten (bytes_at two at) (from + length a + length b) c))
    → n ≡ with_block m at (Some (overwritten (bytes_at m at) from (a ++ (b ++ c))))
pieces_written m one two n at from a b c inside first second third =
    let over = bytes_at m at in
    let next : from + length a + length b ≡ from + length (a ++ b) = omega (arith, length-append a b) in
    let both : two ≡ with_block m at (Some (overwritten over from (a ++ b))) =
    written_twice m one two at (overwritten over from a) (λ (xs : List ℕ). overwritten xs (from + length a) b) first second
    ∙ ap (λ (xs : List ℕ). with_block m at (Some xs)) (overwritten_next over a b from inside) in
    written_twice m two n at (overwritten over from (a ++ b)) (λ (xs : List ℕ). overwritten xs (from + length a + length b) c) both third
    ∙ ap (λ (k : ℕ). with_block m at (Some (overwritten (overwritten over from (a ++ b)) k c))) next
    ∙ ap (λ (xs : List ℕ). with_block m at (Some xs)) (overwritten_next over (a ++ b) c from inside)
    ∙ ap (λ (xs : List ℕ). with_block m at (Some (overwritten over from xs))) (append_assoc a b c)

-- a written piece leaves the length
pub length_over : (over part : List ℕ) (from : ℕ) → from + length part ≤ length over → length (overwritten over from part) ≡ length over
length_over over part from inside =
    omega (
      arith,
      inside,
      length-append (take from over) (part ++ drop (from + length part) over),
      length-append (take from over) part,
      length-append (take from over ++ part) (drop (from + length part) over),
      length-take-le from over (omega (arith, inside)),
      length-drop (from + length part) over,
    )

pub length_written : (m n : Blocks) (at : BlockRef) (from : ℕ) (part : List ℕ) → n ≡ with_block m at (Some (overwritten (bytes_at m at) from part)) → from + length part ≤ length (bytes_at m at)
    → length (bytes_at n at) ≡ length (bytes_at m at)
length_written m n at from part is inside = ap length (seen_is n at _ (holds_written m n at _ is)) ∙ length_over (bytes_at m at) part from inside

-- an entry written into a gap, in three parts
pub put_entry : (mid filled : Blocks) (at : BlockRef) (bytes a b c text : List ℕ) (from room : ℕ) → HasGap mid at bytes from 0 room → a ++ (b ++ c) ≡ entry text → room ≡ length (entry text)
    → from ≤ length bytes → filled ≡ with_block mid at (Some (overwritten (bytes_at mid at) from (a ++ (b ++ c))))
    → bytes_at filled at ≡ take from bytes ++ (entry text ++ drop from bytes)
put_entry mid filled at bytes a b c text from room h parts wide inside is =
    put_bytes mid filled at bytes (a ++ (b ++ c)) from room h (wide ∙ sym (ap length parts)) inside is ∙ ap (λ (xs : List ℕ). take from bytes ++ (xs ++ drop from bytes)) parts

pub length_entry : (bytes new text : List ℕ) (from : ℕ) → new ≡ take from bytes ++ (entry text ++ drop from bytes) → length new ≡ length bytes + length (entry text)
length_entry bytes new text from is = length_put_is bytes new text from is
