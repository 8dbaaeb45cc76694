-- Listpacks that the writer makes of members, and how long they are.
use Rattle.std.proofs.Common.{◌≡◌, ℕ, suc, ◌*◌, ◌≤◌, List, [], ◌∷◌, ◌++◌, length, map, Some, None, flat_map, ap, ◌∙◌, sym, arith, inl, inr, length-append}
use Rattle.std.specs.Prelude.{ℤ}
use Rattle.std.specs.List.{All, remove as removed}
use Rattle.std.proofs.lemmas.List.{map-append}
use Rattle.std.proofs.lemmas.Bool.Decides.{nat_tests}
use Rattle.std.proofs.lemmas.List.Elements.{All-head, All-tail}
use Rattle.listpack.specs.Entry.{back_length, text_of}
use Rattle.listpack.specs.Pack.{texts, spellings_of}
use Rattle.listpack.specs.Writing.{spelling, number_spelling, text_head, entry, Fits}
use Rattle.listpack.specs.Edits.{IsEdited}
use Rattle.listpack.proofs.Writings.{number_cases, spelling_as}
use Rattle.quicklist.specs.Nodes.{pack_len}
use Rattle.quicklist.proofs.Written.{written_len, remove_range_map}
use Rattle.set_object.specs.Members.{IsPackOf}

back_len : (n : ℕ) → length (back_length n) ≤ 5
unfolding back_length
back_len n = grind (arith, nat_tests)

number_len : (n : ℤ) → length (number_spelling n) ≤ 9
unfolding number_spelling
number_len n = grind (arith, nat_tests)

head_len : (n : ℕ) → length (text_head n) ≤ 5
unfolding text_head
head_len n = grind (arith, nat_tests)

pub entry_len : (text : List ℕ) → length text ≤ 4096 → length (entry text) ≤ 4110
entry_len text short = omega (arith, length-append (spelling text) (back_length (length (spelling text))), back_len (length (spelling text)), by_text)
  where
    by_text : length (spelling text) ≤ 4105
    by_text = elim (number_cases text) [
      | inl none ↦ omega (arith, ap length (spelling_as text None none), length-append (text_head (length text)) text, head_len (length text), short)
      | inr some ↦ omega (arith, ap length (spelling_as text (Some some.0) some.1), number_len some.0)
    ]

entries_len : (list : List (List ℕ)) → All (λ (x : List ℕ). length x ≤ 4096) list → length (flat_map entry list) ≤ length list * 4110
entries_len [] short = omega arith
entries_len (x ∷ list) short =
    omega (
      arith,
      length-append (entry x) (flat_map entry list),
      entry_len x (All-head (λ (x : List ℕ). length x ≤ 4096) x list short),
      entries_len list
          (All-tail (λ (x : List ℕ). length x ≤ 4096) x list short),
    )

-- a short element has room in a pack of few short elements
pub pack_fits : (list : List (List ℕ)) (bytes text : List ℕ) → IsPackOf list bytes → All (λ (x : List ℕ). length x ≤ 4096) list → length list ≤ 65536 → length text ≤ 4096 → Fits bytes text
pack_fits list bytes text p short few small =
    let written : spellings_of bytes ≡ map spelling (texts bytes) = p.written ∙ ap (map spelling) (sym p.texts_are) in
    let long : length bytes ≡ pack_len list = written_len bytes p.pack written ∙ ap pack_len p.texts_are in
    omega (arith, long, entries_len list short, entry_len text small, few)

pub pack_pushed : (list : List (List ℕ)) (old new text : List ℕ) (count : ℕ) → IsPackOf list old → IsEdited new (spellings_of old ++ spelling text ∷ []) count → texts new ≡ texts old
    ++ text ∷ [] → IsPackOf (list ++ text ∷ []) new
pack_pushed list old new text count p e is = record {
  pack = e.pack;
  texts_are = is ∙ ap (λ xs. xs ++ text ∷ []) p.texts_are;
  written = e.entries ∙ ap (λ xs. xs ++ spelling text ∷ []) p.written ∙ sym (map-append spelling list (text ∷ []));
}

pub pack_empty : (bytes : List ℕ) (count : ℕ) → IsEdited bytes [] count → IsPackOf [] bytes
pack_empty bytes count e = record { pack = e.pack; texts_are = ap (map text_of) e.entries; written = e.entries }

pub pack_removed : (list : List (List ℕ)) (old new : List ℕ) (i count : ℕ) → IsPackOf list old → IsEdited new (removed (spellings_of old) i) count → texts new ≡ removed (texts old) i
    → IsPackOf (removed list i) new
pack_removed list old new i count p e is = record {
  pack = e.pack;
  texts_are = is ∙ ap (λ xs. removed xs i) p.texts_are;
  written = e.entries ∙ ap (λ xs. removed xs i) p.written ∙ map_removed list i;
}
  where
    map_removed : (xs : List (List ℕ)) (i : ℕ) → removed (map spelling xs) i ≡ map spelling (removed xs i)
    map_removed xs i = remove_range_map xs i (suc i)
