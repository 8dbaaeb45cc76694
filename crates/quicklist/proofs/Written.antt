-- Listpacks that are written of elements, and how long they are.
use Rattle.std.proofs.Common.{◌≡◌, ℕ, suc, ◌+◌, ◌<◌, ◌≤◌, ◌^◌, List, [], ◌∷◌, ◌++◌, length, map, take, drop, set, refl, ap, ◌∙◌, sym, subst, inl, inr, arith, flat_map, length-append}
use Rattle.std.specs.List.{insert, remove_range}
use Rattle.std.specs.Prelude.{Bool, false, IsTrue}
use Rattle.std.proofs.lemmas.Bool.{cases_lt}
use Rattle.std.proofs.lemmas.Bool.Decides.{nat_tests}
use Rattle.std.proofs.lemmas.Grind.{common_steps}
use Rattle.std.proofs.lemmas.List.{take-append-drop, take-map, drop-map, map-append, map-set, set_split, take_all}
use Rattle.std.proofs.lemmas.List.Concat.{flat_map-append}
use Rattle.listpack.specs.Entry.{back_length, text_of}
use Rattle.listpack.specs.Pack.{entries, IsPack, texts, spellings_of}
use Rattle.listpack.specs.Writing.{spelling, entry}
use Rattle.listpack.specs.Edits.{IsEdited}
use Rattle.listpack.proofs.Offsets.{offset_end}
use Rattle.listpack.proofs.Writings.{element_short}
use Rattle.quicklist.specs.Nodes.{IsPacked, pack_len}

-- an element that is short enough for a packed node
pub is_short : (text : List ℕ) → pack_len (text ∷ []) ≤ 8192 → length text < 2 ^ 32
is_short text h = element_short text (omega (arith, h, length-append (spelling text) (back_length (length (spelling text))), length-append (entry text) []))

pub alone_len : (text : List ℕ) → pack_len (text ∷ []) ≡ 7 + length (entry text)
alone_len text = omega (arith, length-append (entry text) [])

pub not_long : (text : List ℕ) (b : Bool) → (IsTrue b → 8192 < pack_len (text ∷ [])) × (8192 < pack_len (text ∷ []) → IsTrue b) → b ≡ false → pack_len (text ∷ []) ≤ 8192
not_long text b says is_false = elim (cases_lt 8192 (pack_len (text ∷ []))) [ inl long ↦ let t = says.1 long in let never : ⊥ = cc in absurd never | inr short ↦ short ]

entries_written : (list : List (List ℕ)) → entries (map spelling list) ≡ flat_map entry list
entries_written [] = refl
entries_written (text ∷ list) = ap (λ (xs : List ℕ). entry text ++ xs) (entries_written list)

-- the length of a written listpack
pub written_len : (bytes : List ℕ) → IsPack bytes → spellings_of bytes ≡ map spelling (texts bytes) → length bytes ≡ pack_len (texts bytes)
written_len bytes p written =
    let n = length (spellings_of bytes) in
    let all : take n (spellings_of bytes) ≡ spellings_of bytes = take_all n (spellings_of bytes) (omega arith) in
    let far = offset_end bytes n p (omega arith) in
    omega (arith, far, ap (λ (xs : List (List ℕ)). length (entries xs)) all, ap (λ (xs : List (List ℕ)). length (entries xs)) written, ap length (entries_written (texts bytes)))

pub packed_len : (bytes : List ℕ) → IsPacked bytes → length bytes ≡ pack_len (texts bytes)
packed_len bytes p = written_len bytes p.pack p.written

-- parts of a list
pub pack_len_append : (xs ys : List (List ℕ)) → pack_len (xs ++ ys) + 7 ≡ pack_len xs + pack_len ys
pack_len_append xs ys = omega (arith, ap length (flat_map-append entry xs ys), length-append (flat_map entry xs) (flat_map entry ys))

pub pack_len_cut : (xs : List (List ℕ)) (i : ℕ) → pack_len xs + 7 ≡ pack_len (take i xs) + pack_len (drop i xs)
pack_len_cut xs i = omega (arith, ap pack_len (take-append-drop i xs), pack_len_append (take i xs) (drop i xs))

pub pack_len_insert : (xs : List (List ℕ)) (i : ℕ) (text : List ℕ) → pack_len (insert xs i text) ≡ pack_len xs + length (entry text)
pack_len_insert xs i text =
    omega (arith, pack_len_append (take i xs) (text ∷ drop i xs), pack_len_append (text ∷ []) (drop i xs), alone_len text, pack_len_cut xs i)

-- a pack after an edit is a written one
pub edited_written : (new : List ℕ) (list : List (List ℕ)) (count : ℕ) → IsEdited new (map spelling list) count → texts new ≡ list → length new ≤ 8192 → IsPacked new
edited_written new list count e is short = record { pack = e.pack; written = e.entries ∙ ap (map spelling) (sym is); short = short }

pub edited_len : (new : List ℕ) (list : List (List ℕ)) (count : ℕ) → IsEdited new (map spelling list) count → texts new ≡ list → length new ≡ pack_len list
edited_len new list count e is = written_len new e.pack (e.entries ∙ ap (map spelling) (sym is)) ∙ ap pack_len is

pub insert_map : (xs : List (List ℕ)) (i : ℕ) (text : List ℕ) → insert (map spelling xs) i (spelling text) ≡ map spelling (insert xs i text)
insert_map xs i text =
    ap (λ (ys : List (List ℕ)). ys ++ (spelling text ∷ drop i (map spelling xs))) (take-map spelling i xs)
    ∙ ap (λ (ys : List (List ℕ)). map spelling (take i xs) ++ (spelling text ∷ ys)) (drop-map spelling i xs)
    ∙ sym (map-append spelling (take i xs) (text ∷ drop i xs))

pub remove_range_map : (xs : List (List ℕ)) (i j : ℕ) → remove_range (map spelling xs) i j ≡ map spelling (remove_range xs i j)
remove_range_map xs i j =
    ap (λ (ys : List (List ℕ)). ys ++ drop j (map spelling xs)) (take-map spelling i xs)
    ∙ ap (λ (ys : List (List ℕ)). map spelling (take i xs) ++ ys) (drop-map spelling j xs)
    ∙ sym (map-append spelling (take i xs) (drop j xs))

pub set_map : (xs : List (List ℕ)) (i : ℕ) (text : List ℕ) → set (map spelling xs) i (spelling text) ≡ map spelling (set xs i text)
set_map xs i text = sym (map-set spelling xs i text)

-- an element written in the place of another
pub pack_len_set : (xs : List (List ℕ)) (i : ℕ) (text : List ℕ) → i < length xs → pack_len (text ∷ []) ≤ pack_len (set xs i text)
pack_len_set xs i text h =
    omega (arith, ap pack_len (set_split xs i text h), pack_len_append (take i xs) (text ∷ drop (suc i) xs), pack_len_append (text ∷ []) (drop (suc i) xs))

-- and elements taken out
pub pack_len_remove : (xs : List (List ℕ)) (i j : ℕ) → i ≤ j → pack_len (remove_range xs i j) ≤ pack_len xs
pack_len_remove xs i j h =
    let front = take i (take j xs) in
    let same : front ≡ take i xs = grind (arith, common_steps) in
    omega (arith, pack_len_append (take i xs) (drop j xs), pack_len_cut xs j, pack_len_cut (take j xs) i, ap pack_len same)

-- a packed node with an element put in
pub joined_is : (old new text : List ℕ) (i count : ℕ) → IsPacked old → length old + length (entry text) ≤ 8192 → IsEdited new (insert (spellings_of old) i (spelling text)) count
    → texts new ≡ insert (texts old) i text → IsPacked new
joined_is old new text i count p room e is =
    let written : IsEdited new (map spelling (insert (texts old) i text)) count =
    subst (λ (ss : List (List ℕ)). IsEdited new ss count) (ap (λ (ss : List (List ℕ)). insert ss i (spelling text)) p.written ∙ insert_map (texts old) i text) e in
    edited_written new (insert (texts old) i text) count written is
    (omega (arith, edited_len new (insert (texts old) i text) count written is, pack_len_insert (texts old) i text, packed_len old p, room))

-- behind all others
pub appended_is : (old new text : List ℕ) (count : ℕ) → IsPacked old → length old + length (entry text) ≤ 8192 → IsEdited new (spellings_of old ++ spelling text ∷ []) count
    → texts new ≡ texts old ++ text ∷ [] → IsPacked new
appended_is old new text count p room e is =
    let written : IsEdited new (map spelling (texts old ++ text ∷ [])) count =
    subst (λ (ss : List (List ℕ)). IsEdited new ss count) (ap (λ (ss : List (List ℕ)). ss ++ spelling text ∷ []) p.written ∙ sym (map-append spelling (texts old) (text ∷ []))) e in
    edited_written new (texts old ++ text ∷ []) count written is
    (omega (arith, edited_len new (texts old ++ text ∷ []) count written is, pack_len_append (texts old) (text ∷ []), alone_len text, packed_len old p, room))

-- an empty one
pub empty_is : (new : List ℕ) → IsEdited new [] 0 → IsPacked new × (texts new ≡ [])
empty_is new e =
    let none : texts new ≡ [] = ap (map text_of) e.entries in
    (edited_written new [] 0 e none (omega (arith, edited_len new [] 0 e none)), none)

-- with one in the place of another
pub replaced_len : (old new text : List ℕ) (i count : ℕ) → IsPacked old → IsEdited new (set (spellings_of old) i (spelling text)) count
    → texts new ≡ set (texts old) i text → IsEdited new (map spelling (set (texts old) i text)) count × (length new ≡ pack_len (set (texts old) i text))
replaced_len old new text i count p e is =
    let written : IsEdited new (map spelling (set (texts old) i text)) count =
    subst (λ (ss : List (List ℕ)). IsEdited new ss count) (ap (λ (ss : List (List ℕ)). set ss i (spelling text)) p.written ∙ set_map (texts old) i text) e in
    (written, edited_len new (set (texts old) i text) count written is)

-- and with some taken out
pub cut_is : (old new : List ℕ) (i j count : ℕ) → i ≤ j → IsPacked old → IsEdited new (remove_range (spellings_of old) i j) count → texts new ≡ remove_range (texts old) i j → IsPacked new
cut_is old new i j count h p e is =
    let written : IsEdited new (map spelling (remove_range (texts old) i j)) count =
    subst (λ (ss : List (List ℕ)). IsEdited new ss count) (ap (λ (ss : List (List ℕ)). remove_range ss i j) p.written ∙ remove_range_map (texts old) i j) e in
    edited_written new (remove_range (texts old) i j) count written is
    (omega (arith, edited_len new (remove_range (texts old) i j) count written is, pack_len_remove (texts old) i j h, packed_len old p, p.short))

pub back_some : (n : ℕ) → 1 ≤ length (back_length n)
unfolding back_length
back_some n = grind (arith, nat_tests)
