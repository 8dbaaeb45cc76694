-- Elements written one behind the other.
use Rattle.std.proofs.Common.{◌≡◌, Bool, true, false, ℕ, ◌+◌, ◌*◌, ◌<◌, ◌≤◌, ◌^◌, List, [], ◌∷◌, ◌++◌, length, map, take, drop, refl, sym, ap, subst, ◌∙◌, arith, Result, Ok, Err}
use Rattle.std.specs.Prelude.{OnOk, ℤ}
use Rattle.std.specs.Int.{w64}
use mir.Val.{to_z, of_z}
use lib.Signed.{mag}
use Rattle.std.proofs.lemmas.Int.{to_z-of_z}
use Rattle.int_text.specs.Decimal.{canonical}
use Rattle.std.specs.List.{flat_map}
use Rattle.std.proofs.lemmas.List.{append_assoc, append-nil, length-append, length-map, map-append, take_more, take-append-drop}
use Rattle.std.proofs.lemmas.List.Concat.{flat_map-append}
use Rattle.listpack.specs.Entry.{entry_of, back_length}
use Rattle.listpack.specs.Pack.{IsPack, entries, spellings_of, texts}
use Rattle.listpack.specs.Writing.{spelling, entry}
use Rattle.listpack.specs.Edits.{IsEdited}
use Rattle.listpack.proofs.Offsets.{length_offset}
use Rattle.listpack.proofs.Regions.{length_entry}
use Rattle.listpack.proofs.ReadBack.{spelled}
use Rattle.listpack.proofs.Writings.{element_short}
use Rattle.stream_node.specs.Entry.{Pair, number, fields_of, body, size}
use Rattle.stream_node.specs.Pairs.{pair_at}
use Rattle.stream_node.specs.Written.{Extends, HasRoom, pair_texts, body_texts}
use Rattle.stream_node.proofs.Lists.{Texts}
use Rattle.stream_node.proofs.Same.{flat, length_flat_in_same}

-- how long a listpack is
pub length_pack : (bytes : List ℕ) → IsPack bytes → length bytes ≡ 7 + length (entries (spellings_of bytes))
length_pack bytes p = omega (arith, length_offset bytes 0 p)

abbrev pub written : Texts → ℕ
written elements = length (entries (map spelling elements))

pub written_append : (xs ys : Texts) → written (xs ++ ys) ≡ written xs + written ys
written_append xs ys =
    ap (λ (x : Texts). length (entries x)) (map-append spelling xs ys)
    ∙ ap length (flat_map-append entry_of (map spelling xs) (map spelling ys))
    ∙ length-append (entries (map spelling xs)) (entries (map spelling ys))

pub one_put : (old new text : List ℕ) (count : ℕ) → IsEdited new (spellings_of old ++ spelling text ∷ []) count → texts new ≡ texts old ++ text ∷ [] → Extends old new (text ∷ [])
one_put old new text count edited list = record { pack = edited.pack; spelled = edited.entries; list = list }

pub none_put : (old : List ℕ) → IsPack old → Extends old old []
none_put old p = record { pack = p; spelled = sym (append-nil (spellings_of old)); list = sym (append-nil (texts old)) }

pub put_on : (old mid new : List ℕ) (xs ys : Texts) → Extends old mid xs → Extends mid new ys → Extends old new (xs ++ ys)
put_on old mid new xs ys a b = record {
  pack = b.pack;
  spelled =
      b.spelled
      ∙ ap (λ (x : Texts). x ++ map spelling ys) a.spelled
      ∙ append_assoc (spellings_of old) (map spelling xs) (map spelling ys)
      ∙ ap (λ (x : Texts). spellings_of old ++ x) (sym (map-append spelling xs ys));
  list = b.list ∙ ap (λ (x : Texts). x ++ ys) a.list ∙ append_assoc (texts old) xs ys;
}

-- how long the listpack is then
pub length-put : (old mid : List ℕ) (xs : Texts) → IsPack old → Extends old mid xs → length mid ≡ length old + written xs
length-put old mid xs p a =
    omega (
      arith,
      length_pack old p,
      length_pack mid a.pack,
      ap (λ (x : Texts). length (entries x)) a.spelled,
      ap length (flat_map-append entry_of (spellings_of old) (map spelling xs)),
      length-append (entries (spellings_of old)) (entries (map spelling xs)),
    )

-- room for the first ones, and for those that follow when these are there
pub room_first : (old : List ℕ) (xs ys : Texts) → HasRoom old (xs ++ ys) → HasRoom old xs
room_first old xs ys room = omega (arith, room, written_append xs ys)

pub room_next : (old mid : List ℕ) (xs ys : Texts) → IsPack old → Extends old mid xs → HasRoom old (xs ++ ys) → HasRoom mid ys
room_next old mid xs ys p a room = omega (arith, room, written_append xs ys, length-put old mid xs p a)

-- an element's entry takes a byte at least
pub few_written : (xs : Texts) → written xs < 2 ^ 32 → length xs ≤ written xs
few_written [] h = omega arith
few_written (x ∷ xs) h =
    let s = spelling x in
    let both = length-append (entry x) (entries (map spelling xs)) in
    let short : length s < 2 ^ 32 = omega (arith, h, both, length-append s (back_length (length s))) in
    let one = length_entry s [] (spelled x (element_short x short)).0 in
    omega (arith, few_written xs (omega (arith, h, both)), both, one, length-append (entry x) [])

pub few_in_room : (pack : List ℕ) (xs : Texts) → HasRoom pack xs → length xs < 2 ^ 32
few_in_room pack xs room = omega (arith, room, few_written xs (omega (arith, room)))

-- what goes on where the call went well
pub when_ok : {A E : Type 0} {P Q : Type 0} (r : Result A E) → (P → Q) → OnOk r P → OnOk r Q
when_ok (Ok a) f p = f p
when_ok (Err e) f p = tt

-- the texts of pairs, and those of the fields and of bodies
pub texts_more : (f : Pair → Texts) (pairs : List Pair) (i : ℕ) → i < length pairs → flat_map f (take (i + 1) pairs) ≡ flat_map f (take i pairs) ++ f (pair_at pairs i)
texts_more f pairs i inside =
    ap (flat_map f) (take_more pairs i ([], []) inside)
    ∙ flat_map-append f (take i pairs) (pair_at pairs i ∷ [])
    ∙ ap (λ (x : Texts). flat_map f (take i pairs) ++ x) (append-nil (f (pair_at pairs i)))

pub pair_room : (f : Pair → Texts) (pairs : List Pair) (old mid : List ℕ) (i : ℕ) → IsPack old → HasRoom old (flat_map f pairs) → Extends old mid (flat_map f (take i pairs)) → i < length pairs
    → HasRoom mid (f (pair_at pairs i))
pair_room f pairs old mid i p room a inside =
    let whole = sym (flat_map-append f (take (i + 1) pairs) (drop (i + 1) pairs)) ∙ ap (flat_map f) (take-append-drop (i + 1) pairs) in
    let first = room_first old (flat_map f (take (i + 1) pairs)) (flat_map f (drop (i + 1) pairs)) (subst (HasRoom old) (sym whole) room) in
    room_next old mid (flat_map f (take i pairs)) (f (pair_at pairs i)) p a (subst (HasRoom old) (texts_more f pairs i inside) first)

pub pair_put : (f : Pair → Texts) (pairs : List Pair) (old mid new : List ℕ) (i : ℕ) → i < length pairs → Extends old mid (flat_map f (take i pairs)) → Extends mid new (f (pair_at pairs i))
    → Extends old new (flat_map f (take (i + 1) pairs))
pair_put f pairs old mid new i inside a b =
    subst (Extends old new) (sym (texts_more f pairs i inside)) (put_on old mid new (flat_map f (take i pairs)) (f (pair_at pairs i)) a b)

abbrev pub field_texts : Pair → Texts
field_texts pair = pair.0 ∷ []

pub fields_are : (pairs : List Pair) → flat_map field_texts pairs ≡ fields_of pairs
fields_are [] = refl
fields_are (p ∷ pairs) = ap (λ (x : Texts). p.0 ∷ x) (fields_are pairs)

pub values_are : (pairs : List Pair) → flat_map (pair_texts true) pairs ≡ body true pairs
values_are [] = refl
values_are (p ∷ pairs) = ap (λ (x : Texts). p.1 ∷ x) (values_are pairs)

pub flat_is : (pairs : List Pair) → flat_map (pair_texts false) pairs ≡ flat pairs
flat_is [] = refl
flat_is (p ∷ pairs) = ap (λ (x : Texts). p.0 ∷ p.1 ∷ x) (flat_is pairs)

pub same_pair : (p : Pair) (field value : List ℕ) → field ≡ p.0 → value ≡ p.1 → (field, value) ≡ p
same_pair p field value e f = λ i. (e i, f i)

-- a number as the code hands it on
pub handed_on : (n d : ℤ) → mag n < 2 ^ 63 → n ≡ d → canonical (to_z w64 (of_z w64 n)) ≡ canonical d
handed_on n d h e = ap canonical (to_z-of_z w64 n (record { sfits = h }) ∙ e)

pub length-values : (pairs : List Pair) → size (body true pairs) ≡ length pairs + 3
length-values pairs = omega (arith, length-map pairs (λ (p : Pair). p.1))

pub length_own : (pairs : List Pair) → size (body false pairs) ≡ 2 * length pairs + 4
length_own pairs = omega (arith, length_flat_in_same pairs)

pub few_pairs : (pack : List ℕ) (same : Bool) (pairs : List Pair) → HasRoom pack (body_texts same pairs) → length pairs < 2 ^ 32
few_pairs pack true pairs room =
    omega (arith, few_in_room pack (body_texts true pairs) room, length-append (body true pairs) (number (size (body true pairs)) ∷ []), length-values pairs)
few_pairs pack false pairs room =
    omega (arith, few_in_room pack (body_texts false pairs) room, length-append (body false pairs) (number (size (body false pairs)) ∷ []), length_own pairs)
