-- What writing an entry behind all others comes to.
use Rattle.std.proofs.Common.{◌≡◌, Bool, true, false, ℕ, ◌+◌, ◌<◌, ◌^◌, List, [], ◌∷◌, ◌++◌, length, map, refl, sym, ap, subst, ◌∙◌, arith, inl, inr}
use Rattle.std.specs.Prelude.{None, Some, slice_set}
use Rattle.std.proofs.lemmas.List.{length-append}
use Rattle.std.proofs.lemmas.List.Concat.{flat_map-append}
use Rattle.listpack.specs.Entry.{entry_of}
use Rattle.listpack.specs.Pack.{IsPack, entries, spellings_of, texts}
use Rattle.listpack.specs.Writing.{spelling}
use Rattle.listpack.proofs.Offsets.{length_texts}
use Rattle.stream_node.specs.declared.id.Id.{Id}
use Rattle.stream_node.specs.Entry.{Pair, Stored, number, fields_of, body, size, HasFields}
use Rattle.stream_node.specs.Node.{IsAfter, LacksHead, last_id, Node}
use Rattle.stream_node.specs.Entries.{entries_of, IsNode}
use Rattle.stream_node.specs.Written.{Extends, HasRoom, entry_texts, head_texts}
use Rattle.stream_node.specs.Appended.{same_texts, fields_in, IsOpen, held, more_live, added, appended, pack_len, IsPlan, IsBehind, IsAppended, Replaces}
use Rattle.stream_node.proofs.Lists.{Texts}
use Rattle.stream_node.proofs.ReadBack.{read_head, reads_node, is_node}
use Rattle.stream_node.proofs.FieldsAt.{same_yes}
use Rattle.stream_node.proofs.Marches.{last_push}
use Rattle.stream_node.proofs.Written.{written, written_append, length_pack, few_written, length-values, length_own}
use Rattle.stream_node.proofs.Grown.{first_node, more_node}

-- a number of bytes that is less where less is written
pub written_end : (ss elements : Texts) → pack_len (ss ++ map spelling elements) ≡ pack_len ss + written elements
written_end ss elements =
    omega (arith, ap length (flat_map-append entry_of ss (map spelling elements)), length-append (entries ss) (written_entries elements))
  where
    written_entries : Texts → List ℕ
    written_entries elements = entries (map spelling elements)

pub behind_room : (old mid : List ℕ) (first : List ℕ) (elements : Texts) → Replaces old mid 0 first
    → pack_len (slice_set (spellings_of old) 0 (spelling first) ++ map spelling elements) < 2 ^ 32 → HasRoom mid elements
behind_room old mid first elements r room =
    omega (arith, room, written_end (slice_set (spellings_of old) 0 (spelling first)) elements, length_pack mid r.pack, ap (λ (x : Texts). length (entries x)) r.spelled)

pub behind_first : (ss elements : Texts) → pack_len (ss ++ map spelling elements) < 2 ^ 32 → pack_len ss < 2 ^ 32
behind_first ss elements room = omega (arith, room, written_end ss elements)

pub is_behind : (old mid new : List ℕ) (first : List ℕ) (elements : Texts) → Replaces old mid 0 first → Extends mid new elements → IsBehind old new first elements
is_behind old mid new first elements r e = record {
  pack = e.pack;
  spelled = e.spelled ∙ ap (λ (x : Texts). x ++ map spelling elements) r.spelled;
  list = e.list ∙ ap (λ (x : Texts). x ++ elements) r.list;
}

-- how many pairs there are, where they are written
pub pairs_few : (key id : Id) (same : Bool) (pairs : List Pair) → written (entry_texts key id same pairs) < 2 ^ 32 → length pairs < 2 ^ 32
pairs_few key id true pairs h =
    omega (arith, h, few_written (entry_texts key id true pairs) h, length-append (body true pairs) (number (size (body true pairs)) ∷ []), length-values pairs)
pairs_few key id false pairs h =
    omega (arith, h, few_written (entry_texts key id false pairs) h, length-append (body false pairs) (number (size (body false pairs)) ∷ []), length_own pairs)

-- where there is an element
added_behind : (key id : Id) (list : Texts) (pairs : List Pair) → 0 < length list → added key list id pairs ≡ entry_texts key id (same_texts (fields_of pairs) (fields_in list)) pairs
added_behind key id [] pairs some = absurd (omega arith)
added_behind key id (x ∷ list) pairs some = refl

held_all : (key : Id) (list : Texts) → 0 < length list → held key list ≡ entries_of key list
held_all key [] some = absurd (omega arith)
held_all key (x ∷ list) some = refl

pub some_element : (list : Texts) (pairs : List Pair) (live : ℕ) (same : Bool) → IsPlan list pairs live same → 0 < length list
some_element list pairs live same p = let h = p.head in omega (arith, ap length h.elements)

-- the spellings, by what was read of the head
pub appended_is : (key id : Id) (old : List ℕ) (pairs : List Pair) (live : ℕ) (same : Bool) → IsPlan (texts old) pairs live same
    → appended key old id pairs ≡ slice_set (spellings_of old) 0 (spelling (number (live + 1))) ++ map spelling (entry_texts key id same pairs)
appended_is key id old pairs live same p =
    let list = texts old in
    let ss = spellings_of old in
    let r = read_head list live p.deleted p.master p.rest p.head in
    let test : same_texts (fields_of pairs) (fields_in list) ≡ same = ap (same_texts (fields_of pairs)) r.fields ∙ sym p.same_is in
    ap (λ (k : ℕ). slice_set ss 0 (spelling (number (k + 1))) ++ map spelling (added key list id pairs)) r.live_read
    ∙ ap (λ (x : Texts). slice_set ss 0 (spelling (number (live + 1))) ++ map spelling x) (added_behind key id list pairs (some_element list pairs live same p))
    ∙ ap (λ (b : Bool). slice_set ss 0 (spelling (number (live + 1))) ++ map spelling (entry_texts key id b pairs)) test

the_node : (key : Id) (list : Texts) → IsOpen key list → 0 < length list → IsNode key list
the_node key list (inl none) some = absurd (omega (arith, some, ap length none))
the_node key list (inr n) some = n

has_fields : (same : Bool) (master : Texts) (pairs : List Pair) → same ≡ same_texts (fields_of pairs) master → 0 < length pairs → length pairs < 2 ^ 63 → HasFields same master pairs
has_fields true master pairs e some few = same_yes (fields_of pairs) master (sym e)
has_fields false master pairs e some few = (some, few)

-- ids and keys as the code has them
pub record AreIds (key : Id) (id : Id) : Type 0 where
  pub id_ms : id.ms < 2 ^ 64
  pub id_seq : id.seq < 2 ^ 64
  pub key_ms : key.ms < 2 ^ 64
  pub key_seq : key.seq < 2 ^ 64

from_node : (key id : Id) (old new : List ℕ) (pairs : List Pair) (live : ℕ) (same : Bool) (es : List Stored) → Node key (texts old) es → AreIds key id → IsAfter (last_id None es) id → 0 < length pairs
    → length pairs < 2 ^ 63 → length (texts old) < 2 ^ 32 → IsPlan (texts old) pairs live same → texts new ≡ slice_set (texts old) 0 (number (live + 1)) ++ entry_texts key id same pairs
    → Node key (texts new) (es ++ record { id = id; deleted = false; pairs = pairs } ∷ [])
from_node key id old new pairs live same es n ids after some few short p e =
    let list = texts old in
    let r = read_head list live p.deleted p.master p.rest p.head in
    let s = read_head list n.live n.deleted n.master n.behind n.head in
    let master : p.master ≡ n.master = sym r.fields ∙ s.fields in
    let lives : n.live ≡ live = sym s.live_read ∙ r.live_read in
    let fields = has_fields same n.master pairs (p.same_is ∙ ap (same_texts (fields_of pairs)) master) some few in
    let made = more_node key id list same pairs es n ids.id_ms ids.id_seq ids.key_ms ids.key_seq fields after short in
    let there = ap (λ (k : ℕ). slice_set list 0 (number (k + 1)) ++ entry_texts key id same pairs) lives ∙ sym e in
    subst (λ (x : Texts). Node key x (es ++ record { id = id; deleted = false; pairs = pairs } ∷ [])) there made

pub appended_behind : (key id : Id) (old new : List ℕ) (pairs : List Pair) (live : ℕ) (same : Bool) → AreIds key id → IsOpen key (texts old)
    → IsAfter (last_id None (held key (texts old))) id → 0 < length pairs
    → length (texts old) < 2 ^ 32 → pack_len (appended key old id pairs) < 2 ^ 32 → IsPlan (texts old) pairs live same → IsBehind old new (number (live + 1)) (entry_texts key id same pairs)
    → IsAppended key old new id pairs
appended_behind key id old new pairs live same ids open_list after some short room p b =
    let list = texts old in
    let ss = slice_set (spellings_of old) 0 (spelling (number (live + 1))) in
    let there = some_element list pairs live same p in
    let holds = held_all key list there in
    let is = appended_is key id old pairs live same p in
    let few : length pairs < 2 ^ 32 = pairs_few key id same pairs (omega (arith, room, ap pack_len is, written_end ss (entry_texts key id same pairs))) in
    let n = from_node key id old new pairs live same (entries_of key list) (the_node key list open_list there) ids (subst (λ (x : List Stored). IsAfter (last_id None x) id) holds after)
    some (omega (arith, few)) short p b.list in
    record {
      pack = b.pack;
      node = is_node key (texts new) _ n;
      entries = reads_node key (texts new) _ n ∙ ap (λ (x : List Stored). x ++ record { id = id; deleted = false; pairs = pairs } ∷ []) (sym holds);
      spelled = b.spelled ∙ sym is;
    }

-- an empty list, where there is no head
pub empty_list : (key : Id) (list : Texts) → IsOpen key list → LacksHead list → list ≡ []
empty_list key list (inl none) lacks = none
empty_list key list (inr n) lacks = absurd (lacks n.live n.deleted n.master n.behind n.head)

no_spellings : (ss : Texts) → length ss ≡ 0 → ss ≡ []
no_spellings [] e = refl
no_spellings (s ∷ ss) e = absurd (omega arith)

pub none_spelled : (old : List ℕ) → texts old ≡ [] → spellings_of old ≡ []
none_spelled old none = no_spellings (spellings_of old) (omega (arith, length_texts old, ap length none))

pub first_is : (key id : Id) (old : List ℕ) (pairs : List Pair) → texts old ≡ [] → appended key old id pairs ≡ map spelling (head_texts pairs ++ entry_texts key id true pairs)
first_is key id old pairs none =
    ap (λ (x : Texts). slice_set x 0 (spelling (more_live (texts old))) ++ map spelling (added key (texts old) id pairs)) (none_spelled old none)
    ∙ ap (λ (x : Texts). map spelling (added key x id pairs)) none

pub first_room : (key id : Id) (old : List ℕ) (pairs : List Pair) → IsPack old → texts old ≡ [] → pack_len (appended key old id pairs) < 2 ^ 32
    → HasRoom old (head_texts pairs ++ entry_texts key id true pairs)
first_room key id old pairs pack none room =
    omega (arith, room, ap pack_len (first_is key id old pairs none), length_pack old pack, ap (λ (x : Texts). length (entries x)) (none_spelled old none))

pub appended_first : (key id : Id) (old new : List ℕ) (pairs : List Pair) → AreIds key id → texts old ≡ [] → 0 < length pairs → pack_len (appended key old id pairs) < 2 ^ 32
    → Extends old new (head_texts pairs ++ entry_texts key id true pairs) → IsAppended key old new id pairs
appended_first key id old new pairs ids none some room e =
    let all = head_texts pairs ++ entry_texts key id true pairs in
    let is = first_is key id old pairs none in
    let list : texts new ≡ all = e.list ∙ ap (λ (x : Texts). x ++ all) none in
    let few : length pairs < 2 ^ 32 = pairs_few key id true pairs (omega (arith, room, ap pack_len is, written_append (head_texts pairs) (entry_texts key id true pairs))) in
    let made = first_node key id pairs ids.id_ms ids.id_seq ids.key_ms ids.key_seq some (omega (arith, few)) in
    let n = subst (λ (x : Texts). Node key x (record { id = id; deleted = false; pairs = pairs } ∷ [])) (sym list) made in
    record {
      pack = e.pack;
      node = is_node key (texts new) _ n;
      entries = reads_node key (texts new) _ n ∙ ap (λ (x : Texts). held key x ++ record { id = id; deleted = false; pairs = pairs } ∷ []) (sym none);
      spelled = e.spelled ∙ ap (λ (x : Texts). x ++ map spelling all) (none_spelled old none) ∙ sym is;
    }

-- the last id is then the entry's
pub last_appended : (key id : Id) (old new : List ℕ) (pairs : List Pair) → IsAppended key old new id pairs → last_id None (held key (texts new)) ≡ Some id
last_appended key id old new pairs a =
    let n = a.node in
    let h = n.head in
    let there : 0 < length (texts new) = omega (arith, ap length h.elements) in
    ap (last_id None) (held_all key (texts new) there ∙ a.entries) ∙ last_push None (held key (texts old)) (record { id = id; deleted = false; pairs = pairs })

-- an empty listpack has none
pub last_none : (key : Id) (bytes : List ℕ) → spellings_of bytes ≡ [] → last_id None (held key (texts bytes)) ≡ None
unfolding last_id
last_none key bytes none = ap (λ (x : Texts). last_id None (held key (map Rattle.listpack.specs.Entry.text_of x))) none
