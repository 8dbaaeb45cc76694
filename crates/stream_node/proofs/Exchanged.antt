-- Three elements exchanged, by what is taken out and put in.
use Rattle.std.proofs.Common.{◌≡◌, ℕ, zero, suc, ◌+◌, ◌<◌, ◌≤◌, ◌^◌, List, [], ◌∷◌, ◌++◌, length, take, drop, sym, ap, ◌∙◌, arith}
use Rattle.std.specs.List.{insert, remove, remove_range}
use Rattle.std.proofs.lemmas.List.{length-append, set_split, take_at, drop_at, length-take-le, take-append-drop, length-drop}
use Rattle.std.proofs.lemmas.List.Edits.{length-insert, length-remove}
use Rattle.std.proofs.lemmas.List.Concat.{flat_map-append}
use Rattle.listpack.specs.Entry.{entry_of}
use Rattle.listpack.specs.Pack.{IsPack, entries, spellings_of, texts}
use Rattle.listpack.specs.Writing.{spelling, entry}
use Rattle.listpack.specs.Edits.{IsEdited}
use Rattle.stream_node.specs.Appended.{pack_len}
use Rattle.stream_node.specs.Marked.{exchanged, Inserts, Exchanges}
use Rattle.stream_node.proofs.Lists.{Texts}
use Rattle.stream_node.proofs.Written.{length_pack}

abbrev pub without : Texts → ℕ → Texts
without list at = remove_range (remove list at) 0 2

pub edited : (list : Texts) (at : ℕ) (a b f : List ℕ) → 2 ≤ at → at < length list → insert (insert (insert (without list at) 0 a) 1 b) at f ≡ exchanged list at a b f
edited [] at a b f two inside = absurd (omega arith)
edited (x ∷ []) at a b f two inside = absurd (omega arith)
edited (x ∷ (y ∷ zs)) zero a b f two inside = absurd (omega arith)
edited (x ∷ (y ∷ zs)) (suc zero) a b f two inside = absurd (omega arith)
edited (x ∷ (y ∷ zs)) (suc (suc k)) a b f two inside =
    let few : k < length zs = omega (arith, inside) in
    let long = length-take-le k zs (omega (arith, few)) in
    let front = take_at (take k zs) (drop (suc k) zs) k long in
    let back = drop_at (take k zs) (drop (suc k) zs) k long in
    ap (λ (l : Texts). a ∷ b ∷ (l ++ f ∷ drop k (take k zs ++ drop (suc k) zs))) front
    ∙ ap (λ (l : Texts). a ∷ b ∷ (take k zs ++ f ∷ l)) back
    ∙ ap (λ (l : Texts). a ∷ b ∷ l) (sym (set_split zs k f few))

-- how many bytes an entry adds
insert_len : (ss : Texts) (i : ℕ) (s : List ℕ) → length (entries (insert ss i s)) ≡ length (entries ss) + length (entry_of s)
insert_len ss i s =
    omega (
      arith,
      ap length (flat_map-append entry_of (take i ss) (s ∷ drop i ss)),
      length-append (entries (take i ss)) (entries (s ∷ drop i ss)),
      length-append (entry_of s) (entries (drop i ss)),
      ap (λ (x : Texts). length (entries x)) (take-append-drop i ss),
      ap length (flat_map-append entry_of (take i ss) (drop i ss)),
      length-append (entries (take i ss)) (entries (drop i ss)),
    )

-- what the steps leave: the listpack without three elements, with one, and with two
pub record Steps (old : List ℕ) (none : List ℕ) (at : ℕ) : Type 0 where
  pub pack : IsPack none
  pub spelled : spellings_of none ≡ without (spellings_of old) at
  pub list : texts none ≡ without (texts old) at

pub steps : (old mid none : List ℕ) (at m n : ℕ) → IsEdited mid (remove (spellings_of old) at) m → texts mid ≡ remove (texts old) at → IsEdited none (remove_range (spellings_of mid) 0 2) n
    → texts none ≡ remove_range (texts mid) 0 2 → Steps old none at
steps old mid none at m n a b c d = record {
  pack = c.pack;
  spelled = c.entries ∙ ap (λ (x : Texts). remove_range x 0 2) a.entries;
  list = d ∙ ap (λ (x : Texts). remove_range x 0 2) b;
}

-- the rooms of the three steps
pub final : (old : List ℕ) (at : ℕ) (a b f : List ℕ) → IsPack old → 2 ≤ at → at < length (spellings_of old) → pack_len (exchanged (spellings_of old) at (spelling a) (spelling b) (spelling f)) < 2 ^ 32
    → 7 + length (entries (without (spellings_of old) at)) + length (entry a) + length (entry b) + length (entry f) < 2 ^ 32
final old at a b f p two inside room =
    let w = without (spellings_of old) at in
    omega (
      arith,
      room,
      ap pack_len (edited (spellings_of old) at (spelling a) (spelling b) (spelling f) two inside),
      insert_len w 0 (spelling a),
      insert_len (insert w 0 (spelling a)) 1 (spelling b),
      insert_len (insert (insert w 0 (spelling a)) 1 (spelling b)) at (spelling f),
    )

pub length_none : (old none : List ℕ) (at : ℕ) → Steps old none at → length none ≡ 7 + length (entries (without (spellings_of old) at))
length_none old none at s = omega (arith, length_pack none s.pack, ap (λ (x : Texts). length (entries x)) s.spelled)

pub length_inserted : (old new text : List ℕ) (i : ℕ) → IsPack old → Inserts old new i text → length new ≡ length old + length (entry text)
length_inserted old new text i p e =
    omega (arith, length_pack old p, length_pack new e.pack, ap (λ (x : Texts). length (entries x)) e.spelled, insert_len (spellings_of old) i (spelling text))

-- how many elements there are before the last step
pub many_left : (old none one two : List ℕ) (at : ℕ) (a b : List ℕ) → 2 ≤ at → at < length (texts old) → Steps old none at → Inserts none one 0 a → Inserts one two 1 b → at ≤ length (texts two)
many_left old none one two at a b behind inside s i j =
    let gone = length-remove (texts old) at inside in
    omega (
      arith,
      gone,
      ap length s.list,
      length-drop 2 (remove (texts old) at),
      ap length i.list,
      length-insert (texts none) 0 a (omega arith),
      ap length j.list,
      length-insert (texts one) 1 b (omega (arith, ap length i.list, length-insert (texts none) 0 a (omega arith))),
    )

pub exchanges : (old none one two new : List ℕ) (at : ℕ) (a b f : List ℕ) → 2 ≤ at → at < length (spellings_of old) → at < length (texts old) → Steps old none at → Inserts none one 0 a
    → Inserts one two 1 b → Inserts two new at f
    → Exchanges old new at a b f
exchanges old none one two new at a b f behind inside inside_texts s i j k = record {
  pack = k.pack;
  spelled =
      k.spelled
      ∙ ap (λ (x : Texts). insert x at (spelling f)) (j.spelled ∙ ap (λ (x : Texts). insert x 1 (spelling b)) (i.spelled ∙ ap (λ (x : Texts). insert x 0 (spelling a)) s.spelled))
      ∙ edited (spellings_of old) at (spelling a) (spelling b) (spelling f) behind inside;
  list = k.list ∙ ap (λ (x : Texts). insert x at f) (j.list ∙ ap (λ (x : Texts). insert x 1 b) (i.list ∙ ap (λ (x : Texts). insert x 0 a) s.list)) ∙ edited (texts old) at a b f behind inside_texts;
}
