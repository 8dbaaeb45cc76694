-- Keys passed one after the other.
use Rattle.std.proofs.Common.{◌≡◌, ◌∙◌, ℕ, ◌+◌, ◌<◌, ◌^◌, List, [], ◌∷◌, length, map, refl, sym, ap, subst, inl, inr, arith, length-append}
use Rattle.std.specs.Prelude.{true, None}
use Rattle.std.specs.List.{AllByRecursion}
use Rattle.std.proofs.lemmas.List.{length-map}
use Rattle.blocks.specs.Blocks.{Blocks}
use Rattle.blocks.proofs.Change.{changes_then}
use Rattle.stream_node.specs.declared.id.Id.{Id}
use Rattle.stream_node.specs.Ids.{IsId, id_number}
use Rattle.rax_packed.specs.declared.tree.PackedTree.{PackedTree}
use Rattle.rax_packed.specs.Trees.{Entry}
use Rattle.rax_packed.specs.Maps as rax
use Rattle.rax_packed.proofs.Entries.{all-append, all_back, all_weaker}
use Rattle.rax_packed.proofs.Marked.{tree_marked}
use Rattle.stream_object.specs.Copied.{AreSame}
use Rattle.stream_object.specs.Found.{IsNear, Misses}
use Rattle.stream_object.specs.Parts.{Part, IsPart, Rising, parts_of, all_refs, HasParts}
use Rattle.stream_object.specs.Relocation.{Moves, node_mark, entry_mark, tree_marks}
use Rattle.stream_object.specs.Streams.{AreUpto, IsStream}
use Rattle.stream_object.specs.declared.stream.Stream.{Stream as Log}
use Rattle.stream_object.specs.Relocation.{IsRelocated}
use Rattle.stream_object.proofs.Clears.{exchanges_none}
use Rattle.stream_object.proofs.Copies.{same_entries, same_upto}
use Rattle.stream_object.proofs.Movings.{tree_all, same_self}
use Rattle.stream_object.proofs.Passed.{IsBeside}
use Rattle.stream_object.proofs.Walks.{keys_after}
use Rattle.stream_object.proofs.Tails.{kept_none}

same_then : (ps qs rs : List Part) → AreSame ps qs → AreSame qs rs → AreSame ps rs
same_then [] [] [] x y = tt
same_then [] [] (r ∷ rs) x y = absurd y
same_then [] (q ∷ qs) rs x y = absurd x
same_then (p ∷ ps) [] rs x y = absurd x
same_then (p ∷ ps) (q ∷ qs) [] x y = absurd y
same_then (p ∷ ps) (q ∷ qs) (r ∷ rs) x y = (y.0 ∙ x.0, y.1 ∙ x.1, same_then ps qs rs x.2 y.2)

pub moves_then : (a b c : Blocks) (x y z : PackedTree) → Moves a b x y → Moves b c y z → Moves a c x z
moves_then a b c x y z p q = record {
  parts = q.parts;
  same = same_then (parts_of a x) (parts_of b y) (parts_of c z) p.same q.same;
  changes = changes_then a b c (all_refs a x) (all_refs b y) (all_refs c z) p.changes q.changes;
  marks_are = q.marks_are ∙ p.marks_are;
}

pub moves_none : (m : Blocks) (tree : PackedTree) → HasParts m tree (parts_of m tree) → Moves m m tree tree
moves_none m tree h = record { parts = h; same = same_self (parts_of m tree); changes = (exchanges_none m tree (parts_of m tree) h).changes; marks_are = refl }

-- as many marks as references
pub marks_many : (m : Blocks) (tree : PackedTree) → length (tree_marks m tree) ≡ length (all_refs m tree)
unfolding all_refs
marks_many m tree =
    omega (
      arith,
      length-append (map node_mark (rax.marks_of m tree)) (map entry_mark (rax.entries_of m tree)),
      length-append (rax.refs_of m tree) (map (λ (e : Entry). e.value) (rax.entries_of m tree)),
      length-map (rax.entries_of m tree) entry_mark,
      length-map (rax.entries_of m tree) (λ (e : Entry). e.value),
      tree_marked node_mark m tree,
    )

-- no mark lies between an id and the nearest key
pub near_beside : (m : Blocks) (tree : PackedTree) (at : Id) (p : Part) → HasParts m tree (parts_of m tree) → IsNear true (parts_of m tree) at p
    → AllByRecursion (IsBeside (id_number at) (id_number p.key)) (tree_marks m tree)
near_beside m tree at p h near =
    let beside : Part → Type 0 = λ q. IsBeside (id_number at) (id_number p.key) (id_number q.key) in
    let each = subst (AllByRecursion (IsPart m)) near.place h.each in
    let rising = subst Rising near.place h.rising in
    let front = all_weaker (Misses true at) beside near.before (λ q less. inl less) near.passes in
    let back = all_weaker (λ (q : Part). id_number p.key < id_number q.key) beside near.after (λ q more. inr (omega (arith, more))) (keys_after m near.before near.after p each rising) in
    let mine : beside p = inr (omega arith) in
    tree_all m tree (parts_of m tree) (IsBeside (id_number at) (id_number p.key)) h (subst (AllByRecursion beside) (sym near.place) (all-append beside near.before (p ∷ near.after) front (mine, back)))

-- all marks are below an id
pub all_below : (m : Blocks) (tree : PackedTree) (at : Id) → HasParts m tree (parts_of m tree) → AllByRecursion (Misses true at) (parts_of m tree)
    → AllByRecursion (λ k. k < id_number at) (tree_marks m tree)
all_below m tree at h none = tree_all m tree (parts_of m tree) (λ k. k < id_number at) h none

-- no mark is above the greatest id's
pub all_small : (m : Blocks) (tree : PackedTree) (n : ℕ) → n + 1 ≡ 2 ^ 128 → HasParts m tree (parts_of m tree) → AllByRecursion (λ k. k < n + 1) (tree_marks m tree)
all_small m tree n last h =
    tree_all m tree (parts_of m tree) (λ k. k < n + 1) h (all_weaker (IsPart m) (λ (p : Part). id_number p.key < n + 1) (parts_of m tree) (λ p is. omega (arith, last, is.id.ms, is.id.seq)) h.each)

-- a stream over a tree whose blocks have moved
pub relocated : (m after : Blocks) (old new : Log) → IsStream m old → Moves m after old.tree new.tree → new.len ≡ old.len → new.last ≡ old.last → new.deleted ≡ old.deleted
    → new.added ≡ old.added → new.groups ≡ old.groups → new.tail ≡ None → IsRelocated m after old new
relocated m after old new is moves len last deleted added groups tail =
    let same = same_entries (parts_of m old.tree) (parts_of after new.tree) moves.same in
    record {
      is_stream = record {
        parts = moves.parts;
        counted = len ∙ is.counted ∙ sym (ap length same);
        fits = subst (λ i. IsId i) (sym last) is.fits;
        upto = subst (λ i. AreUpto i (parts_of after new.tree)) (sym last) (same_upto old.last (parts_of m old.tree) (parts_of after new.tree) moves.same is.upto);
        kept = kept_none (parts_of after new.tree) new.tail tail;
      };
      value_is = λ i. record { entries = same i; last = ((last i).ms, (last i).seq); deleted = ((deleted i).ms, (deleted i).seq); added = added i; groups = groups i };
      marks_are = moves.marks_are;
      changes = moves.changes;
    }

-- a node's key is an id
pub near_small : (m : Blocks) (tree : PackedTree) (at : Id) (p : Part) → HasParts m tree (parts_of m tree) → IsNear true (parts_of m tree) at p → id_number p.key < 2 ^ 128
near_small m tree at p h near =
    let mine = (all_back (IsPart m) near.before (p ∷ near.after) (subst (AllByRecursion (IsPart m)) near.place h.each)).0.id in
    omega (arith, mine.ms, mine.seq)
