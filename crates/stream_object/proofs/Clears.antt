-- Nodes taken out one after the other, and streams that stay.
use Rattle.std.proofs.Common.{◌+◌, ◌≡◌, ◌∙◌, ℕ, unwrap_or, ◌<◌, List, [], ◌∷◌, ◌++◌, length, map, Option, refl, sym, ap, subst, arith, length-append}
use Rattle.std.specs.Prelude.{true}
use Rattle.std.specs.List.{AllByRecursion}
use Rattle.std.proofs.lemmas.List.{append-nil, length-map}
use Rattle.blocks.specs.declared.BlockRef.{BlockRef}
use Rattle.blocks.specs.Blocks.{Blocks, times, IsIn, Changes, Owned}
use Rattle.blocks.proofs.Times.{times-append}
use Rattle.blocks.proofs.Change.{one, one_if, live_once, changes_same, changes_then, owned_others}
use Rattle.blocks.proofs.Refs.{ref_eq_refl}
use Rattle.stream_node.specs.declared.id.Id.{Id}
use Rattle.stream_node.specs.Ids.{id_number, key_id}
use Rattle.rax_packed.specs.declared.tree.PackedTree.{PackedTree}
use Rattle.rax_packed.specs.Trees.{Entry, Mark}
use Rattle.rax_packed.specs.Laws.{Stays as TreeStays}
use Rattle.rax_packed.specs.Maps as rax
use Rattle.rax_packed.proofs.Depends.{packed_laws_hold, still_owned}
use Rattle.rax_packed.proofs.Marked.{tree_marked}
use Rattle.stream_object.specs.declared.stream.Stream.{Stream as Log}
use Rattle.stream_object.specs.Parts.{Part, part_of, entries_in, refs_of, parts_of, all_refs, HasParts}
use Rattle.stream_object.specs.Found.{Misses, Exchanges}
use Rattle.stream_object.specs.Streams.{IsStream, AreUpto, nodes, refs, marks as all_marks}
use Rattle.stream_object.specs.Laws.{Stays, StreamLaws}
use Rattle.stream_object.specs.Tail.{IsKept}
use Rattle.stream_object.proofs.Parts.{parts_are, its_own, refs_are, parts_stay}

pub exchanges_none : (m : Blocks) (tree : PackedTree) (ps : List Part) → HasParts m tree ps → Exchanges m m tree tree ps
exchanges_none m tree ps h = record { parts = h; changes = subst (λ rs. Changes m m rs rs) (sym (refs_are m tree ps h)) (changes_same m (rax.refs_of m tree ++ refs_of ps) h.owned) }

pub exchanges_then : (a b c : Blocks) (old mid new : PackedTree) (ps qs : List Part) → Exchanges a b old mid ps → Exchanges b c mid new qs → Exchanges a c old new qs
exchanges_then a b c old mid new ps qs x y = record { parts = y.parts; changes = changes_then a b c (all_refs a old) (all_refs b mid) (all_refs c new) x.changes y.changes }

-- no key is below the least id
pub none_below : (low : Id) → low.ms ≡ 0 → low.seq ≡ 0 → (ps : List Part) → AllByRecursion (Misses true low) ps → ps ≡ []
none_below low a b [] miss = refl
none_below low a b (p ∷ ps) miss = absurd (omega (arith, a, b, miss.0))

-- with its nodes gone, a tree has its own alone
pub all_released : (m mid after : Blocks) (old new : PackedTree) → Exchanges m mid old new [] → Changes mid after (rax.refs_of mid new) [] → Changes m after (all_refs m old) []
all_released m mid after old new x last =
    let same : all_refs mid new ≡ rax.refs_of mid new ++ [] = refs_are mid new [] x.parts in
    let more : Changes m mid (all_refs m old) (rax.refs_of mid new) = subst (Changes m mid (all_refs m old)) (same ∙ append-nil (rax.refs_of mid new)) x.changes in
    changes_then m mid after (all_refs m old) (rax.refs_of mid new) [] more last

pub fewer_parts : (m : Blocks) (tree : PackedTree) (ps before after : List Part) (p : Part) → HasParts m tree (before ++ after) → ps ≡ before ++ p ∷ after → length (parts_of m tree) < length ps
fewer_parts m tree ps before after p h place = omega (arith, ap length (parts_are m tree (before ++ after) h), ap length place, length-append before after, length-append before (p ∷ after))

-- streams over a store that keeps their blocks
module _ (a b : Blocks) (s : Log) (same : (r : BlockRef) → IsIn r (refs a s) → b r ≡ a r) where
  tree_same : TreeStays a b s.tree
  unfolding all_refs
  tree_same = packed_laws_hold.own a b s.tree (λ r isin. same r (omega (arith, isin, times-append r (rax.refs_of a s.tree) (map (λ (e : Entry). e.value) (rax.entries_of a s.tree)))))

  same_node : (r : BlockRef) → IsIn r (map (λ (e : Entry). e.value) (rax.entries_of a s.tree)) → b r ≡ a r
  unfolding all_refs
  same_node r isin = same r (omega (arith, isin, times-append r (rax.refs_of a s.tree) (map (λ (e : Entry). e.value) (rax.entries_of a s.tree))))

  read_same : (es : List Entry) → ((r : BlockRef) → IsIn r (map (λ (e : Entry). e.value) es) → b r ≡ a r) → map (part_of b) es ≡ map (part_of a) es
  read_same [] h = refl
  read_same (e ∷ es) h =
      let counted : one e.value e.value ≡ 1 = ap one_if (ref_eq_refl e.value) in
      let here : b e.value ≡ a e.value = h e.value (omega (arith, counted)) in
      λ i. record { key = key_id e.key; at = e.value; bytes = ap (λ (o : Option (List ℕ)). unwrap_or o []) here i } ∷ read_same es (λ r isin. h r (omega (arith, isin))) i

  pub parts_same : parts_of b s.tree ≡ parts_of a s.tree
  unfolding parts_of
  parts_same = ap (map (part_of b)) tree_same.entries_are ∙ read_same (rax.entries_of a s.tree) same_node

  refs_same : refs b s ≡ refs a s
  unfolding all_refs
  refs_same = λ i. tree_same.refs_are i ++ map (λ (e : Entry). e.value) (tree_same.entries_are i)

  sound_same : IsStream a s → IsStream b s
  sound_same is =
      let h = is.parts in
      let ps = parts_of a s.tree in
      let all = refs_are a s.tree ps h in
      let each = parts_stay a b ps (λ r isin. same r (omega (arith, isin, ap (times r) all, times-append r (rax.refs_of a s.tree) (refs_of ps)))) h.each in
      let now : HasParts b s.tree ps = record {
        stands = tree_same.sound h.stands;
        named = tree_same.entries_are ∙ h.named;
        each = each;
        rising = h.rising;
        owned = subst (λ rs. Owned (rs ++ refs_of ps) b) (sym tree_same.refs_are)
            (still_owned a b (rax.refs_of a s.tree ++ refs_of ps) (λ r isin. same r (omega (arith, isin, ap (times r) all))) h.owned);
      } in
      record {
        parts = its_own b s.tree ps now;
        counted = is.counted ∙ ap (λ qs. length (entries_in qs)) (sym parts_same);
        fits = is.fits;
        upto = subst (AreUpto s.last) (sym parts_same) is.upto;
        kept = subst (λ qs. IsKept qs s.tail) (sym parts_same) is.kept;
      }

  pub stays : Stays a b s
  stays = record {
    value_is = λ i. record { entries = entries_in (parts_same i); last = (s.last.ms, s.last.seq); deleted = (s.deleted.ms, s.deleted.seq); added = s.added; groups = s.groups };
    refs_are = refs_same;
    marks_are = λ i. map (λ (n : Mark). id_number (key_id n.least)) (tree_same.marks_are i) ++ map (λ (e : Entry). id_number (key_id e.key)) (tree_same.entries_are i);
    sound = sound_same;
  }

beside : (a b : Blocks) (own old new : List BlockRef) → Owned (own ++ old) a → Changes a b old new → (r : BlockRef) → IsIn r own → b r ≡ a r
beside a b own old new o p r isin =
    owned_others a b old new (own ++ old) o p r (omega (arith, isin, times-append r own old)) (omega (arith, isin, o r, times-append r own old, live_once a r))

marked : (m : Blocks) (s : Log) → length (all_marks m s) ≡ length (refs m s)
unfolding all_refs
marked m s =
    let number : Mark → ℕ = λ (n : Mark). id_number (key_id n.least) in
    let key : Entry → ℕ = λ (e : Entry). id_number (key_id e.key) in
    omega (
      arith,
      length-append (map number (rax.marks_of m s.tree)) (map key (rax.entries_of m s.tree)),
      length-append (rax.refs_of m s.tree) (map (λ (e : Entry). e.value) (rax.entries_of m s.tree)),
      length-map (rax.entries_of m s.tree) key,
      length-map (rax.entries_of m s.tree) (λ (e : Entry). e.value),
      tree_marked number m s.tree,
    )

-- the marks are those of the tree's nodes, and of the stream's own
pub units_are : (m : Blocks) (s : Log) → length (all_marks m s) ≡ length (rax.refs_of m s.tree) + length (rax.entries_of m s.tree)
units_are m s =
    let number : Mark → ℕ = λ (n : Mark). id_number (key_id n.least) in
    let key : Entry → ℕ = λ (e : Entry). id_number (key_id e.key) in
    omega (
      arith,
      length-append (map number (rax.marks_of m s.tree)) (map key (rax.entries_of m s.tree)),
      length-map (rax.entries_of m s.tree) key,
      tree_marked number m s.tree,
    )

pub stream_laws_hold : StreamLaws
stream_laws_hold = record {
  own = stays;
  others = λ a b s old new o p. stays a b s (beside a b (refs a s) old new o p);
  owned = λ m s is. subst (λ rs. Owned rs m) (sym (refs_are m s.tree (nodes m s) is.parts)) is.parts.owned;
  marked = marked;
  regrouped = λ m s groups is. record { parts = is.parts; counted = is.counted; fits = is.fits; upto = is.upto; kept = is.kept };
  remarked = λ m s last deleted added is fits upto. record { parts = is.parts; counted = is.counted; fits = fits; upto = upto; kept = is.kept };
}
