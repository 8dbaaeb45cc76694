-- What becomes of a tree where what a link names has changed.
use Rattle.std.proofs.Common.{◌≡◌, ◌∙◌, ℕ, suc, ◌+◌, ◌-◌, ◌<◌, false, cond, List, [], ◌∷◌, ◌++◌, length, map, Some, IsSome, is_some, refl, sym, ap, subst, inl, inr, arith}
use Rattle.std.specs.List.{AllByRecursion}
use Rattle.std.proofs.lemmas.List.Concat.{flat_map-append}
use Rattle.std.proofs.lemmas.Bool.{cond-true}
use Rattle.blocks.specs.declared.BlockRef.{BlockRef}
use Rattle.blocks.specs.Blocks.{Blocks, ref_eq, live, times, IsIn, IsOut, Changes, Owned}
use Rattle.blocks.proofs.Times.{times-append}
use Rattle.blocks.proofs.Refs.{ref_eq_refl, cases_ref}
use Rattle.blocks.proofs.Change.{one, live_once, live_some, other_than, Counts, counts_then, counts_beside, counts_changed, changes_counted, changes_owned, owned_others}
use Rattle.rax_packed.specs.Nodes.{Link, Inner, HoldsNode, IsInner}
use Rattle.rax_packed.specs.Trees.{Entry, Mark, under, mark_under, entries, refs, marks, first_key, IsTree}
use Rattle.rax_packed.proofs.Entries.{below_links, all_front, all_back, all-append}
use Rattle.rax_packed.proofs.Frames.{refs_below, marks_below, inner_marks, SameBelow, same_below, InnerAt, inner_node, inner_tree, inner_entries, inner_refs}

-- all that an inner node owns, by its links
unfoldable pub owned_by : BlockRef → List BlockRef → List BlockRef → List BlockRef → List BlockRef
owned_by at before middle after = at ∷ (before ++ (middle ++ after))

pub times_owned_by : (r at : BlockRef) (xs ys zs : List BlockRef) → times r (owned_by at xs ys zs) ≡ one r at + (times r xs + (times r ys + times r zs))
unfolding owned_by
times_owned_by r at xs ys zs = omega (arith, times-append r xs (ys ++ zs), times-append r ys zs)

pub three_refs : (n : ℕ) (b : Blocks) (at : BlockRef) (before middle after : List Link) → at
    ∷ refs_below n b (before ++ (middle ++ after)) ≡ owned_by at (refs_below n b before) (refs_below n b middle) (refs_below n b after)
unfolding owned_by
three_refs n b at before middle after = ap (λ xs. at ∷ xs)
    (flat_map-append (λ l. refs n b l.to) before (middle ++ after) ∙ ap (λ xs. refs_below n b before ++ xs) (flat_map-append (λ l. refs n b l.to) middle after))

pub three_entries : (prefix : List ℕ) (n : ℕ) (b : Blocks) (before middle after : List Link)
    → below_links prefix (entries n b) (before ++ (middle ++ after)) ≡ below_links prefix (entries n b) before
    ++ (below_links prefix (entries n b) middle ++ below_links prefix (entries n b) after)
three_entries prefix n b before middle after =
    let f : Link → List Entry = λ l. map (under (prefix ++ l.edge ∷ [])) (entries n b l.to) in
    flat_map-append f before (middle ++ after) ∙ ap (λ xs. below_links prefix (entries n b) before ++ xs) (flat_map-append f middle after)

pub three_marks : (prefix : List ℕ) (n : ℕ) (b : Blocks) (before middle after : List Link)
    → marks_below prefix (marks n b) (before ++ (middle ++ after)) ≡ marks_below prefix (marks n b) before
    ++ (marks_below prefix (marks n b) middle ++ marks_below prefix (marks n b) after)
three_marks prefix n b before middle after =
    let f : Link → List Mark = λ l. map (mark_under (prefix ++ l.edge ∷ [])) (marks n b l.to) in
    flat_map-append f before (middle ++ after) ∙ ap (λ xs. marks_below prefix (marks n b) before ++ xs) (flat_map-append f middle after)

-- What a node's links name has changed from one list of links to another, and the node's block tells them now.
pub record IsGraft (n rest : ℕ) (b mid later : Blocks) (at : BlockRef) (prefix : List ℕ) (before old new after : List Link) : Type 0 where
  pub node : InnerAt n rest b at prefix (before ++ (old ++ after))
  pub own : Owned (refs (suc n) b at) b
  pub below : Changes b mid (refs_below n b old) (refs_below n mid new)
  pub trees : AllByRecursion (λ l. IsTree n (rest - suc (length prefix)) mid l.to) new
  pub bytes : List ℕ
  pub block : later at ≡ Some bytes
  pub holds : HoldsNode bytes (Inner prefix (before ++ (new ++ after)))
  pub inner : IsInner rest prefix (before ++ (new ++ after))
  pub others : (r : BlockRef) → ref_eq r at ≡ false → later r ≡ mid r

pub record Grafted (n rest : ℕ) (b mid later : Blocks) (at : BlockRef) (prefix : List ℕ) (before new after : List Link) : Type 0 where
  pub tree : IsTree (suc n) rest later at
  pub entries_are : entries (suc n) later at ≡ below_links prefix (entries n b) before ++ (below_links prefix (entries n mid) new ++ below_links prefix (entries n b) after)
  pub changes : Changes b later (refs (suc n) b at) (refs (suc n) later at)
  pub marks_are : marks (suc n) later at ≡ (record { least = first_key (entries (suc n) later at); at = at })
      ∷ (marks_below prefix (marks n b) before ++ (marks_below prefix (marks n mid) new ++ marks_below prefix (marks n b) after))

module _ (n rest : ℕ) (b mid later : Blocks) (at : BlockRef) (prefix : List ℕ) (before old new after : List Link) (g : IsGraft n rest b mid later at prefix before old new after) where
  all : List BlockRef
  all = owned_by at (refs_below n b before) (refs_below n b old) (refs_below n b after)

  left : List BlockRef
  left = owned_by at (refs_below n b before) (refs_below n mid new) (refs_below n b after)

  here : one at at ≡ 1
  here = cond-true _ _ _ (ref_eq_refl at)

  refs_are : refs (suc n) b at ≡ all
  unfolding all
  refs_are = inner_refs n b at prefix (before ++ (old ++ after)) (inner_node n rest b at prefix (before ++ (old ++ after)) g.node) ∙ three_refs n b at before old after

  own : Owned all b
  own = subst (λ xs. Owned xs b) refs_are g.own

  -- how often a reference stands in each
  in_all : (r : BlockRef) → times r all ≡ one r at + (times r (refs_below n b before) + (times r (refs_below n b old) + times r (refs_below n b after)))
  unfolding all
  in_all r = times_owned_by r at (refs_below n b before) (refs_below n b old) (refs_below n b after)

  in_left : (r : BlockRef) → times r left ≡ one r at + (times r (refs_below n b before) + (times r (refs_below n mid new) + times r (refs_below n b after)))
  unfolding left
  in_left r = times_owned_by r at (refs_below n b before) (refs_below n mid new) (refs_below n b after)

  part : Owned (refs_below n b old) b
  part r = omega (arith, own r, in_all r)

  first : Counts b mid all left
  first = counts_beside b mid (refs_below n b old) (refs_below n mid new) all left (counts_changed b mid (refs_below n b old) (refs_below n mid new) part g.below)
      (λ r. one r at + (times r (refs_below n b before) + times r (refs_below n b after))) (λ r. omega (arith, in_all r)) (λ r. omega (arith, in_left r))

  own_left : Owned left mid
  own_left = changes_owned b mid all left (changes_counted b mid all left own first)

  -- other owners' blocks are as they were in between
  kept_mid : (r : BlockRef) → 0 < times r all → IsOut r (refs_below n b old) → mid r ≡ b r
  kept_mid r is out = owned_others b mid (refs_below n b old) (refs_below n mid new) all own g.below r is out

  kept_before : (r : BlockRef) → IsIn r (refs_below n b before) → later r ≡ b r
  kept_before r is =
      g.others r (other_than r at (omega (arith, own r, in_all r, live_once b r, is))) ∙ kept_mid r (omega (arith, in_all r, is)) (omega (arith, own r, in_all r, live_once b r, is))

  kept_after : (r : BlockRef) → IsIn r (refs_below n b after) → later r ≡ b r
  kept_after r is =
      g.others r (other_than r at (omega (arith, own r, in_all r, live_once b r, is))) ∙ kept_mid r (omega (arith, in_all r, is)) (omega (arith, own r, in_all r, live_once b r, is))

  kept_new : (r : BlockRef) → IsIn r (refs_below n mid new) → later r ≡ mid r
  kept_new r is = g.others r (other_than r at (omega (arith, own_left r, in_left r, live_once mid r, is)))

  same_before : SameBelow n b later before
  same_before = same_below n b later before kept_before

  same_after : SameBelow n b later after
  same_after = same_below n b later after kept_after

  same_new : SameBelow n mid later new
  same_new = same_below n mid later new kept_new

  at_live : live mid at ≡ 1
  at_live =
      let stands : live b at ≡ 1 = live_some b at (subst (λ o. IsSome o) (sym g.node.block) refl) in
      let same : mid at ≡ b at = kept_mid at (omega (arith, in_all at, here)) (omega (arith, own at, in_all at, live_once b at, here)) in
      ap (λ o. cond (is_some o) 1 0) same ∙ stands

  same_live : (r : BlockRef) → live later r ≡ live mid r
  same_live r = elim (cases_ref r at) [
    | inl same ↦ subst (λ q. live later q ≡ live mid q) (sym same) (live_some later at (subst (λ o. IsSome o) (sym g.block) refl) ∙ sym at_live)
    | inr other ↦ ap (λ o. cond (is_some o) 1 0) (g.others r other)
  ]

  second : Counts mid later left left
  second = record { balance = λ r. omega (arith, same_live r); kept = λ r a c. g.others r (other_than r at (omega (arith, in_left r, a))) }

  now_trees : AllByRecursion (λ l. IsTree n (rest - suc (length prefix)) later l.to) (before ++ (new ++ after))
  now_trees =
      let P : Link → Type 0 = λ l. IsTree n (rest - suc (length prefix)) b l.to in
      let Q : Link → Type 0 = λ l. IsTree n (rest - suc (length prefix)) later l.to in
      let tail : AllByRecursion P (old ++ after) = all_back P before (old ++ after) g.node.below in
      all-append Q before (new ++ after) (same_before.trees (rest - suc (length prefix)) (all_front P before (old ++ after) g.node.below))
      (all-append Q new after (same_new.trees (rest - suc (length prefix)) g.trees) (same_after.trees (rest - suc (length prefix)) (all_back P old after tail)))

  now : InnerAt n rest later at prefix (before ++ (new ++ after))
  now = record { bytes = g.bytes; block = g.block; holds = g.holds; inner = g.inner; below = now_trees }

  now_refs : refs (suc n) later at ≡ left
  unfolding left owned_by
  now_refs =
      inner_refs n later at prefix (before ++ (new ++ after)) (inner_node n rest later at prefix (before ++ (new ++ after)) now) ∙ three_refs n later at before new after
      ∙ ap (λ xs. at ∷ (xs ++ (refs_below n later new ++ refs_below n later after))) same_before.refs_are
      ∙ ap (λ xs. at ∷ (refs_below n b before ++ (xs ++ refs_below n later after))) same_new.refs_are
      ∙ ap (λ xs. at ∷ (refs_below n b before ++ (refs_below n mid new ++ xs))) same_after.refs_are

  pub grafted : Grafted n rest b mid later at prefix before new after
  grafted = record {
    tree = inner_tree n rest later at prefix (before ++ (new ++ after)) now;
    entries_are = inner_entries n later at prefix (before ++ (new ++ after)) (inner_node n rest later at prefix (before ++ (new ++ after)) now) ∙ three_entries prefix n later before new after
        ∙ ap (λ xs. xs ++ (below_links prefix (entries n later) new ++ below_links prefix (entries n later) after)) (same_before.entries_are prefix)
        ∙ ap (λ xs. below_links prefix (entries n b) before ++ (xs ++ below_links prefix (entries n later) after)) (same_new.entries_are prefix)
        ∙ ap (λ xs. below_links prefix (entries n b) before ++ (below_links prefix (entries n mid) new ++ xs)) (same_after.entries_are prefix);
    marks_are = inner_marks n later at prefix (before ++ (new ++ after)) (inner_node n rest later at prefix (before ++ (new ++ after)) now)
        ∙ ap (λ ms. (record { least = first_key (entries (suc n) later at); at = at }) ∷ ms)
        (three_marks prefix n later before new after
        ∙ ap (λ xs. xs ++ (marks_below prefix (marks n later) new ++ marks_below prefix (marks n later) after)) (same_before.marks_are prefix)
        ∙ ap (λ xs. marks_below prefix (marks n b) before ++ (xs ++ marks_below prefix (marks n later) after)) (same_new.marks_are prefix)
        ∙ ap (λ xs. marks_below prefix (marks n b) before ++ (marks_below prefix (marks n mid) new ++ xs)) (same_after.marks_are prefix));
    changes = changes_counted b later (refs (suc n) b at) (refs (suc n) later at) g.own
        (subst (λ xs. Counts b later xs (refs (suc n) later at)) (sym refs_are) (subst (Counts b later all) (sym now_refs) (counts_then b mid later all left left first second)));
  }
