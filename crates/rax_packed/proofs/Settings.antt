-- What another value at a key leaves: the keys, and the nodes with the least key below each.
use Rattle.std.proofs.Common.{◌≡◌, ◌∙◌, ℕ, ◌+◌, List, [], ◌∷◌, ◌++◌, length, drop, map, Option, Some, None, IfSome, unwrap_or, refl, sym, ap}
use Rattle.std.proofs.lemmas.List.{map-append}
use Rattle.std.proofs.lemmas.List.Concat.{flat_map-append}
use Rattle.blocks.specs.declared.BlockRef.{BlockRef}
use Rattle.blocks.specs.Blocks.{Blocks, Owned, with_block, bytes_at, overwritten}
use Rattle.blocks.proofs.Refs.{with_block_same}
use Rattle.rax_packed.specs.Nodes.{Leaf, IsRef, ref_bytes, node_of}
use Rattle.rax_packed.specs.Trees.{Entry, Mark, under, mark_under, first_key, entries, marks, entries_at, marks_at, refs_at, node_at, IsTreeAt, Becomes}
use Rattle.rax_packed.specs.Ways.{LeadsTo}
use Rattle.rax_packed.specs.Packed.{with_entry}
use Rattle.rax_packed.proofs.Entries.{below_links}
use Rattle.rax_packed.proofs.Frames.{LeafAt, leaf_at, leaf_node, leaf_entries, leaf_marks, inner_marks, marks_below}
use Rattle.rax_packed.proofs.Links.{revalued_bytes}
use Rattle.rax_packed.proofs.Looks.{Split, node_read}
use Rattle.rax_packed.proofs.Paths.{node_is}
use Rattle.rax_packed.proofs.Steps.{split, child, kept_block, ref_to, old_entries, step_with, step_marks, set_leaf, set_link}

-- the keys of entries
abbrev pub keys_of : List Entry → List (List ℕ)
keys_of es = map (λ (e : Entry). e.key) es

-- the first of keys
abbrev first_of : List (List ℕ) → List ℕ
first_of [] = []
first_of (k ∷ ks) = k

-- entries of the same keys have the same first one
first_same : (xs ys : List Entry) → keys_of xs ≡ keys_of ys → first_key xs ≡ first_key ys
first_same xs ys same = sym (by_keys xs) ∙ ap first_of same ∙ by_keys ys
  where
    by_keys : (es : List Entry) → first_of (keys_of es) ≡ first_key es
    by_keys [] = refl
    by_keys (e ∷ es) = refl

-- the keys behind more bytes
keys_under : (begin : List ℕ) (es : List Entry) → keys_of (map (under begin) es) ≡ map (λ k. begin ++ k) (keys_of es)
keys_under begin [] = refl
keys_under begin (e ∷ es) = ap (λ ks. (begin ++ e.key) ∷ ks) (keys_under begin es)

-- two things that hold of what there is
pub both : {X : Type 0} (r : Option X) (P Q : X → Type 0) → IfSome r P → IfSome r Q → IfSome r (λ x. P x × Q x)
both None P Q p q = tt
both (Some x) P Q p q = (p, q)

-- a leaf's value written anew
module _ (b after : Blocks) (at old value : BlockRef) (bytes key : List ℕ) (t : IsTreeAt (length key) b at) (own : Owned (refs_at (length key) b at) b) (read : b at ≡ Some bytes)
    (is : node_of bytes ≡ Leaf key old) (fits : IsRef value)
    (written : after ≡ with_block b at (Some (overwritten (bytes_at b at) (2 + length key) (ref_bytes value)))) where
  node : node_at b at ≡ Leaf key old
  node = node_read b at bytes read ∙ is

  leaf : LeafAt (length key) b at key old
  leaf = leaf_at (length key) (length key) b at key old t node

  now : LeafAt (length key) after at key value
  now = record {
    bytes = overwritten leaf.bytes (2 + length key) (ref_bytes value);
    block = ap (λ m. m at) written ∙ with_block_same b at (Some (overwritten (bytes_at b at) (2 + length key) (ref_bytes value)))
        ∙ ap (λ xs. Some (overwritten xs (2 + length key) (ref_bytes value))) (ap (λ o. unwrap_or o []) leaf.block);
    holds = revalued_bytes leaf.bytes key old value leaf.holds;
    fits = (refl, fits);
  }

  new_node : node_at after at ≡ Leaf key value
  new_node = leaf_node (length key) (length key) after at key value now

  pub leaf_marks_stay : marks_at (length key) after at ≡ marks_at (length key) b at
  leaf_marks_stay = leaf_marks (length key) after at key value new_node ∙ sym (leaf_marks (length key) b at key old node)

  pub leaf_keys_stay : keys_of (with_entry (entries_at (length key) b at) key value) ≡ keys_of (entries_at (length key) b at)
  leaf_keys_stay =
      ap keys_of (sym (set_leaf b after at old value bytes key t own read is fits written).entries_are ∙ leaf_entries (length key) after at key value new_node)
      ∙ sym (ap keys_of (leaf_entries (length key) b at key old node))

-- the value of a key that goes on by a link
module _ (b mid : Blocks) (at to : BlockRef) (bytes key : List ℕ) (place from : ℕ) (value : BlockRef) (t : IsTreeAt (length key) b at) (read : b at ≡ Some bytes)
    (leads : LeadsTo (node_of bytes) key place from to) where
  abbrev s : Split b at key place from to (length key) (length key)
  s = split b at to bytes key place from t read leads

  abbrev begin : List ℕ
  begin = s.prefix ++ s.edge ∷ []

  abbrev front : List Entry
  front = below_links s.prefix (entries (length key) b) s.before

  abbrev back : List Entry
  back = below_links s.prefix (entries (length key) b) s.after

  abbrev low : List Entry
  low = entries_at (length (drop from key)) b to

  keys_around : (es : List Entry) → keys_of (front ++ (map (under begin) es ++ back)) ≡ keys_of front ++ (map (λ k. begin ++ k) (keys_of es) ++ keys_of back)
  keys_around es =
      map-append (λ (e : Entry). e.key) front (map (under begin) es ++ back)
      ∙ ap (λ ks. keys_of front ++ ks) (map-append (λ (e : Entry). e.key) (map (under begin) es) back ∙ ap (λ ks. ks ++ keys_of back) (keys_under begin es))

  old_around : entries_at (length key) b at ≡ front ++ (map (under begin) low ++ back)
  old_around =
      old_entries b at to bytes key place from t read leads
      ∙ flat_map-append (λ l. map (under (s.prefix ++ l.edge ∷ [])) (entries (length key) b l.to)) s.before ((record { edge = s.edge; to = to }) ∷ s.after)
      ∙ ap (λ xs. front ++ (map (under begin) xs ++ back)) (sym (child b at to bytes key place from t read leads).entries_are)

  pub link_keys_stay : keys_of (with_entry low (drop from key) value) ≡ keys_of low → keys_of (with_entry (entries_at (length key) b at) key value) ≡ keys_of (entries_at (length key) b at)
  link_keys_stay same =
      ap keys_of (step_with b at to bytes key place from t read leads value) ∙ keys_around (with_entry low (drop from key) value)
      ∙ ap (λ ks. keys_of front ++ (map (λ k. begin ++ k) ks ++ keys_of back)) same ∙ sym (keys_around low) ∙ sym (ap keys_of old_around)

  abbrev marks_front : List Mark
  marks_front = marks_below s.prefix (marks (length key) b) s.before

  abbrev marks_back : List Mark
  marks_back = marks_below s.prefix (marks (length key) b) s.after

  old_marks : marks_at (length key) b at ≡ (record { least = first_key (entries_at (length key) b at); at = at })
      ∷ (marks_front ++ (map (mark_under begin) (marks_at (length (drop from key)) b to) ++ marks_back))
  old_marks =
      inner_marks (length key) b at s.prefix (s.before ++ (record { edge = s.edge; to = to }) ∷ s.after) (node_is b at to bytes key place from t read leads)
      ∙ ap (λ ms. (record { least = first_key (entries_at (length key) b at); at = at }) ∷ ms)
      (flat_map-append (λ l. map (mark_under (s.prefix ++ l.edge ∷ [])) (marks (length key) b l.to)) s.before ((record { edge = s.edge; to = to }) ∷ s.after)
      ∙ ap (λ xs. marks_front ++ (map (mark_under begin) xs ++ marks_back)) (sym (child b at to bytes key place from t read leads).marks_are))

  pub link_marks_stay : Owned (refs_at (length key) b at) b → Becomes (length (drop from key)) b mid to to (with_entry low (drop from key) value)
      → keys_of (with_entry low (drop from key) value) ≡ keys_of low
      → marks_at (length (drop from key)) mid to ≡ marks_at (length (drop from key)) b to → marks_at (length key) mid at ≡ marks_at (length key) b at
  link_marks_stay own below same low_marks =
      let es = with_entry low (drop from key) value in
      let block : mid at ≡ Some s.node.bytes = kept_block b at to bytes key place from t read leads mid (refs_at (length (drop from key)) mid to) own below.changes ∙ s.node.block in
      let whole = set_link b at to bytes key place from t read leads mid value own below in
      let first : first_key (entries_at (length key) mid at) ≡ first_key (entries_at (length key) b at) =
      first_same (entries_at (length key) mid at) (entries_at (length key) b at) (ap keys_of whole.entries_are ∙ link_keys_stay same) in
      step_marks b at to bytes key place from t read leads mid mid to es own below s.node.bytes block s.node.holds (ref_to b at to bytes key place from t read leads) (λ r h. refl)
      ∙ ap (λ k. (record { least = k; at = at }) ∷ (marks_front ++ (map (mark_under begin) (marks_at (length (drop from key)) mid to) ++ marks_back))) first
      ∙ ap (λ ms. (record { least = first_key (entries_at (length key) b at); at = at }) ∷ (marks_front ++ (map (mark_under begin) ms ++ marks_back))) low_marks
      ∙ sym old_marks
