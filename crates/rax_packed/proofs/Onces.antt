-- A key stands in a tree once.
use Rattle.std.proofs.Common.{◌≡◌, ◌∙◌, ℕ, suc, ◌+◌, cond, List, [], ◌∷◌, ◌++◌, length, drop, map, Some, None, refl, sym, ap, arith, length-append}
use Rattle.std.proofs.lemmas.List.{length-map}
use Rattle.std.specs.List.{filter}
use Rattle.std.proofs.lemmas.List.Concat.{flat_map-append}
use Rattle.std.specs.Ordering.{is_lt, is_gt, is_ne}
use Rattle.std.specs.declared.cmp.Ordering.{Ordering}
use Rattle.std.specs.declared.cmp.Ordering.TheVariants.{Less, Equal, Greater}
use Rattle.blocks.specs.declared.BlockRef.{BlockRef}
use Rattle.blocks.specs.Blocks.{Blocks}
use Rattle.rax_packed.specs.Nodes.{Link, Leaf, node_of}
use Rattle.rax_packed.specs.Trees.{Entry, under, entries, entries_at, IsTreeAt}
use Rattle.rax_packed.specs.Ways.{LeadsTo}
use Rattle.rax_packed.specs.Packed.{order, value_at, with_entry, without}
use Rattle.rax_packed.proofs.Cuts.{cut_leaf}
use Rattle.rax_packed.proofs.Entries.{below_links}
use Rattle.rax_packed.proofs.Frames.{leaf_entries}
use Rattle.rax_packed.proofs.Looks.{node_read}
use Rattle.rax_packed.proofs.Roots.{without_missing}
use Rattle.rax_packed.proofs.Steps.{split, child, old_entries, step_without}

-- with a value at the key there is one entry more than without the key
pub with_without : (es : List Entry) (key : List ℕ) (value : BlockRef) → length (with_entry es key value) ≡ suc (length (without es key))
unfolding with_entry without
with_without es key value =
    let sides = count es in
    omega (arith, length-append (filter (λ e. is_lt (order e.key key)) es) ((record { key = key; value = value }) ∷ filter (λ e. is_gt (order e.key key)) es), sides)
  where
    step : (o : Ordering) (e : Entry) (ls gs ns : List Entry) → length ls + length gs ≡ length ns
        → length (cond (is_lt o) (e ∷ ls) ls) + length (cond (is_gt o) (e ∷ gs) gs) ≡ length (cond (is_ne o) (e ∷ ns) ns)
    step Less e ls gs ns h = omega (arith, h)
    step Equal e ls gs ns h = h
    step Greater e ls gs ns h = omega (arith, h)

    count : (xs : List Entry) → length (filter (λ e. is_lt (order e.key key)) xs) + length (filter (λ e. is_gt (order e.key key)) xs) ≡ length (filter (λ e. is_ne (order e.key key)) xs)
    count [] = refl
    count (x ∷ xs) = step (order x.key key) x (filter (λ e. is_lt (order e.key key)) xs) (filter (λ e. is_gt (order e.key key)) xs) (filter (λ e. is_ne (order e.key key)) xs) (count xs)

-- a key that is missing makes one entry more
pub with_missing : (es : List Entry) (key : List ℕ) (value : BlockRef) → value_at es key ≡ None → length (with_entry es key value) ≡ suc (length es)
with_missing es key value missing = with_without es key value ∙ ap (λ xs. suc (length xs)) (without_missing key es missing)

-- a leaf has the key once
pub leaf_once : (b : Blocks) (at value : BlockRef) (bytes key : List ℕ) → b at ≡ Some bytes → node_of bytes ≡ Leaf key value
    → suc (length (without (entries_at (length key) b at) key)) ≡ length (entries_at (length key) b at)
leaf_once b at value bytes key read is =
    let none = cut_leaf b at value bytes key read is in
    let one = leaf_entries (length key) b at key value (node_read b at bytes read ∙ is) in
    omega (arith, ap length none, ap length one)

-- what has the key's rest once below the key's link has the key once
pub link_once : (b : Blocks) (at to : BlockRef) (bytes key : List ℕ) (place from : ℕ) (t : IsTreeAt (length key) b at) (read : b at ≡ Some bytes) (leads : LeadsTo (node_of bytes) key place from to)
    → suc (length (without (entries_at (length (drop from key)) b to) (drop from key))) ≡ length (entries_at (length (drop from key)) b to)
    → suc (length (without (entries_at (length key) b at) key)) ≡ length (entries_at (length key) b at)
link_once b at to bytes key place from t read leads below =
    let s = split b at to bytes key place from t read leads in
    let link : Link = record { edge = s.edge; to = to } in
    let f : Link → List Entry = λ l. map (under (s.prefix ++ l.edge ∷ [])) (entries (length key) b l.to) in
    let front = below_links s.prefix (entries (length key) b) s.before in
    let back = below_links s.prefix (entries (length key) b) s.after in
    let left = without (entries_at (length (drop from key)) b to) (drop from key) in
    let es = entries_at (length (drop from key)) b to in
    let low = map (under (s.prefix ++ s.edge ∷ [])) left in
    let mine = map (under (s.prefix ++ s.edge ∷ [])) (entries (length key) b to) in
    let without_is = step_without b at to bytes key place from t read leads in
    let with_is = old_entries b at to bytes key place from t read leads ∙ flat_map-append f s.before (link ∷ s.after) in
    let same : length (entries (length key) b to) ≡ length es = ap length (sym (child b at to bytes key place from t read leads).entries_are) in
    omega (
      arith,
      below,
      same,
      ap length without_is,
      ap length with_is,
      length-append front (low ++ back),
      length-append low back,
      length-append front (mine ++ back),
      length-append mine
          back,
      length-map left (under (s.prefix ++ s.edge ∷ [])),
      length-map (entries (length key) b to) (under (s.prefix ++ s.edge ∷ [])),
    )
