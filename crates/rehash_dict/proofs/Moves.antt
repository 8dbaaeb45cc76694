-- An element at the head of a bucket of the older table moves to the newer one.
use Rattle.std.proofs.Common.{if◌then◌else◌, nat_lt, ◌≡◌, ℕ, zero, suc, ◌+◌, ◌-◌, ◌%◌, ◌<◌, Bool, cond, eqb, List, [], ◌∷◌, get_or, set, length, map, Option, Some, None, is_some, count_by}
use Rattle.std.proofs.Common.{refl, sym, ap, ◌∙◌, subst, arith}
use Rattle.std.proofs.lemmas.List.{get_or-set_same, get_or-set_other, length-set}
use Rattle.std.proofs.lemmas.List.Sums.{sum_by-set}
use Rattle.std.proofs.Math.Seq.{map-set_same}
use Rattle.slab.specs.Slab.{Slab, get}
use Rattle.rev_cursor.specs.Span.{times}
use Rattle.rehash_dict.specs.declared.chains.Entry.{Entry}
use Rattle.rehash_dict.specs.Tables.{bucket, without}
use Rattle.rehash_dict.specs.Table.{Element, at_item, Updates}
use Rattle.rehash_dict.specs.Placed.{Stand}
use Rattle.rehash_dict.specs.Sides.{MovesOne}
use Rattle.rehash_dict.specs.Chains.{room, element_of, entry_at, rows, IsChain, IsLinked, Links}
use Rattle.rehash_dict.proofs.Counts.{times_here, count-set, without_here, without_none}
use Rattle.rehash_dict.proofs.Stands.{flip, at_most_once, one_bucket, one_table, joins, leaves}
use Rattle.rehash_dict.proofs.Rows.{Leads, Made, made, leads_older, leads_newer, length-rows, item_at, unchanged_link}
use Rattle.rehash_dict.proofs.Edits.{joins_side, pops_side}
use Rattle.rehash_dict.proofs.Ops.{view_of, element, LinkedOne, linked_after}

abbrev one_if : Bool → ℕ
one_if b = cond b 1 0

-- a chain that begins at an entry
pub record Headed (row : List ℕ) (at : ℕ) : Type 0 where
  pub rest : List ℕ
  pub is : row ≡ at ∷ rest

-- a number less in a list of items
pub vacated : {V : Type 0} (items : List (Option (Element V))) (at : ℕ) (e : Element V) → at_item items at ≡ Some e → Updates items (set items at None) at None
    × (count_by is_some (set items at None) + 1 ≡ count_by is_some items)
vacated {V} items at e found =
    let lt : at < length items = inside items at found in (
      record { changed = get_or-set_same items at None None lt; others = λ i ne. get_or-set_other items at i None None ne },
      (let was : one_if (is_some (get_or items at None)) ≡ 1 = ap (λ (o : Option (Element V)). one_if (is_some o)) found in
          omega (arith, sum_by-set (λ (o : Option (Element V)). one_if (is_some o)) items at None None lt)),
    )
  where
    inside : (xs : List (Option (Element V))) (i : ℕ) → at_item xs i ≡ Some e → i < length xs
    inside [] i h = cc
    inside (x ∷ xs) zero h = omega arith
    inside (x ∷ xs) (suc i) h = (let k : i < length xs = inside xs i h in omega arith)

module _ {V : Type 0} where
  pub headed : (slots : List (Option (Entry V))) (link at : ℕ) (row : List ℕ) → IsChain slots link row → link ≡ suc at → Headed row at
  headed slots link at [] c h = absurd (omega arith)
  headed slots link at (i ∷ rest) c h = (let same : i ≡ at = omega (arith, c.0) in record { rest = rest; is = ap (λ n. n ∷ rest) same })

  pub no_chain : (slots : List (Option (Entry V))) (link : ℕ) (row : List ℕ) → IsChain slots link row → ((at : ℕ) → link ≡ suc at → entry_at slots at ≡ None) → row ≡ []
  no_chain slots link [] c h = refl
  no_chain slots link (i ∷ rest) c h = (let none : entry_at slots i ≡ None = h i c.0 in cc (c.2, none))

  module _ (s0 s2 : Slab (Entry V)) (older newer after : List ℕ) (waiting at number : ℕ) (e : Entry V) (l : IsLinked s0.slots older newer waiting) (found : get s0 at ≡ Some e)
      (head : get_or older number 0 ≡ suc at) (lt : number < length older) (some : 0 < length newer) (k : Links s0 newer at s2 after) where
    abbrev pub older_rows : List (List ℕ)
    older_rows = rows s0.slots older

    abbrev pub newer_rows : List (List ℕ)
    newer_rows = rows s0.slots newer

    pub top : Headed (bucket (rows s0.slots older) number) at
    top = headed s0.slots (get_or older number 0) at (bucket (rows s0.slots older) number) (l.ends_older number lt) head

    linked : LinkedOne s0.slots s2.slots newer after at e
    linked = linked_after s0 s0 s2 newer after at e (record { changed = found; others = λ i ne. refl }) k

    pub same_items : map element_of s2.slots ≡ map element_of s0.slots
    same_items =
        let same : k.entry ≡ e = (let q : Some k.entry ≡ Some e = sym k.found ∙ found in cc) in
        ap (map element_of) k.slots ∙ map-set_same element_of s0.slots at _ None (sym (ap element_of k.found))

    inside : number < length older_rows
    inside = omega (arith, length-rows s0.slots older)

    here : 0 < times at (bucket older_rows number)
    here = omega (arith, ap (times at) top.is, times_here at top.rest)

    alone : times at top.rest ≡ 0
    alone = omega (arith, ap (times at) top.is, times_here at top.rest, at_most_once (map element_of s0.slots) older_rows newer_rows number at l.stand)

    is_rest : without eqb at (bucket older_rows number) ≡ top.rest
    is_rest = ap (without eqb at) top.is ∙ without_here at top.rest ∙ without_none at top.rest alone

    spot : ℕ
    spot = e.hash % length newer

    pub rows_moved : Made s2.slots (set older number e.next) after (waiting - 1) (set older_rows number top.rest)
        (set newer_rows (e.hash % length newer) (at ∷ bucket newer_rows (e.hash % length newer)))
    rows_moved =
        let items : List (Option (Element V)) = map element_of s0.slots in
        let gone = vacated items at (element e) (item_at s0.slots at ∙ ap element_of found) in
        let left : Stand (set items at None) (set older_rows number top.rest) newer_rows
        = subst (λ r. Stand (set items at None) (set older_rows number r) newer_rows) is_rest
        (leaves items (set items at None) older_rows newer_rows at number l.stand here gone.0 inside gone.1) in
        let back : Updates (set items at None) (map element_of s2.slots) at (Some (element e))
        = record {
          changed = item_at s2.slots at ∙ ap element_of linked.one.now;
          others = λ i ne. item_at s2.slots i ∙ ap element_of (linked.one.others i ne) ∙ sym (item_at s0.slots i)
              ∙ sym (gone.0.others i ne);
        } in
        let at_spot : e.hash % length newer_rows ≡ e.hash % length newer = ap (λ n. e.hash % n) (length-rows s0.slots newer) in
        let fits : e.hash % length newer < length newer_rows = omega (arith, length-rows s0.slots newer) in
        let joined : Stand (map element_of s2.slots) (set newer_rows (e.hash % length newer) (at ∷ bucket newer_rows (e.hash % length newer))) (set older_rows number top.rest)
        = joins (set items at None) (map element_of s2.slots) newer_rows (set older_rows number top.rest) at (e.hash % length newer) (element e) (flip _ _ _ left) gone.0.changed back at_spot fits
        (ap (count_by is_some) same_items ∙ sym gone.1) in
        let lt_newer : e.hash % length newer < length newer = omega arith in
        made s2.slots (set older number e.next) after (waiting - 1) _ _
        (pops_side s0.slots s2.slots older older_rows at number top.rest e (leads_older s0.slots older newer waiting l)
        (λ i ne. unchanged_link s0.slots s2.slots i (linked.one.others i ne)) found top.is alone (λ j ne. one_bucket items older_rows newer_rows number j at l.stand here ne) lt)
        (subst (λ h. Leads s2.slots h (set newer_rows (e.hash % length newer) (at ∷ bucket newer_rows (e.hash % length newer)))) (sym linked.heads_are)
        (joins_side s0.slots s2.slots newer newer_rows at (e.hash % length newer) _ (leads_newer s0.slots older newer waiting l) linked.one
        (λ j. one_table items older_rows newer_rows number j at l.stand here) refl lt_newer))
        (flip _ _ _ joined)
        (omega (arith, l.waits, count-set older_rows number top.rest inside, ap length top.is))

    pub moves_one : MovesOne (view_of s0.slots older newer (room s0)) (view_of s2.slots (set older number e.next) after (room s2)) number
    moves_one = record {
      at = at;
      rest = top.rest;
      first = top.is;
      older = rows_moved.older_rows;
      newer = λ hash agrees.
          let mine : hash at ≡ e.hash = agrees at (element e) (item_at s0.slots at ∙ ap element_of found) in
          rows_moved.newer_rows ∙ ap (λ n. set newer_rows n (at ∷ bucket newer_rows n)) (ap (λ n. e.hash % n) (sym (length-rows s0.slots newer)) ∙ ap (λ n. n % length newer_rows) (sym mine));
      many = ap length rows_moved.newer_rows ∙ length-set newer_rows (e.hash % length newer) (at ∷ bucket newer_rows (e.hash % length newer));
      items = same_items;
      capacity = ap (λ n. if nat_lt n 4294967295 then s2.capacity else 0) k.vacant ∙ ap (λ n. if nat_lt s0.vacant_key 4294967295 then n else 0) k.capacity;
      stand = rows_moved.linked.stand;
    }
