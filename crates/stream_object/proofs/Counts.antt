-- A pass over the keys of a stream's tree: what it has counted, by the marks of the blocks.
use Rattle.std.proofs.Common.{◌≡◌, ◌∙◌, ℕ, suc, ◌+◌, ◌-◌, ◌<◌, ◌≤◌, Bool, true, false, cond, List, [], ◌∷◌, map, Option, Some, None, refl, sym, ap, subst, inl, inr, arith}
use Rattle.std.specs.Prelude.{not, ◌&&◌, nat_le, count_by, IfSome}
use Rattle.std.specs.List.{AllByRecursion, sum_by}
use Rattle.std.specs.Ordering.{is_lt, nat_cmp}
use Rattle.std.proofs.lemmas.Bool.{cases_lt, cond-true, cond-false, lt-ltb, le-ltb}
use Rattle.std.proofs.lemmas.Bool.Decides.{nat_tests}
use Rattle.std.proofs.lemmas.List.Sums.{sum_by-cons}
use Rattle.blocks.specs.declared.Moved.{Moved}
use Rattle.blocks.specs.Blocks.{Blocks}
use Rattle.collection_walk.specs.Marks.{is_passed}
use Rattle.stream_node.specs.declared.id.Id.{Id}
use Rattle.stream_node.specs.Ids.{IsId, id_number, id_key, key_id}
use Rattle.stream_node.proofs.Ids.{id_laws}
use Rattle.rax_packed.specs.declared.pass.Passed.{Passed}
use Rattle.rax_packed.specs.declared.tree.PackedTree.{PackedTree}
use Rattle.rax_packed.specs.Costs.{Cost, Going, costs_of, costs_from, counted, pass_over, begun, passed}
use Rattle.rax_packed.specs.Maps as rax
use Rattle.rax_packed.specs.Packed.{order}
use Rattle.rax_packed.specs.Trees.{Entry}
use Rattle.rax_packed.proofs.Costs.{by_names}
use Rattle.rax_packed.proofs.Depends.{packed_laws_hold}
use Rattle.rax_packed.proofs.Entries.{all_weaker}
use Rattle.rax_packed.proofs.Passes.{pass_ended}
use Rattle.stream_object.specs.Parts.{Part, IsPart, EndsBefore, Rising, entry_of, parts_of, HasParts}
use Rattle.stream_object.specs.Relocation.{IsBounded, node_mark, entry_mark, tree_marks}
use Rattle.stream_object.proofs.Movings.{all_map, part_marks}
use Rattle.stream_object.proofs.Parts.{keys_rise}
use Rattle.stream_object.proofs.Passed.{count_append}
use Rattle.stream_object.proofs.Walks.{all_both, less_test, upto_test}

-- the mark of a key
pub number : List ℕ → ℕ
number key = id_number (key_id key)

abbrev mark : Cost → ℕ
mark c = number c.key

-- the mark to go on from
abbrev pub next_mark : Option (List ℕ) → Option ℕ
next_mark None = None
next_mark (Some key) = Some (number key)

pub next_is : (key : List ℕ) → Some (id_number (key_id key)) ≡ next_mark (Some key)
unfolding number
next_is key = refl

-- which marks are passed

passed_low : (from : ℕ) (next : Option ℕ) (k : ℕ) → k < from → is_passed from next k ≡ false
passed_low from None k low = grind (arith, nat_tests)
passed_low from (Some n) k low = grind (arith, nat_tests)

passed_high : (from n k : ℕ) → n ≤ k → is_passed from (Some n) k ≡ false
passed_high from n k high = ap (λ t. nat_le from k && t) (le-ltb k n high) ∙ and_false (nat_le from k)
  where
    and_false : (b : Bool) → (b && false) ≡ false
    and_false true = refl
    and_false false = refl

passed_here : (from n k : ℕ) → from ≤ k → k < n → is_passed from (Some n) k ≡ true
passed_here from n k low high = grind (arith, nat_tests)

passed_all : (from k : ℕ) → from ≤ k → is_passed from None k ≡ true
passed_all from k low = grind (arith, nat_tests)

passed_yes : (from : ℕ) (next : Option (List ℕ)) (k : ℕ) → from ≤ k → ((key : List ℕ) → next ≡ Some key → k < number key) → is_passed from (next_mark next) k ≡ true
passed_yes from None k low high = passed_all from k low
passed_yes from (Some key) k low high = passed_here from (number key) k low (high key refl)

-- the blocks of the keys that are passed
abbrev blocks_passed : ℕ → Option (List ℕ) → List Cost → ℕ
blocks_passed from next cs = sum_by (λ (c : Cost). cond (is_passed from (next_mark next) (mark c)) c.blocks 0) cs

blocks_cons : (from : ℕ) (next : Option (List ℕ)) (c : Cost) (cs : List Cost)
    → blocks_passed from next (c ∷ cs) ≡ cond (is_passed from (next_mark next) (mark c)) c.blocks 0 + blocks_passed from next cs
blocks_cons from next c cs = sum_by-cons (λ (c : Cost). cond (is_passed from (next_mark next) (mark c)) c.blocks 0) c cs

blocks_none : (from : ℕ) (key : List ℕ) (cs : List Cost) → AllByRecursion (λ c. number key ≤ mark c) cs → blocks_passed from (Some key) cs ≡ 0
blocks_none from key [] high = refl
blocks_none from key (c ∷ cs) high =
    let out : cond (is_passed from (Some (number key)) (mark c)) c.blocks 0 ≡ 0 = cond-false _ _ _ (passed_high from (number key) (mark c) high.0) in
    omega (arith, out, blocks_cons from (Some key) c cs, blocks_none from key cs high.1)

-- marks rise strictly
abbrev Rise : List Cost → Type 0
Rise [] = Unit {0}
Rise (c ∷ cs) = AllByRecursion (λ d. mark c < mark d) cs × Rise cs

-- how a key stands to the one to begin at, and how many blocks it has
abbrev IsKnown : ℕ → List ℕ → Cost → Type 0
IsKnown from key c = (order c.key key ≡ nat_cmp (mark c) from) × (c.blocks ≤ 18)

-- What a pass has counted, of which so much was left before: the blocks of the keys that it passed. Where it ends before a key, that
-- is none below a mark, fewer than 18 are left, and if there were so many before, the key is above the mark to begin at.
record Counts (from low left : ℕ) (cs : List Cost) (end : Going) : Type 0 where
  pub all : end.left + blocks_passed from end.next cs ≡ left
  pub on : (key : List ℕ) → end.next ≡ Some key → (low ≤ number key) × (end.left < 18) × (18 ≤ left → from < number key)

module _ (from : ℕ) (key : List ℕ) where
  -- a pass over the keys from one on
  abbrev goes : ℕ → List Cost → Going
  goes left cs = pass_over (record { left = left; next = None }) (costs_from cs key)

  -- a key below the mark is left out
  skips : (low left : ℕ) (c : Cost) (cs : List Cost) (end : Going) → mark c < from → Counts from low left cs end → Counts from low left (c ∷ cs) end
  skips low left c cs end less counts =
      let out : cond (is_passed from (next_mark end.next) (mark c)) c.blocks 0 ≡ 0 = cond-false _ _ _ (passed_low from (next_mark end.next) (mark c) less) in
      record { all = omega (arith, counts.all, out, blocks_cons from end.next c cs); on = counts.on }

  -- a key is passed
  takes : (low left : ℕ) (c : Cost) (cs : List Cost) (end : Going) → low ≤ mark c → from ≤ mark c → 18 ≤ left → c.blocks ≤ 18 → Counts from (suc (mark c)) (left - c.blocks) cs end
      → Counts from low left (c ∷ cs) end
  takes low left c cs end upto reaches room few counts =
      let above : (k : List ℕ) → end.next ≡ Some k → mark c < number k = λ k is. omega (arith, (counts.on k is).0) in
      let here : cond (is_passed from (next_mark end.next) (mark c)) c.blocks 0 ≡ c.blocks = cond-true _ _ _ (passed_yes from end.next (mark c) reaches above) in
      record {
        all = omega (arith, counts.all, here, blocks_cons from end.next c cs);
        on = λ k is. (omega (arith, above k is), (counts.on k is).1, λ some. omega (arith, above k is));
      }

  -- a pass ends before a key
  ends : (low left : ℕ) (c : Cost) (cs : List Cost) → low ≤ mark c → left < 18 → AllByRecursion (λ d. mark c < mark d) cs → Counts from low left (c ∷ cs) (record { left = left; next = Some c.key })
  ends low left c cs upto full rises =
      let none : blocks_passed from (Some c.key) (c ∷ cs) ≡ 0 = blocks_none from c.key (c ∷ cs)
      (omega arith, all_weaker (λ d. mark c < mark d) (λ d. mark c ≤ mark d) cs (λ d less. omega arith) rises) in
      record { all = omega (arith, none); on = λ k is. (let same : c.key ≡ k = cc in (subst (λ j. low ≤ number j) same upto, full, λ some. absurd (omega arith))) }

  counts_all : (low left : ℕ) (cs : List Cost) → AllByRecursion (IsKnown from key) cs → AllByRecursion (λ c. low ≤ mark c) cs → Rise cs → Counts from low left cs (goes left cs)
  counts_all low left [] known upto rise = record { all = omega arith; on = λ k is. absurd (cc) }
  counts_all low left (c ∷ cs) known upto rise = elim (cases_lt (mark c) from) [
    | inl less ↦
        (let same : costs_from (c ∷ cs) key ≡ costs_from cs key = cond-false _ (c ∷ costs_from cs key) (costs_from cs key)
        (ap (λ o. not (is_lt o)) known.0.0 ∙ less_test (mark c) from less) in
        subst (λ xs. Counts from low left (c ∷ cs) (pass_over (record { left = left; next = None }) xs)) (sym same)
        (skips low left c cs (goes left cs) less (counts_all low left cs known.1 upto.1 rise.1)))
    | inr reaches ↦
        (let same : costs_from (c ∷ cs) key ≡ c ∷ costs_from cs key =
        cond-true _ (c ∷ costs_from cs key) (costs_from cs key) (ap (λ o. not (is_lt o)) known.0.0 ∙ upto_test from (mark c) reaches) in
        subst (λ xs. Counts from low left (c ∷ cs) (pass_over (record { left = left; next = None }) xs)) (sym same)
        (elim (cases_lt left 18) [
          | inl full ↦ (let stop : counted left None c ≡ record { left = left; next = Some c.key } = cond-true _ _ _ (lt-ltb left 18 full) in
              subst (Counts from low left (c ∷ cs)) (sym (ap (λ p. pass_over p (costs_from cs key)) stop ∙ pass_ended (record { left = left; next = Some c.key }) (costs_from cs key) refl))
              (ends low left c cs upto.0 full rise.0))
          | inr room ↦ (let go : counted left None c ≡ record { left = left - c.blocks; next = None } = cond-false _ _ _ (le-ltb left 18 room) in
              subst (Counts from low left (c ∷ cs)) (sym (ap (λ p. pass_over p (costs_from cs key)) go))
              (takes low left c cs (goes (left - c.blocks) cs) upto.0 reaches room known.0.1 (counts_all (suc (mark c)) (left - c.blocks) cs known.1 rise.0 rise.1)))
        ]))
  ]

-- The keys of a stream's tree.

sum_by_map : {X Y : Type 0} (f : Y → ℕ) (g : X → Y) (xs : List X) → sum_by f (map g xs) ≡ sum_by (λ x. f (g x)) xs
sum_by_map f g [] = refl
sum_by_map f g (x ∷ xs) = omega (arith, sum_by-cons f (g x) (map g xs), sum_by-cons (λ x. f (g x)) x xs, sum_by_map f g xs)

-- marks that rise among numbers
abbrev Up : List ℕ → Type 0
Up [] = Unit {0}
Up (n ∷ ns) = AllByRecursion (λ k. n < k) ns × Up ns

parts_up : (m : Blocks) (ps : List Part) → AllByRecursion (IsPart m) ps → Rising ps → Up (map (λ (p : Part). id_number p.key) ps)
parts_up m [] each rising = tt
parts_up m (p ∷ ps) each rising = (
  all_map (λ k. id_number p.key < k) (λ (q : Part). id_number q.key) ps
      (all_weaker (EndsBefore p) (λ q. id_number p.key < id_number q.key) ps (λ q ends. keys_rise m p q each.0 ends) rising.0),
  parts_up m ps each.1 rising.1,
)

all_told : {X : Type 0} (Q : ℕ → Type 0) (f : X → ℕ) (xs : List X) → AllByRecursion Q (map f xs) → AllByRecursion (λ x. Q (f x)) xs
all_told Q f [] all = tt
all_told Q f (x ∷ xs) all = (all.0, all_told Q f xs all.1)

up_rise : (cs : List Cost) → Up (map mark cs) → Rise cs
up_rise [] up = tt
up_rise (c ∷ cs) up = (all_told (λ k. mark c < k) mark cs up.0, up_rise cs up.1)

map_both : {X : Type 0} (name : X → List ℕ) (xs : List X) → map (λ x. number (name x)) xs ≡ map number (map name xs)
map_both name [] = refl
map_both name (x ∷ xs) = λ i. number (name x) ∷ map_both name xs i

all_upto : (cs : List Cost) → AllByRecursion (λ c. 0 ≤ mark c) cs
all_upto [] = tt
all_upto (c ∷ cs) = (omega arith, all_upto cs)

module _ (m : Blocks) (tree : PackedTree) (h : HasParts m tree (parts_of m tree)) where
  -- the keys of its costs are those of its entries
  keys : map (λ (c : Cost). c.key) (costs_of m tree) ≡ map (λ (e : Entry). e.key) (rax.entries_of m tree)
  keys = packed_laws_hold.keys m tree

  rises : Rise (costs_of m tree)
  unfolding number
  rises =
      up_rise (costs_of m tree) (
      subst Up
      (sym
      (map_both (λ (c : Cost). c.key) (costs_of m tree) ∙ ap (map number) keys ∙ sym (map_both (λ (e : Entry). e.key) (rax.entries_of m tree)) ∙ ap (map entry_mark) h.named
      ∙ part_marks m (parts_of m tree) h.each))
      (parts_up m (parts_of m tree) h.each h.rising)
      )

  -- how each key stands to an id
  known : (at : Id) → IsId at → AllByRecursion (IsKnown (id_number at) (id_key at)) (costs_of m tree)
  unfolding number
  known at is =
      let stands : List ℕ → Type 0 = λ k. order k (id_key at) ≡ nat_cmp (number k) (id_number at) in
      let each = all_weaker (IsPart m) (λ (p : Part). stands (id_key p.key)) (parts_of m tree)
      (λ p part. id_laws.bytes p.key at part.id is ∙ ap (λ n. nat_cmp n (id_number at)) (sym (ap id_number (id_laws.back p.key part.id)))) h.each in
      let entries = subst (AllByRecursion (λ (e : Entry). stands e.key)) (sym h.named) (all_map (λ (e : Entry). stands e.key) entry_of (parts_of m tree) each) in
      all_both (λ (c : Cost). stands c.key) (λ (c : Cost). c.blocks ≤ 18) (IsKnown (id_number at) (id_key at)) (costs_of m tree) (λ c order few. (order, few))
      (by_names (λ (e : Entry). e.key) (λ (c : Cost). c.key) stands (rax.entries_of m tree) (costs_of m tree) (sym keys) entries) (packed_laws_hold.few m tree h.stands)

  -- the blocks of the keys that are passed are the marks that are
  marks_passed : (from : ℕ) (next : Option (List ℕ)) → blocks_passed from next (costs_of m tree) ≡ count_by (is_passed from (next_mark next)) (tree_marks m tree)
  unfolding number
  marks_passed from next =
      let test = is_passed from (next_mark next) in
      omega (
        arith,
        packed_laws_hold.blocks m tree h.stands (λ k. is_passed from (next_mark next) (number k)),
        count_append test (map node_mark (rax.marks_of m tree)) (map entry_mark (rax.entries_of m tree)),
        sum_by_map (λ n. cond (is_passed from (next_mark next) n) 1 0) node_mark (rax.marks_of m tree),
        sum_by_map (λ n. cond (is_passed from (next_mark next) n) 1 0) entry_mark (rax.entries_of m tree),
      )

  module _ (at : Id) (is : IsId at) (room : ℕ) (enough : 32 ≤ room) where
    all : Counts (id_number at) 0 room (costs_of m tree) (pass_over (begun room) (costs_from (costs_of m tree) (id_key at)))
    all = counts_all (id_number at) (id_key at) 0 room (costs_of m tree) (known at is) (all_upto (costs_of m tree)) rises

    -- what the pass answers is bounded
    pub bounded : (answer : Passed) (moved : Moved) → answer ≡ passed room (costs_from (costs_of m tree) (id_key at)) → moved.used ≡ answer.used → moved.next ≡ next_mark answer.next
        → IsBounded (tree_marks m tree) (id_number at) room moved
    bounded answer moved made used next =
        let last = pass_over (begun room) (costs_from (costs_of m tree) (id_key at)) in
        let left : moved.used ≡ room - last.left = used ∙ ap (λ (a : Passed). a.used) made in
        let sum : room - last.left ≡ blocks_passed (id_number at) last.next (costs_of m tree) = omega (arith, all.all) in
        let goes : moved.next ≡ next_mark last.next = next ∙ ap (λ (a : Passed). next_mark a.next) made in
        record {
          used = left ∙ sum ∙ marks_passed (id_number at) last.next ∙ ap (λ o. count_by (is_passed (id_number at) o) (tree_marks m tree)) (sym goes);
          within = omega (arith, left);
          on = subst (λ o. IfSome o (λ n. (id_number at < n) × (room ≤ moved.used + 17))) (sym goes)
              (by_next last.next (λ k told. (let stops = all.on k told in (stops.2 (omega arith), omega (arith, left, stops.1)))));
        }
      where
        by_next : (o : Option (List ℕ)) → ((k : List ℕ) → o ≡ Some k → (id_number at < number k) × (room ≤ moved.used + 17)) → IfSome (next_mark o) (λ n. (id_number at < n) × (room ≤ moved.used + 17))
        by_next None told = tt
        by_next (Some k) told = told k refl
