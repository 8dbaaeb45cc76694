-- One turn of a loop over the items of a file, for any item.
use Rattle.std.proofs.Common.{◌≡◌, inl, inr, ℕ, suc, ◌+◌, ◌-◌, ◌<◌, ◌≤◌, true, false, List, [], ◌∷◌, ◌++◌, length, take, drop, refl, sym, ap, ◌∙◌, subst, arith}
use Rattle.std.proofs.lemmas.List.{take-append-drop, length-append, length-take, length-drop}
use Rattle.rdb_grammar.specs.declared.fault.LoadKind.{LoadKind}
use Rattle.rdb_grammar.specs.declared.fault.LoadKind.TheVariants as kinds
use Rattle.rdb_grammar.specs.Items.{Item, End, item}
use Rattle.rdb_grammar.specs.Places.{Stands, Fails}
use Rattle.rdb_grammar.specs.Files.{header, State, new_state, is_fresh, is_end, after, file_world, next_in, Items, Reached, sum_field, IsFile, IsFault, InItem, InSum}

-- an item has a byte at least
pub longer : (x : Item) (bytes : List ℕ) (at next : ℕ) → Stands item x bytes at next → at < next
longer x bytes at next s =
    let word : length (take (next - at) (drop at bytes)) ≡ length s.spelled.1 + length s.spelled.2 = ap length s.spelled.3 ∙ length-append s.spelled.1 s.spelled.2 in
    let front : length s.spelled.1 ≡ suc (length s.spelled.4.1) = ap length s.spelled.4.2 in
    omega (arith, word, front, length-take (next - at) (drop at bytes))

-- a fresh item may stand behind those before it
pub taken : (state : State) (x : Item) (bytes : List ℕ) (at next : ℕ) → Stands item x bytes at next → is_fresh state x ≡ true → Stands (next_in state) x bytes at next
taken state x bytes at next s fresh = record { onward = s.onward; inside = s.inside; spelled = (s.spelled, fresh) }

-- one item more
more : (bytes : List ℕ) (moment : ℕ) (xs : List Item) (from : ℕ) (old : State) (at : ℕ) (state : State) (x : Item) (next : ℕ)
    → Items bytes moment xs from old at state → Stands (next_in state) x bytes at next → is_end x ≡ false → Items bytes moment (xs ++ x ∷ []) from old next (after moment state x)
unfolding Items
more bytes moment [] from old at state x next h s e =
    (next, subst (λ (a : ℕ). Stands (next_in old) x bytes a next) h.0 (subst (λ (q : State). Stands (next_in q) x bytes at next) h.1 s), e, (refl, ap (λ (q : State). after moment q x) h.1))
more bytes moment (y ∷ xs) from old at state x next h s e =
    (h.0, h.1, h.2, more bytes moment xs (h.0) (after moment old y) at state x next h.3 s e)

within : (bytes : List ℕ) (moment : ℕ) (xs : List Item) (from : ℕ) (old : State) (at : ℕ) (state : State) → Items bytes moment xs from old at state → from ≤ length bytes → at ≤ length bytes
unfolding Items
within bytes moment [] from old at state h le = omega (arith, h.0, le)
within bytes moment (y ∷ xs) from old at state h le = within bytes moment xs (h.0) (after moment old y) at state h.3 (h.1.inside)

-- a place that was reached lies in the file
pub inside : (bytes : List ℕ) (moment at : ℕ) (state : State) → Reached bytes moment at state → at ≤ length bytes
inside bytes moment at state r = within bytes moment r.items r.first new_state at state r.itemised r.begun.inside

pub begins : (bytes text : List ℕ) (moment next : ℕ) → Stands header text bytes 0 next → Reached bytes moment next new_state
unfolding Items
begins bytes text moment next s = record { version = text; first = next; items = []; begun = s; itemised = (refl, refl) }

pub begins_items : (bytes text : List ℕ) (moment next : ℕ) (s : Stands header text bytes 0 next) → (begins bytes text moment next s).items ≡ []
unfolding begins
begins_items bytes text moment next s = refl

pub goes_on : (bytes : List ℕ) (moment at : ℕ) (state : State) (x : Item) (next : ℕ) → Reached bytes moment at state → Stands item x bytes at next → is_end x ≡ false
    → is_fresh state x ≡ true → Reached bytes moment next (after moment state x)
goes_on bytes moment at state x next r s e fresh = record {
  version = r.version;
  first = r.first;
  items = r.items ++ x ∷ [];
  begun = r.begun;
  itemised = more bytes moment r.items r.first new_state at state x next r.itemised (taken state x bytes at next s fresh) e;
}

pub goes_on_items : (bytes : List ℕ) (moment at : ℕ) (state : State) (x : Item) (next : ℕ) (r : Reached bytes moment at state) (s : Stands item x bytes at next) (e : is_end x ≡ false)
    (fresh : is_fresh state x ≡ true) → (goes_on bytes moment at state x next r s e fresh).items ≡ r.items ++ x ∷ []
unfolding goes_on
goes_on_items bytes moment at state x next r s e fresh = refl

pub is_file : (bytes : List ℕ) (moment at : ℕ) (state : State) (ended sum next : ℕ) → Reached bytes moment at state → Stands item End bytes at ended
    → Stands (sum_field (take ended bytes)) sum bytes ended next → IsFile bytes moment (file_world state)
is_file bytes moment at state ended sum next r e s = record { at = at; state = state; ended = ended; sum = sum; next = next; reached = r; ends = e; summed = s; means = refl }

pub is_file_items : (bytes : List ℕ) (moment at : ℕ) (state : State) (ended sum next : ℕ) (r : Reached bytes moment at state) (e : Stands item End bytes at ended)
    (s : Stands (sum_field (take ended bytes)) sum bytes ended next) → (is_file bytes moment at state ended sum next r e s).reached.items ≡ r.items
unfolding is_file
is_file_items bytes moment at state ended sum next r e s = refl

pub item_fault : (bytes : List ℕ) (moment at : ℕ) (state : State) (which : LoadKind) (place : ℕ) → Reached bytes moment at state → Fails item bytes at which place → IsFault bytes moment which place
item_fault bytes moment at state which place r f = InItem at state r (record { onward = f.onward; inside = f.inside; faulty = inl f.faulty })

pub twice : (bytes : List ℕ) (moment at : ℕ) (state : State) (x : Item) (next : ℕ) → Reached bytes moment at state → Stands item x bytes at next → is_fresh state x ≡ false
    → IsFault bytes moment kinds.DuplicateKey (at + 1)
twice bytes moment at state x next r s stale =
    let lt : at < next = longer x bytes at next s in
    let le : next ≤ length bytes = s.inside in
    let left : length bytes - (at + 1) ≡ length (drop at bytes) - 1 = omega (arith, length-drop at bytes) in
    InItem at state r (record {
      onward = omega arith;
      inside = omega arith;
      faulty = inr (x, take (next - at) (drop at bytes), drop (next - at) (drop at bytes), sym (take-append-drop (next - at) (drop at bytes)), s.spelled, stale, refl, left);
    })

pub sum_fault : (bytes : List ℕ) (moment at : ℕ) (state : State) (ended : ℕ) (which : LoadKind) (place : ℕ) → Reached bytes moment at state → Stands item End bytes at ended
    → Fails (sum_field (take ended bytes)) bytes ended which place → IsFault bytes moment which place
sum_fault bytes moment at state ended which place r e f = InSum at ended state r e f
