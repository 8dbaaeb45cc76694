-- All bytes are a file of exactly one world, or have exactly one first fault.
use Rattle.std.proofs.Common.{◌≡◌, ◌⊎◌, inl, inr, ℕ, zero, suc, ◌+◌, ◌-◌, ◌<◌, ◌≤◌, Bool, true, false, cond, List, [], ◌∷◌, length, take, drop, Result, Ok, Err, refl, sym, ap, subst, ◌∙◌, arith}
use Rattle.std.proofs.lemmas.List.{length-drop}
use Rattle.plain_world.specs.Worlds.{World}
use Rattle.rdb_grammar.specs.declared.fault.LoadKind.{LoadKind}
use Rattle.rdb_grammar.specs.declared.fault.LoadKind.TheVariants as kinds
use Rattle.rdb_grammar.specs.Format.{Fault, Format, ◌>>=◌}
use Rattle.rdb_grammar.specs.Items.{Item, Passed, Deadline, Database, End, Key, item}
use Rattle.rdb_grammar.specs.Places.{Stands}
use Rattle.rdb_grammar.specs.Files.{header, State, new_state, is_end, after, file_world, next_in, Items, Reached, sum_field, IsFile, IsFault, InHeader, InItem, InSum, ExactlyOne}
use Rattle.rdb_grammar.proofs.HeaderExact.{header_exact, sum_field_exact, next_in_exact}
use Rattle.rdb_grammar.proofs.PartsExact.{item_exact}
use Rattle.rdb_grammar.proofs.Exactly.{Exact, ok_parts}
use Rattle.rdb_grammar.proofs.Standing.{reads, reads_fault, found, broken}
use Rattle.rdb_grammar.proofs.Loading.{longer, taken, inside, begins, goes_on, is_file}

-- ---- the file, read item by item

-- what a file is read as: a world, or a fault
abbrev Verdict : Type 0
Verdict = Result World Fault

-- behind the end the checksum field is read, and the world is that of the state
abbrev closing : List ℕ → State → List ℕ → Verdict
closing bytes state rest = (sum_field (take (length bytes - length rest) bytes)).read rest >>= λ x. Ok (file_world state)

-- at most so many items from a state on
unfoldable run : List ℕ → ℕ → ℕ → State → List ℕ → Verdict
run bytes moment zero state rest = Err (kinds.Ended, 0)
run bytes moment (suc n) state rest = (next_in state).read rest >>= λ x. cond (is_end x.0) (closing bytes state x.1) (run bytes moment n (after moment state x.0) x.1)

-- what bytes are read as with a header and at most so many items
abbrev verdict : List ℕ → ℕ → ℕ → Verdict
verdict bytes moment n = header.read bytes >>= λ x. run bytes moment n new_state x.1

-- the count of these items and n more
abbrev more : List Item → ℕ → ℕ
more [] n = n
more (x ∷ xs) n = suc (more xs n)

-- the count of items and n more is the number of the items and n
more_is : (xs : List Item) (n : ℕ) → more xs n ≡ length xs + n
more_is [] n = omega arith
more_is (x ∷ xs) n = omega (arith, more_is xs n)

-- behind items that stand one behind the other reading goes on in the state that they lead to
run_items : (bytes : List ℕ) (moment : ℕ) (xs : List Item) (at : ℕ) (old : State) (to : ℕ) (new : State) (n : ℕ)
    → Items bytes moment xs at old to new → run bytes moment (more xs n) old (drop at bytes) ≡ run bytes moment n new (drop to bytes)
unfolding run Items
run_items bytes moment [] at old to new n h =
    ap (λ (q : State). run bytes moment n q (drop at bytes)) (sym h.1) ∙ ap (λ (a : ℕ). run bytes moment n new (drop a bytes)) (sym h.0)
run_items bytes moment (x ∷ xs) at old to new n h =
    let r : (next_in old).read (drop at bytes) ≡ Ok (x, drop h.0 bytes) = reads (next_in old) (next_in_exact old) x bytes at (h.0) h.1 in
    let e : is_end x ≡ false = h.2 in
    let step : run bytes moment (suc (more xs n)) old (drop at bytes) ≡ run bytes moment (more xs n) (after moment old x) (drop h.0 bytes) = rw (r, e) refl in
    step ∙ run_items bytes moment xs (h.0) (after moment old x) to new n h.3

-- reading a file goes on at a place that is reached, in the state there
run_reached : (bytes : List ℕ) (moment at : ℕ) (state : State) (n : ℕ) (r : Reached bytes moment at state) → verdict bytes moment (more r.items n) ≡ run bytes moment n state (drop at bytes)
run_reached bytes moment at state n r =
    let h : header.read bytes ≡ Ok (r.version, drop r.first bytes) = reads header header_exact r.version bytes 0 r.first r.begun in
    let step : verdict bytes moment (more r.items n) ≡ run bytes moment (more r.items n) new_state (drop r.first bytes) = rw h refl in
    step ∙ run_items bytes moment r.items r.first new_state at state n r.itemised

-- where the end stands, the checksum decides
run_end : (bytes : List ℕ) (moment at : ℕ) (state : State) (ended n : ℕ) → Stands item End bytes at ended
    → run bytes moment (suc n) state (drop at bytes) ≡ ((sum_field (take ended bytes)).read (drop ended bytes) >>= λ x. Ok (file_world state))
unfolding run
run_end bytes moment at state ended n s =
    let r : (next_in state).read (drop at bytes) ≡ Ok (End, drop ended bytes) = reads (next_in state) (next_in_exact state) End bytes at ended (taken state End bytes at ended s refl) in
    let le : ended ≤ length bytes = s.inside in
    let before : length bytes - length (drop ended bytes) ≡ ended = omega (arith, length-drop ended bytes) in
    let step : run bytes moment (suc n) state (drop at bytes) ≡ closing bytes state (drop ended bytes) = rw r refl in
    step ∙ ap (λ (k : ℕ). (sum_field (take k bytes)).read (drop ended bytes) >>= λ x. Ok (file_world state)) before

-- the file is read as this, with any count from that of some items on
abbrev Settles : List ℕ → ℕ → Verdict → Type 0
Settles bytes moment r = (xs : List Item) × ((k : ℕ) → verdict bytes moment (more xs (suc k)) ≡ r)

-- a file of a world is read as this world
file_settles : (bytes : List ℕ) (moment : ℕ) (world : World) → IsFile bytes moment world → Settles bytes moment (Ok world)
file_settles bytes moment world f = (
  f.reached.items,
  λ k.
      let s : (sum_field (take f.ended bytes)).read (drop f.ended bytes) ≡ Ok (f.sum, drop f.next bytes) =
      reads (sum_field (take f.ended bytes)) (sum_field_exact _) f.sum bytes f.ended f.next f.summed in
      let last : ((sum_field (take f.ended bytes)).read (drop f.ended bytes) >>= λ x. Ok (file_world f.state)) ≡ Ok (file_world f.state) =
      ap (λ (q : Result (ℕ × List ℕ) Fault). q >>= λ x. Ok (file_world f.state)) s in
      run_reached bytes moment f.at f.state (suc k) f.reached ∙ run_end bytes moment f.at f.state f.ended k f.ends ∙ last ∙ ap (λ (w : World). Ok w) (sym f.means),
)

-- bytes with a first fault are read as this fault
fault_settles : (bytes : List ℕ) (moment : ℕ) (which : LoadKind) (place : ℕ) → IsFault bytes moment which place → Settles bytes moment (Err (which, length bytes - place))
unfolding run
fault_settles bytes moment which place (InHeader f) = (
  [],
  λ k.
      let h : header.read bytes ≡ Err (which, length bytes - place) = reads_fault header header_exact bytes 0 which place f in
      rw h refl,
)
fault_settles bytes moment which place (InItem at state r f) = (
  r.items,
  λ k.
      let h : (next_in state).read (drop at bytes) ≡ Err (which, length bytes - place) = reads_fault (next_in state) (next_in_exact state) bytes at which place f in
      let last : run bytes moment (suc k) state (drop at bytes) ≡ Err (which, length bytes - place) = rw h refl in
      run_reached bytes moment at state (suc k) r ∙ last,
)
fault_settles bytes moment which place (InSum at ended state r e f) = (
  r.items,
  λ k.
      let s : (sum_field (take ended bytes)).read (drop ended bytes) ≡ Err (which, length bytes - place) = reads_fault (sum_field (take ended bytes)) (sum_field_exact _) bytes ended which place f in
      let last : ((sum_field (take ended bytes)).read (drop ended bytes) >>= λ x. Ok (file_world state)) ≡ Err (which, length bytes - place) =
      ap (λ (q : Result (ℕ × List ℕ) Fault). q >>= λ x. Ok (file_world state)) s in
      run_reached bytes moment at state (suc k) r ∙ run_end bytes moment at state ended k e ∙ last,
)

-- a world or a fault that bytes are read as with enough items is the only one
agree : (bytes : List ℕ) (moment : ℕ) (r s : Verdict) → Settles bytes moment r → Settles bytes moment s → r ≡ s
agree bytes moment r s p q =
    let same : more (p.0) (suc (more (q.0) 0)) ≡ more (q.0) (suc (more (p.0) 0)) =
    omega (arith, more_is (p.0) (suc (more (q.0) 0)), more_is (q.0) (suc (more (p.0) 0)), more_is (p.0) 0, more_is (q.0) 0) in
    sym (p.1 (more (q.0) 0)) ∙ ap (verdict bytes moment) same ∙ q.1 (more (p.0) 0)

-- ---- one of both there is

-- the bytes are a file of some world, or have some first fault
abbrev Outcome : List ℕ → ℕ → Type 0
Outcome bytes moment = ((world : World) × IsFile bytes moment world) ⊎ ((which : LoadKind) × (place : ℕ) × IsFault bytes moment which place)

-- an item that counts as an end is the end item
end_is : (x : Item) → is_end x ≡ true → x ≡ End
end_is Passed e = absurd cc
end_is (Deadline n) e = absurd cc
end_is (Database n) e = absurd cc
end_is End e = refl
end_is (Key name value) e = absurd cc

-- where the end stands the checksum field decides whether the bytes are a file or have a first fault
by_sum : (bytes : List ℕ) (moment at : ℕ) (state : State) (ended : ℕ) (r : Result (ℕ × List ℕ) Fault) → Reached bytes moment at state → Stands item End bytes at ended
    → (sum_field (take ended bytes)).read (drop ended bytes) ≡ r → Outcome bytes moment
by_sum bytes moment at state ended (Ok x) reached s e =
    let f = found (sum_field (take ended bytes)) (sum_field_exact _) bytes ended (x.0) (x.1) s.inside e in
    inl (file_world state, is_file bytes moment at state ended (x.0) (length bytes - length x.1) reached s f.stands)
by_sum bytes moment at state ended (Err d) reached s e =
    let f = broken (sum_field (take ended bytes)) (sum_field_exact _) bytes ended (d.0) (d.1) s.inside e in
    inr (d.0, length bytes - d.1, InSum at ended state reached s f.fails)

-- an item that may stand behind those before it stands as an item
plain : (state : State) (x : Item) (bytes : List ℕ) (at next : ℕ) → Stands (next_in state) x bytes at next → Stands item x bytes at next
plain state x bytes at next s = record { onward = s.onward; inside = s.inside; spelled = s.spelled.0 }

-- behind an item the bytes are a file or have a first fault, if they are or have where it goes on
by_end : (bytes : List ℕ) (moment at : ℕ) (state : State) (x : Item) (next : ℕ) (b : Bool) → is_end x ≡ b → Reached bytes moment at state → Stands (next_in state) x bytes at next
    → ((state : State) → Reached bytes moment next state → Outcome bytes moment) → Outcome bytes moment
by_end bytes moment at state x next true e reached s go =
    by_sum bytes moment at state next _ reached (subst (λ (y : Item). Stands item y bytes at next) (end_is x e) (plain state x bytes at next s)) refl
by_end bytes moment at state x next false e reached s go =
    go (after moment state x) (goes_on bytes moment at state x next reached (plain state x bytes at next s) e s.spelled.1)

-- from a reached place on the bytes are a file or have a first fault, if so from each later reached place
by_item : (bytes : List ℕ) (moment at : ℕ) (state : State) (r : Result (Item × List ℕ) Fault) → Reached bytes moment at state → (next_in state).read (drop at bytes) ≡ r
    → ((next : ℕ) (state : State) → at < next → Reached bytes moment next state → Outcome bytes moment) → Outcome bytes moment
by_item bytes moment at state (Ok x) reached e go =
    let f = found (next_in state) (next_in_exact state) bytes at (x.0) (x.1) (inside bytes moment at state reached) e in
    by_end bytes moment at state (x.0) (length bytes - length x.1) _ refl reached f.stands
    (λ new r. go (length bytes - length x.1) new (longer (x.0) bytes at _ (plain state (x.0) bytes at _ f.stands)) r)
by_item bytes moment at state (Err d) reached e go =
    let f = broken (next_in state) (next_in_exact state) bytes at (d.0) (d.1) (inside bytes moment at state reached) e in
    inr (d.0, length bytes - d.1, InItem at state reached f.fails)

-- from each place that is reached the bytes are a file or have a first fault
onward : (bytes : List ℕ) (moment n at : ℕ) (state : State) → length bytes - at < n → Reached bytes moment at state → Outcome bytes moment
onward bytes moment zero at state lt reached = absurd (omega arith)
onward bytes moment (suc n) at state lt reached =
    by_item bytes moment at state _ reached refl (λ next new more_than r.
    let le : next ≤ length bytes = inside bytes moment next new r in
    onward bytes moment n next new (omega arith) r)

-- whatever the header is read as, the bytes are a file or have a first fault
by_header : (bytes : List ℕ) (moment : ℕ) (r : Result (List ℕ × List ℕ) Fault) → header.read bytes ≡ r → Outcome bytes moment
by_header bytes moment (Ok x) e =
    let f = found header header_exact bytes 0 (x.0) (x.1) (omega arith) e in
    onward bytes moment (suc (length bytes)) _ new_state (omega arith) (begins bytes (x.0) moment _ f.stands)
by_header bytes moment (Err d) e =
    let f = broken header header_exact bytes 0 (d.0) (d.1) (omega arith) e in
    inr (d.0, length bytes - d.1, InHeader f.fails)

-- ---- and only one

-- the place of a first fault is within the bytes
place_inside : (bytes : List ℕ) (moment : ℕ) (which : LoadKind) (place : ℕ) → IsFault bytes moment which place → place ≤ length bytes
place_inside bytes moment which place (InHeader f) = f.inside
place_inside bytes moment which place (InItem at state r f) = f.inside
place_inside bytes moment which place (InSum at ended state r e f) = f.inside

-- a world as what a file is read as
abbrev world_ok : World → Verdict
world_ok w = Ok w

-- a fault as what a file is read as
abbrev fault_err : Fault → Verdict
fault_err d = Err d

-- equal readings of a file as worlds are of equal worlds
ok_world : (a b : World) → world_ok a ≡ world_ok b → a ≡ b
ok_world a b e = cc

-- equal readings of a file as faults are of equal faults
err_fault : (d c : Fault) → fault_err d ≡ fault_err c → d ≡ c
err_fault d c e = cc

-- what is read as a world isn't read as a fault
apart : (a : World) (d : Fault) → world_ok a ≡ fault_err d → ⊥
apart a d e = absurd cc

-- one part stands at a place
one_part : {A : Type 0} (one : Format A) → Exact one → (x y : A) (bytes : List ℕ) (at next last : ℕ) → Stands one x bytes at next → Stands one y bytes at last → (x ≡ y) × (next ≡ last)
one_part one e x y bytes at next last s t =
    let same = ok_parts x y (drop next bytes) (drop last bytes) (sym (reads one e x bytes at next s) ∙ reads one e y bytes at last t) in
    let left : length (drop next bytes) ≡ length (drop last bytes) = ap length same.1 in
    let first : next ≤ length bytes = s.inside in
    let second : last ≤ length bytes = t.inside in
    (same.0, omega (arith, left, length-drop next bytes, length-drop last bytes))

-- no item stands where the end does
past_end : (x : Item) (bytes : List ℕ) (state : State) (at next ended : ℕ) → Stands item End bytes at ended → Stands (next_in state) x bytes at next → is_end x ≡ false → ⊥
past_end x bytes state at next ended e s more =
    let same : End ≡ x = (one_part item item_exact End x bytes at ended next e (plain state x bytes at next s)).0 in
    let both : true ≡ false = ap is_end same ∙ more in
    cc

-- up to the end one list of items stands
one_items : (bytes : List ℕ) (moment : ℕ) (xs ys : List Item) (at to last ended past : ℕ) (old new other : State)
    → Items bytes moment xs at old to new → Stands item End bytes to ended → Items bytes moment ys at old last other → Stands item End bytes last past → xs ≡ ys
unfolding Items
one_items bytes moment [] [] at to last ended past old new other h e k f = refl
one_items bytes moment [] (y ∷ ys) at to last ended past old new other h e k f = absurd (past_end y bytes old at k.0 ended (subst (λ a. Stands item End bytes a ended) h.0 e) k.1 k.2)
one_items bytes moment (x ∷ xs) [] at to last ended past old new other h e k f = absurd (past_end x bytes old at h.0 past (subst (λ a. Stands item End bytes a past) k.0 f) h.1 h.2)
one_items bytes moment (x ∷ xs) (y ∷ ys) at to last ended past old new other h e k f =
    let same = one_part item item_exact x y bytes at h.0 k.0 (plain old x bytes at h.0 h.1) (plain old y bytes at k.0 k.1) in
    let P : ℕ → Item → Type 0 = λ n z. Items bytes moment ys n (after moment old z) last other in
    let rest = subst (λ n. P n x) (sym same.1) (subst (P k.0) (sym same.0) k.3) in
    ap (λ z. x ∷ z) (one_items bytes moment xs ys h.0 to last ended past (after moment old x) new other h.3 e rest f) ∙ ap (λ z. z ∷ ys) same.0

-- the list of items is the same, of whichever world the bytes are a file
one_list : (bytes : List ℕ) (moment : ℕ) (a b : World) (f : IsFile bytes moment a) (g : IsFile bytes moment b) → f.reached.items ≡ g.reached.items
one_list bytes moment a b f g =
    let begun = one_part header header_exact f.reached.version g.reached.version bytes 0 f.reached.first g.reached.first f.reached.begun g.reached.begun in
    let same = subst (λ n. Items bytes moment g.reached.items n new_state g.at g.state) (sym begun.1) g.reached.itemised in
    one_items bytes moment f.reached.items g.reached.items f.reached.first f.at g.at f.ended g.ended new_state f.state g.state f.reached.itemised f.ends same g.ends

-- bytes are a file of one world and one list of items, or have one first fault, and never both
pub exactly_one : (bytes : List ℕ) (moment : ℕ) → ExactlyOne bytes moment
exactly_one bytes moment = record {
  either = by_header bytes moment _ refl;
  not_both = λ world which place f g. apart world (which, length bytes - place) (agree bytes moment _ _ (file_settles bytes moment world f) (fault_settles bytes moment which place g));
  one_world = λ a b f g. ok_world a b (agree bytes moment _ _ (file_settles bytes moment a f) (file_settles bytes moment b g));
  one_list = one_list bytes moment;
  one_fault = λ k l m n f g.
      let e = err_fault (k, length bytes - m) (l, length bytes - n) (agree bytes moment _ _ (fault_settles bytes moment k m f) (fault_settles bytes moment l n g)) in
      let left : length bytes - m ≡ length bytes - n = ap (λ (q : Fault). q.1) e in
      let first : m ≤ length bytes = place_inside bytes moment k m f in
      let second : n ≤ length bytes = place_inside bytes moment l n g in
      (ap (λ (q : Fault). q.0) e, omega arith);
}
