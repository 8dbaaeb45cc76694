-- Items more behind the items of a file.
use Rattle.std.proofs.Common.{◌≡◌, ℕ, ◌+◌, ◌-◌, ◌<◌, ◌≤◌, ◌^◌, Bool, true, false, cond, List, [], ◌∷◌, ◌++◌, length, take, drop, Option, Some, None, refl, sym, ap, subst, ◌∙◌, append_assoc, arith}
use Rattle.std.proofs.lemmas.List.{take-append-le, drop-append-le, take_all, take_at, drop_at, length-append, length-drop, append-nil}
use Rattle.std.specs.Prelude.{is_none, IfSome, ◌==◌, codes}
use Rattle.std.proofs.lemmas.Bool.{eq-eqb}
use Rattle.std.specs.Int.{w64, to_le_bytes}
use Rattle.std.proofs.lemmas.Nat.{from_le_bytes-to_le_bytes_8}
use Rattle.digests.specs.Crc.{crc_of}
use Rattle.plain_world.specs.Worlds.{World, Value, Str, Entry, new_world, in_time, look, put, selecting}
use Rattle.rdb_grammar.specs.Codes as code
use Rattle.rdb_grammar.specs.Format.{Format}
use Rattle.rdb_grammar.specs.Items.{Item, Deadline, Database, End, Key, item}
use Rattle.rdb_grammar.specs.Places.{Stands}
use Rattle.rdb_grammar.specs.Files.{header, magic_text, State, new_state, is_fresh, is_end, is_void, is_kept, with_key, after, file_world, next_in, Items, Reached, sum_field, is_sum, IsFile}
use Rattle.rdb_grammar.proofs.Loading.{begins, goes_on, is_file}
use Rattle.rdb_parts.specs.Words.{deadline_word, key_word, header_word, database_word, ended, whole_word}
use Rattle.rdb_parts.specs.Leading.{Begins, Leads, between}
use Rattle.rdb_parts.proofs.Spelled.{number_le_spelled, deadline_spelled, database_spelled, end_spelled}

-- ---- what stands in front of more bytes

stands_longer : {A : Type 0} (one : Format A) (x : A) (bytes more : List ℕ) (at next : ℕ) → Stands one x bytes at next → Stands one x (bytes ++ more) at next
stands_longer one x bytes more at next s =
    let on : at ≤ next = s.onward in
    let within : next ≤ length bytes = s.inside in
    let long : length (bytes ++ more) ≡ length bytes + length more = length-append bytes more in
    let behind : drop at (bytes ++ more) ≡ drop at bytes ++ more = drop-append-le at bytes more (omega (arith, on, within)) in
    let there : next - at ≤ length (drop at bytes) = omega (arith, on, within, length-drop at bytes) in
    let same : take (next - at) (drop at (bytes ++ more)) ≡ take (next - at) (drop at bytes) = ap (take (next - at)) behind ∙ take-append-le (next - at) (drop at bytes) more there in
    record { onward = on; inside = omega (arith, within, long); spelled = subst (λ (l : List ℕ). one.Spells x l) (sym same) s.spelled }

items_longer : (bytes more : List ℕ) (moment : ℕ) (xs : List Item) (at : ℕ) (old : State) (to : ℕ) (new : State) → Items bytes moment xs at old to new → Items (bytes ++ more) moment xs at old to new
unfolding Items
items_longer bytes more moment [] at old to new h = h
items_longer bytes more moment (x ∷ xs) at old to new h =
    (h.0, stands_longer (next_in old) x bytes more at (h.0) h.1, h.2, items_longer bytes more moment xs (h.0) (after moment old x) to new h.3)

reached_longer : (bytes more : List ℕ) (moment at : ℕ) (state : State) → Reached bytes moment at state → Reached (bytes ++ more) moment at state
reached_longer bytes more moment at state r = record {
  version = r.version;
  first = r.first;
  items = r.items;
  begun = stands_longer header r.version bytes more 0 r.first r.begun;
  itemised = items_longer bytes more moment r.items r.first new_state at state r.itemised;
}

-- a word stands behind all bytes before it
stands_behind : {A : Type 0} (one : Format A) (x : A) (bytes word : List ℕ) → one.Spells x word → Stands one x (bytes ++ word) (length bytes) (length (bytes ++ word))
stands_behind one x bytes word s =
    let long : length (bytes ++ word) ≡ length bytes + length word = length-append bytes word in
    let behind : drop (length bytes) (bytes ++ word) ≡ word = drop_at bytes word (length bytes) refl in
    let count : length (bytes ++ word) - length bytes ≡ length word = omega (arith, long) in
    let all : take (length (bytes ++ word) - length bytes) (drop (length bytes) (bytes ++ word)) ≡ word =
    ap (take (length (bytes ++ word) - length bytes)) behind ∙ take_all (length (bytes ++ word) - length bytes) word (omega (arith, count)) in
    record { onward = omega (arith, long); inside = omega arith; spelled = subst (λ (l : List ℕ). one.Spells x l) (sym all) s }

-- ---- items

pub leads_nothing : (moment : ℕ) (state : State) → Leads moment state state []
leads_nothing moment state = λ bytes b. subst (λ (l : List ℕ). Begins l moment state) (sym (append-nil bytes)) b

pub leads_then : (moment : ℕ) (a b c : State) (v w : List ℕ) → Leads moment a b v → Leads moment b c w → Leads moment a c (v ++ w)
leads_then moment a b c v w p q = λ bytes r. subst (λ (l : List ℕ). Begins l moment c) (append_assoc bytes v w) (q (bytes ++ v) (p bytes r))

pub leads_item : (moment : ℕ) (state : State) (x : Item) (word : List ℕ) → item.Spells x word → is_end x ≡ false → is_fresh state x ≡ true → Leads moment state (after moment state x) word
leads_item moment state x word s goes fresh = λ bytes r.
    goes_on (bytes ++ word) moment (length bytes) state x (length (bytes ++ word)) (reached_longer bytes word moment (length bytes) state r) (stands_behind item x bytes word s) goes fresh

pub leads_database : (moment : ℕ) (world : World) (number : ℕ) → number < 16 → Leads moment (between world) (between (selecting world number)) (database_word number)
leads_database moment world number low = leads_item moment (between world) (Database number) (database_word number) (database_spelled number low) refl refl

-- the state before a key with a deadline or without one
abbrev pub before_key : World → Option ℕ → State
before_key world deadline = record { world = world; deadline = deadline }

leads_deadline : (moment : ℕ) (world : World) (deadline : Option ℕ) → IfSome deadline (λ d. d < 2 ^ 63) → Leads moment (between world) (before_key world deadline) (deadline_word deadline)
leads_deadline moment world None low = leads_nothing moment (between world)
leads_deadline moment world (Some at) low = leads_item moment (between world) (Deadline at) (deadline_word (Some at)) (deadline_spelled at low) refl refl

-- A key that wasn't there, with a value that is kept, and its deadline before it, is put.
pub leads_key : (moment : ℕ) (world : World) (name : List ℕ) (value : Value) (deadline : Option ℕ) (word : List ℕ) → item.Spells (Key name value) word → IfSome deadline (λ d. d < 2 ^ 63)
    → look world name ≡ None → is_void value ≡ false → in_time moment deadline ≡ true
    → Leads moment (between world) (between (put world name (record { value = value; deadline = deadline }))) (deadline_word deadline ++ word)
leads_key moment world name value deadline word s low none some time =
    let state = before_key world deadline in
    let fresh : is_none (look world name) ≡ true = ap is_none none in
    let kept : is_kept moment deadline value ≡ true = rw (some, time) refl in
    let made : with_key moment state name value ≡ put world name (record { value = value; deadline = deadline }) = rw kept refl in
    let q : Leads moment state (after moment state (Key name value)) word = leads_item moment state (Key name value) word s refl fresh in
    leads_then moment (between world) state _ (deadline_word deadline) word (leads_deadline moment world deadline low)
    (subst (λ (w : World). Leads moment state (between w) word) made q)

-- ---- the whole file

header_begins : (moment : ℕ) → Begins header_word moment new_state
header_begins moment =
    let s : header.Spells (codes "0011") header_word = (magic_text, magic_text, codes "0011", refl, (refl, refl), ((refl, refl), refl)) in
    begins header_word (codes "0011") moment 9 (record { onward = omega arith; inside = omega arith; spelled = s })

-- a sum is right, whether it is zero or not
right_by : (n : ℕ) (b : Bool) → (n == 0) ≡ b → cond (n == 0) true (n == n) ≡ true
right_by n true e = rw e refl
right_by n false e = rw e (eq-eqb n n refl)

-- Behind the header items that lead to a state, the end and the sum make a file of its world.
pub file_is : (moment : ℕ) (state : State) (word : List ℕ) → Leads moment new_state state word → crc_of 0 (ended (header_word ++ word)) < 2 ^ 64
    → IsFile (whole_word (header_word ++ word)) moment (file_world state)
file_is moment state word leads fits =
    let items = header_word ++ word in
    let front = ended items in
    let sum = crc_of 0 front in
    let last = to_le_bytes w64 sum in
    let r : Reached items moment (length items) state = leads header_word (header_begins moment) in
    let whole : Reached (front ++ last) moment (length items) state = reached_longer front last moment (length items) state (reached_longer items (code.eof ∷ []) moment (length items) state r) in
    let e : Stands item End (front ++ last) (length items) (length front) = stands_longer item End front last (length items) (length front) (stands_behind item End items (code.eof ∷ []) end_spelled) in
    let before : take (length front) (front ++ last) ≡ front = take_at front last (length front) refl in
    let right : is_sum front sum ≡ true = right_by sum _ refl in
    let s : (sum_field front).Spells sum last = (number_le_spelled w64 sum last refl (sym (from_le_bytes-to_le_bytes_8 sum fits)), right) in
    let t : Stands (sum_field (take (length front) (front ++ last))) sum (front ++ last) (length front) (length (front ++ last)) =
    subst (λ (l : List ℕ). Stands (sum_field l) sum (front ++ last) (length front) (length (front ++ last))) (sym before) (stands_behind (sum_field front) sum front last s) in
    is_file (front ++ last) moment (length items) state (length front) sum (length (front ++ last)) whole e t
