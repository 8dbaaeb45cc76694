-- Elements of collections, read and put in.
use Rattle.std.proofs.Common.{◌≡◌, inl, ℕ, suc, ◌-◌, ◌≤◌, Bool, true, false, not, List, [], ◌∷◌, ◌++◌, length, take, drop, Option, Some, None, Result, Ok, Err, refl, sym, ap, subst, ◌∙◌, arith}
use Rattle.std.specs.Prelude.{is_none, is_some, ℤ, IfOk}
use Rattle.std.proofs.lemmas.List.{take_all, drop_all, length-drop}
use Rattle.std.specs.FinMap.{get, insert}
use Rattle.plain_world.specs.Worlds.{World, Value, ListOf, SetOf, HashOf, SortedOf}
use Rattle.rdb_grammar.specs.declared.fault.LoadKind.{LoadKind}
use Rattle.rdb_grammar.specs.declared.fault.LoadKind.TheVariants as kinds
use Rattle.rdb_grammar.specs.Format.{Format, give, in_turn}
use Rattle.rdb_grammar.proofs.Exactly.{Exact}
use Rattle.rdb_grammar.specs.Strings.{string}
use Rattle.rdb_grammar.specs.Scores.{score}
use Rattle.rdb_grammar.specs.declared.values.Layout.{Layout}
use Rattle.rdb_grammar.specs.Elements.{Map, fresh, with_one, without_any}
use Rattle.rdb_grammar.specs.Layouts.{started, laid_on}
use Rattle.rdb_grammar.specs.Places.{Stands, Fails}
use Rattle.rdb_grammar.proofs.StringsExact.{string_exact}
use Rattle.rdb_grammar.proofs.PartsExact.{score_exact, with_one_exact}
use Rattle.rdb_grammar.proofs.Standing.{reads, reads_fault}
use Rattle.rdb_grammar.proofs.Partly.{stands_read, fails_read}
use Rattle.rdb_grammar.proofs.Turns.{GoesOn, one_fails}
use Rattle.rdb_reader.specs.Building.{Reads, FillsLaid, ReadsCollection}
use Rattle.rdb_reader.specs.declared.fault.LoadFault.{LoadFault}
use Rattle.rdb_reader.specs.declared.fault.LoadFault.TheVariants as loads

-- whether nothing is there, by whether something is
none_some : {A : Type 0} (o : Option A) → is_none o ≡ not (is_some o)
none_some None = refl
none_some (Some x) = refl

pub none_not : {A : Type 0} (o : Option A) (b : Bool) → b ≡ not (is_some o) → is_none o ≡ b
none_not o b e = none_some o ∙ sym e

pub none_fresh : {A : Type 0} (o : Option A) → o ≡ None → true ≡ not (is_some o)
none_fresh o e = ap (λ o. not (is_some o)) (sym e)

pub some_there : {A : Type 0} (o : Option A) (x : A) → o ≡ Some x → false ≡ not (is_some o)
some_there o x e = ap (λ o. not (is_some o)) (sym e)

module _ (bytes : List ℕ) (at next : ℕ) (text : List ℕ) (s : Stands string text bytes at next) where
  within : at ≤ length bytes
  within = let first : at ≤ next = s.onward in let second : next ≤ length bytes = s.inside in omega (arith, first, second)

  read : string.read (drop at bytes) ≡ Ok (text, drop next bytes)
  read = reads string string_exact text bytes at next s

  -- an element of a list
  pub pushed : (elements : List (List ℕ)) → Stands (with_one (ListOf elements)) (ListOf (elements ++ text ∷ [])) bytes at next
  pushed elements =
      let whole : (with_one (ListOf elements)).read (drop at bytes) ≡ Ok (ListOf (elements ++ text ∷ []), drop next bytes) = rw read refl in
      stands_read (with_one (ListOf elements)) (with_one_exact (ListOf elements)) bytes at next (ListOf (elements ++ text ∷ [])) within s.inside whole

  module _ {A : Type 0} (before : Map A) where
    fresh_read : is_none (get before text) ≡ true → (fresh before).read (drop at bytes) ≡ Ok (text, drop next bytes)
    fresh_read h = rw (read, h) refl

    twice_read : is_none (get before text) ≡ false → (fresh before).read (drop at bytes) ≡ Err (kinds.DuplicateElement, length bytes - at)
    twice_read h =
        let here : (fresh before).read (drop at bytes) ≡ Err (kinds.DuplicateElement, length (drop at bytes) - 0) = rw (read, h) refl in
        let left : length (drop at bytes) - 0 ≡ length bytes - at = omega (arith, length-drop at bytes) in
        here ∙ ap (λ (n : ℕ). Err (kinds.DuplicateElement, n)) left

  -- a member of a set
  pub joined : (members : Map (Unit {0})) → true ≡ not (is_some (get members text)) → Stands (with_one (SetOf members)) (SetOf (insert members text tt)) bytes at next
  joined members new =
      let whole : (with_one (SetOf members)).read (drop at bytes) ≡ Ok (SetOf (insert members text tt), drop next bytes) = rw (fresh_read members (none_not _ true new)) refl in
      stands_read (with_one (SetOf members)) (with_one_exact (SetOf members)) bytes at next (SetOf (insert members text tt)) within s.inside whole

  pub joined_twice : (members : Map (Unit {0})) → false ≡ not (is_some (get members text)) → Fails (with_one (SetOf members)) bytes at kinds.DuplicateElement at
  joined_twice members old =
      let whole : (with_one (SetOf members)).read (drop at bytes) ≡ Err (kinds.DuplicateElement, length bytes - at) = rw (twice_read members (none_not _ false old)) refl in
      fails_read (with_one (SetOf members)) (with_one_exact (SetOf members)) bytes at kinds.DuplicateElement at within within whole

  pub field_twice : (fields : Map (List ℕ)) → false ≡ not (is_some (get fields text)) → Fails (with_one (HashOf fields)) bytes at kinds.DuplicateElement at
  field_twice fields old =
      let whole : (with_one (HashOf fields)).read (drop at bytes) ≡ Err (kinds.DuplicateElement, length bytes - at) = rw (twice_read fields (none_not _ false old)) refl in
      fails_read (with_one (HashOf fields)) (with_one_exact (HashOf fields)) bytes at kinds.DuplicateElement at within within whole

  pub score_twice : (scores : Map ℤ) → false ≡ not (is_some (get scores text)) → Fails (with_one (SortedOf scores)) bytes at kinds.DuplicateElement at
  score_twice scores old =
      let whole : (with_one (SortedOf scores)).read (drop at bytes) ≡ Err (kinds.DuplicateElement, length bytes - at) = rw (twice_read scores (none_not _ false old)) refl in
      fails_read (with_one (SortedOf scores)) (with_one_exact (SortedOf scores)) bytes at kinds.DuplicateElement at within within whole

  -- a field and its value
  pub field_set : (fields : Map (List ℕ)) (value : List ℕ) (last : ℕ) → Stands string value bytes next last → true ≡ not (is_some (get fields text))
      → Stands (with_one (HashOf fields)) (HashOf (insert fields text value)) bytes at last
  field_set fields value last t new =
      let other : string.read (drop next bytes) ≡ Ok (value, drop last bytes) = reads string string_exact value bytes next last t in
      let whole : (with_one (HashOf fields)).read (drop at bytes) ≡ Ok (HashOf (insert fields text value), drop last bytes) = rw (fresh_read fields (none_not _ true new), other) refl in
      stands_read (with_one (HashOf fields)) (with_one_exact (HashOf fields)) bytes at last (HashOf (insert fields text value)) within t.inside whole

  pub value_fails : (fields : Map (List ℕ)) (which : LoadKind) (place : ℕ) → Fails string bytes next which place → true ≡ not (is_some (get fields text))
      → Fails (with_one (HashOf fields)) bytes at which place
  value_fails fields which place f new =
      let other : string.read (drop next bytes) ≡ Err (which, length bytes - place) = reads_fault string string_exact bytes next which place f in
      let whole : (with_one (HashOf fields)).read (drop at bytes) ≡ Err (which, length bytes - place) = rw (fresh_read fields (none_not _ true new), other) refl in
      fails_read (with_one (HashOf fields)) (with_one_exact (HashOf fields)) bytes at which place within f.inside whole

  -- a member and its score
  pub score_set : (scores : Map ℤ) (n : ℤ) (last : ℕ) → Stands score n bytes next last → true ≡ not (is_some (get scores text))
      → Stands (with_one (SortedOf scores)) (SortedOf (insert scores text n)) bytes at last
  score_set scores n last t new =
      let other : score.read (drop next bytes) ≡ Ok (n, drop last bytes) = reads score score_exact n bytes next last t in
      let whole : (with_one (SortedOf scores)).read (drop at bytes) ≡ Ok (SortedOf (insert scores text n), drop last bytes) = rw (fresh_read scores (none_not _ true new), other) refl in
      stands_read (with_one (SortedOf scores)) (with_one_exact (SortedOf scores)) bytes at last (SortedOf (insert scores text n)) within t.inside whole

  pub score_fails : (scores : Map ℤ) (which : LoadKind) (place : ℕ) → Fails score bytes next which place → true ≡ not (is_some (get scores text))
      → Fails (with_one (SortedOf scores)) bytes at which place
  score_fails scores which place f new =
      let other : score.read (drop next bytes) ≡ Err (which, length bytes - place) = reads_fault score score_exact bytes next which place f in
      let whole : (with_one (SortedOf scores)).read (drop at bytes) ≡ Err (which, length bytes - place) = rw (fresh_read scores (none_not _ true new), other) refl in
      fails_read (with_one (SortedOf scores)) (with_one_exact (SortedOf scores)) bytes at which place within f.inside whole

-- the fault of the string that an element begins with
module _ (bytes : List ℕ) (at : ℕ) (which : LoadKind) (place : ℕ) (f : Fails string bytes at which place) where
  pub push_fails : (elements : List (List ℕ)) → Fails (with_one (ListOf elements)) bytes at which place
  push_fails elements = record { onward = f.onward; inside = f.inside; faulty = inl f.faulty }

  pub member_fails : (members : Map (Unit {0})) → Fails (with_one (SetOf members)) bytes at which place
  member_fails members = record { onward = f.onward; inside = f.inside; faulty = inl (inl f.faulty) }

  pub field_fails : (fields : Map (List ℕ)) → Fails (with_one (HashOf fields)) bytes at which place
  field_fails fields = record { onward = f.onward; inside = f.inside; faulty = inl (inl f.faulty) }

  pub scored_fails : (scores : Map ℤ) → Fails (with_one (SortedOf scores)) bytes at which place
  scored_fails scores = record { onward = f.onward; inside = f.inside; faulty = inl (inl f.faulty) }

-- where nothing is read, nothing is added
pub nothing_added : (value : Value) (bytes : List ℕ) (at : ℕ) → at ≤ length bytes → Stands (give value) value bytes at at
nothing_added value bytes at le =
    let none : at - at ≡ 0 = omega arith in
    record { onward = omega arith; inside = le; spelled = (refl, ap (λ (n : ℕ). take n (drop at bytes)) none) }

-- what is put in behind all others is at the end
pub appended : (xs : List (List ℕ)) (i : ℕ) (x y : List ℕ) → i ≡ length xs → x ≡ y → take i xs ++ x ∷ drop i xs ≡ xs ++ y ∷ []
appended xs i x y end same =
    ap (λ (z : List (List ℕ)). z ++ x ∷ drop i xs) (take_all i xs (omega (arith, end))) ∙ ap (λ (z : List (List ℕ)). xs ++ x ∷ z) (drop_all i xs (omega (arith, end)))
    ∙ ap (λ (z : List ℕ). xs ++ z ∷ []) same

-- the fault of a part is that of all
pub fails_on : (one : Value → Format Value) (exact : (made : Value) → Exact (one made)) (bytes : List ℕ) (from n : ℕ) (first : Value) (at rest : ℕ) (made new : Value) → from ≤ length bytes
    → GoesOn one bytes from n first at (suc rest) made → (fault : LoadFault) → Reads (one made) bytes at new (Err fault) → Reads (in_turn one n first) bytes from new (Err fault)
fails_on one exact bytes from n first at rest made new le h (loads.Refused what place) f = one_fails one exact bytes from n first at rest made what place le h f
fails_on one exact bytes from n first at rest made new le h loads.Host f = f
fails_on one exact bytes from n first at rest made new le h loads.Limit f = f
fails_on one exact bytes from n first at rest made new le h loads.Memory f = f

-- what holds where an answer came leads to another
pub on_ok : {A E : Type 0} {P Q : Type 0} (result : Result A E) → (P → Q) → IfOk result (λ x. P) → IfOk result (λ x. Q)
on_ok (Ok x) f p = f p
on_ok (Err e) f p = tt

-- the fault of what is laid out is the collection's
pub unfilled : (bytes : List ℕ) (moment : ℕ) (old new : World) (name : List ℕ) (layout : Layout) (at : ℕ) (deadline : Option ℕ) (first made : Value) → first ≡ without_any (started layout)
    → (fault : LoadFault) → FillsLaid bytes at layout first made (Err fault) → ReadsCollection bytes moment old new name layout at deadline (Err fault)
unfilled bytes moment old new name layout at deadline first made is (loads.Refused what place) f = subst (λ (v : Value). Fails (laid_on layout v) bytes at what place) is f
unfilled bytes moment old new name layout at deadline first made is loads.Host f = f
unfilled bytes moment old new name layout at deadline first made is loads.Limit f = f
unfilled bytes moment old new name layout at deadline first made is loads.Memory f = tt
