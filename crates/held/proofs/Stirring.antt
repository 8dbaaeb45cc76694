-- Which tables may be in a rehash behind a call of `shrink`.
use Rattle.std.proofs.Common.{◌≡◌, ◌≢◌, inl, inr, ℕ, ◌<◌, Bool, false, List, length, get_or, set, map, Result, Ok, None, sym, ap, ◌∙◌, subst, nat_lt}
use Rattle.std.specs.Prelude.{IfOk, OnOk}
use Rattle.std.proofs.lemmas.Bool.{cases_eq, cond-false}
use Rattle.std.proofs.lemmas.List.{get_or-set_same, get_or-set_other, get_or_default, length-map}
use Rattle.blocks.specs.Blocks.{Blocks}
use Rattle.rehash_dict.specs.Tables.{Tables, is_rehashing, named, wants_shrink, shrunk}
use Rattle.rehash_dict.specs.Table.{tables, item}
use Rattle.rehash_dict.specs.Keyed.{key_of, key_tables}
use Rattle.rehash_dict.proofs.Named.{wants_named}
use Rattle.held.specs.declared.databases.Base.{Base}
use Rattle.held.specs.Table.{Table}
use Rattle.held.specs.Databases.{Bases, no_base, base_at}
use Rattle.held.specs.Rehash.{keys_move, deadlines_move, AreStill}

-- nothing is begun where nothing is to be
shrinks_none : {X : Type 0} (t : Tables X) → wants_shrink t ≡ false → shrunk t ≡ t
unfolding shrunk
shrinks_none t none = cond-false (wants_shrink t) _ _ none

-- names of elements say nothing of a rehash
going_named : {X Y : Type 0} (f : X → Y) (t : Tables X) → is_rehashing (named f t) ≡ is_rehashing t
going_named f t = ap (nat_lt 0) (length-map t.newer (map f))

-- a call of `shrink` that begins nothing leaves whether a rehash is going on
pub going_shrunk : {V E : Type 0} (old new : Table V) (result : Result Bool E) → IfOk result (λ began. began ≡ wants_shrink (tables old))
    → ((blocks : Blocks) → OnOk result (key_tables blocks new ≡ shrunk (key_tables blocks old))) → result ≡ Ok false
    → is_rehashing (tables new) ≡ is_rehashing (tables old)
going_shrunk {E = E} old new result value tables_are is =
    let none : Blocks = λ r. None in
    let calm : false ≡ wants_shrink (tables old) = subst (λ (r : Result Bool E). IfOk r (λ began. began ≡ wants_shrink (tables old))) is value in
    let made : key_tables none new ≡ shrunk (key_tables none old) = subst (λ (r : Result Bool E). OnOk r (key_tables none new ≡ shrunk (key_tables none old))) is (tables_are none) in
    let name_old : ℕ → List ℕ = λ at. key_of none (item old at) in
    let name_new : ℕ → List ℕ = λ at. key_of none (item new at) in
    sym (going_named name_new (tables new))
    ∙ ap is_rehashing (made ∙ shrinks_none (key_tables none old) (wants_named name_old (tables old) ∙ sym calm))
    ∙ going_named name_old (tables old)

-- where one database changes, and no rehash begins in it, none is going on where none was
module _ {V : Type 0} (old new : Bases V) (db : ℕ) (was base : Base V) (is : new.bases ≡ set old.bases db base) (within : db < length old.bases) (here : was ≡ get_or old.bases db was) where
  at_db : base_at new db ≡ base
  at_db = ap (λ t. get_or t db (no_base 0)) is ∙ get_or-set_same old.bases db base (no_base 0) within

  was_db : was ≡ base_at old db
  was_db = here ∙ get_or_default old.bases db was (no_base 0) within

  at_other : (number : ℕ) → number ≢ db → base_at new number ≡ base_at old number
  at_other number other = ap (λ t. get_or t number (no_base 0)) is ∙ get_or-set_other old.bases db number base (no_base 0) other

  pub still_set : is_rehashing (tables base.keys) ≡ is_rehashing (tables was.keys) → is_rehashing (tables base.deadlines.table) ≡ is_rehashing (tables was.deadlines.table) → AreStill old
      → AreStill new
  still_set keys times still = record {
    keys = λ number. elim (cases_eq number db) [
      | inl same ↦ ap (keys_move new) same ∙ ap (λ (b : Base V). is_rehashing (tables b.keys)) at_db ∙ keys ∙ ap (λ (b : Base V). is_rehashing (tables b.keys)) was_db ∙ still.keys db
      | inr other ↦ ap (λ (b : Base V). is_rehashing (tables b.keys)) (at_other number other) ∙ still.keys number
    ];
    deadlines = λ number. elim (cases_eq number db) [
      | inl same ↦ ap (deadlines_move new) same ∙ ap (λ (b : Base V). is_rehashing (tables b.deadlines.table)) at_db ∙ times
          ∙ ap (λ (b : Base V). is_rehashing (tables b.deadlines.table)) was_db ∙ still.deadlines db
      | inr other ↦ ap (λ (b : Base V). is_rehashing (tables b.deadlines.table)) (at_other number other) ∙ still.deadlines number
    ];
  }
