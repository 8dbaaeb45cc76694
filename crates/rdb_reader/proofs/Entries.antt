-- A key of a file is looked up and put.
use Rattle.std.proofs.Common.{◌≡◌, ℕ, ◌+◌, List, [], None, Bool, true, false, cond, arith, Result, Ok, Err, OnOk, refl, sym, ap, ◌∙◌}
use Rattle.std.specs.Prelude.{Option, Some, is_some, IfSome, IfNone}
use Rattle.std.proofs.lemmas.Bool.{cond-true, eq-eqb, le-leb}
use Rattle.std.specs.FinMap.{len, len-insert}
use Rattle.std.specs.Cmp.Lexicographic.{nat_list_cmp_total}
use Rattle.blocks.specs.Blocks.{Blocks, Changes}
use Rattle.plain_world.specs.Worlds.{World, Value, Entry, look, put, live, in_time}
use Rattle.keyspace.specs.declared.value.Value as code
use Rattle.keyspace.specs.Values as values
use Rattle.keyspace.specs.Databases.{Bases, means}
use Rattle.held.proofs.Within.{within_wider}
use Rattle.keyspace.specs.Sound.{Sound}
use Rattle.keyspace.specs.Scopes.{one_key, Within}
use Rattle.keyspace.specs.Calls.{Found}
use Rattle.plain_world.proofs.Lives.{shown, look_live}
use Rattle.keyspace.proofs.Uses.{made_means}
use Rattle.rdb_grammar.specs.Files.{is_kept}
use Rattle.rdb_reader.specs.declared.keys.Put.TheVariants as puts
use Rattle.rdb_reader.specs.Loads.{Puts, any_key}

-- whether something stands there, by what was found
module _ (db : ℕ) (bases : Bases) (m : Blocks) (key : List ℕ) where
  -- no deadline is past at moment 0
  at_zero : look (live (means db bases m) 0) key ≡ look (means db bases m) key
  at_zero = look_live (means db bases m) 0 key ∙ all (look (means db bases m) key)
    where
      lasting : (e : Entry) (d : Option ℕ) → cond (in_time 0 d) (Some e) None ≡ Some e
      lasting e None = refl
      lasting e (Some deadline) = cond-true _ _ _ (le-leb 0 deadline (omega arith))

      all : (o : Option Entry) → shown 0 o ≡ o
      all None = refl
      all (Some e) = lasting e e.deadline

  pub is_found : {A : Type 0} (view : A → code.Value) (o : Option A) → IfSome o (λ a. Found bases m db key 0 (view a)) → IfNone o (look (live (means db bases m) 0) key ≡ None)
      → is_some o ≡ is_some (look (means db bases m) key)
  is_found view (Some a) found none = sym (ap is_some found.stands) ∙ ap is_some at_zero
  is_found view None found none = sym (ap is_some none) ∙ ap is_some at_zero

-- one key is any
pub one_of_any : (db : ℕ) (key : List ℕ) (old new : Bases) (m after : Blocks) → Within (one_key db key) old new m after → Within any_key old new m after
one_of_any db key old new m after p = within_wider values.value_refs (one_key db key) any_key (λ number touched. tt) (λ number other named. tt) (λ number no. no) old new m after p

-- a value that was made is put
pub value_put : {E : Type 0} (db : ℕ) (bases : Bases) (m after : Blocks) (made : code.Value) (sound : Sound bases m) (p : Changes m after [] (values.value_refs after made)) (new : Bases)
    (later : Blocks) (key : List ℕ) (value : Value) (deadline : Option ℕ)
    → values.value_of after made ≡ value → (result : Result (Unit {0}) E)
    → OnOk result (means db new later ≡ put (means db bases after) key (record { value = values.value_of after made; deadline = deadline }))
    → OnOk result (means db new later ≡ put (means db bases m) key (record { value = value; deadline = deadline }))
value_put db bases m after made sound p new later key value deadline is (Ok u) h = h ∙ (λ i. put (made_means bases m after made sound p db i) key (record { value = is i; deadline = deadline }))
value_put db bases m after made sound p new later key value deadline is (Err e) h = tt

-- what looking said of a key whose deadline is past
module _ (moment : ℕ) (old : World) (key : List ℕ) (entry : Entry) (there : Bool) (is : there ≡ is_some (look old key)) where
  nothing : (o : Option Entry) → is_some o ≡ false → o ≡ None
  nothing None h = refl
  nothing (Some x) h = cc

  pub lacks : there ≡ false → look old key ≡ None
  lacks lacked = nothing (look old key) (sym is ∙ lacked)

  pub stood : there ≡ true → Puts moment old old key entry puts.Twice
  stood found none = let e : true ≡ false = sym found ∙ is ∙ ap is_some none in cc

  pub passed_over : there ≡ false → is_kept moment entry.deadline entry.value ≡ false → Puts moment old old key entry puts.Passed
  passed_over lacked late = (nothing (look old key) (sym is ∙ lacked), late, refl)

-- what the count of keys says of a key that was put
module _ (moment : ℕ) (old new : World) (key : List ℕ) (entry : Entry) (e : new ≡ put old key entry) where
  abbrev pub count : ℕ
  count = len (old.bases old.selected)

  counted : (o : Option Entry) → look old key ≡ o → len (new.bases old.selected) ≡ cond (is_some o) count (count + 1)
  counted o is =
      ap (λ (w : World). len (w.bases old.selected)) e
      ∙ ap len (cond-true _ _ _ (eq-eqb old.selected old.selected refl))
      ∙ len-insert nat_list_cmp_total (old.bases old.selected) key entry
      ∙ ap (λ o. cond (is_some o) count (count + 1)) is

  module _ (before after : ℕ) (first : before ≡ count) (last : after ≡ len (new.bases old.selected)) where
    pub put_twice : after ≡ before → Puts moment old new key entry puts.Twice
    put_twice same none = omega (arith, first, last, same, counted None none)

    pub put_once : (after ≡ before → ⊥) → is_kept moment entry.deadline entry.value ≡ true → Puts moment old new key entry puts.Kept
    put_once other kept = (lacked (look old key) refl, kept, e)
      where
        lacked : (o : Option Entry) → look old key ≡ o → o ≡ None
        lacked None is = refl
        lacked (Some x) is = absurd (other (last ∙ counted (Some x) is ∙ sym first))
