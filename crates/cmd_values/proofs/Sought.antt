-- What was found of a key, where its string is made or seen.
use Rattle.std.proofs.Common.{◌≡◌, ℕ, List, [], Option, None, Some, IfSome, IfNone, sym, ◌∙◌, arith}
use Rattle.std.proofs.lemmas.Bool.{cond-true}
use Rattle.blocks.specs.declared.BlockRef.{BlockRef}
use Rattle.blocks.specs.Blocks.{Blocks, Changes, ref_eq}
use Rattle.blocks.proofs.Change.{one_if}
use Rattle.blocks.proofs.Refs.{ref_eq_refl}
use Rattle.held.specs.declared.seeking.Sought.{Sought}
use Rattle.held.specs.Calls.{Seeks}
use Rattle.held.specs.Databases.{table_at}
use Rattle.held.specs.Table.{Element, item, Stands, Lacks}
use Rattle.held.proofs.Bases.{kept_inside, table_owned}
use Rattle.held.proofs.Tables.{named_in}
use Rattle.keyspace.specs.declared.value.Value.{Value}
use Rattle.keyspace.specs.Databases.{Bases}
use Rattle.keyspace.specs.Sound.{Sound}
use Rattle.keyspace.specs.Values.{value_refs, value_of, value_own}
use Rattle.keyspace.proofs.Uses.{sound_is_intact}

-- what was found of a key stands over a store where a value was made
pub kept_seeks : (bases : Bases) (m after : Blocks) (db : ℕ) (key : List ℕ) (sought : Sought) (ys : List BlockRef) → Sound bases m → Changes m after [] ys → Seeks bases m db key sought
    → Seeks bases after db key sought
kept_seeks bases m after db key sought ys sound p s = record {
  hashed = s.hashed;
  stands = stands sought.item s.stands;
  lacks = lacks sought.item s.lacks;
}
  where
    same : (at : ℕ) (e : Element Value) → item (table_at bases db) at ≡ Some e → after e.key ≡ m e.key
    same at e found =
        kept_inside value_refs value_of value_own bases m after [] [] ys (sound_is_intact bases m [] sound) p (λ r. omega arith) e.key
        (let itself : one_if (ref_eq e.key e.key) ≡ 1 = cond-true _ _ _ (ref_eq_refl e.key) in
        omega (arith, itself, named_in (value_refs m) (table_at bases db) at e e.key found, table_owned (value_refs m) bases db e.key))

    stands : (o : Option ℕ) → IfSome o (λ at. Stands m (table_at bases db) at key) → IfSome o (λ at. Stands after (table_at bases db) at key)
    stands None h = tt
    stands (Some at) h = record { element = h.element; found = h.found; bytes = same at h.element h.found ∙ h.bytes }

    lacks : (o : Option ℕ) → IfNone o (Lacks m (table_at bases db) key) → IfNone o (Lacks after (table_at bases db) key)
    lacks None h = record { each = λ at e found is. h.each at e found (sym (same at e found) ∙ is) }
    lacks (Some at) h = tt
