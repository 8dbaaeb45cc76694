-- What the elements of a key table keep, name and mean.
use Rattle.std.proofs.Common.{◌≡◌, ℕ, zero, suc, ◌≤◌, List, [], ◌∷◌, flat_map, get_or, set, length, ◌<◌, Option, Some, unwrap_or, refl, sym, ap, ◌∙◌, subst, arith}
use Rattle.std.proofs.lemmas.Bool.{cond-true}
use Rattle.std.proofs.lemmas.List.{get_or-set_same, get_or-set_other, get_or_default, length-set}
use Rattle.blocks.specs.declared.BlockRef.{BlockRef}
use Rattle.blocks.specs.Blocks.{Blocks, ref_eq, bytes_at, times}
use Rattle.blocks.proofs.Times.{times-append}
use Rattle.blocks.proofs.Refs.{ref_eq_refl}
use Rattle.blocks.proofs.Change.{one_if}
use Rattle.rehash_dict.specs.Placed.{no_table}
use Rattle.rehash_dict.specs.Table.{at_item}
pub use Rattle.rehash_dict.proofs.MapOf.{map_of_empty}
use Rattle.held.specs.Table.{Table, Element, item, no_keys, Keyed, own_of, refs}
use Rattle.held.specs.declared.databases.Base.{Base}
use Rattle.held.specs.Databases.{Bases, base_at, no_base, SameSettings, ChangesBase}

-- ---- elements

-- a reference is itself once
pub key_itself : (r : BlockRef) → one_if (ref_eq r r) ≡ 1
key_itself r = cond-true _ _ _ (ref_eq_refl r)

pub some_bytes : (blocks : Blocks) (r : BlockRef) (key : List ℕ) → blocks r ≡ Some key → bytes_at blocks r ≡ key
some_bytes blocks r key h = ap (λ o. unwrap_or o []) h

module _ {V : Type 0} where
  -- what an element names is among what its table names
  pub named_in : (own : V → List BlockRef) (t : Table V) (at : ℕ) (e : Element V) (r : BlockRef) → item t at ≡ Some e → times r (e.key ∷ own e.value) ≤ times r (refs own t)
  named_in own t at e r found = in_list t.items at found
    where
      in_list : (items : List (Option (Element V))) (at : ℕ) → at_item items at ≡ Some e → times r (e.key ∷ own e.value) ≤ times r (flat_map (own_of own) items)
      in_list [] at found = cc
      in_list (x ∷ items) zero found =
          (let here : times r (own_of own x) ≡ times r (e.key ∷ own e.value) = ap (λ o. times r (own_of own o)) found in
          omega (arith, here, times-append r (own_of own x) (flat_map (own_of own) items)))
      in_list (x ∷ items) (suc at) found = omega (arith, in_list items at found, times-append r (own_of own x) (flat_map (own_of own) items))

  -- a table without a key
  pub keyed_none : (m : Blocks) (seed : ℕ) → Keyed m (no_keys {V = V} seed)
  keyed_none m seed = record {
    placed = record {
      kept = record {
        stand = record {
          of_older = λ k at named. absurd (omega (arith, named));
          of_newer = λ k at named. absurd (omega (arith, named));
          once = λ at e found. cc;
          counted = refl;
          older_size = no_table refl;
          newer_size = no_table refl;
        };
        waits = λ some. absurd (omega (arith, some));
        passed = λ k before. refl;
        begins = λ none. refl;
      };
      below = λ at some. cc;
    };
    live = λ at e found. cc;
    hashed = λ at e found. cc;
    apart = λ at other e f one two same. cc;
  }

  -- a fact of what stood in a database's place, and what stands there now
  pub in_place : (list : List (Base V)) (bases : Bases V) (db : ℕ) (was new : Base V) (R : Base V → Base V → Type 0) → list ≡ bases.bases → db < length bases.bases
      → was ≡ get_or list db was → R was new → R (base_at bases db) (get_or (set list db new) db (no_base 0))
  in_place list bases db was new R same within here r =
      let inside : db < length list = subst (λ t. db < length t) (sym same) within in
      subst (λ t. R (base_at bases db) t) (sym (get_or-set_same list db new (no_base 0) inside))
      (subst (λ t. R t new) (here ∙ get_or_default list db was (no_base 0) inside ∙ ap (λ t. get_or t db (no_base 0)) same) r)

  -- what stands in a database's place is that database
  pub place_is : (list : List (Base V)) (bases : Bases V) (db : ℕ) (was : Base V) → list ≡ bases.bases → db < length bases.bases → was ≡ get_or list db was → was ≡ base_at bases db
  place_is list bases db was same within here =
      here ∙ get_or_default list db was (no_base 0) (subst (λ t. db < length t) (sym same) within) ∙ ap (λ t. get_or t db (no_base 0)) same

  -- no database changes but the one in whose place another stands
  pub others_stay : (old new : Bases V) (db : ℕ) (b : Base V) → new.bases ≡ set old.bases db b → SameSettings old new → ChangesBase old new db
  others_stay old new db b is settings = record {
    others = λ number other. ap (λ t. get_or t number (no_base 0)) is ∙ get_or-set_other old.bases db number b (no_base 0) other;
    count = ap length is ∙ length-set old.bases db b;
    settings = settings;
  }
