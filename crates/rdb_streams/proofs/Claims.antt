-- What is unclaimed, after each of the calls.
use Rattle.std.proofs.Common.{◌≡◌, length, List, Option, Some, None, is_some, refl, sym, ap, ◌∙◌}
use Rattle.std.specs.Option.{option_map}
use Rattle.std.specs.Map.{lookup}
use Rattle.std.specs.Ordering.{eq_by_cmp}
use Rattle.std.specs.FinMap as map
use Rattle.std.proofs.lemmas.List.{length-map}
use Rattle.stream_groups.specs.Groups.{Id, id_cmp}
use Rattle.stream_groups.specs.Kept.{IdsRise}
use Rattle.stream_groups.proofs.Uses.{numbered_entries, numbered_get}
use Rattle.rdb_grammar.specs.declared.streams.Handed.{Handed}
use Rattle.rdb_grammar.specs.Views.{handed_of}
use Rattle.rdb_streams.specs.Claims.{Claims, claims_of}

is_some-map : {A B : Type 0} (f : A → B) (x : Option A) → is_some x ≡ is_some (option_map f x)
is_some-map f None = refl
is_some-map f (Some x) = refl

module _ (es : List (Id × Handed)) (claims : Claims) (rising : IdsRise es) (view : claims_of es ≡ claims) where
  -- What is found of an id is what is unclaimed there.
  pub claim_found : (q : Id) → option_map handed_of (lookup (eq_by_cmp id_cmp q) es) ≡ map.get claims q
  claim_found q = sym (numbered_get handed_of es rising q) ∙ ap (λ m. map.get m q) view

  -- Whether it is found says whether it is there.
  pub claim_there : (q : Id) → is_some (lookup (eq_by_cmp id_cmp q) es) ≡ map.contains_key claims q
  claim_there q = is_some-map handed_of _ ∙ ap is_some (claim_found q)

  -- There are as many as are seen.
  pub claims_len : length es ≡ map.len claims
  claims_len =
      sym (length-map es (λ (e : Id × Handed). (e.0, handed_of e.1))) ∙ ap length (sym (numbered_entries handed_of es rising))
      ∙ sym (map.len-entries (claims_of es)) ∙ ap map.len view
