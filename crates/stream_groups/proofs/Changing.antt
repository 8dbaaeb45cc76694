-- What becomes of the groups where one changes.
use Rattle.std.proofs.Common.{◌≡◌, ℕ, List, Option, Some, None, is_some, inl, inr, IfSome, IsTrue, refl, sym, ap, subst, ◌∙◌}
use Rattle.std.proofs.lemmas.Bool.{cond-true, cond-false, cases_Bool}
use Rattle.std.specs.Ordering.{eq_by_cmp, is_eq}
use Rattle.std.specs.Cmp.{tied_itself}
use Rattle.stream_groups.proofs.Owned.{added_there}
use Rattle.std.specs.Map.{lookup, set_value}
use Rattle.std.specs.FinMap as map
use Rattle.std.specs.FinMap.{FinMap}
use Rattle.stream_groups.specs.Groups.{Group, Groups, name_cmp, changed, changed_from, has_consumer, with_consumer}
use Rattle.stream_groups.specs.Kept.{Name, named, NamesRise}
use Rattle.stream_groups.proofs.Maps.{equal}
use Rattle.stream_groups.proofs.Orders.{name_total, name_same}
use Rattle.stream_groups.proofs.Uses.{is_named, group_found, named_set}

-- To put what stands there changes nothing.
pub put_same_in_changing : {X : Type 0} (m : FinMap name_cmp X) (q : List ℕ) (x : X) → map.get m q ≡ Some x → map.insert m q x ≡ m
put_same_in_changing m q x is = map.same_map name_total name_same _ _ (λ p. map.get-insert name_total m q x p ∙ elim (cases_Bool (eq_by_cmp name_cmp p q)) [
  | inl same ↦ cond-true _ _ _ same ∙ sym is ∙ ap (map.get m) (sym (name_same p q (equal _ same)))
  | inr other ↦ cond-false _ _ _ other
])

module _ (es : List (Name × Group)) (groups : Groups) (q : List ℕ) (rising : NamesRise es) (view : named (λ g. g) es ≡ groups) where
  -- There is no such group.
  pub at_none_in_changing : (change : Group → Group) → None ≡ lookup (is_named q) es → groups ≡ changed groups q change
  at_none_in_changing change none = ap (changed_from groups q change) (none ∙ group_found es groups q rising view)

  module _ (new : List (Name × Group)) (was group : Group) (found : Some was ≡ lookup (is_named q) es) (written : new ≡ set_value (is_named q) es group) (after : NamesRise new) where
    put_group : named (λ g. g) new ≡ map.insert groups q group
    put_group = named_set (λ (g : Group). g) es rising new after q group (sym (ap is_some found)) written ∙ ap (λ m. map.insert m q group) view

    -- The group has changed.
    pub at_some_in_changing : (change : Group → Group) → group ≡ change was → named (λ g. g) new ≡ changed groups q change
    at_some_in_changing change is = put_group ∙ ap (map.insert groups q) is ∙ ap (changed_from groups q change) (found ∙ group_found es groups q rising view)

    -- The group is what it was.
    pub at_same_in_changing : group ≡ was → named (λ g. g) new ≡ groups
    at_same_in_changing is = put_group ∙ ap (map.insert groups q) is ∙ put_same_in_changing groups q was (sym (found ∙ group_found es groups q rising view))

-- A consumer that was added to a group is there.
pub consumer_added : (groups : Groups) (name consumer : List ℕ) → IfSome (map.get (changed groups name (with_consumer consumer)) name) (λ group. IsTrue (has_consumer consumer group))
consumer_added groups name consumer = by (map.get groups name) refl
  where
    by : (o : Option Group) → map.get groups name ≡ o → IfSome (map.get (changed_from groups name (with_consumer consumer) o) name) (λ group. IsTrue (has_consumer consumer group))
    by None is = subst (λ o. IfSome o (λ group. IsTrue (has_consumer consumer group))) (sym is) tt
    by (Some group) is = subst (λ o. IfSome o (λ g. IsTrue (has_consumer consumer g)))
        (sym (map.get-insert name_total groups name (with_consumer consumer group) name ∙ cond-true _ _ _ (ap is_eq (tied_itself name_total name)))) (added_there group.consumers consumer)
