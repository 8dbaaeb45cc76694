-- Fields taken out of a hash.
use Rattle.std.proofs.Common.{◌≡◌, inl, inr, ◌⊎◌, Bool, true, false, List, ℕ, Option, None, Some, Result, Ok, Err, OnErr, refl, sym, ap, subst, ◌∙◌}
use Rattle.std.specs.Prelude.{◌≢◌, is_some}
use Rattle.std.specs.Ordering.{nat_cmp, eq_by_cmp, is_eq}
use Rattle.std.specs.declared.cmp.Ordering.{Ordering}
use Rattle.std.specs.declared.cmp.Ordering.TheVariants.{Less, Equal, Greater}
use Rattle.std.specs.Cmp.Lexicographic.{slice_cmp, nat_list_cmp_total}
use Rattle.std.specs.FinMap.{get, remove, len, contains_key, get-remove, slice_cmp-IsAntisymmetric, nat_cmp-IsAntisymmetric}
use Rattle.std.proofs.lemmas.Bool.{cond-true, cond-false, cases_Bool}
use Rattle.plain_world.proofs.Maps.{maps_alike}
use Rattle.blocks.specs.Blocks.{Blocks, Changes}
use Rattle.object_codec.specs.declared.form.Form.TheVariants.{Hashtable}
use Rattle.hash_object.specs.declared.fields.Body.{Body}
use Rattle.hash_object.specs.declared.fields.Body.TheVariants.{Empty, Pack, Table}
use Rattle.hash_object.specs.declared.fields.Fields as kept
use Rattle.rehash_dict.specs.Tables.{IsSettled}
use Rattle.rehash_dict.specs.Grown.{Grown}
use Rattle.rehash_dict.specs.Keyed.{hash_of}
use Rattle.hash_object.specs.Fields.{IsFields, IsChanged, KeepsSettings, fields, form_of, form_of_body, refs, tables}
use Rattle.plain_model.specs.HashSteps.{Fields}
use Rattle.keyspace.specs.Insides.{SettledBelow}
use Rattle.cmd_hashes.proofs.Rests.{left_sound, left_changes, left_settings, left_grown}

equal : (o : Ordering) → is_eq o ≡ true → o ≡ Equal
equal Less h = cc
equal Equal h = refl
equal Greater h = cc

-- keys that compare as equal are equal
tied : (p q : List ℕ) → eq_by_cmp (slice_cmp nat_cmp) p q ≡ true → p ≡ q
tied p q h = slice_cmp-IsAntisymmetric nat_cmp-IsAntisymmetric p q (equal (slice_cmp nat_cmp p q) h)

none_in : {A : Type 0} (o : Option A) → false ≡ is_some o → o ≡ None
none_in None h = refl
none_in (Some a) h = cc

-- a field that isn't there can't be removed
remove_absent : (map : Fields) (field : List ℕ) → get map field ≡ None → remove map field ≡ map
remove_absent map field none = maps_alike _ _ (λ p. get-remove nat_list_cmp_total map field p ∙ elim (cases_Bool (eq_by_cmp (slice_cmp nat_cmp) p field)) [
  | inl same ↦ cond-true _ _ _ same ∙ sym none ∙ ap (get map) (sym (tied p field same))
  | inr other ↦ cond-false _ _ _ other
])

-- it is a dictionary, or it isn't
table_or_not : (body : Body) → (form_of_body body ≡ Hashtable) ⊎ (form_of_body body ≢ Hashtable)
table_or_not Empty = inr (λ e. cc)
table_or_not (Pack packed) = inr (λ e. cc)
table_or_not (Table table) = inl refl

-- what a hash keeps, whatever it becomes
pub record Keeps (before after : Blocks) (old new : kept.Fields) : Type 0 where
  pub sound : IsFields after new
  pub settings : KeepsSettings old new
  pub changes : Changes before after (refs old) (refs new)
  pub grown : Grown (hash_of old.seed) (tables before old) (tables after new)

module _ (before after : Blocks) (old new : kept.Fields) (sound : IsFields before old) (map : Fields) where
  left : new ≡ old → after ≡ before → Keeps before after old new
  left same stays = record {
    sound = left_sound before after old new sound same stays;
    settings = left_settings old new same;
    changes = left_changes before after old new sound same stays;
    grown = left_grown before after old new same stays;
  }

  changed : IsChanged before after old new map → Keeps before after old new
  changed c = record { sound = c.sound; settings = c.settings; changes = c.changes; grown = c.grown }

  -- from the clauses of `remove`
  pub removed_keeps : {E : Type 0} (result : Result Bool E) → (result ≡ Ok true → IsChanged before after old new map) → (result ≡ Ok false → new ≡ old) → (result ≡ Ok false → after ≡ before)
      → OnErr result (form_of old ≢ Hashtable → new ≡ old) → OnErr result (form_of old ≢ Hashtable → after ≡ before)
      → OnErr result (form_of old ≡ Hashtable → IsChanged before after old new map) → Keeps before after old new
  removed_keeps (Ok true) c s b es eb ec = changed (c refl)
  removed_keeps (Ok false) c s b es eb ec = left (s refl) (b refl)
  removed_keeps (Err e) c s b es eb ec = elim (table_or_not old.body) [
    | inl table ↦ changed (ec table)
    | inr packed ↦ left (es packed) (eb packed)
  ]

pub removed_is : {E : Type 0} (before after : Blocks) (old new : kept.Fields) (field : List ℕ) (was : Bool) (result : Result Bool E) → result ≡ Ok was
    → was ≡ contains_key (fields before old) field → (result ≡ Ok true → IsChanged before after old new (remove (fields before old) field))
    → (result ≡ Ok false → new ≡ old) → (result ≡ Ok false → after ≡ before) → fields after new ≡ remove (fields before old) field
removed_is before after old new field true result is there c s b = (c is).fields_are
removed_is before after old new field false result is there c s b =
    ap (fields after) (s is) ∙ ap (λ m. fields m old) (b is) ∙ sym (remove_absent (fields before old) field (none_in (get (fields before old) field) there))

-- what is settled where it has fewer fields stays so where one is taken out, or none
pub removed_settled : {E : Type 0} (before after : Blocks) (old new : kept.Fields) (result : Result Bool E) → (result ≡ Ok true → IsSettled (tables after new))
    → (result ≡ Ok false → new ≡ old) → (result ≡ Ok false → after ≡ before) → (was : Bool) → result ≡ Ok was → (most : ℕ)
    → SettledBelow most (len (fields before old)) (tables before old) → SettledBelow most (len (fields after new)) (tables after new)
removed_settled before after old new result settled s b true is most first = λ fewer. settled is
removed_settled before after old new result settled s b false is most first =
    subst (λ h. SettledBelow most (len (fields after h)) (tables after h)) (sym (s is))
    (subst (λ m. SettledBelow most (len (fields m old)) (tables m old)) (sym (b is)) first)
