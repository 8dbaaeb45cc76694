-- Members taken out of a sorted set.
use Rattle.std.proofs.Common.{◌≡◌, inl, inr, ◌⊎◌, Bool, true, false, List, ℕ, Option, None, Some, Result, Ok, Err, OnOk, OnErr, refl, sym, ap, subst, ◌∙◌}
use Rattle.std.specs.Prelude.{◌≢◌, is_some}
use Rattle.std.specs.Ordering.{nat_cmp, eq_by_cmp, is_eq}
use Rattle.std.specs.declared.cmp.Ordering.{Ordering}
use Rattle.std.specs.declared.cmp.Ordering.TheVariants.{Less, Equal, Greater}
use Rattle.std.specs.Cmp.Lexicographic.{slice_cmp, nat_list_cmp_total}
use Rattle.std.specs.FinMap.{get, remove, len, contains_key, get-remove, slice_cmp-IsAntisymmetric, nat_cmp-IsAntisymmetric}
use Rattle.std.proofs.lemmas.Bool.{cond-true, cond-false, cases_Bool}
use Rattle.plain_world.proofs.Maps.{maps_alike}
use Rattle.blocks.specs.Blocks.{Blocks, Changes}
use Rattle.object_codec.specs.declared.form.Form.TheVariants.{Skiplist}
use Rattle.zset_object.specs.declared.scored.Body.{Body}
use Rattle.zset_object.specs.declared.scored.Body.TheVariants.{Empty, Pack, Table}
use Rattle.zset_object.specs.declared.scored.Scored as kept
use Rattle.rehash_dict.specs.Tables.{IsSettled}
use Rattle.rehash_dict.specs.Grown.{Grown}
use Rattle.rehash_dict.specs.Keyed.{hash_of}
use Rattle.zset_object.specs.Scored.{IsScored, IsChanged, KeepsSettings, scores, form_of, form_of_body, refs, tables}
use Rattle.plain_model.specs.ZsetSteps.{Scores}
use Rattle.keyspace.specs.Insides.{SettledBelow}
use Rattle.cmd_zsets.proofs.Rests.{left_sound, left_changes, left_settings, left_grown}

pub equal : (o : Ordering) → is_eq o ≡ true → o ≡ Equal
equal Less h = cc
equal Equal h = refl
equal Greater h = cc

-- keys that compare as equal are equal
pub tied : (p q : List ℕ) → eq_by_cmp (slice_cmp nat_cmp) p q ≡ true → p ≡ q
tied p q h = slice_cmp-IsAntisymmetric nat_cmp-IsAntisymmetric p q (equal (slice_cmp nat_cmp p q) h)

none_in : {A : Type 0} (o : Option A) → false ≡ is_some o → o ≡ None
none_in None h = refl
none_in (Some a) h = cc

-- a member that isn't there can't be removed
remove_absent : (map : Scores) (member : List ℕ) → get map member ≡ None → remove map member ≡ map
remove_absent map member none = maps_alike _ _ (λ p. get-remove nat_list_cmp_total map member p ∙ elim (cases_Bool (eq_by_cmp (slice_cmp nat_cmp) p member)) [
  | inl same ↦ cond-true _ _ _ same ∙ sym none ∙ ap (get map) (sym (tied p member same))
  | inr other ↦ cond-false _ _ _ other
])

-- it is a dictionary, or it isn't
table_or_not : (body : Body) → (form_of_body body ≡ Skiplist) ⊎ (form_of_body body ≢ Skiplist)
table_or_not Empty = inr (λ e. cc)
table_or_not (Pack packed) = inr (λ e. cc)
table_or_not (Table table) = inl refl

-- what a sorted set keeps, whatever it becomes
pub record Keeps (before after : Blocks) (old new : kept.Scored) : Type 0 where
  pub sound : IsScored after new
  pub settings : KeepsSettings old new
  pub changes : Changes before after (refs old) (refs new)
  pub grown : Grown (hash_of old.seed) (tables before old) (tables after new)

module _ (before after : Blocks) (old new : kept.Scored) (sound : IsScored before old) (map : Scores) where
  left : new ≡ old → after ≡ before → Keeps before after old new
  left same stays = record {
    sound = left_sound before after old new sound same stays;
    settings = left_settings old new same;
    changes = left_changes before after old new sound same stays;
    grown = left_grown before after old new same stays;
  }

  changed : IsChanged before after old new map → Keeps before after old new
  changed c = record { sound = c.sound; settings = c.settings; changes = c.changes; grown = c.grown }

  -- from the clauses of `remove`
  pub removed_keeps : {E : Type 0} (result : Result Bool E) → (result ≡ Ok true → IsChanged before after old new map) → (result ≡ Ok false → new ≡ old) → (result ≡ Ok false → after ≡ before)
      → OnErr result (form_of old ≢ Skiplist → new ≡ old) → OnErr result (form_of old ≢ Skiplist → after ≡ before)
      → OnErr result (form_of old ≡ Skiplist → IsChanged before after old new map) → Keeps before after old new
  removed_keeps (Ok true) c s b es eb ec = changed (c refl)
  removed_keeps (Ok false) c s b es eb ec = left (s refl) (b refl)
  removed_keeps (Err e) c s b es eb ec = elim (table_or_not old.body) [
    | inl table ↦ changed (ec table)
    | inr packed ↦ left (es packed) (eb packed)
  ]

pub removed_is : {E : Type 0} (before after : Blocks) (old new : kept.Scored) (member : List ℕ) (was : Bool) (result : Result Bool E) → result ≡ Ok was
    → was ≡ contains_key (scores before old) member → (result ≡ Ok true → IsChanged before after old new (remove (scores before old) member))
    → (result ≡ Ok false → new ≡ old) → (result ≡ Ok false → after ≡ before) → scores after new ≡ remove (scores before old) member
removed_is before after old new member true result is there c s b = (c is).scores_are
removed_is before after old new member false result is there c s b =
    ap (scores after) (s is) ∙ ap (λ m. scores m old) (b is) ∙ sym (remove_absent (scores before old) member (none_in (get (scores before old) member) there))

module _ (before after : Blocks) (old new : kept.Scored) (sound : IsScored before old) (map : Scores) where
  -- from the clauses of `remove_range`
  pub range_keeps : {A E : Type 0} (result : Result A E) → OnOk result (IsChanged before after old new map) → OnErr result (form_of old ≢ Skiplist → new ≡ old)
      → OnErr result (form_of old ≢ Skiplist → after ≡ before) → OnErr result (form_of old ≡ Skiplist → IsChanged before after old new map) → Keeps before after old new
  range_keeps (Ok u) c es eb ec = changed before after old new sound map c
  range_keeps (Err e) c es eb ec = elim (table_or_not old.body) [
    | inl table ↦ changed before after old new sound map (ec table)
    | inr packed ↦ left before after old new sound map (es packed) (eb packed)
  ]

  pub range_is : {A E : Type 0} (result : Result A E) (then : Scores) → map ≡ then → OnOk result (IsChanged before after old new map) → OnOk result (scores after new ≡ then)
  range_is (Ok u) then same c = c.scores_are ∙ same
  range_is (Err e) then same c = tt

-- what is settled where it has fewer members stays so where one is taken out, or none
pub removed_settled : {E : Type 0} (before after : Blocks) (old new : kept.Scored) (result : Result Bool E) → (result ≡ Ok true → IsSettled (tables after new))
    → (result ≡ Ok false → new ≡ old) → (result ≡ Ok false → after ≡ before) → (was : Bool) → result ≡ Ok was → (most : ℕ)
    → SettledBelow most (len (scores before old)) (tables before old) → SettledBelow most (len (scores after new)) (tables after new)
removed_settled before after old new result settled s b true is most first = λ fewer. settled is
removed_settled before after old new result settled s b false is most first =
    subst (λ h. SettledBelow most (len (scores after h)) (tables after h)) (sym (s is))
    (subst (λ m. SettledBelow most (len (scores m old)) (tables m old)) (sym (b is)) first)
