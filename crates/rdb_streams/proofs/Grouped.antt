-- A group that changes among others.
use Rattle.std.proofs.Common.{◌≡◌, ℕ, List, Bool, true, not, cond, Result, Ok, Err, Option, Some, None, is_some, IfSome, IsTrue, inl, inr, refl, sym, ap, subst, ◌∙◌}
use Rattle.std.specs.Prelude.{is_none, unwrap_or, OnOk}
use Rattle.std.specs.Option.{option_map}
use Rattle.std.proofs.lemmas.Bool.{cond-true, cond-false, cases_Bool, true≢false}
use Rattle.std.specs.Ordering.{eq_by_cmp, is_eq}
use Rattle.std.specs.Cmp.{tied_itself}
use Rattle.std.specs.FinMap as map
use Rattle.stream_groups.specs.Groups.{Id, Group, Groups, Pending, name_cmp, new_group, changed, changed_from, created, last_of, has_consumer, with_pending}
use Rattle.stream_groups.proofs.Changing.{put_same_in_changing}
use Rattle.stream_groups.proofs.Orders.{name_total, name_same}
use Rattle.stream_node.specs.declared.id.Id.{Id as NodeId}
use Rattle.stream_object.specs.declared.stream.Stream.{Stream as Log}
use Rattle.stream_object.specs.Streams.{pair_of}
use Rattle.rdb_streams.specs.Grouped.{group_in, ChangesGroup}

some_is_in_grouped : (o : Option Group) (d : Group) → is_some o ≡ true → o ≡ Some (unwrap_or o d)
some_is_in_grouped None d h = absurd (true≢false (sym h))
some_is_in_grouped (Some g) d h = refl

module _ (groups : Groups) (name : List ℕ) where
  -- what was put is there
  pub put_there_in_grouped : (group : Group) → map.get (map.insert groups name group) name ≡ Some group
  put_there_in_grouped group = map.get-insert name_total groups name group name ∙ cond-true _ _ _ (ap is_eq (tied_itself name_total name))

  -- the last that was put stays
  pub put_twice_in_grouped : (one other : Group) → map.insert (map.insert groups name one) name other ≡ map.insert groups name other
  put_twice_in_grouped one other = map.same_map name_total name_same _ _ (λ q.
      map.get-insert name_total (map.insert groups name one) name other q
      ∙ ap (cond (eq_by_cmp name_cmp q name) (Some other)) (map.get-insert name_total groups name one q)
      ∙ elim (cases_Bool (eq_by_cmp name_cmp q name)) [
        | inl same ↦ cond-true _ _ _ same ∙ sym (cond-true _ _ _ same) ∙ sym (map.get-insert name_total groups name other q)
        | inr other_key ↦ cond-false _ _ _ other_key ∙ cond-false _ _ _ other_key ∙ sym (cond-false _ _ _ other_key) ∙ sym (map.get-insert name_total groups name other q)
      ])

  pub group_put_in_grouped : (group : Group) → group_in (map.insert groups name group) name ≡ group
  group_put_in_grouped group = ap (λ (o : Option Group). unwrap_or o (new_group (0, 0))) (put_there_in_grouped group)

  pub created_is : (last : Id) → map.get groups name ≡ None → created groups name last ≡ map.insert groups name (new_group last)
  created_is last none = cond-false _ _ _ (ap is_some none)

  -- a group that was added
  pub group_created : (last : Id) → map.get groups name ≡ None → group_in (created groups name last) name ≡ new_group last
  group_created last none = ap (λ (m : Groups). group_in m name) (created_is last none) ∙ group_put_in_grouped (new_group last)

  module _ (there : map.contains_key groups name ≡ true) where
    pub group_there_in_grouped : map.get groups name ≡ Some (group_in groups name)
    group_there_in_grouped = some_is_in_grouped (map.get groups name) (new_group (0, 0)) there

    pub changed_is : (change : Group → Group) → changed groups name change ≡ map.insert groups name (change (group_in groups name))
    changed_is change = ap (changed_from groups name change) group_there_in_grouped

    -- the group that has changed
    pub group_changed : (change : Group → Group) → group_in (changed groups name change) name ≡ change (group_in groups name)
    group_changed change = ap (λ (m : Groups). group_in m name) (changed_is change) ∙ group_put_in_grouped (change (group_in groups name))

module _ (name : List ℕ) (a : Log) where
  -- nothing has changed
  pub changes_none : map.contains_key a.groups name ≡ true → ChangesGroup a a name
  changes_none there = ap (λ (m : Groups). record a { groups = m }) (sym (put_same_in_changing a.groups name (group_in a.groups name) (group_there_in_grouped a.groups name there)))

  module _ (b : Log) where
    pub changes_by : (change : Group → Group) → map.contains_key a.groups name ≡ true → b ≡ record a { groups = changed a.groups name change } → ChangesGroup a b name
    changes_by change there is =
        let now : group_in b.groups name ≡ change (group_in a.groups name) = ap (λ (s : Log). group_in s.groups name) is ∙ group_changed a.groups name there change in
        is ∙ ap (λ (m : Groups). record a { groups = m }) (changed_is a.groups name there change ∙ ap (map.insert a.groups name) (sym now))

    pub changes_created : (last : Id) → map.get a.groups name ≡ None → b ≡ record a { groups = created a.groups name last } → ChangesGroup a b name
    changes_created last free is =
        let made : created a.groups name last ≡ map.insert a.groups name (new_group last) = created_is a.groups name last free in
        let now : group_in b.groups name ≡ new_group last = ap (λ (s : Log). group_in s.groups name) is ∙ group_created a.groups name last free in
        is ∙ ap (λ (m : Groups). record a { groups = m }) (made ∙ ap (map.insert a.groups name) (sym now))

    module _ (h : ChangesGroup a b name) where
      -- the group is there
      pub changes_there : map.contains_key b.groups name ≡ true
      changes_there = ap is_some (ap (λ (s : Log). map.get s.groups name) h ∙ put_there_in_grouped a.groups name (group_in b.groups name))

      pub changes_then_in_grouped : (c : Log) → ChangesGroup b c name → ChangesGroup a c name
      changes_then_in_grouped c k =
          k ∙ ap (λ (s : Log). record s { groups = map.insert s.groups name (group_in c.groups name) }) h
          ∙ ap (λ (m : Groups). record a { groups = m }) (put_twice_in_grouped a.groups name (group_in b.groups name) (group_in c.groups name))

      -- the groups alone may have changed
      pub changes_groups : b ≡ record a { groups = b.groups }
      changes_groups = h ∙ ap (λ (m : Groups). record a { groups = m }) (sym (ap (λ (s : Log). s.groups) h))

-- where the groups alone may have changed, twice
pub groups_then : (a b c : Log) → b ≡ record a { groups = b.groups } → c ≡ record b { groups = c.groups } → c ≡ record a { groups = c.groups }
groups_then a b c h k = k ∙ ap (λ (s : Log). record s { groups = c.groups }) h

-- a consumer stays where an id becomes pending
pub consumer_stays : (groups : Groups) (name consumer : List ℕ) (id : Id) (entry : Pending) → map.contains_key groups name ≡ true
    → IfSome (map.get groups name) (λ group. IsTrue (has_consumer consumer group))
    → IfSome (map.get (changed groups name (with_pending id entry)) name) (λ group. IsTrue (has_consumer consumer group))
consumer_stays groups name consumer id entry there h =
    let is : map.get groups name ≡ Some (group_in groups name) = group_there_in_grouped groups name there in
    let after : map.get (changed groups name (with_pending id entry)) name ≡ Some (with_pending id entry (group_in groups name)) =
    ap (λ (m : Groups). map.get m name) (changed_is groups name there (with_pending id entry)) ∙ put_there_in_grouped groups name (with_pending id entry (group_in groups name)) in
    let has : IsTrue (has_consumer consumer (group_in groups name)) = subst (λ (o : Option Group). IfSome o (λ group. IsTrue (has_consumer consumer group))) is h in
    subst (λ (o : Option Group). IfSome o (λ group. IsTrue (has_consumer consumer group))) (sym after) has

-- what is told of something that is there
pub told_of_in_grouped : {A B : Type 0} (tell : A → B) (o : Option A) (x : A) (b : B) → o ≡ Some x → Some b ≡ option_map tell o → tell x ≡ b
told_of_in_grouped {B = B} tell o x b is told = sym (ap (λ (q : Option B). unwrap_or q b) (told ∙ ap (option_map tell) is))

-- what is told of a group's last id says whether the group is there
pub last_told : (o : Option Group) (told : Option NodeId) (b : Bool) → option_map pair_of told ≡ last_of o → b ≡ is_some told → is_none o ≡ not b
last_told None None b e h = ap not (sym h)
last_told None (Some id) b e h = absurd cc
last_told (Some g) None b e h = absurd cc
last_told (Some g) (Some id) b e h = ap not (sym h)

-- what holds anyway holds after an answer
pub ok_held : {A E P : Type 0} (result : Result A E) → P → OnOk result P
ok_held (Ok x) p = p
ok_held (Err e) p = tt
