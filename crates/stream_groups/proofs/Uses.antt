-- The maps of names and of ids after each of their calls.
use Rattle.std.proofs.Common.{◌≡◌, ℕ, Bool, List, [], Option, Some, None, IsSome, is_some, refl, sym, ap, ◌∙◌}
use Rattle.std.specs.FinMap as map
use Rattle.stream_groups.specs.declared.entries.Handed.{Handed}
use Rattle.std.specs.Option.{option_map}
use Rattle.std.proofs.lemmas.Iterator.Adapters.{option_map_id}
use Rattle.std.specs.Ordering.{eq_by_cmp}
use Rattle.std.specs.Map.{lookup, set_value, remove_entry}
use Rattle.std.specs.BTreeMap.{insert_entry}
use Rattle.std.specs.FinMap.{empty, entries, get, insert, remove}
use Rattle.stream_groups.specs.Seen.{seen_entries}
use Rattle.stream_groups.specs.Groups.{Id, Pendings, Group, Groups, id_cmp, name_cmp}
use Rattle.stream_groups.specs.Kept.{Name, bytes_of, by_bytes, named, numbered, pending_of, pendings_of, NamesRise, IdsRise}
use Rattle.stream_groups.proofs.Maps.{seen_empty, seen_insert, seen_set, seen_remove, get_seen, entries_seen}
use Rattle.stream_groups.proofs.Orders.{name_total, name_same, id_total, id_same}

module _ {X Y : Type 0} (value : X → Y) where
  module _ (es : List (Name × X)) where
    pub named_none : es ≡ [] → named value es ≡ empty
    named_none none = seen_empty name_total bytes_of value es none

    module _ (rising : NamesRise es) where
      pub named_entries : entries (named value es) ≡ seen_entries bytes_of value es
      named_entries = entries_seen name_total bytes_of value es rising

      pub named_get : (q : List ℕ) → get (named value es) q ≡ option_map value (lookup (λ k. eq_by_cmp name_cmp q k.items) es)
      named_get q = get_seen name_total bytes_of value q es rising

      module _ (new : List (Name × X)) (after : NamesRise new) where
        pub named_insert : (k : Name) (v : X) → new ≡ insert_entry by_bytes es k v → named value new ≡ insert (named value es) k.items (value v)
        named_insert k v is = seen_insert name_total bytes_of value k v es new rising after is

        pub named_remove : (q : List ℕ) → new ≡ remove_entry (λ k. eq_by_cmp name_cmp q k.items) es → named value new ≡ remove (named value es) q
        named_remove q is = seen_remove name_total bytes_of value q es new name_same rising after is

        pub named_set : (q : List ℕ) (w : X) → IsSome (lookup (λ k. eq_by_cmp name_cmp q k.items) es) → new ≡ set_value (λ k. eq_by_cmp name_cmp q k.items) es w
            → named value new ≡ insert (named value es) q (value w)
        named_set q w there is = seen_set name_total bytes_of value q w es new name_same rising after there is

  module _ (es : List (Id × X)) where
    pub numbered_none : es ≡ [] → numbered value es ≡ empty
    numbered_none none = seen_empty id_total (λ id. id) value es none

    module _ (rising : IdsRise es) where
      pub numbered_entries : entries (numbered value es) ≡ seen_entries (λ id. id) value es
      numbered_entries = entries_seen id_total (λ id. id) value es rising

      pub numbered_get : (q : Id) → get (numbered value es) q ≡ option_map value (lookup (eq_by_cmp id_cmp q) es)
      numbered_get q = get_seen id_total (λ id. id) value q es rising

      module _ (new : List (Id × X)) (after : IdsRise new) where
        pub numbered_insert : (k : Id) (v : X) → new ≡ insert_entry id_cmp es k v → numbered value new ≡ insert (numbered value es) k (value v)
        numbered_insert k v is = seen_insert id_total (λ id. id) value k v es new rising after is

        pub numbered_remove : (q : Id) → new ≡ remove_entry (eq_by_cmp id_cmp q) es → numbered value new ≡ remove (numbered value es) q
        numbered_remove q is = seen_remove id_total (λ id. id) value q es new id_same rising after is

        pub numbered_set : (q : Id) (w : X) → IsSome (lookup (eq_by_cmp id_cmp q) es) → new ≡ set_value (eq_by_cmp id_cmp q) es w → numbered value new ≡ insert (numbered value es) q (value w)
        numbered_set q w there is = seen_set id_total (λ id. id) value q w es new id_same rising after there is

-- whether a name is the one asked for
abbrev pub is_named : List ℕ → Name → Bool
is_named q k = eq_by_cmp name_cmp q k.items

-- What is found of a name is what the groups have there.
pub group_found : (es : List (Name × Group)) (groups : Groups) (q : List ℕ) → NamesRise es → named (λ g. g) es ≡ groups → lookup (is_named q) es ≡ get groups q
group_found es groups q rising view = sym (option_map_id _) ∙ sym (named_get (λ (g : Group). g) es rising q) ∙ ap (λ m. get m q) view

-- What is found of an id is what is pending there.
pub pending_found : (es : List (Id × Handed)) (pending : Pendings) (q : Id) → IdsRise es → pendings_of es ≡ pending → option_map pending_of (lookup (eq_by_cmp id_cmp q) es) ≡ map.get pending q
pending_found es pending q rising view = sym (numbered_get pending_of es rising q) ∙ ap (λ m. map.get m q) view

is_some-map : {A B : Type 0} (f : A → B) (x : Option A) → is_some x ≡ is_some (option_map f x)
is_some-map f None = refl
is_some-map f (Some x) = refl

-- Whether it is found says whether it is pending.
pub pending_there : (es : List (Id × Handed)) (pending : Pendings) (q : Id) → IdsRise es → pendings_of es ≡ pending → is_some (lookup (eq_by_cmp id_cmp q) es) ≡ map.contains_key pending q
pending_there es pending q rising view = is_some-map pending_of _ ∙ ap is_some (pending_found es pending q rising view)

-- A write in the place of what is pending there is put.
pub pending_written : (es new : List (Id × Handed)) (pending : Pendings) (q : Id) (was w : Handed) → IdsRise es → pendings_of es ≡ pending → Some was ≡ lookup (eq_by_cmp id_cmp q) es
    → new ≡ set_value (eq_by_cmp id_cmp q) es w → IdsRise new → pendings_of new ≡ map.insert pending q (pending_of w)
pending_written es new pending q was w rising view found is after =
    numbered_set pending_of es rising new after q w (sym (ap is_some found)) is ∙ ap (λ m. map.insert m q (pending_of w)) view
