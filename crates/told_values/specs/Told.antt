-- What a value is seen to be that was read out, whatever the order of what stands in its maps.
use Rattle.std.specs.Prelude.{ℕ, ℤ, T, List, map}
use Rattle.std.specs.List.{AllByRecursion}
use Rattle.std.specs.FinMap.{FinMap, from_sorted, is_sorted}
use Rattle.std.specs.Ordering.{nat_cmp}
use Rattle.std.specs.Cmp.Lexicographic.{slice_cmp}
use Rattle.stream_groups.specs.Groups as groups
use Rattle.stream_groups.specs.Groups.{Names, Pending, Pendings, id_cmp, name_cmp}
use Rattle.stream_groups.specs.Kept.{Name, bytes_of, named}
use Rattle.stream_object.specs.Ranges.{taken}
use Rattle.stream_object.specs.Streams.{pair_of}
use Rattle.plain_world.specs.Streams.{Stream}
use Rattle.plain_world.specs.Worlds.{Value, Str, ListOf, SetOf, HashOf, SortedOf, StreamOf}
use Rattle.told_values.specs.declared.groups.ToldPending.{ToldPending}
use Rattle.told_values.specs.declared.groups.ToldGroup.{ToldGroup}
use Rattle.told_values.specs.declared.streams.Log.{Log}
use Rattle.told_values.specs.declared.kind.Kind.{Kind}
use Rattle.told_values.specs.declared.kind.Kind.TheVariants as kinds

-- the texts of a list
abbrev pub texts_told : List Name → List (List ℕ)
texts_told texts = map bytes_of texts

-- the members of a set
abbrev pub set_told : List (Name × Unit {0}) → FinMap (slice_cmp nat_cmp) (Unit {0})
set_told entries = named (λ nothing. nothing) entries

-- the fields of a hash with their values
abbrev pub hash_told : List (Name × Name) → FinMap (slice_cmp nat_cmp) (List ℕ)
hash_told entries = named bytes_of entries

-- the members of a sorted set with their scores
abbrev pub scores_told : List (Name × ℤ) → FinMap (slice_cmp nat_cmp) ℤ
scores_told entries = named (λ score. score) entries

-- ---- consumer groups

abbrev pub consumer_told : Name → List ℕ × Unit {0}
consumer_told name = (name.items, tt)

abbrev pub pending_told : ToldPending → groups.Id × Pending
pending_told p = (pair_of p.id, record { consumer = p.consumer.items; moment = p.moment; count = p.count })

abbrev pub group_told : ToldGroup → List ℕ × groups.Group
group_told g = (
  g.name.items,
  record {
    last = pair_of g.last;
    consumers = from_sorted (map consumer_told g.consumers.items);
    pending = from_sorted (map pending_told g.pending.items);
  },
)

-- the groups by their names
abbrev pub groups_told : List ToldGroup → groups.Groups
groups_told told = from_sorted (map group_told told)

-- the consumers of a group stand by rising names, and what is pending by rising ids
pub record IsOrderedGroup (g : ToldGroup) : Type 0 where
  pub consumers : T (is_sorted name_cmp (map consumer_told g.consumers.items))
  pub pending : T (is_sorted id_cmp (map pending_told g.pending.items))

-- so do the groups by rising names
pub record AreOrdered (told : List ToldGroup) : Type 0 where
  pub names : T (is_sorted name_cmp (map group_told told))
  pub each : AllByRecursion IsOrderedGroup told

-- ---- values

abbrev pub log_told : Log → Stream
log_told log = record {
  entries = map taken log.entries.items;
  last = pair_of log.last;
  deleted = pair_of log.deleted;
  added = log.added;
  groups = groups_told log.groups.items;
}

abbrev pub told : Kind → Value
told (kinds.Text text) = Str text.items
told (kinds.List texts) = ListOf (texts_told texts.items)
told (kinds.Set names) = SetOf (set_told names.entries)
told (kinds.Hash pairs) = HashOf (hash_told pairs.entries)
told (kinds.Sorted scores) = SortedOf (scores_told scores.entries)
told (kinds.Stream log) = StreamOf (log_told log)

-- a stream's groups are in order
abbrev pub IsOrdered : Kind → Type 0
IsOrdered (kinds.Stream log) = AreOrdered log.groups.items
IsOrdered other = Unit {0}
