-- The table of slabs, class by class.
use Rattle.std.proofs.Common.{◌≡◌, ℕ, ◌+◌, suc, Bool, true, false, List, [], ◌∷◌, ◌++◌, pos, length, map, refl, sym, ap, ◌∙◌, subst, arith}
use Rattle.std.specs.Prelude.{nat_lt, if◌then◌else◌}
use Rattle.std.specs.List.{filter, flat_map, range_with_len}
use Rattle.std.proofs.lemmas.List.{map-append}
use Rattle.std.proofs.lemmas.List.FromFn.{filter_of_map_range_with_len_more}
use Rattle.blocks.specs.Slabs.{Heap, size_of, slabs_of, used_of}
use Rattle.blocks.specs.declared.ClassUse.{ClassUse}
use Rattle.plain_world.specs.Parts.{following, AreReplies, IsReply}
use Rattle.plain_world.specs.declared.reply.Part.{Part}
use Rattle.plain_world.specs.declared.reply.Part.TheVariants.{Number, Array}
use Rattle.plain_model.specs.ConnectionSteps.{ClassSlabs, class_parts, slab_table}
use Rattle.keyspace.specs.Shown.{class_slabs, has_slab}
use Rattle.cmd_keys.specs.Slabs.{class_used}

-- what is told of a class
abbrev pub use_parts : ClassUse → List Part
use_parts class = class_parts (class_used class)

map_behind : {X Y : Type 0} (f : X → Y) (xs : List X) (b : Bool) (y : X) → map f (xs ++ (if b then y ∷ [] else [])) ≡ map f xs ++ (if b then f y ∷ [] else [])
map_behind f xs true y = map-append f xs (y ∷ [])
map_behind f xs false y = map-append f xs []

use_is : (heap : Heap) (class : ℕ) (u : ClassUse) → u.size ≡ size_of class → u.slabs ≡ slabs_of heap class → u.used ≡ used_of heap class → class_used u ≡ class_slabs heap class
use_is heap class u size slabs used =
    let A : ℕ → ClassSlabs = λ n. record { size = n; slabs = u.slabs; used = u.used } in
    let B : ℕ → ClassSlabs = λ n. record { size = size_of class; slabs = n; used = u.used } in
    let C : ℕ → ClassSlabs = λ n. record { size = size_of class; slabs = slabs_of heap class; used = n } in
    ap A size ∙ ap B slabs ∙ ap C used

-- one more class was looked at
pub looked_at : (heap : Heap) (class : ℕ) (uses new : List ClassUse) (u : ClassUse) → u.size ≡ size_of class → u.slabs ≡ slabs_of heap class → u.used ≡ used_of heap class
    → new ≡ uses ++ (if nat_lt 0 u.slabs then u ∷ [] else []) → map class_used uses ≡ filter has_slab (map (class_slabs heap) (range_with_len 0 class))
    → map class_used new ≡ filter has_slab (map (class_slabs heap) (range_with_len 0 (class + 1)))
looked_at heap class uses new u size slabs used is before =
    ap (map class_used) is
    ∙ map_behind class_used uses (nat_lt 0 u.slabs) u
    ∙ ap (λ l. l ++ (if has_slab (class_used u) then class_used u ∷ [] else [])) before
    ∙ ap (λ x. filter has_slab (map (class_slabs heap) (range_with_len 0 class)) ++ (if has_slab x then x ∷ [] else [])) (use_is heap class u size slabs used)
    ∙ sym (filter_of_map_range_with_len_more has_slab (class_slabs heap) 0 class class (omega arith))

told_as : (uses : List ClassUse) → flat_map use_parts uses ≡ flat_map class_parts (map class_used uses)
told_as [] = refl
told_as (u ∷ uses) = ap (λ l. use_parts u ++ l) (told_as uses)

length_as : (uses : List ClassUse) → length (map class_used uses) ≡ length uses
length_as [] = refl
length_as (u ∷ uses) = ap suc (length_as uses)

-- one part is told, and others follow
part_then : (n m : ℕ) (part : Part) (parts : List Part) → n ≡ suc m → AreReplies (m + following part) parts → AreReplies n (part ∷ parts)
part_then n m part parts is h = subst (λ k. AreReplies k (part ∷ parts)) (sym is) h

-- a class is told by four parts
class_then : (class : ClassSlabs) (n k : ℕ) (parts : List Part) → n ≡ suc k → ((m : ℕ) → m ≡ k → AreReplies m parts) → AreReplies n (class_parts class ++ parts)
class_then class n k parts is h =
    let third : List Part = Number (pos class.used) ∷ parts in
    let second : List Part = Number (pos class.slabs) ∷ third in
    let first : List Part = Number (pos class.size) ∷ second in
    part_then n k (Array 3) first is
    (part_then (k + 3) (k + 2) (Number (pos class.size)) second (omega arith)
    (part_then (k + 2 + 0) (k + 1) (Number (pos class.slabs)) third (omega arith)
    (part_then (k + 1 + 0) k (Number (pos class.used)) parts (omega arith) (h (k + 0) (omega arith)))))

classes_are_replies : (classes : List ClassSlabs) (n : ℕ) → n ≡ length classes → AreReplies n (flat_map class_parts classes)
classes_are_replies [] n is = subst (λ k. AreReplies k []) (sym is) tt
classes_are_replies (class ∷ classes) n is = class_then class n (length classes) (flat_map class_parts classes) is (λ m e. classes_are_replies classes m e)

pub table_is_reply : (classes : List ClassSlabs) (first parts : List Part) → first ≡ [] → parts ≡ first ++ slab_table classes → IsReply parts
table_is_reply classes first parts none is = subst IsReply (sym (is ∙ ap (λ l. l ++ slab_table classes) none)) (classes_are_replies classes (0 + length classes) (omega arith))

-- all classes were told
pub told_all : (uses : List ClassUse) → Array (length uses) ∷ flat_map use_parts uses ≡ slab_table (map class_used uses)
told_all uses = ap (λ l. Array (length uses) ∷ l) (told_as uses) ∙ ap (λ n. Array n ∷ flat_map class_parts (map class_used uses)) (sym (length_as uses))
