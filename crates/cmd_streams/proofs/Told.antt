-- What is told of elements one after the other.
use Rattle.std.proofs.Common.{◌≡◌, ℕ, ◌≤◌, List, [], ◌∷◌, ◌++◌, length, take, map, flat_map, refl, ap, ◌∙◌}
use Rattle.std.proofs.lemmas.List.{take_all}
use Rattle.stream_object.specs.declared.owned.Owned.{Owned}
use Rattle.stream_object.specs.Ranges.{taken}
use Rattle.plain_world.specs.declared.reply.Part.{Part}
use Rattle.plain_model.specs.StreamSteps.{entry_parts}

-- all elements are told
pub all_told : {A : Type 0} (tell : A → List Part) (list : List A) (i : ℕ) (first parts : List Part) → length list ≤ i → parts ≡ first ++ flat_map tell (take i list) → parts ≡ first
    ++ flat_map tell list
all_told tell list i first parts end so_far = so_far ∙ ap (λ l. first ++ flat_map tell l) (take_all i list end)

-- what is told of an entry that was taken out
abbrev pub entry_told : Owned → List Part
entry_told o = entry_parts (taken o)

pub taken_told : (list : List Owned) → flat_map entry_told list ≡ flat_map entry_parts (map taken list)
taken_told [] = refl
taken_told (o ∷ list) = ap (λ l. entry_told o ++ l) (taken_told list)
