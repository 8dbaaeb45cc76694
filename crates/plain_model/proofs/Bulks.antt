-- Arrays of strings tell their elements.
use Rattle.std.proofs.Common.{◌≡◌, ℕ, List, [], ◌∷◌, map, refl, ap, ◌∙◌}
use Rattle.std.specs.List.{flat_map}
use Rattle.plain_world.specs.declared.reply.Part.{Part}
use Rattle.plain_world.specs.declared.reply.Part.TheVariants.{Bulk}

pub bulks_same : (xs ys : List (List ℕ)) → map Bulk xs ≡ map Bulk ys → xs ≡ ys
bulks_same [] [] e = refl
bulks_same [] (y ∷ ys) e = absurd (cc e)
bulks_same (x ∷ xs) [] e = absurd (cc e)
bulks_same (x ∷ xs) (y ∷ ys) e =
    let rest : map Bulk xs ≡ map Bulk ys = cc in
    let first : x ≡ y = cc in
    let later = bulks_same xs ys rest in
    ap (λ z. z ∷ xs) first ∙ ap (λ z. y ∷ z) later

-- the same of strings that are each followed by something
abbrev pub followed : (List ℕ → Part) → List (List ℕ) → List Part
followed told elements = flat_map (λ element. Bulk element ∷ told element ∷ []) elements

pub pairs_same : (f g : List ℕ → Part) (xs ys : List (List ℕ)) → followed f xs ≡ followed g ys → xs ≡ ys
pairs_same f g [] [] e = refl
pairs_same f g [] (y ∷ ys) e = absurd (cc e)
pairs_same f g (x ∷ xs) [] e = absurd (cc e)
pairs_same f g (x ∷ xs) (y ∷ ys) e =
    let rest : followed f xs ≡ followed g ys = cc in
    let first : x ≡ y = cc in
    let later = pairs_same f g xs ys rest in
    ap (λ z. z ∷ xs) first ∙ ap (λ z. y ∷ z) later
