use Rattle.std.proofs.Common.{◌≡◌, Bool, true, false, List, [], ◌∷◌, None, length, refl, sym, ap, ◌∙◌, arith}
use Rattle.std.specs.Prelude.{slice_get}
use Rattle.std.specs.Option.{option_map}
use Rattle.stream_groups.specs.declared.entries.Handed.{Handed}
use Rattle.std.proofs.lemmas.Bool.{true≢false}
use Rattle.std.proofs.Common.{◌<◌}
use Rattle.stream_groups.specs.Groups.{Id}
use Rattle.stream_groups.proofs.Listing.{key_seen}
use Rattle.stream_groups.proofs.entries.Entries.least.Goals as goal

-- nothing stands in an empty list
nothing_there : (es : List (Id × Handed)) (b : Bool) → b ≡ false → (0 < length es → b ≡ true) → slice_get es 0 ≡ None
nothing_there [] b f h = refl
nothing_there (e ∷ es) b f h = absurd (true≢false (sym (h (omega arith)) ∙ f))

pub returns-in-None : goal.returns-in-None
returns-in-None c = sym
    (key_seen c.self.inside.entries.entries c.args.self.now c.self.invariant c.self.view_is 0
    ∙ ap (option_map (λ (e : Id × Handed). e.0)) (nothing_there c.self.inside.entries.entries false refl c.in-None.ensures.variant.1))

pub returns-in-Some : goal.returns-in-Some
returns-in-Some c = sym (key_seen c.self.inside.entries.entries c.args.self.now c.self.invariant c.self.view_is 0 ∙ ap (option_map (λ (e : Id × Handed). e.0)) c.in-Some.ensures.first)
