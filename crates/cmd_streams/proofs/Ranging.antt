-- Entries between two ids, as they are told.
use Rattle.std.proofs.Common.{◌≡◌, ℕ, ◌≤◌, Bool, true, false, List, [], ◌∷◌, length, take, refl, arith}
use Rattle.std.specs.Prelude.{if◌then◌else◌}
use Rattle.std.specs.List.{filter}
use Rattle.std.proofs.lemmas.List.{take_all, length-reverse}
use Rattle.plain_world.specs.Streams.{StreamEntry}
use Rattle.plain_model.specs.StreamSteps.{met}
use Rattle.plain_model.specs.declared.zset_command.Direction.{Direction}
use Rattle.plain_model.specs.declared.zset_command.Direction.TheVariants.{Rising, Falling}

short_if : (b : Bool) (x : StreamEntry) (xs ys : List StreamEntry) → length xs ≤ length ys → length (if b then x ∷ xs else xs) ≤ length (x ∷ ys)
short_if true x xs ys h = omega (arith, h)
short_if false x xs ys h = omega (arith, h)

pub filter_short : (f : StreamEntry → Bool) (es : List StreamEntry) → length (filter f es) ≤ length es
filter_short f [] = omega arith
filter_short f (e ∷ es) = short_if (f e) e (filter f es) es (filter_short f es)

met_long : (order : Direction) (es : List StreamEntry) → length (met order es) ≡ length es
met_long Rising es = refl
met_long Falling es = length-reverse es

-- as many as there are at all are all of them
pub all_wanted : (order : Direction) (f : StreamEntry → Bool) (es : List StreamEntry) (n : ℕ) → n ≡ length es → take n (met order (filter f es)) ≡ met order (filter f es)
all_wanted order f es n all = take_all n (met order (filter f es)) (omega (arith, all, met_long order (filter f es), filter_short f es))
