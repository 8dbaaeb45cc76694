-- Fields and values that a hash takes at once.
use Rattle.std.proofs.Common.{◌≡◌, ℕ, zero, suc, ◌+◌, ◌*◌, ◌<◌, ◌≤◌, true, not, List, [], ◌∷◌, length, take, get_or, Result, Ok, is_some, refl, sym, ap, subst, ◌∙◌, arith}
use Rattle.std.proofs.lemmas.List.{take_all}
use Rattle.std.specs.FinMap.{get, empty}
use Rattle.object_codec.specs.declared.limits.Limits.{Limits}
use Rattle.pack_pairs.specs.Pairs as packs
use Rattle.pack_pairs.proofs.Maps.{get_pairs, once_before, map_more}
use Rattle.hash_object.specs.Fields.{ArePackable}
use Rattle.plain_world.specs.Worlds.{Value, HashOf}
use Rattle.rdb_grammar.specs.declared.fault.LoadKind.{LoadKind}
use Rattle.rdb_grammar.specs.Elements.{Map}
use Rattle.rdb_grammar.specs.Format.{next_found}
use Rattle.rdb_grammar.specs.Payloads.{Pair, paired, all_in, with_pair}
use Rattle.rdb_reader.proofs.Paired.{no_pair}
use Rattle.rdb_reader.proofs.Unpacked.{PutSoFar, put_one, put_all, field_joins}

-- texts two by two are the pairs of a listpack
paired_same : (n : ℕ) (xs : List (List ℕ)) → length xs ≡ 2 * n → paired xs ≡ Ok (packs.paired xs)
paired_same zero [] e = refl
paired_same zero (x ∷ xs) e = absurd (omega (arith, e))
paired_same (suc n) [] e = absurd (omega (arith, e))
paired_same (suc n) (x ∷ []) e = absurd (omega (arith, e))
paired_same (suc n) (x ∷ y ∷ xs) e =
    ap (λ (q : Result (List Pair) LoadKind). next_found q (λ (ps : List Pair). Ok ((x, y) ∷ ps))) (paired_same n xs (omega (arith, e)))

-- where no field stands twice, the first so many pairs make their map
put_first : (list : List Pair) (k : ℕ) → packs.IsOnce list → k ≤ length list → PutSoFar with_pair (HashOf empty) list k (HashOf (packs.map_of_pairs (take k list)))
put_first list zero once h = refl
put_first list (suc k) once h =
    let inside : k < length list = omega (arith, h) in
    let p = get_or list k no_pair in
    let old = packs.map_of_pairs (take k list) in
    let fresh : true ≡ not (is_some (get old (p.0))) = sym (ap (λ o. not (is_some o)) (get_pairs (take k list) (p.0) ∙ once_before list k once inside)) in
    let next : k + 1 ≡ suc k = omega arith in
    subst (λ (n : ℕ). PutSoFar with_pair (HashOf empty) list n (HashOf (packs.map_of_pairs (take n list)))) next
    (put_one with_pair (HashOf empty) list k no_pair (HashOf old) (HashOf (packs.map_of_pairs (take (k + 1) list))) inside (put_first list k once (omega (arith, h)))
    (field_joins old (packs.map_of_pairs (take (k + 1) list)) p fresh (map_more list k once inside)))

-- what a hash without a field is told to be where it takes the texts at once
pub told_at_once : (limits : Limits) (xs : List (List ℕ)) (old new : Map (List ℕ)) → old ≡ empty → ArePackable limits xs → new ≡ packs.map_of_pairs (packs.paired xs)
    → next_found (paired xs) (all_in with_pair (HashOf old)) ≡ Ok (HashOf new)
told_at_once limits xs old new none a is =
    let list = packs.paired xs in
    ap (λ (q : Result (List Pair) LoadKind). next_found q (all_in with_pair (HashOf old))) (paired_same (length list) xs a.even)
    ∙ ap (λ (m : Map (List ℕ)). all_in with_pair (HashOf m) list) none
    ∙ put_all with_pair (HashOf empty) list (length list) (HashOf (packs.map_of_pairs (take (length list) list))) (omega arith) (put_first list (length list) a.once (omega arith))
    ∙ ap (λ (ps : List Pair). Ok (HashOf (packs.map_of_pairs ps))) (take_all (length list) list (omega arith))
    ∙ ap (λ (m : Map (List ℕ)). Ok (HashOf m)) (sym is)
