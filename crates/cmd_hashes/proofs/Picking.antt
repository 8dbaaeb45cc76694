-- Fields that were picked by chance.
use Rattle.std.proofs.Common.{◌≡◌, ℕ, ℤ, Bool, true, false, List, [], ◌∷◌, ◌++◌, length, flat_map, Option, None, Some, is_some, Result, Ok, Err, IfOk, refl, sym, ap, ◌∙◌, subst}
use Rattle.std.specs.Prelude.{IsSome}
use Rattle.std.specs.List.{Contains}
use Rattle.std.specs.FinMap.{empty, get, len}
use Rattle.std.proofs.lemmas.List.{length-map}
use Rattle.blocks.specs.Blocks.{Blocks}
use Rattle.hash_object.specs.declared.fields.Fields as object
use Rattle.hash_object.specs.Fields as object_of
use Rattle.hash_object.specs.Items.{pair_at}
use Rattle.hash_object.proofs.Listed.{arranged}
use Rattle.picking.specs.Picks.{IsPick}
use Rattle.picking.specs.Elements.{elements_of, AreArranged}
use Rattle.picking.specs.Elements as elements
use Rattle.picking.proofs.Elements.{are_picked}
use Rattle.plain_world.specs.Worlds.{World, Entry, look}
use Rattle.plain_world.specs.Parts.{IsReply}
use Rattle.plain_world.specs.declared.refusal.Refusal.TheVariants.{WrongType}
use Rattle.plain_world.specs.declared.reply.Part.{Part}
use Rattle.plain_world.specs.declared.reply.Part.TheVariants.{Array, Refused}
use Rattle.plain_world.specs.Picks.{ArePicked, picks_told}
use Rattle.plain_model.specs.OfType.{hash_in, may_tell, may_tell_of}
use Rattle.plain_model.specs.HashSteps.{Fields, PicksFields, fields_listed, may_hashes}
use Rattle.plain_model.specs.declared.hash_command.HashCommand.TheVariants as hashes
use Rattle.plain_world.proofs.Containing.{contains_first, contains_later}
use Rattle.keyspace.specs.Pages.{field_of}
use Rattle.cmd_hashes.specs.declared.listing.Told.{Told}
use Rattle.cmd_hashes.specs.Found.{FoundHash, FoundOther}
use Rattle.cmd_hashes.specs.Listed.{told_of, replies_of, telling}
use Rattle.cmd_hashes.specs.Picked.{or_empty, pairs_of, first_told, told_with}
use Rattle.cmd_hashes.proofs.Listed.{Pairs, names_of, AreValues, telling_is, told_is_reply}

some_of : {A : Type 0} (o : Option A) → is_some o ≡ true → (v : A) × (o ≡ Some v)
some_of None h = absurd cc
some_of (Some v) h = (v, refl)

pair_from : (o : Option (List ℕ × List ℕ)) (x : List ℕ) → field_of o ≡ Some x → (v : List ℕ) × (o ≡ Some (x, v))
pair_from None x h = absurd cc
pair_from (Some p) x h = let same : p.0 ≡ x = cc in (p.1, ap (λ (k : List ℕ). Some (k, p.1)) same)

has_field : (o : Option (List ℕ × List ℕ)) → IsSome o → IsSome (field_of o)
has_field None h = absurd cc
has_field (Some p) h = refl

has_pair : (o : Option (List ℕ × List ℕ)) → IsSome (field_of o) → IsSome o
has_pair None h = absurd cc
has_pair (Some p) h = refl

is_there : (o : Option (List ℕ × List ℕ)) → IsSome o → o ≡ Some ((or_empty o).0, (or_empty o).1)
is_there None h = absurd cc
is_there (Some p) h = refl

module _ (m : Blocks) (hash : object.Fields) (sound : object_of.IsFields m hash) where
  -- each field is that of one item number
  hash_arranged : AreArranged (object_of.fields m hash) (λ at. field_of (pair_at m hash at))
  hash_arranged =
      let a = arranged m hash sound in
      record {
        found = λ x h. (let v = some_of (get (object_of.fields m hash) x) h in let at = a.found x v.0 v.1 in (at.0, ap field_of at.1));
        member = λ at x h. (let p = pair_from (pair_at m hash at) x h in ap is_some (a.pair at x p.0 p.1));
        apart = λ at other x h k. (let p = pair_from (pair_at m hash at) x h in let q = pair_from (pair_at m hash other) x k in a.apart at other x p.0 q.0 p.1 q.1);
      }

  -- item numbers that were picked are those of fields that were picked
  fields_picked : (n : Option ℤ) (items : List ℕ) → IsPick (λ blocks. object_of.IsFields blocks hash) (λ blocks at. IsSome (pair_at blocks hash at)) n items
      → ArePicked (λ field. is_some (get (object_of.fields m hash) field)) (len (object_of.fields m hash)) n (elements_of (λ at. field_of (pair_at m hash at)) items)
  fields_picked n items p = are_picked (object_of.fields m hash) (λ at. field_of (pair_at m hash at)) hash_arranged (λ blocks. object_of.IsFields blocks hash)
      (λ blocks at. IsSome (pair_at blocks hash at)) m sound (λ at h. has_field (pair_at m hash at) h) (λ at h. has_pair (pair_at m hash at) h) n items p

  values_are : (items : List ℕ) → ((at : ℕ) → Contains items at → IsSome (pair_at m hash at)) → AreValues (λ name. get (object_of.fields m hash) name) (pairs_of (λ at. pair_at m hash at) items)
  values_are [] real = tt
  values_are (at ∷ items) real =
      let p = or_empty (pair_at m hash at) in
      ((arranged m hash sound).pair at p.0 p.1 (is_there (pair_at m hash at) (real at (contains_first at items))), values_are items (λ other c. real other (contains_later at other items c)))

-- the fields of the pairs
one_name : (o : Option (List ℕ × List ℕ)) → (or_empty o).0 ≡ elements.or_empty (field_of o)
one_name None = refl
one_name (Some p) = refl

names_are : (f : ℕ → Option (List ℕ × List ℕ)) (items : List ℕ) → names_of (pairs_of f items) ≡ elements_of (λ at. field_of (f at)) items
names_are f [] = refl
names_are f (at ∷ items) = ap (λ (l : List (List ℕ)). (or_empty (f at)).0 ∷ l) (names_are f items) ∙ ap (λ (x : List ℕ). x ∷ elements_of (λ i. field_of (f i)) items) (one_name (f at))

first_is : (tell : List (List ℕ) → List Part) (pairs : Pairs) → first_told pairs ≡ picks_told tell None (names_of pairs)
first_is tell [] = refl
first_is tell (p ∷ pairs) = refl

with_is : (with_values : Bool) (fields : Fields) (names : List (List ℕ)) → telling (told_with with_values) fields names ≡ fields_listed with_values fields names
with_is false fields names = refl
with_is true fields names = refl

-- an array of what is told of them is one reply
pub items_are_reply : (told : Told) (f : ℕ → Option (List ℕ × List ℕ)) (items : List ℕ) → IsReply (Array (replies_of told (length items)) ∷ flat_map (told_of told) (pairs_of f items))
items_are_reply told f items = subst (λ n. IsReply (Array (replies_of told n) ∷ flat_map (told_of told) (pairs_of f items))) (length-map items (λ at. or_empty (f at)))
    (told_is_reply told (pairs_of f items))

-- the head of an array, and what is told behind it
pub items_parts : (told : Told) (len count : ℕ) (first mid new rest : List Part) → first ≡ [] → count ≡ replies_of told len → mid ≡ first ++ Array count ∷ [] → new ≡ mid ++ rest
    → new ≡ Array (replies_of told len) ∷ rest
items_parts told len count first mid new rest none many head behind = behind ∙ ap (λ l. l ++ rest) (head ∙ ap (λ l. l ++ Array count ∷ []) none) ∙ ap (λ n. Array n ∷ rest) many

module _ {E : Type 0} (m : Blocks) (hash : object.Fields) (sound : object_of.IsFields m hash) (n : Option ℤ) (with_values : Bool) (items : List ℕ)
    (p : IsPick (λ blocks. object_of.IsFields blocks hash) (λ blocks at. IsSome (pair_at blocks hash at)) n items)
    (result : Result (List Part) E) where
  pub one_told : n ≡ None → IfOk result (λ reply. reply ≡ first_told (pairs_of (λ at. pair_at m hash at) items))
      → IfOk result (λ reply. PicksFields n with_values (Some (object_of.fields m hash)) reply)
  one_told none told = by_result result told
    where
      by_result : (r : Result (List Part) E) → IfOk r (λ reply. reply ≡ first_told (pairs_of (λ at. pair_at m hash at) items))
          → IfOk r (λ reply. PicksFields n with_values (Some (object_of.fields m hash)) reply)
      by_result (Ok reply) is = (
        elements_of (λ at. field_of (pair_at m hash at)) items,
        fields_picked m hash sound n items p,
        is ∙ first_is (fields_listed with_values (object_of.fields m hash)) (pairs_of (λ at. pair_at m hash at) items)
            ∙ ap (picks_told (fields_listed with_values (object_of.fields m hash)) None) (names_are (λ at. pair_at m hash at) items)
            ∙ ap (λ (k : Option ℤ). picks_told (fields_listed with_values (object_of.fields m hash)) k (elements_of (λ at. field_of (pair_at m hash at)) items)) (sym none),
      )
      by_result (Err x) is = tt

  pub many_told : is_some n ≡ true → ((at : ℕ) → Contains items at → IsSome (pair_at m hash at))
      → IfOk result (λ reply. reply ≡ Array (replies_of (told_with with_values) (length items)) ∷ flat_map (told_of (told_with with_values)) (pairs_of (λ at. pair_at m hash at) items))
      → IfOk result (λ reply. PicksFields n with_values (Some (object_of.fields m hash)) reply)
  many_told some real told = by_result result told
    where
      pairs : Pairs
      pairs = pairs_of (λ at. pair_at m hash at) items

      counted : (k : Option ℤ) (names : List (List ℕ)) → is_some k ≡ true
          → fields_listed with_values (object_of.fields m hash) names ≡ picks_told (fields_listed with_values (object_of.fields m hash)) k names
      counted None names h = absurd cc
      counted (Some k) names h = refl

      by_result : (r : Result (List Part) E) → IfOk r
          (λ reply. reply ≡ Array (replies_of (told_with with_values) (length items)) ∷ flat_map (told_of (told_with with_values)) (pairs_of (λ at. pair_at m hash at) items))
          → IfOk r (λ reply. PicksFields n with_values (Some (object_of.fields m hash)) reply)
      by_result (Ok reply) is = (
        elements_of (λ at. field_of (pair_at m hash at)) items,
        fields_picked m hash sound n items p,
        is ∙ ap (λ (k : ℕ). Array (replies_of (told_with with_values) k) ∷ flat_map (told_of (told_with with_values)) (pairs_of (λ at. pair_at m hash at) items))
            (sym (length-map items (λ at. or_empty (pair_at m hash at))))
            ∙ telling_is (told_with with_values) (object_of.fields m hash) (pairs_of (λ at. pair_at m hash at) items) (values_are m hash sound items real)
            ∙ with_is with_values (object_of.fields m hash) (names_of (pairs_of (λ at. pair_at m hash at) items))
            ∙ ap (fields_listed with_values (object_of.fields m hash)) (names_are (λ at. pair_at m hash at) items)
            ∙ counted n (elements_of (λ at. field_of (pair_at m hash at)) items) some,
      )
      by_result (Err x) is = tt

-- ---- what HRANDFIELD may tell of what stands at a key

pub none_random : {E : Type 0} (seed : ℕ) (n : Option ℤ) (with_values : Bool) (old : World) (key : List ℕ) (fields : Fields) (result : Result (List Part) E) → look old key ≡ None → fields ≡ empty
    → IfOk result (λ reply. PicksFields n with_values (Some fields) reply) → IfOk result (λ reply. may_hashes seed old (hashes.HRandField key n with_values) reply old)
none_random seed n with_values old key fields (Ok reply) none is told =
    let all : PicksFields n with_values None reply = subst (λ (f : Fields). PicksFields n with_values (Some f) reply) is told in
    subst (λ (o : Option Entry). may_tell hash_in old o (PicksFields n with_values) reply old) (sym none) (all, refl)
none_random seed n with_values old key fields (Err x) none is told = tt

pub hash_random : {E : Type 0} (seed : ℕ) (n : Option ℤ) (with_values : Bool) (old : World) (m : Blocks) (key : List ℕ) (hash : object.Fields) (result : Result (List Part) E)
    → FoundHash old m key hash
    → IfOk result (λ reply. PicksFields n with_values (Some (object_of.fields m hash)) reply) → IfOk result (λ reply. may_hashes seed old (hashes.HRandField key n with_values) reply old)
hash_random seed n with_values old m key hash (Ok reply) found told = subst (λ (o : Option Entry). may_tell hash_in old o (PicksFields n with_values) reply old) (sym found.stands) (told, refl)
hash_random seed n with_values old m key hash (Err x) found told = tt

pub other_random : {E : Type 0} (seed : ℕ) (n : Option ℤ) (with_values : Bool) (old : World) (key : List ℕ) (result : Result (List Part) E) → FoundOther old key
    → IfOk result (λ reply. reply ≡ Refused WrongType ∷ [])
    → IfOk result (λ reply. may_hashes seed old (hashes.HRandField key n with_values) reply old)
other_random seed n with_values old key (Ok reply) found is =
    subst (λ (o : Option Entry). may_tell hash_in old o (PicksFields n with_values) reply old) (sym found.stands)
    (subst (λ (o : Option Fields). may_tell_of old o (PicksFields n with_values) reply old) (sym found.other) (is, refl))
other_random seed n with_values old key (Err x) found is = tt
