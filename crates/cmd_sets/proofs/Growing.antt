-- Members put into a set one after the other, and taken out of it.
use Rattle.std.proofs.Common.{◌+◌, length, get_or, drop, drop-cons, add-one, ◌≡◌, ◌≢◌, inl, inr, ◌⊎◌, ℕ, zero, suc, ◌<◌, ◌≤◌, Bool, true, false, not, List, [], ◌∷◌, Result, Ok, Err, refl}
use Rattle.std.proofs.Common.{sym, ap, subst, ◌∙◌, arith}
use Rattle.std.specs.Prelude.{IfOk, OnErr}
use Rattle.std.specs.FinMap.{insert, remove, len}
use Rattle.std.proofs.lemmas.Bool.{cond-true, cond-false, cases_Bool}
use Rattle.blocks.specs.Blocks.{Blocks, Changes, no_step}
use Rattle.blocks.proofs.Change.{changes_same}
use Rattle.object_codec.specs.declared.form.Form.{Form}
use Rattle.object_codec.specs.declared.form.Form.TheVariants.{Intset, Listpack, Hashtable, Skiplist, Quicklist, Stream}
use Rattle.set_object.specs.declared.members.Members as object
use Rattle.set_object.specs.Strings.{Strings, has, IsRisen}
use Rattle.rehash_dict.specs.Tables.{IsSettled}
use Rattle.rehash_dict.specs.Grown.{Grown}
use Rattle.rehash_dict.specs.Keyed.{hash_of}
use Rattle.set_object.specs.Members.{IsMembers, IsChanged, KeepsSettings, members, refs, form_of, form_left, tables}
use Rattle.set_object.proofs.Sets.{tied, tied_true, sets_alike, has_put, has_taken, len_put, len_taken}
use Rattle.plain_model.specs.SetSteps.{Members, add_all, drop_all}
use Rattle.keyspace.specs.Forms.{RisesTo, RisesIf}
use Rattle.keyspace.specs.Insides.{SettledBelow}

-- a member that is there can't be put in, nor one taken out that isn't
pub insert_there : (m : Strings) (x : List ℕ) → has m x ≡ true → insert m x tt ≡ m
insert_there m x there = sets_alike _ _ (λ q. has_put m x q ∙ elim (cases_Bool (tied q x)) [
  | inl same ↦ cond-true _ _ _ same ∙ sym there ∙ ap (has m) (sym (tied_true q x same))
  | inr other ↦ cond-false _ _ _ other
])

pub remove_lacking : (m : Strings) (x : List ℕ) → has m x ≡ false → remove m x ≡ m
remove_lacking m x lacks = sets_alike _ _ (λ q. has_taken m x q ∙ elim (cases_Bool (tied q x)) [
  | inl same ↦ cond-true _ _ _ same ∙ sym lacks ∙ ap (has m) (sym (tied_true q x same))
  | inr other ↦ cond-false _ _ _ other
])

pub one_more : (m : Strings) (x : List ℕ) → len m ≤ len (insert m x tt)
one_more m x = elim (cases_Bool (has m x)) [
  | inl there ↦ let same = ap len (insert_there m x there) in omega (arith, same)
  | inr lacks ↦ let more = len_put m x lacks in omega (arith, more)
]

pub one_less : (m : Strings) (x : List ℕ) → len (remove m x) ≤ len m
one_less m x = elim (cases_Bool (has m x)) [
  | inl there ↦ let less = len_taken m x there in omega (arith, less)
  | inr lacks ↦ let same = ap len (remove_lacking m x lacks) in omega (arith, same)
]

-- a set grows by members that are put in, and shrinks by such as are taken out
pub len_more : (m : Members) (words : List (List ℕ)) → len m ≤ len (add_all m words)
len_more m [] = omega arith
len_more m (word ∷ words) = let one = one_more m word in let rest = len_more (insert m word tt) words in omega (arith, one, rest)

pub len_less : (m : Members) (words : List (List ℕ)) → len (drop_all m words) ≤ len m
len_less m [] = omega arith
len_less m (word ∷ words) = let one = one_less m word in let rest = len_less (remove m word) words in omega (arith, one, rest)

-- ---- one member

-- the set is sound after a change of it, and its tables come from those that it had
pub record Goes (m after : Blocks) (old new : object.Members) : Type 0 where
  pub sound : IsMembers after new
  pub settings : KeepsSettings old new
  pub changes : Changes m after (refs old) (refs new)
  pub grown : Grown (hash_of old.seed) (tables m old) (tables after new)

pub stays : (m after : Blocks) (old new : object.Members) → IsMembers m old → new ≡ old → after ≡ m → Goes m after old new
stays m after old new sound same_set same_blocks =
    subst (λ (n : object.Members). Goes m after old n) (sym same_set) (subst (λ (b : Blocks). Goes m b old old) (sym same_blocks) (record {
      sound = sound;
      settings = record { limits = refl; seed = refl };
      changes = changes_same _ _ sound.owned;
      grown = no_step;
    }))

changed : (m after : Blocks) (old new : object.Members) (set : Strings) → IsChanged m after old new set → Goes m after old new
changed m after old new set c = record { sound = c.sound; settings = c.settings; changes = c.changes; grown = c.grown }

-- what is so wherever something is answered
from_ok : {E P : Type 0} (r : Result Bool E) (done : Bool) → r ≡ Ok done → IfOk r (λ is. P) → P
from_ok (Ok x) done is p = p
from_ok (Err e) done is p = absurd cc

is_false : (b : Bool) → true ≡ not b → b ≡ false
is_false true h = cc
is_false false h = refl

is_true : (b : Bool) → false ≡ not b → b ≡ true
is_true true h = refl
is_true false h = cc

module _ {E : Type 0} (m after : Blocks) (old new : object.Members) (x : List ℕ) where
  pub added_goes : (r : Result Bool E) → IsMembers m old → (r ≡ Ok true → IsChanged m after old new (insert (members m old) x tt)) → (r ≢ Ok true → new ≡ old) → (r ≢ Ok true → after ≡ m)
      → Goes m after old new
  added_goes (Ok true) sound added same_set same_blocks = changed m after old new _ (added refl)
  added_goes (Ok false) sound added same_set same_blocks = stays m after old new sound (same_set (λ e. cc)) (same_blocks (λ e. cc))
  added_goes (Err e) sound added same_set same_blocks = stays m after old new sound (same_set (λ e. cc)) (same_blocks (λ e. cc))

  added_either : (r : Result Bool E) → IfOk r (λ is. is ≡ not (has (members m old) x)) → (r ≡ Ok true → IsChanged m after old new (insert (members m old) x tt))
      → (r ≡ Ok true → IsRisen old.limits (form_of old) (insert (members m old) x tt) (form_of new)) → (r ≢ Ok true → new ≡ old) → (r ≢ Ok true → after ≡ m)
      → IfOk r (λ is. (members after new ≡ insert (members m old) x tt) × RisesTo old.limits (form_of old) (members m old) x (form_of new))
  added_either (Ok true) there added form same_set same_blocks = (
    (added refl).members_are,
    subst (λ (b : Bool). RisesIf b old.limits (form_of old) (insert (members m old) x tt) (form_of new)) (sym (is_false _ there)) (form refl),
  )
  added_either (Ok false) there added form same_set same_blocks =
      let known = is_true _ there in (
        ap (λ (s : object.Members). members after s) (same_set (λ e. cc)) ∙ ap (λ (b : Blocks). members b old) (same_blocks (λ e. cc)) ∙ sym (insert_there _ x known),
        subst (λ (b : Bool). RisesIf b old.limits (form_of old) (insert (members m old) x tt) (form_of new)) (sym known) (ap form_of (same_set (λ e. cc))),
      )
  added_either (Err e) there added form same_set same_blocks = tt

  pub added_is : (r : Result Bool E) → IfOk r (λ is. is ≡ not (has (members m old) x)) → (r ≡ Ok true → IsChanged m after old new (insert (members m old) x tt))
      → (r ≡ Ok true → IsRisen old.limits (form_of old) (insert (members m old) x tt) (form_of new)) → (r ≢ Ok true → new ≡ old) → (r ≢ Ok true → after ≡ m)
      → (done : Bool) → r ≡ Ok done → (members after new ≡ insert (members m old) x tt) × RisesTo old.limits (form_of old) (members m old) x (form_of new)
  added_is r there added form same_set same_blocks done is = from_ok r done is (added_either r there added form same_set same_blocks)

-- a form is that of a dictionary, or it isn't
cases_form : (f : Form) → (f ≡ Hashtable) ⊎ (f ≢ Hashtable)
cases_form Hashtable = inl refl
cases_form Intset = inr (λ e. cc)
cases_form Listpack = inr (λ e. cc)
cases_form Skiplist = inr (λ e. cc)
cases_form Quicklist = inr (λ e. cc)
cases_form Stream = inr (λ e. cc)

-- what has a member left keeps its form
left_some : (f : Form) (n : ℕ) → 0 < n → form_left f n ≡ f
left_some Hashtable n some = refl
left_some Intset zero some = absurd (omega (arith, some))
left_some Listpack zero some = absurd (omega (arith, some))
left_some Skiplist zero some = absurd (omega (arith, some))
left_some Quicklist zero some = absurd (omega (arith, some))
left_some Stream zero some = absurd (omega (arith, some))
left_some Intset (suc n) some = refl
left_some Listpack (suc n) some = refl
left_some Skiplist (suc n) some = refl
left_some Quicklist (suc n) some = refl
left_some Stream (suc n) some = refl

module _ {E : Type 0} (m after : Blocks) (old new : object.Members) (x : List ℕ) where
  -- what is settled where it has fewer members stays so where one is taken out, or none
  removed_settles : (r : Result Bool E) → (r ≡ Ok true → IsSettled (tables after new)) → (r ≡ Ok false → new ≡ old) → (r ≡ Ok false → after ≡ m)
      → IfOk r (λ was. (most : ℕ) → SettledBelow most (len (members m old)) (tables m old) → SettledBelow most (len (members after new)) (tables after new))
  removed_settles (Ok true) settled same_set same_blocks = λ most first fewer. settled refl
  removed_settles (Ok false) settled same_set same_blocks =
      subst (λ (s : object.Members). (most : ℕ) → SettledBelow most (len (members m old)) (tables m old) → SettledBelow most (len (members after s)) (tables after s)) (sym (same_set refl))
      (subst (λ (b : Blocks). (most : ℕ) → SettledBelow most (len (members m old)) (tables m old) → SettledBelow most (len (members b old)) (tables b old)) (sym (same_blocks refl))
      (λ most first. first))
  removed_settles (Err e) settled same_set same_blocks = tt

  pub removed_settled : (r : Result Bool E) → (r ≡ Ok true → IsSettled (tables after new)) → (r ≡ Ok false → new ≡ old) → (r ≡ Ok false → after ≡ m) → (done : Bool) → r ≡ Ok done
      → (most : ℕ) → SettledBelow most (len (members m old)) (tables m old) → SettledBelow most (len (members after new)) (tables after new)
  removed_settled r settled same_set same_blocks done is = from_ok r done is (removed_settles r settled same_set same_blocks)

  pub removed_goes : (r : Result Bool E) → IsMembers m old → (r ≡ Ok true → IsChanged m after old new (remove (members m old) x)) → (r ≡ Ok false → new ≡ old) → (r ≡ Ok false → after ≡ m)
      → OnErr r (form_of old ≢ Hashtable → new ≡ old) → OnErr r (form_of old ≢ Hashtable → after ≡ m)
      → OnErr r (form_of old ≡ Hashtable → IsChanged m after old new (remove (members m old) x)) → Goes m after old new
  removed_goes (Ok true) sound removed same_set same_blocks err_set err_blocks err_removed = changed m after old new _ (removed refl)
  removed_goes (Ok false) sound removed same_set same_blocks err_set err_blocks err_removed = stays m after old new sound (same_set refl) (same_blocks refl)
  removed_goes (Err e) sound removed same_set same_blocks err_set err_blocks err_removed = elim (cases_form (form_of old)) [
    | inl table ↦ changed m after old new _ (err_removed table)
    | inr packed ↦ stays m after old new sound (err_set packed) (err_blocks packed)
  ]

  removed_either : (r : Result Bool E) → IfOk r (λ was. was ≡ has (members m old) x) → (r ≡ Ok true → IsChanged m after old new (remove (members m old) x))
      → (r ≡ Ok true → form_of new ≡ form_left (form_of old) (len (remove (members m old) x))) → (r ≡ Ok false → new ≡ old) → (r ≡ Ok false → after ≡ m)
      → IfOk r (λ was. (members after new ≡ remove (members m old) x) × (0 < len (remove (members m old) x) → form_of new ≡ form_of old))
  removed_either (Ok true) there removed form same_set same_blocks = ((removed refl).members_are, λ some. form refl ∙ left_some (form_of old) _ some)
  removed_either (Ok false) there removed form same_set same_blocks = (
    ap (λ (s : object.Members). members after s) (same_set refl) ∙ ap (λ (b : Blocks). members b old) (same_blocks refl) ∙ sym (remove_lacking _ x (sym there)),
    λ some. ap form_of (same_set refl),
  )
  removed_either (Err e) there removed form same_set same_blocks = tt

  pub removed_is : (r : Result Bool E) → IfOk r (λ was. was ≡ has (members m old) x) → (r ≡ Ok true → IsChanged m after old new (remove (members m old) x))
      → (r ≡ Ok true → form_of new ≡ form_left (form_of old) (len (remove (members m old) x))) → (r ≡ Ok false → new ≡ old) → (r ≡ Ok false → after ≡ m)
      → (done : Bool) → r ≡ Ok done → (members after new ≡ remove (members m old) x) × (0 < len (remove (members m old) x) → form_of new ≡ form_of old)
  removed_is r there removed form same_set same_blocks done is = from_ok r done is (removed_either r there removed form same_set same_blocks)

-- the rest of a list from a place on is what stands there and the rest behind it
pub rest_from : {A : Type 0} (xs : List A) (i : ℕ) (x : A) → i < length xs → x ≡ get_or xs i x → drop i xs ≡ x ∷ drop (i + 1) xs
rest_from {A = A} xs i x within is = rw (add-one, drop-cons xs i x) (ap (λ (z : A). z ∷ drop (suc i) xs) (sym is))
