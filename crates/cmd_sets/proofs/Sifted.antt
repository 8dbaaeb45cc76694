-- Names that are sifted by the sets at keys.
use Rattle.std.proofs.Common.{◌≡◌, ◌<◌, ◌+◌, ℕ, zero, suc, Bool, true, false, cond, List, [], ◌∷◌, ◌++◌, length, take, drop, get_or, refl, sym, ap, subst, ◌∙◌, arith}
use Rattle.std.specs.Prelude.{◌&&◌, ◌||◌}
use Rattle.std.specs.FinMap.{insert}
use Rattle.std.proofs.lemmas.Bool.{and_parts}
use Rattle.std.proofs.lemmas.List.{take_more}
use Rattle.set_object.specs.Strings.{set_of, IsOnce}
use Rattle.set_object.proofs.Sets.{among, has_among}
use Rattle.plain_world.specs.Worlds.{World}
use Rattle.plain_model.specs.SetSteps.{Members, has, in_all, add_all}
use Rattle.keyspace.specs.Forms.{set_at}
use Rattle.cmd_sets.specs.Joined.{sets_here, has_or_lacks, Sifts}
use Rattle.cmd_sets.proofs.Counted.{has_passing, once_passing}
use Rattle.cmd_sets.proofs.Growing.{rest_from}
use Rattle.cmd_sets.proofs.Joined.{each_has, within}
use Rattle.cmd_sets.proofs.Put.{filled_has}

-- ---- members that are put into a set

pub added_last : (set : Members) (list : List (List ℕ)) (x : List ℕ) → add_all set (list ++ x ∷ []) ≡ insert (add_all set list) x tt
added_last set [] x = refl
added_last set (y ∷ list) x = added_last (insert set y tt) list x

pub added_more : (set now new : Members) (list : List (List ℕ)) (k : ℕ) (x : List ℕ) → k < length list → now ≡ add_all set (take k list) → x ≡ get_or list k [] → new ≡ insert now x tt
    → new ≡ add_all set (take (k + 1) list)
added_more set now new list k x inside so_far is put =
    put ∙ ap (λ s. insert s x tt) so_far ∙ sym (added_last set (take k list) x)
    ∙ ap (add_all set) (ap (λ y. take k list ++ y ∷ []) is ∙ sym (take_more list k [] inside))

pub added_all : (set : Members) (list : List (List ℕ)) (q : List ℕ) → has (add_all set list) q ≡ (has set q || has (set_of list) q)
added_all set list q = filled_has list set q ∙ either (among q list) (has set q) ∙ ap (λ b. has set q || b) (sym (has_among list q))
  where
    either : (a b : Bool) → cond a true b ≡ (b || a)
    either true true = refl
    either true false = refl
    either false true = refl
    either false false = refl

-- ---- names that were sifted

pub sifted_has : (there : Bool) (set : Members) (names kept : List (List ℕ)) → Sifts there set names kept → (q : List ℕ) → has (set_of kept) q ≡ (has (set_of names) q && has_or_lacks there set q)
sifted_has there set names kept is q = ap (λ (l : List (List ℕ)). has (set_of l) q) is ∙ has_passing (has_or_lacks there set) names q

pub sifted_once : (there : Bool) (set : Members) (names kept : List (List ℕ)) → Sifts there set names kept → IsOnce names → IsOnce kept
sifted_once there set names kept is once = subst IsOnce (sym is) (once_passing (has_or_lacks there set) names once)

-- ---- places of keys

drop_none : (keys : List (List ℕ)) → drop 0 keys ≡ keys
drop_none [] = refl
drop_none (k ∷ keys) = refl

pub at_any : (keys : List (List ℕ)) (i : ℕ) (d e : List ℕ) → i < length keys → get_or keys i d ≡ get_or keys i e
at_any [] i d e inside = absurd (omega (arith, inside))
at_any (k ∷ keys) zero d e inside = refl
at_any (k ∷ keys) (suc i) d e inside = at_any keys i d e (omega (arith, inside))

-- ---- what the sets at all keys have

together : (a b r : Bool) → ((a && b) && r) ≡ (a && (b && r))
together true b r = refl
together false b r = refl

with_none : (a : Bool) → a ≡ (a && true)
with_none true = refl
with_none false = refl

itself : (a b : Bool) → (a ≡ true → b ≡ true) → a ≡ (a && b)
itself true b so = sym (so refl)
itself false b so = refl

module _ (world : World) (keys : List (List ℕ)) where
  -- the set at one of the keys, before any other is asked
  pub all_begin : (i : ℕ) (key : List ℕ) (names : Members) → i < length keys → key ≡ get_or keys i key → names ≡ set_at world key
      → (q : List ℕ) → (has names q && in_all (sets_here world (drop 0 keys)) q) ≡ in_all (sets_here world keys) q
  all_begin i key names inside is same q =
      ap (λ (l : List (List ℕ)). has names q && in_all (sets_here world l) q) (drop_none keys)
      ∙ within (has names q) (in_all (sets_here world keys) q) (λ all. ap (λ (s : Members). has s q) same ∙ each_has world keys i key q inside is all)

  pub own_begin : (i : ℕ) (key : List ℕ) (names : Members) → i < length keys → key ≡ get_or keys i key → names ≡ set_at world key
      → (q : List ℕ) → has names q ≡ true → has (set_at world (get_or keys i [])) q ≡ true
  own_begin i key names inside is same q h =
      ap (λ k. has (set_at world k) q) (at_any keys i [] key inside ∙ sym is) ∙ ap (λ (s : Members). has s q) (sym same) ∙ h

  -- another one is asked
  pub all_more : (i : ℕ) (key : List ℕ) (old new : Members) → i < length keys → key ≡ get_or keys i key → ((q : List ℕ) → has new q ≡ (has old q && has (set_at world key) q))
      → (q : List ℕ) → (has new q && in_all (sets_here world (drop (i + 1) keys)) q) ≡ (has old q && in_all (sets_here world (drop i keys)) q)
  all_more i key old new inside is h q =
      ap (λ b. b && in_all (sets_here world (drop (i + 1) keys)) q) (h q)
      ∙ together (has old q) (has (set_at world key) q) (in_all (sets_here world (drop (i + 1) keys)) q)
      ∙ ap (λ (l : List (List ℕ)). has old q && in_all (sets_here world l) q) (sym (rest_from keys i key inside is))

  pub own_more : (one : List ℕ) (key : List ℕ) (old new : Members) → ((q : List ℕ) → has new q ≡ (has old q && has (set_at world key) q))
      → ((q : List ℕ) → has old q ≡ true → has (set_at world one) q ≡ true)
      → (q : List ℕ) → has new q ≡ true → has (set_at world one) q ≡ true
  own_more one key old new h own q is = own q (and_parts (has old q) (has (set_at world key) q) (sym (h q) ∙ is)).0

  -- the one itself is passed
  pub all_passed : (i : ℕ) (old : Members) → i < length keys → ((q : List ℕ) → has old q ≡ true → has (set_at world (get_or keys i [])) q ≡ true)
      → (q : List ℕ) → (has old q && in_all (sets_here world (drop (i + 1) keys)) q) ≡ (has old q && in_all (sets_here world (drop i keys)) q)
  all_passed i old inside own q =
      all_more i (get_or keys i []) old old inside (at_any keys i [] (get_or keys i []) inside) (λ x. itself (has old x) (has (set_at world (get_or keys i [])) x) (own x)) q

  -- all were asked
  pub all_asked : (i : ℕ) (m : Members) → drop i keys ≡ [] → (q : List ℕ) → has m q ≡ (has m q && in_all (sets_here world (drop i keys)) q)
  all_asked i m none q = with_none (has m q) ∙ sym (ap (λ (l : List (List ℕ)). has m q && in_all (sets_here world l) q) none)
