-- Watched keys and their marks.
use Rattle.std.proofs.Common.{◌≡◌, inl, inr, ℕ, zero, suc, ◌<◌, List, [], ◌∷◌, ◌++◌, length, get_or, set, Option, refl, sym, ap, ◌∙◌, subst, arith}
use Rattle.std.specs.Prelude.{◌≢◌, ◌⊎◌, bytes_eq, true}
use Rattle.std.specs.List.{Contains}
use Rattle.std.specs.FinMap.{FinMap, insert}
use Rattle.std.proofs.lemmas.Bool.{cases_eq, cases_Bool}
use Rattle.std.proofs.lemmas.Slice.Eq.{bytes_eq-Decides}
use Rattle.std.proofs.lemmas.List.{length-map, length_push}
use Rattle.std.proofs.lemmas.List.Elements.{Contains-append_left, Contains-push}
use Rattle.stream_groups.specs.Groups.{name_cmp}
use Rattle.key_marks.specs.Marked.{marks_at}
use Rattle.key_marks.proofs.Marking.{marks_own, marks_other}
use Rattle.plain_world.specs.Worlds.{Entry}
use Rattle.session_desk.specs.declared.session.Watch.{Watch}
use Rattle.session_desk.specs.Kept.{no_look, look_of, looks}
use Rattle.session_desk.specs.Watching.{AreMarked, watched_keys}

-- as many looks as keys
pub many_keys : {T : Type 0} (told : T → Option Entry) (items : List (Watch T)) → length (looks told items) ≡ length (watched_keys items)
many_keys told items = length-map items (look_of told) ∙ sym (length-map items (λ watch. watch.key.items))

-- the key of a look
pub key_at : {T : Type 0} (told : T → Option Entry) (items : List (Watch T)) (k : ℕ) → (get_or (looks told items) k no_look).key ≡ get_or (watched_keys items) k []
key_at told [] k = refl
key_at told (w ∷ items) zero = refl
key_at told (w ∷ items) (suc k) = key_at told items k

-- a key is put in the place of the same one
pub same_keys : {T : Type 0} (items : List (Watch T)) (p : ℕ) (x y : Watch T) → p < length items → x ≡ get_or items p x → y.key ≡ x.key → watched_keys (set items p y) ≡ watched_keys items
same_keys [] p x y here is same = refl
same_keys (w ∷ items) zero x y here is same = ap (λ k. k ∷ watched_keys items) (ap (λ k. k.items) same ∙ ap (λ (v : Watch _). v.key.items) is)
same_keys (w ∷ items) (suc p) x y here is same = ap (λ l. w.key.items ∷ l) (same_keys items p x y (omega (arith, here)) is same)

-- an element before the last one, and the last one
before_last : (keys : List (List ℕ)) (key : List ℕ) (k : ℕ) → k < length keys → get_or (keys ++ key ∷ []) k [] ≡ get_or keys k []
before_last [] key k below = absurd (omega (arith, below))
before_last (x ∷ keys) key zero below = refl
before_last (x ∷ keys) key (suc k) below = before_last keys key k (omega (arith, below))

last_is : (keys : List (List ℕ)) (key : List ℕ) → get_or (keys ++ key ∷ []) (length keys) [] ≡ key
last_is [] key = refl
last_is (x ∷ keys) key = last_is keys key

same_or_not : (q key : List ℕ) → (q ≡ key) ⊎ (q ≢ key)
same_or_not q key = elim (cases_Bool (bytes_eq q key)) [
  | inl alike ↦ inl ((bytes_eq-Decides q key).0 alike)
  | inr differ ↦ inr (λ same. absurd (let alike : bytes_eq q key ≡ true = (bytes_eq-Decides q key).1 same in cc))
]

-- one key more is marked
pub marked_more : (marks : FinMap name_cmp (List ℕ)) (keys : List (List ℕ)) (key : List ℕ) → AreMarked marks keys
    → AreMarked (insert marks key (marks_at marks key ++ length keys ∷ [])) (keys ++ key ∷ [])
marked_more marks keys key all k below = elim (cases_eq k (length keys)) [
  | inl same ↦ subst (λ j. Contains (at_key (get_or (keys ++ key ∷ []) j [])) j) (sym same)
      (subst (λ q. Contains (at_key q) (length keys)) (sym (last_is keys key)) (subst (λ l. Contains l (length keys)) (sym own) (Contains-push (marks_at marks key) (length keys))))
  | inr other ↦ (let long = length_push keys key in
      let inside : k < length keys = omega (arith, below, other, long) in
      subst (λ q. Contains (at_key q) k) (sym (before_last keys key k inside)) (still (get_or keys k []) k (all k inside)))
]
  where
    at_key : List ℕ → List ℕ
    at_key q = marks_at (insert marks key (marks_at marks key ++ length keys ∷ [])) q

    own : at_key key ≡ marks_at marks key ++ length keys ∷ []
    own = marks_own marks key (marks_at marks key ++ length keys ∷ [])

    still : (q : List ℕ) (j : ℕ) → Contains (marks_at marks q) j → Contains (at_key q) j
    still q j c = kept (same_or_not q key)
      where
        kept : (q ≡ key) ⊎ (q ≢ key) → Contains (at_key q) j
        kept (inl same) = subst (λ z. Contains (at_key z) j) (sym same)
            (subst (λ l. Contains l j) (sym own) (Contains-append_left (marks_at marks key) (length keys ∷ []) j (subst (λ z. Contains (marks_at marks z) j) same c)))
        kept (inr other) = subst (λ l. Contains l j) (sym (marks_other marks key (marks_at marks key ++ length keys ∷ []) q other)) c
