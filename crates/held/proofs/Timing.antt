-- What the deadlines keep where they change, or the keys.
use Rattle.std.proofs.Common.{◌≡◌, ◌≢◌, ◌⊎◌, inl, inr, ℕ, ◌<◌, ◌^◌, List, Option, Some, None, IsSome, refl, sym, ap, ◌∙◌, subst}
use Rattle.std.proofs.lemmas.Bool.{cases_eq}
use Rattle.std.specs.FinMap.{get}
use Rattle.blocks.specs.declared.BlockRef.{BlockRef}
use Rattle.blocks.specs.Blocks.{Blocks, bytes_at}
use Rattle.rehash_dict.proofs.Keys.{keyed_frame}
use Rattle.rehash_dict.proofs.MapOf.{map_of_lacks, map_of_frame}
use Rattle.expiry.specs.Timed.{Timed, moments, no_deadline}
use Rattle.expiry.specs.Changes.{Sets, Clears}
use Rattle.expiry.specs.Changes.Sets.{changes, joins}
use Rattle.held.specs.Table.{Table, Element, item, Lacks, Keyed, Adds, Swaps, Removes, no_keys}
use Rattle.held.specs.Sound.{Names, IsTimed}
use Rattle.held.proofs.Tables.{keyed_none, some_bytes}

pub some_same : {A : Type 0} (o : Option A) (x y : A) → o ≡ Some x → o ≡ Some y → x ≡ y
some_same o x y h k = cc

pub some_none : {A : Type 0} {X : Type 0} (o : Option A) (x : A) → o ≡ Some x → o ≡ None → X
some_none o x h k = cc

-- no deadline stands at a key that none has
pub moments_lack : (m : Blocks) (d : Timed) (key : List ℕ) → Keyed m d.table → Lacks m d.table key → get (moments m d) key ≡ None
moments_lack m d key k lacks = map_of_lacks m (λ v. v) d.table key k lacks

module _ {V : Type 0} (m : Blocks) where
  -- the keys that have deadlines stay
  names_kept : (old new : Table V) (d : Timed) → IsTimed m old d →
      ((at : ℕ) (e : Element V) (i : ℕ) (f : Element ℕ) → item old at ≡ Some e → item d.table i ≡ Some f → e.key ≡ f.key → Names new e.key) → IsTimed m new d
  names_kept old new d t stays = record {
    keyed = t.keyed;
    names = λ i f found. (let n = t.names i f found in subst (Names new) n.same (stays n.at n.element i f n.found found n.same));
    latest = t.latest;
  }

  pub timed_adds : (old new : Table V) (d : Timed) (at : ℕ) (e : Element V) → Adds old new at e → IsTimed m old d → IsTimed m new d
  timed_adds old new d at e a t = names_kept old new d t (λ j f i g found _ _. record {
    at = j;
    element = f;
    found = a.updates.others j (λ here. some_none (item old at) f (ap (item old) (sym here) ∙ found) a.vacant) ∙ found;
    same = refl;
  })

  pub timed_swaps : (old new : Table V) (d : Timed) (at : ℕ) (was value : V) → Swaps old new at was value → IsTimed m old d → IsTimed m new d
  timed_swaps old new d at was value s t = names_kept old new d t (λ j f i g found _ _. elim (cases_eq j at) [
    | inl here ↦ record {
      at = at;
      element = record { key = s.key; hash = s.hash; value = value };
      found = s.updates.changed;
      same = ap (λ (x : Element V). x.key) (some_same (item old at) _ f s.found (ap (item old) (sym here) ∙ found));
    }
    | inr other ↦ record { at = j; element = f; found = s.updates.others j other ∙ found; same = refl }
  ])

  -- a key leaves that has no deadline
  pub timed_removes : (old new : Table V) (d : Timed) (key : List ℕ) (ref : BlockRef) (value : V) → Removes m old new key ref value → Lacks m d.table key → IsTimed m old d → IsTimed m new d
  timed_removes old new d key ref value l lacks t = names_kept old new d t (λ j f i g found there same. elim (cases_eq j l.at) [
    | inl here ↦
        (let one : f ≡ record { key = ref; hash = l.hash; value = value } = some_same (item old l.at) f _ (ap (item old) (sym here) ∙ found) l.found in
        absurd (lacks.each i g there (ap m (sym same) ∙ ap (λ (x : Element V). m x.key) one ∙ l.bytes)))
    | inr other ↦ record { at = j; element = f; found = l.updates.others j other ∙ found; same = refl }
  ])

  -- a key of the table gets a deadline
  pub timed_sets : (keys : Table V) (old new : Timed) (key : BlockRef) (deadline : ℕ) → Sets m old.table new.table key deadline → Keyed m new.table → Keyed m keys → IsSome (m key)
      → Names keys key → deadline < 2 ^ 63 → IsTimed m keys old → IsTimed m keys new
  timed_sets keys old new key deadline (changes at was stands s _) k _ live named late t = record {
    keyed = k;
    names = λ i f found. elim (cases_eq i at) [
      | inl here ↦
          (let one : f ≡ record { key = s.key; hash = s.hash; value = deadline } = some_same (item new.table at) f _ (ap (item new.table) (sym here) ∙ found) s.updates.changed in
          subst (Names keys) (ap (λ (x : Element ℕ). x.key) (sym one)) (t.names at _ s.found))
      | inr other ↦ t.names i f (sym (s.updates.others i other) ∙ found)
    ];
    latest = λ i f found. elim (cases_eq i at) [
      | inl here ↦
          (let one : f ≡ record { key = s.key; hash = s.hash; value = deadline } = some_same (item new.table at) f _ (ap (item new.table) (sym here) ∙ found) s.updates.changed in
          subst (λ d. d < 2 ^ 63) (ap (λ (x : Element ℕ). x.value) (sym one)) late)
      | inr other ↦ t.latest i f (sym (s.updates.others i other) ∙ found)
    ];
  }
  timed_sets keys old new key deadline (joins at lacks a _) k _ live named late t = record {
    keyed = k;
    names = λ i f found. elim (cases_eq i at) [
      | inl here ↦
          (let one = some_same (item new.table at) f _ (ap (item new.table) (sym here) ∙ found) a.updates.changed in
          subst (Names keys) (ap (λ (x : Element ℕ). x.key) (sym one)) named)
      | inr other ↦ t.names i f (sym (a.updates.others i other) ∙ found)
    ];
    latest = λ i f found. elim (cases_eq i at) [
      | inl here ↦
          (let one = some_same (item new.table at) f _ (ap (item new.table) (sym here) ∙ found) a.updates.changed in
          subst (λ d. d < 2 ^ 63) (ap (λ (x : Element ℕ). x.value) (sym one)) late)
      | inr other ↦ t.latest i f (sym (a.updates.others i other) ∙ found)
    ];
  }

  -- a key loses its deadline, where it has one
  pub timed_clears : (keys : Table V) (old new : Timed) (key : List ℕ) → Clears m old.table new.table key ⊎ ((new ≡ old) × Lacks m old.table key) → Keyed m new.table → IsTimed m keys old
      → IsTimed m keys new × Lacks m new.table key
  timed_clears keys old new key (inl c) k t = (
    record {
      keyed = k;
      names = λ i f found. t.names i f (still i f found).1;
      latest = λ i f found. t.latest i f (still i f found).1;
    },
    record {
      each = λ i f found bytes. (let s = still i f found in s.0 (t.keyed.apart i c.removes.at f _ s.1 c.removes.found (bytes ∙ sym c.removes.bytes)));
    },
  )
    where
      still : (i : ℕ) (f : Element ℕ) → item new.table i ≡ Some f → (i ≢ c.removes.at) × (item old.table i ≡ Some f)
      still i f found = elim (cases_eq i c.removes.at) [
        | inl here ↦ some_none (item new.table c.removes.at) f (ap (item new.table) (sym here) ∙ found) c.removes.updates.changed
        | inr other ↦ (other, sym (c.removes.updates.others i other) ∙ found)
      ]
  timed_clears keys old new key (inr same) k t = (subst (IsTimed m keys) (sym same.0) t, subst (λ (d : Timed). Lacks m d.table key) (sym same.0) same.1)

  -- a key gets a deadline, and loses it again
  pub sets_then_clears : (keys : Table V) (old mid new : Timed) (name : BlockRef) (key : List ℕ) (deadline : ℕ) → m name ≡ Some key → Lacks m keys key
      → Sets m old.table mid.table name deadline → Keyed m mid.table → Clears m mid.table new.table key ⊎ ((new ≡ mid) × Lacks m mid.table key) → Keyed m new.table → IsTimed m keys old
      → IsTimed m keys new
  sets_then_clears keys old mid new name key deadline bytes lacks sets mid_keyed cleared k t = record {
    keyed = k;
    names = λ i f found. (let s = before i f found in t.names i f s);
    latest = λ i f found. t.latest i f (before i f found);
  }
    where
      named : bytes_at m name ≡ key
      named = some_bytes m name key bytes

      -- the element that got the deadline is the key's
      added : (at : ℕ) (hash : ℕ) (i : ℕ) (f : Element ℕ) → item mid.table at ≡ Some (record { key = name; hash = hash; value = deadline }) → i ≡ at → item mid.table i ≡ Some f → m f.key ≡ Some key
      added at hash i f changed here found = (let one = some_same (item mid.table at) _ f changed (ap (item mid.table) (sym here) ∙ found) in ap (λ (x : Element ℕ). m x.key) (sym one) ∙ bytes)

      from_old : (i : ℕ) (f : Element ℕ) → item mid.table i ≡ Some f → m f.key ≢ Some key → item old.table i ≡ Some f
      from_old i f found other = elim sets [
        | changes at was stands s _ ↦ elim (cases_eq i at) [
          | inl here ↦
              (let one : f ≡ record { key = s.key; hash = s.hash; value = deadline } = some_same (item mid.table at) f _ (ap (item mid.table) (sym here) ∙ found) s.updates.changed in
              let same : stands.element ≡ record { key = s.key; hash = s.hash; value = was } = some_same (item old.table at) _ _ stands.found s.found in
              absurd (other (ap (λ (x : Element ℕ). m x.key) one ∙ ap (λ (x : Element ℕ). m x.key) (sym same) ∙ stands.bytes ∙ ap Some named)))
          | inr apart ↦ sym (s.updates.others i apart) ∙ found
        ]
        | joins at lack a _ ↦ elim (cases_eq i at) [
          | inl here ↦ absurd (other (added at _ i f a.updates.changed here found))
          | inr apart ↦ sym (a.updates.others i apart) ∙ found
        ]
      ]

      before : (i : ℕ) (f : Element ℕ) → item new.table i ≡ Some f → item old.table i ≡ Some f
      before i f found = elim cleared [
        | inl c ↦ elim (cases_eq i c.removes.at) [
          | inl here ↦ some_none (item new.table c.removes.at) f (ap (item new.table) (sym here) ∙ found) c.removes.updates.changed
          | inr apart ↦
              (let there : item mid.table i ≡ Some f = sym (c.removes.updates.others i apart) ∙ found in
              from_old i f there (λ same. apart (mid_keyed.apart i c.removes.at f _ there c.removes.found (same ∙ sym c.removes.bytes))))
        ]
        | inr same ↦ (let there : item mid.table i ≡ Some f = ap (λ (d : Timed). item d.table i) (sym same.0) ∙ found in from_old i f there (same.1.each i f there))
      ]

  -- a key that isn't there has no deadline
  pub untimed : (keys : Table V) (d : Timed) (key : List ℕ) → IsTimed m keys d → Lacks m keys key → Lacks m d.table key
  untimed keys d key t lacks = record { each = λ i f found bytes. (let n = t.names i f found in lacks.each n.at n.element n.found (ap m n.same ∙ bytes)) }

  pub timed_none : (seed number : ℕ) → IsTimed m (no_keys {V = V} seed) (no_deadline number)
  timed_none seed number = record { keyed = keyed_none m number; names = λ i f found. cc; latest = λ i f found. cc }

-- the keys keep their bytes, and so do the deadlines
pub timed_frame : {V : Type 0} (m after : Blocks) (keys : Table V) (d : Timed) → IsTimed m keys d → ((at : ℕ) (e : Element V) → item keys at ≡ Some e → after e.key ≡ m e.key)
    → IsTimed after keys d × (moments after d ≡ moments m d)
timed_frame m after keys d t kept =
    let same : (at : ℕ) (e : Element ℕ) → item d.table at ≡ Some e
    → after e.key ≡ m e.key = (λ at e found. (let n = t.names at e found in subst (λ r. after r ≡ m r) n.same (kept n.at n.element n.found))) in
    let keyed = (keyed_frame m after d.table t.keyed same).0 in
    (record { keyed = keyed; names = t.names; latest = t.latest }, map_of_frame m after (λ v. v) (λ v. v) d.table t.keyed keyed (λ at e found. (same at e found, refl)))
