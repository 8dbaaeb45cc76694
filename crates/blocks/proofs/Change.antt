-- How changes of a store follow from its calls, and go on from one to the next.
use Rattle.std.proofs.Common.{◌≡◌, ◌⊎◌, ℕ, ◌+◌, ◌≤◌, ◌<◌, Bool, true, false, cond, List, ◌++◌, Option, Some, None, is_some, IsSome, refl, sym, ap, ◌∙◌, subst, inl, inr, arith}
use Rattle.std.proofs.lemmas.Bool.{cond-true, cond-false, cases_eq}
use Rattle.blocks.specs.declared.BlockRef.{BlockRef}
use Rattle.blocks.specs.Blocks.{ref_eq, Blocks, with_block, live, times, IsIn, IsOut, Changes, Owned, Owns}
use Rattle.blocks.proofs.Refs.{ref_eq_refl, ref_eq_sym, cases_ref, with_block_same, with_block_other}
use Rattle.blocks.proofs.Times.{times-append}

-- 1 where the test holds, else 0
abbrev pub one_if : Bool → ℕ
one_if b = cond b 1 0

-- 1 at the reference
abbrev pub one : BlockRef → BlockRef → ℕ
one r at = one_if (ref_eq at r)

-- a reference stands in a list or doesn't
pub cases_in : (r : BlockRef) (xs : List BlockRef) → IsOut r xs ⊎ IsIn r xs
cases_in r xs = elim (cases_eq (times r xs) 0) [ inl out ↦ inl out | inr some ↦ inr (omega arith) ]

-- a reference is live or isn't
pub cases_live : (m : Blocks) (r : BlockRef) → ((live m r ≡ 0) × (m r ≡ None)) ⊎ ((live m r ≡ 1) × IsSome (m r))
cases_live m r = by_option (m r)
  where
    by_option : (o : Option (List ℕ)) → ((one_if (is_some o) ≡ 0) × (o ≡ None)) ⊎ ((one_if (is_some o) ≡ 1) × IsSome o)
    by_option None = inl (refl, refl)
    by_option (Some x) = inr (refl, refl)

-- a reference without a block has the live count 0
pub live_none_in_change : (m : Blocks) (r : BlockRef) → m r ≡ None → live m r ≡ 0
live_none_in_change m r h = ap (λ o. cond (is_some o) 1 0) h

-- a reference with a block has the live count 1
pub live_some : (m : Blocks) (r : BlockRef) → IsSome (m r) → live m r ≡ 1
live_some m r h = cond-true _ _ _ h

-- no reference is live more than once
pub live_once : (m : Blocks) (r : BlockRef) → live m r ≤ 1
live_once m r = elim (cases_live m r) [ inl d ↦ omega (arith, d.0) | inr d ↦ omega (arith, d.0) ]

-- a reference whose live count is above 0 has a block
pub live_is_in_change : (m : Blocks) (r : BlockRef) → 0 < live m r → IsSome (m r)
live_is_in_change m r h = elim (cases_live m r) [ inl d ↦ absurd (omega (arith, d.0)) | inr d ↦ d.1 ]

-- a reference whose live count is 0 has no block
pub dead_is : (m : Blocks) (r : BlockRef) → live m r ≡ 0 → m r ≡ None
dead_is m r h = elim (cases_live m r) [ inl d ↦ d.1 | inr d ↦ absurd (omega (arith, d.0)) ]

-- the same blocks where the same is written twice under one reference
pub with_block_twice : (m : Blocks) (at : BlockRef) (a b : Option (List ℕ)) → with_block (with_block m at a) at b ≡ with_block m at b
with_block_twice m at a b = λ i r. each (ref_eq r at) (m r) i
  where
    each : (t : Bool) (o : Option (List ℕ)) → cond t b (cond t a o) ≡ cond t b o
    each true o = refl
    each false o = refl

-- nothing stood there, and nothing does
pub with_block_undone : (m : Blocks) (at : BlockRef) (a : Option (List ℕ)) → m at ≡ None → with_block (with_block m at a) at None ≡ m
with_block_undone m at a h = with_block_twice m at a None ∙ (λ i r. each r i)
  where
    each : (r : BlockRef) → with_block m at None r ≡ m r
    each r = elim (cases_ref r at) [
      | inl same ↦ subst (λ q. with_block m at None q ≡ m q) (sym same) (with_block_same m at None ∙ sym h)
      | inr other ↦ with_block_other m at r None other
    ]

-- a placed block joins
pub live_placed : (m : Blocks) (at : BlockRef) (bytes : List ℕ) → m at ≡ None → (r : BlockRef) → live (with_block m at (Some bytes)) r ≡ live m r + one r at
live_placed m at bytes fresh r =
    elim (cases_ref r at) [
      | inl same ↦ subst (λ q. live (with_block m at (Some bytes)) q ≡ live m q + one q at) (sym same)
          (let a : live (with_block m at (Some bytes)) at ≡ 1 = ap (λ o. cond (is_some o) 1 0) (with_block_same m at (Some bytes)) in
          let b : live m at ≡ 0 = live_none_in_change m at fresh in
          let c : one at at ≡ 1 = cond-true _ _ _ (ref_eq_refl at) in omega arith)
      | inr other ↦
          (let a : live (with_block m at (Some bytes)) r ≡ live m r = ap (λ o. cond (is_some o) 1 0) (with_block_other m at r (Some bytes) other) in
          let c : one r at ≡ 0 = cond-false _ _ _ (ref_eq_sym at r ∙ other) in omega arith)
    ]

-- a written block stays
pub live_written : (m : Blocks) (at : BlockRef) (bytes : List ℕ) → IsSome (m at) → (r : BlockRef) → live (with_block m at (Some bytes)) r ≡ live m r
live_written m at bytes was r =
    elim (cases_ref r at) [
      | inl same ↦ subst (λ q. live (with_block m at (Some bytes)) q ≡ live m q) (sym same)
          (ap (λ o. cond (is_some o) 1 0) (with_block_same m at (Some bytes)) ∙ sym (live_some m at was))
      | inr other ↦ ap (λ o. cond (is_some o) 1 0) (with_block_other m at r (Some bytes) other)
    ]

-- an ended reference leaves
pub live_ended : (m : Blocks) (at : BlockRef) → IsSome (m at) → (r : BlockRef) → live (with_block m at None) r + one r at ≡ live m r
live_ended m at was r =
    elim (cases_ref r at) [
      | inl same ↦ subst (λ q. live (with_block m at None) q + one q at ≡ live m q) (sym same)
          (let a : live (with_block m at None) at ≡ 0 = ap (λ o. cond (is_some o) 1 0) (with_block_same m at None) in
          let b : live m at ≡ 1 = live_some m at was in
          let c : one at at ≡ 1 = cond-true _ _ _ (ref_eq_refl at) in omega arith)
      | inr other ↦
          (let a : live (with_block m at None) r ≡ live m r = ap (λ o. cond (is_some o) 1 0) (with_block_other m at r None other) in
          let c : one r at ≡ 0 = cond-false _ _ _ (ref_eq_sym at r ∙ other) in omega arith)
    ]

-- where the reference isn't counted, it is another
pub other_than : (r at : BlockRef) → one r at ≡ 0 → ref_eq r at ≡ false
other_than r at h = ref_eq_sym r at ∙ by_test (ref_eq at r) h
  where
    by_test : (t : Bool) → one_if t ≡ 0 → t ≡ false
    by_test true h = absurd (omega arith)
    by_test false h = refl

-- What `Changes` says, counted: from an owner's references on, one call after another adds up. Here the
-- references `new` may still be any list; `changes_counted` shows what they come to.
pub record Counts (before after : Blocks) (old new : List BlockRef) : Type 0 where
  pub balance : (r : BlockRef) → live after r + times r old ≡ live before r + times r new
  pub kept : (r : BlockRef) → IsOut r old → IsOut r new → after r ≡ before r

-- a store that stays counts from one list to another in which each reference stands as often
pub counts_same : (m : Blocks) (old new : List BlockRef) → ((r : BlockRef) → times r new ≡ times r old) → Counts m m old new
counts_same m old new same = record { balance = λ r. omega (arith, same r); kept = λ r a b. refl }

-- a call of `place` that answered `at`
pub counts_placed : (m after : Blocks) (at : BlockRef) (bytes : List ℕ) (old new : List BlockRef) → m at ≡ None → after ≡ with_block m at (Some bytes)
    → ((r : BlockRef) → times r new ≡ times r old + one r at) → Counts m after old new
counts_placed m after at bytes old new fresh is more =
    subst (λ n. Counts m n old new) (sym is) (record {
      balance = λ r. omega (arith, more r, live_placed m at bytes fresh r);
      kept = λ r a b. with_block_other m at r (Some bytes) (other_than r at (omega (arith, more r, b)));
    })

-- where a reference that isn't in the list is asked, it is another than one that is
not_in : (r at : BlockRef) (xs : List BlockRef) → IsIn at xs → IsOut r xs → ref_eq r at ≡ false
not_in r at xs own out = elim (cases_ref r at) [
  | inl same ↦ absurd (let e : times r xs ≡ times at xs = ap (λ q. times q xs) same in omega (arith, out, own, e))
  | inr other ↦ other
]

-- a call of `write`
pub counts_written : (m after : Blocks) (at : BlockRef) (bytes : List ℕ) (old new : List BlockRef) → IsSome (m at) → after ≡ with_block m at (Some bytes) → IsIn at old
    → ((r : BlockRef) → times r new ≡ times r old) → Counts m after old new
counts_written m after at bytes old new was is own same =
    subst (λ n. Counts m n old new) (sym is) (record {
      balance = λ r. omega (arith, same r, live_written m at bytes was r);
      kept = λ r a b. with_block_other m at r (Some bytes) (not_in r at old own a);
    })

-- a call of `give_back`
pub counts_ended : (m after : Blocks) (at : BlockRef) (old new : List BlockRef) → IsSome (m at) → after ≡ with_block m at None → ((r : BlockRef) → times r new + one r at ≡ times r old)
    → Counts m after old new
counts_ended m after at old new was is less =
    subst (λ n. Counts m n old new) (sym is) (record {
      balance = λ r. omega (arith, less r, live_ended m at was r);
      kept = λ r a b. with_block_other m at r None (other_than r at (omega (arith, less r, a)));
    })

-- the bytes of a block that is there
some_of : (o : Option (List ℕ)) → IsSome o → (bytes : List ℕ) × (o ≡ Some bytes)
some_of None h = cc
some_of (Some bytes) h = (bytes, refl)

-- a call of `move_block` that answered `new`
pub counts_moved : (m after : Blocks) (at new : BlockRef) (old later : List BlockRef) → IsSome (m at) → m new ≡ None → after ≡ with_block (with_block m at None) new (m at) → IsIn at old
    → ((r : BlockRef) → times r later + one r at ≡ times r old + one r new) → Counts m after old later
counts_moved m after at new old later was fresh is own same =
    let bytes = some_of (m at) was in
    let now : after ≡ with_block (with_block m at None) new (Some bytes.0) = is ∙ ap (λ o. with_block (with_block m at None) new o) bytes.1 in
    let free : with_block m at None new ≡ None = elim (cases_ref new at)
    [ inl here' ↦ ap (with_block m at None) here' ∙ with_block_same m at None | inr other ↦ with_block_other m at new None other ∙ fresh ] in
    subst (λ n. Counts m n old later) (sym now) (record {
      balance = λ r. omega (arith, same r, live_ended m at was r, live_placed (with_block m at None) new bytes.0 free r);
      kept = λ r a b. (let here' : ref_eq r at ≡ false = not_in r at old own a in
          let there : ref_eq r new ≡ false = other_than r new (let o : one r at ≡ 0 = cond-false _ _ _ (ref_eq_sym at r ∙ here') in omega (arith, same r, a, b, o)) in
          with_block_other (with_block m at None) new r (Some bytes.0) there ∙ with_block_other m at r None here');
    })

-- one change after another
pub counts_then : (a b c : Blocks) (xs ys zs : List BlockRef) → Counts a b xs ys → Counts b c ys zs → Counts a c xs zs
counts_then a b c xs ys zs p q =
    record {
      balance = λ r. omega (arith, p.balance r, q.balance r);
      kept = λ r x z. elim (cases_in r ys) [
        | inl y ↦ q.kept r y z ∙ p.kept r x y
        | inr y ↦ (let dead : live c r ≡ 0 = omega (arith, p.balance r, q.balance r, live_once b r, x, y, z) in
            let was : live a r ≡ 0 = omega (arith, p.balance r, q.balance r, live_once b r, x, y, z) in
            dead_is c r dead ∙ sym (dead_is a r was))
      ];
    }

-- more owners' references beside, on both sides
pub counts_beside : (a b : Blocks) (xs ys more_old more_new : List BlockRef) → Counts a b xs ys → (zs : BlockRef → ℕ) → ((r : BlockRef) → times r more_old ≡ times r xs + zs r)
    → ((r : BlockRef) → times r more_new ≡ times r ys + zs r) → Counts a b more_old more_new
counts_beside a b xs ys more_old more_new p zs old new =
    record {
      balance = λ r. omega (arith, p.balance r, old r, new r);
      kept = λ r x y. p.kept r (omega (arith, old r, x)) (omega (arith, new r, y));
    }

-- from references that were owned, what was counted is a change
pub changes_counted : (a b : Blocks) (xs ys : List BlockRef) → Owned xs a → Counts a b xs ys → Changes a b xs ys
changes_counted a b xs ys own p =
    record {
      kept = p.kept;
      entered = λ r y. live_is_in_change b r (omega (arith, p.balance r, own r, y));
      ended = λ r x y. dead_is b r (omega (arith, p.balance r, own r, live_once a r, x, y));
      fresh = λ r y x. dead_is a r (omega (arith, p.balance r, live_once b r, x, y));
      once = λ r. omega (arith, p.balance r, own r, live_once b r);
    }

-- the other way round
pub counts_changed : (a b : Blocks) (xs ys : List BlockRef) → Owned xs a → Changes a b xs ys → Counts a b xs ys
counts_changed a b xs ys own p = record { kept = p.kept; balance = balance }
  where
    balance : (r : BlockRef) → live b r + times r xs ≡ live a r + times r ys
    balance r =
        elim (cases_in r xs) [
          | inl x ↦ elim (cases_in r ys) [
            | inl y ↦ (let e : live b r ≡ live a r = ap (λ o. cond (is_some o) 1 0) (p.kept r x y) in omega (arith, e, x, y))
            | inr y ↦ omega (arith, x, y, p.once r, live_none_in_change a r (p.fresh r y x), live_some b r (p.entered r y))
          ]
          | inr x ↦ elim (cases_in r ys) [
            | inl y ↦ omega (arith, x, y, own r, live_once a r, live_none_in_change b r (p.ended r x y))
            | inr y ↦ omega (arith, x, y, own r, p.once r, live_once a r, live_some b r (p.entered r y))
          ]
        ]

-- what a change leaves is owned
pub changes_owned : (a b : Blocks) (xs ys : List BlockRef) → Changes a b xs ys → Owned ys b
changes_owned a b xs ys p r = elim (cases_in r ys) [ inl y ↦ omega (arith, y) | inr y ↦ omega (arith, p.once r, live_some b r (p.entered r y)) ]

-- a store and itself
pub changes_same : (m : Blocks) (xs : List BlockRef) → Owned xs m → Changes m m xs xs
changes_same m xs own = changes_counted m m xs xs own (counts_same m xs xs (λ r. refl))

-- one change after another, from whatever references
pub changes_then : (a b c : Blocks) (xs ys zs : List BlockRef) → Changes a b xs ys → Changes b c ys zs → Changes a c xs zs
changes_then a b c xs ys zs p q =
    record {
      kept = λ r x z. elim (cases_in r ys) [ inl y ↦ q.kept r y z ∙ p.kept r x y | inr y ↦ q.ended r y z ∙ sym (p.fresh r y x) ];
      entered = q.entered;
      ended = λ r x z. elim (cases_in r ys) [ inl y ↦ q.kept r y z ∙ p.ended r x y | inr y ↦ q.ended r y z ];
      fresh = λ r z x. elim (cases_in r ys) [ inl y ↦ sym (p.kept r x y) ∙ q.fresh r z y | inr y ↦ p.fresh r y x ];
      once = q.once;
    }

-- more owners' references beside, on both sides
pub changes_beside : (a b : Blocks) (xs ys more_old more_new : List BlockRef) → Changes a b xs ys → Owned more_old a → (zs : BlockRef → ℕ)
    → ((r : BlockRef) → times r more_old ≡ times r xs + zs r) → ((r : BlockRef) → times r more_new ≡ times r ys + zs r) → Changes a b more_old more_new
changes_beside a b xs ys more_old more_new p own zs old new =
    let part : Owned xs a = λ r. omega (arith, own r, old r) in
    changes_counted a b more_old more_new own (counts_beside a b xs ys more_old more_new (counts_changed a b xs ys part p) zs old new)

-- changes of two owners, one after the other
pub changes_both : (a b c : Blocks) (xs ys us vs : List BlockRef) → Owned (xs ++ us) a → Changes a b xs ys → Changes b c us vs → Changes a c (xs ++ us) (ys ++ vs)
changes_both a b c xs ys us vs own p q =
    let first : Changes a b (xs ++ us) (ys ++ us) = changes_beside a b xs ys (xs ++ us) (ys ++ us) p own (λ r. times r us) (λ r. times-append r xs us) (λ r. times-append r ys us) in
    let second : Changes b c (ys ++ us) (ys ++ vs) = changes_beside b c us vs (ys ++ us) (ys ++ vs) q (changes_owned a b (xs ++ us) (ys ++ us) first) (λ r. times r ys)
    (λ r. omega (arith, times-append r ys us)) (λ r. omega (arith, times-append r ys vs)) in
    changes_then a b c (xs ++ us) (ys ++ us) (ys ++ vs) first second

-- one owner's change, in the list of all owners
pub owns_changed : (a b : Blocks) (xs ys all later : List BlockRef) → Owns all a → Changes a b xs ys → ((r : BlockRef) → times r xs ≤ times r all)
    → ((r : BlockRef) → times r later + times r xs ≡ times r all + times r ys) → Owns later b
owns_changed a b xs ys all later own p part same r = omega (arith, own r, (counts_changed a b xs ys (λ q. omega (arith, own q, part q)) p).balance r, same r)

-- the other owners' blocks stay
pub owned_others : (a b : Blocks) (xs ys all : List BlockRef) → Owned all a → Changes a b xs ys → (r : BlockRef) → 0 < times r all → IsOut r xs → b r ≡ a r
owned_others a b xs ys all own p r part x = elim (cases_in r ys) [
  | inl y ↦ p.kept r x y
  | inr y ↦ absurd (omega (arith, own r, part, live_none_in_change a r (p.fresh r y x)))
]
