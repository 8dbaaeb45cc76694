-- How strings stand that were written.
use Rattle.std.proofs.Common.{◌≡◌, ◌⊎◌, inl, inr, ◌==◌, ◌<◌, ◌≤◌, ◌+◌, ℕ, zero, suc, List, [], ◌∷◌, take, drop, Bool, true, false, Result, Ok, Err, IfOk, OnOk, refl, sym, ap, subst, arith}
use Rattle.std.specs.Prelude.{not, if◌then◌else◌}
use Rattle.std.proofs.lemmas.Bool.{ne_eqb, eq-eqb}
use Rattle.blocks.specs.Blocks.{Blocks}
use Rattle.plain_world.specs.declared.reply.Part.{Part}
use Rattle.held.specs.Calls.{AllAt}
use Rattle.keyspace.specs.Databases.{Bases, Keyspace}
use Rattle.keyspace.specs.Values.{IsWrittenWhole, IsRaw}
use Rattle.keyspace.specs.Forms.{FormRule, Unwritten, Whole, Raw, Formed, Placed, ArePlaced, Place, placed_at, places_whole, whole_where}
use Rattle.std.specs.List.{AllByRecursion}
use Rattle.held.proofs.Written.{one_settled}
use Rattle.keyspace.specs.Scopes.{one_key, Within}
use Rattle.keyspace.proofs.Forming.{formed_none, formed_ok, formed_both, placed_ok, stayed_at}

-- what holds where a call succeeds holds there under any condition
pub holds_anyway : {A E : Type 0} (P Q : Type 0) (result : Result A E) → OnOk result P → OnOk result (Q → P)
holds_anyway P Q (Ok a) h = λ q. h
holds_anyway P Q (Err e) h = tt

-- a string stands where it was to be written
pub placed_where : (db : ℕ) (key : List ℕ) (old new : Bases) (m after : Blocks) (writes : Bool) → (writes ≡ true → AllAt IsWrittenWhole new after db key)
    → ArePlaced (placed_at db key (whole_where writes)) old new m after
placed_where db key old new m after true whole = (whole refl, tt)
placed_where db key old new m after false whole = tt

module _ {S E : Type 0} (db : ℕ) (key : List ℕ) (blocks : S → Blocks) (old : Keyspace S) where
  -- what is said of encodings after a rule, whatever is answered
  abbrev Gave : FormRule → Keyspace S → Result (List Part) E → Type 0
  Gave form new result = IfOk result (λ reply. Formed blocks form old new × Placed blocks (placed_at db key form) reply old new)

  both : (form : FormRule) (new : Keyspace S) (result : Result (List Part) E) → Formed blocks form old new
      → ArePlaced (placed_at db key form) old.bases new.bases (blocks old.store) (blocks new.store) → Gave form new result
  both form new result formed placed =
      formed_both blocks form (placed_at db key form) old new result (formed_ok blocks form old new result formed) (placed_ok blocks (placed_at db key form) old new result placed)

  -- a string was written whole
  pub wrote_whole : (new : Keyspace S) (result : Result (List Part) E) → Formed blocks Whole old new → AllAt IsWrittenWhole new.bases (blocks new.store) db key
      → IfOk result (λ reply. Formed blocks Whole old new × Placed blocks (placed_at db key Whole) reply old new)
  wrote_whole new result formed whole = both Whole new result formed (whole, tt)

  -- a part of one was changed
  pub wrote_raw : (new : Keyspace S) (result : Result (List Part) E) → Formed blocks Raw old new → AllAt IsRaw new.bases (blocks new.store) db key
      → IfOk result (λ reply. Formed blocks Raw old new × Placed blocks (placed_at db key Raw) reply old new)
  wrote_raw new result formed raw = both Raw new result formed (raw, tt)

  -- something stood there, and nothing was written
  pub not_written : (there : Bool) (result : Result (List Part) E) → there ≡ true
      → IfOk result (λ reply. Formed blocks (whole_where (not there)) old old × Placed blocks (placed_at db key (whole_where (not there))) reply old old)
  not_written there result is =
      subst (λ t. IfOk result (λ reply. Formed blocks (whole_where (not t)) old old × Placed blocks (placed_at db key (whole_where (not t))) reply old old)) (sym is)
      (both Unwritten old result (formed_none blocks Unwritten old) tt)

  -- nothing stood there, and a string was written
  pub written_new : (new : Keyspace S) (there : Bool) (result : Result (List Part) E) → there ≡ false → Formed blocks Whole old new
      → AllAt IsWrittenWhole new.bases (blocks new.store) db key
      → IfOk result (λ reply. Formed blocks (whole_where (not there)) old new × Placed blocks (placed_at db key (whole_where (not there))) reply old new)
  written_new new there result is formed whole =
      subst (λ t. IfOk result (λ reply. Formed blocks (whole_where (not t)) old new × Placed blocks (placed_at db key (whole_where (not t))) reply old new)) (sym is)
      (wrote_whole new result formed whole)

  -- SETRANGE of no byte writes nothing
  pub no_piece : (long : ℕ) (result : Result (List Part) E) → long ≡ 0
      → IfOk result (λ reply. Formed blocks (if long == 0 then Unwritten else Raw) old old × Placed blocks (placed_at db key (if long == 0 then Unwritten else Raw)) reply old old)
  no_piece long result is =
      subst (λ n. IfOk result (λ reply. Formed blocks (if n == 0 then Unwritten else Raw) old old × Placed blocks (placed_at db key (if n == 0 then Unwritten else Raw)) reply old old)) (sym is)
      (both Unwritten old result (formed_none blocks Unwritten old) tt)

  -- and of one byte at least it changes a part
  pub some_piece : (new : Keyspace S) (long : ℕ) (result : Result (List Part) E) → 0 < long → Formed blocks Raw old new → AllAt IsRaw new.bases (blocks new.store) db key
      → IfOk result (λ reply. Formed blocks (if long == 0 then Unwritten else Raw) old new × Placed blocks (placed_at db key (if long == 0 then Unwritten else Raw)) reply old new)
  some_piece new long result some formed raw =
      let none : (long == 0) ≡ false = ne_eqb long 0 (λ e. omega arith) in
      subst (λ t. IfOk result (λ reply. Formed blocks (if t then Unwritten else Raw) old new × Placed blocks (placed_at db key (if t then Unwritten else Raw)) reply old new)) (sym none)
      (wrote_raw new result formed raw)

module _ {S E : Type 0} (db : ℕ) (pairs : List (List ℕ × List ℕ)) (blocks : S → Blocks) (old : Keyspace S) where
  -- MSETNX wrote nothing, since something stood at a key
  pub not_any : (there : Bool) (result : Result (List Part) E) → there ≡ true
      → IfOk result (λ reply. Formed blocks (whole_where (not there)) old old × Placed blocks (if there then [] else places_whole db pairs) reply old old)
  not_any there result is =
      subst (λ t. IfOk result (λ reply. Formed blocks (whole_where (not t)) old old × Placed blocks (if t then [] else places_whole db pairs) reply old old)) (sym is)
      (formed_both blocks Unwritten [] old old result (formed_ok blocks Unwritten old old result (formed_none blocks Unwritten old)) (placed_ok blocks [] old old result tt))

  -- and else each string
  pub written_each : (new : Keyspace S) (there : Bool) (result : Result (List Part) E) → there ≡ false → Formed blocks Whole old new
      → ArePlaced (places_whole db pairs) old.bases new.bases (blocks old.store) (blocks new.store)
      → IfOk result (λ reply. Formed blocks (whole_where (not there)) old new × Placed blocks (if there then [] else places_whole db pairs) reply old new)
  written_each new there result is formed whole =
      subst (λ t. IfOk result (λ reply. Formed blocks (whole_where (not t)) old new × Placed blocks (if t then [] else places_whole db pairs) reply old new)) (sym is)
      (formed_both blocks Whole (places_whole db pairs) old new result (formed_ok blocks Whole old new result formed)
      (placed_ok blocks (places_whole db pairs) old new result whole))

-- ---- one pair after the other

module _ (db : ℕ) (mid new : Bases) (m after : Blocks) (key : List ℕ) (within : Within (one_key db key) mid new m after) (whole : AllAt IsWrittenWhole new after db key) where
  kept_whole : (other : List ℕ) → AllAt IsWrittenWhole mid m db other → AllAt IsWrittenWhole new after db other
  kept_whole other all = elim (one_settled db key db other) [
    | inl same ↦ subst (λ k. AllAt IsWrittenWhole new after db k) (sym same.1) whole
    | inr apart ↦ stayed_at IsWrittenWhole (one_key db key) db other apart mid new m after within all
  ]

  -- the strings that were put stay whole where another one is put
  pub still_whole : (first : Bases) (blocks : Blocks) (pairs : List (List ℕ × List ℕ)) → ArePlaced (places_whole db pairs) first mid blocks m → ArePlaced (places_whole db pairs) first new blocks after
  still_whole first blocks [] all = tt
  still_whole first blocks (pair ∷ pairs) all = (kept_whole pair.0 all.0, still_whole first blocks pairs all.1)

pub suc_plus : (n : ℕ) → suc n ≡ n + 1
suc_plus n = omega arith

-- one more place
pub one_more_place : (P : Place → Type 0) (db : ℕ) (pairs : List (List ℕ × List ℕ)) (i : ℕ) (pair : List ℕ × List ℕ) (others : List (List ℕ × List ℕ)) → drop i pairs ≡ pair ∷ others
    → AllByRecursion P (places_whole db (take i pairs)) → P (record { db = db; key = pair.0; form = Whole }) → AllByRecursion P (places_whole db (take (suc i) pairs))
one_more_place P db [] zero pair others e all last = cc
one_more_place P db [] (suc i) pair others e all last = cc
one_more_place P db (x ∷ xs) zero pair others e all last = let same : pair ≡ x = cc in (subst (λ (p : List ℕ × List ℕ). P (record { db = db; key = p.0; form = Whole })) same last, tt)
one_more_place P db (x ∷ xs) (suc i) pair others e all last = (all.0, one_more_place P db xs i pair others e all.1 last)

-- and all of them
pub take_whole : {A : Type 0} (xs : List A) (i : ℕ) → drop i xs ≡ [] → take i xs ≡ xs
take_whole [] zero e = refl
take_whole [] (suc i) e = refl
take_whole (x ∷ xs) zero e = cc
take_whole (x ∷ xs) (suc i) e = ap (λ l. x ∷ l) (take_whole xs i e)
