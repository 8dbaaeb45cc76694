-- Rehash steps leave what the databases mean.
use Rattle.std.proofs.Common.{◌≡◌, inl, inr, ℕ, zero, suc, ◌+◌, ◌<◌, ◌≤◌, true, false, List, [], ◌∷◌, length, get_or, refl, sym, ap, ◌∙◌, subst, arith}
use Rattle.object_codec.specs.declared.limits.Limits.{Limits}
use Rattle.std.proofs.lemmas.Bool.{cases_eq}
use Rattle.blocks.specs.declared.BlockRef.{BlockRef}
use Rattle.blocks.specs.Blocks.{Blocks}
use Rattle.plain_world.specs.Worlds.{Value, selecting}
use Rattle.expiry.specs.Timed.{KeepsCursor}
use Rattle.held.specs.declared.databases.Base.{Base}
use Rattle.held.specs.Table.{Table, Keyed}
use Rattle.held.specs.Databases.{Bases, table_at, deadlines_at, ChangesTable, ChangesDeadlines}
use Rattle.stored.specs.Owning.{ReadsOwn}
use Rattle.held.specs.Sound.{IsArranged}
use Rattle.held.specs.Rehash.{keys_move, deadlines_move, StepsTable, Preserves, Rehashes, Steps, start, more, Rehashed, of_keys, of_deadlines}
use Rattle.held.proofs.Shrinking.{KeepsItems, keys_shrink, items_arranged, items_means, items_sound}

module _ {V : Type 0} (m : Blocks) where
  keys_one : (old new : Bases V) → Rehashes m old new → (db : ℕ) → (table_at new db).items ≡ (table_at old db).items
  keys_one old new (of_keys at lowest changes steps) db = elim (cases_eq db at) [
    | inl here ↦ subst (λ (n : ℕ). (table_at new n).items ≡ (table_at old n).items) (sym here) steps.items
    | inr other ↦ ap (λ (b : Base V). b.keys.items) (changes.base.others db other)
  ]
  keys_one old new (of_deadlines at still lowest changes steps cursor) db = elim (cases_eq db at) [
    | inl here ↦ subst (λ (n : ℕ). (table_at new n).items ≡ (table_at old n).items) (sym here) (ap (λ (t : Table V). t.items) changes.keys)
    | inr other ↦ ap (λ (b : Base V). b.keys.items) (changes.base.others db other)
  ]

  keys_all : (old : Bases V) (count : ℕ) (new : Bases V) → Steps m old count new → (db : ℕ) → (table_at new db).items ≡ (table_at old db).items
  keys_all old _ _ start db = refl
  keys_all old _ _ (more count mid new before step) db = keys_one mid new step db ∙ keys_all old count mid before db

module _ {V : Type 0} {IsSound : Limits → ℕ → Blocks → V → Type 0} (refs_of : Blocks → V → List BlockRef) (value_of : Blocks → V → Value) (own : ReadsOwn refs_of value_of IsSound) (m : Blocks) where
  pub preserves_none : (old new : Bases V) → IsArranged IsSound old m → new ≡ old → Preserves refs_of value_of IsSound m old new
  preserves_none old new a same =
      let P : Bases V → Type 0 = λ b. Preserves refs_of value_of IsSound m old b in
      subst P (sym same) (record { arranged = a; means = λ number. refl; sound = λ out s. s; settings = record { limits = refl; seed = refl; turn = refl } })

  pub preserves_then : (old mid new : Bases V) → Preserves refs_of value_of IsSound m old mid → Preserves refs_of value_of IsSound m mid new → Preserves refs_of value_of IsSound m old new
  preserves_then old mid new p q = record {
    arranged = q.arranged;
    means = λ number. q.means number ∙ p.means number;
    sound = λ out s. q.sound out (p.sound out s);
    settings = record { limits = q.settings.limits ∙ p.settings.limits; seed = q.settings.seed ∙ p.settings.seed; turn = q.settings.turn ∙ p.settings.turn };
  }

  preserves_items : (old new : Bases V) (db : ℕ) → IsArranged IsSound old m → KeepsItems old new m db → Preserves refs_of value_of IsSound m old new
  preserves_items old new db a k = record {
    arranged = items_arranged refs_of value_of own old new m db a k;
    means = λ number. ap (λ w. selecting w number) (items_means refs_of value_of own old new m db a k);
    sound = items_sound refs_of value_of own old new m db a k;
    settings = k.base.settings;
  }

  pub preserves_keys : (old new : Bases V) (db : ℕ) → IsArranged IsSound old m → ChangesTable old new db → (table_at new db).items ≡ (table_at old db).items → Keyed m (table_at new db)
      → (table_at new db).seed ≡ (table_at old db).seed → Preserves refs_of value_of IsSound m old new
  preserves_keys old new db a c items keyed seed = preserves_items old new db a (keys_shrink refs_of value_of own old new m db a c items keyed seed)

  pub preserves_deadlines : (old new : Bases V) (db : ℕ) → IsArranged IsSound old m → ChangesDeadlines old new db → (deadlines_at new db).table.items ≡ (deadlines_at old db).table.items
      → Keyed m (deadlines_at new db).table → (deadlines_at new db).table.seed ≡ (deadlines_at old db).table.seed → Preserves refs_of value_of IsSound m old new
  preserves_deadlines old new db a d times keyed seed = preserves_items old new db a (record {
    base = d.base;
    keys = ap (λ (t : Table V). t.items) d.keys;
    keyed = subst (Keyed m) (sym d.keys) (a.keyed db);
    seed = ap (λ (t : Table V). t.seed) d.keys;
    times = times;
    times_keyed = keyed;
    times_seed = seed;
  })

-- ---- which step was made

module _ {V : Type 0} (m : Blocks) (old mid new : Bases V) (db : ℕ) (same : mid ≡ old) where
  pub keys_stepped : ((number : ℕ) → number < db → keys_move old number ≡ false) → true ≡ keys_move mid db → ChangesTable mid new db → StepsTable m (table_at mid db) (table_at new db)
      → Rehashes m old new
  keys_stepped none here changes steps =
      subst (λ (b : Bases V). Rehashes m b new) same
      (of_keys db (record { here = sym here; lower = λ n below. subst (λ (b : Bases V). keys_move b n ≡ false) (sym same) (none n below) }) changes steps)

  pub deadlines_stepped : ((number : ℕ) → keys_move old number ≡ false) → ((number : ℕ) → number < db → deadlines_move old number ≡ false) → true ≡ deadlines_move mid db → ChangesDeadlines mid new db
      → StepsTable m (deadlines_at mid db).table (deadlines_at new db).table → KeepsCursor (deadlines_at mid db) (deadlines_at new db) → Rehashes m old new
  deadlines_stepped still none here changes steps cursor =
      subst (λ (b : Bases V). Rehashes m b new) same
      (of_deadlines db (λ n. subst (λ (b : Bases V). keys_move b n ≡ false) (sym same) (still n))
      (record { here = sym here; lower = λ n below. subst (λ (b : Bases V). deadlines_move b n ≡ false) (sym same) (none n below) }) changes steps cursor)

-- beyond a list's end stands what stands in its place
beyond : {A : Type 0} (xs : List A) (i : ℕ) (other : A) → length xs ≤ i → get_or xs i other ≡ other
beyond [] i other h = refl
beyond (x ∷ xs) zero other h = absurd (omega (arith, h))
beyond (x ∷ xs) (suc i) other h = beyond xs i other (omega (arith, h))

-- all elements keep their item numbers
pub keys_stay : {V : Type 0} {m : Blocks} {asked found : ℕ} {old new : Bases V} → Rehashed m asked found old new → (db : ℕ) → (table_at new db).items ≡ (table_at old db).items
keys_stay {m = m} {found = found} {old = old} {new = new} r db = keys_all m old found new r.steps db
