-- Steps of the walk on request, and the table of slabs.
use Rattle.std.proofs.Common.{◌≡◌, ℕ, ◌+◌, ◌-◌, ◌<◌, ◌≤◌, zero, suc, get_or, List, [], ◌∷◌, Bool, true, Option, Some, None, Result, Ok, pos, length, refl, sym, ◌∙◌, subst, arith}
use Rattle.std.specs.Prelude.{nat_lt, ◌&&◌, map, AllPairs}
use Rattle.std.specs.List.{range_with_len}
use Rattle.std.proofs.lemmas.Bool.{and_parts}
use Rattle.std.proofs.lemmas.List.FromFn.{get_or-map-range_with_len}
use Rattle.std.proofs.lemmas.List.Kept.{AllPairs-filter}
use borrow.Author.Tests.{ltb-true}
use Rattle.blocks.specs.Blocks.{Blocks}
use Rattle.blocks.specs.Slabs.{Heap, sizes}
use Rattle.defrag.specs.declared.walk.Walk.{Walk}
use Rattle.plain_world.specs.declared.refusal.Refusal.{Refusal}
use Rattle.plain_world.specs.declared.reply.Part.{Part}
use Rattle.plain_world.specs.declared.reply.Part.TheVariants.{Number}
use Rattle.plain_model.specs.ConnectionSteps.{ClassSlabs, IsSlabTable}
use Rattle.plain_model.specs.declared.command.Command.{Command}
use Rattle.plain_model.specs.declared.command.Command.TheVariants.{Connection}
use Rattle.plain_model.specs.declared.connection.ConnectionCommand.TheVariants as connection
use Rattle.keyspace.specs.Databases.{Keyspace}
use Rattle.keyspace.specs.Shown.{class_slabs, has_slab, used_classes, ListsSlabs}
use Rattle.redis_core.specs.Engines.{State, Performs, keyspace_of}
use Rattle.redis_core.specs.Walking.{WalksOn, IsTidy, HasLeastSlabs, Defrags, TendsMeant, EndsPass}
use Rattle.redis_core.specs.Walking.{Defrags as defrags}
use Rattle.redis_core.proofs.Tidy.{step_tidy, step_least}

-- ---- MEMORY SLABS

-- each number is above the one before
abbrev ascends : ℕ → List ℕ → Bool
ascends low [] = true
ascends low (x ∷ rest) = nat_lt low x && ascends x rest

above : (low : ℕ) (xs : List ℕ) → ascends low xs ≡ true → (i d : ℕ) → i < length xs → low < get_or xs i d
above low [] h i d lt = absurd (omega (arith, lt))
above low (x ∷ rest) h zero d lt = (let p = and_parts _ _ h in ltb-true low x p.0)
above low (x ∷ rest) h (suc i) d lt = (let p = and_parts _ _ h in let a = ltb-true low x p.0 in let b = above x rest p.1 i d (omega (arith, lt)) in omega (arith, a, b))

pair_rises : (low : ℕ) (xs : List ℕ) → ascends low xs ≡ true → (i j d : ℕ) → i < j → j < length xs → get_or xs i d < get_or xs j d
pair_rises low [] h i j d lt within = absurd (omega (arith, within))
pair_rises low (x ∷ rest) h i zero d lt within = absurd (omega (arith, lt))
pair_rises low (x ∷ rest) h zero (suc j) d lt within = (let p = and_parts _ _ h in above x rest p.1 j d (omega (arith, within)))
pair_rises low (x ∷ rest) h (suc i) (suc j) d lt within = (let p = and_parts _ _ h in pair_rises x rest p.1 i j d (omega (arith, lt)) (omega (arith, within)))

abbrev smaller : ClassSlabs → ClassSlabs → Type 0
smaller a b = a.size < b.size

-- the classes stand by rising sizes
classes_rise : (heap : Heap) → AllPairs smaller (map (class_slabs heap) (range_with_len 0 36))
classes_rise heap i j d lt within =
    let below : j < 36 = within in
    let first = get_or-map-range_with_len (class_slabs heap) 0 36 i i d (omega (arith, lt, below)) (omega arith) in
    let second = get_or-map-range_with_len (class_slabs heap) 0 36 j j d below (omega arith) in
    subst (λ x. smaller x (get_or (map (class_slabs heap) (range_with_len 0 36)) j d)) (sym first)
    (subst (λ y. smaller (class_slabs heap i) y) (sym second) (pair_rises 0 sizes refl i j 65536 lt below))

pub table_of_slabs : (heap : Heap) (reply : List Part) → ListsSlabs heap reply → IsSlabTable reply
table_of_slabs heap reply is = record {
  classes = used_classes heap;
  rising = AllPairs-filter smaller has_slab (map (class_slabs heap) (range_with_len 0 36)) (classes_rise heap);
  is = is;
}

-- ---- DEBUG DEFRAG

module _ {S : Type 0} (blocks : S → Blocks) (heap : S → Heap) where
  -- all steps are left, or none is, or one is made
  pub all_left : (old new : Keyspace S) (before after : Option Walk) (steps ended : ℕ) → Defrags blocks heap (steps - 0) old new before after ended
      → Defrags blocks heap steps old new before after ended
  all_left old new before after steps ended d =
      let all : steps - 0 ≡ steps = omega arith in
      subst (λ n. Defrags blocks heap n old new before after ended) all d

  pub no_step_left : (keyspace : Keyspace S) (walk : Option Walk) (left : ℕ) → left ≡ 0 → Defrags blocks heap left keyspace keyspace walk walk 0
  no_step_left keyspace walk left none = subst (λ n. Defrags blocks heap n keyspace keyspace walk walk 0) (sym none) (defrags.made keyspace walk)

  pub step_ends : (old new : Keyspace S) (before after : Option Walk) (left : ℕ) → WalksOn blocks heap old new before after → after ≡ None → 0 < left → Defrags blocks heap left old new before None 1
  step_ends old new before after left w none some =
      let ended : WalksOn blocks heap old new before None = subst (λ (walk : Option Walk). WalksOn blocks heap old new before walk) none w in
      let is : left ≡ (left - 1) + 1 = omega (arith, some) in
      subst (λ n. Defrags blocks heap n old new before None 1) (sym is) (defrags.ends (left - 1) old new before ended)

  pub step_goes_on : (old mid new : Keyspace S) (before walk after : Option Walk) (place : Walk) (left rest ended : ℕ) → WalksOn blocks heap old mid before walk → walk ≡ Some place
      → left ≡ rest + 1 → Defrags blocks heap rest mid new (Some place) after ended → Defrags blocks heap left old new before after ended
  step_goes_on old mid new before walk after place left rest ended w is one d =
      let went : WalksOn blocks heap old mid before (Some place) = subst (λ (o : Option Walk). WalksOn blocks heap old mid before o) is w in
      subst (λ n. Defrags blocks heap n old new before after ended) (sym one) (defrags.goes_on rest ended old mid new before after place went d)

  -- one pass ends at most, and none without a step
  pub ends_once : (steps : ℕ) (old new : Keyspace S) (before after : Option Walk) (ended : ℕ) → Defrags blocks heap steps old new before after ended → (ended ≤ steps) × (ended ≤ 1)
  ends_once _ _ _ _ _ _ (defrags.made keyspace walk) = (omega arith, omega arith)
  ends_once _ _ _ _ _ _ (defrags.ends left old new before w) = (omega arith, omega arith)
  ends_once _ _ _ _ _ _ (defrags.goes_on left ended old mid new before after walk w d) = (let e = ends_once left mid new (Some walk) after ended d in (omega (arith, e.0), e.1))

  -- from a walk that left no block behind, a pass that ends leaves the least slabs
  pass_least : (steps : ℕ) (old new : Keyspace S) (before after : Option Walk) (ended : ℕ) → Defrags blocks heap steps old new before after ended → ended ≡ 1
      → IsTidy blocks heap old before → HasLeastSlabs blocks heap new
  pass_least _ _ _ _ _ _ (defrags.made keyspace walk) one tidy = absurd (omega (arith, one))
  pass_least _ _ _ _ _ _ (defrags.ends left old new before w) one tidy = step_least blocks heap old new before None w tidy refl
  pass_least _ _ _ _ _ _ (defrags.goes_on left ended old mid new before after walk w d) one tidy =
      pass_least left mid new (Some walk) after ended d one (step_tidy blocks heap old mid before (Some walk) w tidy)

  one_told : (ended : ℕ) → Number (pos ended) ∷ [] ≡ Number (pos 1) ∷ [] → ended ≡ 1
  one_told ended is = cc

  -- where no walk was open, a DEBUG DEFRAG that answers 1 leaves them
  pub ends_least : (m : Result Command Refusal) (old new : Keyspace S) (before after : Option Walk) (reply : List Part) → TendsMeant blocks heap old new before after m reply
      → before ≡ None → EndsPass m reply → HasLeastSlabs blocks heap new
  ends_least (Ok (Connection (connection.DebugDefrag steps))) old new before after reply tends none ends =
      pass_least steps old new before after tends.ended tends.defrags (one_told tends.ended (sym tends.is ∙ ends)) (subst (λ (walk : Option Walk). IsTidy blocks heap old walk) (sym none) tt)
  ends_least other old new before after reply tends none ends = absurd ends

  -- the same of a step of an engine
  pub performs_least : (step_of : S → S → Type 0) (moment : ℕ) (old : State S) (asked : Result Command Refusal) (reply : List Part) (new : State S)
      → Performs blocks heap step_of moment old asked reply new → old.walk ≡ None → EndsPass asked reply → HasLeastSlabs blocks heap (keyspace_of new)
  performs_least step_of moment old asked reply new x none ends = ends_least asked (keyspace_of old) (keyspace_of new) old.walk new.walk reply x.answers.tends none ends
