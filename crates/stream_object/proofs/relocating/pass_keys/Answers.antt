use Rattle.std.proofs.Common.{false, ◌≡◌, ◌∙◌, ◌+◌, ◌<◌, ◌≤◌, Some, None, sym, ap, subst, arith}
use Rattle.std.specs.Prelude.{true, ◌==◌, count_by}
use Rattle.std.specs.List.{AllByRecursion}
use Rattle.collection_walk.specs.Marks.{is_passed, is_within}
use Rattle.stream_node.specs.Ids.{id_number}
use Rattle.stream_object.specs.Found.{IsNear}
use Rattle.stream_object.specs.Parts.{Part, part, parts_of, all_refs}
use Rattle.stream_object.specs.Relocation.{PassesAll, tree_marks}
use Rattle.stream_object.proofs.Passed.{IsBeside, step_all, step_count, next_all, end_all, each_none, count_zero, count_same, passes_none, passes_same}
use Rattle.stream_object.proofs.Walkings.{moves_then, moves_none, marks_many, near_beside, all_below, all_small, near_small}
use Rattle.blocks.proofs.Sweeps.{calmer_same, calmer_next}
use Rattle.stream_object.proofs.relocating.pass_keys.Goals as goal

pub keys-init : goal.keys-init
keys-init g c =
    let m = g.B.BlockStore.blocks c.args.store.now in
    let t0 = c.args.tree.now in
    let ks = tree_marks m t0 in
    let rs = all_refs m t0 in
    let is : id_number c.of_number-at.result ≡ c.args.from = c.of_number-at.ensures in
    let none : AllByRecursion (λ k. is_within c.args.from (id_number c.of_number-at.result) k ≡ false) ks =
    subst (λ a. AllByRecursion (λ k. is_within c.args.from a k ≡ false) ks) (sym is) (each_none c.args.from ks) in
    record {
      moves = moves_none m t0 c.requires.parts;
      passed = passes_none (g.B.BlockStore.heap c.args.store.now) (is_within c.args.from (id_number c.of_number-at.result)) ks rs (marks_many m t0) none;
      counted = sym (count_zero (is_within c.args.from (id_number c.of_number-at.result)) ks none);
      within = omega arith;
      low = omega (arith, is);
      on = λ some. absurd (omega (arith, some));
      calmer = calmer_same (g.B.BlockStore.heap c.args.store.now);
    }

pub near-requires : goal.near-requires
near-requires g c = record { parts = c.keys.invariant.moves.parts }

pub pass_key-used-requires : goal.pass_key-used-requires
pass_key-used-requires g c =
    let m = g.B.BlockStore.blocks c.args.store.now in
    let t0 = c.args.tree.now in
    let ks = tree_marks m t0 in
    let rs = all_refs m t0 in
    let mid = g.B.BlockStore.blocks c.keys.store in
    let t = c.keys.tree in
    let h = g.B.BlockStore.heap c.keys.store in
    let i = c.keys.invariant in
    let at = id_number c.keys.at in
    let spot = c.in-Some.spot in
    let n = id_number spot.key in
    let p : Part = part spot.key spot.at spot.bytes.now in
    let near : IsNear true (parts_of mid t) c.keys.at p = c.in-Some.ensures.some in
    let beside : AllByRecursion (IsBeside at n) ks = subst (AllByRecursion (IsBeside at n)) i.moves.marks_are (near_beside mid t c.keys.at p i.moves.parts near) in
    record { parts = i.moves.parts; stands = record { before = near.before; after = near.after; bytes = spot.bytes.now; place = near.place } }

pub keys-preserved : goal.keys-preserved
keys-preserved g c =
    let m = g.B.BlockStore.blocks c.args.store.now in
    let t0 = c.args.tree.now in
    let ks = tree_marks m t0 in
    let rs = all_refs m t0 in
    let mid = g.B.BlockStore.blocks c.keys.store in
    let t = c.keys.tree in
    let h = g.B.BlockStore.heap c.keys.store in
    let i = c.keys.invariant in
    let at = id_number c.keys.at in
    let spot = c.in-Some.spot in
    let n = id_number spot.key in
    let p : Part = part spot.key spot.at spot.bytes.now in
    let near : IsNear true (parts_of mid t) c.keys.at p = c.in-Some.ensures.some in
    let beside : AllByRecursion (IsBeside at n) ks = subst (AllByRecursion (IsBeside at n)) i.moves.marks_are (near_beside mid t c.keys.at p i.moves.parts near) in
    let after = g.B.BlockStore.blocks c.pass_key-used.new.store in
    let now = c.pass_key-used.new.tree in
    let l = g.B.BlockStore.heap c.pass_key-used.new.store in
    let low : c.args.from ≤ n = omega (arith, i.low, near.reaches) in
    let moves = moves_then m mid after t0 t now i.moves c.pass_key-used.ensures.moves in
    let one : PassesAll l (λ a. a == n) ks (all_refs mid t) (all_refs after now) =
    subst (λ xs. PassesAll l (λ a. a == n) xs (all_refs mid t) (all_refs after now)) i.moves.marks_are c.pass_key-used.ensures.passed in
    let passed = step_all h l c.args.from at n ks rs (all_refs mid t) (all_refs after now) low near.reaches beside c.pass_key-used.ensures.calmer i.passed one in
    let count : c.pass_key-used.result ≡ count_by (λ a. a == n) ks = c.pass_key-used.ensures.count ∙ ap (count_by (λ a. a == n)) i.moves.marks_are in
    let counted : c.keys.used + c.pass_key-used.result ≡ count_by (is_within c.args.from (n + 1)) ks = omega (arith, i.counted, count, step_count c.args.from at n ks low near.reaches beside) in
    let next : id_number c.in-Some-next.next ≡ n + 1 = c.in-Some-next.ensures.some in
    record {
      moves = moves;
      passed = subst (λ a. PassesAll l (is_within c.args.from a) ks rs (all_refs after now)) (sym next) passed;
      counted = counted ∙ ap (λ a. count_by (is_within c.args.from a) ks) (sym next);
      within = omega (arith, i.within, c.pass_key-used.ensures.few);
      low = omega (arith, low, next);
      on = λ some. omega (arith, low, next);
      calmer = calmer_next (g.B.BlockStore.heap c.args.store.now) h l i.calmer c.pass_key-used.ensures.calmer;
    }

pub keys-smaller : goal.keys-smaller
keys-smaller g c =
    let mid = g.B.BlockStore.blocks c.keys.store in
    let spot = c.in-Some.spot in
    let near : IsNear true (parts_of mid c.keys.tree) c.keys.at (part spot.key spot.at spot.bytes.now) = c.in-Some.ensures.some in
    omega (arith, near.reaches, near_small mid c.keys.tree c.keys.at (part spot.key spot.at spot.bytes.now) c.keys.invariant.moves.parts near, c.in-Some-next.ensures.some)

pub returns-then-room-used-lt-MOST_BLOCKS-clause-moves : goal.returns-then-room-used-lt-MOST_BLOCKS-clause-moves
returns-then-room-used-lt-MOST_BLOCKS-clause-moves g c =
    let m = g.B.BlockStore.blocks c.args.store.now in
    let t0 = c.args.tree.now in
    let ks = tree_marks m t0 in
    let rs = all_refs m t0 in
    let mid = g.B.BlockStore.blocks c.keys.store in
    let t = c.keys.tree in
    let h = g.B.BlockStore.heap c.keys.store in
    let i = c.keys.invariant in
    let at = id_number c.keys.at in
    let spot = c.in-Some.spot in
    let n = id_number spot.key in
    let p : Part = part spot.key spot.at spot.bytes.now in
    let near : IsNear true (parts_of mid t) c.keys.at p = c.in-Some.ensures.some in
    let beside : AllByRecursion (IsBeside at n) ks = subst (AllByRecursion (IsBeside at n)) i.moves.marks_are (near_beside mid t c.keys.at p i.moves.parts near) in
    i.moves

pub returns-then-room-used-lt-MOST_BLOCKS-clause-passed : goal.returns-then-room-used-lt-MOST_BLOCKS-clause-passed
returns-then-room-used-lt-MOST_BLOCKS-clause-passed g c =
    let m = g.B.BlockStore.blocks c.args.store.now in
    let t0 = c.args.tree.now in
    let ks = tree_marks m t0 in
    let rs = all_refs m t0 in
    let mid = g.B.BlockStore.blocks c.keys.store in
    let t = c.keys.tree in
    let h = g.B.BlockStore.heap c.keys.store in
    let i = c.keys.invariant in
    let at = id_number c.keys.at in
    let spot = c.in-Some.spot in
    let n = id_number spot.key in
    let p : Part = part spot.key spot.at spot.bytes.now in
    let near : IsNear true (parts_of mid t) c.keys.at p = c.in-Some.ensures.some in
    let beside : AllByRecursion (IsBeside at n) ks = subst (AllByRecursion (IsBeside at n)) i.moves.marks_are (near_beside mid t c.keys.at p i.moves.parts near) in
    subst (λ a. PassesAll h (is_passed c.args.from (Some a)) ks rs (all_refs mid t)) (sym c.number.ensures)
    (passes_same h (is_within c.args.from at) (is_passed c.args.from (Some n)) ks rs (all_refs mid t) (next_all c.args.from at n ks near.reaches beside) i.passed)

pub returns-then-room-used-lt-MOST_BLOCKS-clause-bounded : goal.returns-then-room-used-lt-MOST_BLOCKS-clause-bounded
returns-then-room-used-lt-MOST_BLOCKS-clause-bounded g c =
    let m = g.B.BlockStore.blocks c.args.store.now in
    let t0 = c.args.tree.now in
    let ks = tree_marks m t0 in
    let rs = all_refs m t0 in
    let mid = g.B.BlockStore.blocks c.keys.store in
    let t = c.keys.tree in
    let h = g.B.BlockStore.heap c.keys.store in
    let i = c.keys.invariant in
    let at = id_number c.keys.at in
    let spot = c.in-Some.spot in
    let n = id_number spot.key in
    let p : Part = part spot.key spot.at spot.bytes.now in
    let near : IsNear true (parts_of mid t) c.keys.at p = c.in-Some.ensures.some in
    let beside : AllByRecursion (IsBeside at n) ks = subst (AllByRecursion (IsBeside at n)) i.moves.marks_are (near_beside mid t c.keys.at p i.moves.parts near) in
    record {
      used = i.counted ∙ sym (count_same (is_within c.args.from at) (is_passed c.args.from (Some n)) ks (next_all c.args.from at n ks near.reaches beside))
          ∙ ap (λ a. count_by (is_passed c.args.from (Some a)) ks) (sym c.number.ensures);
      within = i.within;
      on = (omega (arith, i.on (omega (arith, c.if-room-used-lt-MOST_BLOCKS.true, c.requires.room)), near.reaches, c.number.ensures), omega (arith, c.if-room-used-lt-MOST_BLOCKS.true));
    }

pub returns-then-room-used-lt-MOST_BLOCKS-clause-calmer : goal.returns-then-room-used-lt-MOST_BLOCKS-clause-calmer
returns-then-room-used-lt-MOST_BLOCKS-clause-calmer g c =
    let m = g.B.BlockStore.blocks c.args.store.now in
    let t0 = c.args.tree.now in
    let ks = tree_marks m t0 in
    let rs = all_refs m t0 in
    let mid = g.B.BlockStore.blocks c.keys.store in
    let t = c.keys.tree in
    let h = g.B.BlockStore.heap c.keys.store in
    let i = c.keys.invariant in
    let at = id_number c.keys.at in
    let spot = c.in-Some.spot in
    let n = id_number spot.key in
    let p : Part = part spot.key spot.at spot.bytes.now in
    let near : IsNear true (parts_of mid t) c.keys.at p = c.in-Some.ensures.some in
    let beside : AllByRecursion (IsBeside at n) ks = subst (AllByRecursion (IsBeside at n)) i.moves.marks_are (near_beside mid t c.keys.at p i.moves.parts near) in
    i.calmer

pub returns-in-None-clause-moves : goal.returns-in-None-clause-moves
returns-in-None-clause-moves g c =
    let m = g.B.BlockStore.blocks c.args.store.now in
    let t0 = c.args.tree.now in
    let ks = tree_marks m t0 in
    let rs = all_refs m t0 in
    let mid = g.B.BlockStore.blocks c.keys.store in
    let t = c.keys.tree in
    let h = g.B.BlockStore.heap c.keys.store in
    let i = c.keys.invariant in
    let at = id_number c.keys.at in
    let spot = c.in-Some.spot in
    let n = id_number spot.key in
    let p : Part = part spot.key spot.at spot.bytes.now in
    let near : IsNear true (parts_of mid t) c.keys.at p = c.in-Some.ensures.some in
    let beside : AllByRecursion (IsBeside at n) ks = subst (AllByRecursion (IsBeside at n)) i.moves.marks_are (near_beside mid t c.keys.at p i.moves.parts near) in
    let after = g.B.BlockStore.blocks c.pass_key-used.new.store in
    let now = c.pass_key-used.new.tree in
    let l = g.B.BlockStore.heap c.pass_key-used.new.store in
    let low : c.args.from ≤ n = omega (arith, i.low, near.reaches) in
    let moves = moves_then m mid after t0 t now i.moves c.pass_key-used.ensures.moves in
    let one : PassesAll l (λ a. a == n) ks (all_refs mid t) (all_refs after now) =
    subst (λ xs. PassesAll l (λ a. a == n) xs (all_refs mid t) (all_refs after now)) i.moves.marks_are c.pass_key-used.ensures.passed in
    let passed = step_all h l c.args.from at n ks rs (all_refs mid t) (all_refs after now) low near.reaches beside c.pass_key-used.ensures.calmer i.passed one in
    let count : c.pass_key-used.result ≡ count_by (λ a. a == n) ks = c.pass_key-used.ensures.count ∙ ap (count_by (λ a. a == n)) i.moves.marks_are in
    let counted : c.keys.used + c.pass_key-used.result ≡ count_by (is_within c.args.from (n + 1)) ks = omega (arith, i.counted, count, step_count c.args.from at n ks low near.reaches beside) in
    let end = end_all c.args.from (n + 1) ks (subst (AllByRecursion (λ k. k < n + 1)) i.moves.marks_are (all_small mid t n c.in-None.ensures.none i.moves.parts)) in
    moves

pub returns-in-None-clause-passed : goal.returns-in-None-clause-passed
returns-in-None-clause-passed g c =
    let m = g.B.BlockStore.blocks c.args.store.now in
    let t0 = c.args.tree.now in
    let ks = tree_marks m t0 in
    let rs = all_refs m t0 in
    let mid = g.B.BlockStore.blocks c.keys.store in
    let t = c.keys.tree in
    let h = g.B.BlockStore.heap c.keys.store in
    let i = c.keys.invariant in
    let at = id_number c.keys.at in
    let spot = c.in-Some.spot in
    let n = id_number spot.key in
    let p : Part = part spot.key spot.at spot.bytes.now in
    let near : IsNear true (parts_of mid t) c.keys.at p = c.in-Some.ensures.some in
    let beside : AllByRecursion (IsBeside at n) ks = subst (AllByRecursion (IsBeside at n)) i.moves.marks_are (near_beside mid t c.keys.at p i.moves.parts near) in
    let after = g.B.BlockStore.blocks c.pass_key-used.new.store in
    let now = c.pass_key-used.new.tree in
    let l = g.B.BlockStore.heap c.pass_key-used.new.store in
    let low : c.args.from ≤ n = omega (arith, i.low, near.reaches) in
    let moves = moves_then m mid after t0 t now i.moves c.pass_key-used.ensures.moves in
    let one : PassesAll l (λ a. a == n) ks (all_refs mid t) (all_refs after now) =
    subst (λ xs. PassesAll l (λ a. a == n) xs (all_refs mid t) (all_refs after now)) i.moves.marks_are c.pass_key-used.ensures.passed in
    let passed = step_all h l c.args.from at n ks rs (all_refs mid t) (all_refs after now) low near.reaches beside c.pass_key-used.ensures.calmer i.passed one in
    let count : c.pass_key-used.result ≡ count_by (λ a. a == n) ks = c.pass_key-used.ensures.count ∙ ap (count_by (λ a. a == n)) i.moves.marks_are in
    let counted : c.keys.used + c.pass_key-used.result ≡ count_by (is_within c.args.from (n + 1)) ks = omega (arith, i.counted, count, step_count c.args.from at n ks low near.reaches beside) in
    let end = end_all c.args.from (n + 1) ks (subst (AllByRecursion (λ k. k < n + 1)) i.moves.marks_are (all_small mid t n c.in-None.ensures.none i.moves.parts)) in
    passes_same l (is_within c.args.from (n + 1)) (is_passed c.args.from None) ks rs (all_refs after now) end passed

pub returns-in-None-clause-bounded : goal.returns-in-None-clause-bounded
returns-in-None-clause-bounded g c =
    let m = g.B.BlockStore.blocks c.args.store.now in
    let t0 = c.args.tree.now in
    let ks = tree_marks m t0 in
    let rs = all_refs m t0 in
    let mid = g.B.BlockStore.blocks c.keys.store in
    let t = c.keys.tree in
    let h = g.B.BlockStore.heap c.keys.store in
    let i = c.keys.invariant in
    let at = id_number c.keys.at in
    let spot = c.in-Some.spot in
    let n = id_number spot.key in
    let p : Part = part spot.key spot.at spot.bytes.now in
    let near : IsNear true (parts_of mid t) c.keys.at p = c.in-Some.ensures.some in
    let beside : AllByRecursion (IsBeside at n) ks = subst (AllByRecursion (IsBeside at n)) i.moves.marks_are (near_beside mid t c.keys.at p i.moves.parts near) in
    let after = g.B.BlockStore.blocks c.pass_key-used.new.store in
    let now = c.pass_key-used.new.tree in
    let l = g.B.BlockStore.heap c.pass_key-used.new.store in
    let low : c.args.from ≤ n = omega (arith, i.low, near.reaches) in
    let moves = moves_then m mid after t0 t now i.moves c.pass_key-used.ensures.moves in
    let one : PassesAll l (λ a. a == n) ks (all_refs mid t) (all_refs after now) =
    subst (λ xs. PassesAll l (λ a. a == n) xs (all_refs mid t) (all_refs after now)) i.moves.marks_are c.pass_key-used.ensures.passed in
    let passed = step_all h l c.args.from at n ks rs (all_refs mid t) (all_refs after now) low near.reaches beside c.pass_key-used.ensures.calmer i.passed one in
    let count : c.pass_key-used.result ≡ count_by (λ a. a == n) ks = c.pass_key-used.ensures.count ∙ ap (count_by (λ a. a == n)) i.moves.marks_are in
    let counted : c.keys.used + c.pass_key-used.result ≡ count_by (is_within c.args.from (n + 1)) ks = omega (arith, i.counted, count, step_count c.args.from at n ks low near.reaches beside) in
    let end = end_all c.args.from (n + 1) ks (subst (AllByRecursion (λ k. k < n + 1)) i.moves.marks_are (all_small mid t n c.in-None.ensures.none i.moves.parts)) in
    record {
      used = counted ∙ sym (count_same (is_within c.args.from (n + 1)) (is_passed c.args.from None) ks end);
      within = omega (arith, i.within, c.pass_key-used.ensures.few);
      on = tt;
    }

pub returns-in-None-clause-calmer : goal.returns-in-None-clause-calmer
returns-in-None-clause-calmer g c =
    let m = g.B.BlockStore.blocks c.args.store.now in
    let t0 = c.args.tree.now in
    let ks = tree_marks m t0 in
    let rs = all_refs m t0 in
    let mid = g.B.BlockStore.blocks c.keys.store in
    let t = c.keys.tree in
    let h = g.B.BlockStore.heap c.keys.store in
    let i = c.keys.invariant in
    let at = id_number c.keys.at in
    let spot = c.in-Some.spot in
    let n = id_number spot.key in
    let p : Part = part spot.key spot.at spot.bytes.now in
    let near : IsNear true (parts_of mid t) c.keys.at p = c.in-Some.ensures.some in
    let beside : AllByRecursion (IsBeside at n) ks = subst (AllByRecursion (IsBeside at n)) i.moves.marks_are (near_beside mid t c.keys.at p i.moves.parts near) in
    let after = g.B.BlockStore.blocks c.pass_key-used.new.store in
    let now = c.pass_key-used.new.tree in
    let l = g.B.BlockStore.heap c.pass_key-used.new.store in
    let low : c.args.from ≤ n = omega (arith, i.low, near.reaches) in
    let moves = moves_then m mid after t0 t now i.moves c.pass_key-used.ensures.moves in
    let one : PassesAll l (λ a. a == n) ks (all_refs mid t) (all_refs after now) =
    subst (λ xs. PassesAll l (λ a. a == n) xs (all_refs mid t) (all_refs after now)) i.moves.marks_are c.pass_key-used.ensures.passed in
    let passed = step_all h l c.args.from at n ks rs (all_refs mid t) (all_refs after now) low near.reaches beside c.pass_key-used.ensures.calmer i.passed one in
    let count : c.pass_key-used.result ≡ count_by (λ a. a == n) ks = c.pass_key-used.ensures.count ∙ ap (count_by (λ a. a == n)) i.moves.marks_are in
    let counted : c.keys.used + c.pass_key-used.result ≡ count_by (is_within c.args.from (n + 1)) ks = omega (arith, i.counted, count, step_count c.args.from at n ks low near.reaches beside) in
    let end = end_all c.args.from (n + 1) ks (subst (AllByRecursion (λ k. k < n + 1)) i.moves.marks_are (all_small mid t n c.in-None.ensures.none i.moves.parts)) in
    calmer_next (g.B.BlockStore.heap c.args.store.now) h l i.calmer c.pass_key-used.ensures.calmer

pub returns-clause-moves : goal.returns-clause-moves
returns-clause-moves g c =
    let m = g.B.BlockStore.blocks c.args.store.now in
    let t0 = c.args.tree.now in
    let ks = tree_marks m t0 in
    let rs = all_refs m t0 in
    let mid = g.B.BlockStore.blocks c.keys.store in
    let t = c.keys.tree in
    let h = g.B.BlockStore.heap c.keys.store in
    let i = c.keys.invariant in
    let at = id_number c.keys.at in
    let end = end_all c.args.from at ks (subst (AllByRecursion (λ k. k < at)) i.moves.marks_are (all_below mid t c.keys.at i.moves.parts c.in_default.ensures.none)) in
    i.moves

pub returns-clause-passed : goal.returns-clause-passed
returns-clause-passed g c =
    let m = g.B.BlockStore.blocks c.args.store.now in
    let t0 = c.args.tree.now in
    let ks = tree_marks m t0 in
    let rs = all_refs m t0 in
    let mid = g.B.BlockStore.blocks c.keys.store in
    let t = c.keys.tree in
    let h = g.B.BlockStore.heap c.keys.store in
    let i = c.keys.invariant in
    let at = id_number c.keys.at in
    let end = end_all c.args.from at ks (subst (AllByRecursion (λ k. k < at)) i.moves.marks_are (all_below mid t c.keys.at i.moves.parts c.in_default.ensures.none)) in
    passes_same h (is_within c.args.from at) (is_passed c.args.from None) ks rs (all_refs mid t) end i.passed

pub returns-clause-bounded : goal.returns-clause-bounded
returns-clause-bounded g c =
    let m = g.B.BlockStore.blocks c.args.store.now in
    let t0 = c.args.tree.now in
    let ks = tree_marks m t0 in
    let rs = all_refs m t0 in
    let mid = g.B.BlockStore.blocks c.keys.store in
    let t = c.keys.tree in
    let h = g.B.BlockStore.heap c.keys.store in
    let i = c.keys.invariant in
    let at = id_number c.keys.at in
    let end = end_all c.args.from at ks (subst (AllByRecursion (λ k. k < at)) i.moves.marks_are (all_below mid t c.keys.at i.moves.parts c.in_default.ensures.none)) in
    record {
      used = i.counted ∙ sym (count_same (is_within c.args.from at) (is_passed c.args.from None) ks end);
      within = i.within;
      on = tt;
    }

pub returns-clause-calmer : goal.returns-clause-calmer
returns-clause-calmer g c =
    let m = g.B.BlockStore.blocks c.args.store.now in
    let t0 = c.args.tree.now in
    let ks = tree_marks m t0 in
    let rs = all_refs m t0 in
    let mid = g.B.BlockStore.blocks c.keys.store in
    let t = c.keys.tree in
    let h = g.B.BlockStore.heap c.keys.store in
    let i = c.keys.invariant in
    let at = id_number c.keys.at in
    let end = end_all c.args.from at ks (subst (AllByRecursion (λ k. k < at)) i.moves.marks_are (all_below mid t c.keys.at i.moves.parts c.in_default.ensures.none)) in
    i.calmer
