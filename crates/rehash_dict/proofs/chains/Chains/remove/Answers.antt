use Rattle.std.proofs.Common.{◌≡◌, ◌≢◌, ◌<◌, ◌∙◌, ℕ, Option, Some, None, IsSome, IfSome, is_some, length, sym, ap, subst, refl, arith}
use Rattle.slab.specs.Slab.{get}
use Rattle.rehash_dict.specs.declared.chains.Side.TheVariants.{Older, Newer}
use Rattle.rehash_dict.specs.Sides.{IsBehind, LeavesFrom, side_rows}
use Rattle.rehash_dict.specs.Chains.{room, rows}
use Rattle.rehash_dict.specs.Tables.{bucket}
use Rattle.rehash_dict.proofs.Stands.{flip}
use Rattle.rehash_dict.proofs.Rows.{length-rows}
use Rattle.rehash_dict.proofs.Ops.{view_of}
use Rattle.rehash_dict.proofs.Leaves.{stands_entry, in_split, before_in, removed_older, removed_newer, leaves_older, leaves_newer}
use Rattle.rehash_dict.proofs.chains.Chains.remove.Goals as goal

pub unlink-requires-clause-there : goal.unlink-requires-clause-there
unlink-requires-clause-there g c =
    let w = subst
    (λ side. IsBehind (bucket (side_rows side (view_of c.self.inside.entries.slots c.self.inside.older.items c.self.inside.newer.items (room c.self.inside.entries))) c.args.number)
    c.args.before c.args.at) c.in-Older.is
    (subst (λ now. IsBehind (bucket (side_rows c.args.side now) c.args.number) c.args.before c.args.at) (sym c.self.view_is) c.requires.behind) in
    let e = stands_entry c.self.inside.entries.slots (rows c.self.inside.entries.slots c.self.inside.older.items) (rows c.self.inside.entries.slots c.self.inside.newer.items) c.args.number
    c.args.at c.self.invariant.stand (in_split w.front w.rest _ c.args.at w.is) in
    ap is_some e.1

pub unlink-requires-clause-behind : goal.unlink-requires-clause-behind
unlink-requires-clause-behind g c =
    let w = subst
    (λ side. IsBehind (bucket (side_rows side (view_of c.self.inside.entries.slots c.self.inside.older.items c.self.inside.newer.items (room c.self.inside.entries))) c.args.number)
    c.args.before c.args.at) c.in-Older.is
    (subst (λ now. IsBehind (bucket (side_rows c.args.side now) c.args.number) c.args.before c.args.at) (sym c.self.view_is) c.requires.behind) in
    go c.args.before
    (λ p is. let q = before_in c.self.inside.entries.slots (rows c.self.inside.entries.slots c.self.inside.older.items) (rows c.self.inside.entries.slots c.self.inside.newer.items)
    c.args.number c.args.at p w.front w.rest c.self.invariant.stand w.is (sym w.last ∙ is) in (
      ap is_some
          (stands_entry c.self.inside.entries.slots (rows c.self.inside.entries.slots c.self.inside.older.items) (rows c.self.inside.entries.slots c.self.inside.newer.items) c.args.number p
          c.self.invariant.stand q.0).1,
      q.1,
    ))
  where
    go : (o : Option ℕ) → ((p : ℕ) → o ≡ Some p → IsSome (get c.self.inside.entries p) × (p ≢ c.args.at)) → IfSome o (λ p. IsSome (get c.self.inside.entries p) × (p ≢ c.args.at))
    go None f = tt
    go (Some p) f = f p refl

pub invariant_of-self : goal.invariant_of-self
invariant_of-self g c =
    let w = subst
    (λ side. IsBehind (bucket (side_rows side (view_of c.self.inside.entries.slots c.self.inside.older.items c.self.inside.newer.items (room c.self.inside.entries))) c.args.number)
    c.args.before c.args.at) c.in-Older.is
    (subst (λ now. IsBehind (bucket (side_rows c.args.side now) c.args.number) c.args.before c.args.at) (sym c.self.view_is) c.requires.behind) in
    let lt : c.args.number < length c.self.inside.older.items = omega (
      arith,
      length-rows c.self.inside.entries.slots c.self.inside.older.items,
      subst (λ side. c.args.number < length (side_rows side (view_of c.self.inside.entries.slots c.self.inside.older.items c.self.inside.newer.items (room c.self.inside.entries)))) c.in-Older.is
          (subst (λ now. c.args.number < length (side_rows c.args.side now)) (sym c.self.view_is) c.requires.bucket),
    ) in
    (removed_older c.self.inside.entries c.unlink.new.entries c.self.inside.older.items c.self.inside.newer.items c.unlink.new.heads.items c.self.inside.waiting c.args.number c.args.at
    c.args.before c.unlink.result.0 c.unlink.result.1 c.self.invariant w c.unlink.ensures lt).linked

pub returns-in-Older : goal.returns-in-Older
returns-in-Older g c =
    let w = subst
    (λ side. IsBehind (bucket (side_rows side (view_of c.self.inside.entries.slots c.self.inside.older.items c.self.inside.newer.items (room c.self.inside.entries))) c.args.number)
    c.args.before c.args.at) c.in-Older.is
    (subst (λ now. IsBehind (bucket (side_rows c.args.side now) c.args.number) c.args.before c.args.at) (sym c.self.view_is) c.requires.behind) in
    let lt : c.args.number < length c.self.inside.older.items = omega (
      arith,
      length-rows c.self.inside.entries.slots c.self.inside.older.items,
      subst (λ side. c.args.number < length (side_rows side (view_of c.self.inside.entries.slots c.self.inside.older.items c.self.inside.newer.items (room c.self.inside.entries)))) c.in-Older.is
          (subst (λ now. c.args.number < length (side_rows c.args.side now)) (sym c.self.view_is) c.requires.bucket),
    ) in
    subst
    (λ side. LeavesFrom side c.args.self.now (view_of c.unlink.new.entries.slots c.unlink.new.heads.items c.self.inside.newer.items (room c.unlink.new.entries)) c.args.number c.args.at
    c.unlink.result.0 c.unlink.result.1) (sym c.in-Older.is)
    (subst
    (λ now. LeavesFrom Older now (view_of c.unlink.new.entries.slots c.unlink.new.heads.items c.self.inside.newer.items (room c.unlink.new.entries)) c.args.number c.args.at
    c.unlink.result.0 c.unlink.result.1) c.self.view_is
    (leaves_older c.self.inside.entries c.unlink.new.entries c.self.inside.older.items c.self.inside.newer.items c.unlink.new.heads.items c.self.inside.waiting c.args.number c.args.at
    c.args.before c.unlink.result.0 c.unlink.result.1 c.self.invariant w c.unlink.ensures lt))

pub unlink-requires-in-Newer-clause-there : goal.unlink-requires-in-Newer-clause-there
unlink-requires-in-Newer-clause-there g c =
    let w = subst
    (λ side. IsBehind (bucket (side_rows side (view_of c.self.inside.entries.slots c.self.inside.older.items c.self.inside.newer.items (room c.self.inside.entries))) c.args.number)
    c.args.before c.args.at) c.in-Newer.is
    (subst (λ now. IsBehind (bucket (side_rows c.args.side now) c.args.number) c.args.before c.args.at) (sym c.self.view_is) c.requires.behind) in
    let e = stands_entry c.self.inside.entries.slots (rows c.self.inside.entries.slots c.self.inside.newer.items) (rows c.self.inside.entries.slots c.self.inside.older.items) c.args.number
    c.args.at (flip _ _ _ c.self.invariant.stand) (in_split w.front w.rest _ c.args.at w.is) in
    ap is_some e.1

pub unlink-requires-in-Newer-clause-behind : goal.unlink-requires-in-Newer-clause-behind
unlink-requires-in-Newer-clause-behind g c =
    let w = subst
    (λ side. IsBehind (bucket (side_rows side (view_of c.self.inside.entries.slots c.self.inside.older.items c.self.inside.newer.items (room c.self.inside.entries))) c.args.number)
    c.args.before c.args.at) c.in-Newer.is
    (subst (λ now. IsBehind (bucket (side_rows c.args.side now) c.args.number) c.args.before c.args.at) (sym c.self.view_is) c.requires.behind) in
    go c.args.before
    (λ p is. let q = before_in c.self.inside.entries.slots (rows c.self.inside.entries.slots c.self.inside.newer.items) (rows c.self.inside.entries.slots c.self.inside.older.items)
    c.args.number c.args.at p w.front w.rest (flip _ _ _ c.self.invariant.stand) w.is (sym w.last ∙ is) in (
      ap is_some
          (stands_entry c.self.inside.entries.slots (rows c.self.inside.entries.slots c.self.inside.newer.items) (rows c.self.inside.entries.slots c.self.inside.older.items) c.args.number p
          (flip _ _ _ c.self.invariant.stand) q.0).1,
      q.1,
    ))
  where
    go : (o : Option ℕ) → ((p : ℕ) → o ≡ Some p → IsSome (get c.self.inside.entries p) × (p ≢ c.args.at)) → IfSome o (λ p. IsSome (get c.self.inside.entries p) × (p ≢ c.args.at))
    go None f = tt
    go (Some p) f = f p refl

pub invariant_of-self-in-Newer : goal.invariant_of-self-in-Newer
invariant_of-self-in-Newer g c =
    let w = subst
    (λ side. IsBehind (bucket (side_rows side (view_of c.self.inside.entries.slots c.self.inside.older.items c.self.inside.newer.items (room c.self.inside.entries))) c.args.number)
    c.args.before c.args.at) c.in-Newer.is
    (subst (λ now. IsBehind (bucket (side_rows c.args.side now) c.args.number) c.args.before c.args.at) (sym c.self.view_is) c.requires.behind) in
    let lt : c.args.number < length c.self.inside.newer.items = omega (
      arith,
      length-rows c.self.inside.entries.slots c.self.inside.newer.items,
      subst (λ side. c.args.number < length (side_rows side (view_of c.self.inside.entries.slots c.self.inside.older.items c.self.inside.newer.items (room c.self.inside.entries)))) c.in-Newer.is
          (subst (λ now. c.args.number < length (side_rows c.args.side now)) (sym c.self.view_is) c.requires.bucket),
    ) in
    (removed_newer c.self.inside.entries c.unlink-in-Newer.new.entries c.self.inside.older.items c.self.inside.newer.items c.unlink-in-Newer.new.heads.items c.self.inside.waiting
    c.args.number c.args.at c.args.before c.unlink-in-Newer.result.0 c.unlink-in-Newer.result.1 c.self.invariant w c.unlink-in-Newer.ensures lt).linked

pub returns-in-Newer : goal.returns-in-Newer
returns-in-Newer g c =
    let w = subst
    (λ side. IsBehind (bucket (side_rows side (view_of c.self.inside.entries.slots c.self.inside.older.items c.self.inside.newer.items (room c.self.inside.entries))) c.args.number)
    c.args.before c.args.at) c.in-Newer.is
    (subst (λ now. IsBehind (bucket (side_rows c.args.side now) c.args.number) c.args.before c.args.at) (sym c.self.view_is) c.requires.behind) in
    let lt : c.args.number < length c.self.inside.newer.items = omega (
      arith,
      length-rows c.self.inside.entries.slots c.self.inside.newer.items,
      subst (λ side. c.args.number < length (side_rows side (view_of c.self.inside.entries.slots c.self.inside.older.items c.self.inside.newer.items (room c.self.inside.entries)))) c.in-Newer.is
          (subst (λ now. c.args.number < length (side_rows c.args.side now)) (sym c.self.view_is) c.requires.bucket),
    ) in
    subst
    (λ side. LeavesFrom side c.args.self.now
    (view_of c.unlink-in-Newer.new.entries.slots c.self.inside.older.items c.unlink-in-Newer.new.heads.items (room c.unlink-in-Newer.new.entries)) c.args.number c.args.at
    c.unlink-in-Newer.result.0 c.unlink-in-Newer.result.1) (sym c.in-Newer.is)
    (subst
    (λ now. LeavesFrom Newer now (view_of c.unlink-in-Newer.new.entries.slots c.self.inside.older.items c.unlink-in-Newer.new.heads.items (room c.unlink-in-Newer.new.entries))
    c.args.number c.args.at c.unlink-in-Newer.result.0 c.unlink-in-Newer.result.1) c.self.view_is
    (leaves_newer c.self.inside.entries c.unlink-in-Newer.new.entries c.self.inside.older.items c.self.inside.newer.items c.unlink-in-Newer.new.heads.items c.self.inside.waiting
    c.args.number c.args.at c.args.before c.unlink-in-Newer.result.0 c.unlink-in-Newer.result.1 c.self.invariant w c.unlink-in-Newer.ensures lt))
