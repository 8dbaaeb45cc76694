use Rattle.std.proofs.Common.{◌≡◌, ◌<◌, ◌-◌, ◌∙◌, [], length, get_or, sym, ap, subst, arith, rules, vec_len}
use Rattle.rehash_dict.specs.Placed.{IsSize}
use Rattle.rehash_dict.specs.Sides.{MovesOne}
use Rattle.rehash_dict.specs.Chains.{room, IsLinked}
use Rattle.rehash_dict.specs.Tables.{bucket}
use Rattle.rehash_dict.proofs.Rows.{length-rows}
use Rattle.rehash_dict.proofs.Ops.{view_of}
use Rattle.rehash_dict.proofs.Moves.{no_chain, rows_moved, moves_one}
use Rattle.rehash_dict.proofs.chains.Chains.move_first.Goals as goal

pub returns-in_default-clause-moves : goal.returns-in_default-clause-moves
returns-in_default-clause-moves g c =
    let lt : c.args.number < length c.self.inside.older.items = omega
    (arith, c.requires.bucket, ap (λ h. length h.older) c.self.view_is, length-rows c.self.inside.entries.slots c.self.inside.older.items) in (
      ap (λ heads. view_of c.self.inside.entries.slots heads c.self.inside.newer.items (room c.self.inside.entries)) c.in_default.ensures.pops.0 ∙ c.self.view_is,
      subst (λ h. bucket h.older c.args.number ≡ []) c.self.view_is
          (no_chain c.self.inside.entries.slots (get_or c.self.inside.older.items c.args.number 0) _ (c.self.invariant.ends_older c.args.number lt) c.in_default.ensures.pops.1),
    )

pub link-requires-clause-size : goal.link-requires-clause-size
link-requires-clause-size g c =
    let len : length c.self.inside.newer.items ≡ vec_len c.self.inside.newer = search rules in
    subst IsSize (length-rows c.self.inside.entries.slots c.self.inside.newer.items ∙ len) c.self.invariant.stand.newer_size

pub invariant_of-self-2 : goal.invariant_of-self-2
invariant_of-self-2 g c =
    let p = c.in-Some.ensures.pops in
    let lt : c.args.number < length c.self.inside.older.items = omega
    (arith, c.requires.bucket, ap (λ h. length h.older) c.self.view_is, length-rows c.self.inside.entries.slots c.self.inside.older.items) in
    let some : 0 < length c.self.inside.newer.items = omega (arith, c.requires.table, ap (λ h. length h.newer) c.self.view_is, length-rows c.self.inside.entries.slots c.self.inside.newer.items) in
    subst (λ heads. IsLinked c.link.new.entries.slots heads c.link.new.heads.items (c.self.inside.waiting - 1)) (sym p.3)
    (rows_moved c.self.inside.entries c.link.new.entries c.self.inside.older.items c.self.inside.newer.items c.link.new.heads.items c.self.inside.waiting c.in-Some.at c.args.number p.0
    c.self.invariant p.1 p.2 lt some c.link.ensures).linked

pub returns-clause-moves : goal.returns-clause-moves
returns-clause-moves g c =
    let p = c.in-Some.ensures.pops in
    let lt : c.args.number < length c.self.inside.older.items = omega
    (arith, c.requires.bucket, ap (λ h. length h.older) c.self.view_is, length-rows c.self.inside.entries.slots c.self.inside.older.items) in
    let some : 0 < length c.self.inside.newer.items = omega (arith, c.requires.table, ap (λ h. length h.newer) c.self.view_is, length-rows c.self.inside.entries.slots c.self.inside.newer.items) in
    subst (λ now. MovesOne now (view_of c.link.new.entries.slots c.pop.new.heads.items c.link.new.heads.items (room c.link.new.entries)) c.args.number) c.self.view_is
    (subst
    (λ heads. MovesOne (view_of c.self.inside.entries.slots c.self.inside.older.items c.self.inside.newer.items (room c.self.inside.entries))
    (view_of c.link.new.entries.slots heads c.link.new.heads.items (room c.link.new.entries)) c.args.number) (sym p.3)
    (moves_one c.self.inside.entries c.link.new.entries c.self.inside.older.items c.self.inside.newer.items c.link.new.heads.items c.self.inside.waiting c.in-Some.at c.args.number p.0
    c.self.invariant p.1 p.2 lt some c.link.ensures))

pub returns-clause-stand : goal.returns-clause-stand
returns-clause-stand g c = (invariant_of-self-2 g c).stand
