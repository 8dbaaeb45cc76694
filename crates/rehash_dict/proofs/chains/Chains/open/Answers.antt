use Rattle.std.proofs.Common.{◌≡◌, [], subst, sym, vec_len}
use Rattle.rehash_dict.specs.declared.chains.Side.TheVariants.{Older, Newer}
use Rattle.rehash_dict.specs.Sides.{Changed, side_rows}
use Rattle.rehash_dict.specs.Chains.{room, rows}
use Rattle.rehash_dict.specs.Tables.{no_elements}
use Rattle.rehash_dict.proofs.Ops.{view_of}
use Rattle.rehash_dict.proofs.Tweaks.{opened_older, opened_newer}
use Rattle.rehash_dict.proofs.chains.Chains.open.Goals as goal

pub invariant_of-self : goal.invariant_of-self
invariant_of-self g c =
    let none : rows c.self.inside.entries.slots c.self.inside.older.items ≡ [] =
    subst (λ side. side_rows side (view_of c.self.inside.entries.slots c.self.inside.older.items c.self.inside.newer.items (room c.self.inside.entries)) ≡ []) c.in-Older.is
    (subst (λ now. side_rows c.args.side now ≡ []) (sym c.self.view_is) c.requires.none) in
    (opened_older c.self.inside.entries.slots c.self.inside.older.items c.self.inside.newer.items c.args.heads.items c.self.inside.waiting (vec_len c.args.heads) c.self.invariant none
    c.requires.size c.requires.empty).linked

pub returns-in-Older-clause-rows : goal.returns-in-Older-clause-rows
returns-in-Older-clause-rows g c =
    let none : rows c.self.inside.entries.slots c.self.inside.older.items ≡ [] =
    subst (λ side. side_rows side (view_of c.self.inside.entries.slots c.self.inside.older.items c.self.inside.newer.items (room c.self.inside.entries)) ≡ []) c.in-Older.is
    (subst (λ now. side_rows c.args.side now ≡ []) (sym c.self.view_is) c.requires.none) in
    let m = opened_older c.self.inside.entries.slots c.self.inside.older.items c.self.inside.newer.items c.args.heads.items c.self.inside.waiting (vec_len c.args.heads) c.self.invariant
    none c.requires.size c.requires.empty in
    subst
    (λ side. Changed side c.args.self.now (view_of c.self.inside.entries.slots c.args.heads.items c.self.inside.newer.items (room c.self.inside.entries))
    (no_elements (vec_len c.args.heads))) (sym c.in-Older.is)
    (subst (λ now. Changed Older now (view_of c.self.inside.entries.slots c.args.heads.items c.self.inside.newer.items (room c.self.inside.entries)) (no_elements (vec_len c.args.heads)))
    c.self.view_is ((m.older_rows, m.newer_rows)))

pub returns-in-Older-clause-stand : goal.returns-in-Older-clause-stand
returns-in-Older-clause-stand g c = (invariant_of-self g c).stand

pub invariant_of-self-in-Newer : goal.invariant_of-self-in-Newer
invariant_of-self-in-Newer g c =
    let none : rows c.self.inside.entries.slots c.self.inside.newer.items ≡ [] =
    subst (λ side. side_rows side (view_of c.self.inside.entries.slots c.self.inside.older.items c.self.inside.newer.items (room c.self.inside.entries)) ≡ []) c.in-Newer.is
    (subst (λ now. side_rows c.args.side now ≡ []) (sym c.self.view_is) c.requires.none) in
    (opened_newer c.self.inside.entries.slots c.self.inside.older.items c.self.inside.newer.items c.args.heads.items c.self.inside.waiting (vec_len c.args.heads) c.self.invariant none
    c.requires.size c.requires.empty).linked

pub returns-in-Newer-clause-rows : goal.returns-in-Newer-clause-rows
returns-in-Newer-clause-rows g c =
    let none : rows c.self.inside.entries.slots c.self.inside.newer.items ≡ [] =
    subst (λ side. side_rows side (view_of c.self.inside.entries.slots c.self.inside.older.items c.self.inside.newer.items (room c.self.inside.entries)) ≡ []) c.in-Newer.is
    (subst (λ now. side_rows c.args.side now ≡ []) (sym c.self.view_is) c.requires.none) in
    let m = opened_newer c.self.inside.entries.slots c.self.inside.older.items c.self.inside.newer.items c.args.heads.items c.self.inside.waiting (vec_len c.args.heads) c.self.invariant
    none c.requires.size c.requires.empty in
    subst
    (λ side. Changed side c.args.self.now (view_of c.self.inside.entries.slots c.self.inside.older.items c.args.heads.items (room c.self.inside.entries))
    (no_elements (vec_len c.args.heads))) (sym c.in-Newer.is)
    (subst (λ now. Changed Newer now (view_of c.self.inside.entries.slots c.self.inside.older.items c.args.heads.items (room c.self.inside.entries)) (no_elements (vec_len c.args.heads)))
    c.self.view_is ((m.newer_rows, m.older_rows)))

pub returns-in-Newer-clause-stand : goal.returns-in-Newer-clause-stand
returns-in-Newer-clause-stand g c = (invariant_of-self-in-Newer g c).stand
