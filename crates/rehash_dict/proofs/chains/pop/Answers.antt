use Rattle.std.proofs.Common.{◌≡◌, ◌<◌, ◌-◌, ◌∙◌, suc, sym, refl, arith, rules, length, vec_len}
use Rattle.std.proofs.lemmas.List.{get_or_default}
use Rattle.rehash_dict.proofs.chains.pop.Goals as goal

pub returns-in-Some-clause-pops : goal.returns-in-Some-clause-pops
returns-in-Some-clause-pops g c =
    let len : vec_len c.args.heads.now ≡ length c.args.heads.now.items = search rules in
    let lt : c.args.number < length c.args.heads.now.items = omega (arith, c.requires) in
    let one : c.index-link.result.now ≡ suc (c.index-link.result.now - 1) = omega arith in
    (c.in-Some.entry.now, sym c.in-Some.ensures, get_or_default c.args.heads.now.items c.args.number 0 c.index-link.result.now lt ∙ sym c.index-link.ensures ∙ one, refl)
