use Rattle.std.proofs.Common.{rules, ◌≡◌, ◌++◌, [], ℤ, FitsSigned, length, reverse, append-nil, refl, sym, ap, ◌∙◌, subst}
use Rattle.std.specs.Int.{w64}
use Rattle.std.proofs.lemmas.Int.{to_z-of_z}
use Rattle.cmd_zsets.specs.Spans.{told, told_all}
use Rattle.cmd_zsets.proofs.Told.{one_back, none_long}
use Rattle.cmd_zsets.proofs.spans.push_back.Goals as goal

pub members-init : goal.members-init
members-init c = refl

pub members-preserved : goal.members-preserved
members-preserved c =
    let score = c.in-Some.score in
    let fits : FitsSigned w64 score = search rules in
    one_back c.args.with_scores _ c.members.parts c.push_bytes.new.parts c.members.left.items c.pop.new.self.items (score, c.in-Some.member) c.in-Some.ensures.items
    (subst (λ (n : ℤ). c.push_bytes.new.parts ≡ c.members.parts ++ told c.args.with_scores (n, c.in-Some.member)) (to_z-of_z w64 score fits) c.in_ok-push_bytes.ensures) c.members.invariant

pub returns : goal.returns
returns c =
    let none : length c.members.left.items ≡ 0 = search rules in
    sym (append-nil c.members.parts) ∙ ap (λ (l : _). c.members.parts ++ told_all c.args.with_scores (reverse l)) (sym (none_long c.members.left.items none)) ∙ c.members.invariant
