use Rattle.pack_pairs.specs.Pairs.{pairs}
use Rattle.hash_object.proofs.Whole.{is_there}
use Rattle.hash_object.proofs.taking.may_follow.Goals as goal

pub returns-in-Some : goal.returns-in-Some
returns-in-Some c = (λ t. absurd cc, λ both. absurd (is_there c.args.field.now (pairs c.args.pack.now) c.in-Some.field-0.index c.in-Some.ensures.found both.1))
