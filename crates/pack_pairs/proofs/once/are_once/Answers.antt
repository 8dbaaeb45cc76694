use Rattle.std.proofs.Common.{◌≡◌, sym, ap, ◌∙◌, subst}
use Rattle.std.specs.List.{IsDistinct}
use Rattle.std.specs.Str.{bytes_eq}
use Rattle.pack_pairs.specs.Pairs.{first_spellings}
use Rattle.pack_pairs.proofs.Distinct.{bytes_in, once_iff}
use Rattle.pack_pairs.proofs.once.are_once.Goals as goal

pub returns : goal.returns
returns c =
    let seen : bytes_in c.deref_mut.result.now ≡ first_spellings c.args.bytes.now = ap bytes_in c.deref_mut.ensures.value ∙ c.in_ok-firsts.ensures in
    let both = once_iff c.args.bytes.now c.requires in (
      (λ yes. both.0 (subst (IsDistinct bytes_eq) seen (c.are_distinct.ensures.0 yes))),
      (λ once. c.are_distinct.ensures.1 (subst (IsDistinct bytes_eq) (sym seen) (both.1 once))),
    )
