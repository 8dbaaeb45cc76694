use Rattle.std.proofs.Common.{◌≡◌, ◌<◌, subst, sym, ap, ◌∙◌, length, ◌%◌, arith, rules}
use Rattle.std.proofs.lemmas.List.{get_or_default}
use Rattle.rehash_dict.specs.Placed.{IsSize}
use Rattle.rehash_dict.proofs.Edits.{links_made}
use Rattle.rehash_dict.proofs.chains.link.Goals as goal

pub bucket_of-bucket-requires-clause-size : goal.bucket_of-bucket-requires-clause-size
bucket_of-bucket-requires-clause-size g c = subst IsSize (sym c.len.ensures) c.requires.size

pub returns : goal.returns
returns g c =
    let len : c.len.result ≡ length c.args.heads.now.items = search rules in
    let lt : c.bucket_of-bucket.result < length c.args.heads.now.items = omega arith in
    links_made c.args.entries.now c.args.heads.now.items c.args.at c.bucket_of-bucket.result c.index.result.now c.in-Some.entry.now (sym c.in-Some.ensures.value)
    (c.bucket_of-bucket.ensures ∙ ap (λ n. c.in-Some.entry.now.hash % n) len)
    (c.index.ensures ∙ sym (get_or_default c.args.heads.now.items c.bucket_of-bucket.result 0 c.index.result.now lt))
