use Rattle.std.proofs.Common.{◌≡◌, ℕ, List, Result, ◌∙◌, ap, sym, take, drop}
use Rattle.rdb_grammar.specs.Format.{Fault}
use Rattle.rdb_grammar.specs.Files.{sum_field}
use Rattle.rdb_grammar.proofs.HeaderExact.{sum_field_exact}
use Rattle.rdb_grammar.proofs.Standing.{found, broken}
use Rattle.rdb_grammar.proofs.file.check_sum.Goals as goal

-- what was read behind the front of the bytes, as it reads from the place on
told : (bytes front field : List ℕ) (at : ℕ) (r : Result (ℕ × List ℕ) Fault) → front ≡ take at bytes → field ≡ drop at bytes → (sum_field front).read field ≡ r
    → (sum_field (take at bytes)).read (drop at bytes) ≡ r
told bytes front field at r a b h =
    ap (λ (z : List ℕ). (sum_field z).read (drop at bytes)) (sym a) ∙ ap (λ (z : List ℕ). (sum_field front).read z) (sym b) ∙ h

pub overflow_sub-result : goal.overflow_sub-result
overflow_sub-result c =
    let is = told c.args.bytes.now c.split_at.result.0.now c.split_at.result.1.now c.args.at _ c.split_at.ensures.front c.split_at.ensures.back c.in-Ok.ensures in
    (found (sum_field (take c.args.at c.args.bytes.now)) (sum_field_exact _) c.args.bytes.now c.args.at _ c.in-Ok.rest.now c.requires is).fits

pub overflow_sub-result-in-Err : goal.overflow_sub-result-in-Err
overflow_sub-result-in-Err c =
    let is = told c.args.bytes.now c.split_at.result.0.now c.split_at.result.1.now c.args.at _ c.split_at.ensures.front c.split_at.ensures.back c.in-Err.ensures in
    (broken (sum_field (take c.args.at c.args.bytes.now)) (sum_field_exact _) c.args.bytes.now c.args.at c.in-Err.e.kind c.in-Err.e.left c.requires is).fits

pub returns-in-Ok-clause-summed : goal.returns-in-Ok-clause-summed
returns-in-Ok-clause-summed c =
    let is = told c.args.bytes.now c.split_at.result.0.now c.split_at.result.1.now c.args.at _ c.split_at.ensures.front c.split_at.ensures.back c.in-Ok.ensures in
    (_, (found (sum_field (take c.args.at c.args.bytes.now)) (sum_field_exact _) c.args.bytes.now c.args.at _ c.in-Ok.rest.now c.requires is).stands)

pub returns-in-Err-clause-fault : goal.returns-in-Err-clause-fault
returns-in-Err-clause-fault c =
    let is = told c.args.bytes.now c.split_at.result.0.now c.split_at.result.1.now c.args.at _ c.split_at.ensures.front c.split_at.ensures.back c.in-Err.ensures in
    (broken (sum_field (take c.args.at c.args.bytes.now)) (sum_field_exact _) c.args.bytes.now c.args.at c.in-Err.e.kind c.in-Err.e.left c.requires is).fails
