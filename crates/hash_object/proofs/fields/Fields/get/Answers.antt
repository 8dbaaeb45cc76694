use Rattle.std.proofs.Common.{◌≡◌, ℕ, List, [], Option, None, Some, unwrap_or, sym, ap, ◌∙◌, subst}
use Rattle.std.specs.FinMap.{get, get-empty}
use Rattle.std.specs.Prelude.{MatchOption}
use Rattle.std.specs.Ordering.{nat_cmp}
use Rattle.std.specs.Cmp.Lexicographic.{slice_cmp}
use Rattle.listpack.specs.Element.{element_text}
use Rattle.pack_pairs.specs.Pairs.{pairs, second_of, map_of_pairs}
use Rattle.pack_pairs.proofs.Maps.{get_pairs}
use Rattle.hash_object.specs.declared.fields.Body.{Body}
use Rattle.hash_object.specs.Fields.{fields, fields_of}
use Rattle.hash_object.proofs.fields.Fields.get.Goals as goal

pub returns-in-Empty : goal.returns-in-Empty
returns-in-Empty g c = ap (λ (b : Body). get (fields_of (g.B.BlockStore.blocks c.args.store.now) b) c.args.field.now) c.in-Empty.is ∙ get-empty (slice_cmp nat_cmp) c.args.field.now

pub returns-in-Pack : goal.returns-in-Pack
returns-in-Pack g c =
    let m = g.B.BlockStore.blocks c.args.store.now in
    let q = c.args.field.now in
    let same : get (fields m c.args.self.now) q ≡ second_of q (pairs c.bytes.result.now) =
    ap (λ (b : Body). get (fields_of m b) q) c.in-Pack.is ∙ ap (λ (o : Option (List ℕ)). get (map_of_pairs (pairs (unwrap_or o []))) q) c.bytes.ensures ∙ get_pairs (pairs c.bytes.result.now) q in
    subst (λ (found : Option (List ℕ)). MatchOption c.find_second.result (found ≡ None) (λ value. found ≡ Some (element_text value))) (sym same) c.find_second.ensures
