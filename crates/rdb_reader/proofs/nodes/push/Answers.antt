use Rattle.std.proofs.Common.{◌≡◌, List, ℕ, [], ◌∷◌, ◌++◌, sym, subst, ◌∙◌, refl}
use Rattle.object_codec.specs.Forms.{FitsList, IsLeast, IsLeastFrom}
use Rattle.quicklist.specs.Chain.{elements}
use Rattle.quicklist.specs.Nodes.{pack_len}
use Rattle.rdb_reader.proofs.Elements.{appended}
use Rattle.rdb_reader.proofs.Rising.{appended_least}
use Rattle.rdb_reader.proofs.nodes.push.Goals as goal

pub returns-in-Ok-clause-pushed : goal.returns-in-Ok-clause-pushed
returns-in-Ok-clause-pushed g c =
    let xs = elements (g.B.BlockStore.blocks c.args.store.now) c.args.list.now in
    c.in-Ok.ensures.written.list_is ∙ appended xs c.len-index.result c.args.text.now c.args.text.now (c.len-index.ensures ∙ c.requires.counted) refl

pub returns-in-Ok-clause-form : goal.returns-in-Ok-clause-form
returns-in-Ok-clause-form g c least =
    let xs = elements (g.B.BlockStore.blocks c.args.store.now) c.args.list.now in
    let new = elements (g.B.BlockStore.blocks c.insert.new.store) c.insert.new.self in
    let text = c.args.text.now in
    let put = appended xs c.len-index.result text text (c.len-index.ensures ∙ c.requires.counted) refl in
    let list : new ≡ xs ++ text ∷ [] = c.in-Ok.ensures.written.list_is ∙ put in
    let risen = subst (λ (ys : List (List ℕ)). IsLeastFrom c.args.list.now.form (FitsList (pack_len ys)) c.insert.new.self.form) put c.in-Ok.ensures.written.form in
    subst (λ (ys : List (List ℕ)). IsLeast (FitsList (pack_len ys)) c.insert.new.self.form) (sym list) (appended_least xs (text ∷ []) c.args.list.now.form c.insert.new.self.form least risen)
