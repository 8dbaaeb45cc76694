use Rattle.std.proofs.Common.{◌≡◌, List, ℕ, [], ◌∷◌, ◌++◌, sym, subst, ◌∙◌}
use Rattle.blocks.specs.Blocks.{no_step}
use Rattle.blocks.proofs.Change.{changes_same}
use Rattle.object_codec.specs.Forms.{FitsList, IsLeast, IsLeastFrom}
use Rattle.plain_world.specs.Worlds.{ListOf}
use Rattle.quicklist.specs.Chain.{elements}
use Rattle.quicklist.specs.Nodes.{pack_len}
use Rattle.rdb_grammar.specs.Elements.{with_one}
use Rattle.rdb_grammar.specs.Places.{Stands}
use Rattle.rdb_grammar.specs.Views.{text_of}
use Rattle.rdb_reader.proofs.Elements.{pushed, push_fails, appended}
use Rattle.rdb_reader.proofs.Rising.{appended_least}
use Rattle.rdb_reader.proofs.building.push_element.Goals as goal

pub returns-in-Err-clause-adds : goal.returns-in-Err-clause-adds
returns-in-Err-clause-adds g c = rw c.refused.ensures (push_fails c.args.bytes.now c.args.at c.in-Err.fault.kind c.in-Err.fault.at c.in-Err.ensures.fault _)

pub returns-in-Ok-insert-clause-adds : goal.returns-in-Ok-insert-clause-adds
returns-in-Ok-insert-clause-adds g c =
    let xs = elements (g.B.BlockStore.blocks c.args.store.now) c.args.list.now in
    let new = elements (g.B.BlockStore.blocks c.insert.new.store) c.insert.new.self in
    let list : new ≡ xs ++ text_of c.in-Ok.read.0 ∷ [] = c.in-Ok-insert.ensures.written.list_is
    ∙ appended xs c.len-index.result c.text.result.now (text_of c.in-Ok.read.0) (c.len-index.ensures ∙ c.requires.sound.counted) c.text.ensures in
    subst (λ (ys : List (List ℕ)). Stands (with_one (ListOf xs)) (ListOf ys) c.args.bytes.now c.args.at c.in-Ok.read.1) (sym list)
    (pushed c.args.bytes.now c.args.at c.in-Ok.read.1 (text_of c.in-Ok.read.0) c.in-Ok.ensures.string xs)

pub returns-in-Ok-insert-clause-form : goal.returns-in-Ok-insert-clause-form
returns-in-Ok-insert-clause-form g c least =
    let xs = elements (g.B.BlockStore.blocks c.args.store.now) c.args.list.now in
    let new = elements (g.B.BlockStore.blocks c.insert.new.store) c.insert.new.self in
    let text = text_of c.in-Ok.read.0 in
    let put = appended xs c.len-index.result c.text.result.now text (c.len-index.ensures ∙ c.requires.sound.counted) c.text.ensures in
    let list : new ≡ xs ++ text ∷ [] = c.in-Ok-insert.ensures.written.list_is ∙ put in
    let risen = subst (λ (ys : List (List ℕ)). IsLeastFrom c.args.list.now.form (FitsList (pack_len ys)) c.insert.new.self.form) put c.in-Ok-insert.ensures.written.form in
    subst (λ (ys : List (List ℕ)). IsLeast (FitsList (pack_len ys)) c.insert.new.self.form) (sym list) (appended_least xs (text ∷ []) c.args.list.now.form c.insert.new.self.form least risen)

pub next_string-requires : goal.next_string-requires
next_string-requires g c = c.requires.at

pub returns-in-Err-clause-sound : goal.returns-in-Err-clause-sound
returns-in-Err-clause-sound g c = c.requires.sound

pub returns-in-Err-clause-form : goal.returns-in-Err-clause-form
returns-in-Err-clause-form g c = tt

pub returns-in-Err-clause-changes : goal.returns-in-Err-clause-changes
returns-in-Err-clause-changes g c = changes_same _ _ c.requires.sound.chain.owned

pub returns-in-Err-clause-served : goal.returns-in-Err-clause-served
returns-in-Err-clause-served g c = no_step

pub returns-in-Ok-insert-clause-served : goal.returns-in-Ok-insert-clause-served
returns-in-Ok-insert-clause-served g c = c.insert.ensures.served

pub returns-in-Err-insert-clause-served : goal.returns-in-Err-insert-clause-served
returns-in-Err-insert-clause-served g c = c.insert.ensures.served

pub returns-in-Err-insert-clause-form : goal.returns-in-Err-insert-clause-form
returns-in-Err-insert-clause-form g c = tt

pub returns-in-Err-insert-clause-adds : goal.returns-in-Err-insert-clause-adds
returns-in-Err-insert-clause-adds g c = tt

pub returns-in-Ok-insert-clause-sound : goal.returns-in-Ok-insert-clause-sound
returns-in-Ok-insert-clause-sound g c = c.in-Ok-insert.ensures.written.quick

pub returns-in-Ok-insert-clause-changes : goal.returns-in-Ok-insert-clause-changes
returns-in-Ok-insert-clause-changes g c = c.in-Ok-insert.ensures.written.changes
