use Rattle.std.proofs.Common.{◌≡◌, List, ℕ, OnOk, sym, ap, subst, ◌∙◌}
use Rattle.string_object.specs.Text.{text_bytes}
use Rattle.cmd_values.specs.Changed.{changed, HasRoom}
use Rattle.cmd_values.specs.declared.strings.changing.Change.{Change}
use Rattle.cmd_values.proofs.Ranges.{ranged_over}
use Rattle.cmd_values.proofs.strings.changing.change_text.Goals as goal

pub returns-in-Write-clause-bytes : goal.returns-in-Write-clause-bytes
returns-in-Write-clause-bytes g c =
    let before : List ℕ = text_bytes (g.B.BlockStore.blocks c.args.store.now) c.args.text.now in
    let room = subst (λ (change : Change). HasRoom change before) c.in-Write.is c.requires.room in
    subst (λ (bytes : List ℕ). OnOk c.set_range.result (text_bytes (g.B.BlockStore.blocks c.set_range.new.store) c.set_range.new.self ≡ bytes))
    (ranged_over before c.in-Write.place c.in-Write.piece.now room.0 ∙ sym (ap (λ (change : Change). changed change before) c.in-Write.is)) c.set_range.ensures.bytes
