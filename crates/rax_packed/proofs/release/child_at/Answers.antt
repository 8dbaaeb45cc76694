use Rattle.std.proofs.Common.{◌∙◌}
use Rattle.rax_packed.proofs.Releases.{child_ref}
use Rattle.rax_packed.proofs.release.child_at.Goals as goal

pub returns : goal.returns
returns c = λ d. c.link.ensures ∙ child_ref c.args.bytes.now c.read_sections.result.refs.now c.args.place d c.requires.inner c.requires.place c.read_sections.ensures.refs
