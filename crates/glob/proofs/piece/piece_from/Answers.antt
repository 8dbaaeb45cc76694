use Rattle.std.proofs.Common.{◌∷◌, ◌+◌, cond, sym, subst, arith}
use Rattle.glob.specs.Piece.{TakesByte, IsPiece}
use Rattle.glob.specs.declared.piece.Piece.TheVariants.{Takes, Refuses}
use Rattle.glob.proofs.Rules.{IsItself}
use Rattle.glob.proofs.Pieces.{question_takes, class_piece, itself_piece}
use Rattle.glob.proofs.piece.piece_from.Goals as goal

pub returns-in-63 : goal.returns-in-63
returns-in-63 c = subst (λ b. TakesByte (b ∷ c.args.rest.now) c.args.byte 1) (sym c.in-63.is) (question_takes c.args.rest.now c.args.byte)

pub returns-in-91 : goal.returns-in-91
returns-in-91 c =
    let v = c.read_class-verdict in
    rw c.takes_if.ensures
    (subst (λ b. IsPiece (b ∷ c.args.rest.now) c.args.byte (cond v.result.takes (Takes (v.result.width + 1)) Refuses)) (sym c.in-91.is)
    (class_piece c.args.rest.now c.args.byte v.result.takes v.result.width v.ensures.takes v.ensures.room v.ensures.rest))

pub returns-in_default : goal.returns-in_default
returns-in_default c =
    let itself : IsItself c.args.first c.args.rest.now = record { no_star = λ e. omega arith; no_question = λ e. omega arith; no_bracket = λ e. omega arith; last = λ e. absurd (omega arith) } in
    rw c.takes_if-in_default.ensures (itself_piece c.args.first c.args.rest.now c.args.byte itself)
