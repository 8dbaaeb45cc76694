use Rattle.std.proofs.Common.{[], ◌∷◌, drop, Ok, refl, rules}
use Rattle.plain_model.specs.Shapes.{Plain, Whole, Span, Offset, fixed, with_options}
use Rattle.plain_model.specs.StringWords.{pairs_of, set_options, no_set_options, set_of, getex_options, no_getex_options, getex_of, set_range_of, decrease_of}
use Rattle.plain_model.specs.declared.command.Command.TheVariants.{Strings}
use Rattle.plain_model.specs.declared.command.StringCommand.TheVariants as strings
use Rattle.command_words.proofs.Lifted.{lifted}
use Rattle.command_table.proofs.Arms.{fixed_made, gathered}
use Rattle.command_table.proofs.strings.read_string.Goals as goal

pub returns-in-SetEx : goal.returns-in-SetEx
returns-in-SetEx c = rw c.in-SetEx.is
    (fixed_made Strings (Plain ∷ Span ∷ Plain ∷ []) (λ a. (a.0, (a.1, (a.2, tt)))) (λ a. Ok (strings.SetEx a.0 a.1.0 a.1.1.0)) (λ a. strings.SetEx a.0 a.1 a.2) (λ a. refl)
    c.args.request.now c.one_span_one.result _ c.one_span_one.ensures (search rules))

pub returns-in-PSetEx : goal.returns-in-PSetEx
returns-in-PSetEx c = rw c.in-PSetEx.is
    (fixed_made Strings (Plain ∷ Span ∷ Plain ∷ []) (λ a. (a.0, (a.1, (a.2, tt)))) (λ a. Ok (strings.PSetEx a.0 a.1.0 a.1.1.0)) (λ a. strings.PSetEx a.0 a.1 a.2) (λ a. refl)
    c.args.request.now c.one_span_one-in-PSetEx.result _ c.one_span_one-in-PSetEx.ensures (search rules))

pub returns-in-GetRange : goal.returns-in-GetRange
returns-in-GetRange c = rw c.in-GetRange.is
    (fixed_made Strings (Plain ∷ Whole ∷ Whole ∷ []) (λ a. (a.0, (a.1, (a.2, tt)))) (λ a. Ok (strings.GetRange a.0 a.1.0 a.1.1.0)) (λ a. strings.GetRange a.0 a.1 a.2) (λ a. refl)
    c.args.request.now c.one_and_numbers.result _ c.one_and_numbers.ensures (search rules))

pub returns-in-MGet : goal.returns-in-MGet
returns-in-MGet c = rw c.in-MGet.is (gathered Strings 1 (λ w. w) strings.MGet (λ list. refl) c.args.request.now c.words.result _ c.words.ensures (search rules))

pub returns-in-MSet : goal.returns-in-MSet
returns-in-MSet c = rw c.in-MSet.is (gathered Strings 2 pairs_of strings.MSet (λ list. refl) c.args.request.now c.pairs.result _ c.pairs.ensures (search rules))

pub returns-in-MSetNx : goal.returns-in-MSetNx
returns-in-MSetNx c = rw c.in-MSetNx.is (gathered Strings 2 pairs_of strings.MSetNx (λ list. refl) c.args.request.now c.pairs-in-MSetNx.result _ c.pairs-in-MSetNx.ensures (search rules))

pub returns-in-SetNx : goal.returns-in-SetNx
returns-in-SetNx c = rw c.in-SetNx.is
    (fixed_made Strings (Plain ∷ Plain ∷ []) (λ a. (a.0, (a.1, tt))) (λ a. Ok (strings.SetNx a.0 a.1.0)) (λ a. strings.SetNx a.0 a.1) (λ a. refl) c.args.request.now c.two.result _
    c.two.ensures (search rules))

pub returns-in-GetSet : goal.returns-in-GetSet
returns-in-GetSet c = rw c.in-GetSet.is
    (fixed_made Strings (Plain ∷ Plain ∷ []) (λ a. (a.0, (a.1, tt))) (λ a. Ok (strings.GetSet a.0 a.1.0)) (λ a. strings.GetSet a.0 a.1) (λ a. refl) c.args.request.now
    c.two-in-GetSet.result _ c.two-in-GetSet.ensures (search rules))

pub returns-in-Append : goal.returns-in-Append
returns-in-Append c = rw c.in-Append.is
    (fixed_made Strings (Plain ∷ Plain ∷ []) (λ a. (a.0, (a.1, tt))) (λ a. Ok (strings.Append a.0 a.1.0)) (λ a. strings.Append a.0 a.1) (λ a. refl) c.args.request.now
    c.two-in-Append.result _ c.two-in-Append.ensures (search rules))

pub returns-in-IncrBy : goal.returns-in-IncrBy
returns-in-IncrBy c = rw c.in-IncrBy.is
    (fixed_made Strings (Plain ∷ Whole ∷ []) (λ a. (a.0, (a.1, tt))) (λ a. Ok (strings.IncrBy a.0 a.1.0)) (λ a. strings.IncrBy a.0 a.1) (λ a. refl) c.args.request.now
    c.one_and_number.result _ c.one_and_number.ensures (search rules))

pub returns-in-Get : goal.returns-in-Get
returns-in-Get c = rw c.in-Get.is (fixed_made Strings (Plain ∷ []) (λ a. (a, tt)) (λ a. Ok (strings.Get a.0)) strings.Get (λ a. refl) c.args.request.now c.one.result _ c.one.ensures (search rules))

pub returns-in-GetDel : goal.returns-in-GetDel
returns-in-GetDel c = rw c.in-GetDel.is
    (fixed_made Strings (Plain ∷ []) (λ a. (a, tt)) (λ a. Ok (strings.GetDel a.0)) strings.GetDel (λ a. refl) c.args.request.now c.one-in-GetDel.result _ c.one-in-GetDel.ensures
    (search rules))

pub returns-in-StrLen : goal.returns-in-StrLen
returns-in-StrLen c = rw c.in-StrLen.is
    (fixed_made Strings (Plain ∷ []) (λ a. (a, tt)) (λ a. Ok (strings.StrLen a.0)) strings.StrLen (λ a. refl) c.args.request.now c.one-in-StrLen.result _ c.one-in-StrLen.ensures
    (search rules))

pub returns-in-Incr : goal.returns-in-Incr
returns-in-Incr c = rw c.in-Incr.is
    (fixed_made Strings (Plain ∷ []) (λ a. (a, tt)) (λ a. Ok (strings.Incr a.0)) strings.Incr (λ a. refl) c.args.request.now c.one-in-Incr.result _ c.one-in-Incr.ensures (search rules))

pub returns-in-Decr : goal.returns-in-Decr
returns-in-Decr c = rw c.in-Decr.is
    (fixed_made Strings (Plain ∷ []) (λ a. (a, tt)) (λ a. Ok (strings.Decr a.0)) strings.Decr (λ a. refl) c.args.request.now c.one-in-Decr.result _ c.one-in-Decr.ensures (search rules))

pub returns-in-Set : goal.returns-in-Set
returns-in-Set c = rw c.in-Set.is (lifted Strings (with_options (Plain ∷ Plain ∷ []) set_options no_set_options (λ a c. set_of a.0 a.1.0 c) (drop 1 c.args.request.now)) c.set.result c.set.ensures)

pub returns-in-GetEx : goal.returns-in-GetEx
returns-in-GetEx c = rw c.in-GetEx.is (lifted Strings (with_options (Plain ∷ []) getex_options no_getex_options (λ a c. getex_of a.0 c) (drop 1 c.args.request.now)) c.get_ex.result c.get_ex.ensures)

pub returns-in-SetRange : goal.returns-in-SetRange
returns-in-SetRange c = rw c.in-SetRange.is
    (lifted Strings (fixed (Plain ∷ Offset ∷ Plain ∷ []) (λ a. set_range_of a.0 a.1.0 a.1.1.0) (drop 1 c.args.request.now)) c.set_range.result c.set_range.ensures)

pub returns-in-DecrBy : goal.returns-in-DecrBy
returns-in-DecrBy c = rw c.in-DecrBy.is (lifted Strings (fixed (Plain ∷ Whole ∷ []) (λ a. decrease_of a.0 a.1.0) (drop 1 c.args.request.now)) c.decrease.result c.decrease.ensures)
