-- Parts of the list of a sorted set that were taken off.
use Rattle.std.proofs.Common.{◌≡◌, ◌+◌, ◌≤◌, ℕ, min, List, length, take, drop, Result, Ok, Err, OnOk, Option, Some, true, sym, ap, ◌∙◌, arith}
use Rattle.std.proofs.lemmas.List.{length-reverse, length-drop, length-take-le, take_min}
use Rattle.object_codec.specs.declared.form.Form.{Form}
use Rattle.plain_world.specs.declared.reply.Part.{Part}
use Rattle.plain_model.specs.ZsetSteps.{Scores, Scored, met, ranked, listed, members_of, without_members}
use Rattle.plain_model.specs.declared.zset_command.Direction.{Direction}
use Rattle.plain_model.specs.declared.zset_command.Direction.TheVariants.{Rising, Falling}
use Rattle.cmd_zsets.specs.Popped.{PopsMany, DropsPart}

met_length : (from : Direction) (list : List Scored) → length (met from list) ≡ length list
met_length Rising list = λ i. length list
met_length Falling list = length-reverse list

-- so many at most of those that are met
few_met : (from : Direction) (list : List Scored) (count most : ℕ) → count ≡ min (length list) most → take count (drop 0 (met from list)) ≡ take most (met from list)
few_met from list count most is =
    let few : count ≡ min most (length (met from list)) = omega (arith, is, met_length from list) in
    ap (λ n. take n (met from list)) few ∙ take_min most (met from list)

module _ {E : Type 0} (old new : Scores) (was form : Form) (kept : List Scored) (same : kept ≡ ranked old) (form_is : form ≡ was) where
  pub many_popped : (from : Direction) (count most : ℕ) (told : Option (List Part)) (reply : List Part) → count ≡ min (length kept) most → told ≡ Some reply
      → reply ≡ listed true (take count (drop 0 (met from (ranked old))))
      → (result : Result (Unit {0}) E) → OnOk result (new ≡ without_members old (members_of (take count (drop 0 (met from kept))))) → OnOk result (PopsMany from most told old was new form)
  many_popped from count most told reply few is lists (Err e) gone = tt
  many_popped from count most told reply few is lists (Ok u) gone =
      let met_few = few_met from (ranked old) count most (few ∙ ap (λ l. min (length l) most) same) in
      record {
        told_is = is ∙ ap Some (lists ∙ ap (listed true) met_few);
        is = gone ∙ ap (λ l. without_members old (members_of (take count (drop 0 (met from l))))) same ∙ ap (λ l. without_members old (members_of l)) met_few;
        form_is = form_is;
      }

  pub part_gone : (part : List Scored → List Scored) (from : Direction) (start count gone : ℕ) → gone ≡ count → count ≡ length (part (ranked old))
      → take count (drop start (met from (ranked old))) ≡ part (ranked old)
      → (result : Result (Unit {0}) E) → OnOk result (new ≡ without_members old (members_of (take count (drop start (met from kept))))) → OnOk result (DropsPart part gone old was new form)
  part_gone part from start count gone counts counted is (Err e) left = tt
  part_gone part from start count gone counts counted is (Ok u) left = record {
    is = left ∙ ap (λ l. without_members old (members_of (take count (drop start (met from l))))) same ∙ ap (λ l. without_members old (members_of l)) is;
    counted = counts ∙ counted;
    form_is = form_is;
  }

-- a span is as long as it says
pub span_length : (from : Direction) (list part : List Scored) (start count : ℕ) → start + count ≤ length list → take count (drop start (met from list)) ≡ part → count ≡ length part
span_length from list part start count inside is =
    let long = met_length from list in
    let left = length-drop start (met from list) in
    omega (arith, length-take-le count (drop start (met from list)) (omega (arith, inside, long, left)), ap length is)
