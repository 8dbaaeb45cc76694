-- What was put is taken back.
use Rattle.std.proofs.Common.{◌≡◌, ℕ, ◌+◌, ◌<◌, true, cond, List, [], ◌∷◌, ◌++◌, take, drop, length, get_or, add-one, append_assoc, Option, Some, None, is_some, inl, inr, refl, sym, ap, ◌∙◌, arith}
use Rattle.std.proofs.lemmas.Bool.{cond-true, cond-false, cases_Bool}
use Rattle.std.specs.Ordering.{eq_by_cmp}
use Rattle.std.specs.FinMap as map
use Rattle.std.specs.Option.{option_map}
use Rattle.std.proofs.Math.Seq.{take-suc}
use Rattle.std.proofs.lemmas.List.{length-take-le, length-map, map-append, drop_more}
use Rattle.stream_groups.specs.declared.entries.Handed.{Handed}
use Rattle.stream_groups.specs.Groups.{Id, Pending, Pendings, id_cmp, placed}
use Rattle.stream_groups.specs.Index.{were}
use Rattle.stream_groups.specs.Kept.{restored, undone, logged, pending_of}
use Rattle.stream_groups.proofs.Maps.{equal}
use Rattle.stream_groups.proofs.Orders.{id_total, id_same}
use Rattle.std.specs.Cmp.{tied_itself}
use Rattle.std.specs.Ordering.{is_eq}

same_pending : (p q : Pendings) → ((id : Id) → map.get p id ≡ map.get q id) → p ≡ q
same_pending = map.same_map id_total id_same

-- What was put in the place of nothing is removed.
remove-insert : (p : Pendings) (id : Id) (e : Pending) → map.get p id ≡ None → map.remove (map.insert p id e) id ≡ p
remove-insert p id e none = same_pending _ _
    (λ q. map.get-remove id_total (map.insert p id e) id q ∙ ap (cond (eq_by_cmp id_cmp q id) None) (map.get-insert id_total p id e q) ∙ elim (cases_Bool (eq_by_cmp id_cmp q id)) [
      | inl same ↦ cond-true _ _ _ same ∙ sym none ∙ ap (map.get p) (sym (id_same q id (equal _ same)))
      | inr other ↦ cond-false _ _ _ other ∙ cond-false _ _ _ other
    ])

-- What was put in the place of an entry is put back.
insert_insert : (p : Pendings) (id : Id) (e f : Pending) → map.get p id ≡ Some f → map.insert (map.insert p id e) id f ≡ p
insert_insert p id e f was = same_pending _ _
    (λ q. map.get-insert id_total (map.insert p id e) id f q ∙ ap (cond (eq_by_cmp id_cmp q id) (Some f)) (map.get-insert id_total p id e q) ∙ elim (cases_Bool (eq_by_cmp id_cmp q id)) [
      | inl same ↦ cond-true _ _ _ same ∙ sym was ∙ ap (map.get p) (sym (id_same q id (equal _ same)))
      | inr other ↦ cond-false _ _ _ other ∙ cond-false _ _ _ other
    ])

-- What was put is pending.
pub put_there_in_grouped : (p : Pendings) (id : Id) (e : Pending) → map.contains_key (map.insert p id e) id ≡ true
put_there_in_grouped p id e = ap is_some (map.get-insert id_total p id e id ∙ cond-true _ _ _ (ap is_eq (tied_itself id_total id)))

-- To put back what an id was takes back what was put.
pub restored_put : (p : Pendings) (id : Id) (e : Pending) (was : Option Pending) → was ≡ map.get p id → restored (map.insert p id e) id was ≡ p
restored_put p id e None is = remove-insert p id e (sym is)
restored_put p id e (Some f) is = cond-true _ _ _ (put_there_in_grouped p id e) ∙ insert_insert p id e f (sym is)

-- The last of the ids is put back first.
pub undone_push : (p : Pendings) (ids : List Id) (id : Id) (log : List (Option Pending)) (was : Option Pending) → length ids ≡ length log
    → undone p (ids ++ id ∷ []) (log ++ was ∷ []) ≡ undone (restored p id was) ids log
undone_push p [] id [] was same = refl
undone_push p [] id (w ∷ log) was same = absurd (omega arith)
undone_push p (x ∷ ids) id [] was same = absurd (omega arith)
undone_push p (x ∷ ids) id (w ∷ log) was same = ap (λ q. restored q x w) (undone_push p ids id log was (omega arith))

more_of : (ids : List Id) (n : ℕ) (d : Id) → n < length ids → take (n + 1) ids ≡ take n ids ++ get_or ids n d ∷ []
more_of ids n d within = ap (λ k. take k ids) (add-one n) ∙ take-suc ids n d within

more_log : (ws : List (Option Handed)) (was : Option Handed) → logged (ws ++ was ∷ []) ≡ logged ws ++ option_map pending_of was ∷ []
more_log ws was = map-append (option_map pending_of) ws (was ∷ [])

-- The last entry of a log is put back.
pub undo_step : (p : Pendings) (ids : List Id) (ws : List (Option Handed)) (was : Option Handed) (d : Id) → length ws < length ids
    → undone p (take (length ws + 1) ids) (logged (ws ++ was ∷ [])) ≡ undone (restored p (get_or ids (length ws) d) (option_map pending_of was)) (take (length ws) ids) (logged ws)
undo_step p ids ws was d within =
    ap (λ xs. undone p xs (logged (ws ++ was ∷ []))) (more_of ids (length ws) d within)
    ∙ ap (undone p (take (length ws) ids ++ get_or ids (length ws) d ∷ [])) (more_log ws was)
    ∙ undone_push p (take (length ws) ids) (get_or ids (length ws) d) (logged ws) (option_map pending_of was)
    (length-take-le (length ws) ids (omega arith) ∙ sym (length-map ws (option_map pending_of)))

-- One more id is put, and its log grows.
pub put_step : (p : Pendings) (ids : List Id) (ws : List (Option Handed)) (was : Option Handed) (d : Id) (e : Pending) → length ws < length ids
    → option_map pending_of was ≡ map.get p (get_or ids (length ws) d)
    → undone (map.insert p (get_or ids (length ws) d) e) (take (length ws + 1) ids) (logged (ws ++ was ∷ [])) ≡ undone p (take (length ws) ids) (logged ws)
put_step p ids ws was d e within is =
    undo_step (map.insert p (get_or ids (length ws) d) e) ids ws was d within
    ∙ ap (λ q. undone q (take (length ws) ids) (logged ws)) (restored_put p (get_or ids (length ws) d) e (option_map pending_of was) is)

-- What is left to be put, behind one more.
pub placed_step : (p : Pendings) (ids : List Id) (n : ℕ) (d : Id) (e : Pending) → n < length ids → placed (map.insert p (get_or ids n d) e) (drop (n + 1) ids) e ≡ placed p (drop n ids) e
placed_step p ids n d e within = sym (ap (λ xs. placed p xs e) (drop_more ids n d within))

-- What one more id was is logged.
pub were_step : (p : Pendings) (ids : List Id) (n : ℕ) (d : Id) (e : Pending) (ws after : List (Option Handed)) (was : Option Handed) → n < length ids → after ≡ ws ++ was ∷ []
    → option_map pending_of was ≡ map.get p (get_or ids n d)
    → logged after ++ were (map.insert p (get_or ids n d) e) (drop (n + 1) ids) e ≡ logged ws ++ were p (drop n ids) e
were_step p ids n d e ws after was within items is =
    let left = were (map.insert p (get_or ids n d) e) (drop (n + 1) ids) e in
    ap (λ xs. logged xs ++ left) items ∙ ap (λ xs. xs ++ left) (more_log ws was) ∙ append_assoc (logged ws) (option_map pending_of was ∷ []) left
    ∙ ap (λ w. logged ws ++ w ∷ left) is ∙ sym (ap (λ xs. logged ws ++ were p xs e) (drop_more ids n d within))
