-- The greatest id of live entries, where those of a node follow others.
use Rattle.std.proofs.Common.{◌≡◌, inl, inr, ◌∙◌, ◌<◌, Bool, true, false, List, [], ◌∷◌, ◌++◌, refl, sym, ap, subst, arith, append_assoc}
use Rattle.std.specs.Prelude.{Option, Some, None, not, ◌&&◌}
use Rattle.std.specs.List.{AllByRecursion}
use Rattle.std.specs.Ordering.{is_lt}
use Rattle.std.proofs.lemmas.Bool.{cases_lt, cond-true, cond-false}
use Rattle.std.proofs.lemmas.List.{append-nil}
use Rattle.std.proofs.lemmas.List.Folds.{list_all-append}
use Rattle.stream_groups.specs.Groups.{Id as Pair, id_cmp}
use Rattle.stream_node.specs.declared.id.Id.{Id}
use Rattle.stream_node.specs.Entry.{Stored, IsBelow}
use Rattle.stream_node.specs.Ids.{IsId, id_number}
use Rattle.stream_node.proofs.Ids.{id_laws}
use Rattle.plain_world.specs.Streams.{StreamEntry}
use Rattle.stream_object.specs.Parts.{plain, live_of}
use Rattle.stream_object.proofs.Losing.{Sorted}
use Rattle.rdb_grammar.specs.StreamParts.{is_upto, is_from}
use Rattle.rdb_grammar.specs.Views.{pair_of}
use Rattle.rdb_streams.specs.declared.nodes.Seen.{Seen}
use Rattle.rdb_streams.specs.Reading.{IsGreatest}
use Rattle.rdb_streams.specs.Seeing.{seen_more, seen_behind}
use Rattle.rdb_streams.proofs.Ordered.{From, below_or_not, live_kept, live_left, lt_below, lt_upto}

-- what is below a third id, which a second one isn't below, is below the second
below_from : (a b c : Id) → IsBelow a c → (IsBelow b c → ⊥) → IsBelow a b
below_from a b c is none = elim (cases_lt a.ms b.ms) [
  | inl less ↦ inl less
  | inr upto ↦ elim is [
    | inl l ↦ absurd (none (inl (omega (arith, l, upto))))
    | inr s ↦ elim (cases_lt b.ms c.ms) [
      | inl l ↦ absurd (none (inl l))
      | inr from ↦ elim (cases_lt a.seq b.seq) [
        | inl q ↦ inr (omega (arith, s.0, upto, from), q)
        | inr back ↦ absurd (none (inr (omega (arith, s.0, upto, from), omega (arith, s.1, back))))
      ]
    ]
  ]
]

and_false : (b : Bool) → (b && false) ≡ false
and_false true = refl
and_false false = refl

and_true : (b : Bool) → (b && true) ≡ b
and_true true = refl
and_true false = refl

-- an id that isn't below one from the greatest on isn't below the greatest
both_from : (greatest : Option Id) (id : Id) → From greatest id → (last : Id)
    → (is_from greatest (pair_of last) && not (is_lt (id_cmp (pair_of last) (pair_of id)))) ≡ not (is_lt (id_cmp (pair_of last) (pair_of id)))
both_from None id p last = refl
both_from (Some g) id p last = elim (below_or_not last id) [
  | inl below ↦
      let e : not (is_lt (id_cmp (pair_of last) (pair_of id))) ≡ false = ap not (lt_below last id below) in
      ap (λ (b : Bool). is_from (Some g) (pair_of last) && b) e ∙ and_false (is_from (Some g) (pair_of last)) ∙ sym e
  | inr from ↦
      let e : is_from (Some g) (pair_of last) ≡ true = ap not (lt_upto last g (λ h. from (below_from last id g h p))) in
      ap (λ (b : Bool). b && not (is_lt (id_cmp (pair_of last) (pair_of id)))) e
]

abbrev as_id : Pair → Id
as_id id = record { ms = id.0; seq = id.1 }

-- one entry more
one_greatest : (entries : List StreamEntry) (greatest : Option Id) (e : Stored) → IsGreatest entries greatest → From greatest e.id → IsGreatest (entries ++ plain e ∷ []) (Some e.id)
one_greatest entries greatest e h p last =
    list_all-append (λ (x : StreamEntry). not (is_lt (id_cmp last x.id))) entries (plain e ∷ [])
    ∙ ap (λ (b : Bool). is_upto entries last && b) (and_true (not (is_lt (id_cmp last (pair_of e.id)))))
    ∙ ap (λ (b : Bool). b && not (is_lt (id_cmp last (pair_of e.id)))) (h last)
    ∙ both_from greatest e.id p (as_id last)

-- ids that rise from one on
rises_from : (id : Id) → IsId id → (es : List Stored) → AllByRecursion (λ f. id_number id < id_number f.id) es → AllByRecursion (λ f. IsId f.id) es → AllByRecursion (λ f. From (Some id) f.id) es
rises_from id fits [] rise ids = tt
rises_from id fits (f ∷ es) rise ids = ((λ is. (let less : id_number f.id < id_number id = (id_laws.below f.id id ids.0 fits).0 is in omega (arith, less, rise.0))), rises_from id fits es rise.1 ids.1)

abbrev Goes : List StreamEntry → Seen → List Stored → Type 0
Goes entries seen es = IsGreatest entries seen.greatest → AllByRecursion (λ e. From seen.greatest e.id) es → IsGreatest (entries ++ live_of es) (seen_behind seen es).greatest

-- one entry and those behind it
one_goes : (e : Stored) (es : List Stored) → AllByRecursion (λ f. From (Some e.id) f.id) es → ((xs : List StreamEntry) (s : Seen) → Goes xs s es)
    → (entries : List StreamEntry) (seen : Seen) (b : Bool) → e.deleted ≡ b → Goes entries seen (e ∷ es)
one_goes e es rise goes entries seen true is h from =
    let more : Seen = seen_more seen e in
    let same : more.greatest ≡ seen.greatest = cond-true e.deleted seen.greatest (Some e.id) is in
    subst (λ (xs : List StreamEntry). IsGreatest (entries ++ xs) (seen_behind more es).greatest) (sym (live_left e es is))
    (goes entries more (subst (IsGreatest entries) (sym same) h) (subst (λ (o : Option Id). AllByRecursion (λ f. From o f.id) es) (sym same) from.1))
one_goes e es rise goes entries seen false is h from =
    let more : Seen = seen_more seen e in
    let same : more.greatest ≡ Some e.id = cond-false e.deleted seen.greatest (Some e.id) is in
    let all : (entries ++ plain e ∷ []) ++ live_of es ≡ entries ++ live_of (e ∷ es) =
    append_assoc entries (plain e ∷ []) (live_of es) ∙ ap (λ (xs : List StreamEntry). entries ++ xs) (sym (live_kept e es is)) in
    subst (λ (xs : List StreamEntry). IsGreatest xs (seen_behind more es).greatest) all
    (goes (entries ++ plain e ∷ []) more (subst (IsGreatest (entries ++ plain e ∷ [])) (sym same) (one_greatest entries seen.greatest e h from.0))
    (subst (λ (o : Option Id). AllByRecursion (λ f. From o f.id) es) (sym same) rise))

-- all entries of a node, whose ids rise
pub more_greatest : (es : List Stored) → Sorted es → AllByRecursion (λ e. IsId e.id) es → (entries : List StreamEntry) (seen : Seen) → Goes entries seen es
more_greatest [] sorted ids entries seen h from = subst (λ (xs : List StreamEntry). IsGreatest xs seen.greatest) (sym (append-nil entries)) h
more_greatest (e ∷ es) sorted ids entries seen h from =
    one_goes e es (rises_from e.id ids.0 es sorted.0 ids.1) (more_greatest es sorted.1 ids.1) entries seen e.deleted refl h from
