-- Payloads, read out of their strings and put in.
use Rattle.std.proofs.Common.{◌≡◌, inl, ℕ, ◌+◌, ◌-◌, ◌<◌, ◌≤◌, true, false, not, List, [], ◌∷◌, ◌++◌, length, map, drop, get_or, Result, Ok, Err, refl, sym, ap, subst, ◌∙◌, arith}
use Rattle.std.specs.Prelude.{ℤ, is_none, is_some}
use Rattle.std.proofs.lemmas.List.{append_assoc, append-nil, drop_more, drop_all, length-drop}
use Rattle.std.specs.FinMap.{get, insert}
use Rattle.int_text.specs.Decimal.{canonical}
use Rattle.intset.specs.declared.ints.IntsetFault.{IntsetFault}
use Rattle.intset.specs.declared.ints.IntsetFault.TheVariants.{Width, Length, Order}
use Rattle.intset.specs.Intset.{IsIntset, HasFault, numbers_of}
use Rattle.listpack.specs.declared.fault.PackFault.{PackFault}
use Rattle.listpack.specs.Pack.{IsPack, IsFault, texts}
use Rattle.listpack.proofs.Laws.{exactly_one}
use Rattle.plain_world.specs.Worlds.{Value, ListOf, SetOf, HashOf, SortedOf}
use Rattle.rdb_grammar.specs.declared.fault.LoadKind.{LoadKind}
use Rattle.rdb_grammar.specs.declared.fault.LoadKind.TheVariants as kinds
use Rattle.rdb_grammar.specs.declared.values.Packed.{Packed}
use Rattle.rdb_grammar.specs.declared.values.Packed.TheVariants as packs
use Rattle.rdb_grammar.specs.declared.values.Layout.TheVariants as layouts
use Rattle.rdb_grammar.specs.Layouts.{started, held}
use Rattle.keyspace.specs.declared.value.Value.{Value as Code}
use Rattle.keyspace.specs.declared.value.Value.TheVariants as codes
use Rattle.rdb_reader.specs.Forms.{IsOf, Suits}
use Rattle.rdb_grammar.specs.Elements.{Map}
use Rattle.rdb_grammar.specs.Format.{next_found, Payload, inside}
use Rattle.rdb_grammar.specs.Payloads.{Pair, paired, Scored, scored, all_in, with_text, with_pair, with_scored, texts_on, numbers_on, pairs_on, scores_on}
use Rattle.rdb_grammar.specs.Places.{Stands, Fails}
use Rattle.rdb_grammar.specs.Strings.{string}
use Rattle.rdb_grammar.proofs.Exactly.{Exact}
use Rattle.rdb_grammar.proofs.PackedExact.{texts_in_decided, numbers_in_decided}
use Rattle.rdb_grammar.proofs.StringsExact.{string_exact}
use Rattle.rdb_grammar.proofs.Standing.{reads}
use Rattle.rdb_grammar.proofs.Partly.{stands_read, fails_read}
use Rattle.rdb_reader.specs.Building.{Makes, Reads}
use Rattle.rdb_reader.specs.declared.fault.LoadFault.{LoadFault}
use Rattle.rdb_reader.specs.declared.fault.LoadFault.TheVariants as loads
use Rattle.rdb_reader.proofs.Elements.{none_not}

-- ---- one text

-- a text that wasn't a member
pub joins : (old new : Map (Unit {0})) (text : List ℕ) → true ≡ not (is_some (get old text)) → new ≡ insert old text tt → with_text (SetOf old) text ≡ Ok (SetOf new)
joins old new text fresh is =
    let h : is_none (get old text) ≡ true = none_not _ true fresh in
    let made : with_text (SetOf old) text ≡ Ok (SetOf (insert old text tt)) = rw h refl in
    made ∙ ap (λ (m : Map (Unit {0})). Ok (SetOf m)) (sym is)

-- one that was
pub joins_twice : (old : Map (Unit {0})) (text : List ℕ) → false ≡ not (is_some (get old text)) → with_text (SetOf old) text ≡ Err kinds.DuplicateElement
joins_twice old text there = let h : is_none (get old text) ≡ false = none_not _ false there in rw h refl

-- a text behind those of a list
pub list_more : (old new : List (List ℕ)) (text : List ℕ) → new ≡ old ++ text ∷ [] → with_text (ListOf old) text ≡ Ok (ListOf new)
list_more old new text is = ap (λ (xs : List (List ℕ)). Ok (ListOf xs)) (sym is)

-- texts behind those of a list
pub list_all : (xs ys new : List (List ℕ)) → new ≡ xs ++ ys → all_in with_text (ListOf xs) ys ≡ Ok (ListOf new)
list_all xs [] new is = ap (λ (zs : List (List ℕ)). Ok (ListOf zs)) (sym (is ∙ append-nil xs))
list_all xs (y ∷ ys) new is = list_all (xs ++ y ∷ []) ys new (is ∙ sym (append_assoc xs (y ∷ []) ys))

-- a field that wasn't there, and one that was
pub field_joins : (old new : Map (List ℕ)) (p : Pair) → true ≡ not (is_some (get old (p.0))) → new ≡ insert old (p.0) (p.1) → with_pair (HashOf old) p ≡ Ok (HashOf new)
field_joins old new p fresh is =
    let h : is_none (get old (p.0)) ≡ true = none_not _ true fresh in
    let made : with_pair (HashOf old) p ≡ Ok (HashOf (insert old (p.0) (p.1))) = rw h refl in
    made ∙ ap (λ (m : Map (List ℕ)). Ok (HashOf m)) (sym is)

pub field_joins_twice : (old : Map (List ℕ)) (p : Pair) → false ≡ not (is_some (get old (p.0))) → with_pair (HashOf old) p ≡ Err kinds.DuplicateElement
field_joins_twice old p there = let h : is_none (get old (p.0)) ≡ false = none_not _ false there in rw h refl

-- a member with its score, that wasn't there, and that was
pub score_joins : (old new : Map ℤ) (p : Scored) → true ≡ not (is_some (get old (p.0))) → new ≡ insert old (p.0) (p.1) → with_scored (SortedOf old) p ≡ Ok (SortedOf new)
score_joins old new p fresh is =
    let h : is_none (get old (p.0)) ≡ true = none_not _ true fresh in
    let made : with_scored (SortedOf old) p ≡ Ok (SortedOf (insert old (p.0) (p.1))) = rw h refl in
    made ∙ ap (λ (m : Map ℤ). Ok (SortedOf m)) (sym is)

pub score_joins_twice : (old : Map ℤ) (p : Scored) → false ≡ not (is_some (get old (p.0))) → with_scored (SortedOf old) p ≡ Err kinds.DuplicateElement
score_joins_twice old p there = let h : is_none (get old (p.0)) ≡ false = none_not _ false there in rw h refl

-- ---- all of a list

-- the first k of a list were put in, which made a value
abbrev pub PutSoFar : {E : Type 0} → (Value → E → Result Value LoadKind) → Value → List E → ℕ → Value → Type 0
PutSoFar one first xs k made = all_in one first xs ≡ all_in one made (drop k xs)

-- one more is put in
pub put_one : {E : Type 0} (one : Value → E → Result Value LoadKind) (first : Value) (xs : List E) (k : ℕ) (d : E) (made more : Value) → k < length xs → PutSoFar one first xs k made
    → one made (get_or xs k d) ≡ Ok more → PutSoFar one first xs (k + 1) more
put_one {E = E} one first xs k d made more inside h e =
    let step : all_in one made (get_or xs k d ∷ drop (k + 1) xs) ≡ all_in one more (drop (k + 1) xs) =
    ap (λ (q : Result Value LoadKind). next_found q (λ (z : Value). all_in one z (drop (k + 1) xs))) e in
    h ∙ ap (λ (ys : List E). all_in one made ys) (drop_more xs k d inside) ∙ step

-- the fault of one is that of all
pub put_breaks : {E : Type 0} (one : Value → E → Result Value LoadKind) (first : Value) (xs : List E) (k : ℕ) (d : E) (made : Value) (kind : LoadKind) → k < length xs
    → PutSoFar one first xs k made → one made (get_or xs k d) ≡ Err kind → all_in one first xs ≡ Err kind
put_breaks {E = E} one first xs k d made kind inside h e =
    let step : all_in one made (get_or xs k d ∷ drop (k + 1) xs) ≡ Err kind = ap (λ (q : Result Value LoadKind). next_found q (λ (z : Value). all_in one z (drop (k + 1) xs))) e in
    h ∙ ap (λ (ys : List E). all_in one made ys) (drop_more xs k d inside) ∙ step

-- all are put in
pub put_all : {E : Type 0} (one : Value → E → Result Value LoadKind) (first : Value) (xs : List E) (k : ℕ) (made : Value) → length xs ≤ k → PutSoFar one first xs k made → all_in one first xs ≡ Ok made
put_all {E = E} one first xs k made over h = h ∙ ap (λ (ys : List E). all_in one made ys) (drop_all k xs over)

-- what became of one fault becomes of all
pub breaks_on : {E : Type 0} (one : Value → E → Result Value LoadKind) (first : Value) (xs : List E) (k : ℕ) (d x : E) (made old new : Value) (at : ℕ) → k < length xs → x ≡ get_or xs k d
    → PutSoFar one first xs k made → (fault : LoadFault) → Makes (one made x) at old (Err fault) → Makes (all_in one first xs) at new (Err fault)
breaks_on {E = E} one first xs k d x made old new at inside is h (loads.Refused what place) f = (put_breaks one first xs k d made what inside h (ap (λ (y : E). one made y) (sym is) ∙ f.0), f.1)
breaks_on one first xs k d x made old new at inside is h loads.Host f = f
breaks_on one first xs k d x made old new at inside is h loads.Limit f = f
breaks_on one first xs k d x made old new at inside is h loads.Memory f = f

-- ---- payloads

pub makes_as : (told other : Result Value LoadKind) (at : ℕ) (new : Value) (result : Result (Unit {0}) LoadFault) → told ≡ other → Makes other at new result → Makes told at new result
makes_as told other at new result e h = subst (λ (q : Result Value LoadKind). Makes q at new result) (sym e) h

-- bytes with a fault are no intset
no_intset : (bytes : List ℕ) (fault : IntsetFault) → HasFault bytes fault → IsIntset bytes (numbers_of bytes) → ⊥
no_intset bytes Width f i = f i.width
no_intset bytes Length f i = f.1 i.length
no_intset bytes Order f i = f.2 i.rising

pub numbers_made : (bytes : List ℕ) (made : Value) → IsIntset bytes (numbers_of bytes) → (numbers_on made).found bytes ≡ all_in with_text made (map canonical (numbers_of bytes))
numbers_made bytes made i =
    ap (λ (q : Result (List (List ℕ)) LoadKind). next_found q (all_in with_text made)) (numbers_in_decided.again bytes (map canonical (numbers_of bytes)) (i, refl))

pub no_numbers : (bytes : List ℕ) (made : Value) (fault : IntsetFault) → HasFault bytes fault → (numbers_on made).found bytes ≡ Err kinds.Intset
no_numbers bytes made fault f =
    ap (λ (q : Result (List (List ℕ)) LoadKind). next_found q (all_in with_text made)) (numbers_in_decided.first bytes kinds.Intset (no_intset bytes fault f, refl))

pub texts_made : (bytes : List ℕ) (made : Value) → IsPack bytes → (texts_on made).found bytes ≡ all_in with_text made (texts bytes)
texts_made bytes made p =
    ap (λ (q : Result (List (List ℕ)) LoadKind). next_found q (all_in with_text made)) (texts_in_decided.again bytes (texts bytes) ((exactly_one bytes).whole p))

pub no_texts : (bytes : List ℕ) (made : Value) (fault : PackFault) → IsFault bytes fault → (texts_on made).found bytes ≡ Err kinds.Listpack
no_texts bytes made fault f =
    ap (λ (q : Result (List (List ℕ)) LoadKind). next_found q (all_in with_text made)) (texts_in_decided.first bytes kinds.Listpack ((fault, f), refl))

-- a listpack's texts two by two
pub pairs_made : (bytes : List ℕ) (made : Value) → IsPack bytes → (pairs_on made).found bytes ≡ next_found (paired (texts bytes)) (all_in with_pair made)
pairs_made bytes made p =
    ap (λ (q : Result (List (List ℕ)) LoadKind). next_found (next_found q paired) (all_in with_pair made)) (texts_in_decided.again bytes (texts bytes) ((exactly_one bytes).whole p))

pub no_pairs : (bytes : List ℕ) (made : Value) (fault : PackFault) → IsFault bytes fault → (pairs_on made).found bytes ≡ Err kinds.Listpack
no_pairs bytes made fault f =
    ap (λ (q : Result (List (List ℕ)) LoadKind). next_found (next_found q paired) (all_in with_pair made)) (texts_in_decided.first bytes kinds.Listpack ((fault, f), refl))

pub scores_made : (bytes : List ℕ) (made : Value) → IsPack bytes → (scores_on made).found bytes ≡ next_found (next_found (paired (texts bytes)) scored) (all_in with_scored made)
scores_made bytes made p =
    ap (λ (q : Result (List (List ℕ)) LoadKind). next_found (next_found (next_found q paired) scored) (all_in with_scored made))
    (texts_in_decided.again bytes (texts bytes) ((exactly_one bytes).whole p))

pub no_scores : (bytes : List ℕ) (made : Value) (fault : PackFault) → IsFault bytes fault → (scores_on made).found bytes ≡ Err kinds.Listpack
no_scores bytes made fault f =
    ap (λ (q : Result (List (List ℕ)) LoadKind). next_found (next_found (next_found q paired) scored) (all_in with_scored made)) (texts_in_decided.first bytes kinds.Listpack ((fault, f), refl))

-- the fault of what holds members of a set
pub no_intset_makes : (packed : Packed) (bytes : List ℕ) (made new : Value) (at : ℕ) (fault : IntsetFault) (load : LoadFault) → packed ≡ packs.Numbers
    → load ≡ loads.Refused kinds.Intset at → HasFault bytes fault → Makes ((held packed made).found bytes) at new (Err load)
no_intset_makes packed bytes made new at fault load e f h =
    subst (λ (p : Packed). Makes ((held p made).found bytes) at new (Err load)) (sym e)
    (subst (λ (l : LoadFault). Makes ((numbers_on made).found bytes) at new (Err l)) (sym f) (no_numbers bytes made fault h, refl))

pub no_pack_makes : (packed : Packed) (bytes : List ℕ) (made new : Value) (at : ℕ) (fault : PackFault) (load : LoadFault) → packed ≡ packs.Texts → load ≡ loads.Refused kinds.Listpack at
    → IsFault bytes fault → Makes ((held packed made).found bytes) at new (Err load)
no_pack_makes packed bytes made new at fault load e f h =
    subst (λ (p : Packed). Makes ((held p made).found bytes) at new (Err load)) (sym e)
    (subst (λ (l : LoadFault). Makes ((texts_on made).found bytes) at new (Err l)) (sym f) (no_texts bytes made fault h, refl))

-- what suits a collection that is laid out
pub suits : (packed : Packed) (value : Code) → IsOf (started (layouts.Packed packed)) value → Suits value packed
suits packs.Numbers (codes.Set members) h = tt
suits packs.Numbers other h = absurd h
suits packs.Texts (codes.Set members) h = tt
suits packs.Texts other h = absurd h
suits packs.Pairs (codes.Hash fields) h = refl
suits packs.Pairs other h = absurd h
suits packs.Scores (codes.Zset scored) h = refl
suits packs.Scores other h = absurd h

-- ---- in their strings

module _ (bytes : List ℕ) (at : ℕ) (payload : Payload (List ℕ) Value) (exact : Exact (inside string payload)) where
  -- the fault of the string
  pub string_fails : (which : LoadKind) (place : ℕ) → Fails string bytes at which place → Fails (inside string payload) bytes at which place
  string_fails which place f = record { onward = f.onward; inside = f.inside; faulty = inl f.faulty }

  module _ (next : ℕ) (text : List ℕ) (s : Stands string text bytes at next) where
    within : at ≤ length bytes
    within = let first : at ≤ next = s.onward in let second : next ≤ length bytes = s.inside in omega (arith, first, second)

    read : string.read (drop at bytes) ≡ Ok (text, drop next bytes)
    read = reads string string_exact text bytes at next s

    pub payload_stands : (new : Value) → payload.found text ≡ Ok new → Stands (inside string payload) new bytes at next
    payload_stands new h =
        let whole : (inside string payload).read (drop at bytes) ≡ Ok (new, drop next bytes) = rw (read, h) refl in
        stands_read (inside string payload) exact bytes at next new within s.inside whole

    -- the fault of the payload stands at the string's first byte
    payload_fails : (kind : LoadKind) → payload.found text ≡ Err kind → Fails (inside string payload) bytes at kind at
    payload_fails kind h =
        let whole : (inside string payload).read (drop at bytes) ≡ Err (kind, length (drop at bytes)) = rw (read, h) refl in
        fails_read (inside string payload) exact bytes at kind at within within (whole ∙ ap (λ (n : ℕ). Err (kind, n)) (length-drop at bytes))

    pub payload_broken : (new : Value) (fault : LoadFault) → Makes (payload.found text) at new (Err fault) → Reads (inside string payload) bytes at new (Err fault)
    payload_broken new (loads.Refused what place) f = subst (λ (n : ℕ). Fails (inside string payload) bytes at what n) (sym f.1) (payload_fails what f.0)
    payload_broken new loads.Host f = f
    payload_broken new loads.Limit f = f
    payload_broken new loads.Memory f = f
