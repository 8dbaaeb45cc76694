-- What is pending in a group is spelled, and then whose it is.
use Rattle.std.proofs.Common.{◌≡◌, ℕ, Bool, true, not, List, [], ◌∷◌, ◌++◌, length, map, Option, Some, None, refl, sym, ap, ◌∙◌}
use Rattle.std.specs.Prelude.{T, is_none, flat_map}
use Rattle.std.specs.List.{AllByRecursion}
use Rattle.std.specs.Option.{option_map}
use Rattle.std.specs.FinMap.{get, insert, is_sorted}
use Rattle.std.proofs.lemmas.List.{append-nil}
use Rattle.stream_groups.specs.Groups.{Id, Pending, Pendings, id_cmp}
use Rattle.stream_groups.proofs.Maps.{first, second}
use Rattle.stream_groups.proofs.Orders.{id_total, id_same}
use Rattle.rdb_grammar.specs.Format.{in_turn}
use Rattle.rdb_grammar.specs.StreamParts.{Begun, handed, with_unclaimed, claimed, with_claim}
use Rattle.rdb_parts.specs.Words.{length_word}
use Rattle.rdb_parts.proofs.Spelled.{length_spelled}
use Rattle.rdb_stream_writer.specs.Ids.{id_word}
use Rattle.rdb_stream_writer.specs.Consumers.{moment_word}
use Rattle.rdb_stream_writer.specs.Groups.{pending_word, IsStoredEntry}
use Rattle.rdb_stream_writer.proofs.Maps.{taking, taking_all, AreFree, still_free, Shows, shows_more, shows_less, not_there, is_there}
use Rattle.rdb_stream_writer.proofs.SpelledParts.{low_number_spelled, id_spelled, turns_none, turns_more}

-- when an entry was handed out, and how often
abbrev pub handed_of : Pending → ℕ × ℕ
handed_of p = (p.moment, p.count)

abbrev pub handed_in : Pendings → Id → Option (ℕ × ℕ)
handed_in pending id = option_map handed_of (get pending id)

abbrev pub ids_in : List (Id × Pending) → List Id
ids_in es = map (λ e. e.0) es

-- the entries are of the map
abbrev pub AreOf : Pendings → List (Id × Pending) → Type 0
AreOf pending es = AllByRecursion (λ e. get pending (e.0) ≡ Some (e.1)) es

no_none : {A : Type 0} (o : Option A) → o ≡ None → is_none o ≡ true
no_none o is = ap is_none is

some_there : {A : Type 0} (o : Option A) (x : A) → o ≡ Some x → not (is_none o) ≡ true
some_there o x is = ap (λ p. not (is_none p)) is

-- ---- entries that are pending for none yet

handed_spelled : (e : Id × Pending) → IsStoredEntry e → handed.Spells (handed_of (e.1)) (moment_word e.1.moment ++ length_word e.1.count)
handed_spelled e fits =
    let count = length_word e.1.count in (
      e.1.moment,
      moment_word e.1.moment,
      count,
      refl,
      low_number_spelled e.1.moment fits.moment,
      (e.1.count, count, [], sym (append-nil count), length_spelled e.1.count fits.count, (refl, refl)),
    )

abbrev put_unclaimed : Begun → Id × Pending → Begun
put_unclaimed made e = record { group = made.group; unclaimed = insert made.unclaimed (e.0) (handed_of (e.1)) }

unclaimed_spelled : (made : Begun) (e : Id × Pending) → IsStoredEntry e → get made.unclaimed (e.0) ≡ None → (with_unclaimed made).Spells (put_unclaimed made e) (pending_word e)
unclaimed_spelled made e fits free =
    let how = moment_word e.1.moment ++ length_word e.1.count in (
      e.0,
      id_word (e.0),
      how,
      refl,
      (id_spelled (e.0) fits.id, no_none (get made.unclaimed (e.0)) free),
      (handed_of (e.1), how, [], sym (append-nil how), handed_spelled e fits, (refl, refl)),
    )

-- All entries are spelled, and these are unclaimed.
pub record Pended (pending : Pendings) (es : List (Id × Pending)) (made : Begun) (taken : Id → Bool) : Type 0 where
  pub final : Begun
  pub spelled : (in_turn with_unclaimed (length es) made).Spells final (flat_map pending_word es)
  pub group : final.group ≡ made.group
  pub shows : Shows (handed_in pending) (taking_all id_cmp es taken) final.unclaimed

pub pendings_spelled : (pending : Pendings) (es : List (Id × Pending)) (made : Begun) (taken : Id → Bool) → T (is_sorted id_cmp es) → AllByRecursion IsStoredEntry es → AreOf pending es → AreFree taken es
    → Shows (handed_in pending) taken made.unclaimed → Pended pending es made taken
pendings_spelled pending [] made taken sorted fits got free shows = record { final = made; spelled = turns_none with_unclaimed made; group = refl; shows = shows }
pendings_spelled pending (e ∷ es) made taken sorted fits got free shows =
    let more : Begun = put_unclaimed made e in
    let none : get made.unclaimed (e.0) ≡ None = not_there id_total id_same (handed_in pending) taken made.unclaimed (e.0) shows free.0 in
    let now : Shows (handed_in pending) (taking id_cmp (e.0) taken) more.unclaimed =
    shows_more id_total id_same (handed_in pending) taken made.unclaimed (e.0) (handed_of (e.1)) shows (ap (option_map handed_of) got.0) in
    let rest : Pended pending es more (taking id_cmp (e.0) taken) =
    pendings_spelled pending es more (taking id_cmp (e.0) taken) (second _ _ sorted) fits.1 got.1 (still_free id_total e es taken (first _ _ sorted) free.1) now in
    record {
      final = rest.final;
      spelled = turns_more with_unclaimed (length es) made more rest.final (pending_word e) (flat_map pending_word es) (unclaimed_spelled made e fits.0 none) rest.spelled;
      group = rest.group;
      shows = rest.shows;
    }

-- ---- entries that a consumer claims

abbrev claimed_of : List ℕ → Begun → Id × Pending → Begun
claimed_of name made e = claimed name made (e.0) (Some (handed_of (e.1)))

claim_spelled : (name : List ℕ) (made : Begun) (e : Id × Pending) → IsStoredEntry e → get made.unclaimed (e.0) ≡ Some (handed_of (e.1)) → (with_claim name made).Spells (claimed_of name made e) (id_word (e.0))
claim_spelled name made e fits there =
    let id = id_word (e.0) in
    let is : claimed_of name made e ≡ claimed name made (e.0) (get made.unclaimed (e.0)) = ap (claimed name made (e.0)) (sym there) in
    (e.0, id, [], sym (append-nil id), (id_spelled (e.0) fits.id, some_there (get made.unclaimed (e.0)) (handed_of (e.1)) there), (is, refl))

-- What is pending in a group so far, and what is left for none.
pub record Split (pending : Pendings) (made : Begun) (taken : Id → Bool) : Type 0 where
  pub mine : Shows (get pending) taken made.group.pending
  pub left : Shows (handed_in pending) (λ q. not (taken q)) made.unclaimed

-- All ids are spelled, and are pending for the consumer. Nothing else of the group changes.
pub record Claimed (pending : Pendings) (name : List ℕ) (es : List (Id × Pending)) (made : Begun) (taken : Id → Bool) : Type 0 where
  pub final : Begun
  pub spelled : (in_turn (with_claim name) (length (ids_in es)) made).Spells final (flat_map id_word (ids_in es))
  pub split : Split pending final (taking_all id_cmp es taken)
  pub last : final.group.last ≡ made.group.last
  pub consumers : final.group.consumers ≡ made.group.consumers

-- the entries are of the map, and of the consumer
pub record IsMine (pending : Pendings) (name : List ℕ) (e : Id × Pending) : Type 0 where
  pub got : get pending (e.0) ≡ Some (e.1)
  pub mine : e.1.consumer ≡ name
  pub fits : IsStoredEntry e

claimed_splits : (pending : Pendings) (name : List ℕ) (made : Begun) (e : Id × Pending) (taken : Id → Bool) → IsMine pending name e → Split pending made taken → Split pending (claimed_of name made e) (taking id_cmp (e.0) taken)
claimed_splits pending name made e taken is split =
    let put : Pending = record { consumer = name; moment = e.1.moment; count = e.1.count } in
    let same : e.1 ≡ put = λ i. record { consumer = is.mine i; moment = e.1.moment; count = e.1.count } in
    record {
      mine = shows_more id_total id_same (get pending) taken made.group.pending (e.0) put split.mine (is.got ∙ ap (λ p. Some p) same);
      left = shows_less id_total id_same (handed_in pending) taken made.unclaimed (e.0) split.left;
    }

pub claims_spelled : (pending : Pendings) (name : List ℕ) (es : List (Id × Pending)) (made : Begun) (taken : Id → Bool) → T (is_sorted id_cmp es) → AllByRecursion (IsMine pending name) es → AreFree taken es
    → Split pending made taken → Claimed pending name es made taken
claims_spelled pending name [] made taken sorted mine free split = record { final = made; spelled = turns_none (with_claim name) made; split = split; last = refl; consumers = refl }
claims_spelled pending name (e ∷ es) made taken sorted mine free split =
    let more : Begun = claimed_of name made e in
    let there : get made.unclaimed (e.0) ≡ Some (handed_of (e.1)) =
    is_there id_total id_same (handed_in pending) (λ q. not (taken q)) made.unclaimed (e.0) split.left (ap not free.0) ∙ ap (option_map handed_of) mine.0.got in
    let rest : Claimed pending name es more (taking id_cmp (e.0) taken) =
    claims_spelled pending name es more (taking id_cmp (e.0) taken) (second _ _ sorted) mine.1 (still_free id_total e es taken (first _ _ sorted) free.1)
    (claimed_splits pending name made e taken mine.0 split) in
    record {
      final = rest.final;
      spelled = turns_more (with_claim name) (length (ids_in es)) made more rest.final (id_word (e.0)) (flat_map id_word (ids_in es)) (claim_spelled name made e mine.0.fits there) rest.spelled;
      split = rest.split;
      last = rest.last;
      consumers = rest.consumers;
    }
