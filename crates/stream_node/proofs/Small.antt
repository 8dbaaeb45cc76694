-- What small lists are.
use Rattle.std.proofs.Common.{◌≡◌, ℕ, [], ◌∷◌, length, refl, sym, ap, ◌∙◌, inl, inr, arith, false, true, pos}
use Rattle.std.specs.Prelude.{Option, Some, None}
use Rattle.std.specs.Fmt.{digits}
use Rattle.stream_node.specs.Entry.{IsStart, IsEntry}
use Rattle.stream_node.specs.Node.{IsHead, IsAfter, Begins, marked, last_id, Stop, LacksHead, LacksEntry, IsBack}
use Rattle.stream_node.specs.declared.id.Id.{Id}
use Rattle.stream_node.specs.Rows.{five, stored, entry, row, Rows}
use Rattle.stream_node.proofs.Lists.{Texts}

abbrev is_none : Option Id → ℕ
is_none None = 1
is_none (Some id) = 0

-- a part of an id that is there
abbrev part_of : (Id → ℕ) → Option Id → ℕ
part_of part None = 0
part_of part (Some id) = part id

abbrev field : Texts
field = (102 ∷ []) ∷ []

is_start : (more : Texts) → IsStart five (entry more) false true five ((118 ∷ []) ∷ (52 ∷ []) ∷ more)
unfolding digits
is_start more = record { ms = pos 0; seq = pos 0; ms_fits = record { sfits = omega arith }; seq_fits = record { sfits = omega arith }; elements = refl; ms_is = refl; seq_is = refl }

is_entry : (more : Texts) → IsEntry five field (entry more) stored more
unfolding digits
is_entry more = record {
  same = true;
  behind = (118 ∷ []) ∷ (52 ∷ []) ∷ more;
  start = is_start more;
  pairs = record { fields = refl; elements = refl };
}

begins : (more : Texts) → Begins five field None (entry more) (stored ∷ []) more
unfolding Begins
begins more = (more, is_entry more, tt, refl)

head_one : (more : Texts) → IsHead (row 49 48 more) 1 0 field more
unfolding digits
head_one more = record { live_fits = omega arith; deleted_fits = omega arith; some = omega arith; fields_fit = omega arith; elements = refl }

head_marked : (more : Texts) → IsHead (row 48 49 more) 0 1 field more
unfolding digits
head_marked more = record { live_fits = omega arith; deleted_fits = omega arith; some = omega arith; fields_fit = omega arith; elements = refl }

head_two : (more : Texts) → IsHead (row 50 48 more) 2 0 field more
unfolding digits
head_two more = record { live_fits = omega arith; deleted_fits = omega arith; some = omega arith; fields_fit = omega arith; elements = refl }

last_five : last_id None (stored ∷ []) ≡ Some five
unfolding last_id
last_five = refl

not_after : (before : Option Id) → before ≡ Some five → IsAfter before five → ⊥
not_after None e h = absurd (omega (arith, ap is_none e))
not_after (Some id) e (inl h) = omega (arith, h, ap (part_of (λ (x : Id). x.ms)) e)
not_after (Some id) e (inr h) = omega (arith, h.1, ap (part_of (λ (x : Id). x.seq)) e)

one_marked : marked (stored ∷ []) ≡ 0
unfolding marked
one_marked = refl

no_head : LacksHead []
no_head live deleted master rest h = let e = h.elements in omega (arith, ap length e)

no_entry : (list : Texts) → list ≡ [] → LacksEntry five field list
no_entry list none e rest h = omega (arith, ap length (sym none ∙ h.start.elements))

no_way_back : (before : Option Id) (list : Texts) → list ≡ [] → IsBack five before list → ⊥
no_way_back before list none b = let s = b.4 in omega (arith, ap length (sym none ∙ s.elements))

two_live : (more : Texts) → Stop five (row 50 48 (entry more))
two_live more = record { live = 2; deleted = 0; master = field; behind = entry more; entries = stored ∷ []; rest = more; head = head_two (entry more); begins = begins more }

pub rows : Rows
unfolding two_live
rows = record {
  node = record { live = 1; deleted = 0; master = field; behind = entry []; head = head_one (entry []); all_entries = begins []; count = refl; marks = one_marked };
  count = (
    record { live = 0; deleted = 1; master = field; behind = entry []; entries = stored ∷ []; rest = []; head = head_marked (entry []); begins = begins [] },
    refl,
    refl,
    λ e. omega (arith, sym one_marked ∙ e),
  );
  shape = inl no_head;
  missing = inr (inl (two_live [], omega arith, no_entry [] refl, no_way_back (last_id None (stored ∷ [])) [] refl));
  order = (two_live (entry []), omega arith, (false, true, five, (118 ∷ []) ∷ (52 ∷ []) ∷ [], is_start [], not_after (last_id None (stored ∷ [])) last_five));
}
