-- Exactly one of a listpack and a first fault.
use Rattle.std.proofs.Common.{◌≡◌, ◌≢◌, ◌⊎◌, ℕ, ◌+◌, ◌-◌, ◌<◌, ◌≤◌, List, [], ◌∷◌, ◌++◌, length, map, refl, sym, ap, subst, ◌∙◌, inl, inr, arith}
use Rattle.std.specs.Prelude.{nat_lt, ◌==◌, if◌then◌else◌}
use Rattle.std.proofs.lemmas.Bool.{cases_lt, cases_eq}
use Rattle.std.proofs.lemmas.Bool.Decides.{nat_tests}
use Rattle.std.proofs.lemmas.List.{append-nil, length-take, length-drop}
use Rattle.listpack.specs.declared.fault.PackFault.{PackFault}
use Rattle.listpack.specs.declared.fault.PackFault.TheVariants as faults
use Rattle.listpack.specs.Entry.{needed, text_of}
use Rattle.listpack.specs.Pack.{entries, total, told, region, last_byte, HasSpellings, Packs, Begins, IsSized, IsCutShort, LacksBackLength, IsEntryFault, IsRegionFault, IsFault}
use Rattle.listpack.specs.Pack.{spellings_of, IsPack, texts, ExactlyOne}
use Rattle.listpack.proofs.Spellings.{needed_append}
use Rattle.listpack.proofs.Regions.{scan, Stop, at_end, at_fault, one_stop, fault_there, cut_entries}

length_region : (bytes : List ℕ) → length (region bytes) ≤ length bytes
length_region bytes = omega (arith, length-take (length bytes - 1 - 6) (Rattle.std.proofs.Common.drop 6 bytes), length-drop 6 bytes)

-- reading gives the spellings of a listpack
pub spellings_read : (bytes : List ℕ) (spellings : List (List ℕ)) → HasSpellings bytes spellings → spellings_of bytes ≡ spellings
unfolding spellings_of
spellings_read bytes spellings h =
    ap (Rattle.listpack.specs.Pack.cut (length bytes)) h.all_entries
    ∙ cut_entries (length bytes) spellings h.each (omega (arith, length_region bytes, ap length h.all_entries))

pub is_pack : (bytes : List ℕ) (spellings : List (List ℕ)) → HasSpellings bytes spellings → IsPack bytes
is_pack bytes spellings h = subst (λ (x : List (List ℕ)). HasSpellings bytes x) (sym (spellings_read bytes spellings h)) h

begins : (bytes : List ℕ) (spellings : List (List ℕ)) → HasSpellings bytes spellings → Begins (region bytes) spellings []
begins bytes spellings h = (h.all_entries ∙ sym (append-nil (entries spellings)), h.each)

pub from_parts : (bytes : List ℕ) (spellings : List (List ℕ)) → 7 ≤ length bytes → total bytes ≡ length bytes → Begins (region bytes) spellings []
    → last_byte bytes ≡ 0xFF → (told bytes ≢ 65535 → told bytes ≡ length spellings) → HasSpellings bytes spellings
from_parts bytes spellings header size b ended count = record {
  header = header;
  size = size;
  all_entries = b.0 ∙ append-nil (entries spellings);
  each = b.1;
  ended = ended;
  count = count;
}

-- the one fault that reading can end with
stop_fault : List ℕ → ℕ → PackFault
stop_fault rest last =
    if nat_lt 0 (length rest) then (if nat_lt (length rest) (needed rest) then faults.Entry else faults.BackLength) else
    if last == 255 then faults.Count else faults.End

cut_short_is : (rest : List ℕ) (last : ℕ) → IsCutShort rest → faults.Entry ≡ stop_fault rest last
unfolding stop_fault
cut_short_is rest last h = let a = h.0 in let b = h.1 in grind (arith, nat_tests)

lacks_is : (rest : List ℕ) (last : ℕ) → LacksBackLength rest → faults.BackLength ≡ stop_fault rest last
unfolding stop_fault
lacks_is rest last f =
    let a = fault_there faults.BackLength rest f in
    let e = ap needed f.2 ∙ needed_append f.0 f.1 f.3 in
    let b : needed rest ≤ length rest = omega (arith, e, ap length f.2, Rattle.std.proofs.Common.length-append f.0 f.1) in
    grind (arith, nat_tests)

count_is : (last : ℕ) → last ≡ 255 → faults.Count ≡ stop_fault [] last
unfolding stop_fault
count_is last e = grind (arith, nat_tests)

end_is : (last : ℕ) → last ≢ 255 → faults.End ≡ stop_fault [] last
unfolding stop_fault
end_is last e = grind (arith, nat_tests)

-- a fault, by how far reading came
data Seen (bytes : List ℕ) (fault : PackFault) : Type 0 where
  tiny : length bytes < 7 → fault ≡ faults.Short → Seen bytes fault
  misfit : 7 ≤ length bytes → total bytes ≢ length bytes → fault ≡ faults.Total → Seen bytes fault
  stopped : IsSized bytes → (spellings : List (List ℕ)) → (rest : List ℕ) → Begins (region bytes) spellings rest → Stop rest → fault ≡ stop_fault rest (last_byte bytes) → Seen bytes fault

seen : (bytes : List ℕ) (fault : PackFault) → IsFault bytes fault → Seen bytes fault
seen bytes faults.Short f = tiny f refl
seen bytes faults.Total f = misfit f.0 f.1 refl
seen bytes faults.Entry f = stopped f.0 f.1.0 f.1.1 f.1.2 (at_fault faults.Entry f.1.3) (cut_short_is f.1.1 (last_byte bytes) f.1.3)
seen bytes faults.BackLength f = stopped f.0 f.1.0 f.1.1 f.1.2 (at_fault faults.BackLength f.1.3) (lacks_is f.1.1 (last_byte bytes) f.1.3)
seen bytes faults.Count f = stopped f.0 f.1.0 [] f.1.1 (at_end refl) (count_is (last_byte bytes) f.1.2)
seen bytes faults.End f = stopped f.0 f.1.0 [] f.1.1 (at_end refl) (end_is (last_byte bytes) f.1.2)

one_seen : (bytes : List ℕ) (f g : PackFault) → Seen bytes f → Seen bytes g → f ≡ g
one_seen bytes f g (tiny a e) (tiny b d) = e ∙ sym d
one_seen bytes f g (tiny a e) (misfit b n d) = absurd (omega arith)
one_seen bytes f g (tiny a e) (stopped z ss rest b p d) = absurd (omega (arith, z.0))
one_seen bytes f g (misfit b n d) (tiny a e) = absurd (omega arith)
one_seen bytes f g (misfit b n d) (misfit a m e) = d ∙ sym e
one_seen bytes f g (misfit b n d) (stopped z ss rest c p e) = absurd (n z.1)
one_seen bytes f g (stopped z ss rest b p d) (tiny a e) = absurd (omega (arith, z.0))
one_seen bytes f g (stopped z ss rest b p d) (misfit c n e) = absurd (n z.1)
one_seen bytes f g (stopped z ss rest b p d) (stopped y ts other c q e) =
    let same = one_stop ss ts (region bytes) rest other b c p q in
    d ∙ ap (λ (x : List ℕ). stop_fault x (last_byte bytes)) same.1 ∙ sym e

whole_or_stopped : (bytes : List ℕ) (spellings : List (List ℕ)) (fault : PackFault) → HasSpellings bytes spellings → IsFault bytes fault → ⊥
whole_or_stopped bytes spellings faults.Short h f = let a = h.header in omega (arith, f)
whole_or_stopped bytes spellings faults.Total h f = f.1 h.size
whole_or_stopped bytes spellings faults.Entry h f =
    let same = one_stop spellings f.1.0 (region bytes) [] f.1.1 (begins bytes spellings h) f.1.2 (at_end refl) (at_fault faults.Entry f.1.3) in
    let there = fault_there faults.Entry f.1.1 f.1.3 in
    omega (arith, there, ap length same.1)
whole_or_stopped bytes spellings faults.BackLength h f =
    let same = one_stop spellings f.1.0 (region bytes) [] f.1.1 (begins bytes spellings h) f.1.2 (at_end refl) (at_fault faults.BackLength f.1.3) in
    let there = fault_there faults.BackLength f.1.1 f.1.3 in
    omega (arith, there, ap length same.1)
whole_or_stopped bytes spellings faults.Count h f =
    let same = one_stop spellings f.1.0 (region bytes) [] [] (begins bytes spellings h) f.1.1 (at_end refl) (at_end refl) in
    f.1.4 (h.count f.1.3 ∙ ap length same.0)
whole_or_stopped bytes spellings faults.End h f = f.1.2 h.ended

pub pack_or_fault : (bytes : List ℕ) (fault : PackFault) → IsPack bytes → IsFault bytes fault → ⊥
pack_or_fault bytes fault p f = whole_or_stopped bytes (spellings_of bytes) fault p f

region_fault : (bytes : List ℕ) (fault : PackFault) → IsSized bytes → IsRegionFault (region bytes) fault → IsFault bytes fault
region_fault bytes faults.Short z f = absurd f.3
region_fault bytes faults.Total z f = absurd f.3
region_fault bytes faults.Entry z f = (z, f)
region_fault bytes faults.BackLength z f = (z, f)
region_fault bytes faults.Count z f = absurd f.3
region_fault bytes faults.End z f = absurd f.3

abbrev Either : List ℕ → Type 0
Either bytes = ((list : List (List ℕ)) × Packs bytes list) ⊎ ((fault : PackFault) × IsFault bytes fault)

behind_entries : (bytes : List ℕ) (spellings : List (List ℕ)) → IsSized bytes → Begins (region bytes) spellings [] → Either bytes
behind_entries bytes ss z b = elim (cases_eq (last_byte bytes) 0xFF) [
  | inl last ↦ elim (cases_eq (told bytes) 65535) [
    | inl unknown ↦ inl (map text_of ss, (ss, from_parts bytes ss z.0 z.1 b last (λ known. absurd (known unknown)), refl))
    | inr known ↦ elim (cases_eq (told bytes) (length ss)) [
      | inl right ↦ inl (map text_of ss, (ss, from_parts bytes ss z.0 z.1 b last (λ e. right), refl))
      | inr wrong ↦ inr (faults.Count, (z, (ss, b, last, known, wrong)))
    ]
  ]
  | inr other ↦ inr (faults.End, (z, (ss, b, other)))
]

either : (bytes : List ℕ) → Either bytes
either bytes = elim (cases_lt (length bytes) 7) [
  | inl short ↦ inr (faults.Short, short)
  | inr there ↦ elim (cases_eq (total bytes) (length bytes)) [
    | inl size ↦ elim (scan (length (region bytes)) (region bytes) (omega arith)) [
      | inl whole ↦ behind_entries bytes whole.0 (there, size) whole.1
      | inr bad ↦ inr (bad.0, region_fault bytes bad.0 (there, size) bad.1)
    ]
    | inr wrong ↦ inr (faults.Total, (there, wrong))
  ]
]

pub exactly_one : (bytes : List ℕ) → ExactlyOne bytes
exactly_one bytes = record {
  either = either bytes;
  not_both = λ list fault p f. whole_or_stopped bytes p.0 fault p.1 f;
  one_fault = λ f g a b. one_seen bytes f g (seen bytes f a) (seen bytes g b);
  whole = λ p. (spellings_of bytes, p, refl);
  read = λ list p. (is_pack bytes p.0 p.1, p.2 ∙ ap (map text_of) (sym (spellings_read bytes p.0 p.1)));
}
