-- The walk of a stream's nodes.
use Rattle.std.proofs.Common.{◌≡◌, ℕ, ◌+◌, ◌<◌, ◌≤◌, ◌^◌, Bool, true, false, List, [], ◌∷◌, ◌++◌, length, Option, Some, None, refl, sym, ap, subst, ◌∙◌, length-append, arith}
use Rattle.std.specs.Prelude.{slice_get, flat_map, IfSome, IfNone}
use Rattle.std.specs.List.{filter, AllByRecursion}
use Rattle.std.specs.Option.{option_map}
use Rattle.std.proofs.lemmas.Bool.{cond-true, cond-false, lt-ltb, le-ltb}
use Rattle.std.proofs.lemmas.Option.{same_Some}
use Rattle.outside.specs.Files.{ShelfSeen}
use Rattle.blocks.specs.Blocks.{Blocks}
use Rattle.stream_node.specs.declared.id.Id.{Id}
use Rattle.stream_node.specs.Ids.{id_number, id_key}
use Rattle.stream_object.specs.Parts.{Part, IsPart, EndsBefore, Rising}
use Rattle.stream_object.specs.Found.{IsNear, Reaches, Misses}
use Rattle.stream_object.proofs.Parts.{keys_rise}
use Rattle.rdb_parts.specs.declared.pen.Pen.{Pen}
use Rattle.rdb_parts.specs.Pens.{Adds}
use Rattle.rdb_parts.specs.Words.{length_word, string_word}
use Rattle.rdb_stream_writer.specs.Nodes.{node_word, told, is_behind, behind}
use Rattle.rdb_stream_writer.proofs.Walks.{left, AreRising, IsLow, Walked, walk_begins, walk_on, walk_shorter, walk_ends}
use Rattle.rdb_stream_writer.proofs.Written.{adds_one, adds_head}

-- ---- the node that a search finds

filter_nothing : (test : Part → Bool) (ps : List Part) → AllByRecursion (λ p. test p ≡ false) ps → filter test ps ≡ []
filter_nothing test [] h = refl
filter_nothing test (p ∷ ps) h = cond-false _ _ _ h.0 ∙ filter_nothing test ps h.1

first_passes : (test : Part → Bool) (before after : List Part) (p : Part) → AllByRecursion (λ q. test q ≡ false) before → test p ≡ true → slice_get (filter test (before ++ p ∷ after)) 0 ≡ Some p
first_passes test [] after p h is = ap (λ ps. slice_get ps 0) (cond-true _ _ _ is)
first_passes test (q ∷ before) after p h is = ap (λ ps. slice_get ps 0) (cond-false _ _ _ h.0) ∙ first_passes test before after p h.1 is

missed : (test : Part → Bool) (id : Id) (ps : List Part) → ((q : Part) → Misses true id q → test q ≡ false) → AllByRecursion (Misses true id) ps → AllByRecursion (λ q. test q ≡ false) ps
missed test id [] miss h = tt
missed test id (q ∷ ps) miss h = (miss q h.0, missed test id ps miss h.1)

-- a test tells the nodes that reach an id from the others
module _ (test : Part → Bool) (id : Id) (ps : List Part) (reach : (q : Part) → Reaches true id q → test q ≡ true) (miss : (q : Part) → Misses true id q → test q ≡ false) where
  near_first : (p : Part) → IsNear true ps id p → slice_get (filter test ps) 0 ≡ Some p
  near_first p near =
      ap (λ qs. slice_get (filter test qs) 0) near.place
      ∙ first_passes test near.before near.after p (missed test id near.before miss near.passes) (reach p near.reaches)

  near_none : AllByRecursion (Misses true id) ps → slice_get (filter test ps) 0 ≡ None
  near_none h = ap (λ qs. slice_get qs 0) (filter_nothing test ps (missed test id ps miss h))

all_pass : (ps : List Part) → filter (λ p. true) ps ≡ ps
all_pass [] = refl
all_pass (p ∷ ps) = ap (λ qs. p ∷ qs) (all_pass ps)

-- what a search tells
abbrev pub Tells : {A : Type 0} → (A → Id) → (A → List ℕ) → List Part → Id → Option A → Type 0
Tells key_of bytes_of ps id found =
    IfSome found (λ f. (p : Part) × IsNear true ps id p × (key_of f ≡ p.key) × (bytes_of f ≡ p.bytes)) × IfNone found (AllByRecursion (Misses true id) ps)

told_by : {A : Type 0} (key_of : A → Id) (bytes_of : A → List ℕ) (ps : List Part) (id : Id) (found : Option A) → Tells key_of bytes_of ps id found → (rest : List Part)
    → ((p : Part) → IsNear true ps id p → slice_get rest 0 ≡ Some p) → (AllByRecursion (Misses true id) ps → slice_get rest 0 ≡ None)
    → option_map (λ f. (key_of f, bytes_of f)) found ≡ option_map told (slice_get rest 0)
told_by key_of bytes_of ps id None h rest some none = ap (option_map told) (sym (none h.1))
told_by key_of bytes_of ps id (Some f) h rest some none =
    let p = h.0 in
    (λ i. Some (p.2 i, p.3 i)) ∙ ap (option_map told) (sym (some (p.0) (p.1)))

-- the first of all nodes
pub first_told : {A : Type 0} (key_of : A → Id) (bytes_of : A → List ℕ) (ps : List Part) (id : Id) (found : Option A) → id_number id ≡ 0 → Tells key_of bytes_of ps id found
    → option_map (λ f. (key_of f, bytes_of f)) found ≡ option_map told (slice_get (behind None ps) 0)
first_told key_of bytes_of ps id found zero h =
    let test : Part → Bool = λ p. true in
    let reach : (q : Part) → Reaches true id q → test q ≡ true = λ q r. refl in
    let miss : (q : Part) → Misses true id q → test q ≡ false = λ q r. absurd (omega (arith, zero, r)) in
    told_by key_of bytes_of ps id found h ps
    (λ p near. ap (λ qs. slice_get qs 0) (sym (all_pass ps)) ∙ near_first test id ps reach miss p near)
    (λ none. ap (λ qs. slice_get qs 0) (sym (all_pass ps)) ∙ near_none test id ps reach miss none)

-- the first one behind a key
pub next_told : {A : Type 0} (key_of : A → Id) (bytes_of : A → List ℕ) (ps : List Part) (key next : Id) (found : Option A) → id_number next ≡ id_number key + 1 → Tells key_of bytes_of ps next found
    → option_map (λ f. (key_of f, bytes_of f)) found ≡ option_map told (slice_get (behind (Some key) ps) 0)
next_told key_of bytes_of ps key next found is h =
    let test : Part → Bool = is_behind key in
    let reach : (q : Part) → Reaches true next q → test q ≡ true = λ q r. lt-ltb (id_number key) (id_number q.key) (omega (arith, is, r)) in
    let miss : (q : Part) → Misses true next q → test q ≡ false = λ q r. le-ltb (id_number key) (id_number q.key) (omega (arith, is, r)) in
    told_by key_of bytes_of ps next found h (filter test ps) (near_first test next ps reach miss) (near_none test next ps reach miss)

-- none is behind the greatest id
none_above : (m : Blocks) (key : Id) (ps : List Part) → id_number key + 1 ≡ 2 ^ 128 → AllByRecursion (IsPart m) ps → AllByRecursion (λ p. is_behind key p ≡ false) ps
none_above m key [] is h = tt
none_above m key (p ∷ ps) is h =
    let ms : p.key.ms < 18446744073709551616 = h.0.id.ms in
    let seq : p.key.seq < 18446744073709551616 = h.0.id.seq in
    (le-ltb (id_number key) (id_number p.key) (omega (arith, is, ms, seq)), none_above m key ps is h.1)

pub none_behind : (m : Blocks) (key : Id) (ps : List Part) → id_number key + 1 ≡ 2 ^ 128 → AllByRecursion (IsPart m) ps → None ≡ option_map told (slice_get (behind (Some key) ps) 0)
none_behind m key ps is h = ap (λ qs. option_map told (slice_get qs 0)) (sym (filter_nothing (is_behind key) ps (none_above m key ps is h)))

-- ---- the walk

abbrev pub key_of_part : Part → Id
key_of_part p = p.key

abbrev pub NodeWalk : (List Part → Type 0) → List Part → Option Id → Type 0
NodeWalk Holds ps last = Walked key_of_part is_behind Holds ps last

not_itself : (p : Part) → is_behind p.key p ≡ false
not_itself p = le-ltb (id_number p.key) (id_number p.key) (omega arith)

low : (m : Blocks) (p : Part) (ps : List Part) → IsPart m p → AllByRecursion (EndsBefore p) ps → IsLow key_of_part is_behind p ps
low m p [] is h = tt
low m p (q ∷ ps) is h =
    let less : id_number p.key < id_number q.key = keys_rise m p q is h.0 in
    ((lt-ltb (id_number p.key) (id_number q.key) less, le-ltb (id_number q.key) (id_number p.key) (omega (arith, less))), low m p ps is h.1)

rising : (m : Blocks) (ps : List Part) → AllByRecursion (IsPart m) ps → Rising ps → AreRising key_of_part is_behind ps
rising m [] each r = tt
rising m (p ∷ ps) each r = (low m p ps each.0 r.0, rising m ps each.1 r.1)

behind_is : (last : Option Id) (ps : List Part) → behind last ps ≡ left key_of_part is_behind last ps
behind_is None ps = refl
behind_is (Some key) ps = refl

told_some : (found : Option Part) (key : Id) (bytes : List ℕ) → Some (key, bytes) ≡ option_map told found → (p : Part) × (found ≡ Some p) × (p.key ≡ key) × (p.bytes ≡ bytes)
told_some None key bytes is = absurd cc
told_some (Some p) key bytes is =
    let same : told p ≡ (key, bytes) = same_Some (told p) (key, bytes) (sym is) in
    (p, refl, ap (λ (t : Id × List ℕ). t.0) same, ap (λ (t : Id × List ℕ). t.1) same)

told_none : (found : Option Part) → None ≡ option_map told found → found ≡ None
told_none None is = refl
told_none (Some p) is = absurd cc

module _ (m : Blocks) (ps : List Part) (each : AllByRecursion (IsPart m) ps) (rises : Rising ps) (last : Option Id) where
  module _ (key : Id) (bytes : List ℕ) (is : Some (key, bytes) ≡ option_map told (slice_get (behind last ps) 0)) where
    seen : (p : Part) × (slice_get (left key_of_part is_behind last ps) 0 ≡ Some p) × (p.key ≡ key) × (p.bytes ≡ bytes)
    seen = told_some (slice_get (left key_of_part is_behind last ps) 0) key bytes (is ∙ ap (λ qs. option_map told (slice_get qs 0)) (behind_is last ps))

    more : (Holds Holds' : List Part → Type 0) (w : NodeWalk Holds ps last) → ((before : List Part) (p : Part) → p.key ≡ key → p.bytes ≡ bytes → Holds before → Holds' (before ++ p ∷ [])) → NodeWalk Holds' ps (Some key)
    more Holds Holds' w step =
        let p = seen in
        subst (λ (k : Id). NodeWalk Holds' ps (Some k)) (p.2)
        (walk_on key_of_part is_behind not_itself Holds ps last (rising m ps each rises) w (p.0) (p.1) Holds' (step w.before (p.0) (p.2) (p.3)))

    pub node_shorter : (Holds : List Part → Type 0) → NodeWalk Holds ps last → length (behind (Some key) ps) < length (behind last ps)
    node_shorter Holds w =
        let p = seen in
        let less : length (left key_of_part is_behind (Some key) ps) < length (left key_of_part is_behind last ps) =
        subst (λ (k : Id). length (left key_of_part is_behind (Some k) ps) < length (left key_of_part is_behind last ps)) (p.2)
        (walk_shorter key_of_part is_behind not_itself Holds ps last (rising m ps each rises) w (p.0) (p.1)) in
        omega (arith, less, ap length (behind_is (Some key) ps), ap length (behind_is last ps))

    -- ---- nodes that are counted

    pub count_more : (count : ℕ) → NodeWalk (λ before. length before ≡ count) ps last → NodeWalk (λ before. length before ≡ count + 1) ps (Some key)
    count_more count w = more (λ before. length before ≡ count) (λ before. length before ≡ count + 1) w (λ before p k b h. omega (arith, h, length-append before (p ∷ [])))

    -- ---- nodes that are written

    pub node_more : (o n q : ShelfSeen) (a b c : Pen) → NodeWalk (λ before. Adds o n a b (length_word (length ps) ++ flat_map node_word before)) ps last
        → Adds n q b c (string_word (id_key key) ++ string_word bytes)
        → NodeWalk (λ before. Adds o q a c (length_word (length ps) ++ flat_map node_word before)) ps (Some key)
    node_more o n q a b c w written =
        more (λ before. Adds o n a b (length_word (length ps) ++ flat_map node_word before)) (λ before. Adds o q a c (length_word (length ps) ++ flat_map node_word before)) w
        (λ before p same_key same_bytes h.
        let word : string_word (id_key key) ++ string_word bytes ≡ node_word p = λ i. string_word (id_key (sym same_key i)) ++ string_word (sym same_bytes i) in
        adds_one o n q a b c node_word (length_word (length ps)) before p h (subst (Adds n q b c) word written))

  pub node_ends : (Holds : List Part → Type 0) → NodeWalk Holds ps last → None ≡ option_map told (slice_get (behind last ps) 0) → Holds ps
  node_ends Holds w none =
      walk_ends key_of_part is_behind not_itself Holds ps last (rising m ps each rises) w
      (told_none (slice_get (left key_of_part is_behind last ps) 0) (none ∙ ap (λ qs. option_map told (slice_get qs 0)) (behind_is last ps)))

pub count_begins : (ps : List Part) → NodeWalk (λ before. length before ≡ 0) ps None
count_begins ps = walk_begins key_of_part is_behind (λ before. length before ≡ 0) ps refl

pub node_begins : (ps : List Part) (o n : ShelfSeen) (a b : Pen) (count : ℕ) → Adds o n a b (length_word count) → count ≡ length ps → NodeWalk (λ before. Adds o n a b (length_word (length ps) ++ flat_map node_word before)) ps None
node_begins ps o n a b count p is =
    walk_begins key_of_part is_behind (λ before. Adds o n a b (length_word (length ps) ++ flat_map node_word before)) ps
    (adds_head o n a b node_word (length_word (length ps)) (subst (λ k. Adds o n a b (length_word k)) is p))

-- no more were counted than there are
pub counted_upto : (ps : List Part) (last : Option Id) (count : ℕ) → NodeWalk (λ before. length before ≡ count) ps last → count ≤ length ps
counted_upto ps last count w = omega (arith, w.holds, ap length w.split, length-append w.before (left key_of_part is_behind last ps))
