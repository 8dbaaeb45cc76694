-- What commands on lists answer, and what they leave (Redis command reference, "Commands operating on lists").
use Rattle.std.specs.Prelude.{ℕ, zero, suc, ◌-◌, List, [], ◌∷◌, ◌++◌, length, take, drop, map, ℤ, pos, negsuc, Option, None, Some, not, nat_lt, bytes_eq, reverse, codes, if◌then◌else◌}
use Rattle.std.specs.List.{filter}
use Rattle.plain_world.specs.Worlds.{World, ListOf, look, remove}
use Rattle.plain_model.specs.Outcomes.{Outcome, tells, refused, leaves, IsOutcome}
use Rattle.plain_model.specs.OfType.{list_in, on_type, keep}
use Rattle.plain_model.specs.declared.list_command.ListEnd.{ListEnd}
use Rattle.plain_model.specs.declared.list_command.ListEnd.TheVariants.{Head, Tail}
use Rattle.plain_model.specs.declared.list_command.Side.{Side}
use Rattle.plain_model.specs.declared.list_command.Side.TheVariants.{Before, After}
use Rattle.plain_model.specs.declared.list_command.ListCommand.{ListCommand}
use Rattle.plain_model.specs.declared.list_command.ListCommand.TheVariants as lists
use Rattle.plain_world.specs.declared.refusal.Refusal.TheVariants.{NoSuchKey, IndexOutOfRange}
use Rattle.plain_world.specs.declared.reply.Part.{Part}
use Rattle.plain_world.specs.declared.reply.Part.TheVariants.{Simple, Number, Bulk, Null, NullArray, Array}

abbrev pub Elements : Type 0
Elements = List (List ℕ)

-- with the list at a key, where there is one
abbrev pub on_list : World → List ℕ → (Option Elements → Outcome) → Outcome
on_list old key answer = on_type list_in old (look old key) answer

-- a missing list counts as one without an element
abbrev pub or_none : Option Elements → Elements
or_none None = []
or_none (Some list) = list

-- A list stands at a key and keeps the deadline that is there; one without an element goes with its key.
abbrev pub keep_list : World → List ℕ → Elements → World
keep_list old key [] = remove old key
keep_list old key (element ∷ list) = keep old key (ListOf (element ∷ list))

-- a number is answered
abbrev pub tells_number : ℤ → World → Outcome
tells_number n world = leaves (Number n ∷ []) world

-- the length of a list is answered, and it stands at the key
abbrev pub counted : World → List ℕ → Elements → Outcome
counted old key list = tells_number (pos (length list)) (keep_list old key list)

-- ---- ends

-- the list as it is met from an end
abbrev pub from_end : ListEnd → Elements → Elements
from_end Head list = list
from_end Tail list = reverse list

-- elements are put before a list, one after the other
abbrev pub pushed : Elements → Elements → Elements
pushed list [] = list
pushed list (element ∷ elements) = pushed (element ∷ list) elements

-- elements are put at an end, one after the other
abbrev pub added : ListEnd → Elements → Elements → Elements
added Head list elements = pushed list elements
added Tail list elements = list ++ elements

abbrev pub push : World → ListEnd → List ℕ → Elements → Outcome
push old end key elements = on_list old key (λ before. counted old key (added end (or_none before) elements))

-- the same where there is a list, or else 0
abbrev pub push_there : World → ListEnd → List ℕ → Elements → Option Elements → Outcome
push_there old end key elements None = tells_number (pos 0) old
push_there old end key elements (Some list) = counted old key (added end list elements)

abbrev pub push_if_there : World → ListEnd → List ℕ → Elements → Outcome
push_if_there old end key elements = on_list old key (push_there old end key elements)

-- the first one, or null
abbrev pub first_or_null : Elements → Part
first_or_null [] = Null
first_or_null (element ∷ list) = Bulk element

-- the list without so many elements at an end
abbrev pub without : ListEnd → ℕ → Elements → Elements
without end n list = from_end end (drop n (from_end end list))

-- elements as an array
abbrev pub listed : Elements → List Part
listed list = Array (length list) ∷ map Bulk list

-- without a number one element is taken off and told, or null is
abbrev pub pop_one : World → ListEnd → List ℕ → Option Elements → Outcome
pop_one old end key None = tells (Null ∷ []) old
pop_one old end key (Some list) =
    leaves (first_or_null (from_end end list) ∷ []) (keep_list old key (without end 1 list))

-- with a number so many elements are, in the order in which they are met
abbrev pub pop_some : World → ListEnd → List ℕ → ℕ → Option Elements → Outcome
pop_some old end key n None = tells (NullArray ∷ []) old
pop_some old end key n (Some list) =
    leaves (listed (take n (from_end end list))) (keep_list old key (without end n list))

abbrev pub pop_of : World → ListEnd → List ℕ → Option ℕ → Option Elements → Outcome
pop_of old end key None before = pop_one old end key before
pop_of old end key (Some n) before = pop_some old end key n before

abbrev pub pop : World → ListEnd → List ℕ → Option ℕ → Outcome
pop old end key n = on_list old key (pop_of old end key n)

-- ---- places

-- where an index stands in a list of this length: a negative one counts from the end
abbrev pub place_of : ℕ → ℤ → Option ℕ
place_of len (pos n) = if nat_lt n len then Some n else None
place_of len (negsuc n) = if nat_lt n len then Some (len - suc n) else None

-- the elements from a place on, of which the first is told, or null
abbrev pub element_at : Elements → Option ℕ → Part
element_at list None = Null
element_at list (Some n) = first_or_null (drop n list)

-- the list with an element in the place of another
abbrev pub replaced : Elements → ℕ → List ℕ → Elements
replaced list n element = take n list ++ (element ∷ drop (suc n) list)

abbrev pub set_place : World → List ℕ → List ℕ → Elements → Option ℕ → Outcome
set_place old key element list None = refused IndexOutOfRange old
set_place old key element list (Some n) =
    leaves (Simple (codes "OK") ∷ []) (keep_list old key (replaced list n element))

abbrev pub set_at : World → List ℕ → ℤ → List ℕ → Option Elements → Outcome
set_at old key index element None = refused NoSuchKey old
set_at old key index element (Some list) = set_place old key element list (place_of (length list) index)

-- where a range begins: a negative index counts from the end, and what is still below 0 is 0
abbrev pub range_start : ℕ → ℤ → ℕ
range_start len (pos n) = n
range_start len (negsuc n) = len - suc n

-- behind which place a range ends: a negative index counts from the end
abbrev pub range_end : ℕ → ℤ → ℕ
range_end len (pos n) = suc n
range_end len (negsuc n) = len - n

-- the elements from index a to index b
abbrev pub list_range : {A : Type 0} → List A → ℤ → ℤ → List A
list_range list a b =
    let first = range_start (length list) a in
    take (range_end (length list) b - first) (drop first list)

abbrev pub trim : World → List ℕ → ℤ → ℤ → Option Elements → Outcome
trim old key a b None = tells (Simple (codes "OK") ∷ []) old
trim old key a b (Some list) = leaves (Simple (codes "OK") ∷ []) (keep_list old key (list_range list a b))

-- ---- equal elements

-- an element is put beside the first one that equals the pivot; none where no one does
abbrev pub beside : Side → List ℕ → List ℕ → Elements → Elements
beside Before first element rest = element ∷ first ∷ rest
beside After first element rest = first ∷ element ∷ rest

abbrev pub behind_first : List ℕ → Option Elements → Option Elements
behind_first first None = None
behind_first first (Some rest) = Some (first ∷ rest)

abbrev pub inserted_beside : Side → List ℕ → List ℕ → Elements → Option Elements
inserted_beside side pivot element [] = None
inserted_beside side pivot element (first ∷ rest) =
    if bytes_eq first pivot then Some (beside side first element rest)
    else behind_first first (inserted_beside side pivot element rest)

abbrev pub insert_there : World → List ℕ → Option Elements → Outcome
insert_there old key None = tells_number (negsuc 0) old
insert_there old key (Some list) = counted old key list

-- the new length, or -1 where no element equals the pivot, or 0 where there is no list
abbrev pub insert_beside : World → List ℕ → Side → List ℕ → List ℕ → Option Elements → Outcome
insert_beside old key side pivot element None = tells_number (pos 0) old
insert_beside old key side pivot element (Some list) = insert_there old key (inserted_beside side pivot element list)

-- without the first so many elements that equal this one
abbrev pub without_first : ℕ → List ℕ → Elements → Elements
without_first n element [] = []
without_first zero element (first ∷ rest) = first ∷ rest
without_first (suc n) element (first ∷ rest) =
    if bytes_eq first element then without_first n element rest else first ∷ without_first (suc n) element rest

-- without all that equal it
abbrev pub without_all : List ℕ → Elements → Elements
without_all element list = filter (λ other. not (bytes_eq other element)) list

-- the first n from the head, the first -n from the tail, or all for 0
abbrev pub without_equal : ℤ → List ℕ → Elements → Elements
without_equal (pos zero) element list = without_all element list
without_equal (pos (suc n)) element list = without_first (suc n) element list
without_equal (negsuc n) element list = reverse (without_first (suc n) element (reverse list))

-- how many were removed is answered
abbrev pub remove_equal : World → List ℕ → ℤ → List ℕ → Option Elements → Outcome
remove_equal old key n element None = tells_number (pos 0) old
remove_equal old key n element (Some list) =
    let left = without_equal n element list in
    tells_number (pos (length list - length left)) (keep_list old key left)

-- the places, from this one on, of the elements that equal one
abbrev pub places : ℕ → List ℕ → Elements → List ℕ
places at element [] = []
places at element (first ∷ rest) =
    if bytes_eq first element then at ∷ places (suc at) element rest else places (suc at) element rest

-- at most so many of a list, all for 0
abbrev pub at_most : {A : Type 0} → ℕ → List A → List A
at_most zero list = list
at_most (suc n) list = take (suc n) list

-- the end from which a rank counts, and how many matches come before it
abbrev pub end_of_rank : ℤ → ListEnd
end_of_rank (pos n) = Head
end_of_rank (negsuc n) = Tail

abbrev pub before_rank : ℤ → ℕ
before_rank (pos n) = n - 1
before_rank (negsuc n) = n

-- the index of the element that is met at a place from an end
abbrev pub index_from : ListEnd → ℕ → ℕ → ℕ
index_from Head len at = at
index_from Tail len at = len - suc at

-- the indexes of all elements that equal one, from a rank on, among so many elements from its end, all for 0
abbrev pub matches : ℤ → ℕ → List ℕ → Elements → List ℕ
matches rank most element list =
    let end = end_of_rank rank in
    map (index_from end (length list)) (drop (before_rank rank) (places 0 element (at_most most (from_end end list))))

abbrev pub first_match : List ℕ → Part
first_match [] = Null
first_match (index ∷ indexes) = Number (pos index)

-- what is told of these indexes: the first one alone, or an array of at most so many
abbrev pub positions : Option ℕ → List ℕ → List Part
positions None indexes = first_match indexes ∷ []
positions (Some n) indexes =
    Array (length (at_most n indexes)) ∷ map (λ index. Number (pos index)) (at_most n indexes)

-- ---- two lists

-- An element is taken off one list and put at an end of another, or of the same one.
abbrev pub move_first : World → List ℕ → List ℕ → ListEnd → ListEnd → Elements → Elements → Outcome
move_first old from to end other list [] = tells (Null ∷ []) old
move_first old from to end other list (element ∷ met) =
    let rest = from_end end met in
    if bytes_eq from to
    then leaves (Bulk element ∷ []) (keep_list old from (added other rest (element ∷ [])))
    else on_list old to
    (λ before.
    leaves (Bulk element ∷ [])
    (keep_list (keep_list old from rest) to (added other (or_none before) (element ∷ []))))

abbrev pub move_there : World → List ℕ → List ℕ → ListEnd → ListEnd → Option Elements → Outcome
move_there old from to end other None = tells (Null ∷ []) old
move_there old from to end other (Some list) = move_first old from to end other list (from_end end list)

abbrev pub move_element : World → List ℕ → List ℕ → ListEnd → ListEnd → Outcome
move_element old from to end other = on_list old from (move_there old from to end other)

-- ---- each command

-- what a command answers and leaves, in a live world
abbrev pub list_outcome : World → ListCommand → Outcome
list_outcome old (lists.LPush key elements) = push old Head key elements
list_outcome old (lists.RPush key elements) = push old Tail key elements
list_outcome old (lists.LPushX key elements) = push_if_there old Head key elements
list_outcome old (lists.RPushX key elements) = push_if_there old Tail key elements
list_outcome old (lists.LPop key n) = pop old Head key n
list_outcome old (lists.RPop key n) = pop old Tail key n
list_outcome old (lists.LLen key) = on_list old key (λ before. tells_number (pos (length (or_none before))) old)
list_outcome old (lists.LIndex key index) =
    on_list old key
    (λ before. tells (element_at (or_none before) (place_of (length (or_none before)) index) ∷ []) old)
list_outcome old (lists.LSet key index element) = on_list old key (set_at old key index element)
list_outcome old (lists.LRange key a b) =
    on_list old key (λ before. tells (listed (list_range (or_none before) a b)) old)
list_outcome old (lists.LTrim key a b) = on_list old key (trim old key a b)
list_outcome old (lists.LInsert key side pivot element) = on_list old key (insert_beside old key side pivot element)
list_outcome old (lists.LRem key n element) = on_list old key (remove_equal old key n element)
list_outcome old (lists.LPos key element options) =
    on_list old key
    (λ before. tells (positions options.count (matches options.rank options.most element (or_none before))) old)
list_outcome old (lists.LMove from to end other) = move_element old from to end other
list_outcome old (lists.RPopLPush from to) = move_element old from to Tail Head

-- from the world that is live at the moment the command may be answered by this reply, and leave the new world
abbrev pub may_lists : World → ListCommand → List Part → World → Type 0
may_lists old command reply new = IsOutcome (list_outcome old command) reply new
