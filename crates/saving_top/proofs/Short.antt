-- The words of frames are short.
use Rattle.std.proofs.Common.{◌≡◌, ◌<◌, ℕ, List, [], ◌∷◌, ◌++◌, length, subst, arith}
use Rattle.std.specs.List.{AllByRecursion}
use Rattle.fit_worlds.specs.Fit.{AreShort}
use Rattle.plain_world.specs.Words.{Words}
use Rattle.resp_frames.proofs.Giving.{all_append}
use Rattle.resp_frames.proofs.Parts.{line_request}
use Rattle.resp_frames.specs.Ends.{End, Frames}
use Rattle.resp_frames.specs.Frames.{Item, Asked, Passed, Line, IsItem, asked, asked_inline, line_words, requests}

inline_short : (words : Words) → (0 < length words → AreShort words) → AllByRecursion AreShort (asked_inline words)
inline_short [] short = tt
inline_short (word ∷ words) short = (short (omega arith), tt)

item_short : (item : Item) → IsItem item → AllByRecursion AreShort (asked item)
item_short (Asked words) is = (is.each, tt)
item_short (Passed text) is = tt
item_short (Line text) is = inline_short (line_words text) (λ some. (line_request text is.0.short some).each)

items_short : (items : List Item) → AllByRecursion IsItem items → AllByRecursion AreShort (requests items)
items_short [] each = tt
items_short (item ∷ items) each = all_append AreShort (asked item) (requests items) (item_short item each.0) (items_short items each.1)

pub frames_short : (bytes : List ℕ) (asked : List Words) (end : End) → Frames bytes asked end → AllByRecursion AreShort asked
frames_short bytes asked end f = subst (AllByRecursion AreShort) f.are (items_short f.items f.framed.each)

-- so are those of the first of the requests
all_front : (front others : List Words) → AllByRecursion AreShort (front ++ others) → AllByRecursion AreShort front
all_front [] others short = tt
all_front (words ∷ front) others short = (short.0, all_front front others short.1)

pub front_short : (asked front others : List Words) → asked ≡ front ++ others → AllByRecursion AreShort asked → AllByRecursion AreShort front
front_short asked front others split short = all_front front others (subst (AllByRecursion AreShort) split short)
