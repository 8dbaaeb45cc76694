-- Elements removed that equal one.
use Rattle.std.specs.Prelude.{◌≡◌, ℕ, suc, ℤ, pos, negsuc, List}
use Rattle.object_codec.specs.declared.form.Form.{Form}
use Rattle.quicklist.specs.declared.reach.End.{End}
use Rattle.quicklist.specs.declared.reach.End.TheVariants.{Head, Tail}
use Rattle.quicklist.specs.Equal.{Removes}
use Rattle.plain_model.specs.ListSteps.{Elements}

-- the end from which a count removes: a positive one from the head, a negative one from the tail (Redis command reference,
-- LREM)
abbrev pub end_from : ℤ → End
end_from (pos n) = Head
end_from (negsuc n) = Tail

-- how many it removes at most, all for 0
abbrev pub most_of : ℤ → ℕ
most_of (pos n) = n
most_of (negsuc n) = suc n

-- so many elements that equal the text were taken out, and the form stays
pub record TakesOut (text : List ℕ) (end : End) (wanted many : ℕ) (old : Elements) (from : Form) (new : Elements) (form : Form)
    : Type 0 where
  pub removes : Removes text end wanted many old new
  pub form_is : form ≡ from
