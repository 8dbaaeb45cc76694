-- What callers see of a checked listpack.
use Rattle.std.specs.Prelude.{ℕ, List}
use Rattle.listpack.specs.declared.sought.Sought.{Sought}
use Rattle.listpack.specs.declared.walks.Pack.{Pack}
use Rattle.listpack.specs.Pack.{texts}

-- its bytes
abbrev pub bytes_of : Pack → List ℕ
bytes_of p = p.bytes.now

-- its elements, each by its text
abbrev pub list_of : Pack → List (List ℕ)
list_of p = texts (bytes_of p)

-- the text that is looked for
abbrev pub sought_text : Sought → List ℕ
sought_text s = s.text.now
