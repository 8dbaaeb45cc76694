-- `get_mut` meets its contract, for every element type.
use prog.Wp.{Tables}
use contract.Running.{tables, tables_of}
use denote.Triple.Carry.{spared}
use denote.Triple.Clauses.{closing}
use denote.Triple.Spec.{triple_of}
use denote.Triple.Table.{entered, run_framed}
use Rattle.class_heap.proofs.HeldForm.{Bx, args}
use Rattle.class_heap.proofs.HeldAsMut.{fn', ended, spec, meets}
use Rattle.class_heap.specs.contracts.held.Held.get_mut.Key.{name as #self}
use Rattle.class_heap.proofs.held.Held.get_mut.Statement as stated
use Rattle.class_heap.proofs.held.Held.get_mut.Code as code

pub get_mut_spec : {M : Type 1} → stated.statement M
unfolding tables_of
get_mut_spec 𝓤 𝓛 𝓜 𝓡 wired Y Z L LZ g d dd met md y =
    let E : Bx = record { row = Y; laws = L; al = record { row = Z; laws = LZ; g = g; d = d; drops = dd } } in
    let A = 𝓛.A in
    let 𝓣 : Tables 𝓤 𝓛.H = tables_of 𝓤 𝓛.H 𝓜 (tables 𝓤 𝓛.H 𝓜 𝓡 𝓡.env) in
    spared 𝓛 (ended E).signature (𝓡.run (𝓡.env (#self (args E)))) (run_framed 𝓤 𝓛.H 𝓜 𝓡 (𝓡.env (#self (args E)))) 2 (Y.lives, (Z.lives, tt)) (closing 𝓛 (ended E) (spec E 𝓛))
    (entered 𝓤 𝓛.H (triple_of 𝓛 (ended E).signature (closing 𝓛 (ended E) (spec E 𝓛))) 𝓣.C 𝓣.Λ (#self (args E)) (fn' E) (code.unfolded 𝓤 𝓛.H 𝓜 𝓡 wired (Y, (Z, tt)) d dd) (meets E 𝓛 𝓣))
    ((y.0.0, y.0.1, tt, y.0.3, y.0.4), y.1)
