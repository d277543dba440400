-- What lies in a pool when it is closed.
use Rattle.std.proofs.Common.{◌≡◌, ℕ, ◌<◌, ◌≤◌, List, length, get_or, Option, Some, None, sym, ap, ◌∙◌}
use Rattle.std.proofs.lemmas.Grind.{get_or_default_zero}
use mathlib.Core.Option.{some}
use lib.ListN.{get_elem?}
use Rattle.atomic_table.specs.Table.{Final, Seen}
use Rattle.atomic_table.proofs.Lists.{at_index}
use Rattle.region_pool.specs.declared.law.Known.{Known}
use Rattle.region_pool.specs.declared.law.TheConstants.{MAX_SEATS}
use Rattle.region_pool.specs.Rule.{Kept}
use Rattle.region_pool.proofs.Moves.{all_home}

-- each slot has its region, where one seat without a place has all parts
pub all_there : {R : Type 0} (words : List ℕ) (slots : List (Option R)) (id : ℕ) (v : Known) → Final (Seen Kept id v) words slots → v.place ≡ None → MAX_SEATS ≤ v.parts
    → (place : ℕ) → place < length words → (x : R) × (get_elem? slots place ≡ some (Some x))
all_there words slots id v end empty all place below =
    let s = end.0 in
    let word = ap (λ l. get_elem? l place) end.2 ∙ at_index words place (get_or words place 0) below (sym (get_or_default_zero words place (get_or words place 0) below)) in
    let home = all_home s id v end.1.0 end.1.1 empty all place (get_or words place 0) word in
    (home.0, end.4 place (Some home.0) home.1)
