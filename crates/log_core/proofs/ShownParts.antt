-- What parts in memory show, as they are and after a change.
use Rattle.std.proofs.Common.{◌≡◌, ℕ, Bool, true, false, ◌<◌, inl, inr, List, [], length, refl, sym, ap, ◌∙◌, arith}
use Rattle.std.specs.Prelude.{is_some}
use Rattle.std.proofs.lemmas.Bool.{cases_Bool}
use Rattle.std.proofs.lemmas.Option.{slice_get-get_or}
use mathlib.Core.Path.{fun_ext}
use Rattle.bit_field.specs.Places.{has}
use Rattle.node_set.specs.Contents.{Content, Blocks, Values, holds}
use Rattle.node_set.specs.Closure.{in_closure, closed_on}
use Rattle.node_set.specs.Nodes.{values_of}
use Rattle.node_set.specs.Tables.{Parts, shown}
use Rattle.node_set.specs.Changes.{content_on}

-- as many blocks as the length, and no place set past it
pub record FitParts (parts : Parts) : Type 0 where
  pub spare : (index : ℕ) → has parts.held index ≡ true → index < parts.head.length
  pub blocks : length parts.blocks ≡ parts.head.length

-- the blocks that are shown are those of the places set
pub shown_held : (parts : Parts) → FitParts parts → (index : ℕ) → holds (shown parts).block index ≡ has parts.held index
shown_held parts fit index = elim (cases_Bool (has parts.held index)) [
  | inl here ↦
      let within : index < length parts.blocks = omega (arith, fit.blocks, fit.spare index here) in
      rw here (ap is_some (slice_get-get_or parts.blocks index [] within))
  | inr none ↦ rw none refl
]

-- two contents with one head, one set of blocks and the same nodes in the closure
same_content : (fork n : ℕ) (signature : List ℕ) (one other : Blocks) (values joins : Values) → ((index : ℕ) → one index ≡ other index)
    → ((depth offset : ℕ) → in_closure n (holds one) depth offset ≡ true → values depth offset ≡ joins depth offset)
    → content_on fork n signature one values ≡ content_on fork n signature other joins
same_content fork n signature one other values joins blocks nodes =
    let same : one ≡ other = fun_ext blocks in
    let closed : closed_on n (holds one) values ≡ closed_on n (holds one) joins = fun_ext (λ depth. fun_ext (λ offset. here depth offset)) in
    ap (content_with one) closed ∙ ap (λ (b : Blocks). content_on fork n signature b joins) same
  where
    content_with : Blocks → Values → Content
    content_with b value = record { fork = fork; length = n; signature = signature; block = b; node = value }

    here : (depth offset : ℕ) → closed_on n (holds one) values depth offset ≡ closed_on n (holds one) joins depth offset
    here depth offset = elim (cases_Bool (in_closure n (holds one) depth offset)) [
      | inl test ↦ rw test (nodes depth offset test)
      | inr past ↦ rw past refl
    ]

-- the parts show the content of their head, their blocks and their values
pub shown_on : (parts : Parts) → FitParts parts
    → shown parts ≡ content_on parts.head.fork parts.head.length parts.head.signature (shown parts).block (values_of parts.nodes)
shown_on parts fit =
    ap (λ (set : ℕ → Bool). record (shown parts) { node = closed_on parts.head.length set (values_of parts.nodes) })
    (sym (fun_ext (shown_held parts fit)))

-- a value that is stored is the one on hand
pub on_hand : (n : ℕ) (set : ℕ → Bool) (value : Values) (depth offset : ℕ) → is_some (closed_on n set value depth offset) ≡ true
    → closed_on n set value depth offset ≡ value depth offset
on_hand n set value depth offset some = elim (cases_Bool (in_closure n set depth offset)) [
  | inl test ↦ rw test refl
  | inr past ↦ let none : is_some (closed_on n set value depth offset) ≡ false = rw past refl in cc
]
