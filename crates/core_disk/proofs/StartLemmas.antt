-- What a header and its copy of the held blocks give.
use Rattle.std.proofs.Common.{◌≡◌, inl, inr, ℕ, ◌<◌, Bool, true, false, cond, List, Ok, Err, None, sym, ap, ◌∙◌}
use Rattle.std.specs.Str.{bytes_eq}
use Rattle.std.proofs.lemmas.Bool.{cases_lt}
use mathlib.Core.Path.{fun_ext}
use Rattle.bit_field.specs.Places.{has}
use Rattle.node_set.specs.declared.fault.CoreFault.{CoreFault}
use Rattle.node_set.specs.declared.fault.CoreFault.TheVariants.{Memory, StoreFault, Damaged}
use Rattle.node_set.specs.declared.fault.Place.TheVariants.{BitsCopy}
use Rattle.oplog_form.specs.declared.header.Header.{Header}
use Rattle.core_disk.specs.Opened.{Opened, start_of}
use Rattle.core_disk.specs.Areas.{Areas, copy_of, copy_hash, held_in, tree_values}
use Rattle.core_disk.specs.Copying.{IsSpareFrom, TellsCopy}
use Rattle.core_disk.specs.Starting.{with_tree, IsStart, Starts}

-- what is held is below the bound
pub spare_below : (n : ℕ) (held : ℕ → Bool) → IsSpareFrom n held → (index : ℕ) → held index ≡ true → index < n
spare_below n held spare index is = elim (cases_lt index n) [
  | inl lt ↦ lt
  | inr ge ↦ let clash : true ≡ false = sym is ∙ spare index ge in cc
]

module _ (id : List ℕ) (epoch : ℕ) (header : Header) (areas : Areas) (own : bytes_eq header.id id ≡ true) where
  pub starts_ok : (held : List Bool) (o : Opened) → o ≡ start_of header (has held) (λ depth offset. None)
      → TellsCopy epoch header.bits areas header.head.length (Ok held) → IsStart id epoch header (areas (copy_of epoch)) o
  starts_ok held o is told = record {
    own = own;
    gives = λ tree.
        ap (λ b. cond b (Ok (start_of header (held_in (areas (copy_of epoch)) header.head.length) (tree_values tree)))
        (Err (Damaged (BitsCopy (copy_of epoch)) header.bits (copy_hash (held_in (areas (copy_of epoch)) header.head.length) header.head.length)))) told.1
        ∙ ap (λ h. Ok (start_of header h (tree_values tree))) (sym (fun_ext told.0))
        ∙ ap (λ (p : Opened). Ok (with_tree tree p)) (sym is);
    bare = λ depth offset. ap (λ (p : Opened). p.nodes depth offset) is;
  }

  pub starts_err : (fault : CoreFault) → TellsCopy epoch header.bits areas header.head.length (Err fault) → Starts id epoch header areas (Err fault)
  starts_err Memory told = tt
  starts_err StoreFault told = tt
  starts_err (Damaged place want have) told = (
    own,
    λ tree.
        ap (λ b. cond b (Ok (start_of header (held_in (areas (copy_of epoch)) header.head.length) (tree_values tree)))
        (Err (Damaged (BitsCopy (copy_of epoch)) header.bits (copy_hash (held_in (areas (copy_of epoch)) header.head.length) header.head.length))))
        (ap (bytes_eq header.bits) (sym told.2) ∙ told.3)
        ∙ ap (λ p. Err (Damaged p header.bits (copy_hash (held_in (areas (copy_of epoch)) header.head.length) header.head.length))) (sym told.0)
        ∙ ap (λ w. Err (Damaged place w (copy_hash (held_in (areas (copy_of epoch)) header.head.length) header.head.length))) (sym told.1)
        ∙ ap (λ h. Err (Damaged place want h)) (sym told.2),
  )
  starts_err other told = absurd told
