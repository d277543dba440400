-- A new store stands for the content that was never changed, and is firm once it is made.
use Rattle.std.proofs.Common.{◌≡◌, ℕ, Bool, true, false, List, [], length, replicate, ap, Ok, refl, sym, ◌∙◌, arith}
use Rattle.std.specs.Str.{bytes_eq}
use Rattle.std.proofs.lemmas.Bool.{le-ltb}
use Rattle.std.proofs.lemmas.Slice.Eq.{bytes_eq-Decides}
use Rattle.blake2b_hash.specs.Blake2b.{hash_of}
use Rattle.blake2b_hash.proofs.Hashes.{length_hash_of}
use Rattle.bit_field.specs.Pages.{bytes_from}
use Rattle.flat_tree.specs.Roots.{full_roots_of, roots_below}
use Rattle.disk_trait.specs.declared.disk.Area.TheVariants.{Oplog, Tree, BitsA, BitsB}
use Rattle.disk_trait.specs.Disk.{DiskView}
use Rattle.merkle_nodes.specs.Joined.{Values}
use Rattle.oplog_form.specs.declared.header.Header.{Header}
use Rattle.merkle_nodes.specs.declared.node.Node.{Node}
use Rattle.oplog_form.specs.Headers.{HeaderFits, header_spelling, header_in, header_of}
use Rattle.oplog_form.proofs.FieldLaws.{whole_again}
use Rattle.oplog_form.proofs.PayloadLaws.{header_again}
use Rattle.oplog_file.specs.Files.{IsFile}
use Rattle.oplog_file.specs.Writers.{Place, IsInFront, new_file}
use Rattle.node_set.specs.Contents.{start}
use Rattle.node_set.proofs.StoredTest.{past_closure}
use Rattle.core_state.proofs.StartLemmas.{start_whole}
use Rattle.core_disk.specs.Opened.{Opened, start_of}
use Rattle.core_disk.specs.Areas.{Areas, tree_values, held_in, copy_of, new_header, entries_give, file_gives}
use Rattle.core_disk.specs.Standing.{IsOpenedAs, StandsFor}
use Rattle.core_disk.specs.Laid.{IsRooted}
use Rattle.core_disk.specs.Firm.{IsFirmFor}
use Rattle.core_disk.specs.Parts.{HasNewFile}

pub new_header_fits : (id : List ℕ) → length id ≡ 32 → HeaderFits (new_header id)
unfolding full_roots_of roots_below
new_header_fits id is = record {
  id = is;
  head = record { fork = omega arith; few = omega arith; signature = refl };
  shape = refl;
  roots = tt;
  bits = length_hash_of _;
}

module _ (id : List ℕ) (areas : Areas) (is : length id ≡ 32) where
  abbrev first : Opened
  first = start_of (new_header id) (held_in (areas (copy_of 0)) 0) (tree_values (areas Tree))

  first_gives : file_gives id areas (new_file (header_spelling (new_header id))) ≡ Ok first
  unfolding bytes_from entries_give
  first_gives =
      let read : header_of (header_spelling (new_header id)) ≡ Ok (new_header id) =
      whole_again header_in (new_header id) (header_spelling (new_header id)) (header_again (new_header id) (new_header_fits id is)) in
      let own : bytes_eq id id ≡ true = (bytes_eq-Decides id id).1 refl in
      let bits : bytes_eq (new_header id).bits (new_header id).bits ≡ true = (bytes_eq-Decides (new_header id).bits (new_header id).bits).1 refl in
      rw (read, own, bits) refl

  pub first_opened_as : IsOpenedAs first start
  unfolding full_roots_of roots_below
  first_opened_as = record {
    head = refl;
    roots_are = refl;
    held_are = λ index. rw (le-ltb index 0 (omega arith)) refl;
    nodes = λ depth offset test. let clash : true ≡ false = sym test ∙ past_closure 0 (λ index. false) depth offset (omega arith) in cc;
  }

  pub new_store_stands : (accepts : List ℕ → List ℕ → Bool) → IsFile (areas Oplog) (new_file (header_spelling (new_header id))) → StandsFor accepts id areas start
  new_store_stands accepts is_file = record {
    whole = start_whole accepts;
    file = new_file (header_spelling (new_header id));
    is_file = is_file;
    opened = first;
    gives = first_gives;
    opened_as = first_opened_as;
    blocks = λ index bytes there. cc;
  }

-- its header
pub new_header_is : (id bits : List ℕ) (roots : List Node) → roots ≡ [] → bits ≡ hash_of []
    → record { id = id; head = record { fork = 0; length = 0; signature = replicate 64 0 }; roots = roots; bits = bits } ≡ new_header id
unfolding bytes_from
new_header_is id bits roots none hash =
    ap (λ (ns : List Node). header_with ns bits) none ∙ ap (header_with []) hash
  where
    header_with : List Node → List ℕ → Header
    header_with ns bits = record { id = id; head = record { fork = 0; length = 0; signature = replicate 64 0 }; roots = ns; bits = bits }

-- what is in memory of it
pub start_opened : (id : List ℕ) (held : ℕ → Bool) (nodes : Values) → ((index : ℕ) → held index ≡ false) → IsOpenedAs (start_of (new_header id) held nodes) start
unfolding full_roots_of roots_below
start_opened id held nodes none = record {
  head = refl;
  roots_are = refl;
  held_are = none;
  nodes = λ depth offset test. let clash : true ≡ false = sym test ∙ past_closure 0 (λ index. false) depth offset (omega arith) in cc;
}

pub start_rooted : (id : List ℕ) (held : ℕ → Bool) (nodes : Values) → IsRooted (start_of (new_header id) held nodes)
unfolding full_roots_of roots_below
start_rooted id held nodes = refl

pub firm_new : (accepts : List ℕ → List ℕ → Bool) (id : List ℕ) (disk : DiskView) (place : Place) → length id ≡ 32 → IsInFront place 0
    → HasNewFile (header_spelling (new_header id)) disk → IsFirmFor accepts id disk place start
firm_new accepts id disk place is front has = record {
  whole = start_whole accepts;
  file = new_file (header_spelling (new_header id));
  behind = record { epoch = front.epoch_is; count = front.none; used = front.unused };
  is_file = has.is_file;
  trim = has.trim;
  firm_file = has.firm_file;
  opened = first id disk.reads is;
  gives = first_gives id disk.reads is;
  opened_as = first_opened_as id disk.reads is;
  blocks = λ c image index bytes there. cc;
  tree = (has.cleared Tree (omega arith)).synced;
  bits_a = (has.cleared BitsA (omega arith)).synced;
  bits_b = (has.cleared BitsB (omega arith)).synced;
}
