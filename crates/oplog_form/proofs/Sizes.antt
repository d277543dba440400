-- How many bytes headers and entries have at most.
use Rattle.std.proofs.Common.{◌≡◌, ℕ, ◌*◌, ◌<◌, ◌≤◌, Bool, true, false, cond, ltb, List, [], ◌∷◌, ◌++◌, length, refl, sym, ◌∙◌, arith, length-append}
use Rattle.std.specs.List.{flat_map, AllByRecursion}
use Rattle.std.proofs.lemmas.Bool.{lt-ltb}
use Rattle.std.proofs.lemmas.List.Concat.{flat_map-cons}
use Rattle.commit_book.specs.declared.commit.Commit.{Commit}
use Rattle.commit_book.specs.declared.commit.Commit.TheVariants.{Append, Truncate, Clear, Fetch, Upgrade, UpgradeFetch, Reorg, ReorgFetch}
use Rattle.merkle_nodes.specs.declared.node.Node.{Node}
use Rattle.merkle_nodes.specs.declared.roots.Head.{Head}
use Rattle.merkle_nodes.specs.Bundle.{NodeFits}
use Rattle.compact_enc.specs.declared.marks.TheConstants.{LEAST_U16, LEAST_U32, LEAST_U64}
use Rattle.compact_enc.specs.Spelling.{uint_spelling}
use Rattle.oplog_form.specs.declared.header.Header.{Header}
use Rattle.oplog_form.specs.declared.header.TheConstants.{VERSION, MAX_HEADER_BYTES}
use Rattle.oplog_form.specs.declared.entry.Entry.{Entry}
use Rattle.oplog_form.specs.declared.entry.TheConstants.{MAX_ENTRY_BYTES, MAX_ENTRY_NODES}
use Rattle.oplog_form.specs.declared.commit.TheConstants.{MAX_NUMBER}
use Rattle.oplog_form.specs.Heads.{head_spelling, HeadFits}
use Rattle.oplog_form.specs.Nodes.{root_spelling, record_spelling, roots_spelling, records_spelling, RecordFits}
use Rattle.oplog_form.specs.Commits.{kind_of, pair_spelling, numbers_spelling, commit_spelling, PairFits, CommitFits}
use Rattle.oplog_form.specs.Headers.{header_spelling, HeaderFits}
use Rattle.oplog_form.specs.Entries.{entry_spelling, EntryFits}
use Rattle.oplog_form.proofs.NodeLaws.{few_roots}

cond_most : (b : Bool) (x y : List ℕ) (most : ℕ) → (b ≡ true → length x ≤ most) → (b ≡ false → length y ≤ most) → length (cond b x y) ≤ most
cond_most true x y most p q = p refl
cond_most false x y most p q = q refl

uint_most : (n : ℕ) → length (uint_spelling n) ≤ 9
unfolding uint_spelling
uint_most n =
    cond_most (ltb n LEAST_U16) _ _ 9 (λ is. omega arith) (λ is.
    cond_most (ltb n LEAST_U32) _ _ 9 (λ is. omega arith) (λ is.
    cond_most (ltb n LEAST_U64) _ _ 9 (λ is. omega arith) (λ is. omega arith)))

number_most : (n : ℕ) → n < LEAST_U64 → length (uint_spelling n) ≤ 5
unfolding uint_spelling
number_most n small =
    cond_most (ltb n LEAST_U16) _ _ 5 (λ is. omega arith) (λ is.
    cond_most (ltb n LEAST_U32) _ _ 5 (λ is. omega arith) (λ is.
    cond_most (ltb n LEAST_U64) _ _ 5 (λ is. omega arith) (λ is. let apart : true ≡ false = sym (lt-ltb n LEAST_U64 small) ∙ is in cc)))

head_most : (head : Head) → HeadFits head → length (head_spelling head) ≤ 74
head_most head f =
    omega (
      arith,
      length-append (uint_spelling head.fork) (uint_spelling head.length ++ head.signature),
      length-append (uint_spelling head.length) head.signature,
      number_most head.fork (omega (arith, f.fork)),
      number_most head.length (omega (arith, f.few)),
      f.signature,
    )

root_most : (node : Node) → NodeFits node → length (root_spelling node) ≤ 41
root_most node f = omega (arith, length-append (uint_spelling node.size) node.hash, uint_most node.size, f.hash)

roots_most : (nodes : List Node) → AllByRecursion NodeFits nodes → length (flat_map root_spelling nodes) ≤ 41 * length nodes
roots_most [] fits = omega arith
roots_most (node ∷ nodes) fits =
    rw (flat_map-cons root_spelling node nodes)
    (omega (arith, length-append (root_spelling node) (flat_map root_spelling nodes), root_most node fits.0, roots_most nodes fits.1))

record_most : (node : Node) → RecordFits node → length (record_spelling node) ≤ 46
record_most node f =
    omega (arith, length-append (uint_spelling node.index) (root_spelling node), number_most node.index (omega (arith, f.index)), root_most node f.twig)

records_most : (nodes : List Node) → AllByRecursion RecordFits nodes → length (flat_map record_spelling nodes) ≤ 46 * length nodes
records_most [] fits = omega arith
records_most (node ∷ nodes) fits =
    rw (flat_map-cons record_spelling node nodes)
    (omega (arith, length-append (record_spelling node) (flat_map record_spelling nodes), record_most node fits.0, records_most nodes fits.1))

small_most : (n : ℕ) → n ≤ MAX_NUMBER → length (uint_spelling n) ≤ 5
small_most n small = number_most n (omega (arith, small))

pair_most : (m n : ℕ) → PairFits m n → length (pair_spelling m n) ≤ 10
pair_most m n f = omega (arith, length-append (uint_spelling m) (uint_spelling n), small_most m f.0, small_most n f.1)

numbers_most : (commit : Commit) → CommitFits commit → length (numbers_spelling commit) ≤ 20
numbers_most (Append count) f = omega (arith, small_most count f)
numbers_most (Truncate to fork) f = omega (arith, pair_most to fork f)
numbers_most (Clear from to) f = omega (arith, pair_most from to f)
numbers_most (Fetch index) f = omega (arith, small_most index f)
numbers_most (Upgrade to) f = omega (arith, small_most to f)
numbers_most (UpgradeFetch to index) f = omega (arith, pair_most to index f)
numbers_most (Reorg fork to kept) f = omega (arith, length-append (uint_spelling fork) (pair_spelling to kept), small_most fork f.0, pair_most to kept f.1)
numbers_most (ReorgFetch fork to kept index) f = omega (arith, length-append (pair_spelling fork to) (pair_spelling kept index), pair_most fork to f.0, pair_most kept index f.1)

-- a header has its version, two hashes, a head, and its roots behind their number
pub header_most : (h : Header) → HeaderFits h → length (header_spelling h) ≤ MAX_HEADER_BYTES
unfolding header_spelling
header_most h f =
    omega (
      arith,
      length-append (uint_spelling VERSION) (h.id ++ (head_spelling h.head ++ (roots_spelling h.roots ++ h.bits))),
      length-append h.id (head_spelling h.head ++ (roots_spelling h.roots ++ h.bits)),
      length-append (head_spelling h.head) (roots_spelling h.roots ++ h.bits),
      length-append (roots_spelling h.roots) h.bits,
      length-append (uint_spelling (length h.roots)) (flat_map root_spelling h.roots),
      uint_most VERSION,
      f.id,
      head_most h.head f.head,
      uint_most (length h.roots),
      roots_most h.roots f.roots,
      few_roots h.roots h.head.length f.shape f.head.few,
      f.bits,
    )

-- an entry has a kind, at most four numbers, a head, and its records behind their number
pub entry_most : (e : Entry) → EntryFits e → length e.records ≤ MAX_ENTRY_NODES → length (entry_spelling e) ≤ MAX_ENTRY_BYTES
unfolding entry_spelling
entry_most e f few =
    omega (
      arith,
      length-append (commit_spelling e.commit) (head_spelling e.head ++ records_spelling e.records),
      length-append (uint_spelling (kind_of e.commit)) (numbers_spelling e.commit),
      length-append (head_spelling e.head) (records_spelling e.records),
      length-append (uint_spelling (length e.records)) (flat_map record_spelling e.records),
      uint_most (kind_of e.commit),
      numbers_most e.commit f.commit,
      head_most e.head f.head,
      uint_most (length e.records),
      records_most e.records f.records,
      few,
    )
