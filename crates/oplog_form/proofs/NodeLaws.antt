-- Roots and records: what is read is spelled so, and what is spelled so is read, whatever follows.
use Rattle.std.proofs.Common.{◌≡◌, ℕ, zero, suc, ◌^◌, ◌-◌, ◌+◌, ◌≤◌, leb, List, [], ◌∷◌, ◌++◌, length, map, refl, sym, ap, subst, ◌∙◌, arith, lit<}
use Rattle.std.proofs.lemmas.Bool.{leb-true, le-leb}
use Rattle.std.proofs.lemmas.List.{length-map}
use Rattle.std.proofs.lemmas.List.Concat.{flat_map-cons}
use Rattle.std.specs.List.{flat_map, AllByRecursion}
use Rattle.flat_tree.specs.Subtrees.{Subtree, number, numbers_of}
use Rattle.flat_tree.specs.Roots.{full_roots_of}
use Rattle.flat_tree.specs.declared.limits.TheConstants.{MAX_CORE_BYTES, MAX_BLOCKS, MAX_ROOTS}
use Rattle.flat_tree.proofs.RootLemmas.{length-full}
use Rattle.merkle_nodes.specs.declared.node.Node.{Node}
use Rattle.merkle_nodes.specs.declared.node.Twig.{Twig}
use Rattle.merkle_nodes.specs.Roots.{twig_of, HasShape}
use Rattle.merkle_nodes.specs.Bundle.{TwigFits, NodeFits}
use Rattle.compact_enc.specs.Spelling.{uint_spelling}
use Rattle.compact_enc.specs.Reading.{IsBytes}
use Rattle.compact_enc.specs.Input.{Input}
use Rattle.compact_enc.proofs.Steps.{if_read, if_more, if_test}
use Rattle.compact_enc.proofs.Inputs.{Passed, Passed-then, ReadsBack, again_then, again_last, again_tested, again_nothing}
use Rattle.oplog_form.specs.declared.commit.TheConstants.{MAX_NUMBER}
use Rattle.oplog_form.specs.Form.{number_of, fixed_in, just_of}
use Rattle.oplog_form.specs.Nodes.{root_spelling, record_spelling, roots_spelling, records_spelling, RecordFits, Rise, twig_in, nodes_in, roots_in, index_in, record_in, rising_in, records_in}
use Rattle.oplog_form.proofs.FieldLaws.{FieldPasses, number_passes, fixed_in_passes, just_passes, number_again, fixed_in_again, just_again}

-- ---- what is read is spelled so

-- nothing stood in front
nothing_passes : (input : Input) → IsBytes input.rest → Passed input [] input
nothing_passes input fits = record { parts = refl; fits = fits }

abbrev twig_spelling : Twig → List ℕ
twig_spelling twig = uint_spelling twig.size ++ twig.hash

twig_passes : FieldPasses twig_in twig_spelling TwigFits
unfolding twig_in
twig_passes input fits =
    if_read (number_of MAX_CORE_BYTES input) _ _ _ (number_passes MAX_CORE_BYTES input fits) (λ size s.
    if_read (fixed_in 32 size.1) _ _ _ (fixed_in_passes 32 size.1 s.0.fits) (λ hash h.
    (Passed-then input size.1 hash.1 (uint_spelling size.0) hash.0 s.0 h.0, record { size = s.1; hash = h.1 })))

nodes_pass : (numbers : List ℕ) → FieldPasses (nodes_in numbers) (λ nodes. flat_map root_spelling nodes) (λ nodes. (map (λ (node : Node). node.index) nodes ≡ numbers) × AllByRecursion NodeFits nodes)
unfolding nodes_in
nodes_pass [] input fits = (nothing_passes input fits, (refl, tt))
nodes_pass (index ∷ numbers) input fits =
    if_read (twig_in input) _ _ _ (twig_passes input fits) (λ twig t.
    if_read (nodes_in numbers twig.1) _ _ _ (nodes_pass numbers twig.1 t.0.fits) (λ others o. (
      rw flat_map-cons (Passed-then input twig.1 others.1 (twig_spelling twig.0) (flat_map root_spelling others.0) t.0 o.0),
      (ap (λ l. index ∷ l) o.1.0, (record { size = t.1.size; hash = t.1.hash }, o.1.1)),
    )))

-- as many as there are numbers
shape_length : (nodes : List Node) (blocks : ℕ) → HasShape nodes blocks → length nodes ≡ length (full_roots_of blocks)
shape_length nodes blocks shape =
    sym (length-map nodes (λ (node : Node). node.index)) ∙ ap length shape ∙ length-map (full_roots_of blocks) (λ (tree : Subtree). number tree.depth tree.offset)

pub few_roots : (nodes : List Node) (blocks : ℕ) → HasShape nodes blocks → blocks ≤ MAX_BLOCKS → length nodes ≤ MAX_ROOTS
few_roots nodes blocks shape within = omega (arith, shape_length nodes blocks shape, length-full MAX_ROOTS blocks (lit< tt) within)

pub roots_pass : (blocks : ℕ) → FieldPasses (roots_in blocks) roots_spelling (λ nodes. HasShape nodes blocks × AllByRecursion NodeFits nodes)
unfolding roots_in
roots_pass blocks input fits =
    if_read (just_of (length (full_roots_of blocks)) input) _ _ _ (just_passes (length (full_roots_of blocks)) input fits) (λ count c.
    if_more (nodes_in (numbers_of (full_roots_of blocks)) count.1) _ _ (nodes_pass (numbers_of (full_roots_of blocks)) count.1 c.0.fits) (λ x n.
    (subst (λ k. Passed input (uint_spelling k ++ flat_map root_spelling x.0) x.1) (c.1 ∙ sym (shape_length x.0 blocks n.1.0)) (Passed-then input count.1 x.1 (uint_spelling count.0) (flat_map root_spelling x.0) c.0 n.0), n.1)))

record_passes : (least : ℕ) → FieldPasses (record_in least) record_spelling (λ node. (least ≤ node.index) × RecordFits node)
unfolding record_in index_in
record_passes least input fits =
    if_read (index_in least input) _ _ _
    (if_read (number_of MAX_NUMBER input) _ _ (λ x. Passed input (uint_spelling x.0) x.1 × (least ≤ x.0) × (x.0 ≤ MAX_NUMBER)) (number_passes MAX_NUMBER input fits) (λ index i.
    if_test (leb least index.0) index _ _ (λ above. (i.0, leb-true _ _ above, i.1)))) (λ index i.
    if_read (twig_in index.1) _ _ _ (twig_passes index.1 i.0.fits) (λ twig t.
    (Passed-then input index.1 twig.1 (uint_spelling index.0) (twig_spelling twig.0) i.0 t.0, (i.1, record { index = i.2; twig = record { size = t.1.size; hash = t.1.hash } }))))

rising_pass : (count least : ℕ) → FieldPasses (rising_in count least) (λ nodes. flat_map record_spelling nodes) (λ nodes. (length nodes ≡ count) × AllByRecursion RecordFits nodes × Rise least nodes)
unfolding rising_in
rising_pass zero least input fits = (nothing_passes input fits, (refl, tt, tt))
rising_pass (suc count) least input fits =
    if_read (record_in least input) _ _ _ (record_passes least input fits) (λ node n.
    if_read (rising_in count (suc node.0.index) node.1) _ _ _ (rising_pass count (suc node.0.index) node.1 n.0.fits) (λ others o. (
      rw flat_map-cons (Passed-then input node.1 others.1 (record_spelling node.0) (flat_map record_spelling others.0) n.0 o.0),
      (ap suc o.1.0, (n.1.1, o.1.1), (n.1.0, o.1.2)),
    )))

pub records_pass : FieldPasses records_in records_spelling (λ nodes. AllByRecursion RecordFits nodes × Rise 0 nodes)
unfolding records_in
records_pass input fits =
    if_read (number_of (2 ^ 64 - 1) input) _ _ _ (number_passes (2 ^ 64 - 1) input fits) (λ count c.
    if_more (rising_in count.0 0 count.1) _ _ (rising_pass count.0 0 count.1 c.0.fits) (λ x r.
    (subst (λ k. Passed input (uint_spelling k ++ flat_map record_spelling x.0) x.1) (sym r.1.0) (Passed-then input count.1 x.1 (uint_spelling count.0) (flat_map record_spelling x.0) c.0 r.0), (r.1.1, r.1.2))))

-- ---- what is spelled so is read

twig_again : (node : Node) → NodeFits node → ReadsBack twig_in (twig_of node) (root_spelling node)
unfolding twig_in
twig_again node fits =
    again_then (number_of MAX_CORE_BYTES) _ node.size (twig_of node) (uint_spelling node.size) node.hash (number_again MAX_CORE_BYTES node.size fits.size (omega (arith, fits.size)))
    (again_last (fixed_in 32) (λ hash. record { size = node.size; hash = hash }) node.hash node.hash (fixed_in_again 32 node.hash fits.hash))

nodes_again : (nodes : List Node) → AllByRecursion NodeFits nodes → ReadsBack (nodes_in (map (λ (node : Node). node.index) nodes)) nodes (flat_map root_spelling nodes)
unfolding nodes_in
nodes_again [] fits = again_nothing []
nodes_again (node ∷ nodes) fits =
    subst (ReadsBack (nodes_in (node.index ∷ map (λ (n : Node). n.index) nodes)) (node ∷ nodes)) (sym (flat_map-cons root_spelling node nodes))
    (again_then twig_in _ (twig_of node) (node ∷ nodes) (root_spelling node) (flat_map root_spelling nodes) (twig_again node fits.0)
    (again_last (nodes_in (map (λ (n : Node). n.index) nodes)) (λ others. node ∷ others) nodes (flat_map root_spelling nodes) (nodes_again nodes fits.1)))

pub roots_again : (blocks : ℕ) (nodes : List Node) → blocks ≤ MAX_BLOCKS → HasShape nodes blocks → AllByRecursion NodeFits nodes → ReadsBack (roots_in blocks) nodes (roots_spelling nodes)
unfolding roots_in
roots_again blocks nodes within shape fits =
    let count = length (full_roots_of blocks) in
    let as_many : length nodes ≡ count = shape_length nodes blocks shape in
    subst (λ k. ReadsBack (roots_in blocks) nodes (uint_spelling k ++ flat_map root_spelling nodes)) (sym as_many)
    (again_then (just_of count) _ count nodes (uint_spelling count) (flat_map root_spelling nodes) (just_again count (omega (arith, as_many, few_roots nodes blocks shape within)))
    (subst (λ numbers. ReadsBack (nodes_in numbers) nodes (flat_map root_spelling nodes)) shape (nodes_again nodes fits)))

index_again : (least n : ℕ) → least ≤ n → n ≤ MAX_NUMBER → ReadsBack (index_in least) n (uint_spelling n)
unfolding index_in
index_again least n above small input more is =
    again_tested (number_of MAX_NUMBER) (λ m. leb least m) (λ m. m) (λ i. record { at = input.place }) n (uint_spelling n)
    (number_again MAX_NUMBER n small (omega (arith, small))) (le-leb least n above) input more is

record_again : (least : ℕ) (node : Node) → least ≤ node.index → RecordFits node → ReadsBack (record_in least) node (record_spelling node)
unfolding record_in
record_again least node above fits =
    again_then (index_in least) _ node.index node (uint_spelling node.index) (root_spelling node) (index_again least node.index above fits.index)
    (again_last twig_in (λ twig. record { index = node.index; size = twig.size; hash = twig.hash }) (twig_of node) (root_spelling node) (twig_again node fits.twig))

rising_again : (nodes : List Node) (least : ℕ) → AllByRecursion RecordFits nodes → Rise least nodes → ReadsBack (rising_in (length nodes) least) nodes (flat_map record_spelling nodes)
unfolding rising_in
rising_again [] least fits rise = again_nothing []
rising_again (node ∷ nodes) least fits rise =
    subst (ReadsBack (rising_in (suc (length nodes)) least) (node ∷ nodes)) (sym (flat_map-cons record_spelling node nodes))
    (again_then (record_in least) _ node (node ∷ nodes) (record_spelling node) (flat_map record_spelling nodes) (record_again least node rise.0 fits.0)
    (again_last (rising_in (length nodes) (suc node.index)) (λ others. node ∷ others) nodes (flat_map record_spelling nodes) (rising_again nodes (suc node.index) fits.1 rise.1)))

-- numbers that rise are no more than the range has
pub rising_few : (nodes : List Node) (least : ℕ) → AllByRecursion RecordFits nodes → Rise least nodes → least ≤ MAX_NUMBER + 1 → least + length nodes ≤ MAX_NUMBER + 1
rising_few [] least fits rise small = omega (arith, small)
rising_few (node ∷ nodes) least fits rise small =
    omega (arith, rise.0, fits.0.index, rising_few nodes (suc node.index) fits.1 rise.1 (omega (arith, fits.0.index)))

pub records_again : (nodes : List Node) → AllByRecursion RecordFits nodes → Rise 0 nodes → ReadsBack records_in nodes (records_spelling nodes)
unfolding records_in
records_again nodes fits rise =
    let few = rising_few nodes 0 fits rise (omega arith) in
    again_then (number_of (2 ^ 64 - 1)) _ (length nodes) nodes (uint_spelling (length nodes)) (flat_map record_spelling nodes) (number_again (2 ^ 64 - 1) (length nodes) (omega (arith, few)) (omega (arith, few)))
    (rising_again nodes 0 fits rise)
