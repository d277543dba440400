-- An append that is decided over a view is planned.
use Rattle.std.proofs.Common.{◌≡◌, ℕ, Bool, ◌+◌, ◌≤◌, List, [], ◌∷◌, length, map, Option, Some, None, Err, refl, sym, ap, subst, ◌∙◌, arith}
use Rattle.std.specs.Prelude.{IsTrue}
use Rattle.std.specs.List.{AllByRecursion}
use Rattle.std.proofs.lemmas.Bool.{leb-false}
use Rattle.std.proofs.lemmas.List.Sorted.{IsPermutation-refl}
use Rattle.flat_tree.specs.Subtrees.{Subtree, number, numbers_of}
use Rattle.flat_tree.specs.Roots.{full_roots_of}
use Rattle.flat_tree.specs.declared.limits.TheConstants.{MAX_BLOCKS, MAX_BATCH_BLOCKS}
use Rattle.flat_tree.proofs.NumberLemmas.{number_below}
use Rattle.commit_book.specs.declared.commit.Commit.TheVariants.{Append}
use Rattle.merkle_nodes.specs.declared.limit.Limit.{Limit}
use Rattle.merkle_nodes.specs.declared.node.Node.{Node}
use Rattle.merkle_nodes.specs.declared.roots.Head.{Head}
use Rattle.merkle_nodes.specs.Joined.{Values, joined, with_blocks}
use Rattle.merkle_nodes.specs.Nodes.{AreNodes, node_in, bytes_under}
use Rattle.merkle_nodes.specs.Roots.{root_hash_of, signed_text}
use Rattle.merkle_nodes.proofs.JoinedValues.{EndBy}
use Rattle.merkle_batch.specs.Batch.{BatchView, HasBlocks, SizeFits, empty_on, grown, made_with}
use Rattle.merkle_batch.proofs.Made.{made_with-end}
use Rattle.oplog_form.specs.declared.commit.TheConstants.{MAX_NUMBER}
use Rattle.oplog_form.specs.declared.entry.TheConstants.{MAX_ENTRY_NODES}
use Rattle.oplog_form.specs.Entries.{EntryFits}
use Rattle.oplog_form.specs.Nodes.{RecordFits}
use Rattle.node_set.specs.declared.fault.CoreFault.TheVariants.{Limit as LimitFault}
use Rattle.node_set.specs.Contents.{Content, roots, twig_at, node_at}
use Rattle.node_set.specs.Changes.{append_content, blocks_with, IsSigned}
use Rattle.node_set.specs.Views.{ViewState, IsUsable}
use Rattle.node_set.specs.Whole.{IsWhole}
use Rattle.node_set.proofs.AppendLemmas.{append_whole}
use Rattle.node_set.proofs.SoundLemmas.{roots_on}
use Rattle.core_state.specs.Batches.{limit_fault}
use Rattle.core_state.specs.Refusals.{limit_in, append_refusal}
use Rattle.core_state.proofs.ExtendLemmas.{nodes_are}
use Rattle.core_state.proofs.FitLemmas.{neither, not_refused, append_fits, are_roots}
use Rattle.core_state.proofs.HistoryLemmas.{append_history}
use Rattle.core_disk.specs.Areas.{head_of}
use Rattle.core_disk.specs.Written.{entry_with}
use Rattle.core_disk.specs.Plans.{Plans, IsSignedPlan, behind}
use Rattle.core_disk.specs.Planning.{IsBatchOf, IsHeadOver, HasHash, AreInOrder}
use Rattle.core_disk.proofs.AppendEntry.{append_entry}
use Rattle.core_disk.proofs.ChangePlans.{append_plans}
use Rattle.core_disk.proofs.RisingRecords.{numbers_are, all_moved, permuted_values, batch_rises, batch_few}

-- ---- what passes no limit

counts_fit : (log : List (List ℕ)) (blocks bytes count more : ℕ) → count ≤ MAX_BATCH_BLOCKS → blocks + count ≤ MAX_BLOCKS
    → limit_in blocks bytes count more log ≡ None
    → (count + length log ≤ MAX_BATCH_BLOCKS) × (blocks + count + length log ≤ MAX_BLOCKS)
unfolding limit_in
counts_fit [] blocks bytes count more few within none = (omega (arith, few), omega (arith, within))
counts_fit (block ∷ log) blocks bytes count more few within none =
    let both = neither _ _ none in
    let one = neither _ _ both.0 in
    let two = neither _ _ one.1 in
    let three = neither _ _ two.1 in
    let four = neither _ _ three.1 in
    let less = leb-false MAX_BATCH_BLOCKS count (not_refused _ _ two.0) in
    let below = leb-false MAX_BLOCKS (blocks + count) (not_refused _ _ four.0) in
    let rest = counts_fit log blocks bytes (count + 1) (more + length block) (omega (arith, less)) (omega (arith, below)) both.1 in
    (omega (arith, rest.0), omega (arith, rest.1))

-- ---- the batch

module _ (m : Content) (more : List (List ℕ)) (first : BatchView) (room n : ℕ) (nodes : List Node) (first_is : first ≡ empty_on room n nodes)
    (length_is : n ≡ m.length)
    (nodes_are_roots : nodes ≡ roots m) where
  limit_is : append_refusal m more ≡ limit_in first.base (bytes_under first.roots) 0 0 more
  limit_is =
      ap (λ (b : ℕ). limit_in b (bytes_under (roots m)) 0 0 more) (sym length_is)
      ∙ ap (λ (ns : List Node). limit_in n (bytes_under ns) 0 0 more) (sym nodes_are_roots)
      ∙ ap (λ (b : BatchView). limit_in b.base (bytes_under b.roots) 0 0 more) (sym first_is)

  -- a refused block's limit is the refusal
  pub batch_refused : (limit : Limit) → limit_fault (Err limit) ≡ limit_in first.base (bytes_under first.roots) 0 0 more
      → append_refusal m more ≡ Some (LimitFault limit.what limit.max)
  batch_refused limit is = limit_is ∙ sym is

  -- where none is refused
  pub batch_made : (batch : BatchView) → m.length ≤ MAX_BLOCKS → None ≡ limit_in first.base (bytes_under first.roots) 0 0 more → batch.base ≡ first.base
      → ((known : Values) → HasBlocks known [] first → HasBlocks known more batch)
      → ((known : Values) → AreNodes known (full_roots_of n) nodes → HasBlocks known [] first)
      → (append_refusal m more ≡ None) × IsBatchOf m more batch
  batch_made batch few none base held empty =
      let refusal = limit_is ∙ sym none in
      let counts = counts_fit more m.length (bytes_under (roots m)) 0 0 (omega arith) (omega (arith, few)) refusal in (
        refusal,
        record {
          base = base ∙ ap (λ (b : BatchView). b.base) first_is ∙ length_is;
          few = omega (arith, counts.0);
          within = omega (arith, counts.1);
          has_blocks = λ known are.
              held known (empty known (subst (λ (ns : List Node). AreNodes known (full_roots_of n) ns) (sym nodes_are_roots)
              (subst (λ (k : ℕ). AreNodes known (full_roots_of k) (roots m)) (sym length_is) are)));
        },
      )

-- ---- records

-- numbers of subtrees that end by the largest length are in range
pub numbers_fit : (trees : List Subtree) (nodes : List Node) (end : ℕ) → map (λ (node : Node). node.index) nodes ≡ numbers_of trees → EndBy end trees
    → end ≤ MAX_BLOCKS
    → AllByRecursion (λ (node : Node). node.index ≤ MAX_NUMBER) nodes
numbers_fit trees [] end are ends few = tt
numbers_fit [] (node ∷ nodes) end are ends few = let clash : node.index ∷ map (λ (node : Node). node.index) nodes ≡ [] = are in cc
numbers_fit (tree ∷ trees) (node ∷ nodes) end are ends few =
    let first : node.index ≡ number tree.depth tree.offset = cc in
    let rest : map (λ (node : Node). node.index) nodes ≡ numbers_of trees = cc in
    (omega (arith, first, number_below tree.depth tree.offset, ends.0, few), numbers_fit trees nodes end rest ends.1 few)

-- a number, a size and a hash in range make a record
pub records_fit : (nodes : List Node) → AllByRecursion (λ (node : Node). node.index ≤ MAX_NUMBER) nodes → AllByRecursion SizeFits nodes
    → AllByRecursion HasHash nodes
    → AllByRecursion RecordFits nodes
records_fit [] numbers sizes hashes = tt
records_fit (node ∷ nodes) numbers sizes hashes =
    (record { index = numbers.0; twig = record { size = sizes.0; hash = hashes.0 } }, records_fit nodes numbers.1 sizes.1 hashes.1)

-- ---- the plan

-- whatever a view gives, its roots are nodes at the full roots
abbrev told : Content → Values
told m depth offset = Some (twig_at m.node depth offset)

told_roots : (m : Content) → AreNodes (told m) (full_roots_of m.length) (roots m)
told_roots m = each (full_roots_of m.length)
  where
    each : (trees : List Subtree) → map Some (map (λ (tree : Subtree). node_at m.node tree.depth tree.offset) trees) ≡ map (node_in (told m)) trees
    each [] = refl
    each (tree ∷ trees) = ap (λ (ns : List (Option Node)). Some (node_at m.node tree.depth tree.offset) ∷ ns) (each trees)

-- a batch has no more nodes than an entry has room for
pub nodes_few : (m : Content) (more : List (List ℕ)) (batch : BatchView) → IsBatchOf m more batch → length batch.nodes ≤ MAX_ENTRY_NODES
nodes_few m more batch is =
    batch_few (grown batch.base (told m) more) batch.base (length more) (omega (arith, is.base, is.within)) batch.nodes batch.nodes
    (is.has_blocks (told m) (told_roots m)).nodes (IsPermutation-refl batch.nodes) is.few

module _ (accepts : List ℕ → List ℕ → Bool) (v : ViewState) (more : List (List ℕ)) (batch : BatchView) (records : List Node) (fork blocks : ℕ) (head : Head)
    (some : 1 ≤ length more) (usable : IsUsable v.content) (none : append_refusal v.content more ≡ None) (is : IsBatchOf v.content more batch)
    (order : AreInOrder batch.nodes records) (sizes : AllByRecursion SizeFits batch.nodes) (over : IsHeadOver accepts batch.roots fork blocks head)
    (fork_is : fork ≡ v.content.fork) (blocks_are : blocks ≡ batch.base + batch.blocks) where
  abbrev m : Content
  m = v.content

  abbrev after : Content
  after = append_content more head.signature m

  -- what every view tells of the batch
  any_blocks : HasBlocks (told m) more batch
  any_blocks = is.has_blocks (told m) (told_roots m)

  within_batch : batch.base + length more ≤ MAX_BLOCKS
  within_batch = omega (arith, is.base, is.within)

  length_after : head.length ≡ m.length + length more
  length_after = omega (arith, over.length_is, blocks_are, is.base, any_blocks.count)

  head_after : head ≡ head_of after
  head_after =
      ap (λ (f : ℕ). record { fork = f; length = head.length; signature = head.signature }) (over.fork_is ∙ fork_is)
      ∙ ap (λ (n : ℕ). record { fork = m.fork; length = n; signature = head.signature }) length_after

  fits : EntryFits (entry_with (Append (length more)) after records)
  fits =
      let value = grown batch.base (told m) more in
      let trees = made_with batch.base (length more) in
      let numbers = numbers_fit trees batch.nodes (batch.base + length more) (numbers_are value trees batch.nodes any_blocks.nodes)
      (made_with-end batch.base (length more) within_batch) within_batch in
      record {
        commit = omega (arith, is.within);
        head = record { fork = usable.fork; few = is.within; signature = over.wide };
        records = records_fit records (all_moved (λ (node : Node). node.index ≤ MAX_NUMBER) batch.nodes records order.moved numbers)
            (all_moved SizeFits batch.nodes records order.moved sizes) order.hashes;
        order = batch_rises value batch.base (length more) within_batch batch.nodes records any_blocks.nodes order.moved order.sorted;
      }

  -- of a whole content
  module _ (whole : IsWhole accepts m) where
    has_blocks : HasBlocks m.node more batch
    has_blocks = is.has_blocks m.node (are_roots m whole.sound)

    abbrev value : Values
    value = joined (with_blocks m.length m.node more)

    roots_after : batch.roots ≡ roots after
    roots_after =
        let are : AreNodes value (full_roots_of (m.length + length more)) batch.roots =
        subst (λ (b : ℕ). AreNodes (grown b m.node more) (full_roots_of (b + length more)) batch.roots) is.base has_blocks.roots in
        nodes_are value (full_roots_of (m.length + length more)) batch.roots are
        ∙ sym (roots_on (m.length + length more) (blocks_with m.length more m.block) value)

    signed : IsSigned accepts after
    signed = record {
      signature = over.wide;
      accepted =
          let own = subst (λ (n : ℕ). IsTrue (accepts (signed_text (root_hash_of batch.roots) n fork) head.signature))
          (sym over.length_is ∙ length_after) over.accepted in
          let forked = subst (λ (f : ℕ). IsTrue (accepts (signed_text (root_hash_of batch.roots) (m.length + length more) f) head.signature)) fork_is own in
          subst (λ (ns : List Node). IsTrue (accepts (signed_text (root_hash_of ns) (m.length + length more) m.fork) head.signature)) roots_after forked;
    }

    plans : Plans accepts m (Append (length more)) after (entry_with (Append (length more)) after records) (Some (behind more m))
    plans =
        let fit = append_fits m more whole.limits none in
        let whole_after = append_whole accepts m more head.signature whole.sound whole.limits.fork fit signed in
        let are = subst (λ (b : ℕ). AreNodes (grown b m.node more) (made_with b (length more)) batch.nodes) is.base has_blocks.nodes in
        let entry = append_entry m more head.signature whole.sound whole_after.sound is.within batch.nodes records are
        (permuted_values value (made_with m.length (length more)) batch.nodes records are order.moved) fits.order in
        append_plans accepts m more head.signature (entry_with (Append (length more)) after records) whole some fit signed entry fits

  pub append_planned : IsSignedPlan accepts v (Append (length more)) (λ (signature : List ℕ). append_content more signature v.content)
      (Some (behind more v.content)) records head
  append_planned = record {
    head_is = head_after;
    planned = record {
      fits = fits;
      few = batch_few (grown batch.base (told m) more) batch.base (length more) within_batch batch.nodes records any_blocks.nodes order.moved is.few;
      legal = append_history m more head.signature usable.below some is.within;
      plans = λ stands whole. plans whole;
    };
    signed = λ stands whole. signed whole;
  }
