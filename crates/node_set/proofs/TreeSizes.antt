-- The size of a log's tree is the bytes of the blocks under it.
use Rattle.std.proofs.Common.{◌≡◌, ℕ, zero, suc, ◌+◌, ◌*◌, ◌≤◌, List, [], length, get_or, take, sym, ap, ◌∙◌, arith}
use Rattle.std.proofs.lemmas.List.Sums.{sum_by_more}
use Rattle.flat_tree.specs.Subtrees.{first_block_of, end_block_of}
use Rattle.flat_tree.proofs.NumberLemmas.{first-suc, end-suc, halves_meet, leaf}
use Rattle.merkle_nodes.specs.Tree.{tree_of}
use Rattle.node_set.specs.Evidence.{bytes_of}
use Rattle.node_set.proofs.Stored.{left_ends}

-- the bytes before a block
abbrev pub bytes_before : List (List ℕ) → ℕ → ℕ
bytes_before log index = bytes_of (take index log)

-- the bytes before a subtree and its tree's size are the bytes before its end
pub size_of_tree : (log : List (List ℕ)) (depth offset : ℕ) → end_block_of depth offset ≤ length log
    → bytes_before log (first_block_of depth offset) + (tree_of log depth offset).size ≡ bytes_before log (end_block_of depth offset)
unfolding tree_of
size_of_tree log zero offset inside =
    let here = leaf offset in
    let more = sum_by_more length log offset [] (omega (arith, inside, here.2)) in
    ap (λ (i : ℕ). bytes_before log i + length (get_or log offset [])) here.1 ∙ sym more ∙ ap (bytes_before log) (sym here.2)
size_of_tree log (suc depth) offset inside =
    let left = size_of_tree log depth (2 * offset) (omega (arith, inside, left_ends depth offset)) in
    let right = size_of_tree log depth (2 * offset + 1) (omega (arith, inside, end-suc depth offset)) in
    let meet = ap (bytes_before log) (halves_meet depth offset) in
    let start = ap (bytes_before log) (first-suc depth offset) in
    let end = ap (bytes_before log) (end-suc depth offset) in
    omega (arith, left, right, meet, start, end)
