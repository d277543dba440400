-- What a log under a greater fork leaves of a content: the longest front of its roots that is stored, and the blocks under it.
use Rattle.std.specs.Prelude.{ℕ, List, ◌∷◌, if◌then◌else◌}
use Rattle.flat_tree.specs.Subtrees.{Subtree, end_block_of}
use Rattle.flat_tree.specs.Roots.{full_roots_of}
use Rattle.merkle_nodes.specs.declared.node.Twig.{Twig}
use Rattle.merkle_nodes.specs.Joined.{or_value, value_in}
use Rattle.node_set.specs.Contents.{Content, Values}
use Rattle.node_set.specs.Same.{is_stored_as}
use Rattle.node_set.specs.Changes.{content_on, blocks_below}

-- the blocks under the first of some subtrees whose nodes are stored as these, behind those that were kept so far
unfoldable pub kept_under : Values → List Subtree → List Twig → ℕ → ℕ
kept_under node (tree ∷ trees) (twig ∷ twigs) kept =
    let further = kept_under node trees twigs (end_block_of tree.depth tree.offset) in
    if is_stored_as (node tree.depth tree.offset) twig then further else kept
kept_under node _ _ kept = kept

-- how many blocks stay under new roots
abbrev pub kept_of : Content → ℕ → List Twig → ℕ
kept_of m to roots = kept_under m.node (full_roots_of to) roots 0

-- the content under another head: the blocks under the roots that were stored stay, and the roots come in
abbrev pub reorganise_content : ℕ → ℕ → List Twig → List ℕ → Content → Content
reorganise_content fork to roots signature m =
    content_on fork to signature (blocks_below (kept_of m to roots) m.block)
    (λ depth offset. or_value (value_in (full_roots_of to) roots depth offset) (m.node depth offset))
