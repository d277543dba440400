-- Down a path from an equal top: at each step the inputs are equal, or they clash.
use Rattle.std.proofs.Common.{◌≡◌, ℕ, zero, suc, ◌+◌, ◌*◌, ◌/◌, ◌%◌, ◌^◌, ◌≤◌, ◌==◌, if◌then◌else◌, ◌⊎◌, inl, inr, Bool, true, false, List, [], ◌∷◌, ◌++◌, length, take, refl, sym, ap, ◌∙◌, arith}
use Rattle.std.specs.List.{AllByRecursion}
use Rattle.std.proofs.lemmas.Bool.{cases_eq, eq-eqb}
use Rattle.std.proofs.lemmas.List.{get_or-take}
use Rattle.std.proofs.lemmas.Nat.{shr-shr}
use Rattle.flat_tree.specs.Subtrees.{end_block_of}
use Rattle.flat_tree.proofs.NumberLemmas.{end_first, end-suc, halves_meet, leaf}
use Rattle.blake2b_hash.specs.Blake2b.{hash_of}
use Rattle.blake2b_hash.proofs.Hashes.{length_hash_of}
use Rattle.merkle_nodes.specs.declared.node.Twig.{Twig}
use Rattle.merkle_nodes.specs.Tree.{u64_bytes, leaf_of, parent_input, parent_of, tree_of}
use Rattle.merkle_nodes.specs.Fold.{join, fold_from, offset_above}
use Rattle.merkle_nodes.specs.Sound.{HasHash, join_input, fold_inputs, inputs_of, Clash}
use Rattle.merkle_nodes.proofs.Inputs.{Contains-first, parent_in, same_or_clash, clash_later, split_same}

-- the first halves end within, where their parent does
pub half_ends : (depth offset : ℕ) → end_block_of depth (2 * offset) ≤ end_block_of (suc depth) offset
half_ends depth offset = omega (arith, end-suc depth offset, halves_meet depth offset, end_first depth (2 * offset + 1))

-- a tree's hash has 32 bytes
pub tree_has_hash : (log : List (List ℕ)) (depth offset : ℕ) → HasHash (tree_of log depth offset)
unfolding tree_of
tree_has_hash log zero offset = length_hash_of _
tree_has_hash log (suc depth) offset = length_hash_of _

-- a tree within the first blocks is that of the log
pub tree_of-take : (log : List (List ℕ)) (blocks depth offset : ℕ) → end_block_of depth offset ≤ blocks → tree_of (take blocks log) depth offset ≡ tree_of log depth offset
unfolding tree_of
tree_of-take log blocks zero offset inside = ap leaf_of (get_or-take blocks log offset [] (omega (arith, inside, leaf offset)))
tree_of-take log blocks (suc depth) offset inside = rw (
  tree_of-take log blocks depth (2 * offset) (omega (arith, inside, half_ends depth offset)),
  tree_of-take log blocks depth (2 * offset + 1) (omega (arith, inside, end-suc depth offset)),
) refl

-- the depth of the top, so many levels above
abbrev pub depth_above : ℕ → List Twig → ℕ
depth_above depth [] = depth
depth_above depth (sibling ∷ trail) = depth_above (suc depth) trail

pub depth_above-length : (depth : ℕ) (trail : List Twig) → depth_above depth trail ≡ depth + length trail
depth_above-length depth [] = omega arith
depth_above-length depth (sibling ∷ trail) = depth_above-length (suc depth) trail ∙ omega arith

pub offset_above-length : (offset : ℕ) (trail : List Twig) → offset_above offset trail ≡ offset / 2 ^ length trail
unfolding offset_above
offset_above-length offset [] = omega arith
offset_above-length offset (sibling ∷ trail) =
    let one_more : 1 + length trail ≡ suc (length trail) = omega arith in
    offset_above-length (offset / 2) trail ∙ shr-shr offset 1 (length trail) ∙ ap (λ (k : ℕ). offset / 2 ^ k) one_more

-- a parent is within where the top of its path is
below_within : (depth offset : ℕ) (trail : List Twig) (blocks : ℕ) → end_block_of (depth_above depth trail) (offset_above offset trail) ≤ blocks → end_block_of depth offset ≤ blocks
unfolding offset_above
below_within depth offset [] blocks inside = inside
below_within depth offset (sibling ∷ trail) blocks inside =
    let up = below_within (suc depth) (offset / 2) trail blocks inside in
    elim (cases_eq (offset % 2) 1) [
      | inl right ↦
          let is : offset ≡ 2 * (offset / 2) + 1 = omega (arith, right) in
          rw is (omega (arith, up, end-suc depth (offset / 2)))
      | inr left ↦
          let is : offset ≡ 2 * (offset / 2) = omega (arith, left) in
          rw is (omega (arith, up, half_ends depth (offset / 2)))
    ]

-- equal inputs of parents have equal halves
parent_split : (l r m s : Twig) → HasHash l → HasHash r → HasHash m → HasHash s → parent_input l r ≡ parent_input m s → (l.hash ≡ m.hash) × (r.hash ≡ s.hash)
parent_split l r m s wl wr wm ws same =
    let both = split_same ((1 ∷ u64_bytes (l.size + r.size)) ++ l.hash) ((1 ∷ u64_bytes (m.size + s.size)) ++ m.hash) r.hash s.hash
    (ap (λ (k : ℕ). suc (suc (suc (suc (suc (suc (suc (suc (suc k))))))))) (wl ∙ sym wm)) same in
    ((split_same (1 ∷ u64_bytes (l.size + r.size)) (1 ∷ u64_bytes (m.size + s.size)) l.hash m.hash refl both.0).1, both.1)

join-hash : (offset : ℕ) (node sibling : Twig) → (join offset node sibling).hash ≡ hash_of (join_input offset node sibling)
join-hash offset node sibling =
    elim (offset % 2 == 1) as (λ (b : Bool). (if b then parent_of sibling node else parent_of node sibling).hash
    ≡ hash_of (if b then parent_input sibling node else parent_input node sibling)) [
      | true ↦ refl
      | false ↦ refl
    ]

-- where the inputs are equal, so is the node's half
own_half : (log : List (List ℕ)) (depth offset : ℕ) (node sibling : Twig) → HasHash node → HasHash sibling
    → parent_input (tree_of log depth (2 * (offset / 2))) (tree_of log depth (2 * (offset / 2) + 1)) ≡ join_input offset node sibling
    → node.hash ≡ (tree_of log depth offset).hash
own_half log depth offset node sibling wide wide_sibling same =
    let place = 2 * (offset / 2) in
    let first = tree_of log depth place in
    let second = tree_of log depth (place + 1) in
    let split = λ (l r : Twig) (wl : HasHash l) (wr : HasHash r). parent_split first second l r (tree_has_hash log depth place) (tree_has_hash log depth (place + 1)) wl wr in
    elim (cases_eq (offset % 2) 1) [
      | inl right ↦
          let is : place + 1 ≡ offset = omega (arith, right) in
          let input : join_input offset node sibling ≡ parent_input sibling node = rw (eq-eqb (offset % 2) 1 right) refl in
          sym (split sibling node wide_sibling wide (same ∙ input)).1 ∙ ap (λ (o : ℕ). (tree_of log depth o).hash) is
      | inr left ↦
          let none : offset % 2 ≡ 0 = omega (arith, left) in
          let is : place ≡ offset = omega (arith, none) in
          let input : join_input offset node sibling ≡ parent_input node sibling = rw none refl in
          sym (split node sibling wide wide_sibling (same ∙ input)).0 ∙ ap (λ (o : ℕ). (tree_of log depth o).hash) is
    ]

-- one step down
step_down : (log : List (List ℕ)) (depth offset : ℕ) (node sibling : Twig) (others : List (List ℕ)) → HasHash node → HasHash sibling
    → end_block_of (suc depth) (offset / 2) ≤ length log
    → (join offset node sibling).hash ≡ (tree_of log (suc depth) (offset / 2)).hash
    → (node.hash ≡ (tree_of log depth offset).hash) ⊎ Clash (inputs_of log) (join_input offset node sibling ∷ others)
unfolding tree_of
step_down log depth offset node sibling others wide wide_sibling inside same =
    let input = join_input offset node sibling in
    let here = parent_in log depth (offset / 2) inside in
    let equal = sym same ∙ join-hash offset node sibling in
    elim (same_or_clash (inputs_of log) (input ∷ others) _ input here (Contains-first input others) equal) [
      | inr clash ↦ inr clash
      | inl one ↦ inl (own_half log depth offset node sibling wide wide_sibling one)
    ]

-- all the way down
pub descend : (log : List (List ℕ)) (depth offset : ℕ) (node : Twig) (trail : List Twig) → HasHash node → AllByRecursion HasHash trail
    → end_block_of (depth_above depth trail) (offset_above offset trail) ≤ length log
    → (fold_from offset node trail).hash ≡ (tree_of log (depth_above depth trail) (offset_above offset trail)).hash
    → (node.hash ≡ (tree_of log depth offset).hash) ⊎ Clash (inputs_of log) (fold_inputs offset node trail)
unfolding fold_from offset_above fold_inputs
descend log depth offset node [] wide fits inside same = inl same
descend log depth offset node (sibling ∷ trail) wide fits inside same =
    let parent = join offset node sibling in
    elim (descend log (suc depth) (offset / 2) parent trail (ap length (join-hash offset node sibling) ∙ length_hash_of _) fits.1 inside same) [
      | inr clash ↦ inr (clash_later _ _ (join_input offset node sibling) clash)
      | inl up ↦ step_down log depth offset node sibling (fold_inputs (offset / 2) parent trail) wide fits.0 (below_within (suc depth) (offset / 2) trail (length log) inside) up
    ]
