-- The full roots of a number of blocks and of one subtree more.
use Rattle.std.proofs.Common.{◌≡◌, ℕ, zero, suc, ◌+◌, ◌*◌, ◌%◌, ◌^◌, ◌<◌, ◌≤◌, inl, inr, List, [], ◌∷◌, ◌++◌, refl, sym, ◌∙◌, ap, subst, arith}
use Rattle.std.proofs.lemmas.Bool.{cases_lt}
use Rattle.std.proofs.Math.Nat.{mul-mod_left}
use Rattle.std.proofs.lemmas.Nat.{pow_pos, shr_split}
use Rattle.flat_tree.specs.Subtrees.{Subtree, subtree, first_block_of, Tile}
use Rattle.flat_tree.specs.Roots.{roots_below, full_roots_of, Fall, FallBelow}
use Rattle.flat_tree.proofs.NumberLemmas.{first-suc, halves_meet}
use Rattle.flat_tree.proofs.RootLemmas.{digit, start-one, roots-one, roots-zero, low_digits, tile-full, fall-full, only-full}

-- tilings one after the other
pub Tile-append : (xs ys : List Subtree) (a b c : ℕ) → Tile xs a b → Tile ys b c → Tile (xs ++ ys) a c
Tile-append [] ys a b c one two = subst (λ (n : ℕ). Tile ys n c) (sym one) two
Tile-append (x ∷ xs) ys a b c one two = (one.0, Tile-append xs ys _ b c one.1 two)

-- every subtree is at least this deep
abbrev IsDeep : ℕ → List Subtree → Type 0
IsDeep depth [] = Unit {0}
IsDeep depth (tree ∷ trees) = (depth ≤ tree.depth) × IsDeep depth trees

-- what begins a larger subtree begins a smaller one
begins_lower : (n k e : ℕ) → k ≤ e → n % 2 ^ e ≡ 0 → n % 2 ^ k ≡ 0
begins_lower n k e within begins = sym (low_digits e k n within (omega (arith, begins, pow_pos k))).1 ∙ begins

-- the roots of blocks that fill subtrees of a depth are at least so deep
deep_roots : (k e n : ℕ) → n % 2 ^ e ≡ 0 → IsDeep e (roots_below k n)
unfolding roots_below
deep_roots zero e n none = tt
deep_roots (suc k) e n none = elim (digit k n) [
  | inr zero_there ↦ rw (roots-zero k n zero_there) (deep_roots k e n none)
  | inl one ↦
      let deep : e ≤ k = elim (cases_lt k e) [
        | inr fits ↦ fits
        | inl lower ↦
            let up : suc k ≤ e = omega (arith, lower) in
            absurd (omega (arith, begins_lower n (suc k) e up none, start-one k n one, shr_split n k, shr_split n (suc k), pow_pos k))
      ] in
      rw (roots-one k n one) (deep, deep_roots k e n none)
]

-- a shallower subtree at the end
FallBelow-push : (bound : ℕ) (trees : List Subtree) (tree : Subtree) → FallBelow bound trees → IsDeep (suc tree.depth) trees
    → tree.depth < bound → FallBelow bound (trees ++ tree ∷ [])
FallBelow-push bound [] tree falls deep less = (less, tt)
FallBelow-push bound (t ∷ trees) tree falls deep less = (falls.0, FallBelow-push t.depth trees tree falls.1 deep.1 (omega (arith, deep.0)))

Fall-push : (trees : List Subtree) (tree : Subtree) → Fall trees → IsDeep (suc tree.depth) trees → Fall (trees ++ tree ∷ [])
Fall-push [] tree falls deep = tt
Fall-push (t ∷ trees) tree falls deep = FallBelow-push t.depth trees tree falls deep.1 (omega (arith, deep.0))

-- what begins with a left half has larger roots alone
deep_before : (depth half : ℕ) → IsDeep (suc depth) (full_roots_of (first_block_of depth (2 * half)))
unfolding full_roots_of first_block_of
deep_before depth half =
    let n = first_block_of depth (2 * half) in
    let begins : n % 2 ^ suc depth ≡ 0 = ap (λ (k : ℕ). k % 2 ^ suc depth) (sym (first-suc depth half)) ∙ mul-mod_left half (2 ^ suc depth) in
    deep_roots n (suc depth) n begins

-- behind them the left half is the last root
pub full-left : (depth half : ℕ)
    → full_roots_of (first_block_of depth (2 * half + 1)) ≡ full_roots_of (first_block_of depth (2 * half)) ++ subtree depth (2 * half) ∷ []
full-left depth half =
    let n = first_block_of depth (2 * half) in
    let tree = subtree depth (2 * half) in
    let tile = Tile-append (full_roots_of n) (tree ∷ []) 0 n (first_block_of depth (2 * half + 1)) (tile-full n) (refl, halves_meet depth half) in
    let falls = Fall-push (full_roots_of n) tree (fall-full n) (deep_before depth half) in
    sym (only-full (first_block_of depth (2 * half + 1)) (full_roots_of n ++ tree ∷ []) tile falls)
