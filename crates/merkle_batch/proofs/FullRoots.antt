-- The full roots of a number of blocks and of one subtree more.
use Rattle.std.proofs.Common.{◌≡◌, ℕ, zero, suc, ◌+◌, ◌-◌, ◌*◌, ◌/◌, ◌%◌, ◌^◌, ◌<◌, ◌≤◌, inl, inr, List, [], ◌∷◌, ◌++◌, sym, ◌∙◌, ap, subst, arith, add-one}
use Rattle.std.proofs.lemmas.Bool.{cases_lt}
use Rattle.std.proofs.Math.Nat.{pow-succ', mul-div_cancel, mul-mod_left}
use Rattle.std.proofs.lemmas.Nat.{pow_pos, shr-shr, shr_split}
use Rattle.flat_tree.specs.Subtrees.{Subtree, subtree, first_block_of, end_block_of, Tile}
use Rattle.flat_tree.specs.Roots.{roots_below, full_roots_of, Fall, FallBelow}
use Rattle.flat_tree.proofs.NumberLemmas.{end_first}
use Rattle.flat_tree.proofs.RootLemmas.{start_of, digit, start-one, start-zero, roots-one, roots-zero, low_digits, tile-full, fall-full, only-full}

-- tilings one after the other
Tile-append : (xs ys : List Subtree) (a b c : ℕ) → Tile xs a b → Tile ys b c → Tile (xs ++ ys) a c
Tile-append [] ys a b c one two = subst (λ (n : ℕ). Tile ys n c) (sym one) two
Tile-append (x ∷ xs) ys a b c one two = (one.0, Tile-append xs ys _ b c one.1 two)

-- every subtree is at least this deep
abbrev IsDeep : ℕ → List Subtree → Type 0
IsDeep depth [] = Unit {0}
IsDeep depth (tree ∷ trees) = (depth ≤ tree.depth) × IsDeep depth trees

-- what begins a larger subtree begins a smaller one
pub begins_lower : (n k e : ℕ) → k ≤ e → n % 2 ^ e ≡ 0 → n % 2 ^ k ≡ 0
begins_lower n k e within begins = sym (low_digits e k n within (omega (arith, begins, pow_pos k))).1 ∙ begins

-- the roots of blocks that fill subtrees of a depth are at least so deep
deep_roots : (k e n : ℕ) → n % 2 ^ e ≡ 0 → IsDeep e (roots_below k n)
unfolding roots_below
deep_roots zero e n none = tt
deep_roots (suc k) e n none = elim (digit k n) [
  | inr zero_there ↦ rw (roots-zero k n zero_there) (deep_roots k e n none)
  | inl one ↦
      let deep : e ≤ k = elim (cases_lt k e) [
        | inr fits ↦ fits
        | inl lower ↦
            let up : suc k ≤ e = omega (arith, lower) in
            absurd (omega (arith, begins_lower n (suc k) e up none, start-one k n one, shr_split n k, shr_split n (suc k), pow_pos k))
      ] in
      rw (roots-one k n one) (deep, deep_roots k e n none)
]

-- a shallower subtree at the end
FallBelow-push : (bound : ℕ) (trees : List Subtree) (tree : Subtree) → FallBelow bound trees → IsDeep (suc tree.depth) trees
    → tree.depth < bound → FallBelow bound (trees ++ tree ∷ [])
FallBelow-push bound [] tree falls deep less = (less, tt)
FallBelow-push bound (t ∷ trees) tree falls deep less = (falls.0, FallBelow-push t.depth trees tree falls.1 deep.1 (omega (arith, deep.0)))

Fall-push : (trees : List Subtree) (tree : Subtree) → Fall trees → IsDeep (suc tree.depth) trees → Fall (trees ++ tree ∷ [])
Fall-push [] tree falls deep = tt
Fall-push (t ∷ trees) tree falls deep = FallBelow-push t.depth trees tree falls deep.1 (omega (arith, deep.0))

-- one subtree more behind blocks that fill larger ones
full-push : (d n : ℕ) → n % 2 ^ suc d ≡ 0 → full_roots_of (n + 2 ^ d) ≡ full_roots_of n ++ subtree d (n / 2 ^ d) ∷ []
unfolding full_roots_of first_block_of
full-push d n none =
    let begins : n % 2 ^ d ≡ 0 = begins_lower n d (suc d) (omega arith) none in
    let first : first_block_of d (n / 2 ^ d) ≡ n = omega (arith, shr_split n d, begins) in
    let ends : end_block_of d (n / 2 ^ d) ≡ n + 2 ^ d = omega (arith, end_first d (n / 2 ^ d), first) in
    let tile = Tile-append (full_roots_of n) (subtree d (n / 2 ^ d) ∷ []) 0 n (n + 2 ^ d) (tile-full n) (first, ends) in
    let falls = Fall-push (full_roots_of n) (subtree d (n / 2 ^ d)) (fall-full n) (deep_roots n (suc d) n none) in
    sym (only-full (n + 2 ^ d) (full_roots_of n ++ subtree d (n / 2 ^ d) ∷ []) tile falls)

start-mod : (d n : ℕ) → start_of d n % 2 ^ d ≡ 0
start-mod d n = mul-mod_left (n / 2 ^ d) (2 ^ d)

start-div : (d n : ℕ) → start_of d n / 2 ^ d ≡ n / 2 ^ d
start-div d n = mul-div_cancel (n / 2 ^ d) (pow_pos d)

-- a digit of one is the last root of the blocks without the lower digits
pub full-one : (d n : ℕ) → n / 2 ^ d % 2 ≡ 1
    → full_roots_of (start_of d n) ≡ full_roots_of (start_of (suc d) n) ++ subtree d (n / 2 ^ d - 1) ∷ []
full-one d n one =
    let m = start_of (suc d) n in
    let more : m + 2 ^ d ≡ start_of d n = sym (start-one d n one) in
    let half : n / 2 ^ suc d ≡ n / 2 ^ d / 2 = ap (λ (k : ℕ). n / 2 ^ k) (sym (add-one d)) ∙ sym (shr-shr n d 1) in
    let twice : m ≡ 2 * (n / 2 ^ suc d) * 2 ^ d = rw (pow-succ' 2 d) (omega arith) in
    let place : m / 2 ^ d ≡ n / 2 ^ d - 1 = ap (λ (k : ℕ). k / 2 ^ d) twice ∙ mul-div_cancel (2 * (n / 2 ^ suc d)) (pow_pos d) ∙ omega (arith, half, one) in
    ap full_roots_of (sym more) ∙ full-push d m (start-mod (suc d) n) ∙ ap (λ (o : ℕ). full_roots_of m ++ subtree d o ∷ []) place

-- a digit of zero above digits of one becomes the last root
pub full-zero : (d n : ℕ) → n / 2 ^ d % 2 ≡ 0 → start_of d n + 2 ^ d ≡ n + 1
    → full_roots_of (n + 1) ≡ full_roots_of (start_of d n) ++ subtree d (n / 2 ^ d) ∷ []
full-zero d n none next =
    let m = start_of d n in
    let begins : m % 2 ^ suc d ≡ 0 = ap (λ (k : ℕ). k % 2 ^ suc d) (start-zero d n none) ∙ start-mod (suc d) n in
    ap full_roots_of (sym next) ∙ full-push d m begins ∙ ap (λ (o : ℕ). full_roots_of m ++ subtree d o ∷ []) (start-div d n)
