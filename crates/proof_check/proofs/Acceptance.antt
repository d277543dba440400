-- A proof that is of the log and covers what is lacking isn't refused.
use Rattle.std.proofs.Common.{◌≡◌, ◌≢◌, ℕ, zero, suc, Bool, true, ◌+◌, ◌*◌, ◌/◌, ◌%◌, ◌^◌, ◌≤◌, inl, inr, List, [], ◌∷◌, length, map, Option, Some, None, IfSome, refl, sym, ap, subst, ◌∙◌, arith, nat_lt, nat_eq, slice_index_or}
use Rattle.std.specs.Prelude.{◌&&◌}
use Rattle.std.specs.Str.{bytes_eq}
use Rattle.std.proofs.lemmas.Bool.{cases_lt, cases_Bool, le-leb, lt-leb, ltb-false, eq-eqb, ne_eqb, and_from, and_parts, eqb-true}
use Rattle.std.proofs.lemmas.Option.{get_or_from_slice_get}
use Rattle.std.proofs.lemmas.Slice.Eq.{bytes_eq-Decides}
use Rattle.flat_tree.specs.Subtrees.{Subtree, end_block_of}
use Rattle.flat_tree.specs.Roots.{full_roots_of}
use Rattle.flat_tree.specs.Covers.{cover_of}
use Rattle.merkle_nodes.specs.declared.node.Twig.{Twig}
use Rattle.merkle_nodes.specs.declared.node.Node.{Node}
use Rattle.merkle_nodes.specs.Tree.{leaf_of, parent_of, tree_of}
use Rattle.merkle_nodes.specs.Fold.{join, fold_from}
use Rattle.merkle_nodes.specs.Roots.{node_of, roots_of, root_hash_of, signed_text, Accepts}
use Rattle.merkle_nodes.specs.Joined.{parent_if, joined, value_in, with_parts}
use Rattle.proof_form.specs.declared.proof.UpgradePart.{UpgradePart}
use Rattle.proof_form.specs.Proofs.{Proof, Block, ProofFits}
use Rattle.node_set.specs.Contents.{Content, Values, roots, node_at, no_twig}
use Rattle.node_set.specs.Evidence.{IsOf, OrClash, NodesAreOf}
use Rattle.node_set.specs.Paths.{sibling_of, folded_at}
use Rattle.node_set.specs.Same.{is_same}
use Rattle.node_set.specs.Whole.{IsSound, IsWhole}
use Rattle.node_set.specs.Changes.{upgrade_content}
use Rattle.node_set.proofs.EvidenceLemmas.{or_clash_then}
use Rattle.node_set.proofs.KeepsWhole.{own_roots}
use Rattle.node_set.proofs.RootTruth.{twig_at-some}
use Rattle.node_set.proofs.SizeTruth.{nodes_are_of}
use Rattle.node_set.proofs.SoundLemmas.{stored_value, closed_some, all_roots, AllRoots}
use Rattle.node_set.proofs.Stored.{half_cases, over-suc}
use Rattle.node_set.proofs.UpgradeLemmas.{upgrade_sound}
use Rattle.proof_check.specs.Upgraded.{with_upgrade}
use Rattle.proof_check.specs.Parts.{part_of_block, levels_up, stored_top, differs_refusal}
use Rattle.proof_check.specs.Judge.{fork_refusal, each_part, signature_refusal, refusal_of}
use Rattle.proof_check.specs.Covering.{Covers, BlockIsOf, UpgradeIsOf, ProofIsOf}
use Rattle.proof_check.proofs.Refusing.{first_none, not_refused}
use Rattle.proof_check.proofs.FetchSound.{fold_step}
use Rattle.proof_check.proofs.AdmitWhole.{goes_on, upgrade_fits}

same_is : (twig : Twig) → is_same twig twig ≡ true
same_is twig =
    and_from (nat_eq twig.size twig.size) (bytes_eq twig.hash twig.hash) (eq-eqb twig.size twig.size refl) ((bytes_eq-Decides twig.hash twig.hash).1 refl)

-- ---- the nodes with the upgrade in

module _ (log : List (List ℕ)) where
  abbrev tree_at : Subtree → Twig
  tree_at tree = tree_of log tree.depth tree.offset

  -- each value is the log's
  abbrev AreTrue : Values → Type 0
  AreTrue value = (depth offset : ℕ) (twig : Twig) → value depth offset ≡ Some twig → twig ≡ tree_of log depth offset

  value_true : (trees : List Subtree) → AreTrue (value_in trees (map tree_at trees))
  unfolding value_in
  value_true [] depth offset twig is = cc
  value_true (tree ∷ trees) depth offset twig is = elim (cases_Bool (nat_eq tree.depth depth && nat_eq tree.offset offset)) [
    | inl here ↦
        let parts = and_parts (nat_eq tree.depth depth) (nat_eq tree.offset offset) here in
        let own : value_in (tree ∷ trees) (map tree_at (tree ∷ trees)) depth offset ≡ Some (tree_at tree) = rw here refl in
        let both : Some (tree_at tree) ≡ Some twig = sym own ∙ is in
        let same : tree_at tree ≡ twig = cc in
        sym same ∙ ap (λ (d : ℕ). tree_of log d tree.offset) (eqb-true tree.depth depth parts.0) ∙ ap (tree_of log depth) (eqb-true tree.offset offset parts.1)
    | inr other ↦
        let further : value_in (tree ∷ trees) (map tree_at (tree ∷ trees)) depth offset ≡ value_in trees (map tree_at trees) depth offset = rw other refl in
        value_true trees depth offset twig (sym further ∙ is)
  ]

  -- what is joined of true values is true
  joined_true : (known : Values) → AreTrue known → AreTrue (joined known)
  unfolding joined tree_of
  joined_true known true_known zero offset twig is = true_known zero offset twig is
  joined_true known true_known (suc depth) offset twig is =
      ByOwn (joined_true known true_known depth (2 * offset)) (joined_true known true_known depth (2 * offset + 1)) (known (suc depth) offset) refl
    where
      TrueAt : ℕ → Type 0
      TrueAt at = (half : Twig) → joined known depth at ≡ Some half → half ≡ tree_of log depth at

      ByHalves : TrueAt (2 * offset) → TrueAt (2 * offset + 1) → (left right : Option Twig) → joined known depth (2 * offset) ≡ left
          → joined known depth (2 * offset + 1) ≡ right → parent_if left right ≡ Some twig → twig ≡ tree_of log (suc depth) offset
      ByHalves left_true right_true None right left_is right_is parent = cc
      ByHalves left_true right_true (Some left) None left_is right_is parent = cc
      ByHalves left_true right_true (Some left) (Some right) left_is right_is parent =
          let same : parent_of left right ≡ twig = cc in
          sym same ∙ ap (λ (t : Twig). parent_of t right) (left_true left left_is)
          ∙ ap (parent_of (tree_of log depth (2 * offset))) (right_true right right_is)

      ByOwn : TrueAt (2 * offset) → TrueAt (2 * offset + 1) → (own : Option Twig) → known (suc depth) offset ≡ own → twig ≡ tree_of log (suc depth) offset
      ByOwn left_true right_true (Some value) own =
          let here : joined known (suc depth) offset ≡ Some value = rw own refl in
          let both : Some value ≡ Some twig = sym here ∙ is in
          let same : value ≡ twig = cc in
          sym same ∙ true_known (suc depth) offset value own
      ByOwn left_true right_true None none =
          let here : joined known (suc depth) offset ≡ parent_if (joined known depth (2 * offset)) (joined known depth (2 * offset + 1)) = rw none refl in
          ByHalves left_true right_true (joined known depth (2 * offset)) (joined known depth (2 * offset + 1)) refl refl (sym here ∙ is)

  -- roots whose values are true are the log's
  roots_true : (m : Content) → IsSound m → AreTrue m.node → m.length ≡ length log → roots m ≡ roots_of log
  roots_true m sound nodes whole =
      each (full_roots_of m.length) (all_roots m.length)
      ∙ ap (λ (n : ℕ). map (λ (tree : Subtree). node_of tree.depth tree.offset (tree_of log tree.depth tree.offset)) (full_roots_of n)) whole
    where
      each : (trees : List Subtree) → AllRoots m.length trees
          → map (λ (tree : Subtree). node_at m.node tree.depth tree.offset) trees ≡ map (λ (tree : Subtree). node_of tree.depth tree.offset (tree_at tree)) trees
      each [] all = refl
      each (tree ∷ trees) all =
          let stored = stored_value (m.node tree.depth tree.offset) (own_roots m sound tree.depth tree.offset all.0) in
          let is = twig_at-some m.node tree.depth tree.offset stored.0 stored.1 ∙ nodes tree.depth tree.offset stored.0 stored.1 in
          ap (λ (t : Twig). node_of tree.depth tree.offset t ∷ map (λ (s : Subtree). node_at m.node s.depth s.offset) trees) is
          ∙ ap (λ (ns : List Node). node_of tree.depth tree.offset (tree_at tree) ∷ ns) (each trees all.1)

  -- ---- a fold of the log's own siblings

  fold_true : (b : Block) → BlockIsOf log b → (level : ℕ) → level ≤ length b.trail
      → folded_at b.index (leaf_of b.bytes) b.trail level ≡ tree_of log level (b.index / 2 ^ level)
  unfolding tree_of fold_from
  fold_true b is zero low =
      let same : b.index ≡ b.index / 2 ^ 0 = omega arith in
      ap leaf_of (sym (get_or_from_slice_get log b.index b.bytes [] is.bytes)) ∙ ap (tree_of log 0) same
  fold_true b is (suc level) low =
      let p = b.index / 2 ^ level in
      let own = tree_of log level p in
      let sibling = tree_of log level (sibling_of p) in
      let below = fold_true b is level (omega (arith, low)) in
      fold_step b.index (leaf_of b.bytes) b.trail level (omega (arith, low))
      ∙ ap (λ (t : Twig). join p t (slice_index_or b.trail level no_twig)) below
      ∙ ap (join p own) (is.trail level (omega (arith, low)))
      ∙ (elim (half_cases p) [
        | inl left ↦
            let even : p % 2 ≢ 1 = λ odd. omega (arith, left, odd) in
            let on : p ≡ 2 * (b.index / 2 ^ suc level) = omega (arith, left, over-suc b.index level) in
            let next : sibling_of p ≡ 2 * (b.index / 2 ^ suc level) + 1 = omega (arith, left, over-suc b.index level) in
            let joined : join p own sibling ≡ parent_of own sibling = rw (ne_eqb (p % 2) 1 even) refl in
            joined ∙ ap (λ (o : ℕ). parent_of (tree_of log level o) sibling) on
            ∙ ap (λ (o : ℕ). parent_of (tree_of log level (2 * (b.index / 2 ^ suc level))) (tree_of log level o)) next
        | inr right ↦
            let odd : p % 2 ≡ 1 = omega (arith, right) in
            let on : p ≡ 2 * (b.index / 2 ^ suc level) + 1 = omega (arith, right, over-suc b.index level) in
            let next : sibling_of p ≡ 2 * (b.index / 2 ^ suc level) = omega (arith, right, over-suc b.index level) in
            let joined : join p own sibling ≡ parent_of sibling own = rw (eq-eqb (p % 2) 1 odd) refl in
            joined ∙ ap (λ (o : ℕ). parent_of (tree_of log level o) own) next
            ∙ ap (λ (o : ℕ). parent_of (tree_of log level (2 * (b.index / 2 ^ suc level))) (tree_of log level o)) on
      ])

-- ---- no refusal

module _ (accepts : List ℕ → List ℕ → Bool) (p : Proof) (m : Content) (log : List (List ℕ)) (whole : IsWhole accepts m) (fits : ProofFits p)
    (no_greater : p.fork ≤ m.fork) (honest : ProofIsOf accepts log p) (covers : Covers p m) (nodes : NodesAreOf m log) where
  abbrev after : Content
  after = with_upgrade p m

  -- what holds of the content without an upgrade, and of the one with it, holds
  with_either : (P : Content → Type 0) → P m → ((u : UpgradePart) → p.upgrade ≡ Some u → P (upgrade_content u.length u.nodes u.signature m)) → P after
  with_either P same more = ByUpgrade p.upgrade refl
    where
      ByUpgrade : (upgrade : Option UpgradePart) → p.upgrade ≡ upgrade → P after
      ByUpgrade None none = let is : after ≡ m = rw none refl in subst P (sym is) same
      ByUpgrade (Some u) up = subst P (sym (goes_on p m u up no_greater covers.limit covers.head).after) (more u up)

  upgrade_is_of : (u : UpgradePart) → p.upgrade ≡ Some u → UpgradeIsOf log u
  upgrade_is_of u up = subst (λ (part : Option UpgradePart). IfSome part (UpgradeIsOf log)) up honest.upgrade

  upgrade_true : (u : UpgradePart) → p.upgrade ≡ Some u → AreTrue log (upgrade_content u.length u.nodes u.signature m).node
  upgrade_true u up depth offset twig is =
      let trees = cover_of m.length u.length in
      let on = goes_on p m u up no_greater covers.limit covers.head in
      let of = upgrade_is_of u up in
      let twigs : u.nodes ≡ map (tree_at log) trees = of.nodes ∙ ap (λ (n : ℕ). map (tree_at log) (cover_of n u.length)) on.starts in
      let own : AreTrue log (value_in trees u.nodes) = subst (λ (ts : List Twig). AreTrue log (value_in trees ts)) (sym twigs) (value_true log trees) in
      let known : AreTrue log (with_parts m.length m.node trees u.nodes) = λ d o t there. elim (cases_lt m.length (end_block_of d o)) [
        | inr within ↦
            let below : with_parts m.length m.node trees u.nodes d o ≡ m.node d o = rw (le-leb (end_block_of d o) m.length within) refl in
            nodes d o t (sym below ∙ there)
        | inl past ↦
            let behind : with_parts m.length m.node trees u.nodes d o ≡ value_in trees u.nodes d o = rw (lt-leb (end_block_of d o) m.length past) refl in
            own d o t (sym behind ∙ there)
      ] in
      joined_true log (with_parts m.length m.node trees u.nodes) known depth offset twig
      (closed_some u.length m.block (joined (with_parts m.length m.node trees u.nodes)) depth offset twig is).1

  after_true : AreTrue log after.node
  after_true = with_either (λ (c : Content). AreTrue log c.node) nodes upgrade_true

  not_behind : m.fork ≤ p.fork
  not_behind = ltb-false p.fork m.fork (not_refused (nat_lt p.fork m.fork) _ (first_none _ _ (first_none (fork_refusal p m) _ covers.head)))

  after_signed : signature_refusal accepts p after ≡ None
  after_signed = ByUpgrade p.upgrade refl
    where
      ByUpgrade : (upgrade : Option UpgradePart) → p.upgrade ≡ upgrade → signature_refusal accepts p after ≡ None
      ByUpgrade None none = rw none refl
      ByUpgrade (Some u) up =
          let on = goes_on p m u up no_greater covers.limit covers.head in
          let longer = upgrade_content u.length u.nodes u.signature m in
          let sound = upgrade_sound m u.length u.nodes u.signature whole.sound (upgrade_fits p m u up whole.sound fits no_greater covers.limit covers.head) in
          let same = roots_true log longer sound (upgrade_true u up) (upgrade_is_of u up).whole in
          let signed : Accepts accepts p.fork (length log) (roots_of log) u.signature =
          subst (λ (part : Option UpgradePart). IfSome part (λ v. Accepts accepts p.fork (length log) (roots_of log) v.signature)) up honest.signed in
          let fork : p.fork ≡ m.fork = omega (arith, no_greater, not_behind) in
          let accepted : accepts (signed_text (root_hash_of (roots longer)) u.length m.fork) u.signature ≡ true =
          ap (λ (rs : List Node). accepts (signed_text (root_hash_of rs) u.length m.fork) u.signature) same
          ∙ ap (λ (n : ℕ). accepts (signed_text (root_hash_of (roots_of log)) n m.fork) u.signature) (upgrade_is_of u up).whole
          ∙ ap (λ (f : ℕ). accepts (signed_text (root_hash_of (roots_of log)) (length log) f) u.signature) (sym fork) ∙ signed.accepted in
          subst (λ (c : Content). signature_refusal accepts p c ≡ None) (sym on.after) (rw (up, accepted) refl)

  block_meets : (b : Block) → BlockIsOf log b → differs_refusal after (part_of_block b) ≡ None
  block_meets b of = elim (cases_lt (length b.trail) (levels_up after (part_of_block b))) [
    | inl short ↦ rw (lt-leb (levels_up after (part_of_block b)) (length b.trail) short) refl
    | inr enough ↦ ByTop enough (stored_top after (part_of_block b)) refl
  ]
    where
      ByTop : levels_up after (part_of_block b) ≤ length b.trail → (top : Option Twig) → stored_top after (part_of_block b) ≡ top
          → differs_refusal after (part_of_block b) ≡ None
      ByTop enough None none = rw (le-leb (levels_up after (part_of_block b)) (length b.trail) enough, none) refl
      ByTop enough (Some want) some =
          let level = levels_up after (part_of_block b) in
          let have = folded_at b.index (leaf_of b.bytes) b.trail level in
          let from_leaf : 0 + level ≡ level = omega arith in
          let there : after.node level (b.index / 2 ^ level) ≡ Some want = ap (λ (k : ℕ). after.node k (b.index / 2 ^ level)) (sym from_leaf) ∙ some in
          let same : want ≡ have = after_true level (b.index / 2 ^ level) want there ∙ sym (fold_true log b of level enough) in
          let equal : is_same want have ≡ true = ap (λ (t : Twig). is_same t have) same ∙ same_is have in
          rw (le-leb level (length b.trail) enough, some, equal) refl

  after_meets : p.hash ≡ None → each_part p (differs_refusal after) ≡ None
  after_meets no_hash = ByBlock p.block refl
    where
      ByBlock : (block : Option Block) → p.block ≡ block → each_part p (differs_refusal after) ≡ None
      ByBlock None none = rw (none, no_hash) refl
      ByBlock (Some b) is =
          let of : BlockIsOf log b = subst (λ (part : Option Block). IfSome part (BlockIsOf log)) is honest.block in
          rw (is, no_hash, block_meets b of) refl

  unrefused_honest : p.hash ≡ None → refusal_of accepts p m ≡ None
  unrefused_honest no_hash =
      rw (covers.limit, covers.range, covers.head, after_meets no_hash, covers.reaches, after_signed, covers.byte) refl

-- a proof that is of the log, for a content of the log, and covers what is lacking, is admitted, or two inputs clash
pub covering_admitted : (accepts : List ℕ → List ℕ → Bool) (p : Proof) (m : Content) (log : List (List ℕ)) → IsWhole accepts m → ProofFits p
    → p.hash ≡ None → p.fork ≤ m.fork → IsOf m log → ProofIsOf accepts log p → Covers p m → OrClash (refusal_of accepts p m ≡ None) m log
covering_admitted accepts p m log whole fits no_hash no_greater of honest covers =
    or_clash_then (nodes_are_of m log whole.sound of) (λ nodes. inl (unrefused_honest accepts p m log whole fits no_greater honest covers nodes no_hash))
