-- What the holder of a whole log answers is of the log.
use Rattle.std.proofs.Common.{◌≡◌, ℕ, suc, Bool, true, ◌+◌, ◌-◌, ◌/◌, ◌^◌, ◌<◌, ◌≤◌, inl, inr, List, [], ◌∷◌, length, map, Option, Some, None, IfSome, refl, sym, ap, subst, ◌∙◌, arith, nat_le, nat_lt, nat_eq, slice_get}
use Rattle.std.specs.Prelude.{is_some, ◌&&◌}
use Rattle.std.specs.List.{list_all, range_with_len}
use Rattle.std.proofs.lemmas.Bool.{cases_Bool, and_parts, ltb-true, leb-true, eqb-true}
use Rattle.std.proofs.lemmas.List.{length-map}
use Rattle.std.proofs.lemmas.List.FromFn.{length-range_with_len, get_or-map-range_with_len}
use Rattle.flat_tree.specs.Subtrees.{Subtree, end_block_of}
use Rattle.flat_tree.specs.Roots.{depth_over}
use Rattle.flat_tree.specs.Covers.{cover_of}
use Rattle.merkle_nodes.specs.declared.node.Twig.{Twig}
use Rattle.merkle_nodes.specs.Tree.{tree_of}
use Rattle.merkle_nodes.specs.Roots.{roots_of, Accepts}
use Rattle.proof_form.specs.declared.request.Want.{Want}
use Rattle.proof_form.specs.declared.request.Reach.{Reach}
use Rattle.proof_form.specs.declared.request.Request.{Request}
use Rattle.proof_form.specs.declared.proof.UpgradePart.{UpgradePart}
use Rattle.proof_form.specs.Proofs.{Proof, Block}
use Rattle.node_set.specs.Contents.{Content, holds, twig_at, no_twig}
use Rattle.node_set.specs.Closure.{is_within, any_under}
use Rattle.node_set.specs.Paths.{sibling_of, trail_at}
use Rattle.node_set.proofs.ClosureLemmas.{within_true, true_closure, halves_in_closure}
use Rattle.node_set.proofs.OffsetTruth.{path_within}
use Rattle.node_set.proofs.PathLemmas.{root_over_stored}
use Rattle.node_set.proofs.RootTruth.{twig_at-some}
use Rattle.node_set.proofs.SoundLemmas.{stored_value, closed_some, closed_in}
use Rattle.node_set.proofs.Stored.{over-suc, any_under-held as any_under_path}
use Rattle.proof_make.specs.Answers.{part_for, block_with, block_for, upgrade_for, any_block_for, proof_with, tree_values, full_content, made}
use Rattle.proof_check.specs.Covering.{BlockIsOf, UpgradeIsOf, ProofIsOf}

module _ (log : List (List ℕ)) (fork : ℕ) (signature : List ℕ) where
  abbrev full : Content
  full = full_content log fork signature

  abbrev n : ℕ
  n = length log

  -- each node is the log's
  full_true : (depth offset : ℕ) (twig : Twig) → full.node depth offset ≡ Some twig → twig ≡ tree_of log depth offset
  full_true depth offset twig is =
      let own = (closed_some n (slice_get log) (tree_values log) depth offset twig is).1 in
      elim (cases_Bool (is_within n depth offset)) [
        | inl within ↦
            let value : tree_values log depth offset ≡ Some (tree_of log depth offset) = rw within refl in
            let both : Some (tree_of log depth offset) ≡ Some twig = sym value ∙ own in
            cc
        | inr past ↦
            let value : tree_values log depth offset ≡ None = rw past refl in
            let clash : None ≡ Some twig = sym value ∙ own in
            cc
      ]

  stored_true : (depth offset : ℕ) → is_some (full.node depth offset) ≡ true → twig_at full.node depth offset ≡ tree_of log depth offset
  stored_true depth offset some =
      let stored = stored_value (full.node depth offset) some in
      twig_at-some full.node depth offset stored.0 stored.1 ∙ full_true depth offset stored.0 stored.1

  -- the twigs of stored subtrees are the log's
  all_stored : (trees : List Subtree) → list_all (λ (tree : Subtree). is_some (full.node tree.depth tree.offset)) trees ≡ true
      → map (λ (tree : Subtree). twig_at full.node tree.depth tree.offset) trees ≡ map (λ (tree : Subtree). tree_of log tree.depth tree.offset) trees
  all_stored [] all = refl
  all_stored (tree ∷ trees) all =
      let parts = and_parts (is_some (full.node tree.depth tree.offset)) (list_all (λ (t : Subtree). is_some (full.node t.depth t.offset)) trees) all in
      ap (λ (t : Twig). t ∷ map (λ (s : Subtree). twig_at full.node s.depth s.offset) trees) (stored_true tree.depth tree.offset parts.0)
      ∙ ap (λ (ts : List Twig). tree_of log tree.depth tree.offset ∷ ts) (all_stored trees parts.1)

  -- the upgrade that is made
  upgrade_made : (reach : Reach) (u : UpgradePart) → upgrade_for full reach ≡ Some u → UpgradeIsOf log u × (u.signature ≡ signature)
  upgrade_made reach u is = elim (cases_Bool test) [
    | inr other ↦
        let none : upgrade_for full reach ≡ None = rw other refl in
        let clash : None ≡ Some u = sym none ∙ is in
        cc
    | inl here ↦
        let value : upgrade_for full reach ≡ Some part = rw here refl in
        let both : Some part ≡ Some u = sym value ∙ is in
        let same : part ≡ u = cc in
        let front = and_parts (nat_eq reach.length n && nat_lt reach.start reach.length) all here in
        let whole = and_parts (nat_eq reach.length n) (nat_lt reach.start reach.length) front.0 in
        subst (λ (v : UpgradePart). UpgradeIsOf log v × (v.signature ≡ signature)) same
        (record { whole = eqb-true reach.length n whole.0; nodes = all_stored trees front.1 }, refl)
  ]
    where
      trees : List Subtree
      trees = cover_of reach.start reach.length

      all : Bool
      all = list_all (λ (tree : Subtree). is_some (full.node tree.depth tree.offset)) trees

      test : Bool
      test = nat_eq reach.length n && nat_lt reach.start reach.length && all

      part : UpgradePart
      part = record { start = reach.start; length = reach.length; nodes = map (λ (tree : Subtree). twig_at full.node tree.depth tree.offset) trees; signature = signature }

  -- ---- the block that is made

  siblings_stored : (index level : ℕ) (block : List ℕ) → slice_get log index ≡ Some block → index < n → level < depth_over n index
      → is_some (full.node level (sibling_of (index / 2 ^ level))) ≡ true
  siblings_stored index level block is within low =
      let root = depth_over n index in
      let inside = (true_closure n (holds (slice_get log)) root (index / 2 ^ root) (root_over_stored n (holds (slice_get log)) index within)).within in
      let parent : end_block_of (suc level) (index / 2 ^ suc level) ≤ n = path_within n index root (root - suc level) (suc level) (omega (arith, low)) inside in
      let half : sibling_of (index / 2 ^ level) / 2 ≡ index / 2 ^ suc level = omega (arith, over-suc index level) in
      let leaf_any : any_under (holds (slice_get log)) (suc level) (index / 2 ^ suc level) ≡ true =
      any_under_path (holds (slice_get log)) index (suc level) (ap is_some is) in
      let test = halves_in_closure n (holds (slice_get log)) level (index / 2 ^ suc level) (sibling_of (index / 2 ^ level)) half leaf_any parent in
      let own : is_within n level (sibling_of (index / 2 ^ level)) ≡ true =
      within_true n level (sibling_of (index / 2 ^ level)) (true_closure n (holds (slice_get log)) level (sibling_of (index / 2 ^ level)) test).within in
      let value : tree_values log level (sibling_of (index / 2 ^ level)) ≡ Some (tree_of log level (sibling_of (index / 2 ^ level))) = rw own refl in
      ap is_some (closed_in n (slice_get log) (tree_values log) level (sibling_of (index / 2 ^ level)) test ∙ value)

  block_made : (want : Want) (b : Block) → block_for full want ≡ Some b → BlockIsOf log b
  block_made want b is = elim (cases_Bool (nat_lt want.index n && nat_le want.nodes (depth_over n want.index))) [
    | inr other ↦
        let none : block_for full want ≡ None = rw other refl in
        let clash : None ≡ Some b = sym none ∙ is in
        cc
    | inl here ↦
        let parts = and_parts (nat_lt want.index n) (nat_le want.nodes (depth_over n want.index)) here in
        let value : block_for full want ≡ block_with full want.index want.nodes (slice_get log want.index) = rw here refl in
        ByBlock (ltb-true want.index n parts.0) (leb-true want.nodes (depth_over n want.index) parts.1) (slice_get log want.index) refl (sym value ∙ is)
  ]
    where
      trail : List Twig
      trail = trail_at full.node 0 want.index want.nodes

      ByBlock : want.index < n → want.nodes ≤ depth_over n want.index → (block : Option (List ℕ)) → slice_get log want.index ≡ block
          → block_with full want.index want.nodes block ≡ Some b → BlockIsOf log b
      ByBlock within few None is_block made_is = cc
      ByBlock within few (Some bytes) is_block made_is =
          let own : Block = record { index = want.index; bytes = bytes; trail = trail } in
          let same : own ≡ b = cc in
          subst (BlockIsOf log) same (record {
            bytes = is_block;
            trail = λ level low.
                let sibling = λ (k : ℕ). twig_at full.node (0 + k) (sibling_of (want.index / 2 ^ k)) in
                let short : level < want.nodes = omega (arith, low, length-map (range_with_len 0 want.nodes) sibling, length-range_with_len 0 want.nodes) in
                let from_leaf : 0 + level ≡ level = omega arith in
                get_or-map-range_with_len sibling 0 want.nodes level level no_twig short from_leaf
                ∙ ap (λ (k : ℕ). twig_at full.node k (sibling_of (want.index / 2 ^ level))) from_leaf
                ∙ stored_true level (sibling_of (want.index / 2 ^ level)) (siblings_stored want.index level bytes is_block within (omega (arith, short, few)));
          })

  -- ---- the whole

  -- a part that is given is one that was answered
  given : {A B : Type 0} (asked : A) (answer : A → Option B) (part : Option B) → part_for (Some asked) answer ≡ Some part → (b : B) × ((answer asked ≡ Some b) × (part ≡ Some b))
  given {B = B} asked answer part is = ByAnswer (answer asked) refl
    where
      ByAnswer : (found : Option B) → answer asked ≡ found → (b : B) × ((answer asked ≡ Some b) × (part ≡ Some b))
      ByAnswer None none = let value : part_for (Some asked) answer ≡ None = rw none refl in let clash : None ≡ Some part = sym value ∙ is in cc
      ByAnswer (Some b) some =
          let value : part_for (Some asked) answer ≡ Some (Some b) = rw some refl in
          let both : Some part ≡ Some (Some b) = sym is ∙ value in
          let same : part ≡ Some b = cc in
          (b, (some, same))

  block_answered : (request : Request) (b : Option Block) → request.seek ≡ None → any_block_for full request ≡ Some b → IfSome b (BlockIsOf log)
  block_answered request b no_seek is = ByIndex request.block refl
    where
      ByIndex : (want : Option Want) → request.block ≡ want → IfSome b (BlockIsOf log)
      ByIndex None none =
          let value : any_block_for full request ≡ Some None = rw (none, no_seek) refl in
          let both : Some None ≡ Some b = sym value ∙ is in
          let same : None ≡ b = cc in
          subst (λ (k : Option Block). IfSome k (BlockIsOf log)) same tt
      ByIndex (Some want) some =
          let value : any_block_for full request ≡ part_for (Some want) (block_for full) = rw some refl in
          let part = given want (block_for full) b (sym value ∙ is) in
          subst (λ (k : Option Block). IfSome k (BlockIsOf log)) (sym part.1.1) (block_made want part.0 part.1.0)

  upgrade_answered : (reach : Option Reach) (u : Option UpgradePart) → part_for reach (upgrade_for full) ≡ Some u
      → IfSome u (λ (v : UpgradePart). UpgradeIsOf log v × (v.signature ≡ signature))
  upgrade_answered None u is =
      let both : Some None ≡ Some u = is in
      let same : None ≡ u = cc in
      subst (λ (k : Option UpgradePart). IfSome k (λ (v : UpgradePart). UpgradeIsOf log v × (v.signature ≡ signature))) same tt
  upgrade_answered (Some reach) u is =
      let part = given reach (upgrade_for full) u is in
      subst (λ (k : Option UpgradePart). IfSome k (λ (v : UpgradePart). UpgradeIsOf log v × (v.signature ≡ signature))) (sym part.1.1)
      (upgrade_made reach part.0 part.1.0)

  -- a proof has the parts that it was put together of
  record IsOfParts (p : Proof) (block : Option (Option Block)) (upgrade : Option (Option UpgradePart)) : Type 0 where
    own_block : block ≡ Some p.block
    own_upgrade : upgrade ≡ Some p.upgrade
    no_hash : p.hash ≡ None
    fork_is : p.fork ≡ fork

  of_parts : (p : Proof) (block : Option (Option Block)) (upgrade : Option (Option UpgradePart)) → proof_with fork None block (Some None) upgrade ≡ Some p
      → IsOfParts p block upgrade
  of_parts p None upgrade is = cc
  of_parts p (Some b) None is = cc
  of_parts p (Some b) (Some u) is =
      let own : Proof = record { fork = fork; block = b; hash = None; seek = None; upgrade = u } in
      let same : own ≡ p = cc in
      subst (λ (q : Proof). IsOfParts q (Some b) (Some u)) same (record { own_block = refl; own_upgrade = refl; no_hash = refl; fork_is = refl })

-- the honest proof of a request for a block and an upgrade is of the log
pub made_is_of : (accepts : List ℕ → List ℕ → Bool) (log : List (List ℕ)) (fork : ℕ) (signature : List ℕ) (request : Request) (p : Proof)
    → request.hash ≡ None → request.seek ≡ None → Accepts accepts fork (length log) (roots_of log) signature → made log fork signature request ≡ Some p
    → ProofIsOf accepts log p × (p.hash ≡ None) × (p.fork ≡ fork)
made_is_of accepts log fork signature request p no_hash no_seek accepted is = elim (cases_Bool (nat_eq request.fork fork)) [
  | inr other ↦
      let none : made log fork signature request ≡ None = rw other refl in
      let clash : None ≡ Some p = sym none ∙ is in
      cc
  | inl here ↦
      let value : made log fork signature request ≡ proof_with fork None (any_block_for content request) (Some None) (part_for request.upgrade (upgrade_for content)) =
      rw (here, no_hash, no_seek) refl in
      let parts = of_parts log fork signature p (any_block_for content request) (part_for request.upgrade (upgrade_for content)) (sym value ∙ is) in
      let upgrade = upgrade_answered log fork signature request.upgrade p.upgrade parts.own_upgrade in (
        record {
          block = block_answered log fork signature request p.block no_seek parts.own_block;
          upgrade = each p.upgrade upgrade (λ u of. of.0);
          signed = each p.upgrade upgrade (λ u of.
              subst (λ (f : ℕ). Accepts accepts f (length log) (roots_of log) u.signature) (sym parts.fork_is)
              (subst (λ (s : List ℕ). Accepts accepts fork (length log) (roots_of log) s) (sym of.1) accepted));
        },
        parts.no_hash,
        parts.fork_is,
      )
]
  where
    content : Content
    content = full_content log fork signature

    each : {P Q : UpgradePart → Type 0} (u : Option UpgradePart) → IfSome u P → ((v : UpgradePart) → P v → Q v) → IfSome u Q
    each None holds next = tt
    each (Some v) holds next = next v holds
