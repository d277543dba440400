-- Each part of what the holder of a whole log answers is the log's.
use Rattle.std.proofs.Common.{◌≡◌, ℕ, Bool, true, false, ◌+◌, ◌/◌, ◌^◌, ◌<◌, ◌≤◌, inl, inr, List, [], ◌∷◌, length, map, Option, Some, None, IfSome, refl, sym, ap, subst, ◌∙◌, arith, if◌then◌else◌, nat_le, nat_lt, nat_eq, slice_get, slice_index_or, get_or}
use Rattle.std.specs.Prelude.{is_some, ◌&&◌}
use Rattle.std.specs.List.{list_all, range_with_len}
use Rattle.std.proofs.lemmas.Bool.{cases_Bool, and_parts, leb-true, eqb-true}
use Rattle.std.proofs.lemmas.List.{length-map}
use Rattle.std.proofs.lemmas.List.Folds.{list_all_at}
use Rattle.std.proofs.lemmas.List.FromFn.{length-range_with_len, get_or-range_with_len, get_or-map-range_with_len}
use Rattle.std.proofs.lemmas.Nat.{shr-shr}
use Rattle.std.proofs.lemmas.Option.{slice_get_within}
use Rattle.flat_tree.specs.Subtrees.{Subtree, number}
use Rattle.flat_tree.specs.Roots.{depth_over}
use Rattle.flat_tree.specs.Covers.{cover_of}
use Rattle.flat_tree.proofs.NumberLemmas.{trailing_ones-number, shifted}
use Rattle.merkle_nodes.specs.declared.node.Twig.{Twig}
use Rattle.merkle_nodes.specs.Tree.{tree_of}
use Rattle.merkle_nodes.specs.Roots.{node_of, roots_of, Accepts}
use Rattle.proof_form.specs.declared.fields.TheConstants.{MAX_NUMBER}
use Rattle.proof_form.specs.declared.request.Want.{Want}
use Rattle.proof_form.specs.declared.request.Reach.{Reach}
use Rattle.proof_form.specs.declared.request.Request.{Request}
use Rattle.proof_form.specs.declared.proof.HashPart.{HashPart}
use Rattle.proof_form.specs.declared.proof.UpgradePart.{UpgradePart}
use Rattle.proof_form.specs.Proofs.{Proof, Block, ProofFits}
use Rattle.node_set.specs.Contents.{Content, holds, twig_at, no_twig}
use Rattle.node_set.specs.Closure.{is_within, in_closure}
use Rattle.node_set.specs.Offsets.{seek_at}
use Rattle.node_set.specs.Paths.{depth_of, offset_of_node, levels, sibling_of, trail_at, has_trail}
use Rattle.node_set.proofs.ClosureLemmas.{within_true, true_closure}
use Rattle.node_set.proofs.RootTruth.{twig_at-some}
use Rattle.node_set.proofs.SoundLemmas.{stored_value, closed_some, closed_in}
use Rattle.proof_make.specs.Answers.{part_for, block_with, block_for, hash_with, hash_for, sought_block, upgrade_for, any_block_for, proof_with, tree_values, full_content, made}
use Rattle.proof_make.proofs.Siblings.{sibling_in_closure}
use Rattle.proof_check.specs.Covering.{BlockIsOf, UpgradeIsOf}
use Rattle.proof_check.specs.Parts.{part_of_hash}
use Rattle.judge_laws.specs.Honest.{PartIsOf, PartsAreOf}

-- ---- answers

-- what is given where a test holds
given_if : {A : Type 0} (test : Bool) (found : Option A) (answer : A) → (if test then found else None) ≡ Some answer → (test ≡ true) × (found ≡ Some answer)
given_if true found answer is = (refl, is)
given_if false found answer is = cc

-- what holds of each answer holds of a part that has one
given_part : {A B : Type 0} (P : B → Type 0) (asked : Option A) (answer : A → Option B) → ((a : A) (b : B) → answer a ≡ Some b → P b) → (part : Option B)
    → part_for asked answer ≡ Some part → IfSome part P
given_part P asked answer each None is = tt
given_part P None answer each (Some b) is = cc
given_part {B = B} P (Some a) answer each (Some b) is = ByAnswer (answer a) refl
  where
    ByAnswer : (found : Option B) → answer a ≡ found → P b
    ByAnswer None none = let nothing : part_for (Some a) answer ≡ None = rw none refl in let clash : None ≡ Some (Some b) = sym nothing ∙ is in cc
    ByAnswer (Some own) some =
        let value : part_for (Some a) answer ≡ Some (Some own) = rw some refl in
        let both : Some (Some own) ≡ Some (Some b) = sym value ∙ is in
        let same : own ≡ b = cc in
        subst P same (each a own some)

each_passes : (test : ℕ → Bool) (count level : ℕ) → list_all test (levels count) ≡ true → level < count → test level ≡ true
each_passes test count level all less = elim (cases_Bool (test level)) [
  | inl here ↦ here
  | inr fails_here ↦
      let there : get_or (range_with_len 0 count) level 0 ≡ level = get_or-range_with_len 0 count level 0 less ∙ omega arith in
      let fails = list_all_at test (range_with_len 0 count) level 0 (omega (arith, less, length-range_with_len 0 count)) (ap test there ∙ fails_here) in
      let clash : true ≡ false = sym all ∙ fails in
      cc
]

-- ---- the whole log's content

module _ (log : List (List ℕ)) (fork : ℕ) (signature : List ℕ) where
  abbrev full : Content
  full = full_content log fork signature

  abbrev n : ℕ
  n = length log

  tree_value : (d o : ℕ) (twig : Twig) → tree_values log d o ≡ Some twig → twig ≡ tree_of log d o
  tree_value d o twig is =
      let found = given_if (is_within n d o) (Some (tree_of log d o)) twig is in
      let both : Some (tree_of log d o) ≡ Some twig = found.1 in
      cc

  stored_true : (d o : ℕ) → is_some (full.node d o) ≡ true → twig_at full.node d o ≡ tree_of log d o
  stored_true d o some =
      let stored = stored_value (full.node d o) some in
      twig_at-some full.node d o stored.0 stored.1 ∙ tree_value d o stored.0 (closed_some n (slice_get log) (tree_values log) d o stored.0 stored.1).1

  in_closure_stored : (d o : ℕ) → in_closure n (holds (slice_get log)) d o ≡ true → is_some (full.node d o) ≡ true
  in_closure_stored d o test =
      let within = within_true n d o (true_closure n (holds (slice_get log)) d o test).within in
      let value : tree_values log d o ≡ Some (tree_of log d o) = rw within refl in
      ap is_some (closed_in n (slice_get log) (tree_values log) d o test ∙ value)

  -- a trail of stored siblings is the log's
  trail_true : (d o count : ℕ) → ((level : ℕ) → level < count → is_some (full.node (d + level) (sibling_of (o / 2 ^ level))) ≡ true) → (level : ℕ)
      → level < length (trail_at full.node d o count)
      → slice_index_or (trail_at full.node d o count) level no_twig ≡ tree_of log (d + level) (sibling_of (o / 2 ^ level))
  trail_true d o count stored level low =
      let sibling = λ (k : ℕ). twig_at full.node (d + k) (sibling_of (o / 2 ^ k)) in
      let short : level < count = omega (arith, low, length-map (range_with_len 0 count) sibling, length-range_with_len 0 count) in
      get_or-map-range_with_len sibling 0 count level level no_twig short (omega arith)
      ∙ stored_true (d + level) (sibling_of (o / 2 ^ level)) (stored level short)

  -- ---- a block

  block_true : (index count : ℕ) (b : Block) → count ≤ depth_over n index → (block : Option (List ℕ)) → slice_get log index ≡ block
      → block_with full index count block ≡ Some b → BlockIsOf log b
  block_true index count b few None is answer = cc
  block_true index count b few (Some bytes) is answer =
      let own : Block = record { index = index; bytes = bytes; trail = trail_at full.node 0 index count } in
      let same : own ≡ b = cc in
      let within = slice_get_within log index bytes is in
      subst (BlockIsOf log) same (record {
        bytes = is;
        trail = λ level low.
            let from_leaf : 0 + level ≡ level = omega arith in
            trail_true 0 index count (λ k short.
            let leaf : 0 + k ≡ k = omega arith in
            subst (λ (d : ℕ). is_some (full.node d (sibling_of (index / 2 ^ k))) ≡ true) (sym leaf)
            (in_closure_stored k (sibling_of (index / 2 ^ k))
            (sibling_in_closure n (holds (slice_get log)) index k (ap is_some is) within (omega (arith, short, few))))) level low
            ∙ ap (λ (d : ℕ). tree_of log d (sibling_of (index / 2 ^ level))) from_leaf;
      })

  wanted_block : (want : Want) (b : Block) → block_for full want ≡ Some b → BlockIsOf log b
  wanted_block want b is =
      let given =
      given_if (nat_lt want.index n && nat_le want.nodes (depth_over n want.index)) (block_with full want.index want.nodes (slice_get log want.index)) b is in
      let parts = and_parts (nat_lt want.index n) (nat_le want.nodes (depth_over n want.index)) given.0 in
      block_true want.index want.nodes b (leb-true want.nodes (depth_over n want.index) parts.1) (slice_get log want.index) refl given.1

  sought_true : (index : Option ℕ) (b : Block) → sought_block full index ≡ Some b → BlockIsOf log b
  sought_true None b is = cc
  sought_true (Some index) b is = block_true index (depth_over n index) b (omega arith) (slice_get log index) refl is

  any_block_true : (request : Request) (block : Option Block) → any_block_for full request ≡ Some block → IfSome block (BlockIsOf log)
  any_block_true request block is = ByIndex request.block refl
    where
      ByIndex : (want : Option Want) → request.block ≡ want → IfSome block (BlockIsOf log)
      ByIndex None none =
          let value : any_block_for full request ≡ part_for request.seek (λ byte. sought_block full (seek_at full byte)) = rw none refl in
          given_part (BlockIsOf log) request.seek (λ byte. sought_block full (seek_at full byte)) (λ byte. sought_true (seek_at full byte)) block
          (sym value ∙ is)
      ByIndex (Some want) some =
          let value : any_block_for full request ≡ part_for (Some want) (block_for full) = rw some refl in
          given_part (BlockIsOf log) (Some want) (block_for full) wanted_block block (sym value ∙ is)

  -- ---- a node

  number_parts : (d o : ℕ) → number d o ≤ MAX_NUMBER → (depth_of (number d o) ≡ d) × (offset_of_node (number d o) ≡ o)
  number_parts d o few =
      let depth : depth_of (number d o) ≡ d = trailing_ones-number (number d o) d o (omega (arith, few)) refl in
      (depth, ap (λ (k : ℕ). number d o / 2 ^ (k + 1)) depth ∙ sym (shr-shr (number d o) d 1) ∙ shifted d o)

  node_true : (d o count : ℕ) (h : HashPart) → has_trail full.node d o count ≡ true → (found : Option Twig) → full.node d o ≡ found
      → hash_with full d o count found ≡ Some h
      → h.node.index ≤ MAX_NUMBER → PartIsOf log (part_of_hash h)
  node_true d o count h siblings None is answer few = cc
  node_true d o count h siblings (Some twig) is answer few =
      let own : HashPart = record { node = node_of d o twig; trail = trail_at full.node d o count } in
      let same : own ≡ h = cc in
      let parts = number_parts d o (omega (arith, few, ap (λ (p : HashPart). p.node.index) same)) in
      let here : twig ≡ tree_of log d o = tree_value d o twig (closed_some n (slice_get log) (tree_values log) d o twig is).1 in
      let part : (e q : ℕ) → e ≡ d → q ≡ o → PartIsOf log (record { depth = e; offset = q; twig = twig; trail = own.trail }) = λ e q depth offset.
      rw (depth, offset) (record {
        twig = here;
        trail = trail_true d o count (λ level short. each_passes (λ k. is_some (full.node (d + k) (sibling_of (o / 2 ^ k)))) count level siblings short);
      }) in
      subst (λ (p : HashPart). PartIsOf log (part_of_hash p)) same (part (depth_of (number d o)) (offset_of_node (number d o)) parts.0 parts.1)

  wanted_node : (want : Want) (h : HashPart) → hash_for full want ≡ Some h → h.node.index ≤ MAX_NUMBER → PartIsOf log (part_of_hash h)
  wanted_node want h is =
      let d = depth_of want.index in
      let o = offset_of_node want.index in
      let given = given_if (has_trail full.node d o want.nodes) (hash_with full d o want.nodes (full.node d o)) h is in
      node_true d o want.nodes h given.0 (full.node d o) refl given.1

  -- ---- an upgrade

  all_stored : (trees : List Subtree) → list_all (λ (tree : Subtree). is_some (full.node tree.depth tree.offset)) trees ≡ true
      → map (λ (tree : Subtree). twig_at full.node tree.depth tree.offset) trees ≡ map (λ (tree : Subtree). tree_of log tree.depth tree.offset) trees
  all_stored [] all = refl
  all_stored (tree ∷ trees) all =
      let parts = and_parts (is_some (full.node tree.depth tree.offset)) (list_all (λ (t : Subtree). is_some (full.node t.depth t.offset)) trees) all in
      ap (λ (t : Twig). t ∷ map (λ (s : Subtree). twig_at full.node s.depth s.offset) trees) (stored_true tree.depth tree.offset parts.0)
      ∙ ap (λ (ts : List Twig). tree_of log tree.depth tree.offset ∷ ts) (all_stored trees parts.1)

  wanted_upgrade : (reach : Reach) (u : UpgradePart) → upgrade_for full reach ≡ Some u → UpgradeIsOf log u × (u.signature ≡ signature)
  wanted_upgrade reach u is =
      let trees = cover_of reach.start reach.length in
      let all = list_all (λ (tree : Subtree). is_some (full.node tree.depth tree.offset)) trees in
      let own : UpgradePart =
      record {
        start = reach.start;
        length = reach.length;
        nodes = map (λ (tree : Subtree). twig_at full.node tree.depth tree.offset) trees;
        signature = signature;
      } in
      let given = given_if (nat_eq reach.length n && nat_lt reach.start reach.length && all) (Some own) u is in
      let both : Some own ≡ Some u = given.1 in
      let same : own ≡ u = cc in
      let front = and_parts (nat_eq reach.length n && nat_lt reach.start reach.length) all given.0 in
      let whole = and_parts (nat_eq reach.length n) (nat_lt reach.start reach.length) front.0 in
      subst (λ (v : UpgradePart). UpgradeIsOf log v × (v.signature ≡ signature)) same
      (record { whole = eqb-true reach.length n whole.0; nodes = all_stored trees front.1 }, refl)

  -- ---- the proof

  -- a proof has the parts that it was put together of
  record IsOfParts (p : Proof) (block : Option (Option Block)) (hash : Option (Option HashPart)) (upgrade : Option (Option UpgradePart)) : Type 0 where
    own_block : block ≡ Some p.block
    own_hash : hash ≡ Some p.hash
    own_upgrade : upgrade ≡ Some p.upgrade
    fork_is : p.fork ≡ fork

  of_parts : (p : Proof) (seek : Option ℕ) (block : Option (Option Block)) (hash : Option (Option HashPart)) (upgrade : Option (Option UpgradePart))
      → proof_with fork seek block hash upgrade ≡ Some p → IsOfParts p block hash upgrade
  of_parts p seek None hash upgrade is = cc
  of_parts p seek (Some b) None upgrade is = cc
  of_parts p seek (Some b) (Some h) None is = cc
  of_parts p seek (Some b) (Some h) (Some u) is =
      let own : Proof = record { fork = fork; block = b; hash = h; seek = seek; upgrade = u } in
      let same : own ≡ p = cc in
      subst (λ (q : Proof). IsOfParts q (Some b) (Some h) (Some u)) same (record { own_block = refl; own_hash = refl; own_upgrade = refl; fork_is = refl })

  if_both : {X : Type 0} {P Q R : X → Type 0} (part : Option X) → IfSome part P → IfSome part Q → ((x : X) → P x → Q x → R x) → IfSome part R
  if_both None first second both = tt
  if_both (Some x) first second both = both x first second

  pub made_parts : (accepts : List ℕ → List ℕ → Bool) (request : Request) (p : Proof) → ProofFits p → made log fork signature request ≡ Some p
      → Accepts accepts fork n (roots_of log) signature → PartsAreOf accepts log p
  made_parts accepts request p fits is accepted =
      let hash = part_for request.hash (hash_for full) in
      let upgrade = part_for request.upgrade (upgrade_for full) in
      let given = given_if (nat_eq request.fork fork) (proof_with fork request.seek (any_block_for full request) hash upgrade) p is in
      let parts = of_parts p request.seek (any_block_for full request) hash upgrade given.1 in
      let upgraded =
      given_part (λ (u : UpgradePart). UpgradeIsOf log u × (u.signature ≡ signature)) request.upgrade (upgrade_for full) wanted_upgrade
      p.upgrade parts.own_upgrade in
      let nodes =
      given_part (λ (h : HashPart). h.node.index ≤ MAX_NUMBER → PartIsOf log (part_of_hash h)) request.hash (hash_for full) wanted_node p.hash parts.own_hash in
      record {
        proof = record {
          block = any_block_true request p.block parts.own_block;
          upgrade = if_both p.upgrade upgraded upgraded (λ u of again. of.0);
          signed = if_both p.upgrade upgraded upgraded (λ u of again.
              subst (λ (f : ℕ). Accepts accepts f n (roots_of log) u.signature) (sym parts.fork_is)
              (subst (λ (s : List ℕ). Accepts accepts fork n (roots_of log) s) (sym of.1) accepted));
        };
        hash = if_both p.hash nodes fits.hash (λ h of is_fit. of is_fit.index);
      }
