-- A proof whose parts are a log's, and that covers what a content lacks, isn't refused, or two inputs clash.
use Rattle.std.proofs.Common.{◌≡◌, ℕ, Bool, true, ◌+◌, ◌/◌, ◌^◌, ◌≤◌, ◌⊎◌, inl, inr, List, [], length, take, map, Option, Some, None, IfSome, refl, sym, ap, subst, ◌∙◌, arith, nat_eq}
use Rattle.std.specs.Prelude.{not}
use Rattle.std.specs.Str.{bytes_eq}
use Rattle.std.proofs.lemmas.Bool.{cases_lt, le-leb, lt-leb, eq-eqb, and_from}
use Rattle.std.proofs.lemmas.List.{take_all}
use Rattle.std.proofs.lemmas.Option.{get_or_from_slice_get}
use Rattle.std.proofs.lemmas.Slice.Eq.{bytes_eq-Decides}
use Rattle.flat_tree.specs.Subtrees.{Subtree}
use Rattle.flat_tree.specs.Roots.{full_roots_of}
use Rattle.flat_tree.specs.Covers.{cover_of}
use Rattle.flat_tree.specs.declared.limits.TheConstants.{MAX_CORE_BYTES}
use Rattle.flat_tree.proofs.CoverLemmas.{cover-full}
use Rattle.merkle_nodes.specs.declared.node.Node.{Node}
use Rattle.merkle_nodes.specs.declared.node.Twig.{Twig}
use Rattle.merkle_nodes.specs.Tree.{leaf_of, tree_of}
use Rattle.merkle_nodes.specs.Joined.{joined, value_in, with_parts}
use Rattle.merkle_nodes.specs.Roots.{roots_of, root_hash_of, signed_text, Accepts}
use Rattle.merkle_nodes.specs.Sound.{inputs_of, Clash}
use Rattle.proof_form.specs.declared.proof.HashPart.{HashPart}
use Rattle.proof_form.specs.declared.proof.UpgradePart.{UpgradePart}
use Rattle.proof_form.specs.Proofs.{Proof, Block, ProofFits}
use Rattle.node_set.specs.Contents.{Content, roots, bytes_under}
use Rattle.node_set.specs.Evidence.{IsOf, NodesAreOf, bytes_of, evidence}
use Rattle.node_set.specs.declared.fault.Refusal.{Refusal}
use Rattle.node_set.specs.declared.fault.Refusal.TheVariants.{BadSignature}
use Rattle.node_set.specs.Refuses.{refuse_if}
use Rattle.node_set.specs.Paths.{folded_at, sibling_of}
use Rattle.node_set.specs.Same.{is_same}
use Rattle.node_set.specs.Whole.{IsSound, IsWhole}
use Rattle.node_set.specs.Changes.{upgrade_content}
use Rattle.node_set.proofs.SizeTruth.{nodes_are_of}
use Rattle.node_set.proofs.SoundLemmas.{closed_some}
use Rattle.node_set.proofs.UpgradeLemmas.{upgrade_sound}
use Rattle.core_forks.specs.Reorganise.{reorganise_content}
use Rattle.proof_check.specs.Upgraded.{with_upgrade, new_roots}
use Rattle.proof_check.specs.Parts.{Part, part_of_block, part_of_hash, of_part, levels_up, stored_top, differs_refusal}
use Rattle.proof_check.specs.Judge.{each_part, signature_refusal, refusal_of}
use Rattle.proof_check.specs.Covering.{Covers, BlockIsOf, UpgradeIsOf}
use Rattle.proof_check.proofs.AdmitWhole.{goes_on, upgrade_fits}
use Rattle.judge_laws.specs.Honest.{PartIsOf, PartsAreOf, AllowsFork, OrClashBy}
use Rattle.judge_laws.proofs.Admitted.{Replaces, greater_replaces, greater_upgrade, reorganised_sound}
use Rattle.judge_laws.proofs.Reorganised.{own_root}
use Rattle.judge_laws.proofs.TrueValues.{AreTrue, tree_at, value_true, joined_true, parts_true, roots_true, roots_bytes, fold_true}

same_is : (twig : Twig) → is_same twig twig ≡ true
same_is twig =
    and_from (nat_eq twig.size twig.size) (bytes_eq twig.hash twig.hash) (eq-eqb twig.size twig.size refl) ((bytes_eq-Decides twig.hash twig.hash).1 refl)

-- the verifier refuses a content's head
abbrev head_refused : (List ℕ → List ℕ → Bool) → Content → UpgradePart → Option Refusal
head_refused accepts after u = refuse_if (not (accepts (signed_text (root_hash_of (roots after)) after.length after.fork) u.signature)) BadSignature

-- a block of the log as a part of it
block_part : (log : List (List ℕ)) (b : Block) → BlockIsOf log b → PartIsOf log (part_of_block b)
unfolding tree_of
block_part log b of = record {
  twig = ap leaf_of (sym (get_or_from_slice_get log b.index b.bytes [] of.bytes));
  trail = λ level less.
      let from_leaf : level ≡ 0 + level = omega arith in
      of.trail level less ∙ ap (λ (d : ℕ). tree_of log d (sibling_of (b.index / 2 ^ level))) from_leaf;
}

-- ---- the content with the upgrade in

-- the head is the log's, under the proof's fork
pub record HasHead (p : Proof) (log : List (List ℕ)) (after : Content) : Type 0 where
  pub roots_are : roots after ≡ roots_of log
  pub length_is : after.length ≡ length log
  pub fork_is : after.fork ≡ p.fork

-- the nodes are the log's, and so is the head where there is an upgrade
pub record IsTrueAfter (p : Proof) (log : List (List ℕ)) (after : Content) : Type 0 where
  pub nodes : NodesAreOf after log
  pub head : (u : UpgradePart) → p.upgrade ≡ Some u → HasHead p log after

module _ (accepts : List ℕ → List ℕ → Bool) (p : Proof) (m : Content) (log : List (List ℕ)) (whole : IsWhole accepts m) (fits : ProofFits p)
    (honest : PartsAreOf accepts log p) (covers : Covers p m) where
  abbrev after : Content
  after = with_upgrade p m

  upgrade_is_of : (u : UpgradePart) → p.upgrade ≡ Some u → UpgradeIsOf log u
  upgrade_is_of u up = subst (λ (part : Option UpgradePart). IfSome part (UpgradeIsOf log)) up honest.proof.upgrade

  same_twigs : (u : UpgradePart) (from : ℕ) → p.upgrade ≡ Some u → u.start ≡ from → u.nodes ≡ map (tree_at log) (cover_of from u.length)
  same_twigs u from up starts = (upgrade_is_of u up).nodes ∙ ap (λ (n : ℕ). map (tree_at log) (cover_of n u.length)) starts

  -- ---- under the same fork

  longer_true : (u : UpgradePart) → p.upgrade ≡ Some u → p.fork ≡ m.fork → NodesAreOf m log → IsTrueAfter p log after
  longer_true u up same nodes =
      let no_greater : p.fork ≤ m.fork = omega (arith, same) in
      let on = goes_on p m u up no_greater covers.limit covers.head in
      let longer = upgrade_content u.length u.nodes u.signature m in
      let trees = cover_of m.length u.length in
      let known = with_parts m.length m.node trees u.nodes in
      let known_true : AreTrue log known =
      subst (λ (ts : List Twig). AreTrue log (with_parts m.length m.node trees ts)) (sym (same_twigs u m.length up on.starts))
      (parts_true log m.length m.node trees nodes) in
      let node_true : NodesAreOf longer log =
      λ d o twig is. joined_true log known known_true d o twig (closed_some u.length m.block (joined known) d o twig is).1 in
      let sound = upgrade_sound m u.length u.nodes u.signature whole.sound (upgrade_fits p m u up whole.sound fits no_greater covers.limit covers.head) in
      let head : HasHead p log longer = record {
        roots_are = roots_true log longer sound (upgrade_is_of u up).whole (λ d o root. node_true d o);
        length_is = (upgrade_is_of u up).whole;
        fork_is = sym same;
      } in
      subst (IsTrueAfter p log) (sym on.after) (record { nodes = node_true; head = λ v is. head })

  same_fork_true : p.fork ≡ m.fork → NodesAreOf m log → IsTrueAfter p log after
  same_fork_true same nodes = ByUpgrade p.upgrade refl
    where
      ByUpgrade : (upgrade : Option UpgradePart) → p.upgrade ≡ upgrade → IsTrueAfter p log after
      ByUpgrade (Some u) up = longer_true u up same nodes
      ByUpgrade None none =
          let is : after ≡ m = rw none refl in
          subst (IsTrueAfter p log) (sym is) (record { nodes = nodes; head = λ u up. let clash : None ≡ Some u = sym none ∙ up in cc })

  -- ---- under a greater fork

  -- the roots are the log's, so that the content is of the log
  module _ (u : UpgradePart) (up : p.upgrade ≡ Some u) (takes : Replaces p m u) where
    abbrev other_log : Content
    other_log = reorganise_content p.fork u.length (new_roots u) u.signature m

    sound_other : IsSound other_log
    sound_other = subst IsSound takes.after (reorganised_sound p m u whole.sound takes)

    twigs_true : AreTrue log (value_in (full_roots_of u.length) (new_roots u))
    twigs_true =
        let twigs : new_roots u ≡ map (tree_at log) (full_roots_of u.length) =
        takes.roots_came ∙ same_twigs u 0 up takes.starts ∙ ap (λ (trees : List Subtree). map (tree_at log) trees) (cover-full u.length) in
        subst (λ (ts : List Twig). AreTrue log (value_in (full_roots_of u.length) ts)) (sym twigs) (value_true log (full_roots_of u.length))

    other_head : HasHead p log other_log
    other_head = record {
      roots_are = roots_true log other_log sound_other (upgrade_is_of u up).whole (λ d o root twig is.
          twigs_true d o twig (own_root m u.length (new_roots u) whole.sound takes.count takes.twigs_fit d o twig root is));
      length_is = (upgrade_is_of u up).whole;
      fork_is = refl;
    }

    other_is_of : IsOf other_log log
    other_is_of =
        let first : take u.length log ≡ log = take_all u.length log (omega (arith, other_head.length_is)) in
        let few : bytes_under (roots other_log) ≤ MAX_CORE_BYTES = subst (λ (c : Content). bytes_under (roots c) ≤ MAX_CORE_BYTES) takes.after takes.bytes in
        let all : bytes_of (take (length log) log) ≡ bytes_of (take u.length log) = ap (λ (n : ℕ). bytes_of (take n log)) (sym other_head.length_is) in
        record {
          long = omega (arith, other_head.length_is);
          bytes = omega (arith, few, ap bytes_under other_head.roots_are, roots_bytes log, all);
          root_hash = ap root_hash_of other_head.roots_are ∙ ap (λ (blocks : List (List ℕ)). root_hash_of (roots_of blocks)) (sym first);
        }

    other_true : IsTrueAfter p log after ⊎ Clash (inputs_of log) (evidence after)
    other_true = elim (nodes_are_of other_log log sound_other other_is_of) [
      | inr clash ↦ inr (subst (λ (c : Content). Clash (inputs_of log) (evidence c)) (sym takes.after) clash)
      | inl nodes ↦ inl (subst (IsTrueAfter p log) (sym takes.after) (record { nodes = nodes; head = λ v is. other_head }))
    ]

  true_after : AllowsFork p m log → OrClashBy (IsTrueAfter p log after) p m log
  true_after (inl same) = elim (nodes_are_of m log whole.sound same.1) [ inr clash ↦ inr (inl clash) | inl nodes ↦ inl (same_fork_true same.0 nodes) ]
  true_after (inr greater) =
      let part = greater_upgrade p m greater covers.head in
      elim (other_true part.0 part.1 (greater_replaces p m part.0 part.1 fits greater covers.limit covers.head)) [
        | inl is ↦ inl is
        | inr clash ↦ inr (inr clash)
      ]

  -- ---- no refusal

  part_meets : (part : Part) → PartIsOf log part → NodesAreOf after log → differs_refusal after part ≡ None
  part_meets part of nodes = elim (cases_lt (length part.trail) (levels_up after part)) [
    | inl short ↦ rw (lt-leb (levels_up after part) (length part.trail) short) refl
    | inr enough ↦ ByTop enough (stored_top after part) refl
  ]
    where
      ByTop : levels_up after part ≤ length part.trail → (top : Option Twig) → stored_top after part ≡ top → differs_refusal after part ≡ None
      ByTop enough None none = rw (le-leb (levels_up after part) (length part.trail) enough, none) refl
      ByTop enough (Some want) some =
          let level = levels_up after part in
          let have = folded_at part.offset part.twig part.trail level in
          let same : want ≡ have = nodes (part.depth + level) (part.offset / 2 ^ level) want some ∙ sym (fold_true log part of level enough) in
          let equal : is_same want have ≡ true = ap (λ (t : Twig). is_same t have) same ∙ same_is have in
          rw (le-leb level (length part.trail) enough, some, equal) refl

  parts_meet : NodesAreOf after log → each_part p (differs_refusal after) ≡ None
  parts_meet nodes = ByParts p.block p.hash refl refl
    where
      block_meets : (b : Block) → p.block ≡ Some b → differs_refusal after (part_of_block b) ≡ None
      block_meets b is =
          part_meets (part_of_block b) (block_part log b (subst (λ (part : Option Block). IfSome part (BlockIsOf log)) is honest.proof.block)) nodes

      hash_meets : (h : HashPart) → p.hash ≡ Some h → differs_refusal after (part_of_hash h) ≡ None
      hash_meets h is =
          part_meets (part_of_hash h) (subst (λ (part : Option HashPart). IfSome part (λ (h : HashPart). PartIsOf log (part_of_hash h))) is honest.hash) nodes

      ByParts : (block : Option Block) (hash : Option HashPart) → p.block ≡ block → p.hash ≡ hash → each_part p (differs_refusal after) ≡ None
      ByParts None None block_is hash_is = rw (block_is, hash_is) refl
      ByParts None (Some h) block_is hash_is = rw (block_is, hash_is) (hash_meets h hash_is)
      ByParts (Some b) None block_is hash_is = rw (block_is, hash_is, block_meets b block_is) refl
      ByParts (Some b) (Some h) block_is hash_is = rw (block_is, hash_is, block_meets b block_is) (hash_meets h hash_is)

  signed_after : ((u : UpgradePart) → p.upgrade ≡ Some u → HasHead p log after) → signature_refusal accepts p after ≡ None
  signed_after has = ByUpgrade p.upgrade refl
    where
      ByUpgrade : (upgrade : Option UpgradePart) → p.upgrade ≡ upgrade → signature_refusal accepts p after ≡ None
      ByUpgrade None none = ap (λ (part : Option UpgradePart). of_part part (head_refused accepts after)) none
      ByUpgrade (Some u) up =
          let head = has u up in
          let signed : Accepts accepts p.fork (length log) (roots_of log) u.signature =
          subst (λ (part : Option UpgradePart). IfSome part (λ v. Accepts accepts p.fork (length log) (roots_of log) v.signature)) up honest.proof.signed in
          let accepted : accepts (signed_text (root_hash_of (roots after)) after.length after.fork) u.signature ≡ true =
          ap (λ (rs : List Node). accepts (signed_text (root_hash_of rs) after.length after.fork) u.signature) head.roots_are
          ∙ ap (λ (n : ℕ). accepts (signed_text (root_hash_of (roots_of log)) n after.fork) u.signature) head.length_is
          ∙ ap (λ (f : ℕ). accepts (signed_text (root_hash_of (roots_of log)) (length log) f) u.signature) head.fork_is ∙ signed.accepted in
          ap (λ (part : Option UpgradePart). of_part part (head_refused accepts after)) up ∙ ap (λ (b : Bool). refuse_if (not b) BadSignature) accepted

  not_refused_after : IsTrueAfter p log after → refusal_of accepts p m ≡ None
  not_refused_after is =
      rw (covers.limit, covers.range, covers.head, parts_meet is.nodes, covers.reaches, signed_after is.head, covers.byte) refl

  -- a proof whose parts are the log's, and that covers what is lacking, is admitted, or two inputs clash
  pub covering_admitted : AllowsFork p m log → OrClashBy (refusal_of accepts p m ≡ None) p m log
  covering_admitted may = elim (true_after may) [ inl is ↦ inl (not_refused_after is) | inr clash ↦ inr clash ]
