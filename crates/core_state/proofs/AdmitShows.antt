-- What parts in memory show after an admission.
use Rattle.std.proofs.Common.{◌≡◌, ℕ, Bool, true, ◌≤◌, inl, inr, List, [], ◌∷◌, Option, Some, None, refl, sym, ap, subst, ◌∙◌}
use Rattle.std.specs.Prelude.{is_some}
use Rattle.std.proofs.lemmas.Bool.{cases_Bool, cases_eq, le-leb, eq-eqb, ne_eqb, and_parts}
use mathlib.Core.Path.{fun_ext}
use Rattle.flat_tree.specs.Subtrees.{number, end_block_of}
use Rattle.bit_field.specs.Places.{has}
use Rattle.merkle_nodes.specs.declared.node.Node.{Node}
use Rattle.merkle_nodes.specs.declared.node.Twig.{Twig}
use Rattle.merkle_nodes.specs.Roots.{twig_of}
use Rattle.merkle_nodes.specs.Joined.{Values, or_value, joined, with_parts}
use Rattle.node_set.specs.Nodes.{values_of, with_node, with_nodes}
use Rattle.flat_tree.specs.Covers.{cover_of}
use Rattle.merkle_nodes.specs.Tree.{leaf_of}
use Rattle.proof_form.specs.declared.proof.UpgradePart.{UpgradePart}
use Rattle.proof_form.specs.Proofs.{Proof, Block, ProofFits}
use Rattle.node_set.specs.Contents.{Content, Blocks, holds, held}
use Rattle.node_set.specs.Closure.{in_closure, closed_on}
use Rattle.node_set.specs.Paths.{path_values}
use Rattle.node_set.specs.Whole.{IsWhole}
use Rattle.node_set.specs.Changes.{content_on, blocks_with_one, upgrade_content}
use Rattle.node_set.specs.Tables.{Parts, shown}
use Rattle.node_set.proofs.ClosureLemmas.{true_closure}
use Rattle.node_set.proofs.JoinedLemmas.{joined_below}
use Rattle.node_set.proofs.SoundLemmas.{stored_value}
use Rattle.proof_check.specs.Upgraded.{with_upgrade}
use Rattle.proof_check.specs.Parts.{part_of_block, levels_up}
use Rattle.proof_check.specs.Judge.{refusal_of, fetched, admitted}
use Rattle.proof_check.specs.Admission.{stays, AreFresh}
use Rattle.proof_check.proofs.FetchSound.{none_of}
use Rattle.proof_check.proofs.AdmitWhole.{IsUnrefused, unrefused, goes_on, admitted_whole}
use Rattle.core_state.proofs.ShownLemmas.{FitParts, shown_on, on_hand}

-- the values of no node
abbrev pub no_values : Values
no_values depth offset = None

-- what nodes put in is over what was there
pub put_over : (nodes : List Node) (start : Values) (depth offset : ℕ)
    → with_nodes start nodes depth offset ≡ or_value (with_nodes no_values nodes depth offset) (start depth offset)
unfolding with_nodes
put_over [] start depth offset = refl
put_over (node ∷ nodes) start depth offset =
    let back = with_nodes no_values nodes depth offset in
    put_over nodes (with_node start node) depth offset
    ∙ (elim (cases_eq node.index (number depth offset)) [
      | inl here ↦ rw (eq-eqb node.index (number depth offset) here) (both back (Some (twig_of node)) (start depth offset))
      | inr other ↦ rw (ne_eqb node.index (number depth offset) other) (both back None (start depth offset))
    ])
    ∙ ap (λ (value : Option Twig). or_value value (start depth offset)) (sym (put_over nodes (with_node no_values node) depth offset))
  where
    both : (back own old : Option Twig) → or_value back (or_value own old) ≡ or_value (or_value back own) old
    both (Some twig) own old = refl
    both None own old = refl

-- ---- nodes that stay

module _ (accepts : List ℕ → List ℕ → Bool) (p : Proof) (m : Content) (whole : IsWhole accepts m) (fits : ProofFits p) (no_greater : p.fork ≤ m.fork)
    (none : refusal_of accepts p m ≡ None) where
  abbrev longer : Content
  longer = with_upgrade p m

  open_ : IsUnrefused accepts p m
  open_ = unrefused accepts p m none

  -- a node that is stored before and with the upgrade in has one value
  pub upgrade_stays : (depth offset : ℕ) → is_some (m.node depth offset) ≡ true → is_some (longer.node depth offset) ≡ true
      → longer.node depth offset ≡ m.node depth offset
  upgrade_stays depth offset old now = ByUpgrade p.upgrade refl
    where
      ByUpgrade : (upgrade : Option UpgradePart) → p.upgrade ≡ upgrade → longer.node depth offset ≡ m.node depth offset
      ByUpgrade None up = let same : longer ≡ m = rw up refl in ap (λ (c : Content). c.node depth offset) same
      ByUpgrade (Some u) up =
          let on = goes_on p m u up no_greater open_.limit open_.head in
          let after = upgrade_content u.length u.nodes u.signature m in
          let known = with_parts m.length m.node (cover_of m.length u.length) u.nodes in
          let some : is_some (after.node depth offset) ≡ true = subst (λ (c : Content). is_some (c.node depth offset) ≡ true) on.after now in
          let within = (true_closure m.length (held m) depth offset (sym (whole.sound.closed depth offset) ∙ old)).within in
          ap (λ (c : Content). c.node depth offset) on.after
          ∙ on_hand u.length (holds m.block) (joined known) depth offset some
          ∙ joined_below m.length m.node known whole.sound.pairs (λ d o below. rw (le-leb (end_block_of d o) m.length below) refl) depth offset within

  -- a node that is stored with the upgrade in keeps its value where the block comes in
  pub block_stays : (depth offset : ℕ) → is_some (longer.node depth offset) ≡ true → is_some ((admitted p m).node depth offset) ≡ true
      → (admitted p m).node depth offset ≡ longer.node depth offset
  block_stays depth offset before now = ByBlock p.block refl
    where
      ByBlock : (block : Option Block) → p.block ≡ block → (admitted p m).node depth offset ≡ longer.node depth offset
      ByBlock None is = let same : admitted p m ≡ longer = rw is refl in ap (λ (c : Content). c.node depth offset) same
      ByBlock (Some b) is = elim (cases_Bool (held longer b.index)) [
        | inl here ↦ let same : admitted p m ≡ longer = rw (is, here) refl in ap (λ (c : Content). c.node depth offset) same
        | inr new ↦
            let same : admitted p m ≡ fetched b longer = rw (is, new) refl in
            let path = path_values b.index (leaf_of b.bytes) b.trail (levels_up longer (part_of_block b)) in
            let value : Values = λ d o. or_value (longer.node d o) (path d o) in
            let some : is_some ((fetched b longer).node depth offset) ≡ true = subst (λ (c : Content). is_some (c.node depth offset) ≡ true) same now in
            let stored = stored_value (longer.node depth offset) before in
            let over : value depth offset ≡ longer.node depth offset = rw stored.1 refl in
            ap (λ (c : Content). c.node depth offset) same
            ∙ on_hand longer.length (holds (blocks_with_one b.index b.bytes longer.block)) value depth offset some ∙ over
      ]

-- ---- the parts

-- the parts got the head, the block and the nodes of an admission
pub record TakesProof (parts now : Parts) (p : Proof) (nodes : List Node) : Type 0 where
  pub fork_is : now.head.fork ≡ (admitted p (shown parts)).fork
  pub length_is : now.head.length ≡ (admitted p (shown parts)).length
  pub signature_is : now.head.signature ≡ (admitted p (shown parts)).signature
  pub fit : FitParts now
  pub blocks : (index : ℕ) → (shown now).block index ≡ (admitted p (shown parts)).block index
  pub are_fresh : AreFresh p (shown parts) nodes
  pub values : (depth offset : ℕ) → values_of now.nodes depth offset ≡ with_nodes (values_of parts.nodes) nodes depth offset

module _ (accepts : List ℕ → List ℕ → Bool) (p : Proof) (parts now : Parts) (nodes : List Node) (whole : IsWhole accepts (shown parts)) (fits : ProofFits p)
    (no_greater : p.fork ≤ (shown parts).fork) (none : refusal_of accepts p (shown parts) ≡ None) (takes : TakesProof parts now p nodes) where
  abbrev before : Content
  before = shown parts

  abbrev after : Content
  after = admitted p before

  value_is : (depth offset : ℕ) → is_some (after.node depth offset) ≡ true → values_of now.nodes depth offset ≡ after.node depth offset
  value_is depth offset some =
      let start = values_of parts.nodes depth offset in
      takes.values depth offset ∙ put_over nodes (values_of parts.nodes) depth offset
      ∙ ap (λ (value : Option Twig). or_value value start) (takes.are_fresh depth offset)
      ∙ (elim (cases_Bool (stays p before depth offset)) [
        | inr other ↦ let stored = stored_value (after.node depth offset) some in rw (other, stored.1) refl
        | inl test ↦
            let both = and_parts (is_some (before.node depth offset)) (is_some ((with_upgrade p before).node depth offset)) test in
            let own : before.node depth offset ≡ start = on_hand parts.head.length (has parts.held) (values_of parts.nodes) depth offset both.0 in
            rw test (sym own ∙ sym (upgrade_stays accepts p before whole fits no_greater none depth offset both.0 both.1)
            ∙ sym (block_stays accepts p before whole fits no_greater none depth offset both.1 some))
      ])

  node_is : (depth offset : ℕ) → closed_on after.length (holds (shown now).block) (values_of now.nodes) depth offset ≡ after.node depth offset
  node_is depth offset =
      let sound = (admitted_whole accepts p before whole fits no_greater none).sound in
      let same : in_closure after.length (holds (shown now).block) depth offset ≡ is_some (after.node depth offset) =
      ap (λ (b : Blocks). in_closure after.length (holds b) depth offset) (fun_ext takes.blocks) ∙ sym (sound.closed depth offset) in
      elim (cases_Bool (is_some (after.node depth offset))) [
        | inl some ↦ rw (same ∙ some) (value_is depth offset some)
        | inr apart ↦ rw (same ∙ apart) (sym (none_of (after.node depth offset) apart))
      ]

  pub admit_shows : shown now ≡ after
  admit_shows =
      shown_on now takes.fit
      ∙ ap (λ (f : ℕ). content_on f now.head.length now.head.signature (shown now).block (values_of now.nodes)) takes.fork_is
      ∙ ap (λ (k : ℕ). content_on after.fork k now.head.signature (shown now).block (values_of now.nodes)) takes.length_is
      ∙ ap (λ (s : List ℕ). content_on after.fork after.length s (shown now).block (values_of now.nodes)) takes.signature_is
      ∙ ap (with_nodes_of (shown now).block) (fun_ext (λ depth. fun_ext (λ offset. node_is depth offset)))
      ∙ ap (λ (b : Blocks). with_nodes_of b after.node) (fun_ext takes.blocks)
    where
      with_nodes_of : Blocks → Values → Content
      with_nodes_of b value = record { fork = after.fork; length = after.length; signature = after.signature; block = b; node = value }
