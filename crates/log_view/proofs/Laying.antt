-- A view laid over another keeps what views keep.
use Rattle.std.proofs.Common.{◌≡◌, ℕ, true, false, ◌<◌, ◌≤◌, ◌⊎◌, inl, inr, List, Some, nat_lt, refl, sym, ap, subst, ◌∙◌, arith}
use Rattle.std.specs.Prelude.{◌&&◌, Result}
use Rattle.std.specs.List.{All, Contains}
use Rattle.std.proofs.lemmas.Bool.{cases_lt, lt-ltb, le-ltb, or_left, or_right}
use Rattle.std.proofs.lemmas.List.Elements.{All-contains, recursion_from_All}
use Rattle.std.proofs.lemmas.Result.{IfErr-weaker}
use Rattle.flat_tree.specs.Subtrees.{number}
use Rattle.flat_tree.specs.declared.limits.TheConstants.{MAX_CORE_BYTES}
use Rattle.merkle_nodes.specs.declared.node.Node.{Node}
use Rattle.merkle_nodes.specs.declared.roots.Head.{Head}
use Rattle.merkle_nodes.specs.Roots.{twig_of}
use Rattle.node_set.specs.declared.fault.CoreFault.{CoreFault}
use Rattle.node_set.specs.Contents.{Content, held, roots}
use Rattle.node_set.specs.Closure.{in_closure}
use Rattle.node_set.specs.Nodes.{with_nodes}
use Rattle.node_set.specs.Changes.{blocks_below}
use Rattle.node_set.proofs.SoundLemmas.{closed_in, roots_on}
use Rattle.log_view.specs.Views.{Layer, Source, ViewState, IsUsable, HoldsNone, IsFirstHeld, Reports, Keeps, Looks, IsStored, GivesNode, GivesBlock}
use Rattle.log_view.specs.Overlays.{has_number, has_node, laid_over, layer_of, source_over, view_over, IsLaid}
use Rattle.log_view.proofs.Finding.{with_nodes-among, with_nodes-absent, has_node-among}

-- ---- what is held

module _ (m : Content) (head : Head) (kept : ℕ) (laid : List Node) where
  pub held_below : (index : ℕ) → index < kept → held (laid_over m head kept laid) index ≡ held m index
  held_below index less = rw (lt-ltb index kept less) refl

  pub held_past : (index : ℕ) → kept ≤ index → held (laid_over m head kept laid) index ≡ false
  held_past index past = rw (le-ltb index kept past) refl

  pub held_test : (index : ℕ) → held (laid_over m head kept laid) index ≡ (nat_lt index kept && held m index)
  held_test index = elim (cases_lt index kept) [
    | inl less ↦ rw (lt-ltb index kept less) refl
    | inr past ↦ rw (le-ltb index kept past) refl
  ]

  -- the first one of a range, as the view below finds it up to the kept ones' end
  pub first_below : (from to end index : ℕ) → end ≤ to → end ≤ kept → IsFirstHeld (held m) from end index
      → IsFirstHeld (held (laid_over m head kept laid)) from to index
  first_below from to end index within inside is = record {
    from_on = is.from_on;
    before = omega (arith, is.before, within);
    is_held = held_below index (omega (arith, is.before, inside)) ∙ is.is_held;
    first = λ other from_on less. held_below other (omega (arith, less, is.before, inside)) ∙ is.first other from_on less;
  }

  pub none_below : (from to end : ℕ) → (to ≤ end) ⊎ (kept ≤ end) → HoldsNone (held m) from end → HoldsNone (held (laid_over m head kept laid)) from to
  none_below from to end reaches none index from_on less = elim (cases_lt index kept) [
    | inr past ↦ held_past index past
    | inl inside ↦ held_below index inside ∙ none index from_on (elim reaches [ inl all ↦ omega (arith, less, all) | inr all ↦ omega (arith, inside, all) ])
  ]

-- ---- which values there are

module _ (m : Content) (head : Head) (roots_now : List Node) (kept : ℕ) (laid : List Node) (is : IsLaid m head roots_now kept laid) (depth offset : ℕ) where
  -- a laid node is the value of its number
  pub value_laid : (node : Node) → in_closure head.length (held (laid_over m head kept laid)) depth offset ≡ true → Contains laid node
      → node.index ≡ number depth offset → (laid_over m head kept laid).node depth offset ≡ Some (twig_of node)
  value_laid node stored there numbered =
      closed_in head.length (blocks_below kept m.block) (with_nodes m.node laid) depth offset stored
      ∙ with_nodes-among laid m.node node depth offset is.ascend there numbered

  -- each other one was to be stored below, and keeps its value
  pub value_below : in_closure head.length (held (laid_over m head kept laid)) depth offset ≡ true → has_number laid (number depth offset) ≡ false
      → (in_closure m.length (held m) depth offset ≡ true) × ((laid_over m head kept laid).node depth offset ≡ m.node depth offset)
  value_below stored none =
      let either = is.stored depth offset stored in (
        rw none at either,
        closed_in head.length (blocks_below kept m.block) (with_nodes m.node laid) depth offset stored
            ∙ with_nodes-absent laid m.node depth offset none,
      )

-- ---- what is given

-- no more bytes than a core has
abbrev Fits : Node → Type 0
Fits node = node.size ≤ MAX_CORE_BYTES

module _ (name : ℕ) (s : Source) (head : Head) (roots_now : List Node) (kept : ℕ) (laid : List Node) (is : IsLaid s.content head roots_now kept laid) where
  pub roots_are_over : roots_now ≡ roots (laid_over s.content head kept laid)
  roots_are_over = is.roots_are ∙ sym (roots_on head.length (blocks_below kept s.content.block) (with_nodes s.content.node laid))

  pub usable_over : IsUsable (laid_over s.content head kept laid)
  usable_over = record {
    blocks = is.blocks;
    fork = is.fork;
    sizes = recursion_from_All Fits (roots (laid_over s.content head kept laid)) (subst (All Fits) roots_are_over is.roots_fit);
    below = λ index there. elim (cases_lt index kept) [
      | inl less ↦ omega (arith, less, is.kept_within)
      | inr past ↦ let clash : true ≡ false = sym there ∙ held_past s.content head kept laid index past in cc
    ];
  }

  -- a laid node
  pub gives_laid : (index : ℕ) (node : Node) → IsStored (source_over name s head kept laid) index → node.index ≡ index → Contains laid node
      → GivesNode (source_over name s head kept laid) index node
  gives_laid index node stored numbered there = record {
    numbered = numbered;
    size = All-contains Fits laid node is.laid_fit there;
    given = or_left (has_node laid index (twig_of node)) (s.gives index (twig_of node))
        (ap (λ (i : ℕ). has_node laid i (twig_of node)) (sym numbered) ∙ has_node-among laid node there);
    shown = λ shows depth offset at.
        value_laid s.content head roots_now kept laid is depth offset node (stored depth offset at) there (numbered ∙ sym at);
  }

  -- or one of the view below, where it is to be stored
  pub stored_below : (index : ℕ) → IsStored (source_over name s head kept laid) index → has_number laid index ≡ false → IsStored s index
  stored_below index stored none depth offset at =
      (value_below s.content head roots_now kept laid is depth offset (stored depth offset at) (ap (has_number laid) at ∙ none)).0

  pub gives_below : (index : ℕ) (node : Node) → IsStored (source_over name s head kept laid) index → has_number laid index ≡ false
      → GivesNode s index node → GivesNode (source_over name s head kept laid) index node
  gives_below index node stored none gives = record {
    numbered = gives.numbered;
    size = gives.size;
    given = or_right (has_node laid index (twig_of node)) (s.gives index (twig_of node)) gives.given;
    shown = λ shows depth offset at.
        (value_below s.content head roots_now kept laid is depth offset (stored depth offset at) (ap (has_number laid) at ∙ none)).1
        ∙ gives.shown shows depth offset at;
  }

  -- a kept block
  pub held_of : (index : ℕ) → held (laid_over s.content head kept laid) index ≡ true → (index < kept) × (held s.content index ≡ true)
  held_of index there = elim (cases_lt index kept) [
    | inl less ↦ (less, sym (held_below s.content head kept laid index less) ∙ there)
    | inr past ↦ let clash : true ≡ false = sym there ∙ held_past s.content head kept laid index past in cc
  ]

  pub block_over : (index : ℕ) (buffer : List ℕ) (len : ℕ) → held (laid_over s.content head kept laid) index ≡ true → GivesBlock s index buffer len
      → GivesBlock (source_over name s head kept laid) index buffer len
  block_over index buffer len there gives = record {
    size = gives.size;
    within = gives.within;
    given = gives.given;
    shown = λ shows. rw (lt-ltb index kept (held_of index there).0) (gives.shown shows);
  }

-- ---- what a call does

-- a call that looks at the view below looks at the view that is laid over it
pub looks_over : {T : Type 0} (name : ℕ) (head : Head) (kept : ℕ) (laid : List Node) (old new : ViewState) (answer : Result T CoreFault)
    → Looks old new answer → Looks (view_over name old head kept laid) (view_over name new head kept laid) answer
looks_over name head kept laid old new answer looks = record {
  keeps = record {
    source = ap (λ (s : Source). source_over name s head kept laid) looks.keeps.source;
    later = looks.keeps.later;
    faults = looks.keeps.faults;
    answered = looks.keeps.answered;
  };
  reported = IfErr-weaker answer (Reports old new) (Reports (view_over name old head kept laid) (view_over name new head kept laid))
      (λ fault reports. record { answered = reports.answered; last = reports.last; cause = reports.cause; own = reports.own }) looks.reported;
}

-- ---- what a caller learns

-- while what is seen of the overlay keeps its source, so does what is seen of the view below, which is still reached by one reference
pub keeps_below : (name after : ℕ) (v w : ViewState) (head other : Head) (kept still : ℕ) (laid over : List Node)
    → Keeps (view_over name v head kept laid) (view_over after w other still over) → Keeps v w × (after ≡ name)
keeps_below name after v w head other kept still laid over keeps =
    let beneath = ap (λ (s : Source). s.beneath) keeps.source in
    let layers : layer_of after w.source ≡ layer_of name v.source = cc in
    let rest : w.source.beneath ≡ v.source.beneath = cc in
    let past = ap (λ (s : Source). s.past) keeps.source in
    let reports = ap (λ (s : Source). s.reports) keeps.source in
    let source : w.source ≡ v.source = λ i. record {
      content = (layers i).content;
      shows = (layers i).shows;
      gives = (layers i).gives;
      gives_block = (layers i).gives_block;
      beneath = rest i;
      past = past i;
      reports = reports i;
    } in
    (record { source = source; later = keeps.later; faults = keeps.faults; answered = keeps.answered }, ap (λ (l : Layer). l.name) layers)
