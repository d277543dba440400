-- What opening a core's disk answers, by what its parts tell.
use Rattle.std.proofs.Common.{◌≡◌, ◌⊎◌, inl, inr, ℕ, ◌*◌, ◌<◌, ◌≤◌, Bool, true, false, List, Option, Some, Result, Ok, Err, IfOk, IfErr, refl, sym, ap, subst, ◌∙◌, arith, nat_lt}
use Rattle.std.specs.Prelude.{◌&&◌}
use Rattle.std.proofs.lemmas.Bool.{cases_Bool, cases_lt, le-ltb}
use mathlib.Core.Path.{fun_ext}
use Rattle.flat_tree.specs.Subtrees.{number}
use Rattle.flat_tree.specs.Roots.{full_roots_of}
use Rattle.flat_tree.specs.declared.limits.TheConstants.{MAX_BLOCKS, MAX_CORE_BYTES}
use Rattle.disk_trait.specs.declared.disk.Area.{Area}
use Rattle.disk_trait.specs.declared.disk.Area.TheVariants.{Tree}
use Rattle.merkle_nodes.specs.declared.node.Node.{Node}
use Rattle.merkle_nodes.specs.declared.node.Twig.{Twig}
use Rattle.merkle_nodes.specs.declared.roots.Head.{Head}
use Rattle.merkle_nodes.specs.Roots.{Accepts}
use Rattle.oplog_file.specs.Writers.{Place}
use Rattle.node_set.specs.declared.fault.CoreFault.{CoreFault}
use Rattle.node_set.specs.declared.fault.CoreFault.TheVariants.{Memory, StoreFault, BadStore, Damaged, BadSignature}
use Rattle.node_set.specs.Contents.{Content, start, held, roots, twig_at}
use Rattle.node_set.specs.Closure.{in_closure}
use Rattle.node_set.specs.Nodes.{with_nodes}
use Rattle.node_set.specs.Whole.{IsStart}
use Rattle.node_set.proofs.StoredTest.{past_closure}
use Rattle.node_set.proofs.RootTruth.{twig_at-some}
use Rattle.node_set.proofs.SoundLemmas.{stored_value}
use Rattle.core_state.proofs.PutNodes.{put_keeps}
use Rattle.core_disk.specs.declared.replay.TheConstants.{MAX_NODES}
use Rattle.core_disk.specs.Opened.{Opened}
use Rattle.core_disk.specs.Areas.{Areas, head_of, areas_give}
use Rattle.core_disk.specs.InHand.{InHand, Agrees, opened_of}
use Rattle.core_disk.specs.Standing.{IsOpenedAs, StandsFor}
use Rattle.core_disk.specs.Filling.{over_tree, rooted, is_too_large, IsFirstLarge, IsFilled}
use Rattle.core_disk.specs.Parts.{HasSignedHead, IsLoaded, Loads, Finishes, IsStore, OpensStore}
use Rattle.core_disk.proofs.EntryGives.{own, own_nodes}
use Rattle.core_disk.proofs.LoadLemmas.{gives_same}
use Rattle.core_disk.proofs.RecordLemmas.{agree_nodes}

-- ---- what agrees is told alike

abbrev signed_with : (List ℕ → List ℕ → Bool) → Head → List Node → Type 0
signed_with accepts head ns = Accepts accepts head.fork head.length ns head.signature ⊎ (head ≡ head_of start)

pub signed_as : (accepts : List ℕ → List ℕ → Bool) (one other : Opened) → one.head ≡ other.head → one.roots ≡ other.roots → HasSignedHead accepts one → HasSignedHead accepts other
signed_as accepts one other head roots_are signed =
    subst (λ (ns : List Node). signed_with accepts other.head ns) roots_are (subst (λ (h : Head). signed_with accepts h one.roots) head signed)

module _ (one other : Opened) (same : Agrees one other) (few : one.head.length ≤ MAX_BLOCKS) where
  closed_same : (depth offset : ℕ) → in_closure one.head.length one.held depth offset ≡ in_closure other.head.length other.held depth offset
  closed_same depth offset =
      ap (λ (h : Head). in_closure h.length one.held depth offset) same.head ∙ ap (λ (f : ℕ → Bool). in_closure other.head.length f depth offset) (fun_ext same.held)

  low : (depth offset : ℕ) → in_closure one.head.length one.held depth offset ≡ true → number depth offset < MAX_NODES
  low depth offset closed = elim (cases_lt (number depth offset) (2 * one.head.length)) [
    | inl less ↦ omega (arith, less, few)
    | inr past ↦ let clash : true ≡ false = sym closed ∙ past_closure one.head.length one.held depth offset past in absurd (cc)
  ]

  rooted_same : (depth offset : ℕ) → number depth offset < MAX_NODES → rooted one depth offset ≡ rooted other depth offset
  rooted_same depth offset less =
      agree_nodes one.roots one.nodes other.nodes same.nodes depth offset less ∙ ap (λ (ns : List Node). with_nodes other.nodes ns depth offset) same.roots

  large_same : (depth offset : ℕ) → is_too_large one depth offset ≡ is_too_large other depth offset
  large_same depth offset = elim (cases_Bool (in_closure one.head.length one.held depth offset)) [
    | inl closed ↦
        ap (λ (b : Bool). b && nat_lt MAX_CORE_BYTES (twig_at (rooted one) depth offset).size) (closed_same depth offset)
        ∙ ap (λ (v : Option Twig). in_closure other.head.length other.held depth offset && nat_lt MAX_CORE_BYTES (twig_at (λ d o. v) depth offset).size)
        (rooted_same depth offset (low depth offset closed))
    | inr apart ↦
        ap (λ (b : Bool). b && nat_lt MAX_CORE_BYTES (twig_at (rooted one) depth offset).size) apart
        ∙ sym (ap (λ (b : Bool). b && nat_lt MAX_CORE_BYTES (twig_at (rooted other) depth offset).size) (sym (closed_same depth offset) ∙ apart))
  ]

  filled_same : (now : Opened) → IsFilled one now → IsFilled other now
  filled_same now filled = record {
    head = filled.head ∙ same.head;
    roots = filled.roots ∙ same.roots;
    held = λ index. filled.held index ∙ same.held index;
    nodes = λ depth offset closed.
        let here = closed_same depth offset ∙ closed in
        filled.nodes depth offset here ∙ rooted_same depth offset (low depth offset here);
    small = λ depth offset. sym (large_same depth offset) ∙ filled.small depth offset;
  }

  first_same : (at : ℕ) → IsFirstLarge one at → IsFirstLarge other at
  first_same at first = record {
    depth = first.depth;
    offset = first.offset;
    at_is = first.at_is;
    large = sym (large_same first.depth first.offset) ∙ first.large;
    first = λ d p less. sym (large_same d p) ∙ first.first d p less;
  }

-- ---- the answer

module _ (accepts : List ℕ → List ℕ → Bool) (id : List ℕ) (areas : Areas) where
  pub loads_opens : (fault : CoreFault) → Loads id areas (Err fault) → OpensStore accepts id areas (Err fault)
  loads_opens Memory told = tt
  loads_opens StoreFault told = tt
  loads_opens (BadStore place at) told = subst (λ (a : Area). OpensStore accepts id areas (Err (BadStore a at))) (sym told.0) told.1
  loads_opens (Damaged place want have) told = told
  loads_opens other told = absurd told

  module _ (old : Opened) (loaded : IsLoaded id areas old) (few : old.head.length ≤ MAX_BLOCKS) where
    abbrev over : Opened
    over = over_tree (areas Tree) old

    to_given : HasSignedHead accepts old → HasSignedHead accepts loaded.opened
    to_given = signed_as accepts over loaded.opened loaded.agrees.head loaded.agrees.roots

    of_given : HasSignedHead accepts loaded.opened → HasSignedHead accepts old
    of_given = signed_as accepts loaded.opened over (sym loaded.agrees.head) (sym loaded.agrees.roots)

    pub finishes_opens : (r : Result (Place × InHand) CoreFault) → Finishes accepts (areas Tree) old r → OpensStore accepts id areas r
    finishes_opens (Ok opened) told = record {
      opened = loaded.opened;
      gives = loaded.gives;
      signed = to_given told.0;
      filled = filled_same over loaded.opened loaded.agrees few (opened_of opened.1) told.1;
    }
    finishes_opens (Err Memory) told = tt
    finishes_opens (Err StoreFault) told = tt
    finishes_opens (Err BadSignature) told = record { opened = loaded.opened; gives = loaded.gives; unsigned = λ signed. told (of_given signed) }
    finishes_opens (Err (BadStore area at)) told =
        subst (λ (a : Area). OpensStore accepts id areas (Err (BadStore a at))) (sym told.1) (record {
          opened = loaded.opened;
          gives = loaded.gives;
          signed = to_given told.0;
          first = first_same over loaded.opened loaded.agrees few at told.2;
        })
    finishes_opens (Err other) told = absurd told

  -- ---- where the areas stand for a content

  module _ (m : Content) (stands : StandsFor accepts id areas m) where
    given : areas_give id areas ≡ Ok stands.opened
    given = gives_same id areas stands.file stands.is_file ∙ stands.gives

    same_opened : (o : Opened) → areas_give id areas ≡ Ok o → o ≡ stands.opened
    same_opened o gives = let both : Ok o ≡ Ok stands.opened = sym gives ∙ given in cc

    closed_here : (depth offset : ℕ) → in_closure stands.opened.head.length stands.opened.held depth offset ≡ in_closure m.length (held m) depth offset
    closed_here depth offset =
        ap (λ (h : Head). in_closure h.length stands.opened.held depth offset) stands.opened_as.head
        ∙ ap (λ (f : ℕ → Bool). in_closure m.length f depth offset) (fun_ext stands.opened_as.held_are)

    -- the roots over the nodes are the content's nodes
    rooted_here : (depth offset : ℕ) → in_closure m.length (held m) depth offset ≡ true → rooted stands.opened depth offset ≡ m.node depth offset
    rooted_here depth offset closed =
        let stored = stored_value (m.node depth offset) (stands.whole.sound.closed depth offset ∙ closed) in
        let value : m.node depth offset ≡ Some (twig_at m.node depth offset) =
        stored.1 ∙ ap Some (sym (twig_at-some m.node depth offset stored.0 stored.1)) in
        ap (λ (ns : List Node). with_nodes stands.opened.nodes ns depth offset) stands.opened_as.roots_are
        ∙ put_keeps (full_roots_of m.length) (roots m) (own m.node) stands.opened.nodes depth offset (own_nodes m.node (full_roots_of m.length))
        (stands.opened_as.nodes depth offset closed ∙ value)
        ∙ sym value

    pub store_as : (now : Opened) → IsStore accepts id areas now → IsOpenedAs now m
    store_as now store =
        let filled = subst (λ (o : Opened). IsFilled o now) (same_opened store.opened store.gives) store.filled in
        record {
          head = filled.head ∙ stands.opened_as.head;
          roots_are = filled.roots ∙ stands.opened_as.roots_are;
          held_are = λ index. filled.held index ∙ stands.opened_as.held_are index;
          nodes = λ depth offset closed. filled.nodes depth offset (closed_here depth offset ∙ closed) ∙ rooted_here depth offset closed;
        }

    signed_here : HasSignedHead accepts stands.opened
    signed_here =
        subst (λ (h : Head). signed_with accepts h stands.opened.roots) (sym stands.opened_as.head)
        (subst (λ (ns : List Node). signed_with accepts (head_of m) ns) (sym stands.opened_as.roots_are) (by_head stands.whole.head))
      where
        by_head : Accepts accepts m.fork m.length (roots m) m.signature ⊎ IsStart m → signed_with accepts (head_of m) (roots m)
        by_head (inl accepted) = inl accepted
        by_head (inr is) = inr (
            ap (λ (k : ℕ). record { fork = k; length = m.length; signature = m.signature }) is.fork
            ∙ ap (λ (k : ℕ). record { fork = 0; length = k; signature = m.signature }) is.empty
            ∙ ap (λ (s : List ℕ). record { fork = 0; length = 0; signature = s }) is.unsigned)

    none_large : (depth offset : ℕ) → is_too_large stands.opened depth offset ≡ false
    none_large depth offset = elim (cases_Bool (in_closure stands.opened.head.length stands.opened.held depth offset)) [
      | inr apart ↦ ap (λ (b : Bool). b && nat_lt MAX_CORE_BYTES (twig_at (rooted stands.opened) depth offset).size) apart
      | inl closed ↦
          let here = sym (closed_here depth offset) ∙ closed in
          let stored = stored_value (m.node depth offset) (stands.whole.sound.closed depth offset ∙ here) in
          let twig_is = twig_at-some (rooted stands.opened) depth offset stored.0 (rooted_here depth offset here ∙ stored.1) in
          ap (λ (b : Bool). b && nat_lt MAX_CORE_BYTES (twig_at (rooted stands.opened) depth offset).size) closed
          ∙ ap (λ (t : Twig). nat_lt MAX_CORE_BYTES t.size) twig_is
          ∙ le-ltb MAX_CORE_BYTES stored.0.size (stands.whole.sound.fit depth offset stored.0 stored.1).size
    ]

    pub store_fault : (fault : CoreFault) → OpensStore accepts id areas (Err fault) → (fault ≡ Memory) ⊎ (fault ≡ StoreFault)
    store_fault Memory told = inl refl
    store_fault StoreFault told = inr refl
    store_fault BadSignature told = absurd (told.unsigned (subst (λ (o : Opened). HasSignedHead accepts o) (sym (same_opened told.opened told.gives)) signed_here))
    store_fault (BadStore Tree at) told =
        let first = subst (λ (o : Opened). IsFirstLarge o at) (same_opened told.opened told.gives) told.first in
        let clash : true ≡ false = sym first.large ∙ none_large first.depth first.offset in absurd (cc)
    store_fault (BadStore place at) told = let clash : Ok stands.opened ≡ Err (BadStore place at) = sym given ∙ told in absurd (cc)
    store_fault (Damaged place want have) told = let clash : Ok stands.opened ≡ Err (Damaged place want have) = sym given ∙ told in absurd (cc)
    store_fault other told = absurd told

    pub if_store : (r : Result (Place × InHand) CoreFault) → OpensStore accepts id areas r → IfOk r (λ opened. IsOpenedAs (opened_of opened.1) m)
    if_store (Ok opened) told = store_as (opened_of opened.1) told
    if_store (Err fault) told = tt

    pub gives_store : (r : Result (Place × InHand) CoreFault) → OpensStore accepts id areas r → IfErr r (λ fault. (fault ≡ Memory) ⊎ (fault ≡ StoreFault))
    gives_store (Ok opened) told = tt
    gives_store (Err fault) told = store_fault fault told
