-- A content in memory whose log is cut.
use Rattle.std.proofs.Common.{◌≡◌, ℕ, Bool, true, false, ◌<◌, ◌≤◌, List, [], ◌∷◌, length, take, None, refl, sym, ap, subst, ◌∙◌, arith, inl, inr, nat_lt}
use Rattle.std.specs.Prelude.{◌&&◌, IsTrue}
use Rattle.std.specs.List.{AllByRecursion}
use Rattle.std.proofs.lemmas.Bool.{cases_Bool, cases_lt, and_parts, ltb-true, ltb-false, leb-false, lt-ltb, le-ltb, le-leb, lt-leb}
use Rattle.std.proofs.Math.Bool.{and-true, and-false}
use Rattle.std.proofs.lemmas.List.{length-take-le, get_or_past}
use Rattle.flat_tree.specs.Subtrees.{Subtree}
use Rattle.flat_tree.specs.Roots.{full_roots_of}
use Rattle.flat_tree.specs.declared.limits.TheConstants.{MAX_FORK}
use Rattle.bit_field.specs.Places.{has, SetsRange}
use Rattle.merkle_nodes.specs.declared.node.Node.{Node}
use Rattle.merkle_nodes.specs.Joined.{Values}
use Rattle.merkle_nodes.specs.Roots.{root_hash_of, signed_text}
use Rattle.node_set.specs.Closure.{in_closure, closed_on}
use Rattle.node_set.specs.Contents.{Content, held, roots_at, roots}
use Rattle.node_set.specs.Nodes.{values_of}
use Rattle.node_set.specs.Whole.{IsSound, KeepsLimits, IsWhole}
use Rattle.node_set.specs.Changes.{truncate_content, blocks_below, RootsStored}
use Rattle.node_set.proofs.AppendLemmas.{all_get}
use Rattle.node_set.proofs.ClosureLemmas.{true_root}
use Rattle.node_set.proofs.KeepsWhole.{truncate_whole}
use Rattle.node_set.proofs.RootTruth.{root_among}
use Rattle.node_set.proofs.SoundLemmas.{roots_on, roots_shape}
use Rattle.core_forks.specs.Refusals.{first_missing, truncate_refusal}
use Rattle.core_state.specs.InMemory.{Stored, content_of, IsKept}
use Rattle.core_state.specs.Turns.{Cuts}
use Rattle.core_state.proofs.FitLemmas.{neither, not_refused}
use Rattle.core_state.proofs.ShownLemmas.{FitParts, KeepsPart, part_shows, blocks_cut}

-- ---- what isn't refused

-- a truncation that isn't refused is to a length within the log, under a greater fork within the limit
pub record TruncatePasses (m : Content) (to fork : ℕ) : Type 0 where
  pub short : to ≤ m.length
  pub fits : fork ≤ MAX_FORK
  pub greater : m.fork < fork
  pub stored : first_missing (in_closure m.length (held m)) (full_roots_of to) ≡ None

pub truncate_passes : (m : Content) (to fork : ℕ) → truncate_refusal m to fork ≡ None → TruncatePasses m to fork
truncate_passes m to fork none =
    let one = neither _ _ none in
    let two = neither _ _ one.1 in
    let three = neither _ _ two.1 in
    record {
      short = ltb-false m.length to (not_refused _ _ one.0);
      fits = ltb-false MAX_FORK fork (not_refused _ _ two.0);
      greater = leb-false fork m.fork (not_refused _ _ three.0);
      stored = three.1;
    }

all_found : (is_stored : ℕ → ℕ → Bool) (trees : List Subtree) → first_missing is_stored trees ≡ None
    → AllByRecursion (λ (tree : Subtree). is_stored tree.depth tree.offset ≡ true) trees
unfolding first_missing
all_found is_stored [] none = tt
all_found is_stored (tree ∷ trees) none = elim (cases_Bool (is_stored tree.depth tree.offset)) [
  | inl there ↦ let rest : first_missing is_stored trees ≡ None = rw there at none in (there, all_found is_stored trees rest)
  | inr lacks ↦ let clash = rw lacks at none in cc
]

-- the full roots are stored
pub roots_stored : (m : Content) (to : ℕ) → IsSound m → first_missing (in_closure m.length (held m)) (full_roots_of to) ≡ None → RootsStored to m
roots_stored m to sound none depth offset root =
    let is = true_root to depth offset root in
    let among = root_among to depth offset is.within is.largest in
    let all = all_found (in_closure m.length (held m)) (full_roots_of to) none in
    sound.closed depth offset
    ∙ all_get (λ (tree : Subtree). in_closure m.length (held m) tree.depth tree.offset ≡ true) (full_roots_of to) among.0 _ all among.1

-- ---- a truncation

-- the parts were cut to a length, as the value said before that they show
pub record IsCutTo (s old now : Stored) (to last : ℕ) : Type 0 where
  pub short : to ≤ (content_of old).length
  pub found : first_missing (in_closure (content_of old).length (held (content_of old))) (full_roots_of to) ≡ None
  pub few : now.parts.head.fork ≤ MAX_FORK
  pub end : now.parts.head.length ≡ to
  pub signature : length now.parts.head.signature ≡ 64
  pub roots_are : now.roots ≡ roots_at (content_of old).node to
  pub root_is : now.root ≡ root_hash_of now.roots
  pub blocks : now.parts.blocks ≡ take to s.parts.blocks
  pub last_is : last ≡ length s.parts.held
  pub places : length now.parts.held ≡ length s.parts.held
  pub held : SetsRange false to last (has s.parts.held) (has now.parts.held)
  pub values : values_of now.parts.nodes ≡ closed_on to (has now.parts.held) (values_of s.parts.nodes)

-- what is pruned to a closure is there in it
pub kept_values : (n : ℕ) (set : ℕ → Bool) (value now : Values) → now ≡ closed_on n set value → (depth offset : ℕ) → in_closure n set depth offset ≡ true
    → now depth offset ≡ value depth offset
kept_values n set value now pruned depth offset test = ap (λ (v : Values). v depth offset) pruned ∙ rw test refl

-- a content that is sound and within the limits is whole where all is accepted
abbrev pub any : List ℕ → List ℕ → Bool
any text signature = true

pub kept_whole : (m : Content) → IsSound m → KeepsLimits m → IsWhole any m
kept_whole m sound limits = record {
  sound = sound;
  limits = limits;
  head = inl (record { shape = roots_shape m.node m.length; accepted = refl });
}

module _ (s old now : Stored) (kept : IsKept s) (is : s ≡ old) (to last : ℕ) (cut : IsCutTo s old now to last) where
  abbrev m : Content
  m = content_of s

  stored : RootsStored to m
  stored =
      let missing = λ (t : Stored). first_missing (in_closure (content_of t).length (held (content_of t))) (full_roots_of to) in
      roots_stored m to kept.sound (subst (λ (t : Stored). missing t ≡ None) (sym is) cut.found)

  short : to ≤ m.length
  short = subst (λ (t : Stored). to ≤ (content_of t).length) (sym is) cut.short

  held_cut : (index : ℕ) → has now.parts.held index ≡ (has s.parts.held index && nat_lt index to)
  held_cut index = cut.held index ∙ (elim (cases_lt index to) [
    | inl less ↦ rw (lt-leb to index less, lt-ltb index to less) (sym (and-true (has s.parts.held index)))
    | inr past ↦ rw (le-leb to index past, le-ltb index to past) (elim (cases_lt index last) [
      | inl within ↦ rw (lt-ltb index last within) (sym (and-false (has s.parts.held index)))
      | inr over ↦ rw (le-ltb index last over) (get_or_past s.parts.held index false (omega (arith, over, cut.last_is)) ∙ sym (and-false (has s.parts.held index)))
    ])
  ])

  cut_fit : FitParts now.parts
  cut_fit = record {
    spare = λ index there.
        let both = and_parts (has s.parts.held index) (nat_lt index to) (sym (held_cut index) ∙ there) in
        omega (arith, ltb-true index to both.1, cut.end);
    blocks = ap length cut.blocks ∙ length-take-le to s.parts.blocks (omega (arith, short, kept.blocks)) ∙ sym cut.end;
  }

  abbrev after : Content
  after = truncate_content to now.parts.head.fork now.parts.head.signature m

  cut_part : KeepsPart s.parts now.parts now.parts.head.fork to (blocks_below to m.block)
  cut_part = record {
    fork_is = refl;
    length_is = cut.end;
    fit = cut_fit;
    blocks = blocks_cut s.parts now.parts to held_cut cut.blocks;
    nodes = kept_values to (has now.parts.held) (values_of s.parts.nodes) (values_of now.parts.nodes) cut.values;
  }

  -- the limits hold whatever the verifier accepts
  whole_cut : IsWhole any after
  whole_cut =
      truncate_whole any m to now.parts.head.fork now.parts.head.signature (kept_whole m kept.sound kept.limits) short cut.few stored
      (record { signature = cut.signature; accepted = refl })

  cut_shows : content_of now ≡ after
  cut_shows = part_shows s.parts now.parts now.parts.head.fork to (blocks_below to m.block) cut_part whole_cut.sound

  roots_now : now.roots ≡ roots (content_of now)
  roots_now =
      cut.roots_are ∙ ap (λ (t : Stored). roots_at (content_of t).node to) (sym is) ∙ sym (roots_on to (blocks_below to m.block) m.node)
      ∙ ap roots (sym cut_shows)

  pub cut_kept : IsKept now
  cut_kept = record {
    places = omega (arith, cut.end, short, kept.places, cut.places);
    spare = cut_fit.spare;
    blocks = cut_fit.blocks;
    root_nodes = roots_now;
    root_is = cut.root_is;
    sound = subst IsSound (sym cut_shows) whole_cut.sound;
    limits = subst KeepsLimits (sym cut_shows) whole_cut.limits;
  }

  pub cut_cuts : (accepts : List ℕ → List ℕ → Bool) (nodes : List Node) → now.roots ≡ nodes
      → IsTrue (accepts (signed_text (root_hash_of nodes) now.parts.head.length now.parts.head.fork) now.parts.head.signature)
      → Cuts accepts (content_of old) to now.parts.head.fork (content_of now)
  cut_cuts accepts nodes nodes_are accepted = record {
    content = cut_shows ∙ ap (λ (t : Stored). truncate_content to now.parts.head.fork now.parts.head.signature (content_of t)) is;
    signed = record {
      signature = cut.signature;
      accepted = subst (λ (rs : List Node). IsTrue (accepts (signed_text (root_hash_of rs) now.parts.head.length now.parts.head.fork) now.parts.head.signature))
          (sym nodes_are ∙ roots_now) accepted;
    };
    sound = cut_kept.sound;
    limits = cut_kept.limits;
  }
