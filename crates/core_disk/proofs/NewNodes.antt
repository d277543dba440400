-- Which nodes each change has to write.
use Rattle.std.proofs.Common.{◌≡◌, ℕ, suc, ◌+◌, ◌-◌, ◌/◌, ◌<◌, ◌≤◌, Bool, true, false, List, [], length, Some, None, refl, sym, ap, ◌∙◌, arith, inl, inr, nat_lt, nat_eq, slice_get, ◌∷◌, if◌then◌else◌}
use Rattle.std.specs.Prelude.{is_some, not, ◌&&◌, ◌||◌}
use Rattle.std.specs.List.{AllByRecursion}
use Rattle.std.specs.Str.{bytes_eq}
use Rattle.std.proofs.lemmas.Bool.{cases_Bool, cases_lt, lt-ltb, le-ltb, le-leb, lt-leb, and_from, eq-eqb}
use Rattle.std.proofs.Math.Bool.{and-false, or-false}
use Rattle.std.proofs.lemmas.Option.{slice_get-get_or}
use Rattle.std.proofs.lemmas.Slice.Eq.{bytes_eq-Decides}
use Rattle.flat_tree.specs.Subtrees.{end_block_of}
use Rattle.flat_tree.specs.Covers.{cover_of}
use Rattle.commit_book.specs.declared.commit.Commit.{Commit}
use Rattle.merkle_nodes.specs.declared.node.Node.{Node}
use Rattle.merkle_nodes.specs.declared.node.Twig.{Twig}
use Rattle.merkle_nodes.specs.Joined.{Values, joined, with_blocks, with_parts}
use Rattle.oplog_form.specs.Nodes.{Rise}
use Rattle.node_set.specs.Contents.{Content, Blocks, holds, held}
use Rattle.node_set.specs.Closure.{any_under, in_closure, is_root, is_within}
use Rattle.node_set.specs.Same.{is_same}
use Rattle.node_set.specs.Whole.{IsSound}
use Rattle.node_set.specs.Changes.{content_on, append_content, truncate_content, clear_content, upgrade_content, fetch_content, blocks_with, blocks_below, blocks_without, blocks_with_one}
use Rattle.node_set.proofs.ClosureLemmas.{true_closure, closure_true, any_under-held, held-any_under, root_in_closure, true_root, root_true, held_in_closure, within_true, span_some}
use Rattle.node_set.proofs.AppendLemmas.{all_so}
use Rattle.node_set.proofs.JoinedLemmas.{joined_below}
use Rattle.node_set.proofs.RootTruth.{some_or_none}
use Rattle.node_set.proofs.SoundLemmas.{stored_value}
use Rattle.node_set.proofs.Stored.{some_same}
use Rattle.proof_check.specs.Admission.{Ascends}
use Rattle.core_disk.specs.Opened.{values_in}
use Rattle.core_disk.specs.Written.{is_new, AreNew, entry_with, IsEntryOf}

-- ---- from a list of the nodes that have to be written

pub exact_entry : (m : Content) (commit : Commit) (after : Content) (nodes : List Node) → Rise 0 nodes → AreNew m after nodes
    → IsEntryOf m commit after (entry_with commit after nodes)
exact_entry m commit after nodes order new = record {
  commit_is = refl;
  head_is = refl;
  order = order;
  stored = λ depth offset twig is. elim (cases_Bool (is_new m after depth offset)) [
    | inl here ↦ let same : values_in nodes depth offset ≡ after.node depth offset = new depth offset ∙ rw here refl in sym same ∙ is
    | inr other ↦
        let none : values_in nodes depth offset ≡ None = new depth offset ∙ rw other refl in
        let clash : None ≡ Some twig = sym none ∙ is in cc
  ];
  new = λ depth offset here. new depth offset ∙ rw here refl;
}

-- ---- a node that keeps its value

same_is : (twig : Twig) → is_same twig twig ≡ true
same_is twig =
    and_from (nat_eq twig.size twig.size) (bytes_eq twig.hash twig.hash) (eq-eqb twig.size twig.size refl) ((bytes_eq-Decides twig.hash twig.hash).1 refl)

-- where a node that was and is stored keeps its value, it has to be written if it wasn't stored, or is a root and wasn't
new_is : (m after : Content) (depth offset : ℕ)
    → (is_some (after.node depth offset) ≡ true → is_some (m.node depth offset) ≡ true → m.node depth offset ≡ after.node depth offset)
    → is_new m after depth offset
    ≡ (is_some (after.node depth offset) && (not (is_some (m.node depth offset)) || (is_root after.length depth offset && not (is_root m.length depth offset))))
new_is m after depth offset agree = elim (some_or_none (after.node depth offset)) [
  | inr none ↦ rw none refl
  | inl some ↦ elim (some_or_none (m.node depth offset)) [
    | inr none ↦ rw (some.1, none) refl
    | inl old ↦
        let kept = agree (ap is_some some.1) (ap is_some old.1) in
        let same : old.0 ≡ some.0 = some_same old.0 some.0 (sym old.1 ∙ kept ∙ some.1) in
        let test : is_same old.0 some.0 ≡ true = ap (λ (t : Twig). is_same t some.0) same ∙ same_is some.0 in
        rw (some.1, old.1, test) refl
  ]
]

-- ---- fewer blocks, of a log that may be shorter

part_new : (m : Content) (to fork : ℕ) (signature : List ℕ) (block : Blocks) → IsSound (content_on fork to signature block m.node) → (depth offset : ℕ)
    → is_new m (content_on fork to signature block m.node) depth offset ≡ (is_root to depth offset && not (is_root m.length depth offset))
part_new m to fork signature block sound depth offset =
    let after = content_on fork to signature block m.node in
    let same : in_closure to (holds block) depth offset ≡ true → after.node depth offset ≡ m.node depth offset = λ here. rw here refl in
    new_is m after depth offset (λ some old. sym (same (sym (sound.closed depth offset) ∙ some))) ∙ (elim (cases_Bool (in_closure to (holds block) depth offset)) [
      | inl here ↦
          let some : is_some (after.node depth offset) ≡ true = sound.closed depth offset ∙ here in
          let old : is_some (m.node depth offset) ≡ true = ap is_some (sym (same here)) ∙ some in
          rw (some, old) refl
      | inr past ↦
          let none : is_some (after.node depth offset) ≡ false = sound.closed depth offset ∙ past in
          let no_root : is_root to depth offset ≡ false = not_root to (holds block) depth offset past in
          rw (none, no_root) refl
    ])
  where
    not_root : (n : ℕ) (set : ℕ → Bool) (d o : ℕ) → in_closure n set d o ≡ false → is_root n d o ≡ false
    not_root n set d o past = elim (cases_Bool (is_root n d o)) [
      | inr other ↦ other
      | inl root ↦ let clash : true ≡ false = sym (root_in_closure n set d o (true_root n d o root)) ∙ past in cc
    ]

-- a truncation writes the roots that weren't roots
pub truncate_new : (m : Content) (to fork : ℕ) (signature : List ℕ) → IsSound (truncate_content to fork signature m) → (depth offset : ℕ)
    → is_new m (truncate_content to fork signature m) depth offset ≡ (is_root to depth offset && not (is_root m.length depth offset))
truncate_new m to fork signature sound = part_new m to fork signature (blocks_below to m.block) sound

-- a clearing writes nothing
pub clear_new : (m : Content) (from to : ℕ) → IsSound (clear_content from to m) → (depth offset : ℕ) → is_new m (clear_content from to m) depth offset ≡ false
clear_new m from to sound depth offset =
    part_new m m.length m.fork m.signature (blocks_without from to m.block) sound depth offset ∙ either (is_root m.length depth offset)
  where
    either : (root : Bool) → (root && not root) ≡ false
    either true = refl
    either false = refl

-- ---- a longer log

-- below the old end what is in the closure was
closure_before : (n to : ℕ) (old now : ℕ → Bool) → ((index : ℕ) → index < n → now index ≡ old index) → (depth offset : ℕ) → in_closure to now depth offset ≡ true
    → end_block_of depth offset ≤ n → n ≤ to → in_closure n old depth offset ≡ true
closure_before n to old now same depth offset test before longer =
    let closure = true_closure to now depth offset test in
    closure_true n old depth offset (record {
      within = before;
      why = elim (cases_lt n (end_block_of (suc depth) (offset / 2))) [
        | inl past ↦ inl past
        | inr within ↦ elim closure.why [
          | inl further ↦ absurd (omega (arith, further, within, longer))
          | inr any ↦
              let there = any_under-held now (suc depth) (offset / 2) any in
              let less : there.index < n = omega (arith, there.under.1, within) in
              inr (held-any_under old (suc depth) (offset / 2) there.index (sym (same there.index less) ∙ there.is_held) there.under)
        ]
      ];
    })

-- the log is longer, and what is below its old end stays
record IsLonger (m : Content) (to : ℕ) (block : Blocks) (value : Values) : Type 0 where
  longer : m.length ≤ to
  blocks : (index : ℕ) → index < m.length → holds block index ≡ held m index
  nodes : (depth offset : ℕ) → end_block_of depth offset ≤ m.length → value depth offset ≡ m.node depth offset

module _ (m : Content) (to : ℕ) (signature : List ℕ) (block : Blocks) (value : Values) (sound : IsSound m) (long : IsLonger m to block value)
    (sound_after : IsSound (content_on m.fork to signature block value)) (depth offset : ℕ) where
  abbrev after : Content
  after = content_on m.fork to signature block value

  -- a node past the old end wasn't stored
  past_none : m.length < end_block_of depth offset → is_some (m.node depth offset) ≡ false
  past_none past = elim (cases_Bool (is_some (m.node depth offset))) [
    | inr none ↦ none
    | inl some ↦ absurd (omega (arith, past, (true_closure m.length (held m) depth offset (sym (sound.closed depth offset) ∙ some)).within))
  ]

  -- a node before it that is stored was, with its value
  before_kept : end_block_of depth offset ≤ m.length → is_some (after.node depth offset) ≡ true
      → (is_some (m.node depth offset) ≡ true) × (m.node depth offset ≡ after.node depth offset)
  before_kept before some =
      let test : in_closure to (holds block) depth offset ≡ true = sym (sound_after.closed depth offset) ∙ some in
      let was = closure_before m.length to (held m) (holds block) long.blocks depth offset test before long.longer in
      let same : after.node depth offset ≡ value depth offset = rw test refl in
      (sound.closed depth offset ∙ was, sym (long.nodes depth offset before) ∙ sym same)

  no_new_root : end_block_of depth offset ≤ m.length → (is_root to depth offset && not (is_root m.length depth offset)) ≡ false
  no_new_root before = elim (cases_Bool (is_root to depth offset)) [
    | inr other ↦ rw other refl
    | inl root ↦
        let full = true_root to depth offset root in
        let was : is_root m.length depth offset ≡ true = root_true m.length depth offset (record { within = before; largest = omega (arith, full.largest, long.longer) }) in
        rw (root, was) refl
  ]

  longer_new : is_new m after depth offset ≡ (is_some (after.node depth offset) && not (is_some (m.node depth offset)))
  longer_new = elim (cases_lt m.length (end_block_of depth offset)) [
    | inl past ↦
        let none = past_none past in
        new_is m after depth offset (λ some old. let clash : true ≡ false = sym old ∙ none in cc) ∙ rw none refl
    | inr before ↦
        new_is m after depth offset (λ some old. (before_kept before some).1) ∙ (elim (cases_Bool (is_some (after.node depth offset))) [
          | inr none ↦ rw none refl
          | inl some ↦ let old = (before_kept before some).0 in rw (some, old, no_new_root before) refl
        ])
  ]

-- ---- an append

append_longer : (m : Content) (more : List (List ℕ)) → IsSound m
    → IsLonger m (m.length + length more) (blocks_with m.length more m.block) (joined (with_blocks m.length m.node more))
append_longer m more sound = record {
  longer = omega arith;
  blocks = λ index less. rw (lt-ltb index m.length less) refl;
  nodes = λ depth offset before.
      joined_below m.length m.node (with_blocks m.length m.node more) sound.pairs (λ d o within. rw (le-leb (end_block_of d o) m.length within) refl) depth offset before;
}

-- past the old end a subtree has a new block, which is held
pub full_any : (m : Content) (more : List (List ℕ)) (depth offset : ℕ) → m.length < end_block_of depth offset → end_block_of depth offset ≤ m.length + length more
    → any_under (holds (blocks_with m.length more m.block)) depth offset ≡ true
full_any m more depth offset past within =
    let last = end_block_of depth offset - 1 in
    let some = span_some depth offset in
    let at : last - m.length < length more = omega (arith, past, within, some) in
    let here : slice_get more (last - m.length) ≡ Some _ = slice_get-get_or more (last - m.length) [] at in
    let behind : nat_lt last m.length ≡ false = le-ltb last m.length (omega (arith, past)) in
    let held_last : holds (blocks_with m.length more m.block) last ≡ true = rw (behind, here) refl in
    held-any_under (holds (blocks_with m.length more m.block)) depth offset last held_last (omega (arith, some, past), omega (arith, some, past))

pub full_closed : (m : Content) (more : List (List ℕ)) (depth offset : ℕ) → m.length < end_block_of depth offset
    → in_closure (m.length + length more) (holds (blocks_with m.length more m.block)) depth offset ≡ is_within (m.length + length more) depth offset
full_closed m more depth offset past = elim (cases_lt (m.length + length more) (end_block_of depth offset)) [
  | inl further ↦ rw (lt-leb (end_block_of depth offset) (m.length + length more) further) refl
  | inr within ↦
      held_in_closure (m.length + length more) (holds (blocks_with m.length more m.block)) depth offset (full_any m more depth offset past within) within
      ∙ sym (within_true (m.length + length more) depth offset within)
]

-- an append writes all nodes that become full
pub append_new : (m : Content) (more : List (List ℕ)) (signature : List ℕ) → IsSound m → IsSound (append_content more signature m) → (depth offset : ℕ)
    → is_new m (append_content more signature m) depth offset
    ≡ (is_within (m.length + length more) depth offset && not (is_within m.length depth offset))
append_new m more signature sound sound_after depth offset =
    let n = m.length in
    let to = m.length + length more in
    let block = blocks_with m.length more m.block in
    let value = joined (with_blocks m.length m.node more) in
    let long = append_longer m more sound in
    longer_new m to signature block value sound long sound_after depth offset ∙ (elim (cases_lt n (end_block_of depth offset)) [
      | inr before ↦ elim (cases_Bool (is_some ((append_content more signature m).node depth offset))) [
        | inr none ↦ rw (none, within_true n depth offset before) (sym (and-false (is_within to depth offset)))
        | inl some ↦
            let old = (before_kept m to signature block value sound long sound_after depth offset before some).0 in
            rw (some, old, within_true n depth offset before) (sym (and-false (is_within to depth offset)))
      ]
      | inl past ↦
          let none = past_none m to signature block value sound long sound_after depth offset past in
          rw (none, lt-leb (end_block_of depth offset) n past) (ap (λ (b : Bool). b && true) (sound_after.closed depth offset ∙ full_closed m more depth offset past))
    ])

-- ---- an upgrade, and a fetched block

-- an upgrade writes the nodes that weren't stored
pub upgrade_new : (m : Content) (to : ℕ) (parts : List Twig) (signature : List ℕ) → m.length ≤ to → IsSound m → IsSound (upgrade_content to parts signature m)
    → (depth offset : ℕ) → is_new m (upgrade_content to parts signature m) depth offset
    ≡ (is_some ((upgrade_content to parts signature m).node depth offset) && not (is_some (m.node depth offset)))
upgrade_new m to parts signature longer sound sound_after depth offset =
    longer_new m to signature m.block (joined (with_parts m.length m.node (cover_of m.length to) parts)) sound (record {
      longer = longer;
      blocks = λ index less. refl;
      nodes = λ d o before.
          joined_below m.length m.node (with_parts m.length m.node (cover_of m.length to) parts) sound.pairs
          (λ e p within. rw (le-leb (end_block_of e p) m.length within) refl) d o before;
    }) sound_after depth offset

-- and so does a fetched block
pub fetch_new : (m : Content) (index : ℕ) (bytes : List ℕ) (path : Values) → IsSound (fetch_content index bytes path m) → (depth offset : ℕ)
    → is_new m (fetch_content index bytes path m) depth offset
    ≡ (is_some ((fetch_content index bytes path m).node depth offset) && not (is_some (m.node depth offset)))
fetch_new m index bytes path sound_after depth offset =
    new_is m (fetch_content index bytes path m) depth offset agree
    ∙ ap (λ (b : Bool). is_some ((fetch_content index bytes path m).node depth offset) && (not (is_some (m.node depth offset)) || b)) (no_root (is_root m.length depth offset))
    ∙ ap (λ (b : Bool). is_some ((fetch_content index bytes path m).node depth offset) && b) (or-false (not (is_some (m.node depth offset))))
  where
    no_root : (root : Bool) → (root && not root) ≡ false
    no_root true = refl
    no_root false = refl

    agree : is_some ((fetch_content index bytes path m).node depth offset) ≡ true → is_some (m.node depth offset) ≡ true
        → m.node depth offset ≡ (fetch_content index bytes path m).node depth offset
    agree some old =
        let value = stored_value (m.node depth offset) old in
        let test : in_closure m.length (holds (blocks_with_one index bytes m.block)) depth offset ≡ true = sym (sound_after.closed depth offset) ∙ some in
        rw (test, value.1) refl

-- ---- nodes that come in

rise_from : (nodes : List Node) (least : ℕ) → AllByRecursion (λ (node : Node). least ≤ node.index) nodes → Ascends nodes → Rise least nodes
rise_from [] least all up = tt
rise_from (node ∷ nodes) least all up =
    (all.0, rise_from nodes (suc node.index) (all_so (λ (later : Node). node.index < later.index) (λ (later : Node). suc node.index ≤ later.index) (λ later less. less) nodes up.0) up.1)

-- numbers that ascend rise
pub ascends_rise : (nodes : List Node) → Ascends nodes → Rise 0 nodes
ascends_rise nodes up = rise_from nodes 0 (any_index nodes) up
  where
    any_index : (nodes : List Node) → AllByRecursion (λ (node : Node). 0 ≤ node.index) nodes
    any_index [] = tt
    any_index (node ∷ nodes) = (omega arith, any_index nodes)

-- all nodes of a content that isn't shorter but those that stay, which were stored with their values, make the entry of a change
pub fresh_entry : (m after : Content) (commit : Commit) (nodes : List Node) (stay : ℕ → ℕ → Bool) → IsSound m → m.length ≤ after.length → Rise 0 nodes
    → ((depth offset : ℕ) → stay depth offset ≡ true → is_some (m.node depth offset) ≡ true)
    → ((depth offset : ℕ) → stay depth offset ≡ true → is_some (after.node depth offset) ≡ true → m.node depth offset ≡ after.node depth offset)
    → ((depth offset : ℕ) → values_in nodes depth offset ≡ (if stay depth offset then None else after.node depth offset))
    → IsEntryOf m commit after (entry_with commit after nodes)
fresh_entry m after commit nodes stay sound longer order was kept fresh = record {
  commit_is = refl;
  head_is = refl;
  order = order;
  stored = λ depth offset twig is. elim (cases_Bool (stay depth offset)) [
    | inl stays ↦
        let none : values_in nodes depth offset ≡ None = fresh depth offset ∙ rw stays refl in
        let clash : None ≡ Some twig = sym none ∙ is in cc
    | inr other ↦ let same : values_in nodes depth offset ≡ after.node depth offset = fresh depth offset ∙ rw other refl in sym same ∙ is
  ];
  new = λ depth offset new. elim (cases_Bool (stay depth offset)) [
    | inr other ↦ fresh depth offset ∙ rw other refl
    | inl stays ↦ let clash : false ≡ true = sym (not_new depth offset stays) ∙ new in cc
  ];
}
  where
    no_root : (depth offset : ℕ) → stay depth offset ≡ true → (is_root after.length depth offset && not (is_root m.length depth offset)) ≡ false
    no_root depth offset stays = elim (cases_Bool (is_root after.length depth offset)) [
      | inr other ↦ rw other refl
      | inl root ↦
          let full = true_root after.length depth offset root in
          let within = (true_closure m.length (held m) depth offset (sym (sound.closed depth offset) ∙ was depth offset stays)).within in
          let old : is_root m.length depth offset ≡ true = root_true m.length depth offset (record { within = within; largest = omega (arith, full.largest, longer) }) in
          rw (root, old) refl
    ]

    not_new : (depth offset : ℕ) → stay depth offset ≡ true → is_new m after depth offset ≡ false
    not_new depth offset stays =
        new_is m after depth offset (λ some old. kept depth offset stays some) ∙ rw (was depth offset stays, no_root depth offset stays) (and-false (is_some (after.node depth offset)))
