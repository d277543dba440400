-- Held blocks stand at their offsets after each change, and after a write behind them or between them that was cut short.
use Rattle.std.proofs.Common.{◌≡◌, ℕ, true, false, ◌+◌, ◌-◌, ◌<◌, ◌≤◌, ◌⊎◌, inl, inr, List, [], ◌∷◌, ◌++◌, length, take, drop, replicate, Some, None, refl, sym, ap, ◌∙◌, arith, nat_eq, nat_lt, nat_le, length-append, length-take, length-drop}
use Rattle.std.specs.Prelude.{is_some, ◌&&◌}
use Rattle.std.proofs.Math.Seq.{drop-append_seam}
use Rattle.std.proofs.lemmas.Bool.{cases_lt, cases_eq, cases_Bool, le-leb, lt-ltb, le-ltb, eq-eqb, eqb-true}
use Rattle.std.proofs.lemmas.List.{drop-take, drop-drop, take_at, drop-append-le, length-replicate}
use Rattle.disk_trait.specs.Disk.{overlay, Torn}
use Rattle.disk_trait.specs.Overlays.{torn_overlay}
use Rattle.flat_tree.specs.Subtrees.{end_block_of}
use Rattle.flat_tree.specs.Covers.{cover_of}
use Rattle.merkle_nodes.specs.declared.node.Twig.{Twig}
use Rattle.merkle_nodes.specs.Joined.{joined, with_blocks, with_parts, or_value}
use Rattle.node_set.specs.Contents.{Content, Values, holds, held, roots, bytes_under}
use Rattle.node_set.specs.Closure.{IsFullRoot}
use Rattle.node_set.specs.Offsets.{offset_of}
use Rattle.node_set.specs.Whole.{IsSound}
use Rattle.node_set.specs.Changes.{blocks_below, blocks_without, blocks_with, blocks_with_one, append_content, truncate_content, clear_content, upgrade_content, fetch_content}
use Rattle.node_set.proofs.JoinedLemmas.{joined_below}
use Rattle.node_set.proofs.Stored.{some_of, some_same}
use Rattle.core_disk.specs.Standing.{HasBlocks}
use Rattle.core_disk.proofs.BlockPlaces.{behind_closure, offset_on, ends_within, ends_before}

-- ---- the area isn't written

-- each held block was held, at the same offset
abbrev pub StaysHeld : Content → Content → Type 0
StaysHeld m after = (index : ℕ) (bytes : List ℕ) → after.block index ≡ Some bytes → (m.block index ≡ Some bytes) × (offset_of after index ≡ offset_of m index)

-- so they stand in the area as it is
pub blocks_stay : (area : List ℕ) (m after : Content) → StaysHeld m after → HasBlocks area m → HasBlocks area after
blocks_stay area m after stays has index bytes there =
    let old = stays index bytes there in
    ap (λ (at : ℕ). take (length bytes) (drop at area)) old.1 ∙ has index bytes old.0

-- and what is held after keeps its offset
pub offset_stays : (m after : Content) → StaysHeld m after → (index : ℕ) → held after index ≡ true → offset_of after index ≡ offset_of m index
offset_stays m after stays index is_held = let bytes = some_of (after.block index) is_held in (stays index bytes.0 bytes.1).1

-- the blocks below a truncation's length stay, those outside a cleared range, and all under an upgrade
pub truncate_stays : (m : Content) (to fork : ℕ) (signature : List ℕ) → IsSound m → StaysHeld m (truncate_content to fork signature m)
truncate_stays m to fork signature sound index bytes there = elim (cases_lt index to) [
  | inr past ↦
      let none : blocks_below to m.block index ≡ None = rw (le-ltb index to past) refl in
      let clash : None ≡ Some bytes = sym none ∙ there in
      cc
  | inl less ↦
      let same : blocks_below to m.block index ≡ m.block index = rw (lt-ltb index to less) refl in
      let old : m.block index ≡ Some bytes = sym same ∙ there in (
        old,
        offset_on m fork to signature (blocks_below to m.block) m.node index (ap is_some there) less (sound.blocks.below index bytes old) (λ d o root. refl),
      )
]

pub clear_stays : (m : Content) (from to : ℕ) → IsSound m → StaysHeld m (clear_content from to m)
clear_stays m from to sound index bytes there = elim (cases_Bool (nat_le from index && nat_lt index to)) [
  | inl cleared ↦
      let none : blocks_without from to m.block index ≡ None = rw cleared refl in
      let clash : None ≡ Some bytes = sym none ∙ there in
      cc
  | inr kept ↦
      let same : blocks_without from to m.block index ≡ m.block index = rw kept refl in
      let old : m.block index ≡ Some bytes = sym same ∙ there in
      let less = sound.blocks.below index bytes old in
      (old, offset_on m m.fork m.length m.signature (blocks_without from to m.block) m.node index (ap is_some there) less less (λ d o root. refl))
]

pub upgrade_stays : (m : Content) (to : ℕ) (parts : List Twig) (signature : List ℕ) → IsSound m → m.length ≤ to
    → StaysHeld m (upgrade_content to parts signature m)
upgrade_stays m to parts signature sound longer index bytes there =
    let known = with_parts m.length m.node (cover_of m.length to) parts in
    let less = sound.blocks.below index bytes there in
    let below = joined_below m.length m.node known sound.pairs (λ d o within. rw (le-leb (end_block_of d o) m.length within) refl) in
    let same = λ (d o : ℕ) (root : IsFullRoot index d o). below d o (omega (arith, root.within, less)) in
    (there, offset_on m m.fork to signature m.block (joined known) index (ap is_some there) (omega (arith, less, longer)) less same)

-- ---- a write that was cut short leaves what stands before and behind it

-- bytes that end before the write or begin behind it
pub torn_window : (at n : ℕ) (old new : List ℕ) → Torn at n old new → (place : ℕ) (bytes : List ℕ) → (place + length bytes ≤ at) ⊎ (at + n ≤ place)
    → take (length bytes) (drop place old) ≡ bytes → take (length bytes) (drop place new) ≡ bytes
torn_window at n old new torn place bytes (inr behind) is =
    let past = place - (at + n) in
    let meet : at + n + past ≡ place = omega (arith, behind) in
    let from = λ (area : List ℕ). drop-drop past (at + n) area ∙ ap (λ (k : ℕ). drop k area) meet in
    let same : drop place new ≡ drop place old = sym (from new) ∙ ap (drop past) torn.rest ∙ from old in
    ap (take (length bytes)) same ∙ is
torn_window at n old new torn place [] (inl before) is = refl
torn_window at n old new torn place (b ∷ bytes) (inl before) is =
    let count = length (b ∷ bytes) in
    let all : length (take count (drop place old)) ≡ count = ap length is in
    let some : 0 < count = omega arith in
    let within : place + count ≤ length old = omega (arith, all, some, length-take count (drop place old), length-drop place old) in
    let front = torn.front (place + count) before within in
    sym (drop-take place count new) ∙ ap (drop place) front ∙ drop-take place count old ∙ is

-- what was written stands there
pub overlay_gives : (at : ℕ) (bytes old : List ℕ) → take (length bytes) (drop at (overlay at bytes old)) ≡ bytes
overlay_gives at [] old = refl
overlay_gives at (b ∷ bytes) old =
    let part = b ∷ bytes in
    let front = take at old ++ replicate (at - length old) 0 in
    let rest = drop (at + length part) old in
    let count : length front ≡ at =
    omega (arith, length-append (take at old) (replicate (at - length old) 0), length-take at old, length-replicate {A = ℕ} (at - length old) 0) in
    let seam : drop at (front ++ part) ≡ part = ap (λ (k : ℕ). drop k (front ++ part)) (sym count) ∙ drop-append_seam front part in
    let within : at ≤ length (front ++ part) = omega (arith, count, length-append front part) in
    ap (take (length part)) (drop-append-le at (front ++ part) rest within ∙ ap (λ (l : List ℕ). l ++ rest) seam) ∙ take_at part rest (length part) refl

-- ---- an append

-- the nodes before the old end keep their values, so the blocks that were held keep their offsets
pub append_same : (m : Content) (more : List (List ℕ)) → IsSound m → (d o : ℕ) → end_block_of d o ≤ m.length
    → joined (with_blocks m.length m.node more) d o ≡ m.node d o
append_same m more sound =
    joined_below m.length m.node (with_blocks m.length m.node more) sound.pairs (λ d o within. rw (le-leb (end_block_of d o) m.length within) refl)

pub append_offset : (m : Content) (more : List (List ℕ)) (signature : List ℕ) → IsSound m → (index : ℕ) → held m index ≡ true
    → offset_of (append_content more signature m) index ≡ offset_of m index
append_offset m more signature sound index is_held =
    let bytes = some_of (m.block index) is_held in
    let less = sound.blocks.below index bytes.0 bytes.1 in
    let kept : holds (blocks_with m.length more m.block) index ≡ true = rw (lt-ltb index m.length less) is_held in
    offset_on m m.fork (m.length + length more) signature (blocks_with m.length more m.block) (joined (with_blocks m.length m.node more)) index kept
    (omega (arith, less)) less (λ d o root. append_same m more sound d o (omega (arith, root.within, less)))

-- a write at the log's end that was cut short leaves the held blocks
pub append_torn : (m : Content) (n : ℕ) (old new : List ℕ) → IsSound m → HasBlocks old m → Torn (bytes_under (roots m)) n old new → HasBlocks new m
append_torn m n old new sound has torn index bytes there =
    torn_window (bytes_under (roots m)) n old new torn (offset_of m index) bytes (inl (ends_within m sound index bytes there)) (has index bytes there)

-- ---- a fetched block

-- a block that was held keeps its offset: the nodes that were stored keep their values
pub fetch_offset : (m : Content) (index : ℕ) (bytes : List ℕ) (path : Values) → IsSound m → (other : ℕ) → held m other ≡ true
    → offset_of (fetch_content index bytes path m) other ≡ offset_of m other
fetch_offset m index bytes path sound other is_held =
    let own = some_of (m.block other) is_held in
    let less = sound.blocks.below other own.0 own.1 in
    offset_on m m.fork m.length m.signature (blocks_with_one index bytes m.block) (λ depth offset. or_value (m.node depth offset) (path depth offset)) other
    (kept (cases_Bool (nat_eq other index))) less less same
  where
    kept : ((nat_eq other index ≡ true) ⊎ (nat_eq other index ≡ false)) → holds (blocks_with_one index bytes m.block) other ≡ true
    kept (inl here) = rw here refl
    kept (inr apart) = rw apart is_held

    same : (d o : ℕ) → IsFullRoot other d o → or_value (m.node d o) (path d o) ≡ m.node d o
    same d o root =
        let own = some_of (m.block other) is_held in
        let less = sound.blocks.below other own.0 own.1 in
        let stored = some_of (m.node d o) (sound.closed d o ∙ behind_closure m.length (held m) other is_held less d o root) in
        rw stored.1 refl

module _ (m : Content) (index : ℕ) (bytes : List ℕ) (path : Values) (sound : IsSound m) (sound_after : IsSound (fetch_content index bytes path m)) where
  abbrev fetched : Content
  fetched = fetch_content index bytes path m

  fetched_own : fetched.block index ≡ Some bytes
  fetched_own = rw (eq-eqb index index refl) refl

  -- another held block stands before it or behind it
  fetched_apart : (other : ℕ) (own : List ℕ) → m.block other ≡ Some own → nat_eq other index ≡ false
      → (offset_of m other + length own ≤ offset_of fetched index) ⊎ (offset_of fetched index + length bytes ≤ offset_of m other)
  fetched_apart other own there apart =
      let now : fetched.block other ≡ Some own = rw apart there in
      let same = fetch_offset m index bytes path sound other (ap is_some there) in
      let less = sound_after.blocks.below index bytes fetched_own in
      let own_less = sound.blocks.below other own there in
      elim (cases_lt other index) [
        | inl before ↦ inl (omega (arith, same, ends_before fetched sound_after other own now index before less))
        | inr behind ↦ elim (cases_eq other index) [
          | inl here ↦ let clash : true ≡ false = sym (eq-eqb other index here) ∙ apart in cc
          | inr differs ↦ inr (omega (arith, same, ends_before fetched sound_after index bytes fetched_own other (omega (arith, behind, differs)) own_less))
        ]
      ]

  -- a write in its place that was cut short leaves the held blocks
  pub fetch_torn : (old new : List ℕ) → held m index ≡ false → HasBlocks old m → Torn (offset_of fetched index) (length bytes) old new → HasBlocks new m
  fetch_torn old new unheld has torn other own there = elim (cases_Bool (nat_eq other index)) [
    | inl here ↦
        let was : held m other ≡ false = ap (held m) (eqb-true other index here) ∙ unheld in
        let clash : true ≡ false = sym (ap is_some there) ∙ was in
        cc
    | inr apart ↦
        torn_window (offset_of fetched index) (length bytes) old new torn (offset_of m other) own (fetched_apart other own there apart) (has other own there)
  ]

  -- once it is written, all held blocks stand
  pub fetch_has : (area : List ℕ) → HasBlocks area m → HasBlocks (overlay (offset_of fetched index) bytes area) fetched
  fetch_has area has other own there = elim (cases_Bool (nat_eq other index)) [
    | inl here ↦
        let at : other ≡ index = eqb-true other index here in
        let same : bytes ≡ own = some_same bytes own (sym fetched_own ∙ ap fetched.block (sym at) ∙ there) in
        ap (λ (k : ℕ). take (length own) (drop (offset_of fetched k) (overlay (offset_of fetched index) bytes area))) at
        ∙ ap (λ (b : List ℕ). take (length b) (drop (offset_of fetched index) (overlay (offset_of fetched index) bytes area))) (sym same)
        ∙ overlay_gives (offset_of fetched index) bytes area
        ∙ same
    | inr apart ↦
        let was : m.block other ≡ Some own = let e : fetched.block other ≡ m.block other = rw apart refl in sym e ∙ there in
        let at = fetch_offset m index bytes path sound other (ap is_some was) in
        let torn = torn_overlay (offset_of fetched index) (length bytes) bytes area (omega arith) in
        ap (λ (k : ℕ). take (length own) (drop k (overlay (offset_of fetched index) bytes area))) at
        ∙ torn_window (offset_of fetched index) (length bytes) area (overlay (offset_of fetched index) bytes area) torn (offset_of m other) own
        (fetched_apart other own was apart) (has other own was)
  ]

-- ---- a fetched block of a longer log

-- a write in its place leaves the blocks that are held before the upgrade
pub upgrade_fetch_torn : (m : Content) (to : ℕ) (parts : List Twig) (signature : List ℕ) (index : ℕ) (bytes : List ℕ) (path : Values)
    → IsSound m → m.length ≤ to → IsSound (upgrade_content to parts signature m) → IsSound (fetch_content index bytes path (upgrade_content to parts signature m))
    → (old new : List ℕ) → held m index ≡ false → HasBlocks old m
    → Torn (offset_of (fetch_content index bytes path (upgrade_content to parts signature m)) index) (length bytes) old new → HasBlocks new m
upgrade_fetch_torn m to parts signature index bytes path sound longer sound_up sound_after old new unheld has torn other own there =
    let up = upgrade_content to parts signature m in
    let stays = upgrade_stays m to parts signature sound longer in
    let now = fetch_torn up index bytes path sound_up sound_after old new unheld (blocks_stay old m up stays has) torn in
    sym (ap (λ (at : ℕ). take (length own) (drop at new)) (stays other own there).1) ∙ now other own there
