-- Appended blocks stand one after the other behind the log's bytes.
use Rattle.std.proofs.Common.{◌≡◌, ℕ, zero, suc, true, false, ◌+◌, ◌-◌, ◌<◌, ◌≤◌, inl, inr, List, [], ◌∷◌, ◌++◌, length, take, drop, get_or, slice_get, Some, refl, sym, ap, ◌∙◌, arith, nat_lt, length-append}
use Rattle.std.specs.Prelude.{is_some}
use Rattle.std.specs.List.{concat}
use Rattle.std.proofs.Math.Seq.{drop-append-add}
use Rattle.std.proofs.lemmas.Bool.{cases_lt, lt-ltb, le-ltb}
use Rattle.std.proofs.lemmas.List.{drop-take, drop-drop, take-take, take_at}
use Rattle.std.proofs.lemmas.List.Sums.{sum_by-cons, sum_by_more}
use Rattle.std.proofs.lemmas.Option.{slice_get-get_or, slice_get_within}
use Rattle.disk_trait.specs.Disk.{overlay}
use Rattle.disk_trait.specs.Overlays.{torn_overlay}
use Rattle.merkle_nodes.specs.Joined.{joined, with_blocks}
use Rattle.node_set.specs.Contents.{Content, holds, roots_at, roots, bytes_under}
use Rattle.node_set.specs.Evidence.{bytes_of}
use Rattle.node_set.specs.Offsets.{offset_of}
use Rattle.node_set.specs.Whole.{IsSound}
use Rattle.node_set.specs.Changes.{blocks_with, append_content}
use Rattle.core_disk.specs.Standing.{HasBlocks}
use Rattle.core_disk.proofs.BlockPlaces.{offset_is_sum, bytes_on, bytes_behind, ends_within}
use Rattle.core_disk.proofs.BlocksStay.{append_same, append_offset, torn_window, overlay_gives}

-- ---- a block's part of all blocks' bytes

-- so many bytes at a place
abbrev window : ℕ → ℕ → List ℕ → List ℕ
window place count area = take count (drop place area)

-- a block's bytes stand behind those of the blocks before it
piece_of : (blocks : List (List ℕ)) (k : ℕ) (own : List ℕ) → slice_get blocks k ≡ Some own
    → (window (bytes_of (take k blocks)) (length own) (concat blocks) ≡ own) × (bytes_of (take k blocks) + length own ≤ length (concat blocks))
piece_of [] k own there = cc
piece_of (x ∷ blocks) zero own there =
    let same : x ≡ own = cc in
    let count : length x ≡ length own = ap length same in
    (take_at x (concat blocks) (length own) count ∙ same, omega (arith, count, length-append x (concat blocks)))
piece_of (x ∷ blocks) (suc k) own there =
    let rest = piece_of blocks k own there in
    let before = bytes_of (take k blocks) in
    let sum : bytes_of (x ∷ take k blocks) ≡ length x + before = sum_by-cons length x (take k blocks) in
    let past : drop (bytes_of (x ∷ take k blocks)) (x ++ concat blocks) ≡ drop before (concat blocks) =
    ap (λ (n : ℕ). drop n (x ++ concat blocks)) sum ∙ drop-append-add x (concat blocks) before in
    (ap (take (length own)) past ∙ rest.0, omega (arith, sum, rest.1, length-append x (concat blocks)))

-- a part of what stands at a place
part_at : (place from count : ℕ) (all own area : List ℕ) → window place (length all) area ≡ all → window from count all ≡ own → from + count ≤ length all
    → window (place + from) count area ≡ own
part_at place from count all own area is part within =
    ap (take count) (sym (drop-drop from place area))
    ∙ sym (drop-take from count (drop place area))
    ∙ ap (drop from) (sym (take-take (from + count) (length all) (drop place area) within))
    ∙ ap (λ (l : List ℕ). drop from (take (from + count) l)) is
    ∙ drop-take from count all
    ∙ part

-- ---- the new blocks' offsets

module _ (m : Content) (more : List (List ℕ)) (signature : List ℕ) (sound : IsSound m) (sound_after : IsSound (append_content more signature m)) where
  abbrev appended : Content
  appended = append_content more signature m

  -- the blocks before the old end are the old ones, and those behind it the new ones
  old_block : (index : ℕ) → index < m.length → appended.block index ≡ m.block index
  old_block index less = rw (lt-ltb index m.length less) refl

  new_block : (k : ℕ) → appended.block (m.length + k) ≡ slice_get more k
  new_block k =
      let behind : nat_lt (m.length + k) m.length ≡ false = le-ltb (m.length + k) m.length (omega arith) in
      let at : m.length + k - m.length ≡ k = omega arith in
      rw behind (ap (λ (n : ℕ). slice_get more n) at)

  -- the bytes before a new block
  bytes_at : (k : ℕ) → k < length more → bytes_under (roots_at appended.node (m.length + k)) ≡ bytes_under (roots m) + bytes_of (take k more)
  bytes_at zero some =
      let n = m.length in
      let start : n + 0 ≡ n = omega arith in
      let is_held : holds appended.block n ≡ true =
      ap (λ (i : ℕ). holds appended.block i) (sym start) ∙ ap is_some (new_block 0 ∙ slice_get-get_or more 0 [] some) in
      let same = bytes_on m.fork (n + length more) signature (blocks_with n more m.block) (joined (with_blocks n m.node more)) m.node n is_held
      (omega (arith, some)) (λ d o root. append_same m more sound d o root.within) in
      let whole = ap (λ (i : ℕ). bytes_under (roots_at appended.node i)) start in
      omega (arith, same, whole)
  bytes_at (suc k) some =
      let less : k < length more = omega (arith, some) in
      let before = bytes_at k less in
      let own = get_or more k [] in
      let there : appended.block (m.length + k) ≡ Some own = new_block k ∙ slice_get-get_or more k [] less in
      let behind = bytes_behind appended sound_after (m.length + k) own there in
      let place : m.length + suc k ≡ suc (m.length + k) = omega arith in
      let here = ap (λ (i : ℕ). bytes_under (roots_at appended.node i)) place in
      let next : suc k ≡ k + 1 = omega arith in
      let count = ap (λ (i : ℕ). bytes_of (take i more)) next in
      let sum = sum_by_more length more k [] less in
      omega (arith, before, behind, here, count, sum)

  -- each stands behind the log's bytes and the new blocks before it
  pub new_offset : (k : ℕ) → k < length more → offset_of appended (m.length + k) ≡ bytes_under (roots m) + bytes_of (take k more)
  new_offset k less = offset_is_sum appended (m.length + k) (omega (arith, less)) ∙ bytes_at k less

  -- once their bytes are written at the log's end, all held blocks stand
  pub append_has : (area : List ℕ) → HasBlocks area m → HasBlocks (overlay (bytes_under (roots m)) (concat more) area) appended
  append_has area has index own there = elim (cases_lt index m.length) [
    | inl less ↦
        let was : m.block index ≡ Some own = sym (old_block index less) ∙ there in
        let same = append_offset m more signature sound index (ap is_some was) in
        let torn = torn_overlay (bytes_under (roots m)) (length (concat more)) (concat more) area (omega arith) in
        ap (λ (at : ℕ). window at (length own) (overlay (bytes_under (roots m)) (concat more) area)) same
        ∙ torn_window (bytes_under (roots m)) (length (concat more)) area (overlay (bytes_under (roots m)) (concat more) area) torn (offset_of m index) own
        (inl (ends_within m sound index own was)) (has index own was)
    | inr behind ↦
        let k = index - m.length in
        let at : index ≡ m.length + k = omega (arith, behind) in
        let new : slice_get more k ≡ Some own = sym (new_block k) ∙ ap appended.block (sym at) ∙ there in
        let place = ap (offset_of appended) at ∙ new_offset k (slice_get_within more k own new) in
        let piece = piece_of more k own new in
        ap (λ (p : ℕ). window p (length own) (overlay (bytes_under (roots m)) (concat more) area)) place
        ∙ part_at (bytes_under (roots m)) (bytes_of (take k more)) (length own) (concat more) own (overlay (bytes_under (roots m)) (concat more) area)
        (overlay_gives (bytes_under (roots m)) (concat more) area) piece.0 piece.1
  ]
