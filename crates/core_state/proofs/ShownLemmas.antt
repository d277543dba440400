-- What parts in memory show after a change.
use Rattle.std.proofs.Common.{◌≡◌, ℕ, zero, suc, Bool, true, false, ◌+◌, ◌-◌, ◌/◌, ◌<◌, ◌≤◌, inl, inr, List, [], ◌∷◌, ◌++◌, length, take, Some, None, refl, sym, ap, subst, ◌∙◌, arith, nat_lt, slice_get, if◌then◌else◌}
use Rattle.std.specs.Prelude.{is_some, not, ◌&&◌, ◌||◌}
use Rattle.std.proofs.Math.Bool.{or-false, and-true, and-false}
use Rattle.std.proofs.lemmas.Bool.{cases_lt, cases_Bool, le-leb, lt-leb, lt-ltb, le-ltb}
use Rattle.std.proofs.lemmas.Option.{slice_get_past, slice_get-get_or}
use Rattle.std.proofs.lemmas.List.{get_or-append_right, length-append}
use Rattle.std.proofs.Math.ListN.{get_or-append}
use mathlib.Core.Path.{fun_ext}
use Rattle.flat_tree.specs.Subtrees.{end_block_of}
use Rattle.flat_tree.specs.declared.limits.TheConstants.{MAX_BLOCKS}
use Rattle.bit_field.specs.Places.{has}
use Rattle.commit_book.specs.History.{is_between}
use Rattle.merkle_nodes.specs.Joined.{joined, with_blocks}
use Rattle.merkle_nodes.specs.Nodes.{AreNodes}
use Rattle.merkle_batch.specs.Batch.{BatchView, HasBlocks, grown, made_with}
use Rattle.merkle_batch.proofs.Made.{made_with-has}
use Rattle.node_set.specs.Contents.{Content, Blocks, Values, holds, held}
use Rattle.node_set.specs.Closure.{in_closure, closed_on}
use Rattle.node_set.specs.Whole.{IsSound}
use Rattle.node_set.specs.Nodes.{values_of, with_nodes}
use Rattle.node_set.specs.Tables.{Parts, shown}
use Rattle.node_set.specs.Changes.{blocks_with, blocks_below, blocks_without, append_content, content_on}
use Rattle.node_set.proofs.ClosureLemmas.{true_closure, closure_true, any_under-held, held-any_under}
use Rattle.node_set.proofs.JoinedLemmas.{joined_below}
use Rattle.core_state.proofs.PutNodes.{put_keeps, put_has}

-- as many blocks as the length, and no place set past it
pub record FitParts (parts : Parts) : Type 0 where
  pub spare : (index : ℕ) → has parts.held index ≡ true → index < parts.head.length
  pub blocks : length parts.blocks ≡ parts.head.length

-- the blocks that are shown are those of the places set
pub shown_held : (parts : Parts) → FitParts parts → (index : ℕ) → holds (shown parts).block index ≡ has parts.held index
shown_held parts fit index = elim (cases_Bool (has parts.held index)) [
  | inl here ↦
      let within : index < length parts.blocks = omega (arith, fit.blocks, fit.spare index here) in
      rw here (ap is_some (slice_get-get_or parts.blocks index [] within))
  | inr none ↦ rw none refl
]

no_place : (parts : Parts) → FitParts parts → (index : ℕ) → parts.head.length ≤ index → has parts.held index ≡ false
no_place parts fit index past = elim (cases_Bool (has parts.held index)) [
  | inl here ↦ absurd (omega (arith, past, fit.spare index here))
  | inr none ↦ none
]

-- two contents with one head, one set of blocks and the same nodes in the closure
same_content : (fork n : ℕ) (signature : List ℕ) (one other : Blocks) (values joins : Values) → ((index : ℕ) → one index ≡ other index)
    → ((depth offset : ℕ) → in_closure n (holds one) depth offset ≡ true → values depth offset ≡ joins depth offset)
    → content_on fork n signature one values ≡ content_on fork n signature other joins
same_content fork n signature one other values joins blocks nodes =
    let same : one ≡ other = fun_ext blocks in
    let closed : closed_on n (holds one) values ≡ closed_on n (holds one) joins = fun_ext (λ depth. fun_ext (λ offset. here depth offset)) in
    ap (content_with one) closed ∙ ap (λ (b : Blocks). content_on fork n signature b joins) same
  where
    content_with : Blocks → Values → Content
    content_with b value = record { fork = fork; length = n; signature = signature; block = b; node = value }

    here : (depth offset : ℕ) → closed_on n (holds one) values depth offset ≡ closed_on n (holds one) joins depth offset
    here depth offset = elim (cases_Bool (in_closure n (holds one) depth offset)) [
      | inl test ↦ rw test (nodes depth offset test)
      | inr past ↦ rw past refl
    ]

-- the parts show the content of their head, their blocks and their values
pub shown_on : (parts : Parts) → FitParts parts
    → shown parts ≡ content_on parts.head.fork parts.head.length parts.head.signature (shown parts).block (values_of parts.nodes)
shown_on parts fit =
    ap (λ (set : ℕ → Bool). record (shown parts) { node = closed_on parts.head.length set (values_of parts.nodes) })
    (sym (fun_ext (shown_held parts fit)))

-- ---- an append

get_front : (xs ys : List (List ℕ)) (index : ℕ) → index < length xs → slice_get (xs ++ ys) index ≡ slice_get xs index
get_front xs ys index less =
    slice_get-get_or (xs ++ ys) index [] (omega (arith, less, length-append xs ys)) ∙ ap Some (get_or-append xs ys [] index less)
    ∙ sym (slice_get-get_or xs index [] less)

get_back : (xs ys : List (List ℕ)) (n index : ℕ) → length xs ≡ n → n ≤ index → slice_get (xs ++ ys) index ≡ slice_get ys (index - n)
get_back xs ys n index is behind = elim (cases_lt (index - n) (length ys)) [
  | inl less ↦
      slice_get-get_or (xs ++ ys) index [] (omega (arith, is, behind, less, length-append xs ys)) ∙ ap Some (get_or-append_right xs ys n index [] is behind)
      ∙ sym (slice_get-get_or ys (index - n) [] less)
  | inr past ↦ slice_get_past (xs ++ ys) index (omega (arith, is, behind, past, length-append xs ys)) ∙ sym (slice_get_past ys (index - n) past)
]

-- the parts got the blocks of a batch, and its nodes
pub record TakesBatch (parts now : Parts) (more : List (List ℕ)) (batch : BatchView) : Type 0 where
  pub base : batch.base ≡ parts.head.length
  pub has_blocks : HasBlocks (shown parts).node more batch
  pub few : parts.head.length + length more ≤ MAX_BLOCKS
  pub fork : now.head.fork ≡ parts.head.fork
  pub length_is : now.head.length ≡ parts.head.length + length more
  pub places : (index : ℕ) → has now.held index ≡ (has parts.held index || is_between parts.head.length (parts.head.length + length more) index)
  pub blocks : now.blocks ≡ parts.blocks ++ more
  pub nodes : (depth offset : ℕ) → values_of now.nodes depth offset ≡ with_nodes (values_of parts.nodes) batch.nodes depth offset

module _ (parts now : Parts) (more : List (List ℕ)) (batch : BatchView) (fit : FitParts parts) (sound : IsSound (shown parts)) (takes : TakesBatch parts now more batch) where
  abbrev m : Content
  m = shown parts

  abbrev n : ℕ
  n = parts.head.length

  old_place : (index : ℕ) → index < n → has now.held index ≡ has parts.held index
  old_place index less = takes.places index ∙ rw (lt-leb n index less) (or-false (has parts.held index))

  new_place : (index : ℕ) → n ≤ index → has now.held index ≡ nat_lt index (n + length more)
  new_place index behind = takes.places index ∙ rw (no_place parts fit index behind, le-leb n index behind) refl

  now_fit : FitParts now
  now_fit = record {
    spare = λ index here. elim (cases_lt index (n + length more)) [
      | inl less ↦ omega (arith, less, takes.length_is)
      | inr past ↦ let none : has now.held index ≡ false = new_place index (omega (arith, past)) ∙ le-ltb index (n + length more) past in cc
    ];
    blocks = ap length takes.blocks ∙ length-append parts.blocks more ∙ omega (arith, fit.blocks, takes.length_is);
  }

  blocks_same : (index : ℕ) → (shown now).block index ≡ blocks_with n more m.block index
  blocks_same index = elim (cases_lt index n) [
    | inl less ↦
        let front : slice_get now.blocks index ≡ slice_get parts.blocks index =
        ap (λ (bs : List (List ℕ)). slice_get bs index) takes.blocks ∙ get_front parts.blocks more index (omega (arith, less, fit.blocks)) in
        rw (lt-ltb index n less, old_place index less, front) refl
    | inr behind ↦
        let back : slice_get now.blocks index ≡ slice_get more (index - n) =
        ap (λ (bs : List (List ℕ)). slice_get bs index) takes.blocks ∙ get_back parts.blocks more n index fit.blocks behind in
        rw (le-ltb index n behind, new_place index behind, back) (either index behind)
  ]
    where
      either : (index : ℕ) → n ≤ index → (if nat_lt index (n + length more) then slice_get more (index - n) else None) ≡ slice_get more (index - n)
      either index behind = elim (cases_lt index (n + length more)) [
        | inl less ↦ rw (lt-ltb index (n + length more) less) refl
        | inr past ↦ rw (le-ltb index (n + length more) past) (sym (slice_get_past more (index - n) (omega (arith, past, behind))))
      ]

  -- below the old end what was in the closure is
  was_in_closure : (depth offset : ℕ) → in_closure (n + length more) (has now.held) depth offset ≡ true → end_block_of depth offset ≤ n
      → in_closure n (has parts.held) depth offset ≡ true
  was_in_closure depth offset test before =
      let closure = true_closure (n + length more) (has now.held) depth offset test in
      closure_true n (has parts.held) depth offset (record {
        within = before;
        why = elim (cases_lt n (end_block_of (suc depth) (offset / 2))) [
          | inl past ↦ inl past
          | inr within ↦ elim closure.why [
            | inl further ↦ absurd (omega (arith, further, within))
            | inr any ↦
                let there = any_under-held (has now.held) (suc depth) (offset / 2) any in
                let less : there.index < n = omega (arith, there.under.1, within) in
                inr (held-any_under (has parts.held) (suc depth) (offset / 2) there.index (sym (old_place there.index less) ∙ there.is_held) there.under)
          ]
        ];
      })

  nodes_same : (depth offset : ℕ) → in_closure (n + length more) (has now.held) depth offset ≡ true
      → values_of now.nodes depth offset ≡ joined (with_blocks n m.node more) depth offset
  nodes_same depth offset test =
      let values = grown n m.node more in
      let are : AreNodes values (made_with n (length more)) batch.nodes =
      subst (λ (b : ℕ). AreNodes (grown b m.node more) (made_with b (length more)) batch.nodes) takes.base takes.has_blocks.nodes in
      takes.nodes depth offset ∙ (elim (cases_lt n (end_block_of depth offset)) [
        | inr before ↦
            let old : values_of parts.nodes depth offset ≡ m.node depth offset = rw (was_in_closure depth offset test before) refl in
            let below : joined (with_blocks n m.node more) depth offset ≡ m.node depth offset =
            joined_below n m.node (with_blocks n m.node more) sound.pairs (λ d o within. rw (le-leb (end_block_of d o) n within) refl) depth offset before in
            put_keeps (made_with n (length more)) batch.nodes values (values_of parts.nodes) depth offset are (old ∙ sym below)
        | inl behind ↦
            let within = (true_closure (n + length more) (has now.held) depth offset test).within in
            put_has (made_with n (length more)) batch.nodes values (values_of parts.nodes) depth offset are
            (made_with-has n (length more) depth offset takes.few behind within)
      ])

  pub append_shows : shown now ≡ append_content more now.head.signature m
  append_shows =
      shown_on now now_fit
      ∙ ap (λ (f : ℕ). content_on f now.head.length now.head.signature (shown now).block (values_of now.nodes)) takes.fork
      ∙ ap (λ (k : ℕ). content_on parts.head.fork k now.head.signature (shown now).block (values_of now.nodes)) takes.length_is
      ∙ same_content parts.head.fork (n + length more) now.head.signature (shown now).block (blocks_with n more m.block) (values_of now.nodes)
      (joined (with_blocks n m.node more)) blocks_same
      (λ depth offset test. nodes_same depth offset (subst (λ (set : ℕ → Bool). in_closure (n + length more) set depth offset ≡ true)
      (fun_ext (shown_held now now_fit)) test))

-- ---- fewer blocks, of a log that may be shorter

-- a value that is stored is the one on hand
pub on_hand : (n : ℕ) (set : ℕ → Bool) (value : Values) (depth offset : ℕ) → is_some (closed_on n set value depth offset) ≡ true
    → closed_on n set value depth offset ≡ value depth offset
on_hand n set value depth offset some = elim (cases_Bool (in_closure n set depth offset)) [
  | inl test ↦ rw test refl
  | inr past ↦ let none : is_some (closed_on n set value depth offset) ≡ false = rw past refl in cc
]

-- the parts keep some blocks and the nodes for them
pub record KeepsPart (parts now : Parts) (fork n : ℕ) (block : Blocks) : Type 0 where
  pub fork_is : now.head.fork ≡ fork
  pub length_is : now.head.length ≡ n
  pub fit : FitParts now
  pub blocks : (index : ℕ) → (shown now).block index ≡ block index
  pub nodes : (depth offset : ℕ) → in_closure n (has now.held) depth offset ≡ true → values_of now.nodes depth offset ≡ values_of parts.nodes depth offset

pub part_shows : (parts now : Parts) (fork n : ℕ) (block : Blocks) → KeepsPart parts now fork n block
    → IsSound (content_on fork n now.head.signature block (shown parts).node)
    → shown now ≡ content_on fork n now.head.signature block (shown parts).node
part_shows parts now fork n block keeps sound =
    shown_on now keeps.fit
    ∙ ap (λ (f : ℕ). content_on f now.head.length now.head.signature (shown now).block (values_of now.nodes)) keeps.fork_is
    ∙ ap (λ (k : ℕ). content_on fork k now.head.signature (shown now).block (values_of now.nodes)) keeps.length_is
    ∙ same_content fork n now.head.signature (shown now).block block (values_of now.nodes) (shown parts).node keeps.blocks nodes
  where
    nodes : (depth offset : ℕ) → in_closure n (holds (shown now).block) depth offset ≡ true → values_of now.nodes depth offset ≡ (shown parts).node depth offset
    nodes depth offset test =
        let place : in_closure n (has now.held) depth offset ≡ true =
        subst (λ (set : ℕ → Bool). in_closure n set depth offset ≡ true) (fun_ext (shown_held now keeps.fit)) test in
        let under : in_closure n (holds block) depth offset ≡ true =
        subst (λ (b : Blocks). in_closure n (holds b) depth offset ≡ true) (fun_ext keeps.blocks) test in
        let whole : is_some (closed_on n (holds block) (shown parts).node depth offset) ≡ true = sound.closed depth offset ∙ under in
        let some : is_some ((shown parts).node depth offset) ≡ true = ap is_some (sym (on_hand n (holds block) (shown parts).node depth offset whole)) ∙ whole in
        keeps.nodes depth offset place ∙ sym (on_hand parts.head.length (has parts.held) (values_of parts.nodes) depth offset some)

get_taken : (xs : List (List ℕ)) (to index : ℕ) → index < to → slice_get (take to xs) index ≡ slice_get xs index
get_taken [] (suc to) index less = refl
get_taken (x ∷ xs) (suc to) zero less = refl
get_taken (x ∷ xs) (suc to) (suc index) less = get_taken xs to index (omega (arith, less))
get_taken xs zero index less = absurd (omega (arith, less))

-- places cut at an end show the blocks below it
pub blocks_cut : (parts now : Parts) (to : ℕ) → ((index : ℕ) → has now.held index ≡ (has parts.held index && nat_lt index to))
    → now.blocks ≡ take to parts.blocks → (index : ℕ) → (shown now).block index ≡ blocks_below to (shown parts).block index
blocks_cut parts now to places taken index = elim (cases_lt index to) [
  | inl less ↦
      let here : has now.held index ≡ has parts.held index = places index ∙ rw (lt-ltb index to less) (and-true (has parts.held index)) in
      let same : slice_get now.blocks index ≡ slice_get parts.blocks index =
      ap (λ (bs : List (List ℕ)). slice_get bs index) taken ∙ get_taken parts.blocks to index less in
      rw (here, same, lt-ltb index to less) refl
  | inr past ↦
      let none : has now.held index ≡ false = places index ∙ rw (le-ltb index to past) (and-false (has parts.held index)) in
      rw (none, le-ltb index to past) refl
]

-- places without a range show the blocks outside it
pub blocks_given_up : (parts now : Parts) (from to : ℕ) → ((index : ℕ) → has now.held index ≡ (has parts.held index && not (is_between from to index)))
    → ((index : ℕ) → has now.held index ≡ true → slice_get now.blocks index ≡ slice_get parts.blocks index)
    → (index : ℕ) → (shown now).block index ≡ blocks_without from to (shown parts).block index
blocks_given_up parts now from to places same index = elim (cases_Bool (is_between from to index)) [
  | inl given_up ↦
      let none : has now.held index ≡ false = places index ∙ rw given_up (and-false (has parts.held index)) in
      rw (none, given_up) refl
  | inr kept ↦
      let here : has now.held index ≡ has parts.held index = places index ∙ rw kept (and-true (has parts.held index)) in
      rw (here, kept) (either here)
]
  where
    either : has now.held index ≡ has parts.held index
        → (if has parts.held index then slice_get now.blocks index else None) ≡ (if has parts.held index then slice_get parts.blocks index else None)
    either here = elim (cases_Bool (has parts.held index)) [
      | inl held ↦ rw held (same index (here ∙ held))
      | inr none ↦ rw none refl
    ]
