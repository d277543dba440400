-- What an entry that is applied makes of what is in memory.
use Rattle.std.proofs.Common.{◌≡◌, ℕ, ◌+◌, ◌<◌, ◌≤◌, Bool, true, List, length, Some, refl, sym, ap, subst, ◌∙◌, arith, inl, inr, nat_le, nat_lt}
use Rattle.std.specs.Prelude.{◌||◌, not}
use Rattle.std.proofs.lemmas.Bool.{and_parts, or_cases, ltb-true}
use Rattle.flat_tree.specs.declared.limits.TheConstants.{MAX_BLOCKS}
use Rattle.bit_field.specs.Places.{has}
use Rattle.commit_book.specs.declared.commit.Commit.{Commit}
use Rattle.commit_book.specs.declared.commit.Commit.TheVariants.{Append, Truncate, Clear, Fetch, Upgrade, UpgradeFetch, Reorg, ReorgFetch}
use Rattle.commit_book.specs.History.{Summary, Limits, IsInRange, changed, is_between, below}
use Rattle.merkle_nodes.specs.declared.node.Node.{Node}
use Rattle.merkle_nodes.specs.declared.roots.Head.{Head}
use Rattle.merkle_nodes.specs.Joined.{Values}
use Rattle.merkle_nodes.specs.Roots.{HasShape}
use Rattle.oplog_form.specs.declared.entry.Entry.{Entry}
use Rattle.oplog_form.specs.Entries.{EntryFits}
use Rattle.node_set.specs.Contents.{Content, held}
use Rattle.node_set.specs.Legal.{core_limits}
use Rattle.node_set.specs.Nodes.{NodePages, values_of}
use Rattle.node_set.proofs.ClosureLemmas.{true_closure}
use Rattle.node_set.proofs.SoundLemmas.{roots_shape}
use Rattle.flat_tree.proofs.NumberLemmas.{number_below}
use Rattle.core_disk.specs.Standing.{IsOpenedAs}
use Rattle.core_disk.specs.Opened.{Opened, short_of, known_after}
use Rattle.core_disk.specs.Following.{is_in_range, has_numbers}
use Rattle.core_disk.specs.InHand.{InHand, opened_of, IsKept, Agrees, rootless, none_held, NamesPlaces, NextRoots}
use Rattle.core_disk.proofs.FollowLaws.{follows_words}

-- ---- what no commit asks of a summary: its root hash, and of its numbers, what is held

pub range_rootless : (limits : Limits) (commit : Commit) (s : Summary) → is_in_range limits commit s ≡ is_in_range limits commit (rootless s.fork s.length s.held)
range_rootless limits (Append count) s = refl
range_rootless limits (Truncate to fork) s = refl
range_rootless limits (Clear from to) s = refl
range_rootless limits (Fetch index) s = refl
range_rootless limits (Upgrade to) s = refl
range_rootless limits (UpgradeFetch to index) s = refl
range_rootless limits (Reorg fork to kept) s = refl
range_rootless limits (ReorgFetch fork to kept index) s = refl

pub numbers_rootless : (e : Entry) (commit : Commit) (s : Summary) → has_numbers e (changed commit s) ≡ has_numbers e (changed commit (rootless s.fork s.length none_held))
numbers_rootless e (Append count) s = refl
numbers_rootless e (Truncate to fork) s = refl
numbers_rootless e (Clear from to) s = refl
numbers_rootless e (Fetch index) s = refl
numbers_rootless e (Upgrade to) s = refl
numbers_rootless e (UpgradeFetch to index) s = refl
numbers_rootless e (Reorg fork to kept) s = refl
numbers_rootless e (ReorgFetch fork to kept index) s = refl

pub held_rootless : (commit : Commit) (s : Summary) (index : ℕ) → (changed commit (rootless 0 s.length s.held)).held index ≡ (changed commit s).held index
held_rootless (Append count) s index = refl
held_rootless (Truncate to fork) s index = refl
held_rootless (Clear from to) s index = refl
held_rootless (Fetch at) s index = refl
held_rootless (Upgrade to) s index = refl
held_rootless (UpgradeFetch to at) s index = refl
held_rootless (Reorg fork to kept) s index = refl
held_rootless (ReorgFetch fork to kept at) s index = refl

-- ---- a commit in range

pub names_places : (commit : Commit) (s : Summary) → s.length ≤ MAX_BLOCKS → IsInRange core_limits commit s → NamesPlaces s.length commit
names_places (Append count) s few in_range = in_range.1
names_places (Truncate to fork) s few in_range = in_range.0
names_places (Clear from to) s few in_range = (in_range.0, in_range.1)
names_places (Fetch index) s few in_range = in_range.0
names_places (Upgrade to) s few in_range = tt
names_places (UpgradeFetch to index) s few in_range = omega (arith, in_range.0.1, in_range.1.0)
names_places (Reorg fork to kept) s few in_range = in_range.3
names_places (ReorgFetch fork to kept index) s few in_range = (in_range.0.3, omega (arith, in_range.0.2, in_range.1.0))

-- what is held is below the length
abbrev IsBelow : Summary → Type 0
IsBelow s = (index : ℕ) → s.held index ≡ true → index < s.length

-- with a block that may come in
one_more : (held : ℕ → Bool) (at end : ℕ) → ((index : ℕ) → held index ≡ true → index < end) → at < end → (index : ℕ)
    → (held index || is_between at (at + 1) index) ≡ true → index < end
one_more held at end below_end less index there = elim (or_cases (held index) (is_between at (at + 1) index) there) [
  | inl was ↦ below_end index was
  | inr new ↦ omega (arith, less, ltb-true index (at + 1) (and_parts (nat_le at index) (nat_lt index (at + 1)) new).1)
]

cut_below : (held : ℕ → Bool) (kept index : ℕ) → below kept held index ≡ true → index < kept
cut_below held kept index there = ltb-true index kept (and_parts (held index) (nat_lt index kept) there).1

pub held_below : (commit : Commit) (s : Summary) → IsBelow s → IsInRange core_limits commit s → IsBelow (changed commit s)
held_below (Append count) s spare in_range index there = elim (or_cases (s.held index) (is_between s.length (s.length + count) index) there) [
  | inl was ↦ omega (arith, spare index was)
  | inr new ↦ ltb-true index (s.length + count) (and_parts (nat_le s.length index) (nat_lt index (s.length + count)) new).1
]
held_below (Truncate to fork) s spare in_range index there = cut_below s.held to index there
held_below (Clear from to) s spare in_range index there = spare index (and_parts (s.held index) (not (is_between from to index)) there).0
held_below (Fetch at) s spare in_range index there = one_more s.held at s.length spare in_range.0 index there
held_below (Upgrade to) s spare in_range index there = omega (arith, in_range.0, spare index there)
held_below (UpgradeFetch to at) s spare in_range index there =
    one_more s.held at to (λ i here. omega (arith, in_range.0.0, spare i here)) in_range.1.0 index there
held_below (Reorg fork to kept) s spare in_range index there = omega (arith, in_range.4, cut_below s.held kept index there)
held_below (ReorgFetch fork to kept at) s spare in_range index there =
    one_more (below kept s.held) at to (λ i here. omega (arith, in_range.0.4, cut_below s.held kept i here)) in_range.1.0 index there

-- ---- what is in memory

-- the same nodes in other places
pub same_agrees : (s now : InHand) (nodes : NodePages) → s ≡ now → values_of nodes ≡ values_of s.nodes → Agrees (opened_of (record s { nodes = nodes })) (opened_of now)
same_agrees s now nodes is same = record {
  head = ap (λ (h : InHand). h.head) is;
  roots = ap (λ (h : InHand). h.roots) is;
  held = λ index. ap (λ (h : InHand). has h.held index) is;
  nodes = λ depth offset less. ap (λ (value : Values). value depth offset) same ∙ ap (λ (h : InHand). values_of h.nodes depth offset) is;
}

-- an entry that follows keeps what is kept
pub put_kept : (s new : InHand) (e : Entry) → IsKept s → EntryFits e → NextRoots (opened_of s) e (Some new.roots) → new.head ≡ e.head → length new.held ≡ length s.held
    → ((index : ℕ) → has new.held index ≡ (changed e.commit (rootless 0 s.head.length (has s.held))).held index) → IsKept new
put_kept s new e kept fits next head places held =
    let on = follows_words (opened_of s) e next.0 in
    let short = short_of (opened_of s) in
    let length_is : new.head.length ≡ e.head.length = ap (λ (h : Head). h.length) head in
    record {
      blocks = omega (arith, length_is, fits.head.few);
      fork = omega (arith, ap (λ (h : Head). h.fork) head, fits.head.fork);
      shape = subst (HasShape new.roots) (sym length_is)
          (subst (λ (ns : List Node). HasShape ns e.head.length) (sym next.1) (roots_shape (known_after (opened_of s) e) e.head.length));
      sizes = next.2;
      places = places ∙ kept.places;
      spare = λ index there.
          let here = held_below e.commit short kept.spare on.in_range index (sym (held_rootless e.commit short index) ∙ sym (held index) ∙ there) in
          omega (arith, here, length_is, on.length);
    }

-- what agrees with what a content was opened as is opened as it
pub agrees_opened : (one other : Opened) (m : Content) → Agrees one other → m.length ≤ MAX_BLOCKS → IsOpenedAs other m → IsOpenedAs one m
agrees_opened one other m agrees few opened = record {
  head = agrees.head ∙ opened.head;
  roots_are = agrees.roots ∙ opened.roots_are;
  held_are = λ index. agrees.held index ∙ opened.held_are index;
  nodes = λ depth offset test.
      let within = (true_closure m.length (held m) depth offset test).within in
      agrees.nodes depth offset (omega (arith, number_below depth offset, within, few)) ∙ opened.nodes depth offset test;
}
