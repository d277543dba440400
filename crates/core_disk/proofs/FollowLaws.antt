-- The test of whether an entry follows says when it does.
use Rattle.std.proofs.Common.{◌≡◌, ℕ, zero, suc, ◌+◌, ◌-◌, ◌<◌, ◌≤◌, Bool, true, false, List, [], ◌∷◌, refl, ap, ◌∙◌, arith, inl, inr, nat_le, nat_lt, nat_eq}
use Rattle.std.specs.Prelude.{not, is_some, ◌&&◌}
use Rattle.std.specs.List.{AllByRecursion}
use Rattle.std.proofs.lemmas.Bool.{cases_Bool, cases_eq, and_parts, or_cases, not-true, le-leb, lt-ltb, leb-true, ltb-true, eq-eqb, ne_eqb}
use Rattle.flat_tree.specs.Subtrees.{Subtree}
use Rattle.flat_tree.specs.Roots.{full_roots_of}
use Rattle.commit_book.specs.declared.commit.Commit.{Commit}
use Rattle.commit_book.specs.declared.commit.Commit.TheVariants.{Append, Truncate, Clear, Fetch, Upgrade, UpgradeFetch, Reorg, ReorgFetch}
use Rattle.commit_book.specs.History.{Summary, Limits, IsInRange, MayUpgrade, MayFetch, MayReorganise, changed, upgraded, reorganised}
use Rattle.merkle_nodes.specs.Joined.{Values}
use Rattle.oplog_form.specs.declared.entry.Entry.{Entry}
use Rattle.node_set.specs.Legal.{core_limits}
use Rattle.core_disk.specs.Opened.{Opened, short_of, known_after}
use Rattle.core_disk.specs.Following.{Follows, follows, any_from, may_upgrade, may_fetch, may_reorganise, is_in_range, are_known, has_numbers}

-- both hold
pub both : (one other : Bool) → one ≡ true → other ≡ true → (one && other) ≡ true
both one other here there = rw here there

-- the number equals
pub eqb-true : (a b : ℕ) → nat_eq a b ≡ true → a ≡ b
eqb-true a b test = elim (cases_eq a b) [
  | inl same ↦ same
  | inr other ↦ let no : nat_eq a b ≡ false = ne_eqb a b other in cc
]

-- three hold where the test of all does
three_parts : (one other last : Bool) → (one && other && last) ≡ true → (one ≡ true) × (other ≡ true) × (last ≡ true)
three_parts one other last all =
    let outer = and_parts (one && other) last all in
    let inner = and_parts one other outer.0 in
    (inner.0, inner.1, outer.1)

-- ---- some held block

pub any_holds : (count : ℕ) (held : ℕ → Bool) (from : ℕ) → any_from count held from ≡ true
    → (index : ℕ) × ((from ≤ index) × ((index < from + count) × (held index ≡ true)))
unfolding any_from
any_holds zero held from any = cc
any_holds (suc count) held from any = elim (or_cases (held from) (any_from count held (suc from)) any) [
  | inl here ↦ (from, (omega arith, (omega arith, here)))
  | inr later ↦
      let found = any_holds count held (suc from) later in
      (found.0, (omega (arith, found.1.0), (omega (arith, found.1.1.0), found.1.1.1)))
]

pub holds_any : (count : ℕ) (held : ℕ → Bool) (from index : ℕ) → from ≤ index → index < from + count → held index ≡ true → any_from count held from ≡ true
unfolding any_from
holds_any zero held from index after before here = absurd (omega (arith, after, before))
holds_any (suc count) held from index after before here = elim (cases_eq from index) [
  | inl same ↦ let there : held from ≡ true = ap held same ∙ here in rw there refl
  | inr other ↦ elim (cases_Bool (held from)) [
    | inl first ↦ rw first refl
    | inr none ↦ rw none (holds_any count held (suc from) index (omega (arith, after, other)) (omega (arith, before)) here)
  ]
]

-- ---- commits in range

upgrade_words : (limits : Limits) (to : ℕ) (s : Summary) → may_upgrade limits to s ≡ true → MayUpgrade limits to s
upgrade_words limits to s test =
    let parts = and_parts (nat_lt s.length to) (nat_le to limits.blocks) test in
    (ltb-true s.length to parts.0, leb-true to limits.blocks parts.1)

upgrade_test : (limits : Limits) (to : ℕ) (s : Summary) → MayUpgrade limits to s → may_upgrade limits to s ≡ true
upgrade_test limits to s may = both (nat_lt s.length to) (nat_le to limits.blocks) (lt-ltb s.length to may.0) (le-leb to limits.blocks may.1)

fetch_words : (index : ℕ) (s : Summary) → may_fetch index s ≡ true → MayFetch index s
fetch_words index s test =
    let parts = and_parts (nat_lt index s.length) (not (s.held index)) test in
    (ltb-true index s.length parts.0, not-true (s.held index) parts.1)

fetch_test : (index : ℕ) (s : Summary) → MayFetch index s → may_fetch index s ≡ true
fetch_test index s may = both (nat_lt index s.length) (not (s.held index)) (lt-ltb index s.length may.0) (ap not may.1)

reorganise_words : (limits : Limits) (fork to kept : ℕ) (s : Summary) → may_reorganise limits fork to kept s ≡ true → MayReorganise limits fork to kept s
reorganise_words limits fork to kept s test =
    let last = three_parts (nat_lt s.fork fork && nat_le fork limits.fork && nat_le to limits.blocks) (nat_le kept s.length) (nat_le kept to) test in
    let first = three_parts (nat_lt s.fork fork) (nat_le fork limits.fork) (nat_le to limits.blocks) last.0 in
    (ltb-true s.fork fork first.0, leb-true fork limits.fork first.1, leb-true to limits.blocks first.2, leb-true kept s.length last.1, leb-true kept to last.2)

reorganise_test : (limits : Limits) (fork to kept : ℕ) (s : Summary) → MayReorganise limits fork to kept s → may_reorganise limits fork to kept s ≡ true
reorganise_test limits fork to kept s may =
    rw (lt-ltb s.fork fork may.0, le-leb fork limits.fork may.1, le-leb to limits.blocks may.2, le-leb kept s.length may.3, le-leb kept to may.4) refl

pub range_words : (limits : Limits) (commit : Commit) (s : Summary) → is_in_range limits commit s ≡ true → IsInRange limits commit s
range_words limits (Append count) s test =
    let parts = and_parts (nat_le 1 count) (nat_le (s.length + count) limits.blocks) test in
    (leb-true 1 count parts.0, leb-true (s.length + count) limits.blocks parts.1)
range_words limits (Truncate to fork) s test =
    let parts = three_parts (nat_le to s.length) (nat_lt s.fork fork) (nat_le fork limits.fork) test in
    (leb-true to s.length parts.0, ltb-true s.fork fork parts.1, leb-true fork limits.fork parts.2)
range_words limits (Clear from to) s test =
    let parts = three_parts (nat_le from to) (nat_le to s.length) (any_from (to - from) s.held from) test in
    let ordered = leb-true from to parts.0 in
    let found = any_holds (to - from) s.held from parts.2 in
    (ordered, leb-true to s.length parts.1, (found.0, found.1.0, omega (arith, ordered, found.1.1.0), found.1.1.1))
range_words limits (Fetch index) s test = fetch_words index s test
range_words limits (Upgrade to) s test = upgrade_words limits to s test
range_words limits (UpgradeFetch to index) s test =
    let parts = and_parts (may_upgrade limits to s) (may_fetch index (upgraded to s)) test in
    (upgrade_words limits to s parts.0, fetch_words index (upgraded to s) parts.1)
range_words limits (Reorg fork to kept) s test = reorganise_words limits fork to kept s test
range_words limits (ReorgFetch fork to kept index) s test =
    let parts = and_parts (may_reorganise limits fork to kept s) (may_fetch index (reorganised fork to kept s)) test in
    (reorganise_words limits fork to kept s parts.0, fetch_words index (reorganised fork to kept s) parts.1)

pub range_test : (limits : Limits) (commit : Commit) (s : Summary) → IsInRange limits commit s → is_in_range limits commit s ≡ true
range_test limits (Append count) s in_range =
    both (nat_le 1 count) (nat_le (s.length + count) limits.blocks) (le-leb 1 count in_range.0) (le-leb (s.length + count) limits.blocks in_range.1)
range_test limits (Truncate to fork) s in_range =
    rw (le-leb to s.length in_range.0, lt-ltb s.fork fork in_range.1, le-leb fork limits.fork in_range.2) refl
range_test limits (Clear from to) s in_range =
    let some = in_range.2 in
    let any = holds_any (to - from) s.held from some.0 some.1 (omega (arith, in_range.0, some.2)) some.3 in
    rw (le-leb from to in_range.0, le-leb to s.length in_range.1, any) refl
range_test limits (Fetch index) s in_range = fetch_test index s in_range
range_test limits (Upgrade to) s in_range = upgrade_test limits to s in_range
range_test limits (UpgradeFetch to index) s in_range =
    both (may_upgrade limits to s) (may_fetch index (upgraded to s)) (upgrade_test limits to s in_range.0) (fetch_test index (upgraded to s) in_range.1)
range_test limits (Reorg fork to kept) s in_range = reorganise_test limits fork to kept s in_range
range_test limits (ReorgFetch fork to kept index) s in_range =
    both (may_reorganise limits fork to kept s) (may_fetch index (reorganised fork to kept s)) (reorganise_test limits fork to kept s in_range.0)
    (fetch_test index (reorganised fork to kept s) in_range.1)

-- ---- roots that are known

pub known_words : (value : Values) (trees : List Subtree) → are_known value trees ≡ true
    → AllByRecursion (λ (tree : Subtree). is_some (value tree.depth tree.offset) ≡ true) trees
known_words value [] test = tt
known_words value (tree ∷ trees) test =
    let parts = and_parts (is_some (value tree.depth tree.offset)) (are_known value trees) test in
    (parts.0, known_words value trees parts.1)

pub known_test : (value : Values) (trees : List Subtree) → AllByRecursion (λ (tree : Subtree). is_some (value tree.depth tree.offset) ≡ true) trees
    → are_known value trees ≡ true
known_test value [] all = refl
known_test value (tree ∷ trees) all = both (is_some (value tree.depth tree.offset)) (are_known value trees) all.0 (known_test value trees all.1)

-- ---- the entry

pub follows_words : (o : Opened) (e : Entry) → follows o e ≡ true → Follows o e
follows_words o e test =
    let s = changed e.commit (short_of o) in
    let parts = three_parts (is_in_range core_limits e.commit (short_of o)) (has_numbers e s) (are_known (known_after o e) (full_roots_of e.head.length)) test in
    let numbers = and_parts (nat_eq e.head.fork s.fork) (nat_eq e.head.length s.length) parts.1 in
    record {
      in_range = range_words core_limits e.commit (short_of o) parts.0;
      fork = eqb-true e.head.fork s.fork numbers.0;
      length = eqb-true e.head.length s.length numbers.1;
      roots = known_words (known_after o e) (full_roots_of e.head.length) parts.2;
    }

pub follows_test : (o : Opened) (e : Entry) → Follows o e → follows o e ≡ true
follows_test o e on =
    let s = changed e.commit (short_of o) in
    let numbers = both (nat_eq e.head.fork s.fork) (nat_eq e.head.length s.length) (eq-eqb e.head.fork s.fork on.fork) (eq-eqb e.head.length s.length on.length) in
    let roots = known_test (known_after o e) (full_roots_of e.head.length) on.roots in
    both (is_in_range core_limits e.commit (short_of o) && has_numbers e s) (are_known (known_after o e) (full_roots_of e.head.length))
    (both (is_in_range core_limits e.commit (short_of o)) (has_numbers e s) (range_test core_limits e.commit (short_of o) on.in_range) numbers) roots
