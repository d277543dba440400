-- The entry that is read is in its ranges, whatever it was read from.
use Rattle.std.proofs.Common.{Bool, true, false, ◌≡◌, ℕ, zero, suc, ◌^◌, ◌-◌, ◌≤◌, eqb, leb, ltb, List, [], ◌∷◌, length, Result, Ok, Err, ap, subst}
use Rattle.std.proofs.lemmas.Bool.{leb-true, ltb-false}
use Rattle.std.proofs.lemmas.List.{length-take-le}
use Rattle.std.specs.Prelude.{IfOk, ⊤}
use Rattle.std.specs.Int.{Width, w16, w32, w64, byte_len, from_le_bytes}
use Rattle.std.specs.List.{AllByRecursion}
use Rattle.flat_tree.specs.declared.limits.TheConstants.{MAX_BLOCKS, MAX_FORK, MAX_CORE_BYTES}
use Rattle.commit_book.specs.declared.commit.Commit.{Commit}
use Rattle.commit_book.specs.declared.commit.Commit.TheVariants.{Append, Truncate, Clear, Fetch, Upgrade, UpgradeFetch, Reorg, ReorgFetch}
use Rattle.merkle_nodes.specs.Bundle.{TwigFits}
use Rattle.compact_enc.specs.declared.marks.TheConstants.{MARK_U16, MARK_U32, LEAST_U16, LEAST_U32, LEAST_U64}
use Rattle.compact_enc.specs.declared.fields.EncFault.{EncFault}
use Rattle.compact_enc.specs.Reading.{bytes_at, checked, wide_at, uint_at}
use Rattle.compact_enc.specs.Input.{Input, uint_of, fixed_of}
use Rattle.compact_enc.proofs.Steps.{if_read, if_test, if_passed, if_chosen}
use Rattle.oplog_form.specs.declared.form.BadForm.{BadForm}
use Rattle.oplog_form.specs.declared.entry.Entry.{Entry}
use Rattle.oplog_form.specs.declared.commit.TheConstants.{APPEND, TRUNCATE, CLEAR, FETCH, UPGRADE, UPGRADE_FETCH, REORG, REORG_FETCH, MAX_NUMBER}
use Rattle.oplog_form.specs.Form.{Read, in_form, number_of, fixed_in, both_of, unread}
use Rattle.oplog_form.specs.Heads.{HeadFits, head_in}
use Rattle.oplog_form.specs.Nodes.{RecordFits, Rise, twig_in, index_in, record_in, rising_in, records_in}
use Rattle.oplog_form.specs.Commits.{PairFits, CommitFits, small_of, pair_of, made, numbers_in, commit_in}
use Rattle.oplog_form.specs.Entries.{EntryFits, entry_in, entry_of}
use Rattle.oplog_file.specs.Slots.{in_area}

-- what is read is in its range
abbrev ReadsFit : {A : Type 0} → (Input → Read A) → (A → Type 0) → Type 0
ReadsFit read Fits = (input : Input) → IfOk (read input) (λ x. Fits x.0)

-- ---- fields

if_any : {A E : Type 0} (r : Result A E) → IfOk r (λ x. ⊤)
if_any (Ok x) = tt
if_any (Err fault) = tt

if_in_form : {A : Type 0} (r : Result A EncFault) (P : A → Type 0) → IfOk r P → IfOk (in_form r) P
if_in_form (Ok x) P p = p
if_in_form (Err fault) P p = tt

checked_fits : (least max at n : ℕ) → IfOk (checked least max at n) (λ m. m ≤ max)
checked_fits least max at n = if_passed (ltb n least) _ _ _ (λ long. if_passed (ltb max n) (Ok n) _ _ (λ few. ltb-false _ _ few))

wide_fits : (w : Width) (least max at : ℕ) (bytes : List ℕ) → IfOk (wide_at w least max at bytes) (λ x. x.0 ≤ max)
unfolding wide_at
wide_fits w least max at bytes =
    if_read (bytes_at (byte_len w) at bytes) _ _ _ (if_any (bytes_at (byte_len w) at bytes)) (λ digits any.
    if_read (checked least max at (from_le_bytes w digits.0)) _ _ _ (checked_fits least max at (from_le_bytes w digits.0)) (λ n p. p))

uint_fits : (max at : ℕ) (bytes : List ℕ) → IfOk (uint_at max at bytes) (λ x. x.0 ≤ max)
unfolding uint_at
uint_fits max at [] = tt
uint_fits max at (mark ∷ bytes) =
    if_chosen (ltb mark MARK_U16) _ _ _ (λ is. if_read (checked 0 max at mark) _ _ _ (checked_fits 0 max at mark) (λ n p. p)) (λ not_one.
    if_chosen (eqb mark MARK_U16) _ _ _ (λ is. wide_fits w16 LEAST_U16 max at bytes) (λ not_two.
    if_chosen (eqb mark MARK_U32) _ _ _ (λ is. wide_fits w32 LEAST_U32 max at bytes) (λ not_four. wide_fits w64 LEAST_U64 max at bytes)))

number_fits : (max : ℕ) → ReadsFit (number_of max) (λ n. n ≤ max)
number_fits max input =
    if_in_form (uint_of max input) _ (if_read (uint_at max input.place input.rest) _ (λ x. x.0 ≤ max) _ (uint_fits max input.place input.rest) (λ x p. p))

bytes_fit : (count at : ℕ) (bytes : List ℕ) → IfOk (bytes_at count at bytes) (λ x. length x.0 ≡ count)
unfolding bytes_at
bytes_fit count at bytes = if_test (leb count (length bytes)) _ _ _ (λ enough. length-take-le count bytes (leb-true _ _ enough))

fixed_fits : (count : ℕ) → ReadsFit (fixed_in count) (λ bytes. length bytes ≡ count)
fixed_fits count input =
    if_in_form (fixed_of count input) _ (if_read (bytes_at count input.place input.rest) _ (λ x. length x.0 ≡ count) _ (bytes_fit count input.place input.rest) (λ x p. p))

both_fit : {A B : Type 0} (one : Input → Read A) (other : Input → Read B) (F : A → Type 0) (G : B → Type 0)
    → ReadsFit one F → ReadsFit other G → ReadsFit (both_of one other) (λ x. F x.0 × G x.1)
unfolding both_of
both_fit one other F G first second input =
    if_read (one input) _ (λ x. F x.0) _ (first input) (λ a p. if_read (other a.1) _ (λ x. G x.0) _ (second a.1) (λ b q. (p, q)))

-- ---- an entry's parts

small_fits : ReadsFit small_of (λ n. n ≤ MAX_NUMBER)
small_fits = number_fits MAX_NUMBER

pair_fits : ReadsFit pair_of (λ x. PairFits x.0 x.1)
pair_fits = both_fit small_of small_of _ _ small_fits small_fits

made_fits : {A : Type 0} (commit : A → Commit) (read : Input → Read A) (Fits : A → Type 0) → ReadsFit read Fits → ((x : A) → Fits x → CommitFits (commit x))
    → (input : Input) → IfOk (made commit (read input)) (λ x. CommitFits x.0)
made_fits commit read Fits fit is input = if_read (read input) _ (λ x. Fits x.0) _ (fit input) (λ x p. is x.0 p)

numbers_fit : (kind : ℕ) → ReadsFit (numbers_in kind) CommitFits
unfolding numbers_in
numbers_fit kind input =
    let two : (commit : ℕ → ℕ → Commit) → ((m n : ℕ) → PairFits m n → CommitFits (commit m n)) → IfOk (made (λ x. commit x.0 x.1) (pair_of input)) (λ x. CommitFits x.0) =
    λ commit is. made_fits (λ x. commit x.0 x.1) pair_of (λ x. PairFits x.0 x.1) pair_fits (λ x f. is x.0 x.1 f) input in
    if_chosen (eqb kind APPEND) _ _ _ (λ k. made_fits Append small_of _ small_fits (λ n f. f) input) (λ a.
    if_chosen (eqb kind TRUNCATE) _ _ _ (λ k. two (λ m n. Truncate m n) (λ m n f. f)) (λ b.
    if_chosen (eqb kind CLEAR) _ _ _ (λ k. two (λ m n. Clear m n) (λ m n f. f)) (λ c.
    if_chosen (eqb kind FETCH) _ _ _ (λ k. made_fits Fetch small_of _ small_fits (λ n f. f) input) (λ d.
    if_chosen (eqb kind UPGRADE) _ _ _ (λ k. made_fits Upgrade small_of _ small_fits (λ n f. f) input) (λ e.
    if_chosen (eqb kind UPGRADE_FETCH) _ _ _ (λ k. two (λ m n. UpgradeFetch m n) (λ m n f. f)) (λ g.
    if_chosen (eqb kind REORG) _ _ _
    (λ k. made_fits (λ x. Reorg x.0 x.1.0 x.1.1) (both_of small_of pair_of) (λ x. (x.0 ≤ MAX_NUMBER) × PairFits x.1.0 x.1.1) (both_fit small_of pair_of _ _ small_fits pair_fits) (λ x f. f) input)
    (λ h. made_fits (λ x. ReorgFetch x.0.0 x.0.1 x.1.0 x.1.1) (both_of pair_of pair_of) (λ x. PairFits x.0.0 x.0.1 × PairFits x.1.0 x.1.1) (both_fit pair_of pair_of _ _ pair_fits pair_fits) (λ x f. f) input)))))))

commit_fits : ReadsFit commit_in CommitFits
unfolding commit_in
commit_fits input = if_read (number_of REORG_FETCH input) _ _ _ (if_any (number_of REORG_FETCH input)) (λ kind any. numbers_fit kind.0 kind.1)

head_fits : ReadsFit head_in HeadFits
unfolding head_in
head_fits input =
    if_read (number_of MAX_FORK input) _ _ _ (number_fits MAX_FORK input) (λ fork f.
    if_read (number_of MAX_BLOCKS fork.1) _ _ _ (number_fits MAX_BLOCKS fork.1) (λ blocks b.
    if_read (fixed_in 64 blocks.1) _ _ _ (fixed_fits 64 blocks.1) (λ signature s. record { fork = f; few = b; signature = s })))

twig_fits : ReadsFit twig_in TwigFits
unfolding twig_in
twig_fits input =
    if_read (number_of MAX_CORE_BYTES input) _ _ _ (number_fits MAX_CORE_BYTES input) (λ size s.
    if_read (fixed_in 32 size.1) _ _ _ (fixed_fits 32 size.1) (λ hash h. record { size = s; hash = h }))

record_fits : (least : ℕ) → ReadsFit (record_in least) (λ node. (least ≤ node.index) × RecordFits node)
unfolding record_in index_in
record_fits least input =
    if_read (index_in least input) _ (λ x. (least ≤ x.0) × (x.0 ≤ MAX_NUMBER)) _
    (if_read (number_of MAX_NUMBER input) _ _ _ (number_fits MAX_NUMBER input) (λ index i. if_test (leb least index.0) index _ _ (λ above. (leb-true _ _ above, i)))) (λ index i.
    if_read (twig_in index.1) _ _ _ (twig_fits index.1) (λ twig t. (i.0, record { index = i.1; twig = record { size = t.size; hash = t.hash } })))

rising_fit : (count least : ℕ) → ReadsFit (rising_in count least) (λ nodes. AllByRecursion RecordFits nodes × Rise least nodes)
unfolding rising_in
rising_fit zero least input = (tt, tt)
rising_fit (suc count) least input =
    if_read (record_in least input) _ _ _ (record_fits least input) (λ node n.
    if_read (rising_in count (suc node.0.index) node.1) _ _ _ (rising_fit count (suc node.0.index) node.1) (λ others o. ((n.1, o.0), (n.0, o.1))))

records_fit : ReadsFit records_in (λ nodes. AllByRecursion RecordFits nodes × Rise 0 nodes)
unfolding records_in
records_fit input = if_read (number_of (2 ^ 64 - 1) input) _ _ _ (if_any (number_of (2 ^ 64 - 1) input)) (λ count any. rising_fit count.0 0 count.1)

-- ---- an entry

entry_in_fits : ReadsFit entry_in EntryFits
unfolding entry_in
entry_in_fits input =
    if_read (commit_in input) _ _ _ (commit_fits input) (λ commit c.
    if_read (head_in commit.1) _ _ _ (head_fits commit.1) (λ head h.
    if_read (records_in head.1) _ _ _ (records_fit head.1) (λ records r. record { commit = c; head = h; records = r.0; order = r.1 })))

entry_of_fits : (bytes : List ℕ) → IfOk (entry_of bytes) EntryFits
entry_of_fits bytes =
    if_read (entry_in (unread bytes)) _ _ _ (entry_in_fits (unread bytes)) (λ x p. if_passed (ltb 0 (length x.1.rest)) (Ok x.0) _ _ (λ none. p))

abbrev entry_or : Entry → Result Entry ℕ → Entry
entry_or e (Ok x) = x
entry_or e (Err at) = e

abbrev has_entry : Result Entry ℕ → Bool
has_entry (Ok x) = true
has_entry (Err at) = false

in_area_fits : (place : ℕ) (r : Result Entry BadForm) (e : Entry) → IfOk r EntryFits → in_area place r ≡ Ok e → EntryFits e
in_area_fits place (Ok x) e fits is = subst EntryFits (ap (entry_or e) is) fits
in_area_fits place (Err bad) e fits is = let clash : false ≡ true = ap has_entry is in cc

-- the entry of a frame's payload
pub read_fits : (place : ℕ) (payload : List ℕ) (e : Entry) → in_area place (entry_of payload) ≡ Ok e → EntryFits e
read_fits place payload e is = in_area_fits place (entry_of payload) e (entry_of_fits payload) is
