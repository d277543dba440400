-- A bad place of a header or an entry isn't past its end.
use Rattle.std.proofs.Common.{◌≡◌, ℕ, zero, suc, ◌+◌, ◌-◌, ◌^◌, ◌≤◌, ◌==◌, Bool, true, false, cond, List, [], ◌∷◌, length, Result, Ok, Err, refl, subst, arith, nat_le, nat_lt}
use Rattle.std.specs.Prelude.{⊤}
use Rattle.std.proofs.lemmas.List.{length-drop}
use Rattle.std.specs.Int.{Width, w16, w32, w64, byte_len}
use Rattle.compact_enc.specs.declared.fields.EncFault.{EncFault}
use Rattle.compact_enc.specs.Reading.{◌>>=◌, checked, bytes_at, wide_at, uint_at}
use Rattle.compact_enc.specs.declared.marks.TheConstants.{MARK_U16, MARK_U32, LEAST_U16, LEAST_U32, LEAST_U64}
use Rattle.compact_enc.specs.Reading as reading
use Rattle.compact_enc.specs.Input.{Input, field_of}
use Rattle.commit_book.specs.declared.commit.Commit.{Commit}
use Rattle.commit_book.specs.declared.commit.Commit.TheVariants.{Append, Truncate, Clear, Fetch, Upgrade, UpgradeFetch, Reorg, ReorgFetch}
use Rattle.oplog_form.specs.declared.commit.TheConstants.{APPEND, TRUNCATE, CLEAR, FETCH, UPGRADE, UPGRADE_FETCH, REORG, MAX_NUMBER}
use Rattle.oplog_form.specs.declared.form.BadForm.{BadForm}
use Rattle.oplog_form.specs.Form.{Read, bad_of, in_form, number_of, fixed_in, just_of, both_of, unread, alone}
use Rattle.oplog_form.specs.Heads.{head_in}
use Rattle.oplog_form.specs.Nodes.{twig_in, nodes_in, roots_in, index_in, record_in, rising_in, records_in}
use Rattle.oplog_form.specs.Headers.{header_in, header_of}
use Rattle.oplog_form.specs.Commits.{small_of, pair_of, made, numbers_in, commit_in}
use Rattle.oplog_form.specs.Entries.{entry_in, entry_of}

-- ---- one field: a fault is where it begins, and it leaves no more than there was

abbrev Field : {A : Type 0} → ℕ → List ℕ → reading.Read A → Type 0
Field at bytes (Ok x) = length x.1 ≤ length bytes
Field at bytes (Err fault) = (bad_of fault).at ≡ at

abbrev FaultAt : {A : Type 0} → ℕ → Result A EncFault → Type 0
FaultAt at (Ok x) = ⊤
FaultAt at (Err fault) = (bad_of fault).at ≡ at

field_if : {A : Type 0} (b : Bool) (at : ℕ) (bytes : List ℕ) (r s : reading.Read A) → Field at bytes r → Field at bytes s → Field at bytes (cond b r s)
field_if true at bytes r s one other = one
field_if false at bytes r s one other = other

field_then : {A B : Type 0} (at : ℕ) (bytes : List ℕ) (r : reading.Read A) (f : A × List ℕ → reading.Read B) → Field at bytes r → ((x : A × List ℕ) → length x.1 ≤ length bytes → Field at bytes (f x)) → Field at bytes (r >>= f)
field_then at bytes (Ok x) f here next = next x here
field_then at bytes (Err fault) f here next = here

fault_if : {A : Type 0} (b : Bool) (at : ℕ) (r s : Result A EncFault) → FaultAt at r → FaultAt at s → FaultAt at (cond b r s)
fault_if true at r s one other = one
fault_if false at r s one other = other

checked_at : (least max at n : ℕ) → FaultAt at (checked least max at n)
checked_at least max at n = fault_if (nat_lt n least) at _ _ refl (fault_if (nat_lt max n) at _ _ refl tt)

field_checked : (at : ℕ) (bytes rest : List ℕ) (r : Result ℕ EncFault) → FaultAt at r → length rest ≤ length bytes → Field at bytes (r >>= λ number. Ok (number, rest))
field_checked at bytes rest (Ok n) here few = few
field_checked at bytes rest (Err fault) here few = here

bytes_field : (count at : ℕ) (bytes : List ℕ) → Field at bytes (bytes_at count at bytes)
unfolding bytes_at
bytes_field count at bytes = field_if (nat_le count (length bytes)) at bytes _ _ (omega (arith, length-drop count bytes)) refl

wide_field : (w : Width) (least max at : ℕ) (bytes : List ℕ) → Field at bytes (wide_at w least max at bytes)
unfolding wide_at
wide_field w least max at bytes = field_then at bytes (bytes_at (byte_len w) at bytes) _ (bytes_field (byte_len w) at bytes) (λ digits few. field_checked at bytes digits.1 _ (checked_at least max at _) few)

field_more : {A : Type 0} (at mark : ℕ) (bytes : List ℕ) (r : reading.Read A) → Field at bytes r → Field at (mark ∷ bytes) r
field_more at mark bytes (Ok x) here = omega (arith, here)
field_more at mark bytes (Err fault) here = here

uint_field : (max at : ℕ) (bytes : List ℕ) → Field at bytes (uint_at max at bytes)
unfolding uint_at
uint_field max at [] = refl
uint_field max at (mark ∷ bytes) =
    let eight = wide_at w64 LEAST_U64 max at bytes in
    let four = cond (mark == MARK_U32) (wide_at w32 LEAST_U32 max at bytes) eight in
    let two = cond (mark == MARK_U16) (wide_at w16 LEAST_U16 max at bytes) four in
    let one : reading.Read ℕ = checked 0 max at mark >>= λ number. Ok (number, bytes) in
    let of_four = field_if (mark == MARK_U32) at bytes (wide_at w32 LEAST_U32 max at bytes) eight (wide_field w32 LEAST_U32 max at bytes) (wide_field w64 LEAST_U64 max at bytes) in
    let of_two = field_if (mark == MARK_U16) at bytes (wide_at w16 LEAST_U16 max at bytes) four (wide_field w16 LEAST_U16 max at bytes) of_four in
    field_more at mark bytes (cond (nat_lt mark MARK_U16) one two) (field_if (nat_lt mark MARK_U16) at bytes one two (field_checked at bytes bytes (checked 0 max at mark) (checked_at 0 max at mark) (omega arith)) of_two)

-- ---- several fields

-- an input ends here at the latest
abbrev EndsBy : ℕ → Input → Type 0
EndsBy end input = input.place + length input.rest ≤ end

-- a fault's place is here at the latest, and what is left ends so
abbrev Within : {A : Type 0} → ℕ → Read A → Type 0
Within end (Ok x) = EndsBy end x.1
Within end (Err bad) = bad.at ≤ end

within_then : {A B : Type 0} (end : ℕ) (r : Read A) (f : A × Input → Read B) → Within end r → ((x : A × Input) → EndsBy end x.1 → Within end (f x)) → Within end (r >>= f)
within_then end (Ok x) f here next = next x here
within_then end (Err bad) f here next = here

within_if : {A : Type 0} (b : Bool) (end : ℕ) (r s : Read A) → Within end r → Within end s → Within end (cond b r s)
within_if true end r s one other = one
within_if false end r s one other = other

within_field : {A : Type 0} (end : ℕ) (input : Input) (r : reading.Read A) → EndsBy end input → Field input.place input.rest r → Within end (in_form (field_of input r))
within_field end input (Ok x) ends here = omega (arith, ends, here)
within_field end input (Err fault) ends here = omega (arith, ends, here)

number_within : (max end : ℕ) (input : Input) → EndsBy end input → Within end (number_of max input)
number_within max end input ends = within_field end input (uint_at max input.place input.rest) ends (uint_field max input.place input.rest)

fixed_within : (count end : ℕ) (input : Input) → EndsBy end input → Within end (fixed_in count input)
fixed_within count end input ends = within_field end input (bytes_at count input.place input.rest) ends (bytes_field count input.place input.rest)

just_within : (n end : ℕ) (input : Input) → EndsBy end input → Within end (just_of n input)
unfolding just_of
just_within n end input ends = within_then end (number_of (2 ^ 64 - 1) input) _ (number_within (2 ^ 64 - 1) end input ends) (λ number here. within_if (number.0 == n) end _ _ here (omega (arith, ends)))

both_within : {A B : Type 0} (one : Input → Read A) (other : Input → Read B) (end : ℕ) (input : Input)
    → ((i : Input) → EndsBy end i → Within end (one i)) → ((i : Input) → EndsBy end i → Within end (other i)) → EndsBy end input → Within end (both_of one other input)
unfolding both_of
both_within one other end input first second ends = within_then end (one input) _ (first input ends) (λ a here. within_then end (other a.1) _ (second a.1 here) (λ b there. there))

head_within : (end : ℕ) (input : Input) → EndsBy end input → Within end (head_in input)
unfolding head_in
head_within end input ends =
    within_then end _ _ (number_within _ end input ends) (λ fork a. within_then end _ _ (number_within _ end fork.1 a) (λ blocks b. within_then end _ _ (fixed_within 64 end blocks.1 b) (λ signature c. c)))

twig_within : (end : ℕ) (input : Input) → EndsBy end input → Within end (twig_in input)
unfolding twig_in
twig_within end input ends = within_then end _ _ (number_within _ end input ends) (λ size a. within_then end _ _ (fixed_within 32 end size.1 a) (λ hash b. b))

nodes_within : (numbers : List ℕ) (end : ℕ) (input : Input) → EndsBy end input → Within end (nodes_in numbers input)
unfolding nodes_in
nodes_within [] end input ends = ends
nodes_within (index ∷ numbers) end input ends = within_then end (twig_in input) _ (twig_within end input ends) (λ twig a. within_then end (nodes_in numbers twig.1) _ (nodes_within numbers end twig.1 a) (λ others b. b))

roots_within : (blocks end : ℕ) (input : Input) → EndsBy end input → Within end (roots_in blocks input)
unfolding roots_in
roots_within blocks end input ends = within_then end _ _ (just_within _ end input ends) (λ count a. nodes_within _ end count.1 a)

header_within : (end : ℕ) (input : Input) → EndsBy end input → Within end (header_in input)
unfolding header_in
header_within end input ends =
    within_then end _ _ (just_within _ end input ends) (λ version a.
    within_then end _ _ (fixed_within 32 end version.1 a) (λ id b.
    within_then end _ _ (head_within end id.1 b) (λ head c.
    within_then end _ _ (roots_within head.0.length end head.1 c) (λ roots d.
    within_then end _ _ (fixed_within 32 end roots.1 d) (λ bits e. e)))))

index_within : (least end : ℕ) (input : Input) → EndsBy end input → Within end (index_in least input)
unfolding index_in
index_within least end input ends = within_then end _ _ (number_within _ end input ends) (λ index here. within_if (nat_le least index.0) end _ _ here (omega (arith, ends)))

record_within : (least end : ℕ) (input : Input) → EndsBy end input → Within end (record_in least input)
unfolding record_in
record_within least end input ends = within_then end _ _ (index_within least end input ends) (λ index a. within_then end _ _ (twig_within end index.1 a) (λ twig b. b))

rising_within : (count least end : ℕ) (input : Input) → EndsBy end input → Within end (rising_in count least input)
unfolding rising_in
rising_within zero least end input ends = ends
rising_within (suc count) least end input ends = within_then end (record_in least input) _ (record_within least end input ends) (λ node a. within_then end (rising_in count (suc node.0.index) node.1) _ (rising_within count (suc node.0.index) end node.1 a) (λ others b. b))

records_within : (end : ℕ) (input : Input) → EndsBy end input → Within end (records_in input)
unfolding records_in
records_within end input ends = within_then end _ _ (number_within _ end input ends) (λ count a. rising_within count.0 0 end count.1 a)

pair_within : (end : ℕ) (input : Input) → EndsBy end input → Within end (pair_of input)
pair_within end input ends = both_within small_of small_of end input (λ i a. number_within _ end i a) (λ i a. number_within _ end i a) ends

made_within : {A : Type 0} (commit : A → Commit) (end : ℕ) (r : Read A) → Within end r → Within end (made commit r)
made_within commit end (Ok x) here = here
made_within commit end (Err bad) here = here

numbers_within : (kind end : ℕ) (input : Input) → EndsBy end input → Within end (numbers_in kind input)
unfolding numbers_in
numbers_within kind end input ends =
    let number : Within end (small_of input) = number_within MAX_NUMBER end input ends in
    let pair : Within end (pair_of input) = pair_within end input ends in
    let three : Within end (both_of small_of pair_of input) = both_within small_of pair_of end input (λ i a. number_within MAX_NUMBER end i a) (λ i a. pair_within end i a) ends in
    let four : Within end (both_of pair_of pair_of input) = both_within pair_of pair_of end input (λ i a. pair_within end i a) (λ i a. pair_within end i a) ends in
    let append = made Append (small_of input) in
    let truncate = made (λ x. Truncate x.0 x.1) (pair_of input) in
    let clear = made (λ x. Clear x.0 x.1) (pair_of input) in
    let fetch = made Fetch (small_of input) in
    let upgrade = made Upgrade (small_of input) in
    let upgrade_fetch = made (λ x. UpgradeFetch x.0 x.1) (pair_of input) in
    let reorg = made (λ x. Reorg x.0 x.1.0 x.1.1) (both_of small_of pair_of input) in
    let reorg_fetch = made (λ x. ReorgFetch x.0.0 x.0.1 x.1.0 x.1.1) (both_of pair_of pair_of input) in
    let from_6 = cond (kind == REORG) reorg reorg_fetch in
    let from_5 = cond (kind == UPGRADE_FETCH) upgrade_fetch from_6 in
    let from_4 = cond (kind == UPGRADE) upgrade from_5 in
    let from_3 = cond (kind == FETCH) fetch from_4 in
    let from_2 = cond (kind == CLEAR) clear from_3 in
    let from_1 = cond (kind == TRUNCATE) truncate from_2 in
    let in_6 : Within end from_6 = within_if (kind == REORG) end reorg reorg_fetch (made_within (λ x. Reorg x.0 x.1.0 x.1.1) end _ three) (made_within (λ x. ReorgFetch x.0.0 x.0.1 x.1.0 x.1.1) end _ four) in
    let in_5 : Within end from_5 = within_if (kind == UPGRADE_FETCH) end upgrade_fetch from_6 (made_within (λ x. UpgradeFetch x.0 x.1) end _ pair) in_6 in
    let in_4 : Within end from_4 = within_if (kind == UPGRADE) end upgrade from_5 (made_within Upgrade end _ number) in_5 in
    let in_3 : Within end from_3 = within_if (kind == FETCH) end fetch from_4 (made_within Fetch end _ number) in_4 in
    let in_2 : Within end from_2 = within_if (kind == CLEAR) end clear from_3 (made_within (λ x. Clear x.0 x.1) end _ pair) in_3 in
    let in_1 : Within end from_1 = within_if (kind == TRUNCATE) end truncate from_2 (made_within (λ x. Truncate x.0 x.1) end _ pair) in_2 in
    within_if (kind == APPEND) end append from_1 (made_within Append end _ number) in_1

commit_within : (end : ℕ) (input : Input) → EndsBy end input → Within end (commit_in input)
unfolding commit_in
commit_within end input ends = within_then end _ _ (number_within _ end input ends) (λ kind a. numbers_within kind.0 end kind.1 a)

entry_within : (end : ℕ) (input : Input) → EndsBy end input → Within end (entry_in input)
unfolding entry_in
entry_within end input ends =
    within_then end _ _ (commit_within end input ends) (λ commit a. within_then end _ _ (head_within end commit.1 a) (λ head b. within_then end _ _ (records_within end head.1 b) (λ records c. c)))

-- ---- a whole payload

abbrev BadBy : {A : Type 0} → ℕ → Result A BadForm → Type 0
BadBy end (Ok x) = ⊤
BadBy end (Err bad) = bad.at ≤ end

alone_bad : {A : Type 0} (value : A) (end : ℕ) (input : Input) (b : Bool) → EndsBy end input → BadBy end (cond b (Err (record { at = input.place })) (Ok value))
alone_bad value end input true ends = omega (arith, ends)
alone_bad value end input false ends = tt

whole_bad : {A : Type 0} (end : ℕ) (r : Read A) → Within end r → BadBy end (r >>= λ x. alone x.0 x.1)
whole_bad end (Ok x) here = alone_bad x.0 end x.1 (nat_lt 0 (length x.1.rest)) here
whole_bad end (Err bad) here = here

bad_of_whole : {A : Type 0} (end : ℕ) (r : Result A BadForm) (bad : BadForm) → BadBy end r → r ≡ Err bad → bad.at ≤ end
bad_of_whole end r bad within is = subst (BadBy end) is within

pub header_bad : (bytes : List ℕ) (bad : BadForm) → header_of bytes ≡ Err bad → bad.at ≤ length bytes
header_bad bytes bad is = bad_of_whole (length bytes) (header_of bytes) bad (whole_bad (length bytes) (header_in (unread bytes)) (header_within (length bytes) (unread bytes) (omega arith))) is

pub entry_bad : (bytes : List ℕ) (bad : BadForm) → entry_of bytes ≡ Err bad → bad.at ≤ length bytes
entry_bad bytes bad is = bad_of_whole (length bytes) (entry_of bytes) bad (whole_bad (length bytes) (entry_in (unread bytes)) (entry_within (length bytes) (unread bytes) (omega arith))) is
