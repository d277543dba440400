-- Frames in front of bytes: when there is none, which one there is, and how one is written.
use Rattle.std.proofs.Common.{◌≡◌, ℕ, ◌+◌, ◌<◌, ◌≤◌, Bool, true, false, cond, List, ◌++◌, length, take, drop, Option, None, Some, refl, sym, ap, ◌∙◌, append_assoc, length-append, arith}
use Rattle.std.proofs.lemmas.Bool.{leb-true, le-leb, and_parts, and_from}
use Rattle.std.proofs.lemmas.List.{take_at, drop_at, take-take, drop-take, drop-drop, length-take-le, length-drop, take-append-drop}
use Rattle.std.proofs.lemmas.Slice.{take-put_mid, drop-put_mid}
use Rattle.std.proofs.lemmas.Slice.Eq.{bytes_eq-Decides}
use Rattle.std.specs.Int.{w32, w64, from_le_bytes}
use Rattle.blake2b_hash.specs.Blake2b.{hash_of}
use Rattle.blake2b_hash.proofs.Hashes.{length_hash_of}
use Rattle.merkle_nodes.specs.Tree.{u64_bytes}
use Rattle.oplog_file.specs.declared.layout.TheConstants.{CHECK_BYTES}
use Rattle.oplog_file.specs.Frames.{Frame, u32_bytes, tail_of, check_of, frame_spelling, frame_from, is_whole, front_of}
use Rattle.oplog_file.specs.Fronts.{payload_in}
use borrow.Rule.Slice.PartMut.{put_mid}

-- ---- which frame is in front

abbrev pub tail_in : ℕ → List ℕ → List ℕ
tail_in count bytes = take (12 + count) (drop 20 bytes)

none_of : (b : Bool) (f : Frame) → (b ≡ true → ⊥) → cond b (Some f) None ≡ None
none_of true f never = absurd (never refl)
none_of false f never = refl

module _ (max : ℕ) (bytes : List ℕ) (count : ℕ) (is : count ≡ from_le_bytes w32 (take 4 bytes)) where
  pub front_by : front_of max bytes ≡ cond (is_whole max count bytes (tail_in count bytes)) (Some (frame_from (tail_in count bytes))) None
  unfolding front_of
  front_by = sym (ap (λ n. cond (is_whole max n bytes (tail_in n bytes)) (Some (frame_from (tail_in n bytes))) None) is)

  whole_parts : is_whole max count bytes (tail_in count bytes) ≡ true → (count ≤ max) × (32 + count ≤ length bytes) × (take CHECK_BYTES (drop 4 bytes) ≡ check_of (tail_in count bytes))
  whole_parts whole =
      let tests = and_parts _ _ whole in
      let within = and_parts _ _ tests.0 in
      (leb-true _ _ within.0, leb-true _ _ within.1, (bytes_eq-Decides _ _).0 tests.1)

  front_none : (is_whole max count bytes (tail_in count bytes) ≡ true → ⊥) → front_of max bytes ≡ None
  front_none never = front_by ∙ none_of (is_whole max count bytes (tail_in count bytes)) (frame_from (tail_in count bytes)) never

  pub front_too_much : max < count → front_of max bytes ≡ None
  front_too_much more = front_none (λ whole. let few : count ≤ max = (whole_parts whole).0 in omega (arith, more, few))

  pub front_missing : length bytes < 32 + count → front_of max bytes ≡ None
  front_missing short = front_none (λ whole. let enough : 32 + count ≤ length bytes = (whole_parts whole).1 in omega (arith, short, enough))

  pub front_unchecked : (take CHECK_BYTES (drop 4 bytes) ≡ check_of (tail_in count bytes) → ⊥) → front_of max bytes ≡ None
  front_unchecked differs = front_none (λ whole. differs (whole_parts whole).2)

  pub front_whole : count ≤ max → 32 + count ≤ length bytes → take CHECK_BYTES (drop 4 bytes) ≡ check_of (tail_in count bytes)
      → front_of max bytes ≡ Some (record { epoch = from_le_bytes w64 (take 8 (drop 20 bytes)); number = from_le_bytes w32 (take 4 (drop 28 bytes)); payload = payload_in count bytes })
  front_whole few enough check =
      let whole : is_whole max count bytes (tail_in count bytes) ≡ true = and_from _ _ (and_from _ _ (le-leb _ _ few) (le-leb _ _ enough)) ((bytes_eq-Decides _ _).1 check) in
      let epoch : take 8 (tail_in count bytes) ≡ take 8 (drop 20 bytes) = take-take 8 (12 + count) (drop 20 bytes) (omega arith) in
      let number : take 4 (drop 8 (tail_in count bytes)) ≡ take 4 (drop 28 bytes) =
      ap (λ n. take 4 (drop 8 (take n (drop 20 bytes)))) (omega arith) ∙ ap (take 4) (drop-take 8 (4 + count) (drop 20 bytes)) ∙ take-take 4 (4 + count) (drop 8 (drop 20 bytes)) (omega arith) ∙ ap (take 4) (drop-drop 8 20 bytes) in
      let payload : drop 12 (tail_in count bytes) ≡ payload_in count bytes = drop-take 12 count (drop 20 bytes) ∙ ap (take count) (drop-drop 12 20 bytes) in
      let frame : List ℕ → List ℕ → List ℕ → Option Frame = λ a b p. Some (record { epoch = from_le_bytes w64 a; number = from_le_bytes w32 b; payload = p }) in
      front_by ∙ ap (λ b. cond b (Some (frame_from (tail_in count bytes))) None) whole
      ∙ ap (λ a. frame a (take 4 (drop 8 (tail_in count bytes))) (drop 12 (tail_in count bytes))) epoch
      ∙ ap (λ b. frame (take 8 (drop 20 bytes)) b (drop 12 (tail_in count bytes))) number
      ∙ ap (λ p. frame (take 8 (drop 20 bytes)) (take 4 (drop 28 bytes)) p) payload

-- ---- a frame is written around its payload

module _ (old e n : List ℕ) (count : ℕ) (room : 32 + count ≤ length old) (e8 : length e ≡ 8) (n4 : length n ≡ 4) where
  numbered : List ℕ
  numbered = put_mid 28 4 (put_mid 20 8 old e) n

  numbered_parts : drop 20 (put_mid 28 4 (put_mid 20 8 old e) n) ≡ e ++ (n ++ drop 32 old)
  numbered_parts =
      let front : take 28 (put_mid 20 8 old e) ≡ take 20 old ++ e = take-put_mid 20 8 old e 28 (omega (arith, e8)) (omega (arith, room)) in
      let rest : drop 4 (drop 28 (put_mid 20 8 old e)) ≡ drop 32 old = drop-drop 4 28 (put_mid 20 8 old e) ∙ drop-put_mid 20 8 old e 32 (omega arith) (omega (arith, room)) e8 in
      ap (λ l. drop 20 (l ++ (n ++ drop 4 (drop 28 (put_mid 20 8 old e))))) front
      ∙ ap (λ l. drop 20 ((take 20 old ++ e) ++ (n ++ l))) rest
      ∙ ap (drop 20) (append_assoc (take 20 old) e (n ++ drop 32 old))
      ∙ drop_at (take 20 old) (e ++ (n ++ drop 32 old)) 20 (length-take-le 20 old (omega (arith, room)))

  pub numbered_tail : take (12 + count) (drop 20 (put_mid 28 4 (put_mid 20 8 old e) n)) ≡ e ++ (n ++ payload_in count old)
  numbered_tail =
      let payload : length (payload_in count old) ≡ count = length-take-le count (drop 32 old) (omega (arith, room, length-drop 32 old)) in
      ap (take (12 + count)) numbered_parts
      ∙ ap (λ l. take (12 + count) (e ++ (n ++ l))) (sym (take-append-drop count (drop 32 old)))
      ∙ ap (λ l. take (12 + count) (e ++ l)) (sym (append_assoc n (payload_in count old) (drop count (drop 32 old))))
      ∙ ap (take (12 + count)) (sym (append_assoc e (n ++ payload_in count old) (drop count (drop 32 old))))
      ∙ take_at (e ++ (n ++ payload_in count old)) (drop count (drop 32 old)) (12 + count) (omega (arith, e8, n4, payload, length-append e (n ++ payload_in count old), length-append n (payload_in count old)))

  module _ (c l : List ℕ) (c16 : length c ≡ 16) (l4 : length l ≡ 4) where
    sealed_parts : l ++ drop 4 (put_mid 4 16 (put_mid 28 4 (put_mid 20 8 old e) n) c) ≡ l ++ (c ++ (e ++ (n ++ drop 32 old)))
    sealed_parts =
        let long : 4 ≤ length (put_mid 28 4 (put_mid 20 8 old e) n) =
        omega (arith, e8, n4, room, ap length numbered_parts, length-drop 20 (put_mid 28 4 (put_mid 20 8 old e) n), length-append e (n ++ drop 32 old)) in
        ap (λ k. l ++ k) (drop_at (take 4 (put_mid 28 4 (put_mid 20 8 old e) n)) (c ++ drop 16 (drop 4 (put_mid 28 4 (put_mid 20 8 old e) n))) 4 (length-take-le 4 (put_mid 28 4 (put_mid 20 8 old e) n) long))
        ∙ ap (λ k. l ++ (c ++ k)) (drop-drop 16 4 (put_mid 28 4 (put_mid 20 8 old e) n) ∙ numbered_parts)

    pub sealed_behind : drop 32 (l ++ drop 4 (put_mid 4 16 (put_mid 28 4 (put_mid 20 8 old e) n) c)) ≡ drop 32 old
    sealed_behind =
        ap (drop 32) sealed_parts
        ∙ ap (λ k. drop 32 (l ++ (c ++ k))) (sym (append_assoc e n (drop 32 old)))
        ∙ ap (λ k. drop 32 (l ++ k)) (sym (append_assoc c (e ++ n) (drop 32 old)))
        ∙ ap (drop 32) (sym (append_assoc l (c ++ (e ++ n)) (drop 32 old)))
        ∙ drop_at (l ++ (c ++ (e ++ n))) (drop 32 old) 32 (omega (arith, e8, n4, c16, l4, length-append l (c ++ (e ++ n)), length-append c (e ++ n), length-append e n))

    pub sealed_front : take (32 + count) (l ++ drop 4 (put_mid 4 16 (put_mid 28 4 (put_mid 20 8 old e) n) c)) ≡ l ++ (c ++ (e ++ (n ++ payload_in count old)))
    sealed_front =
        let payload : length (payload_in count old) ≡ count = length-take-le count (drop 32 old) (omega (arith, room, length-drop 32 old)) in
        let rest = drop count (drop 32 old) in
        let tail = e ++ (n ++ payload_in count old) in
        let parts : e ++ (n ++ drop 32 old) ≡ (e ++ (n ++ payload_in count old)) ++ drop count (drop 32 old) =
        ap (λ k. e ++ (n ++ k)) (sym (take-append-drop count (drop 32 old)))
        ∙ ap (λ k. e ++ k) (sym (append_assoc n (payload_in count old) rest))
        ∙ sym (append_assoc e (n ++ payload_in count old) rest) in
        ap (take (32 + count)) sealed_parts
        ∙ ap (λ k. take (32 + count) (l ++ (c ++ k))) parts
        ∙ ap (λ k. take (32 + count) (l ++ k)) (sym (append_assoc c tail rest))
        ∙ ap (take (32 + count)) (sym (append_assoc l (c ++ tail) rest))
        ∙ take_at (l ++ (c ++ tail)) rest (32 + count) (omega (arith, e8, n4, c16, l4, payload, length-append l (c ++ tail), length-append c tail, length-append e (n ++ payload_in count old), length-append n (payload_in count old)))

-- the numbers, the check and the length are written in front of a payload: that is the frame
pub sealed_frame : (old e n c l : List ℕ) (epoch number count : ℕ) → 32 + count ≤ length old → e ≡ u64_bytes epoch → n ≡ u32_bytes number
    → c ≡ check_of (take (12 + count) (drop 20 (put_mid 28 4 (put_mid 20 8 old e) n))) → l ≡ u32_bytes count
    → take (32 + count) (l ++ drop 4 (put_mid 4 16 (put_mid 28 4 (put_mid 20 8 old e) n) c)) ≡ frame_spelling (record { epoch = epoch; number = number; payload = payload_in count old })
sealed_frame old e n c l epoch number count room e_is n_is c_is l_is =
    let f : Frame = record { epoch = epoch; number = number; payload = payload_in count old } in
    let e8 : length e ≡ 8 = ap length e_is in
    let n4 : length n ≡ 4 = ap length n_is in
    let l4 : length l ≡ 4 = ap length l_is in
    let payload : length (payload_in count old) ≡ count = length-take-le count (drop 32 old) (omega (arith, room, length-drop 32 old)) in
    let tail : e ++ (n ++ payload_in count old) ≡ tail_of f = ap (λ k. k ++ (n ++ payload_in count old)) e_is ∙ ap (λ k. u64_bytes epoch ++ (k ++ payload_in count old)) n_is in
    let check : c ≡ check_of (tail_of f) = c_is ∙ ap check_of (numbered_tail old e n count room e8 n4 ∙ tail) in
    let c16 : length c ≡ 16 = ap length c_is ∙ length-take-le CHECK_BYTES (hash_of (take (12 + count) (drop 20 (put_mid 28 4 (put_mid 20 8 old e) n)))) (omega (arith, length_hash_of (take (12 + count) (drop 20 (put_mid 28 4 (put_mid 20 8 old e) n))))) in
    sealed_front old e n count room e8 n4 c l c16 l4
    ∙ ap (λ k. l ++ (c ++ k)) tail
    ∙ ap (λ k. l ++ (k ++ tail_of f)) check
    ∙ ap (λ k. k ++ (check_of (tail_of f) ++ tail_of f)) (l_is ∙ ap u32_bytes (sym payload))
