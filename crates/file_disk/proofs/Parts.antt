-- Two writes in a row, each of a part of the bytes, are one write of them.
use Rattle.std.proofs.Common.{◌≡◌, ◌⊎◌, inl, inr, ℕ, ◌+◌, ◌-◌, ◌<◌, ◌≤◌, List, [], ◌∷◌, ◌++◌, length, take, drop, replicate, sym, ◌∙◌, ap, subst, arith, length-append, length-drop, append_assoc}
use Rattle.std.proofs.lemmas.List.{append-nil, length-replicate, length-take, length-take-le, drop-drop}
use Rattle.std.proofs.lemmas.Slice.{drop-append-drop}
use Rattle.std.proofs.Math.Seq.{take-add, take-append_seam, drop-append_seam}
use Rattle.disk_trait.specs.declared.disk.Area.{Area}
use Rattle.disk_trait.specs.Disk.{DiskView, overlay, Torn, Elapses, Rests, Goes, Touches, Keeps}
use Rattle.disk_trait.proofs.Runs.{elapses_on}

le_or_lt : (m n : ℕ) → (m ≤ n) ⊎ (n < m)
le_or_lt m n = search (arith)

-- a write that was cut short, and then one of the rest that was cut short, are one that was
pub torn_on : (at n k m : ℕ) (old mid new : List ℕ) → k + m ≡ n → Torn at n old mid → Torn (at + k) m mid new → Torn at n old new
torn_on at n k m old mid new all first second = record {
  no_shorter = omega (arith, first.no_shorter, second.no_shorter);
  no_longer = omega (arith, all, first.no_longer, second.no_longer);
  front = λ i before within.
      second.front i (omega (arith, before)) (omega (arith, within, first.no_shorter)) ∙ first.front i before within;
  rest =
      let end : at + n ≡ at + k + m = omega (arith, all) in
      ap (λ (j : ℕ). drop j new) end ∙ second.rest ∙ ap (λ (j : ℕ). drop j mid) (sym end) ∙ first.rest;
}

-- one area goes by a step and then by another, which together are a third
module _ (R S T : List ℕ → List ℕ → Type 0) (one : (a b : List ℕ) → R a b → T a b) (both : (a b c : List ℕ) → R a b → S b c → T a c) (area : Area) (old mid new : DiskView) where
  goes_on : Elapses old mid → Elapses mid new → Goes R area old mid → Goes S area mid new → Goes T area old new
  goes_on early late first second = record {
    reads = both _ _ _ first.reads second.reads;
    images = λ t c from to image. elim (le_or_lt t mid.moment) [
      | inl le ↦
          let was = first.images t c from le ((late.past t area c le).0 image) in
          (was.0, was.1, one _ _ was.2)
      | inr lt ↦
          let then = second.images t c (omega (arith, lt)) to image in
          let was = first.images mid.moment then.0 early.later (omega arith) then.1 in
          (was.0, was.1, both _ _ _ was.2 then.2)
    ];
  }

  rests_on : (other : Area) → Elapses old mid → Elapses mid new → Rests other old mid → Rests other mid new → Rests other old new
  rests_on other early late first second = record {
    reads = second.reads ∙ first.reads;
    images = λ t c from to image. elim (le_or_lt t mid.moment) [
      | inl le ↦ first.images t c from le ((late.past t other c le).0 image)
      | inr lt ↦ first.images mid.moment c early.later (omega arith) (second.images t c (omega (arith, lt)) to image)
    ];
  }

  pub touches_on : Touches R area old mid → Touches S area mid new → Touches T area old new
  touches_on first second = record {
    time = elapses_on old mid new first.time second.time;
    here = goes_on first.time second.time first.here second.here;
    others = λ other apart. rests_on other first.time second.time (first.others other apart) (second.others other apart);
  }

-- what keeps each area touches this one by any relation that stays in place
pub keeps_touches : (R : List ℕ → List ℕ → Type 0) (area : Area) (old new : DiskView) → ((d : List ℕ) → R d d) → Keeps old new → Touches R area old new
keeps_touches R area old new none keeps = record {
  time = keeps.time;
  here = record {
    reads = subst (λ (x : List ℕ). R (old.reads area) x) (sym (keeps.each area).reads) (none (old.reads area));
    images = λ t c from to left. (c, (keeps.each area).images t c from to left, none c);
  };
  others = λ other apart. keeps.each other;
}

-- the parts of a write touch its area as the write does
pub torn_touches : (at n k m : ℕ) (area : Area) (old mid new : DiskView) → k + m ≡ n
    → Touches (Torn at n) area old mid → Touches (Torn (at + k) m) area mid new → Touches (Torn at n) area old new
torn_touches at n k m area old mid new all = touches_on (Torn at n) (Torn (at + k) m) (Torn at n) (λ a b torn. torn) (λ a b c first second. torn_on at n k m a b c all first second) area old mid new

-- some bytes laid over an area
module _ (at x : ℕ) (xs old : List ℕ) where
  abbrev gap : List ℕ
  gap = take at old ++ replicate (at - length old) 0

  abbrev front : List ℕ
  front = gap ++ (x ∷ xs)

  length-front : length front ≡ at + length (x ∷ xs)
  length-front = omega (arith, length-append gap (x ∷ xs), length-append (take at old) (replicate (at - length old) 0), length-take at old, length-replicate {A = ℕ} (at - length old) 0)

  abbrev laid : List ℕ
  laid = front ++ drop (at + length (x ∷ xs)) old

  -- and then more of them behind those
  overlay-more : (y : ℕ) (ys : List ℕ) → overlay (at + length (x ∷ xs)) (y ∷ ys) laid ≡ overlay at ((x ∷ xs) ++ (y ∷ ys)) old
  overlay-more y ys =
      let k = at + length (x ∷ xs) in
      let m = k + length (y ∷ ys) in
      let fits : k - length laid ≡ 0 = omega (arith, length-front, length-append front (drop k old)) in
      let end : m ≡ at + length ((x ∷ xs) ++ (y ∷ ys)) = omega (arith, length-append (x ∷ xs) (y ∷ ys)) in
      let head : take k laid ≡ front = ap (λ (j : ℕ). take j laid) (sym length-front) ∙ take-append_seam front (drop k old) in
      ap (λ (l : List ℕ). l ++ replicate (k - length laid) 0 ++ (y ∷ ys) ++ drop m laid) head
      ∙ ap (λ (n : ℕ). front ++ replicate n 0 ++ (y ∷ ys) ++ drop m laid) fits
      ∙ ap (λ (l : List ℕ). l ++ (y ∷ ys) ++ drop m laid) (append-nil front)
      ∙ ap (λ (l : List ℕ). front ++ (y ∷ ys) ++ l) (drop-append-drop k old front m (omega arith) length-front)
      ∙ ap (λ (l : List ℕ). l ++ drop m old) (append_assoc gap (x ∷ xs) (y ∷ ys))
      ∙ ap (λ (n : ℕ). gap ++ ((x ∷ xs) ++ (y ∷ ys)) ++ drop n old) end

-- two writes in a row, the second from where the first ends, read as one
pub overlay-append : (at k : ℕ) (xs ys old : List ℕ) → length xs ≡ k → overlay (at + k) ys (overlay at xs old) ≡ overlay at (xs ++ ys) old
overlay-append at k [] ys old e = ap (λ (j : ℕ). overlay j ys old) (omega (arith, e))
overlay-append at k (x ∷ xs) [] old e = ap (λ (bytes : List ℕ). overlay at bytes old) (sym (append-nil (x ∷ xs)))
overlay-append at k (x ∷ xs) (y ∷ ys) old e = ap (λ (j : ℕ). overlay (at + j) (y ∷ ys) (laid at x xs old)) (sym e) ∙ overlay-more at x xs old y ys

-- the first bytes of these written, and then the first of the rest, are the first of these
pub overlay-parts : (at k n : ℕ) (bytes old mid new : List ℕ) → k ≤ length bytes
    → mid ≡ overlay at (take k bytes) old → new ≡ overlay (at + k) (take n (drop k bytes)) mid → new ≡ overlay at (take (k + n) bytes) old
overlay-parts at k n bytes old mid new within first second =
    second
    ∙ ap (λ (l : List ℕ). overlay (at + k) (take n (drop k bytes)) l) first
    ∙ overlay-append at k (take k bytes) (take n (drop k bytes)) old (length-take-le k bytes within)
    ∙ ap (λ (l : List ℕ). overlay at l old) (sym (take-add k n bytes))

-- two reads in a row, the second from where the first ended, give what one gives
pub read-parts : (at k n : ℕ) (area old mid new : List ℕ) → k + n ≤ length old → k ≤ length area - at
    → mid ≡ take k (drop at area) ++ drop k old → new ≡ take k mid ++ (take n (drop (at + k) area) ++ drop n (drop k mid))
    → new ≡ take (k + n) (drop at area) ++ drop (k + n) old
read-parts at k n area old mid new within there first second =
    let front = take k (drop at area) in
    let long : length front ≡ k = length-take-le k (drop at area) (omega (arith, there, length-drop at area)) in
    let head : take k mid ≡ front = ap (λ (l : List ℕ). take k l) first ∙ ap (λ (j : ℕ). take j (front ++ drop k old)) (sym long) ∙ take-append_seam front (drop k old) in
    let rest : drop k mid ≡ drop k old = ap (λ (l : List ℕ). drop k l) first ∙ ap (λ (j : ℕ). drop j (front ++ drop k old)) (sym long) ∙ drop-append_seam front (drop k old) in
    second
    ∙ ap (λ (l : List ℕ). l ++ (take n (drop (at + k) area) ++ drop n (drop k mid))) head
    ∙ ap (λ (l : List ℕ). front ++ (take n (drop (at + k) area) ++ drop n l)) rest
    ∙ sym (append_assoc front (take n (drop (at + k) area)) (drop n (drop k old)))
    ∙ ap (λ (l : List ℕ). front ++ take n l ++ drop n (drop k old)) (sym (drop-drop k at area))
    ∙ ap (λ (l : List ℕ). l ++ drop n (drop k old)) (sym (take-add k n (drop at area)))
    ∙ ap (λ (l : List ℕ). take (k + n) (drop at area) ++ l) (drop-drop n k old)
