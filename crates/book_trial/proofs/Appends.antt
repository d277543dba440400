-- An append to the toy.
use Rattle.std.proofs.Common.{◌≡◌, ℕ, ◌+◌, ◌-◌, ◌^◌, ◌<◌, ◌≤◌, ◌==◌, ◌&&◌, true, false, not, cond, List, [], ◌∷◌, ◌++◌, length, sym, ap, ◌∙◌, subst, arith}
use Rattle.std.proofs.lemmas.Bool.Decides.{nat_tests}
use Rattle.commit_book.specs.declared.commit.Commit.TheVariants.{Append as AppendCommit}
use Rattle.commit_book.specs.declared.commit.Entry.{Entry}
use Rattle.commit_book.specs.History.{Summary, PassState, IsPrefix, entry_of, replay, IsLegal}
use Rattle.commit_book.proofs.HistoryLemmas.{replay-append, IsLegal-push}
use Rattle.book_trial.specs.declared.event.Event.TheVariants.{Append}
use Rattle.book_trial.specs.declared.event.Reply.TheVariants.{Length, Refused, BookFull}
use Rattle.book_trial.specs.declared.toy.TheConstants.{MAX_LENGTH}
use Rattle.book_trial.specs.Turns.{toy_limits, may_append, entries_of, reply_of, Turned}

module _ (start : Summary) (count : ℕ) (root : List ℕ) (before : List Entry) (legal : IsLegal toy_limits start before)
    (some : 1 ≤ count) (within : (replay start before).length + count ≤ MAX_LENGTH) where
  abbrev pub entry : Entry
  entry = entry_of (AppendCommit count) root

  pub longer : (replay start (before ++ entry ∷ [])).length ≡ (replay start before).length + count
  longer = ap (λ (s : Summary). s.length) (replay-append start before (entry ∷ []))

  pub stays_legal : IsLegal toy_limits start (before ++ entry ∷ [])
  stays_legal = IsLegal-push toy_limits start before entry legal ((some, within), tt)

  may : may_append count (replay start before) ≡ true
  may = grind (arith, nat_tests)

  module _ (room : length before < 2 ^ 64 - 1) where
    not_full : (length before == 2 ^ 64 - 1) ≡ false
    not_full = grind (arith, nat_tests)

    adds : entries_of start (Append count root) before ≡ entry ∷ []
    adds = λ i. cond (may i && not (not_full i)) (entry ∷ []) []

    answers : reply_of start (Append count root) before ≡ Length ((replay start before).length + count)
    answers = λ i. cond (may i) (cond (not_full i) BookFull (Length ((replay start before).length + count))) Refused

    pub turned : (old new : PassState) (n : ℕ) → IsPrefix old.seen before → old.news ≤ length before
        → new.seen ≡ before ++ entry ∷ [] → new.made ≡ old.made ++ entry ∷ [] → n ≡ (replay start before).length + count
        → Turned start (Append count root) old new (Length n)
    turned old new n begins told seen made is = record {
      before = before;
      begins = begins;
      told = told;
      seen = seen ∙ ap (λ es. before ++ es) (sym adds);
      made = made ∙ ap (λ es. old.made ++ es) (sym adds);
      answer = ap Length is ∙ sym answers;
      legal = subst (IsLegal toy_limits start) (sym seen) stays_legal;
    }
