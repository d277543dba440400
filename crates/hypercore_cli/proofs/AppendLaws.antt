-- How lines are appended to a core, call by call, and how that ends.
use Rattle.std.proofs.Common.{◌≡◌, ◌≢◌, ℕ, ◌+◌, ◌<◌, Bool, true, false, List, [], ◌∷◌, ◌++◌, length, take, Ok, Err, refl, sym, ap, ◌∙◌, subst, arith, length-append}
use Rattle.outside_traits.specs.Streams.{SourceView}
use Rattle.outside_traits.specs.Lines.{LinesView, IsOpen, HasNoFeed, lines_of}
use Rattle.outside_traits.specs.declared.lines.LineFault.TheVariants.{Failed, TooLong}
use Rattle.flat_tree.specs.declared.limits.TheConstants.{MAX_BLOCKS, MAX_BLOCK_BYTES, MAX_BATCH_BLOCKS}
use Rattle.disk_trait.specs.Disk.{DiskView}
use Rattle.node_set.specs.declared.fault.CoreFault.{CoreFault}
use Rattle.node_set.specs.declared.fault.CoreFault.TheVariants.{Memory, StoreFault}
use Rattle.core_disk.specs.Cored.{Cored, shown}
use Rattle.hypercore_cli.specs.Logs.{fresh_lines}
use Rattle.hypercore_cli.specs.Batches.{batches_of, closed_of, last_of}
use Rattle.hypercore_cli.specs.Appends.{Commits, AppendsTo, closed_by, opened_by, TakesLine}
use Rattle.hypercore_cli.specs.declared.batches.AppendFault.TheVariants.{ReadFault, TooLong as LineTooLong, Core}
use Rattle.hypercore_cli.proofs.BatchLemmas.{HasCut, HasCut-none, HasCut-line, HasCut-end, HasCut-closed, all_first}
use Rattle.hypercore_cli.proofs.CommitLaws.{Grows-length, Commits-none, Commits-then, Commits-no_memory}
use Rattle.outside_traits.specs.LineCalls.{Calls}
use Rattle.hypercore_cli.proofs.LineReads.{Meets, Meets-none, Meets-next, ReadsAll-end, HasMet-refused, HasTaken-now, AreFirst-now}

module _ {D A : Type 0} (disk : D → DiskView) (accepts : A → List ℕ → List ℕ → Bool) where
  -- so far these lines were met; the batches that they close were committed, and one is open
  pub record Appends (first now : SourceView) (core core_now : Cored D A) (lines : LinesView) (batch : List (List ℕ)) (count : ℕ) : Type 0 where
    pub met : List (List ℕ)
    pub closed : List (List (List ℕ))
    pub meets : Meets first now lines met
    pub cut : HasCut met closed batch
    pub commits : Commits disk accepts closed core core_now (Ok tt)
    pub counted : length met ≡ count

  pub Appends-none : (source : SourceView) (core : Cored D A) (lines : LinesView) → lines ≡ fresh_lines → Appends source source core core lines [] 0
  Appends-none source core lines fresh =
      record { met = []; closed = []; meets = Meets-none source lines fresh; cut = HasCut-none; commits = Commits-none disk accepts core; counted = refl }

  module _ (first now next_source : SourceView) (core mid core_now : Cored D A) (lines next : LinesView) (batch : List (List ℕ)) (count : ℕ)
      (appends : Appends first now core mid lines batch count) where
    -- one line more was taken in
    pub Appends-line : (batch_now : List (List ℕ)) (u : Unit {0}) → Calls now next_source lines next (Ok true)
        → TakesLine disk accepts mid core_now batch batch_now next.line (Ok u) → Appends first next_source core core_now next batch_now (count + 1)
    Appends-line batch_now u calls takes =
        let more = Meets-next first now next_source lines next appends.met appends.meets calls in
        record {
          met = appends.met ++ next.line ∷ [];
          closed = appends.closed ++ closed_by batch next.line;
          meets = more.0;
          cut = subst (HasCut (appends.met ++ next.line ∷ []) (appends.closed ++ closed_by batch next.line)) (sym takes.opened)
              (HasCut-line appends.met appends.closed batch next.line more.1 appends.cut);
          commits = Commits-then disk accepts core mid core_now appends.closed (closed_by batch next.line) tt (Ok u) appends.commits takes.commits;
          counted = omega (arith, appends.counted, length-append appends.met (next.line ∷ []));
        }

    -- it was not
    pub AppendsTo-line : (batch_now : List (List ℕ)) (fault : CoreFault) → Calls now next_source lines next (Ok true)
        → TakesLine disk accepts mid core_now batch batch_now next.line (Err fault) → AppendsTo disk accepts first next_source core core_now (Err (Core fault))
    AppendsTo-line batch_now fault calls takes =
        let more = Meets-next first now next_source lines next appends.met appends.meets calls in
        let cut = HasCut-line appends.met appends.closed batch next.line more.1 appends.cut in
        let all = appends.closed ++ closed_by batch next.line in (
          more.0.so_far.read,
          next.ended,
          HasTaken-now first next_source next_source next next (appends.met ++ next.line ∷ []) more.0,
          all,
          AreFirst-now first next_source next_source next next (appends.met ++ next.line ∷ []) more.0 all (opened_by batch next.line) cut,
          Commits-then disk accepts core mid core_now appends.closed (closed_by batch next.line) tt (Err fault) appends.commits takes.commits,
        )

    -- the input ended, and the last batch was committed
    pub AppendsTo-end : (u : Unit {0}) → Calls now next_source lines next (Ok false) → Commits disk accepts (last_of batch) mid core_now (Ok u)
        → AppendsTo disk accepts first next_source core core_now (Ok u)
    AppendsTo-end u calls last =
        let all = ReadsAll-end first now next_source lines next appends.met appends.meets calls in
        let batches : appends.closed ++ last_of batch ≡ batches_of (lines_of all.0) =
        sym (HasCut-end appends.met appends.closed batch appends.cut) ∙ ap batches_of all.2 in (
          all.0,
          all.1,
          subst (λ l. Commits disk accepts l core core_now (Ok u)) batches
              (Commits-then disk accepts core mid core_now appends.closed (last_of batch) tt (Ok u) appends.commits last),
        )

    -- or was not
    pub AppendsTo-last : (fault : CoreFault) → Calls now next_source lines next (Ok false) → Commits disk accepts (last_of batch) mid core_now (Err fault)
        → AppendsTo disk accepts first next_source core core_now (Err (Core fault))
    AppendsTo-last fault calls last =
        let all = ReadsAll-end first now next_source lines next appends.met appends.meets calls in
        let batches : appends.closed ++ last_of batch ≡ batches_of (lines_of all.0) =
        sym (HasCut-end appends.met appends.closed batch appends.cut) ∙ ap batches_of all.2 in (
          all.0,
          true,
          record { told = all.1.told; at_end = λ _. all.1.at_end },
          batches_of (lines_of all.0),
          all_first all.0,
          subst (λ l. Commits disk accepts l core core_now (Err fault)) batches
              (Commits-then disk accepts core mid core_now appends.closed (last_of batch) tt (Err fault) appends.commits last),
        )

    -- what was committed are the batches that the lines close
    closed_commits : Commits disk accepts (closed_of appends.met) core mid (Ok tt)
    closed_commits = subst (λ l. Commits disk accepts l core mid (Ok tt)) (sym (HasCut-closed appends.met appends.closed batch appends.cut)) appends.commits

    -- the read failed
    pub AppendsTo-failed : Calls now next_source lines next (Err Failed) → AppendsTo disk accepts first next_source core mid (Err ReadFault)
    AppendsTo-failed calls =
        let cut_off = calls.lines.hands in (
          omega (arith, appends.meets.faults, calls.cause.failed refl),
          appends.met,
          next.ahead,
          HasMet-refused first now next_source lines next appends.met appends.meets (Err Failed) appends.closed batch calls cut_off.ahead appends.cut,
          subst (λ (n : ℕ). IsOpen n next.ahead) (calls.max ∙ appends.meets.max) cut_off.wants.goes_on,
          closed_commits,
        )

    -- the line is too long
    pub AppendsTo-long : Calls now next_source lines next (Err TooLong) → AppendsTo disk accepts first next_source core mid (Err LineTooLong)
    AppendsTo-long calls =
        let long = calls.lines.hands in
        let before = lines.ahead ++ calls.lines.read in
        let max : next.max ≡ MAX_BLOCK_BYTES = calls.max ∙ appends.meets.max in (
          appends.met,
          next.ahead,
          HasMet-refused first now next_source lines next appends.met appends.meets (Err TooLong) appends.closed batch calls long.ahead appends.cut,
          record {
            long = subst (λ (bytes : List ℕ). MAX_BLOCK_BYTES < length bytes) (sym long.ahead) (subst (λ (n : ℕ). n < length before) max long.long);
            no_feed = subst (λ (bytes : List ℕ). HasNoFeed (take (MAX_BLOCK_BYTES + 1) bytes)) (sym long.ahead)
                (subst (λ (n : ℕ). HasNoFeed (take (n + 1) before)) max long.no_feed);
          },
          closed_commits,
        )

  -- the core was to stop behind the batches so far
  stops : (first now : SourceView) (core core_now : Cored D A) (lines : LinesView) (batch : List (List ℕ)) (count : ℕ) (fault : CoreFault)
      → (appends : Appends first now core core_now lines batch count) → Commits disk accepts appends.closed core core_now (Err fault)
      → AppendsTo disk accepts first now core core_now (Err (Core fault))
  stops first now core core_now lines batch count fault appends commits = (
    appends.meets.so_far.read,
    lines.ended,
    HasTaken-now first now now lines lines appends.met appends.meets,
    appends.closed,
    AreFirst-now first now now lines lines appends.met appends.meets appends.closed batch appends.cut,
    commits,
  )

  -- nothing was read, since there was no memory
  pub AppendsTo-no_memory : (source : SourceView) (core : Cored D A) → AppendsTo disk accepts source source core core (Err (Core Memory))
  unfolding Appends-none
  AppendsTo-no_memory source core =
      stops source source core core fresh_lines [] 0 Memory (Appends-none source core fresh_lines refl)
      (Commits-no_memory disk accepts core core [] tt (Commits-none disk accepts core))

  -- no firm core takes so many lines
  pub AppendsTo-endless : (first now : SourceView) (core core_now : Cored D A) (lines : LinesView) (batch : List (List ℕ)) (count : ℕ) (fault : CoreFault)
      → fault ≢ StoreFault → MAX_BLOCKS + MAX_BATCH_BLOCKS < count → Appends first now core core_now lines batch count
      → AppendsTo disk accepts first now core core_now (Err (Core fault))
  AppendsTo-endless first now core core_now lines batch count fault other many appends =
      stops first now core core_now lines batch count fault appends (record {
        keeps = appends.commits.keeps;
        rose = λ e. absurd (other cc);
        firm = λ id firm.
            let has = appends.commits.firm id firm in
            let length_now = Grows-length (accepts core.auth) (shown disk core) appends.closed (shown disk core_now) has.grows in
            absurd (omega (arith, many, appends.counted, appends.cut.count, appends.cut.few, length_now, has.firm.firm.whole.limits.blocks));
      })
