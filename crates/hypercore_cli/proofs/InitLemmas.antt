-- What making the core of a name comes to, by what the shelf then has.
use Rattle.std.proofs.Common.{◌≡◌, ℕ, Bool, true, List, Ok, Err, inl, inr, refl, sym, ◌∙◌, subst}
use Rattle.std.specs.Prelude.{IsTrue, IsErrOf}
use Rattle.std.proofs.lemmas.Bool.{false_from_ne_true}
use Rattle.outside_traits.specs.Faults.{Rose}
use Rattle.disk_trait.specs.Disk.{DiskView, MayStay}
use Rattle.node_set.specs.declared.fault.CoreFault.{CoreFault}
use Rattle.node_set.specs.declared.fault.CoreFault.TheVariants.{Memory, StoreFault}
use Rattle.node_set.specs.Contents.{start}
use Rattle.core_state.specs.Handing.{SameDisk}
use Rattle.core_disk.specs.Firm.{StandsFirmly}
use Rattle.core_disk.specs.Cored.{Cored, disk_under}
use Rattle.core_disk.specs.Handed.{IsMadeOn, IsMakeFault}
use Rattle.core_disk.proofs.StandingDisks.{firmly, same_firmly}
use Rattle.core_shelf.specs.declared.fault.NamedFault.{NamedFault}
use Rattle.core_shelf.specs.declared.fault.NamedFault.TheVariants.{NoCore, CoreExists, Core}
use Rattle.core_shelf.specs.Shelf.{ShelfView, Gives}
use Rattle.core_shelf.specs.Named.{Stays, TakesOut, Makes, RefusesOr, IsRefused}
use Rattle.hypercore_cli.specs.Faults.{named_end}
use Rattle.hypercore_cli.specs.Cores.{NamedCore, WasUnlisted}
use Rattle.hypercore_cli.specs.Inits.{IsNew, MayBeNew, KeepsListed, RefusesInit}
use Rattle.hypercore_cli.proofs.OpenedCores.{err_same}

module _ {D A : Type 0} (disk : D → DiskView) (authority : A → List ℕ → List ℕ → Bool) (c : NamedCore)
    (tells : IsTrue c.old.honest → IsTrue (c.old.disk c.id).honest) (stays : (d : D) → IsTrue (disk d).honest → MayStay (disk d)) where
  -- a core that was made on the id's disk, which is where that disk now is, stands for the content without blocks
  stands_new : (store : D) (core : Cored D A) → IsMadeOn disk authority c.accepts c.id (disk store) core → IsTrue c.old.honest
      → SameDisk (c.old.disk c.id) (disk store) → SameDisk (disk_under disk core) (c.new.disk c.id) → StandsFirmly c.accepts c.id (c.new.disk c.id) start
  stands_new store core made honest was here =
      let told = was.honest ∙ tells honest in
      let now = made.honest ∙ told in
      same_firmly _ _ _ _ start here (firmly _ _ _ core.place start now (stays core.store.disk now) (made.firm told))

  -- a core was made and closed
  pub is_new : (mid : ShelfView) (core : Cored D A) → mid.honest ≡ c.old.honest
      → TakesOut disk (disk_under disk) (IsMadeOn disk authority c.accepts c.id) c.id c.old mid core
      → (IsTrue c.old.honest → IsRefused {C = Cored D A} CoreExists (c.old.marked c.id ≡ true) (Ok core))
      → (IsTrue c.old.honest → mid.marked c.id ≡ true) → (IsTrue mid.honest → Gives (disk_under disk core) c.id mid c.new) → IsNew c
  is_new mid core same taken refused marked gives = record {
    was = λ honest. false_from_ne_true (c.old.marked c.id) (λ yes. let never : Ok core ≡ Err CoreExists = (refused honest).1 (yes, λ (e : Ok core ≡ Err (Core StoreFault)). absurd cc) in absurd cc);
    marked = λ honest. (gives (same ∙ honest)).list c.id ∙ marked honest;
    stands = λ honest. stands_new taken.store core taken.says honest (taken.was honest) (gives (same ∙ honest)).here;
  }

  -- none was made: why, and what the list and the disk then have
  makes_why : (fault : CoreFault) → Makes {C = Cored D A} disk (disk_under disk) (IsMadeOn disk authority c.accepts c.id) (λ old f new. IsMakeFault f) c.id c.old c.new (Err fault)
      → IsMakeFault fault
  makes_why fault told = elim told [
    | inl at_once ↦ elim at_once.why [ inl store ↦ inr store | inr memory ↦ inl memory ]
    | inr (inl back) ↦ back.says
    | inr (inr not) ↦ elim not.why [ inl store ↦ inr store | inr memory ↦ inl memory ]
  ]

  may_be_new : (fault : CoreFault) → Makes {C = Cored D A} disk (disk_under disk) (IsMadeOn disk authority c.accepts c.id) (λ old f new. IsMakeFault f) c.id c.old c.new (Err fault)
      → MayBeNew c
  may_be_new fault told = elim told [
    | inl at_once ↦ inl (λ honest. (at_once.stays honest).list)
    | inr (inl back) ↦ inl back.list
    | inr (inr not) ↦ inr (λ honest. stands_new not.store not.core not.says honest (not.was honest) (not.here honest))
  ]

  -- another answer than that the core is listed tells that it wasn't
  unlisted : (fault : NamedFault) → ((fault ≡ CoreExists) → ⊥) → ((fault ≡ Core StoreFault) → ⊥)
      → (IsTrue c.old.honest → IsRefused {C = Cored D A} CoreExists (c.old.marked c.id ≡ true) (Err fault)) → WasUnlisted c
  unlisted fault other kept refused honest =
      false_from_ne_true (c.old.marked c.id) (λ yes. other (err_same fault CoreExists ((refused honest).1 (yes, λ same. kept (err_same fault (Core StoreFault) same)))))

  -- none was made
  pub refuses_init : (fault : NamedFault)
      → RefusesOr {C = Cored D A} CoreExists (IsTrue c.old.honest → Stays c.id c.old c.new)
      (Makes disk (disk_under disk) (IsMadeOn disk authority c.accepts c.id) (λ old f new. IsMakeFault f) c.id c.old c.new) (Err fault)
      → (IsTrue c.old.honest → IsRefused {C = Cored D A} CoreExists (c.old.marked c.id ≡ true) (Err fault))
      → (IsErrOf {T = Cored D A} (Err fault) (Core StoreFault) → Rose c.old.faults c.new.faults) → KeepsListed c → RefusesInit c (named_end fault)
  refuses_init NoCore told refused cause kept = let never = told.0 in absurd cc
  refuses_init CoreExists told refused cause kept = (λ honest. ((refused honest).0 refl).0, told.1)
  refuses_init (Core fault) told refused cause kept = elim (makes_why fault told) [
    | inl memory ↦ subst (λ f. RefusesInit c (named_end (Core f))) (sym memory) (
      unlisted (Core Memory) (λ e. cc) (λ e. cc) (subst (λ f. IsTrue c.old.honest → IsRefused {C = Cored D A} CoreExists (c.old.marked c.id ≡ true) (Err (Core f))) memory refused),
      may_be_new fault told,
    )
    | inr store ↦ subst (λ f. RefusesInit c (named_end (Core f))) (sym store)
        (cause (subst (λ f. IsErrOf {T = Cored D A} (Err (Core f)) (Core StoreFault)) (sym store) refl), may_be_new fault told, kept)
  ]
