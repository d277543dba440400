-- Which entries are fit to be written.
use Rattle.std.proofs.Common.{◌≡◌, Bool, true, List, Some, sym, subst}
use Rattle.std.specs.Prelude.{◌↔◌, IsTrue}
use Rattle.commit_book.specs.History.{entry_of, KeepsRoot}
use Rattle.merkle_nodes.specs.declared.node.Node.{Node}
use Rattle.merkle_nodes.specs.Roots.{root_hash_of}
use Rattle.oplog_form.specs.declared.entry.Entry.{Entry}
use Rattle.core_disk.specs.Opened.{Opened, short_of}
use Rattle.core_disk.specs.InHand.{NextRoots}
use Rattle.core_disk.specs.Committing.{IsFit}

-- an entry is fit where the roots after it pass the test of their hash
module _ (e : Entry) (o : Opened) (roots was : List Node) (next : NextRoots o e (Some roots)) (own : o.roots ≡ was) (passes : Bool)
    (test : (one : Opened) → one.roots ≡ was → IsTrue passes ↔ KeepsRoot (entry_of e.commit (root_hash_of roots)) (short_of one)) where
  pub fit_passed : passes ≡ true → IsFit e o
  fit_passed is = record {
    follow = next.0;
    same_root = subst (λ (ns : List Node). KeepsRoot (entry_of e.commit (root_hash_of ns)) (short_of o)) next.1 ((test o own).0 is);
  }

  pub fit_passes : IsFit e o → passes ≡ true
  fit_passes fit = (test o own).1 (subst (λ (ns : List Node). KeepsRoot (entry_of e.commit (root_hash_of ns)) (short_of o)) (sym next.1) fit.same_root)
